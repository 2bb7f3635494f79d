use Rattle.std.proofs.Common.{◌≡◌, ◌∙◌, true, false, ap, sym, rules, Option, None, Some, ℕ}
use Rattle.std.proofs.lemmas.Bool.{cond-false, cond-true}
use Rattle.sidecar_edit.specs.Fields.{count_in, places_in}
use Rattle.sidecar_edit.specs.Gate.{first_breach, is_padded, old_len_of, place_rules}
use Rattle.sidecar_edit.proofs.ReadingLemmas.{counted-rest}
use Rattle.sidecar_edit.proofs.head.counted_breach.Goals as goal

pub returns-in-Some : goal.returns-in-Some
returns-in-Some c =
    let s = c.args.head.now in
    let total : c.is_total.result ≡ true = search rules in
    let new_len : c.is_new_len.result ≡ true = search rules in
    let zeros : c.are_zeros.result ≡ true = search rules in
    let places : first_breach (place_rules (old_len_of s) 32 (count_in s) 0 (places_in s)) ≡ Some c.in-Some.octet
    = ap (λ (old : Option ℕ). first_breach (place_rules old 32 (count_in s) 0 (places_in s))) (sym c.old_len_of.ensures) ∙ sym c.place_breach.ensures ∙ c.in-Some.is in
    sym (counted-rest s (Some c.in-Some.octet) (sym c.is_total.ensures ∙ total) (sym c.is_new_len.ensures ∙ new_len) (sym c.are_zeros.ensures ∙ zeros) places)

pub returns-in-None : goal.returns-in-None
returns-in-None c =
    let s = c.args.head.now in
    let total : c.is_total.result ≡ true = search rules in
    let new_len : c.is_new_len.result ≡ true = search rules in
    let zeros : c.are_zeros.result ≡ true = search rules in
    let padded : c.is_padded.result ≡ false = search rules in
    let places : first_breach (place_rules (old_len_of s) 32 (count_in s) 0 (places_in s)) ≡ None
    = ap (λ (old : Option ℕ). first_breach (place_rules old 32 (count_in s) 0 (places_in s))) (sym c.old_len_of.ensures) ∙ sym c.place_breach.ensures ∙ c.in-None.is in
    sym (counted-rest s None (sym c.is_total.ensures ∙ total) (sym c.is_new_len.ensures ∙ new_len) (sym c.are_zeros.ensures ∙ zeros) places
    ∙ cond-false (is_padded s) None (Some 168) (sym c.is_padded.ensures ∙ padded))

pub returns-in-None-2 : goal.returns-in-None-2
returns-in-None-2 c =
    let s = c.args.head.now in
    let total : c.is_total.result ≡ true = search rules in
    let new_len : c.is_new_len.result ≡ true = search rules in
    let zeros : c.are_zeros.result ≡ true = search rules in
    let padded : c.is_padded.result ≡ true = search rules in
    let places : first_breach (place_rules (old_len_of s) 32 (count_in s) 0 (places_in s)) ≡ None
    = ap (λ (old : Option ℕ). first_breach (place_rules old 32 (count_in s) 0 (places_in s))) (sym c.old_len_of.ensures) ∙ sym c.place_breach.ensures ∙ c.in-None-2.is in
    sym (counted-rest s None (sym c.is_total.ensures ∙ total) (sym c.is_new_len.ensures ∙ new_len) (sym c.are_zeros.ensures ∙ zeros) places
    ∙ cond-true (is_padded s) None (Some 168) (sym c.is_padded.ensures ∙ padded))
