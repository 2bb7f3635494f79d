-- Laws on the places of a record in sequence, and on their rules.
use Rattle.std.proofs.Common.{◌≡◌, ℕ, zero, suc, ◌+◌, ◌-◌, ◌<◌, ◌≤◌, min, Bool, true, false, not, ◌&&◌, ◌||◌, ◌==◌, nat_le, if◌then◌else◌, Option, None, Some, List, [], ◌∷◌, ◌++◌, length, take, drop, get_or, refl, sym, ◌∙◌, ap, arith, add-one, length-drop}
use Rattle.std.proofs.lemmas.Bool.{and_from, cond-false, cond-true, eq-eqb, le-leb}
use Rattle.std.proofs.lemmas.List.{drop_all, drop_min, drop_more, get_or-take, length-take-le}
use Rattle.sidecar_edit.specs.declared.place.Place.{Place}
use Rattle.sidecar_edit.specs.declared.place.TheConstants.{HEAD, KEPT}
use Rattle.sidecar_edit.specs.Fields.{count_in, first_in, last_end, new_len_in, no_place, old_len_in, place_in, places_in, sum_of, used_in, version_in}
use Rattle.sidecar_edit.specs.Gate.{Rule, are_zeros, counted_rules, first_breach, is_joined, is_new_len, is_padded, is_total, old_len_of, place_rules}
use Rattle.mkv_io.specs.Contents.{octets_from}
use Rattle.sidecar_edit.specs.Recovery.{first_place}

-- The place number `k` is the place at its offset.
pub place-is : (s : List ℕ) (k : ℕ) (d : Place) → k < 8 → get_or (places_in s) k d ≡ place_in s k
place-is s zero d below = refl
place-is s (suc zero) d below = refl
place-is s (suc (suc zero)) d below = refl
place-is s (suc (suc (suc zero))) d below = refl
place-is s (suc (suc (suc (suc zero)))) d below = refl
place-is s (suc (suc (suc (suc (suc zero))))) d below = refl
place-is s (suc (suc (suc (suc (suc (suc zero)))))) d below = refl
place-is s (suc (suc (suc (suc (suc (suc (suc zero))))))) d below = refl
place-is s (suc (suc (suc (suc (suc (suc (suc (suc k)))))))) d below = absurd (omega arith)

sum_more : (ps : List Place) (i : ℕ) (d : Place) → i < length ps → sum_of (take (i + 1) ps) ≡ sum_of (take i ps) + (get_or ps i d).len
sum_more [] i d inside = absurd (omega arith)
sum_more (p ∷ ps) zero d inside = omega arith
sum_more (p ∷ ps) (suc i) d inside =
    let more = sum_more ps i d (omega arith) in
    ap (λ n. sum_of (take n (p ∷ ps))) (add-one (suc i)) ∙ ap (λ n. p.len + sum_of (take n ps)) (sym (add-one i)) ∙ omega arith

end_more : (ps : List Place) (from i : ℕ) (d : Place) → i < length ps → last_end from (take (i + 1) ps) ≡ (get_or ps i d).at + (get_or ps i d).len
end_more [] from i d inside = absurd (omega arith)
end_more (p ∷ ps) from zero d inside = refl
end_more (p ∷ ps) from (suc i) d inside =
    ap (λ n. last_end from (take n (p ∷ ps))) (add-one (suc i)) ∙ ap (λ n. last_end (p.at + p.len) (take n ps)) (sym (add-one i)) ∙ end_more ps (p.at + p.len) i d (omega arith)

-- One more place.
pub sum_next : (s : List ℕ) (k : ℕ) → k < 8 → sum_of (take (k + 1) (places_in s)) ≡ sum_of (take k (places_in s)) + (place_in s k).len
sum_next s k below = sum_more (places_in s) k no_place below ∙ ap (λ (p : Place). sum_of (take k (places_in s)) + p.len) (place-is s k no_place below)

pub end_next : (s : List ℕ) (k : ℕ) → k < 8 → last_end 0 (take (k + 1) (places_in s)) ≡ (place_in s k).at + (place_in s k).len
end_next s k below = end_more (places_in s) 0 k no_place below ∙ ap (λ (p : Place). p.at + p.len) (place-is s k no_place below)

-- The bytes after the end of a file that is shorter than the kept bytes.
pub padded_rest : (s : List ℕ) (m : ℕ) → version_in s ≡ 2 → HEAD ≤ length s → m ≡ min (old_len_in s) KEPT → are_zeros (drop m (first_in s)) ≡ is_padded s
padded_rest s m version long is =
    let left = length-drop 168 s in
    let size : length (first_in s) ≡ KEPT = length-take-le KEPT (drop 168 s) (omega arith) in
    let guard : ((version_in s == 2) && nat_le HEAD (length s)) ≡ true = and_from (version_in s == 2) (nat_le HEAD (length s)) (eq-eqb (version_in s) 2 version) (le-leb HEAD (length s) long) in
    let same : drop m (first_in s) ≡ drop (old_len_in s) (first_in s) = ap (λ n. drop n (first_in s)) (is ∙ ap (λ n. min (old_len_in s) n) (sym size)) ∙ drop_min (old_len_in s) (first_in s) in
    ap are_zeros same ∙ sym (ap (λ b. not b || are_zeros (drop (old_len_in s) (first_in s))) guard)

-- The rule of one more place.

pub used_step : (s : List ℕ) (old : Option ℕ) (k n from octet : ℕ) → k < 8 → 0 < n
    → first_breach (place_rules old octet n from (drop k (places_in s)))
    ≡ (if nat_le 1 (place_in s k).len && nat_le from (place_in s k).at && is_joined old from (place_in s k)
    then first_breach (place_rules old (octet + 16) (n - 1) ((place_in s k).at + (place_in s k).len) (drop (k + 1) (places_in s))) else Some octet)
used_step s old k zero from octet below some = absurd (omega arith)
used_step s old k (suc n) from octet below some =
    ap (λ ps. first_breach (place_rules old octet (suc n) from ps)) (drop_more (places_in s) k no_place below ∙ ap (λ (p : Place). p ∷ drop (k + 1) (places_in s)) (place-is s k no_place below))
    ∙ ap (λ m. if nat_le 1 (place_in s k).len && nat_le from (place_in s k).at && is_joined old from (place_in s k)
    then first_breach (place_rules old (octet + 16) m ((place_in s k).at + (place_in s k).len) (drop (k + 1) (places_in s))) else Some octet) (omega arith)

pub unused_step : (s : List ℕ) (old : Option ℕ) (k from octet : ℕ) → k < 8
    → first_breach (place_rules old octet 0 from (drop k (places_in s)))
    ≡ (if ((place_in s k).at == 0) && ((place_in s k).len == 0) then first_breach (place_rules old (octet + 16) 0 from (drop (k + 1) (places_in s))) else Some octet)
unused_step s old k from octet below =
    ap (λ ps. first_breach (place_rules old octet 0 from ps)) (drop_more (places_in s) k no_place below ∙ ap (λ (p : Place). p ∷ drop (k + 1) (places_in s)) (place-is s k no_place below))

-- If a rule is kept, the next ones decide.
pub if_kept : (b : Bool) (rest : Option ℕ) (octet : ℕ) (all : Option ℕ) → all ≡ (if b then rest else Some octet) → b ≡ true → all ≡ rest
if_kept b rest octet all is kept = is ∙ cond-true b rest (Some octet) kept

pub if_broken : (b : Bool) (rest : Option ℕ) (octet : ℕ) (all : Option ℕ) → all ≡ (if b then rest else Some octet) → b ≡ false → all ≡ Some octet
if_broken b rest octet all is broken = is ∙ cond-false b rest (Some octet) broken

-- ---- more rules after others

-- the first of two, if there is one
abbrev pub or_first : Option ℕ → Option ℕ → Option ℕ
or_first (Some octet) other = Some octet
or_first None other = other

breach-behind : (rs qs : List Rule) (o : Option ℕ) → first_breach rs ≡ o → first_breach (rs ++ qs) ≡ or_first o (first_breach qs)
breach-behind [] qs o is = ap (λ (first : Option ℕ). or_first first (first_breach qs)) is
breach-behind (r ∷ rs) qs o is = by_test (breach-behind rs qs) r.kept refl
  where
    by_test : ((o : Option ℕ) → first_breach rs ≡ o → first_breach (rs ++ qs) ≡ or_first o (first_breach qs)) → (b : Bool) → r.kept ≡ b → first_breach (r ∷ rs ++ qs) ≡ or_first o (first_breach qs)
    by_test more true kept = cond-true r.kept (first_breach (rs ++ qs)) (Some r.octet) kept ∙ more o (sym (cond-true r.kept (first_breach rs) (Some r.octet) kept) ∙ is)
    by_test more false kept =
        cond-false r.kept (first_breach (rs ++ qs)) (Some r.octet) kept
        ∙ ap (λ (first : Option ℕ). or_first first (first_breach qs)) (sym (cond-false r.kept (first_breach rs) (Some r.octet) kept) ∙ is)

-- If the first three rules are kept, the places and the zeros after them decide.
pub counted-rest : (s : List ℕ) (o : Option ℕ) → is_total s ≡ true → is_new_len (version_in s) (old_len_of s) (new_len_in s) (last_end 0 (used_in s)) ≡ true → are_zeros (octets_from s 26 6) ≡ true
    → first_breach (place_rules (old_len_of s) 32 (count_in s) 0 (places_in s)) ≡ o → first_breach (counted_rules s) ≡ or_first o (if is_padded s then None else Some 168)
counted-rest s o total new_len zeros is =
    cond-true (is_total s) _ _ total ∙ cond-true (is_new_len (version_in s) (old_len_of s) (new_len_in s) (last_end 0 (used_in s))) _ _ new_len
    ∙ cond-true (are_zeros (octets_from s 26 6)) _ _ zeros
    ∙ breach-behind (place_rules (old_len_of s) 32 (count_in s) 0 (places_in s)) (record { octet = 168; kept = is_padded s } ∷ []) o is

-- ---- used places from one on

pub length-used : (s : List ℕ) → count_in s ≤ 8 → length (used_in s) ≡ count_in s
length-used s few = length-take-le (count_in s) (places_in s) few

pub used-is : (s : List ℕ) (k : ℕ) (d : Place) → count_in s ≤ 8 → k < count_in s → get_or (used_in s) k d ≡ place_in s k
used-is s k d few inside = get_or-take (count_in s) (places_in s) k d inside ∙ place-is s k d (omega arith)

pub used_next : (s : List ℕ) (k : ℕ) → count_in s ≤ 8 → k < count_in s → drop k (used_in s) ≡ place_in s k ∷ drop (k + 1) (used_in s)
used_next s k few inside =
    let size = length-used s few in
    drop_more (used_in s) k no_place (omega arith)
    ∙ ap (λ (p : Place). p ∷ drop (k + 1) (used_in s)) (used-is s k no_place few inside)

pub used_end : (s : List ℕ) (k : ℕ) → count_in s ≤ 8 → count_in s ≤ k → drop k (used_in s) ≡ []
used_end s k few past = let size = length-used s few in drop_all k (used_in s) (omega arith)

pub first_step : (test : ℕ → Bool) (k n : ℕ) → 0 < n → first_place test k n ≡ (if test k then Some k else first_place test (k + 1) (n - 1))
first_step test k zero some = absurd (omega arith)
first_step test k (suc n) some = ap (λ m. if test k then Some k else first_place test (k + 1) m) (omega arith)
