-- The report of damaged places, with one more.
use Rattle.std.proofs.Common.{◌≡◌, ℕ, ◌+◌, ◌-◌, ◌<◌, ◌≤◌, nat_lt, min, inl, inr, List, [], ◌∷◌, ◌++◌, length, take, sym, ◌∙◌, ap, ap₂, arith, length-append}
use Rattle.std.proofs.lemmas.Bool.{cases_lt, cond-true, cond-false, lt-ltb, le-ltb}
use Rattle.std.proofs.lemmas.List.{length-take, take-append-le, take_all}
use Rattle.mkv_io.specs.declared.damage.Damage.{Damage}
use Rattle.mkv_io.specs.Faults.{counted, last_count}
use Rattle.cluster_reader.specs.ToldDamages.{ToldDamages, told_damages, with_damage}

-- a report by its parts
told : List Damage → ℕ → ToldDamages
told first more = record { first = first; more = more }

-- One of the first hundred is added.
tells_one : (list : List Damage) (d : Damage) → length list < 100 → with_damage (told_damages list) d ≡ told_damages (list ++ d ∷ [])
unfolding told
tells_one list d few =
    let count = length-take 100 list in
    let all = take_all 100 list (omega arith) in
    let longer : length (list ++ d ∷ []) ≡ length list + 1 = length-append list (d ∷ []) in
    let none : min (length list - 100) last_count ≡ min (length (list ++ d ∷ []) - 100) last_count = omega arith in
    cond-true (nat_lt (length (take 100 list)) 100) _ _ (lt-ltb _ _ (omega arith))
    ∙ ap₂ told (ap (λ l. l ++ d ∷ []) all ∙ sym (take_all 100 (list ++ d ∷ []) (omega arith))) none

-- A later one is counted.
counts_one : (list : List Damage) (d : Damage) → 100 ≤ length list → with_damage (told_damages list) d ≡ told_damages (list ++ d ∷ [])
unfolding told
counts_one list d many =
    let count = length-take 100 list in
    let longer : length (list ++ d ∷ []) ≡ length list + 1 = length-append list (d ∷ []) in
    let one : counted (min (length list - 100) last_count) 1 ≡ min (length (list ++ d ∷ []) - 100) last_count = omega arith in
    cond-false (nat_lt (length (take 100 list)) 100) _ _ (le-ltb _ _ (omega arith))
    ∙ ap₂ told (sym (take-append-le 100 list (d ∷ []) many)) one

pub with_damage-told : (list : List Damage) (d : Damage) → with_damage (told_damages list) d ≡ told_damages (list ++ d ∷ [])
with_damage-told list d = elim (cases_lt (length list) 100) [ inl few ↦ tells_one list d few | inr many ↦ counts_one list d many ]
