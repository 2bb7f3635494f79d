-- What follows the last mark of a text.
use Rattle.std.proofs.Common.{◌≡◌, ◌<◌, ℕ, ◌+◌, Bool, true, false, cond, nat_lt, if◌then◌else◌, List, [], ◌∷◌, length, take, drop, Option, Some, None, refl, sym, ap, ◌∙◌, arith, length-drop}
use Rattle.std.proofs.lemmas.Grind.{common_steps}
use Rattle.std.proofs.lemmas.Bool.Decides.{nat_tests}
use Rattle.std.specs.Prelude.{option_map, unwrap_or, ◌==◌}
use Rattle.std.specs.List.{position_or_len}
use Rattle.std.specs.Option.{option_or}
use Rattle.mkv_io.specs.Octets.{cut}
use Rattle.merge_words.specs.Attached.{behind_last}

-- the place of the first mark
abbrev place : ℕ → List ℕ → ℕ
place mark word = position_or_len (λ b. b == mark) word

abbrev behind_first : ℕ → List ℕ → List ℕ
behind_first mark word = drop (place mark word + 1) word

abbrev pub last_behind : ℕ → List ℕ → Option (List ℕ)
last_behind mark rest = Some (unwrap_or (behind_last mark rest) rest)

or_some : (o : Option (List ℕ)) (rest : List ℕ) → option_or o (Some rest) ≡ Some (unwrap_or o rest)
or_some None rest = refl
or_some (Some part) rest = refl

or_none : (o : Option (List ℕ)) → option_or o None ≡ o
or_none None = refl
or_none (Some part) = refl

-- The last mark is the first one, or behind it.
by_first : (mark : ℕ) (word : List ℕ) → behind_last mark word ≡ (if nat_lt (place mark word) (length word) then last_behind mark (behind_first mark word) else None)
by_first mark [] = refl
by_first mark (b ∷ bs) = choose (b == mark) refl (by_first mark bs)
  where
    choose : (c : Bool) → (b == mark) ≡ c → behind_last mark bs ≡ (if nat_lt (place mark bs) (length bs) then last_behind mark (behind_first mark bs) else None)
        → option_or (behind_last mark bs) (if c then Some bs else None) ≡ (if nat_lt (place mark (b ∷ bs)) (length (b ∷ bs)) then last_behind mark (behind_first mark (b ∷ bs)) else None)
    choose true here rest =
        let zero_place : place mark (b ∷ bs) ≡ 0 = rw here refl in
        let some : nat_lt 0 (length (b ∷ bs)) ≡ true = grind (arith, nat_tests) in
        rw zero_place (rw some (or_some (behind_last mark bs) bs))
    choose false other rest =
        let next : place mark (b ∷ bs) ≡ place mark bs + 1 = rw other (omega arith) in
        let same : nat_lt (place mark bs + 1) (length bs + 1) ≡ nat_lt (place mark bs) (length bs) = grind (arith, nat_tests) in
        let size : length (b ∷ bs) ≡ length bs + 1 = omega arith in
        let dropped : drop (place mark bs + 1 + 1) (b ∷ bs) ≡ drop (place mark bs + 1) bs = grind (arith, common_steps) in
        or_none (behind_last mark bs) ∙ (rest ∙ rw next (rw size (rw same (rw dropped refl))))

-- the result of cutting, by whether there is a mark
abbrev cut_by : Bool → ℕ → List ℕ → Option (List ℕ × List ℕ)
cut_by b mark word = option_map {U = List ℕ × List ℕ} (λ i. (take i word, drop (i + 1) word)) (cond b (Some (place mark word)) None)

-- A text with a mark.
pub behind_more : (mark : ℕ) (word first rest : List ℕ) → cut mark word ≡ Some (first, rest) → behind_last mark word ≡ last_behind mark rest
unfolding cut
behind_more mark word first rest e = cases (nat_lt (place mark word) (length word)) refl e
  where
    cases : (b : Bool) → nat_lt (place mark word) (length word) ≡ b → cut_by b mark word ≡ Some (first, rest) → behind_last mark word ≡ last_behind mark rest
    cases true is found =
        let back : behind_first mark word ≡ rest = ap (λ (o : Option (List ℕ × List ℕ)). let p : List ℕ × List ℕ = unwrap_or o ([], []) in p.1) found in
        by_first mark word ∙ rw is (rw back refl)
    cases false is found = absurd (cc)

-- A text without a mark.
pub behind_none : (mark : ℕ) (word : List ℕ) → cut mark word ≡ None → behind_last mark word ≡ None
unfolding cut
behind_none mark word e = cases (nat_lt (place mark word) (length word)) refl e
  where
    cases : (b : Bool) → nat_lt (place mark word) (length word) ≡ b → cut_by b mark word ≡ None → behind_last mark word ≡ None
    cases true is found = absurd (cc)
    cases false is found = by_first mark word ∙ rw is refl

-- The part behind a mark is shorter than the text.
pub behind_shorter : (mark : ℕ) (word first rest : List ℕ) → cut mark word ≡ Some (first, rest) → length rest < length word
unfolding cut
behind_shorter mark word first rest e = cases (nat_lt (place mark word) (length word)) refl e
  where
    cases : (b : Bool) → nat_lt (place mark word) (length word) ≡ b → cut_by b mark word ≡ Some (first, rest) → length rest < length word
    cases true is found =
        let back : behind_first mark word ≡ rest = ap (λ (o : Option (List ℕ × List ℕ)). let p : List ℕ × List ℕ = unwrap_or o ([], []) in p.1) found in
        let within : place mark word < length word = grind (arith, nat_tests) in
        let len : length (behind_first mark word) ≡ length rest = ap length back in
        omega (arith, length-drop (place mark word + 1) word, len)
    cases false is found = absurd (cc)

-- A mark in the rest leaves less of it.
pub behind_next : (mark : ℕ) (word rest first after : List ℕ) → cut mark rest ≡ Some (first, after) → last_behind mark rest ≡ behind_last mark word → last_behind mark after ≡ behind_last mark word
behind_next mark word rest first after e left = sym (ap (λ (o : Option (List ℕ)). Some (unwrap_or o rest)) (behind_more mark rest first after e)) ∙ left

-- Without a mark the rest is what follows the last one.
pub behind_done : (mark : ℕ) (word rest : List ℕ) → cut mark rest ≡ None → last_behind mark rest ≡ behind_last mark word → Some rest ≡ behind_last mark word
behind_done mark word rest e left = sym (ap (λ (o : Option (List ℕ)). Some (unwrap_or o rest)) (behind_none mark rest e)) ∙ left
