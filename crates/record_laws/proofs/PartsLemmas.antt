-- The lines of a text, and the text that is read from them.
use Rattle.std.proofs.Common.{◌≡◌, ℕ, ◌<◌, true, false, List, [], ◌∷◌, ◌++◌, length, refl, sym, ◌∙◌, ap, arith, append_assoc, inl, inr, ◌==◌}
use Rattle.std.proofs.lemmas.List.Splits.{join_with_byte-slice_split, length-slice_split}
use Rattle.std.specs.List.{onto_first, join_with_byte, AllByRecursion}
use Rattle.std.specs.Str.Lines.{lines}
use Rattle.std.proofs.lemmas.Bool.{cases_Bool}
use Rattle.text_formats.specs.Srt.{trimmed, onto_lines, text_of}
use Rattle.mkv_io.specs.Octets.{lacks}
use Rattle.record_laws.specs.Plain.{IsLine}
use Rattle.record_laws.specs.SubRip.{lines_in, ends_with_break}
use Rattle.record_laws.proofs.LineLemmas.{lacks_more, line_first, last_more}

-- ---- no line has LF
abbrev pub LacksBreak : List ℕ → Type 0
LacksBreak l = lacks 10 l ≡ true

onto_lack : (x : ℕ) (ls : List (List ℕ)) → (x == 10) ≡ false → AllByRecursion LacksBreak ls → AllByRecursion LacksBreak (onto_first x ls)
onto_lack x [] other all = (lacks_more 10 x [] other refl, tt)
onto_lack x (l ∷ ls) other all = (lacks_more 10 x l other all.0, all.1)

pub lines_lack : (w : List ℕ) → AllByRecursion LacksBreak (lines_in w)
lines_lack [] = (refl, tt)
lines_lack (x ∷ xs) =
    elim (cases_Bool (x == 10)) [ inl is ↦ rw is (refl, lines_lack xs) | inr is ↦ rw is (onto_lack x (lines_in xs) is (lines_lack xs)) ]

-- ---- the last line has bytes
abbrev pub IsFilled : List (List ℕ) → Type 0
IsFilled [] = ⊥
IsFilled (l ∷ []) = 0 < length l
IsFilled (l ∷ m ∷ ms) = IsFilled (m ∷ ms)

front_filled : (l : List ℕ) (ls : List (List ℕ)) → IsFilled ls → IsFilled (l ∷ ls)
front_filled l [] filled = absurd filled
front_filled l (m ∷ ms) filled = filled

onto_filled : (x : ℕ) (ls : List (List ℕ)) → IsFilled ls → IsFilled (onto_first x ls)
onto_filled x [] filled = absurd filled
onto_filled x (l ∷ []) filled = omega arith
onto_filled x (l ∷ m ∷ ms) filled = filled

break_more : (x y : ℕ) (ys : List ℕ) → ends_with_break (x ∷ y ∷ ys) ≡ ends_with_break (y ∷ ys)
break_more x y ys = ap (λ (b : ℕ). b == 10) (last_more x y ys)

pub lines_filled : (x : ℕ) (xs : List ℕ) → ends_with_break (x ∷ xs) ≡ false → IsFilled (lines_in (x ∷ xs))
lines_filled x [] none = rw none (omega arith)
lines_filled x (y ∷ ys) none =
    let rest = lines_filled y ys (sym (break_more x y ys) ∙ none) in
    elim (cases_Bool (x == 10)) [ inl is ↦ rw is (front_filled [] (lines_in (y ∷ ys)) rest) | inr is ↦ rw is (onto_filled x (lines_in (y ∷ ys)) rest) ]

-- ---- text of the lines and an empty one
onto_more : (l m : List ℕ) (ms : List (List ℕ)) → onto_lines l (m ∷ ms) ≡ l ∷ m ∷ ms
onto_more [] m ms = refl
onto_more (b ∷ bs) m ms = refl

onto_last : (l : List ℕ) → 0 < length l → onto_lines l [] ≡ l ∷ []
onto_last [] some = absurd (omega arith)
onto_last (b ∷ bs) some = refl

trimmed_filled : (ls : List (List ℕ)) → IsFilled ls → trimmed (ls ++ ([] ∷ [])) ≡ ls
unfolding trimmed
trimmed_filled [] filled = absurd filled
trimmed_filled (l ∷ []) filled = onto_last l filled
trimmed_filled (l ∷ m ∷ ms) filled = let rest = trimmed_filled (m ∷ ms) filled in ap (onto_lines l) rest ∙ onto_more l m ms

-- The text of its lines and an empty one is the text.
pub text_back : (w : List ℕ) → ends_with_break w ≡ false → text_of (lines_in w ++ ([] ∷ [])) ≡ w
unfolding trimmed
text_back [] none = refl
text_back (x ∷ xs) none = ap (join_with_byte 10) (trimmed_filled (lines_in (x ∷ xs)) (lines_filled x xs none)) ∙ join_with_byte-slice_split 10 (x ∷ xs)

-- ---- lines of a written text
lines_joined : (l : List ℕ) (ls : List (List ℕ)) (rest : List ℕ) → AllByRecursion IsLine (l ∷ ls) → lines (join_with_byte 10 (l ∷ ls) ++ (10 ∷ rest)) ≡ (l ∷ ls) ++ lines rest
lines_joined l [] rest are = line_first l rest are.0
lines_joined l (m ∷ ms) rest are =
    let more = join_with_byte 10 (m ∷ ms) in
    let joined = append_assoc l (10 ∷ more) (10 ∷ rest) in
    ap lines joined ∙ (line_first l (more ++ (10 ∷ rest)) are.0 ∙ ap (λ ls. l ∷ ls) (lines_joined m ms rest are.1))

some_joined : (ls : List (List ℕ)) (rest : List ℕ) → 0 < length ls → AllByRecursion IsLine ls → lines (join_with_byte 10 ls ++ (10 ∷ rest)) ≡ ls ++ lines rest
some_joined [] rest some are = absurd (omega arith)
some_joined (l ∷ ls) rest some are = lines_joined l ls rest are

empty_line : (rest : List ℕ) → lines (10 ∷ rest) ≡ [] ∷ lines rest
empty_line rest = line_first [] rest (record { no_break = refl; no_return = refl })

some_lines : (w : List ℕ) → 0 < length (lines_in w)
some_lines w = let long = length-slice_split (λ b. b == 10) w in omega arith

-- The lines of a text that is followed by an empty line.
pub text_lines : (w rest : List ℕ) → AllByRecursion IsLine (lines_in w) → lines (w ++ (10 ∷ 10 ∷ rest)) ≡ lines_in w ++ ([] ∷ lines rest)
text_lines w rest are =
    let back = join_with_byte-slice_split 10 w in
    let whole = some_joined (lines_in w) (10 ∷ rest) (some_lines w) are in
    ap (λ t. lines (t ++ (10 ∷ 10 ∷ rest))) (sym back) ∙ (whole ∙ ap (λ ls. lines_in w ++ ls) (empty_line rest))
