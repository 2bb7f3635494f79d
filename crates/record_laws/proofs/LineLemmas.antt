-- Lines that are written are read back.
use Rattle.std.proofs.Common.{◌≡◌, ℕ, ◌+◌, ◌*◌, ◌/◌, ◌%◌, ◌^◌, ◌<◌, Bool, true, false, not, List, [], ◌∷◌, ◌++◌, length, take, Some, refl, sym, ◌∙◌, ap, arith, append_assoc, All, ◌==◌, ◌-◌, slice_index}
use Rattle.std.proofs.lemmas.Grind.{common_steps}
use Rattle.std.proofs.lemmas.Bool.Decides.{nat_tests}
use Rattle.std.proofs.lemmas.List.Splits.{slice_split_at, length-slice_split}
use Rattle.std.proofs.lemmas.List.Elements.{All-nil, All-cons}
use Rattle.std.proofs.Math.Seq.{drop-append_seam}
use Rattle.std.proofs.Math.Nat.{div-div-eq-div-mul}
use Rattle.std.specs.List.{slice_split}
use Rattle.std.specs.Char.{is_ascii_digit}
use Rattle.std.specs.Str.Lines.{lines, strip_carriage_return}
use Rattle.std.proofs.lemmas.Bool.{and_from}
use Rattle.std.proofs.lemmas.Slice.Eq.{bytes_eq-Decides}
use Rattle.text_formats.specs.Fields.{behind}
use Rattle.text_formats.specs.Pieces.{digit, two_digits, three_digits, two_or_more, stamp}
use Rattle.mkv_io.specs.Octets.{lacks}
use Rattle.record_laws.specs.Plain.{ends_with_return, IsLine}
use Rattle.mkv_io.proofs.OctetsLemmas.{digits_lack, lacks_both, lacks_parts}
use Rattle.record_laws.proofs.DigitsLemmas.{two_all, three_all, padded_all}
use Rattle.lemmas.proofs.PlainLemmas.{lines-more as part_more}

-- ---- bytes that a text lacks
pub lacks_more : (o b : ℕ) (w : List ℕ) → (b == o) ≡ false → lacks o w ≡ true → lacks o (b ∷ w) ≡ true
lacks_more o b w other none = and_from (not (b == o)) (lacks o w) (rw other refl) none

lacks_each : (o : ℕ) (w : List ℕ) → lacks o w ≡ true → All (λ b. (b == o) ≡ false) w
lacks_each o [] none = All-nil (λ b. (b == o) ≡ false)
lacks_each o (b ∷ bs) none = let parts = lacks_parts o b bs none in All-cons (λ d. (d == o) ≡ false) b bs parts.0 (lacks_each o bs parts.1)

-- ---- the end of a text
pub last_more : (x y : ℕ) (ys : List ℕ) → slice_index (x ∷ y ∷ ys) (length (x ∷ y ∷ ys) - 1) ≡ slice_index (y ∷ ys) (length (y ∷ ys) - 1)
last_more x y ys = grind (arith, common_steps)

pub ends_more : (x y : ℕ) (ys : List ℕ) → ends_with_return (x ∷ y ∷ ys) ≡ ends_with_return (y ∷ ys)
ends_more x y ys = ap (λ (b : ℕ). b == 13) (last_more x y ys)

pub ends_both : (a : List ℕ) (y : ℕ) (ys : List ℕ) → ends_with_return (a ++ (y ∷ ys)) ≡ ends_with_return (y ∷ ys)
ends_both [] y ys = refl
ends_both (x ∷ []) y ys = ends_more x y ys
ends_both (x ∷ z ∷ zs) y ys = let more = ends_both (z ∷ zs) y ys in let first = ends_more x z (zs ++ (y ∷ ys)) in cc (more, first)

-- ---- one line

stripped : (x : List ℕ) → ends_with_return x ≡ false → strip_carriage_return x ≡ x
stripped x none = rw none refl

-- A text of one line before an LF is a line.
pub line_first : (x rest : List ℕ) → IsLine x → lines (x ++ (10 ∷ rest)) ≡ x ∷ lines rest
line_first x rest line =
    let is_lf : ℕ → Bool = λ b. b == 10 in
    let split : slice_split (λ b. b == 10) (x ++ (10 ∷ rest)) ≡ x ∷ slice_split (λ b. b == 10) rest = slice_split_at (λ b. b == 10) x 10 rest (lacks_each 10 x line.no_break) refl in
    let some : 0 < length (slice_split (λ b. b == 10) rest) = (let e = length-slice_split (λ b. b == 10) rest in omega arith) in
    let more = part_more x (slice_split (λ b. b == 10) rest) some in
    let same = stripped x line.no_return in
    rw split (rw same at more)

-- ---- a prefix
pub behind_front : (front rest : List ℕ) → behind front (front ++ rest) ≡ Some rest
behind_front front rest =
    let e : take (length front) (front ++ rest) ≡ front = grind (arith, common_steps) in
    rw (e, (bytes_eq-Decides front front).1 refl, drop-append_seam front rest) refl

-- ---- a time
-- the parts of the time
pub record Parts (ms h m s t : ℕ) : Type 0 where
  pub minutes : m < 60
  pub seconds : s < 60
  pub thousandths : t < 1000
  pub whole : ((h * 60 + m) * 60000 + (s * 1000 + t)) ≡ ms

pub parts_of : (ms : ℕ) → Parts ms (ms / 3600000) (ms / 60000 % 60) (ms / 1000 % 60) (ms % 1000)
parts_of ms =
    let a : ms / 1000 / 60 ≡ ms / 60000 = div-div-eq-div-mul ms 1000 60 in
    let b : ms / 60000 / 60 ≡ ms / 3600000 = div-div-eq-div-mul ms 60000 60 in
    let s = ms / 1000 in let m = ms / 60000 in
    record { minutes = omega arith; seconds = omega arith; thousandths = omega arith; whole = omega arith }

-- The bytes of a time are digits, colons and the point.
pub stamp_lacks : (o point ms : ℕ) → is_ascii_digit o ≡ false → (58 == o) ≡ false → (point == o) ≡ false → ms < 2 ^ 64 → lacks o (stamp point ms) ≡ true
unfolding stamp
stamp_lacks o point ms other colon at small =
    let h = digits_lack o (two_or_more (ms / 3600000)) other (padded_all (ms / 3600000) (omega arith)) in
    let m = digits_lack o (two_digits (ms / 60000 % 60)) other (two_all (ms / 60000 % 60)) in
    let s = digits_lack o (two_digits (ms / 1000 % 60)) other (two_all (ms / 1000 % 60)) in
    let t = digits_lack o (three_digits (ms % 1000)) other (three_all (ms % 1000)) in
    let last = lacks_more o point (three_digits (ms % 1000)) at t in
    let seconds : List ℕ = two_digits (ms / 1000 % 60) ++ (point ∷ three_digits (ms % 1000)) in
    let minutes : List ℕ = two_digits (ms / 60000 % 60) ++ (58 ∷ seconds) in
    let from_seconds = lacks_both o (two_digits (ms / 1000 % 60)) (point ∷ three_digits (ms % 1000)) s last in
    let from_minutes = lacks_both o (two_digits (ms / 60000 % 60)) (58 ∷ seconds) m (lacks_more o 58 seconds colon from_seconds) in
    lacks_both o (two_or_more (ms / 3600000)) (58 ∷ minutes) h (lacks_more o 58 minutes colon from_minutes)

-- It ends with a digit.
pub digit_no_return : (n : ℕ) → (digit n == 13) ≡ false
digit_no_return n = grind (arith, nat_tests)

pub stamp_ends : (front : List ℕ) (point ms : ℕ) → ends_with_return (front ++ stamp point ms) ≡ false
unfolding stamp
stamp_ends front point ms =
    let h = two_or_more (ms / 3600000) in
    let tail : List ℕ = two_digits (ms / 60000 % 60) ++ (58 ∷ (two_digits (ms / 1000 % 60) ++ (point ∷ three_digits (ms % 1000)))) in
    let whole : ends_with_return (front ++ (h ++ (58 ∷ tail))) ≡ ends_with_return ((front ++ h) ++ (58 ∷ tail)) = ap ends_with_return (sym (append_assoc front h (58 ∷ tail))) in
    whole ∙ (ends_both (front ++ h) 58 tail ∙ digit_no_return (ms % 1000))
