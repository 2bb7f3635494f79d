-- Bytes that are written at an offset in two steps.
use Rattle.std.proofs.Common.{◌≡◌, ◌≤◌, ℕ, ◌+◌, List, [], ◌++◌, length, take, drop, sym, ◌∙◌, ap, append_assoc, length-append, arith}
use Rattle.std.proofs.lemmas.Grind.{common_steps}
use Rattle.std.proofs.lemmas.List.{drop-drop}
use Rattle.std.proofs.Math.Seq.{drop-append-add, take-add, take-append_seam}
use Rattle.mkv_io.specs.Contents.{overwritten}

-- Writing no bytes changes nothing.
pub overwritten-none : (was : List ℕ) (at : ℕ) → overwritten was at [] ≡ was
overwritten-none was at = grind (arith, common_steps)

-- Writing `next` after `first` is writing both.
pub overwritten-more : (was first next : List ℕ) (at : ℕ) → at ≤ length was → overwritten (overwritten was at first) (at + length first) next ≡ overwritten was at (first ++ next)
overwritten-more was first next at within =
    ap (λ (o : List ℕ). o ++ (next ++ drop (at + length first + length next) (overwritten was at first))) head
    ∙ ap (λ (o : List ℕ). (take at was ++ first) ++ (next ++ o)) tail
    ∙ append_assoc (take at was) first (next ++ drop (at + length (first ++ next)) was)
    ∙ ap (λ (o : List ℕ). take at was ++ o) (sym (append_assoc first next (drop (at + length (first ++ next)) was)))
  where
    rest : List ℕ
    rest = drop (at + length first) was

    count : length (take at was) ≡ at
    count = grind (arith, common_steps)

    place : at + length first ≡ length (take at was ++ first)
    place = omega (arith, count, length-append (take at was) first)

    parts : overwritten was at first ≡ (take at was ++ first) ++ rest
    parts = sym (append_assoc (take at was) first rest)

    head : take (at + length first) (overwritten was at first) ≡ take at was ++ first
    head = ap (λ n. take n (overwritten was at first)) place ∙ ap (λ (o : List ℕ). take (length (take at was ++ first)) o) parts ∙ take-append_seam (take at was ++ first) rest

    behind : at + length first + length next ≡ at + length (first ++ next)
    behind = omega (arith, length-append first next)

    tail : drop (at + length first + length next) (overwritten was at first) ≡ drop (at + length (first ++ next)) was
    tail =
        ap (λ n. drop (n + length next) (overwritten was at first)) place ∙ ap (λ (o : List ℕ). drop (length (take at was ++ first) + length next) o) parts
        ∙ drop-append-add (take at was ++ first) rest (length next) ∙ drop-drop (length next) (at + length first) was ∙ ap (λ n. drop n was) behind

-- Writing the next `n` bytes after the written ones is writing them all.
pub overwritten-next : (was bytes : List ℕ) (at written n : ℕ) → at ≤ length was → written ≤ length bytes → overwritten (overwritten was at (take written bytes)) (at + written) (take n (drop written bytes)) ≡ overwritten was at (take (written + n) bytes)
overwritten-next was bytes at written n within first =
    ap (λ k. overwritten (overwritten was at (take written bytes)) (at + k) (take n (drop written bytes))) (sym count)
    ∙ overwritten-more was (take written bytes) (take n (drop written bytes)) at within
    ∙ ap (overwritten was at) (sym (take-add written n bytes))
  where
    count : length (take written bytes) ≡ written
    count = grind (arith, common_steps)
