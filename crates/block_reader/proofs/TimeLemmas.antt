-- Scaling of times in place.
use Rattle.std.proofs.Common.{◌≡◌, ℕ, ℤ, ◌<◌, ◌+◌, Bool, true, false, cond, List, ◌++◌, length, map, take, drop, get_or, Some, None, refl, sym, ◌∙◌, ap, arith}
use Rattle.std.specs.List.{list_any}
use Rattle.std.proofs.Math.ListN.{set}
use Rattle.std.proofs.lemmas.Grind.{common_steps}
use Rattle.std.proofs.lemmas.List.Edits.{map_over_more}
use Rattle.std.proofs.lemmas.List.Folds.{list_any_more}
use Rattle.block_format.specs.Block.{nanoseconds}
use Rattle.block_reader.specs.Time.{scaled, is_too_large_at}

-- A time that isn't too large is scaled.
pub scaled-some : (scale : ℕ) (z n : ℤ) → Some n ≡ scaled scale z → (n ≡ nanoseconds scale z) × (is_too_large_at scale z ≡ false)
scaled-some scale z n is = split (is_too_large_at scale z) refl is
  where
    split : (test : Bool) → is_too_large_at scale z ≡ test → Some n ≡ cond test None (Some (nanoseconds scale z)) → (n ≡ nanoseconds scale z) × (is_too_large_at scale z ≡ false)
    split true large found = absurd (cc)
    split false small found = (cc, small)

-- Times that weren't reached are unchanged.
pub unscaled_at : (f : ℤ → ℤ) (xs ys : List ℤ) (i : ℕ) (d : ℤ) → i < length xs → ys ≡ map f (take i xs) ++ drop i xs → get_or ys i d ≡ get_or xs i d
unscaled_at f xs ys i d inside is = grind (arith, common_steps)

-- One more time is scaled.
pub scale-more : (scale : ℕ) (xs ys : List ℤ) (i : ℕ) (n d : ℤ) → i < length xs → ys ≡ map (nanoseconds scale) (take i xs) ++ drop i xs → n ≡ nanoseconds scale (get_or ys i d) → set ys i n ≡ map (nanoseconds scale) (take (i + 1) xs) ++ drop (i + 1) xs
scale-more scale xs ys i n d inside is new =
    let here : get_or ys i d ≡ get_or ys i (get_or ys i d) = same_default ys i d in
    ap (set ys i) new ∙ map_over_more (nanoseconds scale) xs ys i (get_or ys i d) inside is here
  where
    same_default : (l : List ℤ) (i : ℕ) (d : ℤ) → get_or l i d ≡ get_or l i (get_or l i d)
    same_default l i d = grind (arith, common_steps)

pub fits-more : (scale : ℕ) (xs ys : List ℤ) (i : ℕ) (d : ℤ) → i < length xs → ys ≡ map (nanoseconds scale) (take i xs) ++ drop i xs → list_any (is_too_large_at scale) (take i xs) ≡ false → is_too_large_at scale (get_or ys i d) ≡ false → list_any (is_too_large_at scale) (take (i + 1) xs) ≡ false
fits-more scale xs ys i d inside is before small =
    let here : is_too_large_at scale (get_or xs i d) ≡ false = ap (is_too_large_at scale) (sym (unscaled_at (nanoseconds scale) xs ys i d inside is)) ∙ small in
    list_any_more (is_too_large_at scale) xs i d inside ∙ rw before here
