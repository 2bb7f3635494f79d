-- The first of several causes, and damage that keeps a track's frames from being used.
use Rattle.std.proofs.Common.{◌≡◌, ℕ, List, [], ◌∷◌, ◌++◌, Option, Some, None, Err, refl, ap}
use Rattle.mkv_io.specs.declared.damage.Damage.{Damage}
use Rattle.mkv_schema.specs.Outline.{first_damage}
use Rattle.mkv_io.specs.Results.{unless}
use Rattle.tree_format.specs.Node.{Node}
use Rattle.file_format.specs.Encoding.{prefix_of, usable_causes, usable_prefix}

-- ---- the first of several causes

-- If no cause applies, none of the first ones applies.
pub first_damage-front : (xs ys : List (Option Damage)) → first_damage (xs ++ ys) ≡ None → first_damage xs ≡ None
first_damage-front [] ys none = refl
first_damage-front (None ∷ xs) ys none = first_damage-front xs ys none
first_damage-front (Some d ∷ xs) ys none = absurd (cc)

-- If no first cause applies, the other causes decide.
pub first_damage-behind : (xs ys : List (Option Damage)) → first_damage xs ≡ None → first_damage (xs ++ ys) ≡ first_damage ys
first_damage-behind [] ys none = refl
first_damage-behind (None ∷ xs) ys none = first_damage-behind xs ys none
first_damage-behind (Some d ∷ xs) ys none = absurd (cc)

-- The first cause that applies decides.
pub first_damage-some : (xs ys : List (Option Damage)) (d : Damage) → first_damage xs ≡ Some d → first_damage (xs ++ ys) ≡ Some d
first_damage-some [] ys d some = absurd (cc)
first_damage-some (None ∷ xs) ys d some = first_damage-some xs ys d some
first_damage-some (Some e ∷ xs) ys d some = some

-- ---- result of a call for a track

pub usable-some : (entry : Node) (d : Damage) → usable_prefix entry ≡ Err d → first_damage (usable_causes entry) ≡ Some d
usable-some entry d is = step (first_damage (usable_causes entry)) is
  where
    step : (refusal : Option Damage) → unless refusal (prefix_of entry) ≡ Err d → refusal ≡ Some d
    step None made = absurd (cc)
    step (Some e) made = let same : e ≡ d = cc in ap (λ (x : Damage). Some x) same
