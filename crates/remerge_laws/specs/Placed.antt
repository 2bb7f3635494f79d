-- Records that are read after they were written: each Element has its place in the file.
use Rattle.std.specs.Prelude.{◌≡◌, ⊤, ℕ, false, Option, None, Some}
use Rattle.tree_format.specs.Node.{Node}
use Rattle.tree_format.specs.NormalForm.{is_filler}
use Rattle.tree_format.specs.Standing.{placed}
use Rattle.tree_format.specs.Values.{integer_in, text_in}

-- The record `m` is `n` as it is read after it was written at some offset. Void and CRC-32 are missing in `m`, and each other Element has its own
-- offset. Used by the laws on records of an output that are read and merged again.
abbrev pub StandsAs : Node → Node → Type 0
StandsAs n m = (place : ℕ) × (m ≡ placed place n)

-- Both records are absent, or the second is the first as it is read after it was written. Used for Info, Chapters and Tags of an output, which are
-- optional. Used by `TagsAreAlikeAgain`, `HasChaptersOf` and others.
abbrev pub MayStandAs : Option Node → Option Node → Type 0
MayStandAs None None = ⊤
MayStandAs None (Some m) = ⊥
MayStandAs (Some n) None = ⊥
MayStandAs (Some n) (Some m) = StandsAs n m

-- The first integer and the first text with the ID `id` are the same in a record `n` and in `m`, which is `n` after it was written and read. `id`
-- isn't the ID of Void or CRC-32. The law `records_say_the_same` states it.
pub record RecordsSayTheSame : Type 0 where
  pub integers : (id : ℕ) (n m : Node) → is_filler id ≡ false → StandsAs n m → integer_in id m ≡ integer_in id n
  pub texts : (id : ℕ) (n m : Node) → is_filler id ≡ false → StandsAs n m → text_in id m ≡ text_in id n
