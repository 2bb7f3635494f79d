-- Changed Chapters and Tags are still valid in their parents.
use Rattle.std.specs.Prelude.{◌≡◌, ◌≤◌, ℕ, true, List}
use Rattle.mkv_schema.specs.declared.ids.TheConstants.{CHAPTER_ATOM}
use Rattle.mkv_schema.specs.Schema.{is_master}
use Rattle.tree_format.specs.Node.{Node, id_of, depth}
use Rattle.tree_format.specs.Reading.{is_master_in}
use Rattle.tree_format.specs.Standing.{StandsIn}
use Rattle.tree_format.specs.Children.{set_each}
use Rattle.ebml_tree.specs.Building.{IsInPlace, IsRead}

-- If the node `n` has the ID `own`, it is a master that was read. Code that changes children of a Chapters requires it of each.
abbrev pub IsReadIf : ℕ → Node → Type 0
IsReadIf own n = id_of n ≡ own → IsRead own n

-- The node `n` is a master that was read, and the Matroska table allows ChapterAtoms in it: an edition or an atom. `cut_inside` requires it.
pub record HoldsAtoms (n : Node) : Type 0 where
  pub read : IsRead (id_of n) n
  pub known : is_master (id_of n) ≡ true
  pub atoms : is_master_in (id_of n) CHAPTER_ATOM ≡ true

-- In each parent that allows `old`, `new` may replace it, and isn't deeper. Contracts of code that cuts, numbers or shifts chapters promise it.
abbrev pub MayReplace : Node → Node → Type 0
MayReplace old new = (parent : ℕ) → StandsIn parent old → IsInPlace parent old new

-- The atom `old` became `new`: the children `times` are set, and it isn't deeper. Contracts of `set_time` and `set_end` promise it.
pub record SetsTimes (times : List Node) (old new : Node) : Type 0 where
  pub changed : new ≡ set_each times old
  pub read : IsRead CHAPTER_ATOM new
  pub shallow : depth new ≤ depth old
