-- Results of the crate's calls.
use Rattle.std.specs.Prelude.{◌≡◌, ℕ, List, Result, Ok, Err}
use Rattle.mkv_io.specs.declared.damage.Damage.{Damage as Harm}
use Rattle.tree_format.specs.Node.{Node}
use Rattle.ebml_tree.specs.declared.end.TreeEnd.{TreeEnd}
use Rattle.ebml_tree.specs.declared.end.TreeEnd.TheVariants.{Damage, Memory}
use Rattle.tree_format.specs.Reading.{Grove, Grown}

-- The error of reading a master as a tree is the damage in `read`, the expected result; or memory ran out. Contracts of reading a tree promise it.
abbrev pub Refuses : {A : Type 0} → TreeEnd → Result A Harm → Type 0
Refuses (Damage damage) read = read ≡ Err damage
Refuses Memory read = Unit {0}

-- The result of reading a master is the expected one, `read`: a tree or damage; or memory ran out. The contract of `Tree::parse` promises it.
abbrev pub ReadsTree : Result Node TreeEnd → Result Node Harm → Type 0
ReadsTree (Ok tree) read = read ≡ Ok tree
ReadsTree (Err end) read = Refuses end read

-- The expected result `read` is the tree `tree`, with `left` Elements that may still follow. The contract of reading one Element promises it.
abbrev pub GivesTree : Result Grown Harm → ℕ → Node → Type 0
GivesTree read left tree = read ≡ Ok (record { tree = tree; left = left })

-- The expected result `read` is the trees `trees`, with `left` Elements that may still follow. The contract of reading a master's content promises
-- it.
abbrev pub GivesTrees : Result Grove Harm → ℕ → List Node → Type 0
GivesTrees read left trees = read ≡ Ok (record { trees = trees; left = left })
