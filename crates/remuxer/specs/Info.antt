-- A tree with children appended.
use Rattle.std.specs.Prelude.{List, ◌++◌}
use Rattle.tree_format.specs.Node.{Node, children, with_children}

-- the Info `n` with the children `more` appended. The contracts of the functions that make an output's Info state it.
abbrev pub with_more : Node → List Node → Node
with_more n more = with_children n (children n ++ more)
