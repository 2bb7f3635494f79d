-- A time is valid in an atom.
use Rattle.std.proofs.Common.{◌≡◌, ℕ, ◌∷◌, [], Result, Ok, Err, OnOk}
use Rattle.std.specs.declared.alloc.AllocError.{AllocError}
use Rattle.tree_format.specs.Node.{Node, id_of, children, with_children, IsMaster}
use Rattle.tree_format.specs.Changes.{with_child}
use Rattle.tree_format.specs.Standing.{StandsIn, IsSound}
use Rattle.tree_format.specs.Children.{uint_leaf}
use Rattle.ebml_tree.specs.Building.{IsRead}
use Rattle.mkv_schema.specs.declared.ids.TheConstants.{CHAPTER_ATOM}
use Rattle.record_changes.specs.Standing.{SetsTimes}
use Rattle.record_changes.proofs.CutLemmas.{sets-time}
use Rattle.record_changes.proofs.cutting.set_time.Goals as goal

pub uint_leaf-requires : goal.uint_leaf-requires
uint_leaf-requires c = c.requires.id.valid

pub set-requires-clause-master : goal.set-requires-clause-master
set-requires-clause-master c = c.requires.read.master

when-set : (r : Result (Unit {0}) AllocError) (old new child : Node) (id value : ℕ) → IsRead CHAPTER_ATOM old → child ≡ uint_leaf id value → OnOk r (new ≡ with_children old (with_child child (children old))) → IsMaster new
    → (IsSound old → StandsIn (id_of old) child → IsSound new) → StandsIn CHAPTER_ATOM child → OnOk r (SetsTimes (uint_leaf id value ∷ []) old new)
when-set (Ok u) old new child id value read is ok is_master keeps stands = sets-time old new child id value read is ok is_master keeps stands
when-set (Err e) old new child id value read is ok is_master keeps stands = tt

pub returns : goal.returns
returns c =
    when-set _ _ _ _ c.args.id c.args.time c.requires.read c.in_ok-uint_leaf.ensures.exact c.set.ensures.ok c.set.ensures.master c.set.ensures.sound
    (c.in_ok-uint_leaf.ensures.stands CHAPTER_ATOM c.requires.id)
