-- The starts of the previous atoms were appended.
use Rattle.std.proofs.Common.{◌≡◌, ◌++◌, map, take}
use Rattle.mkv_schema.specs.declared.ids.TheConstants.{CHAPTER_ATOM}
use Rattle.tree_format.specs.Changes.{part}
use Rattle.record_changes.specs.Cut.{start_of}
use Rattle.record_changes.proofs.starts.push_starts.Given as goal

abbrev pub invariant-loop-child : goal.invariant-loop-child
invariant-loop-child l = l.starts ≡ l.fn.starts ++ map start_of (part CHAPTER_ATOM (take l.child-index l.child-items))
