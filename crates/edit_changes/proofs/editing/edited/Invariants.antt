use Rattle.std.proofs.Common.{◌≡◌, drop, IfSome}
use Rattle.std.specs.List.{All}
use Rattle.mkv_schema.specs.declared.ids.TheConstants.{INFO, TRACKS}
use Rattle.tree_format.specs.Standing.{StandsIn}
use Rattle.ebml_tree.specs.Building.{IsRead}
use Rattle.edit_changes.specs.Change.{edited_trees, edited_from}
use Rattle.edit_changes.proofs.editing.edited.Given as goal

-- The trees after the remaining edits are the trees after all edits.
abbrev pub invariant-loop-k : goal.invariant-loop-k
invariant-loop-k l = record {
  info : IfSome l.info (IsRead INFO);
  tracks : All (StandsIn TRACKS) l.tracks.items;
  made : edited_trees l.fn.edits l.fn.trees ≡ edited_from l.k (drop l.k l.fn.edits) (record { info = l.info; tracks = l.tracks.items });
}
