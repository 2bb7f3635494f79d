-- The Info is the one that was read, and the table allows the children of Tracks there.
use Rattle.std.proofs.Common.{List, sym, ◌∙◌, subst}
use Rattle.std.specs.List.{All}
use Rattle.mkv_schema.specs.declared.ids.TheConstants.{TRACKS}
use Rattle.tree_format.specs.Node.{Node}
use Rattle.tree_format.specs.Standing.{StandsIn}
use Rattle.edit_plan.proofs.TreesLemmas.{children-stand, good-read}
use Rattle.edit_plan.proofs.reading.read_trees.Goals as goal

pub returns-clause-sound : goal.returns-clause-sound
returns-clause-sound g c =
    let P : List Node → Type 0 = λ l. All (StandsIn TRACKS) l in
    record {
      info = good-read c.in_ok-info.info c.in_ok-info-2.info (sym c.in_ok-info-2.ensures) c.in_ok-info.ensures.read;
      tracks = subst P (sym (c.from_vec.ensures ∙ c.into_children.ensures.exact)) (children-stand c.in_ok-tracks-2.tracks c.in_ok-tracks-2.ensures.read);
    }
