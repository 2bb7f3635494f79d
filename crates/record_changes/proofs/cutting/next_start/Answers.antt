-- The first atom was read.
use Rattle.std.proofs.Common.{sym}
use Rattle.mkv_schema.specs.declared.ids.TheConstants.{CHAPTER_ATOM}
use Rattle.record_changes.proofs.CutLemmas.{find-read}
use Rattle.record_changes.proofs.cutting.next_start.Goals as goal

pub start_of-requires : goal.start_of-requires
start_of-requires c = find-read CHAPTER_ATOM _ _ c.requires (sym c.in_ok-atom.ensures)
