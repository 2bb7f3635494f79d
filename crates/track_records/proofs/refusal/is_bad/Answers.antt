-- Both are integers of the table.
use Rattle.std.proofs.Common.{sym, ◌∙◌}
use Rattle.track_records.proofs.EntryLemmas.{stands-short, number, default_duration}
use Rattle.track_records.proofs.refusal.is_bad.Goals as goal

pub uint-requires : goal.uint-requires
uint-requires c = stands-short _ _ c.requires (sym c.in-215.is ∙ c.id.ensures) number

pub uint-requires-in-2352003 : goal.uint-requires-in-2352003
uint-requires-in-2352003 c = stands-short _ _ c.requires (sym c.in-2352003.is ∙ c.id.ensures) default_duration
