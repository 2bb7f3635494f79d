-- A scale is an integer of the table.
use Rattle.std.proofs.Common.{sym}
use Rattle.tree_format.proofs.ChildLemmas.{HasUint-of, first_child-short}
use Rattle.file_format.proofs.InfoLemmas.{timestamp_scale}
use Rattle.meta_records.proofs.info.refusal_of.Goals as goal

pub uint-requires : goal.uint-requires
uint-requires c = first_child-short _ _ _ c.requires.sound (HasUint-of _ _ _ c.requires timestamp_scale) (sym c.in_ok-scale.ensures.exact)
