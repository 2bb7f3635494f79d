-- The first encoding and the next one decide.
use Rattle.std.proofs.Common.{sym, ◌∙◌}
use Rattle.tree_format.proofs.ChildLemmas.{first_child-sound}
use Rattle.file_format.proofs.EncodingLemmas.{undone-none, undone-one}
use Rattle.track_records.proofs.encoding.can_be_undone.Goals as goal

pub strips_headers-requires : goal.strips_headers-requires
strips_headers-requires c = first_child-sound _ _ _ c.requires.sound (sym c.in-Some.ensures.exact)

pub returns-in-None : goal.returns-in-None
returns-in-None c = sym (undone-none c.args.encodings.now (sym c.in-None.ensures.exact))

pub returns-in-None-nth : goal.returns-in-None-nth
returns-in-None-nth c = c.strips_headers.ensures ∙ sym (undone-one c.args.encodings.now c.in-Some.encoding.now (sym c.in-Some.ensures.exact) (sym c.in-None-nth.ensures.exact))
