-- The first attached files were appended.
use Rattle.std.proofs.Common.{take}
use Rattle.mkv_io.specs.Sources.{live_files}
use Rattle.cues_seekhead.specs.Appending.{AppendsOnly}
use Rattle.cues_seekhead.proofs.AppendingLemmas.{no_refusal}
use Rattle.cues_seekhead.proofs.AttachingLemmas.{attached_octets, data_total}
use Rattle.cues_seekhead.proofs.attaching.add_each.Given as goal

abbrev pub invariant-loop-attachment : goal.invariant-loop-attachment
invariant-loop-attachment g l =
    AppendsOnly g.F.Reads g.F.Files l.file (attached_octets (live_files g.F.Reads l.fn.files) (take l.attachment-index l.attachments)) (data_total (take l.attachment-index l.attachments)) l.fn.files l.files no_refusal
