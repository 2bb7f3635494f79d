-- The FileUIDs of the previous inputs were appended.
use Rattle.std.proofs.Common.{◌≡◌, take}
use Rattle.output_records.specs.Attachments.{files_of, file_uids}
use Rattle.output_records.proofs.attachments.file_numbers.Given as goal

abbrev pub invariant-loop-input : goal.invariant-loop-input
invariant-loop-input l = l.uids ≡ file_uids (files_of (take l.input-index l.inputs))
