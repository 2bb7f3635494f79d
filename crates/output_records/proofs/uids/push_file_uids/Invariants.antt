-- The FileUIDs of the previous files were appended.
use Rattle.std.proofs.Common.{◌≡◌, ◌++◌, take}
use Rattle.output_records.specs.Attachments.{file_uids}
use Rattle.output_records.proofs.uids.push_file_uids.Given as goal

abbrev pub invariant-loop-file : goal.invariant-loop-file
invariant-loop-file l = l.uids ≡ l.fn.uids ++ file_uids (take l.file-index l.files)
