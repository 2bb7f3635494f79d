-- The previous files have their numbers.
use Rattle.std.proofs.Common.{◌≡◌, ◌++◌, take}
use Rattle.std.specs.Prelude.{All}
use Rattle.output_records.specs.Attachments.{files_of, with_uids}
use Rattle.output_records.specs.Inputs.{IsAttached}
use Rattle.output_records.proofs.attachments.attachments_of.Given as goal

abbrev pub invariant-loop-input : goal.invariant-loop-input
invariant-loop-input l = record {
  exact : l.written ≡ with_uids l.numbers (files_of (take l.input-index l.inputs));
  sound : All IsAttached l.written;
}

abbrev pub invariant-loop-file : goal.invariant-loop-file
invariant-loop-file l = record {
  exact : l.written ≡ with_uids l.numbers (files_of (take l.input-index l.inputs) ++ take l.file-index l.file-items);
  sound : All IsAttached l.written;
}
