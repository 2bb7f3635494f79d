-- The first files are open, and nothing else has changed.
use Rattle.std.proofs.Common.{◌≡◌, drop, take, length, vec_len, vec_capacity}
use Rattle.mkv_io.specs.Told.{IfVisible}
use Rattle.input_files.specs.Inputs.{LeavesContents, OpensInputs, first_missing}
use Rattle.input_files.proofs.NamesLemmas.{missing_from}
use Rattle.input_files.proofs.files.open_all.Given as goal

abbrev pub invariant-loop-k : goal.invariant-loop-k
invariant-loop-k g l = record {
  opens : OpensInputs g.F.Reads g.F.Files (take l.k l.names) l.initial.files l.files l.ids.items;
  missing : IfVisible (g.F.Files.names l.initial.files) (λ world. first_missing world l.names ≡ missing_from world l.k (drop l.k l.names));
  same : LeavesContents g.F.Reads g.F.Files l.initial.files l.files;
  count : vec_len l.ids ≡ l.k;
  room : vec_capacity l.ids ≡ length l.names;
  reading : g.F.Reads.reading_faults l.files ≡ g.F.Reads.reading_faults l.initial.files;
}
