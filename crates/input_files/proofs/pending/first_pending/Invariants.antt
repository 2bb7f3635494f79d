-- No edit of the first files is pending, and nothing else has changed.
use Rattle.std.proofs.Common.{◌≡◌, ◌+◌, ◌*◌, ◌≤◌, drop, map}
use Rattle.mkv_io.specs.Told.{IfVisible}
use Rattle.sidecar_edit.specs.declared.place.TheConstants.{HEAD}
use Rattle.sidecar_edit.specs.Name.{sidecar_of}
use Rattle.sidecar_edit.specs.Pending.{LooksOnly}
use Rattle.input_files.specs.Inputs.{file_names, first_pending}
use Rattle.input_files.proofs.NamesLemmas.{pending_from}
use Rattle.input_files.proofs.pending.first_pending.Given as goal

abbrev pub invariant-loop-k : goal.invariant-loop-k
invariant-loop-k g l = record {
  first : IfVisible (g.F.Files.names l.initial.files) (λ world. first_pending world (file_names l.words) ≡ pending_from world l.k (drop l.k l.words));
  looks : LooksOnly g.F.Reads g.F.Files (map sidecar_of (file_names l.words)) l.initial.files l.files;
  reading : g.F.Reads.reading_faults l.files ≡ g.F.Reads.reading_faults l.initial.files;
  octets : g.F.Reads.octets_read l.files ≤ g.F.Reads.octets_read l.initial.files + HEAD * l.k;
}
