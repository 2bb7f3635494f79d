-- The results found and the rest make the whole.
use Rattle.std.proofs.Common.{◌≡◌, ◌+◌, ◌≤◌, ◌++◌}
use Rattle.mkv_io.specs.Told.{IfVisible}
use Rattle.sidecar_edit.specs.Pending.{LooksOnly}
use Rattle.input_files.specs.TimesFile.{times_from, times_names}
use Rattle.input_files.specs.declared.limits.TheConstants.{MAX_ALL_TIMES_LEN}
use Rattle.input_files.proofs.LooksLemmas.{AreAmong}
use Rattle.input_files.proofs.TimesLemmas.{octets_of}
use Rattle.input_files.proofs.times_file.read_times_files.Given as goal

abbrev pub invariant-loop-named : goal.invariant-loop-named
invariant-loop-named g l = record {
  exact : IfVisible (g.F.Files.names l.initial.files) (λ world.
      l.list ++ times_from world l.room l.named-iterator.rest.items ≡ times_from world MAX_ALL_TIMES_LEN l.initial.named-iterator.rest.items);
  looks : LooksOnly g.F.Reads g.F.Files (times_names l.initial.named-iterator.rest.items) l.initial.files l.files;
  among : AreAmong l.named-iterator.rest.items l.initial.named-iterator.rest.items;
  reading : g.F.Reads.reading_faults l.files ≡ g.F.Reads.reading_faults l.initial.files;
  octets : IfVisible (g.F.Files.names l.initial.files) (λ world.
      g.F.Reads.octets_read l.files + octets_of world l.named-iterator.rest.items ≤ g.F.Reads.octets_read l.initial.files + octets_of world l.initial.named-iterator.rest.items);
}
