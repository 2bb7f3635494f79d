use Rattle.std.proofs.Common.{◌-◌, ◌≡◌, ◌≤◌, IsTrue, length}
use Rattle.mkv_io.specs.Sources.{file_size}
use Rattle.mkv_disk.specs.Moments.{LeavesOnly}
use Rattle.mkv_disk.specs.Pair.{IsPairImage}
use Rattle.mkv_disk.specs.Writing.{HasNoFault, KeepsOpen}
use Rattle.mkv_disk.specs.declared.disk.TheConstants.{SIDECAR}
use Rattle.sidecar_edit.specs.Copies.{with_copy}
use Rattle.sidecar_edit.specs.declared.copying.TheConstants.{PIECE}
use Rattle.sidecar_edit.proofs.CopiesLemmas.{Copied}
use Rattle.sidecar_edit.proofs.copying.copy.Given as goal

-- The first bytes are copied.
abbrev pub invariant-loop-done : goal.invariant-loop-done
invariant-loop-done g l =
    let old = g.D.Disk.pair l.fn.disk in
    record {
      room : length l.buffer ≡ PIECE;
      within : l.done ≤ l.place.len;
      copied : IsTrue g.D.Disk.told → Copied l.from l.place.at old l.done (g.D.Disk.pair l.disk);
      moments : IsTrue g.D.Disk.told → LeavesOnly g.D.Disk.moment g.D.Disk.left_since l.fn.disk l.disk (IsPairImage (with_copy old l.from l.place.at l.place.len));
      only : KeepsOpen g.D.Reads g.D.Disk l.fn.disk l.disk l.done;
      beside : file_size g.D.Reads l.disk SIDECAR ≡ file_size g.D.Reads l.fn.disk SIDECAR;
      faults : HasNoFault g.D.Reads g.D.Disk l.fn.disk l.disk;
    }

abbrev pub decreases-loop-done : goal.decreases-loop-done
decreases-loop-done g l = l.place.len - l.done
