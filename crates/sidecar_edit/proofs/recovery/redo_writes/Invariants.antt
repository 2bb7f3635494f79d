use Rattle.std.proofs.Common.{◌≡◌, ◌+◌, IsTrue, take}
use Rattle.mkv_io.specs.Sources.{file_size}
use Rattle.mkv_disk.specs.Moments.{LeavesOnly}
use Rattle.mkv_disk.specs.Writing.{HasNoFault, KeepsOpen}
use Rattle.mkv_disk.specs.declared.disk.TheConstants.{SIDECAR}
use Rattle.sidecar_edit.specs.Fields.{head_len, sum_of, used_in, version_in}
use Rattle.sidecar_edit.specs.Writes.{Torn}
use Rattle.sidecar_edit.specs.Partly.{IsPartly}
use Rattle.sidecar_edit.proofs.CopiesLemmas.{writes_by}
use Rattle.sidecar_edit.proofs.recovery.redo_writes.Given as goal

-- The first writes are made.
abbrev pub invariant-loop-k : goal.invariant-loop-k
invariant-loop-k g l =
    let M = (g.D.Disk.pair l.fn.disk).media.reads in
    let S = (g.D.Disk.pair l.fn.disk).sidecar.reads in
    record {
      start : l.from ≡ head_len (version_in l.head) + sum_of (take l.k (used_in l.head));
      partly : IsTrue g.D.Disk.told → IsPartly (writes_by l.head S) l.k M S (g.D.Disk.pair l.disk);
      moments : IsTrue g.D.Disk.told → LeavesOnly g.D.Disk.moment g.D.Disk.left_since l.fn.disk l.disk (λ m s. Torn (writes_by l.head S) M m × (s ≡ S));
      only : KeepsOpen g.D.Reads g.D.Disk l.fn.disk l.disk (sum_of (take l.k (used_in l.head)));
      beside : file_size g.D.Reads l.disk SIDECAR ≡ file_size g.D.Reads l.fn.disk SIDECAR;
      faults : HasNoFault g.D.Reads g.D.Disk l.fn.disk l.disk;
    }
