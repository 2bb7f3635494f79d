use Rattle.std.proofs.Common.{◌≡◌, IsTrue, drop, take}
use Rattle.mkv_disk.specs.Writing.{OnlyWrites}
use Rattle.mkv_disk.specs.Moments.{LeavesOnly}
use Rattle.sidecar_edit.specs.Fields.{sum_of, writes_of}
use Rattle.sidecar_edit.specs.Writes.{Torn}
use Rattle.sidecar_edit.specs.Partly.{IsPartly}
use Rattle.sidecar_edit.proofs.edit.write_media.Given as goal

-- The first writes are made.
abbrev pub invariant-loop-place : goal.invariant-loop-place
invariant-loop-place g l =
    let M = (g.D.Disk.pair l.fn.disk).media.reads in
    let S = (g.D.Disk.pair l.fn.disk).sidecar.reads in
    record {
      rest : l.rest ≡ drop (sum_of (take l.place-index l.plan.head.places)) l.plan.payload;
      partly : IsTrue g.D.Disk.told → IsPartly (writes_of l.plan) l.place-index M S (g.D.Disk.pair l.disk);
      moments : IsTrue g.D.Disk.told → LeavesOnly g.D.Disk.moment g.D.Disk.left_since l.fn.disk l.disk (λ m s. Torn (writes_of l.plan) M m × (s ≡ S));
      only : OnlyWrites g.D.Reads g.D.Disk l.fn.disk l.disk;
      faults : g.D.Disk.writing_faults l.disk ≡ g.D.Disk.writing_faults l.fn.disk;
    }
