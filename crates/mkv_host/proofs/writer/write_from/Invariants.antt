-- At most all bytes are written, and the written bytes are at their offset.
use Rattle.std.proofs.Common.{◌≡◌, ◌≤◌, length, take, Some}
use Rattle.mkv_io.specs.Contents.{overwritten}
use Rattle.mkv_io.specs.Told.{IfVisible}
use Rattle.mkv_host.proofs.writer.write_from.Given as goal

abbrev pub invariant-loop : goal.invariant-loop
invariant-loop g l = record {
  within : l.written ≤ length l.bytes;
  told : IfVisible (g.W.WriteAt.content l.initial.file) (λ was. l.at ≤ length was → g.W.WriteAt.content l.file ≡ Some (overwritten was l.at (take l.written l.bytes)));
}
