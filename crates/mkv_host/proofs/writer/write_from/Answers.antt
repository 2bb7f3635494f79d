use Rattle.std.proofs.Common.{Some, ◌+◌, ap, arith, drop, take, ◌∙◌}
use Rattle.std.proofs.lemmas.Grind.{common_steps}
use Rattle.std.proofs.lemmas.List.{take_rest}
use Rattle.mkv_io.specs.Contents.{with_overwritten}
use Rattle.mkv_host.proofs.WriterLemmas.{overwritten-next}
use Rattle.mkv_host.proofs.writer.write_from.Goals as goal

-- The next bytes follow the written ones.
pub loop-preserved : goal.loop-preserved
loop-preserved g c = record {
  within = grind (arith, common_steps);
  told = λ was told within. rw (take_rest c.args.bytes.now c.loop.written) at c.in-Some.ensures.first ∙ ap (with_overwritten (c.args.at + c.loop.written) (take c.in-Some.count (drop c.loop.written c.args.bytes.now))) (c.loop.invariant.told was told within)
      ∙ ap Some (overwritten-next was c.args.bytes.now c.args.at c.loop.written c.in-Some.count within c.loop.invariant.within);
}
