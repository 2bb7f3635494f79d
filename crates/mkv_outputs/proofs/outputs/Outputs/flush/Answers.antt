use Rattle.std.proofs.Common.{◌≤◌, ap, arith, length, ◌∙◌}
use Rattle.mkv_outputs.proofs.FilesLemmas.{WritesOutputs-then}
use Rattle.mkv_outputs.proofs.GivenLemmas.{HaveBeenGiven-whole, length-same}
use Rattle.mkv_outputs.proofs.outputs.Outputs.flush.Goals as goal

-- The bytes that were written before one was refused.
pub returns-in_err-flush_one-clause-only : goal.returns-in_err-flush_one-clause-only
returns-in_err-flush_one-clause-only g c =
    WritesOutputs-then g.F.Reads g.F.Files c.args.files.now c.loop-k.files c.flush_one.new.files c.args.self.now c.loop-k.self c.flush_one.new.self c.requires c.loop-k.invariant.wrote c.flush_one.ensures.only

-- No bytes wait for one more output.
pub loop-k-preserved : goal.loop-k-preserved
loop-k-preserved g c = record {
  has = λ since given had. c.in_ok-flush_one.ensures.gives since given (c.loop-k.invariant.has since given had);
  passed = c.in_ok-flush_one.ensures.passed c.loop-k.invariant.passed;
  count = length-same c.args.self.now c.flush_one.new.self (c.flush_one.ensures.only.same ∙ c.loop-k.invariant.wrote.same);
  wrote = WritesOutputs-then g.F.Reads g.F.Files c.args.files.now c.loop-k.files c.flush_one.new.files c.args.self.now c.loop-k.self c.flush_one.new.self c.requires c.loop-k.invariant.wrote c.flush_one.ensures.only;
  writing = c.in_ok-flush_one.ensures.cause ∙ c.loop-k.invariant.writing;
}

-- No bytes wait any more.
pub returns-clause-finishes : goal.returns-clause-finishes
returns-clause-finishes g c = λ since given had.
    let all : length c.loop-k.self ≤ c.loop-k.k = omega (arith, c.loop-k-test.false, c.loop-k.invariant.count, c.len-k-end.ensures, ap length c.self.view_is) in
    HaveBeenGiven-whole since _ _ _ given (c.loop-k.invariant.has since given had) (λ k d low high. c.loop-k.invariant.passed k d low (omega arith))
