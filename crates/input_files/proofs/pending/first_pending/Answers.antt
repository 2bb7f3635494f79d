use Rattle.std.proofs.Common.{false, sym, ◌∙◌, ap, arith}
use Rattle.sidecar_edit.specs.Pending.{is_pending}
use Rattle.input_files.proofs.LooksLemmas.{LooksOnly-sidecar}
use Rattle.input_files.proofs.NamesLemmas.{first-next}
use Rattle.input_files.proofs.pending.first_pending.Goals as goal

-- A journal couldn't be read.
pub returns-in_err-is_pending-clause-looks : goal.returns-in_err-is_pending-clause-looks
returns-in_err-is_pending-clause-looks g c =
    LooksOnly-sidecar g.F.Reads g.F.Files c.args.words.now c.loop-k.k c.index-words-k.result c.as_str.result.now c.args.files.now c.loop-k.files c.is_pending.new.files
    c.loop-k-test.true c.index-words-k.is c.as_str.ensures.same c.loop-k.invariant.looks c.is_pending.ensures.looks

-- An edit is pending.
pub returns-then-branch-clause-looks : goal.returns-then-branch-clause-looks
returns-then-branch-clause-looks g c =
    LooksOnly-sidecar g.F.Reads g.F.Files c.args.words.now c.loop-k.k c.index-words-k.result c.as_str.result.now c.args.files.now c.loop-k.files c.is_pending.new.files
    c.loop-k-test.true c.index-words-k.is c.as_str.ensures.same c.loop-k.invariant.looks c.is_pending.ensures.looks

-- No edit is pending.
pub loop-k-preserved : goal.loop-k-preserved
loop-k-preserved g c =
    let words = c.args.words.now in
    let k = c.loop-k.k in
    let w = c.index-words-k.result in
    let inv = c.loop-k.invariant in
    record {
      first = λ world told.
          inv.first world told
          ∙ first-next (is_pending world) words k w false c.loop-k-test.true c.index-words-k.is
          (ap (is_pending world) (sym c.as_str.ensures.same) ∙ sym (c.in_ok-is_pending.ensures.exact world (inv.looks.names ∙ told)) ∙ c.if-branch.false);
      looks = LooksOnly-sidecar g.F.Reads g.F.Files words k w c.as_str.result.now c.args.files.now c.loop-k.files c.is_pending.new.files
          c.loop-k-test.true c.index-words-k.is c.as_str.ensures.same inv.looks c.is_pending.ensures.looks;
      reading = c.in_ok-is_pending.ensures.cause ∙ inv.reading;
      octets = omega (arith, inv.octets, c.is_pending.ensures.octets);
    }
