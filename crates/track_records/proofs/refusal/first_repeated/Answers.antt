-- A number that is new isn't repeated.
use Rattle.std.proofs.Common.{sym, ◌∙◌, get_or}
use Rattle.file_format.specs.Refusal.{is_repeated}
use Rattle.track_records.proofs.RefusalLemmas.{find-passes, known-next, added-new}
use Rattle.track_records.proofs.refusal.first_repeated.Goals as goal

pub loop-k-preserved : goal.loop-k-preserved
loop-k-preserved c =
    let numbers = c.args.numbers.now in
    let new = added-new _ _ c.in_ok-insert.ensures.added c.if-not-branch.false in
    record {
      told = find-passes (is_repeated numbers) _ _ _ c.loop-k-test.true (sym (c.loop-k.invariant.known (get_or numbers c.loop-k.k 0)) ∙ new) c.loop-k.invariant.told;
      known = λ q. known-next numbers c.loop-k.k q _ _ c.loop-k-test.true (c.loop-k.invariant.known q) (c.in_ok-insert.ensures.updates.0 q);
    }
