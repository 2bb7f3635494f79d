use Rattle.mkv_merge.proofs.TextsLemmas.{shared-more}
use Rattle.merge_inputs.specs.Input.{listings_in}
use Rattle.mkv_merge.proofs.texts.times_at.Goals as goal

-- One more item is added.
pub loop-each-preserved : goal.loop-each-preserved
loop-each-preserved c =
    shared-more c.args.input c.args.shared.now c.loop-each.each-index c.each-item.result (listings_in c.loop-each.times) (listings_in c.add_at.new.times) c.loop-each-test.true c.each-item.is c.loop-each.invariant c.in_ok-add_at.ensures
