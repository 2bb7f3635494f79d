-- The first track that WebM doesn't allow is found.
use Rattle.std.proofs.Common.{sym, ◌∙◌}
use Rattle.merge_plan.proofs.RefusalLemmas.{codec-found, codec-passed, codec-none}
use Rattle.merge_plan.proofs.plan.other_codec.Goals as goal

pub returns-then-not-is_webm_track : goal.returns-then-not-is_webm_track
returns-then-not-is_webm_track c =
    sym (codec-found c.args.taken.now _ _ c.loop-each-test.true c.each-item.is (sym c.is_webm_track.ensures ∙ c.if-not-is_webm_track.true)) ∙ c.loop-each.invariant

pub loop-each-preserved : goal.loop-each-preserved
loop-each-preserved c =
    sym (codec-passed c.args.taken.now _ _ c.loop-each-test.true c.each-item.is (sym c.is_webm_track.ensures ∙ c.if-not-is_webm_track.false)) ∙ c.loop-each.invariant

pub returns : goal.returns
returns c = sym (codec-none c.args.taken.now _ c.loop-each-test.false) ∙ c.loop-each.invariant
