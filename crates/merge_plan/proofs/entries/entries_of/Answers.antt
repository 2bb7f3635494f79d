-- Each track's entry has its number and its identifier.
use Rattle.std.proofs.Common.{◌++◌, length, sym, ap, subst, ◌∙◌, arith}
use Rattle.std.specs.List.{All}
use Rattle.std.proofs.lemmas.List.Elements.{All-push}
use Rattle.track_records.specs.Entry.{IsWholeEntry}
use Rattle.merge_inputs.specs.Taken.{IsTaken}
use Rattle.merge_plan.specs.Lent.{lent}
use Rattle.merge_plan.specs.Records.{entries_from}
use Rattle.merge_plan.proofs.ListLemmas.{length-lent, lent-each}
use Rattle.merge_plan.proofs.RecordLemmas.{length-uids, entries-next, entries-all}
use Rattle.merge_plan.proofs.entries.entries_of.Goals as goal

pub loop-k-init : goal.loop-k-init
loop-k-init c = record { all = ap (λ l. l ++ entries_from 1 c.args.uids.now (lent c.args.taken.now)) c.new-entries.ensures; whole = subst (All IsWholeEntry) (sym c.new-entries.ensures) (λ k d inside. absurd (omega arith)) }

pub bounds-uids-k : goal.bounds-uids-k
bounds-uids-k c =
    let as_many = ap length c.requires.uids ∙ length-uids (lent c.args.taken.now) ∙ length-lent c.args.taken.now in
    let inside = c.loop-k-test.true in
    omega arith

pub entry_of-requires : goal.entry_of-requires
entry_of-requires c = lent-each c.args.taken.now _ _ c.loop-k-test.true c.index-taken-k.is IsTaken c.requires.taken

pub loop-k-preserved : goal.loop-k-preserved
loop-k-preserved c =
    let taken = c.args.taken.now in
    let as_many = ap length c.requires.uids ∙ length-uids (lent taken) ∙ length-lent taken in
    record {
      all = entries-next c.args.uids.now taken _ c.index-taken-k.result c.loop-k-test.true c.index-taken-k.is as_many _ _ _ _ c.in_ok-entry_of.ensures.exact c.in_ok-push.ensures.ok c.loop-k.invariant.all;
      whole = subst (All IsWholeEntry) (sym c.in_ok-push.ensures.ok) (All-push IsWholeEntry c.loop-k.entries c.in_ok-entry_of.field-0 c.loop-k.invariant.whole c.in_ok-entry_of.ensures.whole);
    }

pub returns-clause-exact : goal.returns-clause-exact
returns-clause-exact c =
    let taken = c.args.taken.now in
    let as_many = ap length c.requires.uids ∙ length-uids (lent taken) ∙ length-lent taken in
    entries-all c.args.uids.now taken _ _ _ c.loop-k-test.false as_many c.loop-k.invariant.all ∙ ap (λ us. entries_from 1 us (lent taken)) c.requires.uids

pub returns-clause-whole : goal.returns-clause-whole
returns-clause-whole c = c.loop-k.invariant.whole
