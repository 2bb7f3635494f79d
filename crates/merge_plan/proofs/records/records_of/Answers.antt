-- Each input takes the numbers of its output tracks.
use Rattle.std.proofs.Common.{◌≡◌, length, refl, ap, subst, sym, ◌∙◌}
use Rattle.std.specs.List.{All}
use Rattle.std.proofs.lemmas.List.{drop_all}
use Rattle.std.proofs.lemmas.List.Elements.{All-push}
use Rattle.output_records.specs.Inputs.{IsInput}
use Rattle.merge_plan.specs.Order.{in_order, picked}
use Rattle.merge_plan.specs.Records.{is_begun_by, lanes_with}
use Rattle.merge_plan.specs.TakenTracks.{HasRecords}
use Rattle.merge_plan.proofs.FileLemmas.{records-next, records-none}
use Rattle.merge_plan.proofs.ListLemmas.{drop-next}
use Rattle.merge_plan.proofs.OrderLemmas.{in_order-length}
use Rattle.merge_plan.proofs.records.records_of.Goals as goal

pub records_in-requires : goal.records_in-requires
records_in-requires c = subst HasRecords (sym c.index-inputs-number.is) (c.requires.records c.loop-number.number c.index-inputs-number.result c.loop-number-test.true)

pub uids_at-requires : goal.uids_at-requires
uids_at-requires c =
    let keys = c.args.keys.now in
    c.requires.numbers ∙ sym (ap length (c.as_slice.ensures.value ∙ c.in_ok-sorted.ensures ∙ ap (in_order c.args.order.now keys) c.in_ok-from_slice.ensures.items) ∙ in_order-length c.args.order.now keys keys refl)

pub loop-number-preserved : goal.loop-number-preserved
loop-number-preserved c =
    let order = c.args.order.now in
    let keys = c.args.keys.now in
    let number = c.loop-number.number in
    let input = c.index-inputs-number.result in
    let owner = c.owner_at-owner.result in
    let next = drop-next c.args.inputs.now number input c.loop-number-test.true c.index-inputs-number.is in
    let sorted : c.as_slice.result.now ≡ in_order order keys keys = c.as_slice.ensures.value ∙ c.in_ok-sorted.ensures ∙ ap (in_order order keys) c.in_ok-from_slice.ensures.items in
    record {
      all =
          records-next (lanes_with order keys c.args.numbers.now) c.loop-number.owner number owner input c.in_ok-own.own c.in_ok-output.output _ _ c.loop-number.records _ _ c.in_ok-records_in.field-0
          c.owner_at-owner.ensures c.in_ok-own.ensures (c.in_ok-output.ensures ∙ ap (λ ks. picked (is_begun_by owner) ks c.args.numbers.now) sorted) next c.in_ok-records_in.ensures.exact c.in_ok-push.ensures.ok c.loop-number.invariant.all;
      read = subst (All IsInput) (sym c.in_ok-push.ensures.ok) (All-push IsInput c.loop-number.records c.in_ok-records_in.field-0 c.loop-number.invariant.read c.in_ok-records_in.ensures.read);
    }

pub returns-clause-exact : goal.returns-clause-exact
returns-clause-exact c =
    records-none (lanes_with c.args.order.now c.args.keys.now c.args.numbers.now) c.loop-number.owner c.loop-number.number c.loop-number.records _ _ (drop_all c.loop-number.number c.args.inputs.now c.loop-number-test.false) c.loop-number.invariant.all
