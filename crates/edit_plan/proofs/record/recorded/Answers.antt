-- The places of the record are in order.
use Rattle.std.proofs.Common.{◌≡◌, ◌∙◌, max, length, map, ap, sym, subst, arith}
use Rattle.std.specs.Prelude.{IfOk}
use Rattle.sidecar_edit.specs.Fields.{AreInOrder, Planned, last_end}
use Rattle.edit_plan.specs.Shown.{written}
use Rattle.edit_plan.proofs.RecordLemmas.{extent-end, places-octets, planned-record}
use Rattle.edit_plan.proofs.record.recorded.Goals as goal

pub end_behind-requires-clause-small : goal.end_behind-requires-clause-small
end_behind-requires-clause-small c =
    let sum = places-octets (map written c.args.writes.now) c.as_slice.result.now c.in_ok-payload.payload (c.as_slice.ensures.value ∙ c.in_ok-places.ensures) c.in_ok-payload.ensures in
    let len = c.len-2.ensures.exact in
    omega (arith, sum, len)

pub end_behind-requires-clause-from : goal.end_behind-requires-clause-from
end_behind-requires-clause-from c =
    let sum = places-octets (map written c.args.writes.now) c.as_slice.result.now c.in_ok-payload.payload (c.as_slice.ensures.value ∙ c.in_ok-places.ensures) c.in_ok-payload.ensures in
    let len = c.len-2.ensures.exact in
    omega (arith, sum, len)

pub new-requires : goal.new-requires
new-requires c =
    let items = c.in_ok-places.places.items in
    let sum = places-octets (map written c.args.writes.now) items c.in_ok-payload.payload c.in_ok-places.ensures c.in_ok-payload.ensures in
    let len = c.len-2.ensures.exact in
    let end = c.in-Some.ensures.1 ∙ ap (last_end 0) c.as_slice.ensures.value in
    record {
      sound = record {
        few = omega arith;
        order = subst (AreInOrder c.args.old_len 0) c.as_slice.ensures.value c.in-Some.ensures.0;
        small = omega (arith, sum, len);
        short = c.requires.short;
        new_len = c.max.ensures ∙ ap (max c.args.old_len) end;
        first = c.requires.first;
      };
      full = ap length c.as_slice-2.ensures ∙ sym sum;
    }

pub returns-clause-exact : goal.returns-clause-exact
returns-clause-exact c =
    let ws = map written c.args.writes.now in
    let order = subst (AreInOrder c.args.old_len 0) c.as_slice.ensures.value c.in-Some.ensures.0 in
    let end = c.in-Some.ensures.1 ∙ ap (last_end 0) c.as_slice.ensures.value in
    let extent = extent-end c.args.old_len c.in-Some.end c.in_ok-places.places.items ws c.in_ok-places.ensures order end in
    subst (λ (p : Planned). IfOk c.new.result (λ plan. plan ≡ p))
    (planned-record c.args.old_len c.max.result c.args.first.now c.in_ok-places.places.items c.as_slice-2.result.now ws (c.max.ensures ∙ sym extent) c.in_ok-places.ensures (c.as_slice-2.ensures ∙ c.in_ok-payload.ensures))
    c.new.ensures
