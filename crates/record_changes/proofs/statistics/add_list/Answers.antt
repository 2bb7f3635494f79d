-- All parts of the list were looked at.
use Rattle.std.proofs.Common.{rules, ◌==◌, ℕ, List, subst}
use Rattle.std.proofs.lemmas.Iterator.Consumers.{YieldsList-end}
use Rattle.std.proofs.lemmas.Iterator.Splits.{YieldsList-from_slice_split}
use Rattle.record_changes.specs.Statistics.{AddsNames, names_among}
use Rattle.record_changes.proofs.statistics.add_list.Goals as goal

pub returns : goal.returns
returns c =
    let all = YieldsList-end (YieldsList-from_slice_split _ (λ byte. byte == 0x20) c.args.list.now (cc) (cc) c.split-part-items.ensures.closure (λ x r q k. search (rules)))
    c.loop-part.yielded _ c.loop-part.yielded_by _ _ c.in-None.is c.next.ensures.steps in
    let P : List (List ℕ) → Type 0 = λ parts. AddsNames c.args.names.now.keys c.loop-part.names.keys (names_among parts) in
    subst P all.0 c.loop-part.invariant
