-- One more input is placed.
use Rattle.std.proofs.Common.{◌≡◌, ◌+◌, ◌*◌, ◌≤◌, ℕ, List, Option, length, ap, subst, ◌∙◌, arith}
use Rattle.std.specs.Option.{unwrap_or}
use Rattle.mkv_io.specs.LiveFiles.{LiveFiles}
use Rattle.mkv_io.specs.Sources.{live_files}
use Rattle.merge_inputs.specs.declared.input.Input.{Input}
use Rattle.merge_plan.specs.Behind.{IsBehind, most_behind, size_behind, walked_for}
use Rattle.merge_plan.specs.Placed.{walked_length}
use Rattle.merge_plan.proofs.PlaceLemmas.{goes-more, goes-paid}
use Rattle.merge_plan.proofs.placing.assign_append_offsets.Goals as goal

pub loop-input-preserved : goal.loop-input-preserved
loop-input-preserved g c =
    let f = live_files g.R.Reads c.args.src.now in
    let now = live_files g.R.Reads c.loop-input.src in
    let inv = c.loop-input.invariant in
    let here : now ≡ f = ap g.R.Reads.files inv.standing in
    let all : List Input = c.into_iter-input-iterator.result.rest.items in
    let left : List Input = c.loop-input.input-iterator.rest.items in
    let rest : List Input = c.next.new.self.rest.items in
    let placed : List Input = c.loop-input.placed in
    let new : List Input = c.push.new.self in
    let input : Input = c.in-Some.input in
    let shift : Option ℕ = c.in_ok-shift.shift in
    let near : unwrap_or shift 0 ≤ most_behind placed = subst (λ (ps : List Input). unwrap_or shift 0 ≤ most_behind ps) c.as_slice.ensures c.in_ok-shift.ensures.near in
    let behind : IsBehind f placed input.shift shift =
    subst (λ (files : LiveFiles). IsBehind files placed input.shift shift) here (subst (λ (ps : List Input). IsBehind now ps input.shift shift) c.as_slice.ensures c.in_ok-shift.ensures.exact) in
    let paid : g.R.Reads.octets_read c.shift_behind.new.src ≤ g.R.Reads.octets_read c.loop-input.src + 2 * walked_for input.shift (size_behind f placed) =
    subst (λ (files : LiveFiles). g.R.Reads.octets_read c.shift_behind.new.src ≤ g.R.Reads.octets_read c.loop-input.src + 2 * walked_for input.shift (size_behind files placed)) here
    (subst (λ (ps : List Input). g.R.Reads.octets_read c.shift_behind.new.src ≤ g.R.Reads.octets_read c.loop-input.src + 2 * walked_for input.shift (size_behind now ps)) c.as_slice.ensures c.shift_behind.ensures.octets) in
    let whole : all ≡ c.args.inputs = c.into_iter-input-iterator.ensures.into_iter_gives.0 ∙ c.into_vec-input-items.ensures in
    record {
      goes = goes-more f all placed new left rest input shift inv.goes c.in-Some.ensures.steps.0 near behind c.in_ok-push.ensures.ok (omega (arith, ap (λ (l : List Input). length l) whole, c.requires.few));
      standing = c.in_ok-shift.ensures.standing ∙ inv.standing;
      faults = c.in_ok-shift.ensures.cause ∙ inv.faults;
      octets = goes-paid f all placed new left rest input shift inv.goes c.in-Some.ensures.steps.0 near behind c.in_ok-push.ensures.ok (g.R.Reads.octets_read c.args.src.now + 2 * walked_length f all) (g.R.Reads.octets_read c.loop-input.src) (g.R.Reads.octets_read c.shift_behind.new.src) inv.octets paid;
    }
