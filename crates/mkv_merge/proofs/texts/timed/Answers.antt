use Rattle.std.proofs.Common.{◌≡◌, ℕ, if◌then◌else◌, List, [], ◌++◌, map, refl, sym, ◌∙◌, ap, append-nil, arith}
use Rattle.std.proofs.lemmas.List.{nil_from_length}
use Rattle.ext_times.specs.Listing.{Listing}
use Rattle.merge_inputs.specs.Input.{read_in}
use Rattle.merge_inputs.specs.declared.input.Input.{Input}
use Rattle.merge_plan.specs.Records.{is_appended}
use Rattle.mkv_merge.specs.Prepared.{reads_in}
use Rattle.mkv_merge.specs.Timed.{shared_at, shared_from, untimed}
use Rattle.mkv_merge.proofs.TextsLemmas.{same-more, timed-more}
use Rattle.mkv_merge.proofs.texts.timed.Goals as goal

-- One more input has its timestamps.
pub loop-number-preserved : goal.loop-number-preserved
loop-number-preserved c =
    let input : Input = c.in-Some.input in
    let timed : Input = record input { times = c.in_ok-times.times } in
    let left : List Input = c.loop-number.number-iterator.iter.rest.items in
    let rest : List Input = c.next.new.self.iter.rest.items in
    let all : List Input = c.into_iter-number-iterator.result.iter.rest.items in
    let steps = c.in-Some.ensures.steps in
    let given = c.in_ok-times.ensures ∙ ap (λ (n : ℕ). if is_appended (read_in input) then [] else shared_at n c.args.shared.now) steps.1 in
    record {
      exact = ap (λ (n : ℕ). reads_in c.push.new.self ++ shared_from c.args.shared.now n (reads_in rest)) steps.2
          ∙ timed-more c.args.shared.now c.loop-number.number-iterator.count c.loop-number.list c.push.new.self input timed left rest all steps.0.0 c.loop-number.invariant.exact
          (ap (λ (times : List (ℕ × Listing)). record (read_in input) { times = times }) given) c.in_ok-push.ensures.ok;
      same = same-more c.loop-number.list c.push.new.self input timed left rest all steps.0.0 c.loop-number.invariant.same refl c.in_ok-push.ensures.ok;
    }

-- All inputs have their timestamps.
pub returns : goal.returns
returns c =
    let list : List Input = c.loop-number.list in
    let left : List Input = c.loop-number.number-iterator.iter.rest.items in
    let none : left ≡ [] = nil_from_length left (omega (arith, c.loop-number.number-iterator.iter.rest.ok, c.in-None.ensures.steps.0.0)) in
    let all : c.into_iter-number-iterator.result.iter.rest.items ≡ c.args.inputs = cc in
    record {
      exact = sym (append-nil (reads_in list))
          ∙ ap (λ (inputs : List Input). reads_in list ++ shared_from c.args.shared.now c.loop-number.number-iterator.count (reads_in inputs)) (sym none)
          ∙ c.loop-number.invariant.exact
          ∙ ap (λ (inputs : List Input). shared_from c.args.shared.now 0 (reads_in inputs)) all;
      same = sym (append-nil (map untimed list))
          ∙ ap (λ (inputs : List Input). map untimed list ++ map untimed inputs) (sym none)
          ∙ c.loop-number.invariant.same
          ∙ ap (map untimed) all;
    }
