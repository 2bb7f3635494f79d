-- The keys of each input's tracks are appended.
use Rattle.std.proofs.Common.{ℕ, List, ◌∷◌, ◌++◌, ◌+◌, [], sym, ap, ◌∙◌, append-nil, append_assoc, drop, map, take}
use Rattle.std.proofs.lemmas.List.{map_push, take_all}
use Rattle.merge_inputs.specs.Input.{read_in}
use Rattle.merge_plan.specs.Records.{key_of, keys_from}
use Rattle.merge_plan.proofs.ListLemmas.{take-next}
use Rattle.merge_plan.proofs.RecordLemmas.{keys-next, keys-none}
use Rattle.merge_plan.proofs.entries.keys_of.Goals as goal

pub loop-track-preserved : goal.loop-track-preserved
loop-track-preserved c =
    let before = c.loop-number.keys.items in
    let number = c.loop-number.number in
    let tracks = c.tracks_begun-track-items.result.now in
    let k = c.loop-track.track-index in
    let key : ℕ × ℕ = key_of number c.track-item.result in
    c.in_ok-push.ensures.items
    ∙ ap (λ l. l ++ key ∷ []) c.loop-track.invariant
    ∙ append_assoc before (map (key_of number) (take k tracks)) (key ∷ [])
    ∙ ap (λ l. before ++ l) (sym (map_push (key_of number) (take k tracks) c.track-item.result) ∙ ap (map (key_of number)) (sym (take-next tracks k c.track-item.result c.loop-track-test.true c.track-item.is)))

pub loop-number-preserved : goal.loop-number-preserved
loop-number-preserved c =
    let before = c.loop-number.keys.items in
    let inputs = c.args.inputs.now in
    let number = c.loop-number.number in
    let input = c.index-inputs-number.result in
    let rest : List (ℕ × ℕ) = keys_from (number + 1) (map read_in (drop (number + 1) inputs)) in
    ap (λ l. l ++ rest) (c.loop-track.invariant ∙ ap (λ l. before ++ map (key_of number) l) (take_all _ _ c.loop-track-test.false ∙ c.tracks_begun-track-items.ensures))
    ∙ append_assoc before _ rest
    ∙ ap (λ l. before ++ l) (sym (keys-next inputs number input c.loop-number-test.true c.index-inputs-number.is))
    ∙ c.loop-number.invariant

pub returns : goal.returns
returns c =
    sym (append-nil c.loop-number.keys.items) ∙ ap (λ l. c.loop-number.keys.items ++ l) (sym (keys-none c.args.inputs.now c.loop-number.number c.loop-number-test.false)) ∙ c.loop-number.invariant
