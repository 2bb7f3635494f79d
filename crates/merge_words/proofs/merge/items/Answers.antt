use Rattle.std.proofs.Common.{length, ◌≡◌, ◌++◌, ◌∷◌, [], ◌∙◌, sym}
use Rattle.std.proofs.lemmas.Result.{err_from_is_err_and}
use Rattle.word_values.specs.Place.{texts}
use Rattle.merge_words.proofs.MergeLemmas.{items_next, items_fail}
use Rattle.merge_words.proofs.merge.items.Goals as goal

-- This item joins those before it.
pub loop-word-preserved : goal.loop-word-preserved
loop-word-preserved c =
    let l = c.loop-word in let ws = c.args.words.now in
    let e = items_next (length ws) l.items c.in_ok-item.item l.at c.in-Some.word.now (texts ws) c.in-Some.ensures.rest (rw (c.as_slice.ensures, c.meaning_of-means.ensures) at c.in_ok-item.ensures) in
    sym (let joined : c.push.new.self ≡ l.items ++ c.in_ok-item.item ∷ [] = c.in_ok-push.ensures.ok in rw (joined, c.width-at.ensures, c.meaning_of-means.ensures) e) ∙ l.invariant

-- Its refusal is the first.
pub returns-in_err-item : goal.returns-in_err-item
returns-in_err-item c =
    let l = c.loop-word in let ws = c.args.words.now in
    let p = err_from_is_err_and c.from_residual.result c.from_residual.ensures.1 in
    let e = items_fail c.in_err-item.field-0.0 (length ws) l.items l.at c.in-Some.word.now (texts ws) c.in-Some.ensures.rest (rw (c.as_slice.ensures, c.meaning_of-means.ensures) at c.in_err-item.ensures) in
    rw (p.1, p.2) (rw l.invariant at e)
