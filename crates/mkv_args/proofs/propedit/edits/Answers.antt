use Rattle.std.proofs.Common.{length, Ok, ◌∙◌, sym, ap}
use Rattle.std.proofs.lemmas.Result.{err_from_is_err_and}
use Rattle.word_values.specs.Place.{texts}
use Rattle.mkv_args.proofs.PropeditLemmas.{section_next, change_next, edits_fail}
use Rattle.mkv_args.proofs.propedit.edits.Goals as goal
use Rattle.mkv_args.proofs.propedit.edits.Goals.{in-Section, in-Change+in_ok-push-in-Change}

-- A section becomes the current one, or an edit joins the list.
pub loop-word-preserved : goal.loop-word-preserved
loop-word-preserved c =
    let l = c.loop-word in let ws = c.args.words.now in
    elim c.match-branch-3.branch [
      | in-Section w ↦
          let joined = section_next (length ws) l.list l.place l.edited l.at c.in-Some.word.now (texts ws) c.in-Some.ensures.rest w.in-Section.next (c.in_ok-next.ensures ∙ ap Ok w.in-Section.is) in
          rw (w.list-is, w.place-is, w.edited-is) (sym joined ∙ l.invariant)
      | in-Change+in_ok-push-in-Change w ↦
          let joined = change_next (length ws) l.list l.place l.edited l.at c.in-Some.word.now (texts ws) c.in-Some.ensures.rest w.in-Change.change w.in-Change.name w.in-Change.value (c.in_ok-next.ensures ∙ ap Ok w.in-Change.is) in
          rw (w.list-is, w.in_ok-push-in-Change.ensures.ok, w.place-is, w.edited-is) (sym joined ∙ l.invariant)
    ]

-- The first error is the result.
pub returns-in_err-next : goal.returns-in_err-next
returns-in_err-next c =
    let l = c.loop-word in let ws = c.args.words.now in
    let p = err_from_is_err_and c.from_residual-in_err-next.result c.from_residual-in_err-next.ensures.1 in
    let e = edits_fail (length ws) l.list l.place l.edited l.at c.in-Some.word.now (texts ws) c.in-Some.ensures.rest c.in_err-next.field-0.0 c.in_err-next.ensures in
    rw (p.1, p.2) (rw l.invariant at e)
