-- The steps follow one another.
use Rattle.std.proofs.Common.{◌≤◌, false, Result, List, length, map, sym, ◌∙◌, ap, subst, arith}
use Rattle.std.proofs.lemmas.Result.{err_from_is_err_and}
use Rattle.mkv_io.specs.declared.outside.TheConstants.{LONGEST_FILE}
use Rattle.sidecar_edit.specs.Writes as disk
use Rattle.edit_changes.specs.declared.refusal.Refusal.{Refusal}
use Rattle.edit_changes.specs.Plan as spec
use Rattle.edit_plan.specs.Answer.{Answers}
use Rattle.edit_plan.specs.Shown.{shown}
use Rattle.edit_plan.proofs.EndsLemmas.{CanMove-shown}
use Rattle.edit_plan.proofs.HeadLemmas.{edits-sought}
use Rattle.edit_plan.proofs.StepLemmas.{edits-answer, opening-outline, outline-answers, plan-edits, trees-answer}
use Rattle.edit_plan.proofs.planning.edit_writes.Goals as goal

pub parts_writes-requires-clause-sought : goal.parts_writes-requires-clause-sought
parts_writes-requires-clause-sought g c = edits-sought

pub returns-in_err-outline-clause-exact : goal.returns-in_err-outline-clause-exact
returns-in_err-outline-clause-exact g c = λ bytes told.
    let p = err_from_is_err_and c.from_residual.result c.from_residual.ensures.1 in
    rw (p.1, p.2) (outline-answers bytes c.args.edits.now c.in_err-outline.field-0.0 (c.in_err-outline.ensures.exact bytes told))

pub returns-in_err-trees-clause-exact : goal.returns-in_err-trees-clause-exact
returns-in_err-trees-clause-exact g c = λ bytes told.
    let o = c.in_ok-outline.outline in
    let whole = c.in_ok-outline.ensures.exact bytes told in
    let same = ap (λ s. (g.R.Reads.files s).content c.args.file.n) c.in_ok-outline.ensures.standing ∙ told in
    let p = err_from_is_err_and c.from_residual-in_err-trees.result c.from_residual-in_err-trees.ensures.1 in
    rw (p.1, p.2) (trees-answer bytes c.args.edits.now o c.in_err-trees.field-0.0 whole (c.in_err-trees.ensures.exact bytes same (opening-outline bytes o whole)))

pub returns-in_err-trees-2-clause-exact : goal.returns-in_err-trees-2-clause-exact
returns-in_err-trees-2-clause-exact g c = λ bytes told.
    let o = c.in_ok-outline.outline in
    let whole = c.in_ok-outline.ensures.exact bytes told in
    let same = ap (λ s. (g.R.Reads.files s).content c.args.file.n) c.in_ok-outline.ensures.standing ∙ told in
    let p = err_from_is_err_and c.from_residual-in_err-trees-2.result c.from_residual-in_err-trees-2.ensures.1 in
    rw (p.1, p.2) (edits-answer bytes c.args.edits.now o c.in_ok-trees.trees c.in_err-trees-2.field-0.0 whole
    (c.in_ok-trees.ensures.exact bytes same (opening-outline bytes o whole)) c.in_err-trees-2.ensures.exact)

pub returns-clause-exact : goal.returns-clause-exact
returns-clause-exact g c = λ bytes told.
    let o = c.in_ok-outline.outline in
    let whole = c.in_ok-outline.ensures.exact bytes told in
    let outline = opening-outline bytes o whole in
    let same = ap (λ s. (g.R.Reads.files s).content c.args.file.n) c.in_ok-outline.ensures.standing ∙ told in
    let again = ap (λ s. (g.R.Reads.files s).content c.args.file.n) c.in_ok-trees.ensures.standing ∙ same in
    let trees = c.in_ok-trees.ensures.exact bytes same outline in
    let plan = plan-edits bytes c.args.edits.now o c.in_ok-trees.trees c.in_ok-trees-2.trees whole trees c.in_ok-trees-2.ensures.exact in
    let size = g.met.R.Reads.told_size (g.R.Reads.standing c.args.src.now) c.args.file.n bytes told in
    let most = g.met.R.Reads.short c.args.src.now c.args.file.n c.requires in
    let short : length bytes ≤ LONGEST_FILE = omega (arith, size, most) in
    let can = CanMove-shown 0 bytes o outline short in
    let parts = ap (map shown) c.as_slice.ensures.value ∙ c.in_ok-parts.ensures in
    let P : Result (List disk.Write) Refusal → Type 0 = λ found. Answers found c.parts_writes.result in
    subst P (sym (plan ∙ ap (spec.writes_of_parts spec.edit_ids false bytes o) (sym parts))) (c.parts_writes.ensures.exact can bytes again)
