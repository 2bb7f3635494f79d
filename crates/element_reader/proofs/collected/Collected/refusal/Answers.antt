use Rattle.std.proofs.Common.{Some, sym, ◌∙◌, ap}
use Rattle.mkv_schema.specs.Outline.{passes_size, passes_count}
use Rattle.element_reader.proofs.CollectedLemmas.{passes-count, passes-none}
use Rattle.element_reader.proofs.collected.Collected.refusal.Goals as goal

-- There are too many.
pub returns-then-passes_count-clause-exact : goal.returns-then-passes_count-clause-exact
returns-then-passes_count-clause-exact c = λ held list keeps.
    let h = c.args.header.now in
    ap (λ d. Some d) c.damage_at-then-passes_count.ensures
    ∙ sym (passes-count (passes_size held list h) (passes_count list h) _ _
    (sym (c.passes_size.ensures.exact held list keeps) ∙ c.if-passes_size.false)
    (sym (c.passes_count.ensures held list keeps) ∙ c.if-passes_count.true))

-- No limit is passed.
pub returns-clause-exact : goal.returns-clause-exact
returns-clause-exact c = λ held list keeps.
    let h = c.args.header.now in
    sym (passes-none (passes_size held list h) (passes_count list h) _ _
    (sym (c.passes_size.ensures.exact held list keeps) ∙ c.if-passes_size.false)
    (sym (c.passes_count.ensures held list keeps) ∙ c.if-passes_count.false))
