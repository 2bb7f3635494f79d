-- The SeekHead is read, or counts as absent.
use Rattle.std.proofs.Common.{List, Option, Some, Ok, Err, sym, ◌∙◌, ap}
use Rattle.tree_format.specs.Node.{Node}
use Rattle.edit_changes.specs.SeekHead.{SeekHeadAt}
use Rattle.edit_plan.proofs.SeekLemmas.{head-large, head-read, seek_head-master}
use Rattle.edit_plan.proofs.old_seek_head.first_seek_head.Goals as goal

pub parse-requires-clause-master : goal.parse-requires-clause-master
parse-requires-clause-master g c = seek_head-master

-- The SeekHead is too long to be read.
pub returns-in-Err-TooLarge-clause-exact : goal.returns-in-Err-TooLarge-clause-exact
returns-in-Err-TooLarge-clause-exact g c = λ bytes told.
    let large = (c.in-Err-TooLarge.ensures.large c.in-Err-TooLarge.field-0-0).0 (ap (λ e. Err e) c.in-Err-TooLarge.field-0-is) in
    sym (head-large bytes c.args.outline.now c.in-Some.header c.in-Err-TooLarge.field-0-0 c.in-Some.ensures.exact large)

-- The SeekHead is read as a tree.
pub returns-in-Ok-parse-clause-exact : goal.returns-in-Ok-parse-clause-exact
returns-in-Ok-parse-clause-exact g c = λ bytes told.
    let made : List Node → Option SeekHeadAt = λ l. Some (record { header = c.in-Some.header; seeks = l }) in
    ap made (c.from_vec.ensures ∙ c.into_children.ensures.exact)
    ∙ sym (head-read bytes c.args.outline.now c.in-Some.header c.as_slice.result.now (Ok c.in-Ok-parse.tree) c.in-Some.ensures.exact
    (λ d large. let both = (c.in-Ok.ensures.large d).1 large in absurd (cc))
    (c.as_slice.ensures ∙ c.in-Ok.ensures.ok bytes told) (sym c.in-Ok-parse.ensures.exact))

-- The SeekHead is damaged inside.
pub returns-in-Err-Damage-clause-exact : goal.returns-in-Err-Damage-clause-exact
returns-in-Err-Damage-clause-exact g c = λ bytes told.
    sym (head-read bytes c.args.outline.now c.in-Some.header c.as_slice.result.now (Err c.in-Err-Damage.field-0-0) c.in-Some.ensures.exact
    (λ d large. let both = (c.in-Ok.ensures.large d).1 large in absurd (cc))
    (c.as_slice.ensures ∙ c.in-Ok.ensures.ok bytes told) (sym (rw c.in-Err-Damage.field-0-is at c.in-Err-Damage.ensures.exact)))
