use Rattle.std.proofs.Common.{◌≡◌, Some, None, Result, Ok, Err, sym, ◌∙◌, ap}
use Rattle.mkv_io.specs.declared.damage.Damage.{Damage}
use Rattle.mkv_io.specs.Results.{and_then}
use Rattle.tree_format.specs.Node.{Node}
use Rattle.meta_records.proofs.RecordsLemmas.{IsFirst-shown, first_tree-none, first_tree-some}
use Rattle.meta_records.proofs.first.first_tree.Goals as goal

-- There is no such element.
pub returns-in_default-clause-exact : goal.returns-in_default-clause-exact
returns-in_default-clause-exact g c = λ bytes told before outline.
    first_tree-none c.args.id before bytes c.args.outline.now c.requires.held outline (sym c.first.ensures.kept ∙ c.in_default.is)

-- An element in an outline is small enough.
pub returns-in-Err-TooLarge-clause-exact : goal.returns-in-Err-TooLarge-clause-exact
returns-in-Err-TooLarge-clause-exact g c = λ bytes told before outline.
    let is = IsFirst-shown c.args.id before bytes c.args.outline.now c.in-Some.header c.requires.held outline (sym c.first.ensures.kept ∙ c.in-Some.is) in
    let large = (c.in-Err-TooLarge.ensures.large c.in-Err-TooLarge.damage).0 (ap (λ e. Err e) c.in-Err-TooLarge.field-0-is) in
    let both : Some c.in-Err-TooLarge.damage ≡ None = sym large ∙ is.small in
    absurd (cc)

-- The element is read as a tree.
pub returns-in-Ok-parse-clause-exact : goal.returns-in-Ok-parse-clause-exact
returns-in-Ok-parse-clause-exact g c = λ bytes told before outline.
    let is = IsFirst-shown c.args.id before bytes c.args.outline.now c.in-Some.header c.requires.held outline (sym c.first.ensures.kept ∙ c.in-Some.is) in
    first_tree-some c.args.id bytes c.args.outline.now c.in-Some.header c.as_slice.result.now is (c.as_slice.ensures ∙ c.in-Ok.ensures.ok bytes told)
    ∙ ap (λ (read : Result Node Damage). and_then read (λ (tree : Node). Ok (Some tree))) c.in-Ok-parse.ensures.exact

-- The element is damaged.
pub returns-in-Err-Damage-clause-exact : goal.returns-in-Err-Damage-clause-exact
returns-in-Err-Damage-clause-exact g c = λ bytes told before outline.
    let is = IsFirst-shown c.args.id before bytes c.args.outline.now c.in-Some.header c.requires.held outline (sym c.first.ensures.kept ∙ c.in-Some.is) in
    first_tree-some c.args.id bytes c.args.outline.now c.in-Some.header c.as_slice.result.now is (c.as_slice.ensures ∙ c.in-Ok.ensures.ok bytes told)
    ∙ ap (λ (read : Result Node Damage). and_then read (λ (tree : Node). Ok (Some tree))) (rw c.in-Err-Damage.field-0-is at c.in-Err-Damage.ensures.exact)
