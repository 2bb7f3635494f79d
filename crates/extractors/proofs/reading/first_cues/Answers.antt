use Rattle.std.proofs.Common.{Some, Result, Ok, Err, sym, ◌∙◌, ap}
use Rattle.mkv_io.specs.declared.damage.Damage.{Damage}
use Rattle.mkv_io.specs.Results.{and_then}
use Rattle.tree_format.specs.Node.{Node}
use Rattle.extractors.proofs.ReadingLemmas.{IsFirstCues-shown, cues-master, first_cues-large, first_cues-none, first_cues-some}
use Rattle.extractors.proofs.reading.first_cues.Goals as goal

-- A Cues is a master.
pub parse-requires-clause-master : goal.parse-requires-clause-master
parse-requires-clause-master g c = cues-master

-- There is no Cues.
pub returns-in_default-clause-exact : goal.returns-in_default-clause-exact
returns-in_default-clause-exact g c = λ bytes told before outline.
    first_cues-none before bytes c.args.outline.now outline (sym c.first.ensures.kept ∙ c.in_default.is)

-- The Cues is too large.
pub returns-in-Err-TooLarge-clause-exact : goal.returns-in-Err-TooLarge-clause-exact
returns-in-Err-TooLarge-clause-exact g c = λ bytes told before outline.
    let is = IsFirstCues-shown before bytes c.args.outline.now c.in-Some.header outline (sym c.first.ensures.kept ∙ c.in-Some.is) in
    rw c.in-Err-TooLarge.field-0-is
    (first_cues-large bytes c.args.outline.now c.in-Some.header c.in-Err-TooLarge.damage is
    ((c.in-Err-TooLarge.ensures.large c.in-Err-TooLarge.damage).0 (ap (λ e. Err e) c.in-Err-TooLarge.field-0-is)))

-- The Cues is read as a tree.
pub returns-in-Ok-parse-clause-exact : goal.returns-in-Ok-parse-clause-exact
returns-in-Ok-parse-clause-exact g c = λ bytes told before outline.
    let is = IsFirstCues-shown before bytes c.args.outline.now c.in-Some.header outline (sym c.first.ensures.kept ∙ c.in-Some.is) in
    first_cues-some bytes c.args.outline.now c.in-Some.header c.as_slice.result.now is (λ d large. let both = (c.in-Ok.ensures.large d).1 large in absurd (cc)) (c.as_slice.ensures ∙ c.in-Ok.ensures.ok bytes told)
    ∙ ap (λ (read : Result Node Damage). and_then read (λ (tree : Node). Ok (Some tree))) c.in-Ok-parse.ensures.exact

-- The Cues is damaged inside.
pub returns-in-Err-Damage-clause-exact : goal.returns-in-Err-Damage-clause-exact
returns-in-Err-Damage-clause-exact g c = λ bytes told before outline.
    let is = IsFirstCues-shown before bytes c.args.outline.now c.in-Some.header outline (sym c.first.ensures.kept ∙ c.in-Some.is) in
    first_cues-some bytes c.args.outline.now c.in-Some.header c.as_slice.result.now is (λ d large. let both = (c.in-Ok.ensures.large d).1 large in absurd (cc)) (c.as_slice.ensures ∙ c.in-Ok.ensures.ok bytes told)
    ∙ ap (λ (read : Result Node Damage). and_then read (λ (tree : Node). Ok (Some tree))) (rw c.in-Err-Damage.field-0-is at c.in-Err-Damage.ensures.exact)
