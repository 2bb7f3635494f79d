-- The result is the refusal or the writes.
use Rattle.std.proofs.Common.{◌≡◌, length, map, option_map, ◌∙◌, ap, arith}
use Rattle.edit_plan.specs.Found.{found}
use Rattle.edit_plan.specs.Moving.{refused}
use Rattle.edit_plan.specs.Shown.{shown}
use Rattle.edit_plan.proofs.MovedLemmas.{prepared-refused}
use Rattle.edit_plan.proofs.at_seek_head.moving_writes.Goals as goal

pub returns-in-Some-clause-exact : goal.returns-in-Some-clause-exact
returns-in-Some-clause-exact c = λ can.
    let o = c.args.outline.now in
    let ps = map shown c.args.parts.now in
    let new = c.in_ok-new.new in
    let added : c.len-added.result ≡ length new.moved.items = omega (arith, c.len-added.ensures, new.moved.ok.0) in
    prepared-refused c.args.ids.now o ps (option_map found c.args.head.now) new c.in_ok-new.ensures c.in-Some.refusal
    (c.in-Some.ensures.exact can.ends ∙ ap (λ n. refused o ps new.length n new.need new.room) added)
