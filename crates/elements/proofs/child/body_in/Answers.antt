use Rattle.std.proofs.Common.{◌≡◌, ◌-◌, ◌+◌, take, drop, ◌∙◌, ap, arith}
use Rattle.mkv_schema.specs.Element.{known}
use Rattle.elements.proofs.BodyLemmas.{IsBody-part}
use Rattle.elements.proofs.child.body_in.Goals as goal

pub returns : goal.returns
returns c = λ bytes total is.
    let start = c.args.child.now.body - c.args.base in
    let count : (start + c.known.result) - start ≡ known c.args.child.now.size = omega (arith, c.known.ensures) in
    ap (λ n. take n (drop start c.args.body.now)) count
    ∙ IsBody-part bytes c.args.base total c.args.body.now c.args.child.now is c.requires.from c.requires.inside
