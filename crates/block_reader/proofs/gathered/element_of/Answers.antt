use Rattle.std.proofs.Common.{◌≡◌, ◌+◌, ◌-◌, take, drop, ◌∙◌, ap, arith}
use Rattle.mkv_schema.specs.Element.{stated_end}
use Rattle.block_reader.proofs.RunLemmas.{element_octets-part}
use Rattle.block_reader.proofs.gathered.element_of.Goals as goal

pub returns-clause-exact : goal.returns-clause-exact
returns-clause-exact c = λ bytes total is.
    let h = c.args.child.now in
    let from = c.requires.from in
    let order = c.requires.order in
    let count : (h.body + c.known.result - c.args.base) - (h.offset - c.args.base) ≡ stated_end h - h.offset = omega (arith, c.known.ensures) in
    ap (λ n. take n (drop (h.offset - c.args.base) c.args.body.now)) count
    ∙ element_octets-part bytes c.args.base total c.args.body.now h is from order c.requires.inside
