use Rattle.std.proofs.Common.{◌+◌, ◌-◌, length, sym, ◌∙◌, ap}
use Rattle.std.proofs.lemmas.List.{take_rest}
use Rattle.mkv_schema.specs.Element.{element_in, octets_between}
use Rattle.elements.specs.Parent.{setting_of}
use Rattle.elements.proofs.BodyLemmas.{IsBody-rest}
use Rattle.elements.proofs.child.child_at.Goals as goal

-- The definition reads the rest of the body.
pub returns-clause-exact : goal.returns-clause-exact
returns-clause-exact c = λ bytes is.
    let body = c.args.body.now in
    let end = c.args.base + length body in
    let setting = setting_of c.args.parent in
    c.read_header.ensures.exact
    ∙ ap (λ o. element_in setting o c.args.total c.args.at end) (take_rest body (c.args.at - c.args.base) ∙ IsBody-rest bytes c.args.base c.args.total c.args.at body is c.requires.from)
    ∙ ap (λ t. element_in setting (octets_between bytes c.args.at end) t c.args.at end) (sym is.whole)
