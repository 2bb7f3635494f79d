use Rattle.std.proofs.Common.{SFits, w64, sym, ◌∙◌, rules}
use Rattle.std.proofs.lemmas.Int.{to_z-of_z}
use Rattle.std.proofs.lemmas.List.{take_rest}
use Rattle.block_reader.proofs.ContentLemmas.{content_in-none, SpellsContent-ok, SpellsContent-err}
use Rattle.block_reader.proofs.content.spell.Goals as goal

pub returns-in_default-clause-exact : goal.returns-in_default-clause-exact
returns-in_default-clause-exact c = content_in-none c.args.octets.now (sym c.in_default.is ∙ c.header_in.ensures)

pub returns-in-Ok-clause-exact : goal.returns-in-Ok-clause-exact
returns-in-Ok-clause-exact c =
    let fits : SFits w64 c.in-Some.header.relative = search rules in
    SpellsContent-ok c.args.octets.now c.cut.new.sizes.items c.in-Some.header c.lace_of.result _ c.in-Ok.start _ c.in-Some.ensures c.lace_of.ensures (take_rest c.args.octets.now c.in-Some.header.len) (to_z-of_z w64 c.in-Some.header.relative fits) (rw c.in-Ok.is at c.in_ok-start.ensures.exact)

pub returns-in-Err-clause-exact : goal.returns-in-Err-clause-exact
returns-in-Err-clause-exact c =
    SpellsContent-err c.args.octets.now c.in-Some.header c.lace_of.result _ c.in-Err.kind c.in-Some.ensures c.lace_of.ensures (take_rest c.args.octets.now c.in-Some.header.len) (rw c.in-Err.is at c.in_ok-start.ensures.exact)
