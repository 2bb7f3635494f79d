use Rattle.std.proofs.Common.{◌≡◌, ◌==◌, false, sym, ◌∙◌, arith}
use Rattle.std.proofs.lemmas.Bool.Decides.{nat_tests}
use Rattle.mkv_schema.specs.declared.ids.TheConstants.{CLUSTER}
use Rattle.element_reader.proofs.CollectedLemmas.{passes_count-kept}
use Rattle.element_reader.proofs.collected.Collected.passes_count.Goals as goal

-- One more than are kept.
pub returns-then-header-ne-CLUSTER : goal.returns-then-header-ne-CLUSTER
returns-then-header-ne-CLUSTER c = λ held list keeps.
    let h = c.args.header.now in
    let other : (h.id == CLUSTER) ≡ false = grind (arith, nat_tests, c.if-header-ne-CLUSTER.true) in
    let len = c.len.ensures in
    sym (passes_count-kept held list c.args.self.now h keeps ∙ rw other (grind (arith, nat_tests, len)))
