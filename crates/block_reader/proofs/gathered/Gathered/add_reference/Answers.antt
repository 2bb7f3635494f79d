use Rattle.std.proofs.Common.{◌≡◌, ◌<◌, ◌++◌, ◌∷◌, [], length, w64, refl, ap, ◌∙◌, arith}
use Rattle.std.proofs.lemmas.Int.{to_z-of_z}
use Rattle.std.proofs.lemmas.Bool.Decides.{nat_tests}
use Rattle.block_reader.proofs.GroupLemmas.{Gathers-full, Gathers-room}
use Rattle.block_reader.proofs.gathered.Gathered.add_reference.Goals as goal

pub returns-then-is_full-clause-exact : goal.returns-then-is_full-clause-exact
returns-then-is_full-clause-exact c = λ bytes before value gathers.
    let full : length c.args.self.now.references.items ≡ 64 = grind (arith, nat_tests, c.is_full.ensures.value, c.if-is_full.true) in
    Gathers-full bytes before c.args.self.now c.args.child.now _ c.requires full c.or-self.ensures gathers

pub returns-else-is_full-clause-exact : goal.returns-else-is_full-clause-exact
returns-else-is_full-clause-exact c = λ bytes before value gathers.
    let room : length c.args.self.now.references.items < 64 = grind (arith, nat_tests, c.is_full.ensures, c.if-is_full.false) in
    Gathers-room bytes before c.args.self.now _ c.args.child.now c.args.ticks c.requires value room refl refl refl refl
    (c.push.ensures.items ∙ ap (λ z. c.args.self.now.references.items ++ z ∷ []) (to_z-of_z w64 c.args.ticks c.ranges.ticks)) gathers
