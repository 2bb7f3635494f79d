use Rattle.std.proofs.Common.{◌∷◌, [], arith, rules, subst, sym, to_z, of_z, w64}
use Rattle.std.specs.List.{All}
use Rattle.std.proofs.lemmas.Grind.{common_steps}
use Rattle.std.proofs.lemmas.Int.{ints}
use Rattle.std.proofs.lemmas.List.Elements.{All-append, All-cons, All-nil}
use Rattle.block_reader.specs.Time.{IsSmallTime}
use Rattle.lanes.proofs.place.put_references.Goals as goal

pub loop-away-preserved : goal.loop-away-preserved
loop-away-preserved c =
    let few : IsSmallTime (to_z w64 (of_z w64 c.ticks_to.result)) = omega (arith, ints, c.ticks_to.ensures.small) in
    record {
      exact = first_of (search rules, grind (arith, common_steps));
      small = subst (All IsSmallTime) (sym c.push.ensures.items)
          (All-append IsSmallTime c.loop-away.into.items (to_z w64 (of_z w64 c.ticks_to.result) ∷ []) c.loop-away.invariant.small
          (All-cons IsSmallTime (to_z w64 (of_z w64 c.ticks_to.result)) [] few (All-nil IsSmallTime)));
    }
