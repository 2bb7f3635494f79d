use Rattle.std.proofs.Common.{◌≡◌, ap}
use Rattle.part_size.specs.declared.kinds.PartCuts.TheInside.{Inside}
use Rattle.part_size.proofs.KindLemmas.{sizes-stay, times-stay}
use Rattle.part_size.proofs.kinds.PartCuts.assign.Goals as goal
use Rattle.part_size.proofs.kinds.PartCuts.assign.Goals.{in-Times, in-Sizes}

-- a step keeps what is known of the limit
pub invariant_of-self : goal.invariant_of-self
invariant_of-self c = elim c.match-self.branch [
  | in-Times w ↦ times-stay c.self.inside.kind c.match-self.self-inside.kind w.in-Times.cuts w.assign.new.self _ _ _ w.in-Times.is (ap (λ (i : Inside). i.kind) w.self-inside-is) (w.assign.ensures.steps 0) c.self.invariant
  | in-Sizes w ↦ sizes-stay c.self.inside.kind c.match-self.self-inside.kind w.in-Sizes.cuts w.assign-in-Sizes.new.self _ _ _ w.in-Sizes.is (ap (λ (i : Inside). i.kind) w.self-inside-is) w.assign-in-Sizes.ensures.steps c.self.invariant
]
