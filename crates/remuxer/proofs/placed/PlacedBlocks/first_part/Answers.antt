use Rattle.std.proofs.Common.{◌≡◌, Bool, true, false, refl, sym, ◌∙◌, ap}
use Rattle.std.specs.Prelude.{◌&&◌, not}
use Rattle.splitter.specs.Steps.{is_kept}
use Rattle.remuxer.proofs.NextLemmas.{first-none, first-result}
use Rattle.remuxer.proofs.TakingLemmas.{goes-result}
use Rattle.remuxer.proofs.placed.PlacedBlocks.first_part.Goals as goal
use Rattle.remuxer.proofs.placed.PlacedBlocks.first_part.Goals.{else-is_none-via-then-is_none+else-is_kept, else-is_none-via-else-is_none}

-- The merge has no blocks.
pub returns-then-is_kept-clause-finds : goal.returns-then-is_kept-clause-finds
returns-then-is_kept-clause-finds g c =
    first-none g.R.Reads c.args.src.now c.advance.new.src c.args.self.now c.advance.new.self c.requires.fresh c.in_ok-advance.ensures.advances c.in_ok-advance.ensures.goes c.if-is_none.ensures (sym c.if-is_kept.ensures)

-- The merge has a block, or the section at the start isn't written.
pub next_part-requires-clause-gives : goal.next_part-requires-clause-gives
next_part-requires-clause-gives g c = c.in_ok-advance.ensures.goes.gives

pub next_part-requires-clause-stands : goal.next_part-requires-clause-stands
next_part-requires-clause-stands g c = c.in_ok-advance.ensures.advances.stands

not-both : (q k : Bool) → k ≡ false → (q && k) ≡ false
not-both true k is = is
not-both false k is = refl

pub returns-clause-finds : goal.returns-clause-finds
returns-clause-finds g c =
    first-result g.R.Reads c.args.src.now c.advance.new.src c.args.self.now c.advance.new.self c.requires.fresh c.in_ok-advance.ensures.advances c.in_ok-advance.ensures.goes c.next_part.new.src c.next_part.new.self c.next_part.result
    (elim c.else-is_none.branch [
      | else-is_none-via-then-is_none+else-is_kept w ↦ not-both _ (is_kept c.advance.new.self.cuts) (sym w.is_kept.ensures ∙ w.if-is_kept.false)
      | else-is_none-via-else-is_none w ↦ ap (λ (q : Bool). not q && is_kept c.advance.new.self.cuts) (c.is_none.ensures ∙ ap not w.if-is_none.false)
    ])
    c.next_part.ensures.finds

pub returns-clause-goes : goal.returns-clause-goes
returns-clause-goes g c =
    goes-result g.R.Reads c.args.src.now c.advance.new.src c.next_part.new.src c.args.self.now c.advance.new.self c.next_part.new.self c.next_part.result c.in_ok-advance.ensures.goes c.next_part.ensures.goes
