use Rattle.std.proofs.Common.{sym, ◌∙◌, ap, subst, arith}
use Rattle.mkv_io.specs.Sources.{live_files}
use Rattle.time_merge.specs.Merge.{way}
use Rattle.remuxer.specs.Places.{StandsAt, turns_with}
use Rattle.remuxer.specs.Taking.{BeginsNone}
use Rattle.remuxer.proofs.NextLemmas.{begun-parts, goes-idle, is-begun, none-left}
use Rattle.remuxer.proofs.TakingLemmas.{goes-then}
use Rattle.remuxer.proofs.placed.PlacedBlocks.next_part.Goals as goal

-- A block in no part is skipped.
pub passed-smaller : goal.passed-smaller
passed-smaller g c =
    let less = c.in_ok-advance.ensures.advances.on in
    let here = ap (turns_with (way c.passed.self.merge)) c.in-Some.is in
    omega (arith, less, here)

pub passed-preserved : goal.passed-preserved
passed-preserved g c =
    let inv = c.passed.invariant in
    let next = c.in_ok-advance.ensures in
    record {
      stands = next.advances.stands;
      goes = goes-then g.R.Reads 0 0 c.args.src.now c.passed.src c.advance.new.src c.args.self.now c.passed.self c.advance.new.self inv.goes next.goes;
      standing = next.standing ∙ inv.standing;
      reading = next.cause ∙ inv.reading;
      on =
          let on = inv.on in
          let less = next.advances.on in
          let here = ap (turns_with (way c.passed.self.merge)) c.in-Some.is in
          omega (arith, on, less, here);
      found = λ told.
          let none = subst BeginsNone (sym c.in-Some.is) (sym c.in_default-start_in.ensures) in
          (next.advances.left inv.stands (inv.goes.told told).told).parts none ∙ inv.found told;
    }

-- A block begins a part.
pub returns-in-Some-start_in-clause-finds : goal.returns-in-Some-start_in-clause-finds
returns-in-Some-start_in-clause-finds g c =
    let inv = c.passed.invariant in
    let p = c.passed.self in
    let b = c.passed.src in
    let ahead = subst (StandsAt p.merge p.cuts) c.in-Some.is inv.stands in
    let found = sym c.in-Some-start_in.ensures in
    record {
      begins = is-begun (live_files g.R.Reads b) p c.in-Some.ahead c.in-Some-start_in.start inv.goes.gives c.in-Some.is ahead found;
      on =
          let on = inv.on in
          let here = ap (turns_with (way p.merge)) c.in-Some.is in
          omega (arith, on, here);
      found = λ told. begun-parts (live_files g.R.Reads b) p c.in-Some.ahead c.in-Some-start_in.start inv.goes.gives c.in-Some.is ahead found ∙ inv.found told;
    }

pub returns-in-Some-start_in-clause-goes : goal.returns-in-Some-start_in-clause-goes
returns-in-Some-start_in-clause-goes g c =
    let inv = c.passed.invariant in
    goes-then g.R.Reads 0 0 c.args.src.now c.passed.src c.passed.src c.args.self.now c.passed.self _ inv.goes (goes-idle g.R.Reads c.passed.src c.passed.self _ _ inv.goes.gives)

-- No block is left.
pub returns-clause-finds : goal.returns-clause-finds
returns-clause-finds g c =
    let inv = c.passed.invariant in
    let p = c.passed.self in
    record {
      begins = subst (StandsAt p.merge p.cuts) c.in_default.is inv.stands;
      on =
          let on = inv.on in
          let here = ap (turns_with (way p.merge)) c.in_default.is in
          omega (arith, on, here);
      found = λ told. sym (none-left (live_files g.R.Reads c.passed.src) p c.in_default.is) ∙ inv.found told;
    }
