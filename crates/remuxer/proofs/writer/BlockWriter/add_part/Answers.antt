use Rattle.std.proofs.Common.{◌≡◌, ◌<◌, ℕ, ◌∷◌, [], Option, Ok, Err, length, refl, sym, ◌∙◌, ap, subst, arith}
use Rattle.std.specs.Prelude.{is_some}
use Rattle.std.proofs.lemmas.Option.{slice_get_within}
use Rattle.std.proofs.lemmas.Result.{err_from_is_err_and}
use Rattle.mkv_io.proofs.EndsLemmas.{HasRemuxCause-read, HasRemuxCause-then}
use Rattle.mkv_io.proofs.WritingLemmas.{KeepsOthers-none}
use Rattle.lanes.specs.Lane.{LaneSeen, lent}
use Rattle.output_model.specs.OutputBlock.{IsLent}
use Rattle.splitter.specs.Steps.{start_of}
use Rattle.time_merge.specs.Merge.{way}
use Rattle.remuxer.specs.Places.{block_lent, lent_ahead}
use Rattle.remuxer.specs.Taking.{CanTake, GoesOn, WritesInto}
use Rattle.remuxer.proofs.NextLemmas.{goes-idle}
use Rattle.remuxer.proofs.StepLemmas.{LendsAhead, lane-is, lends-ahead}
use Rattle.remuxer.proofs.TakingLemmas.{OnlyRead, can-again, goes-then, least-turns, lent-drafted, next-drafted, none-turns, only-read, read-writes, rest-goes, rest-left, some-next, some-none, some-then, within-turns, writes-then}
use Rattle.remuxer.proofs.writer.BlockWriter.add_part.Given.{Over}
use Rattle.remuxer.proofs.writer.BlockWriter.add_part.Goals as goal
use Rattle.remuxer.proofs.writer.BlockWriter.add_part.Goals.{After-advance, After-lane}

-- ---- the block ahead

can : (g : Over) (c : After-lane g) → CanTake g.F.Reads g.F.Files c.steps.files c.steps.self c.steps.blocks
can g c =
    let inv = c.steps.invariant in
    can-again g.F.Reads g.F.Files c.args.files.now c.steps.files c.args.self.now c.steps.self c.args.blocks.now c.steps.blocks c.requires.can (tt {0}) inv.writes inv.goes

lends : (g : Over) (c : After-lane g) → LendsAhead c.steps.blocks c.in-Some.lane
lends g c = lends-ahead c.steps.blocks c.in-Some.lane c.steps.invariant.stands (sym c.in-Some.ensures)

same-lane : (g : Over) (c : After-lane g) → (lends g c).lends.queue.lane ≡ c.lane.result.now
same-lane g c = lane-is c.steps.blocks.merge c.in-Some.lane (lends g c).lends.queue c.lane.result.now (lends g c).lends.here c.lane.ensures

one : (g : Over) (c : After-lane g) → lent_ahead c.steps.blocks ≡ block_lent c.in-Some.lane c.lane.result.now ∷ []
one g c = (lends g c).one ∙ ap (λ (l : LaneSeen). block_lent c.in-Some.lane l ∷ []) (same-lane g c)

pub steps-init : goal.steps-init
steps-init g c =
    let begun = c.requires.begun in
    let p = c.args.blocks.now in
    record {
      writes = record { file = refl; durations = refl; is_open = c.requires.can.is_open; kept = KeepsOthers-none g.F.Reads g.F.Files _ c.args.files.now };
      held = λ small. small;
      goes = goes-idle g.F.Reads c.args.files.now p p.ahead p.start c.requires.can.gives;
      stands = begun.stands;
      start = refl;
      on = λ isnt. let none = none-turns (way p.merge) p.ahead begun.within isnt in omega (arith, none);
      less = omega arith;
      reading = refl;
      writing = refl;
      takes = λ told. some-none g.F.Reads g.F.Files c.args.rules.now (start_of p.cuts) c.args.files.now c.args.self.now p;
    }

pub lane-requires : goal.lane-requires
lane-requires g c =
    let it = lends-ahead c.steps.blocks c.in-Some.lane c.steps.invariant.stands (sym c.in-Some.ensures) in
    slice_get_within c.steps.blocks.merge.queues c.in-Some.lane it.lends.queue it.lends.here

pub add_lent-requires-clause-lent : goal.add_lent-requires-clause-lent
add_lent-requires-clause-lent g c =
    let after = (goal.at.add_lent-requires-clause-lent g c).After-lane in
    subst (λ (l : LaneSeen). IsLent (lent l)) (same-lane g after) (lends g after).lends.sound

pub add_lent-requires-clause-number : goal.add_lent-requires-clause-number
add_lent-requires-clause-number g c =
    let it = lends g (goal.at.add_lent-requires-clause-number g c).After-lane in
    let inside : c.in-Some.lane < length c.steps.blocks.merge.queues = slice_get_within c.steps.blocks.merge.queues c.in-Some.lane it.lends.queue it.lends.here in
    omega (arith, inside, c.steps.invariant.goes.gives.few)

pub add_lent-requires-clause-scale : goal.add_lent-requires-clause-scale
add_lent-requires-clause-scale g c = (can g (goal.at.add_lent-requires-clause-scale g c).After-lane).scale

-- The block ahead couldn't be written.
pub returns-in_err-add_lent-clause-takes : goal.returns-in_err-add_lent-clause-takes
returns-in_err-add_lent-clause-takes g c =
    let end = err_from_is_err_and c.from_residual.result c.from_residual.ensures.1 in
    let after = (goal.at.returns-in_err-add_lent-clause-takes g c).After-lane in
    let inv = c.steps.invariant in
    let p = c.args.blocks.now in
    rw end.1 (λ told before name d stands.
    lent-drafted g.F.Reads g.F.Files c.args.rules.now c.steps.blocks.start (start_of p.cuts) (c.steps.invariant.start ∙ c.requires.begun.starts) c.steps.files c.add_lent.new.files c.steps.self c.steps.self c.steps.blocks (block_lent c.in-Some.lane c.lane.result.now) (lends g after).in_it (one g after)
    c.in_err-add_lent.ensures.takes before name d ((inv.takes told).stands before name d stands))

pub returns-in_err-add_lent-clause-writes : goal.returns-in_err-add_lent-clause-writes
returns-in_err-add_lent-clause-writes g c =
    let end = err_from_is_err_and c.from_residual.result c.from_residual.ensures.1 in
    let both = writes-then {T = Unit {0}} g.F.Reads g.F.Files c.args.files.now c.steps.files c.add_lent.new.files c.args.self.now c.steps.self c.add_lent.new.self (tt {0}) (Err c.in_err-add_lent.field-0.0) c.requires.can.is_open
    c.steps.invariant.writes c.in_err-add_lent.ensures.writes in
    rw end.1 (record { file = both.file; durations = both.durations; is_open = tt; kept = both.kept })

-- ---- it was written

goes-on : (g : Over) (c : After-advance g) → GoesOn g.F.Reads 0 c.steps.files c.add_lent.new.files c.steps.blocks c.steps.blocks
goes-on g c = rest-goes g.F.Reads g.F.Files c.steps.files c.add_lent.new.files c.steps.self c.steps.blocks (can g (goal.at.After-advance g c).After-lane) c.in_ok-add_lent.ensures.writes.kept c.in_ok-add_lent.ensures.octets

wrote : (g : Over) (c : After-advance g) → WritesInto g.F.Reads g.F.Files c.args.files.now c.add_lent.new.files c.args.self.now c.add_lent.new.self (Ok (tt {0}))
wrote g c =
    writes-then g.F.Reads g.F.Files c.args.files.now c.steps.files c.add_lent.new.files c.args.self.now c.steps.self c.add_lent.new.self (tt {0}) (Ok (tt {0})) c.requires.can.is_open c.steps.invariant.writes c.in_ok-add_lent.ensures.writes

went : (g : Over) (c : After-advance g) → GoesOn g.F.Reads 0 c.args.files.now c.add_lent.new.files c.args.blocks.now c.steps.blocks
went g c = goes-then g.F.Reads 0 0 c.args.files.now c.steps.files c.add_lent.new.files c.args.blocks.now c.steps.blocks c.steps.blocks c.steps.invariant.goes (goes-on g c)

pub advance-requires : goal.advance-requires
advance-requires g c =
    let wrote_it = c.in_ok-add_lent.ensures in
    (rest-goes g.F.Reads g.F.Files c.steps.files c.add_lent.new.files c.steps.self c.steps.blocks (can g (goal.at.advance-requires g c).After-lane) wrote_it.writes.kept wrote_it.octets).gives

-- The files were only read.
read : (g : Over) (a b : g.row.F.Denot) → g.F.Reads.standing b ≡ g.F.Reads.standing a → OnlyRead g.F.Reads g.F.Files a b
read g a b same = only-read g.F.Reads g.F.Files a b same g.met.F.Files.names_stand g.met.F.Files.holders_stand g.met.F.Files.given_stands g.met.F.Files.asked_stands

then-read : (g : Over) (c : After-advance g) (e : g.row.F.Denot) → g.F.Reads.standing e ≡ g.F.Reads.standing c.add_lent.new.files → WritesInto g.F.Reads g.F.Files c.args.files.now e c.args.self.now c.add_lent.new.self (Ok (tt {0}))
then-read g c e same =
    writes-then g.F.Reads g.F.Files c.args.files.now c.add_lent.new.files e c.args.self.now c.add_lent.new.self c.add_lent.new.self (tt {0}) (Ok (tt {0})) c.requires.can.is_open (wrote g c)
    (read-writes g.F.Reads g.F.Files c.add_lent.new.files e (read g c.add_lent.new.files e same) c.add_lent.new.self (tt {0}) (wrote g c).is_open)

-- The next one couldn't be read.
pub returns-in_err-advance-clause-takes : goal.returns-in_err-advance-clause-takes
returns-in_err-advance-clause-takes g c =
    let end = err_from_is_err_and c.from_residual-in_err-advance.result c.from_residual-in_err-advance.ensures.1 in
    let after = (goal.at.returns-in_err-advance-clause-takes g c).After-lane in
    let p = c.args.blocks.now in
    rw end.1 (λ told before name d stands.
    next-drafted g.F.Reads g.F.Files c.args.rules.now c.steps.blocks.start (start_of p.cuts) (c.steps.invariant.start ∙ c.requires.begun.starts) c.steps.files c.add_lent.new.files c.steps.self c.add_lent.new.self c.steps.blocks (block_lent c.in-Some.lane c.lane.result.now) (lends g after).in_it (one g after)
    c.in_ok-add_lent.ensures.takes c.advance.new.src (read g c.add_lent.new.files c.advance.new.src c.in_err-advance.ensures.standing) before name d ((c.steps.invariant.takes told).stands before name d stands))

pub returns-in_err-advance-clause-writes : goal.returns-in_err-advance-clause-writes
returns-in_err-advance-clause-writes g c =
    let end = err_from_is_err_and c.from_residual-in_err-advance.result c.from_residual-in_err-advance.ensures.1 in
    let both = then-read g (goal.at.returns-in_err-advance-clause-writes g c).After-advance c.advance.new.src c.in_err-advance.ensures.standing in
    rw end.1 (record { file = both.file; durations = both.durations; is_open = tt; kept = both.kept })

pub returns-in_err-advance-clause-goes : goal.returns-in_err-advance-clause-goes
returns-in_err-advance-clause-goes g c =
    let end = err_from_is_err_and c.from_residual-in_err-advance.result c.from_residual-in_err-advance.ensures.1 in
    let before = went g (goal.at.returns-in_err-advance-clause-goes g c).After-advance in
    let paid = before.paid in
    let long = before.length in
    let more = c.in_err-advance.ensures.goes in
    rw end.1 (omega (arith, paid, long, more))

pub returns-in_err-advance-clause-cause : goal.returns-in_err-advance-clause-cause
returns-in_err-advance-clause-cause g c =
    let end = err_from_is_err_and c.from_residual-in_err-advance.result c.from_residual-in_err-advance.ensures.1 in
    let inv = c.steps.invariant in
    let cause = c.in_ok-add_lent.ensures.cause in
    rw (end.1, end.2)
    (HasRemuxCause-then g.F.Reads g.F.Files c.args.files.now c.add_lent.new.files c.advance.new.src _ (cause.reading ∙ inv.reading) (cause.writing ∙ inv.writing)
    (HasRemuxCause-read g.F.Reads g.F.Files c.add_lent.new.files c.advance.new.src c.in_err-advance.field-0.0 (g.met.F.Files.writing_stands c.advance.new.src c.add_lent.new.files c.in_err-advance.ensures.standing) c.in_err-advance.ensures.cause))

-- The next one was read.
pub steps-preserved : goal.steps-preserved
steps-preserved g c =
    let inv = c.steps.invariant in
    let p = c.args.blocks.now in
    let a = c.steps.files in
    let b = c.add_lent.new.files in
    let e = c.advance.new.src in
    let q = c.steps.blocks in
    let q' = c.advance.new.self in
    let after = (goal.at.steps-preserved g c).After-advance in
    let lane = (goal.at.steps-preserved g c).After-lane in
    let next = c.in_ok-advance.ensures in
    let goes = goes-on g after in
    record {
      writes = then-read g after e next.standing;
      held = λ small. c.in_ok-add_lent.ensures.held (inv.held small);
      goes = goes-then g.F.Reads 0 0 c.args.files.now b e p q q' (went g after) next.goes;
      stands = next.advances.stands;
      start = next.advances.start ∙ inv.start;
      on = λ isnt. let on = next.advances.on in let less = inv.less in omega (arith, on, less);
      less = let on = next.advances.on in let less = inv.less in let least = least-turns (way q'.merge) q'.ahead in omega (arith, on, less, least);
      reading = next.cause ∙ c.in_ok-add_lent.ensures.cause.reading ∙ inv.reading;
      writing = g.met.F.Files.writing_stands e b next.standing ∙ c.in_ok-add_lent.ensures.cause.writing ∙ inv.writing;
      takes = λ told.
          let here = (inv.goes.told told).told in
          let some = some-next g.F.Reads g.F.Files c.args.rules.now c.steps.blocks.start (start_of p.cuts) (c.steps.invariant.start ∙ c.requires.begun.starts) a b c.steps.self c.add_lent.new.self q (block_lent c.in-Some.lane c.lane.result.now) (lends g lane).in_it (one g lane)
          c.in_ok-add_lent.ensures.takes e (read g b e next.standing) q' (rest-left g.F.Reads g.F.Files a b c.steps.self q (can g lane) c.in_ok-add_lent.ensures.writes.kept c.in_ok-add_lent.ensures.octets) c.in_ok-add_lent.ensures.count
          c.in_ok-add_lent.ensures.writes.durations c.in_ok-add_lent.ensures.end
          (next.advances.left inv.stands (goes.told here).told) in
          some-then g.F.Reads g.F.Files c.args.rules.now (start_of p.cuts) c.args.files.now a e c.args.self.now c.steps.self c.add_lent.new.self p q q' (inv.takes told) some;
    }

pub steps-smaller : goal.steps-smaller
steps-smaller g c =
    let less = c.in_ok-advance.ensures.advances.on in
    let here = within-turns (way c.steps.blocks.merge) c.steps.blocks.ahead (lends g (goal.at.steps-smaller g c).After-lane).in_it in
    omega (arith, less, here)

-- No block of the part is left.
pub returns-clause-over : goal.returns-clause-over
returns-clause-over g c =
    let isnt = ap (λ (o : Option ℕ). is_some o) (sym c.in_default.ensures) in
    record { stands = c.steps.invariant.stands; start = c.steps.invariant.start; behind = isnt; on = c.steps.invariant.on isnt }
