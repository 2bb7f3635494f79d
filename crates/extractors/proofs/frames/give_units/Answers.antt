use Rattle.std.proofs.Common.{◌≡◌, [], None, Some, unwrap_or, sym, ◌∙◌, refl}
use Rattle.elementary.specs.Units.{unit_at}
use Rattle.elementary.specs.Avc.{annex_b, start_coded}
use Rattle.elementary.proofs.UnitsLemmas.{unit_at-fewer, join-step}
use Rattle.mkv_outputs.proofs.FilesLemmas.{WritesOutputs-none, WritesOutputs-then}
use Rattle.mkv_outputs.proofs.GivenLemmas.{length-same}
use Rattle.extractors.proofs.FramesLemmas.{GivesUpTo-begins, GivesUpTo-ends, GivesUpTo-more, GivesUpTo-stops, HasGiven-none}
use Rattle.extractors.proofs.UnitsLemmas.{units-bad, units-next, units-none}
use Rattle.extractors.proofs.frames.give_units.Goals as goal

-- A bad frame writes nothing.
pub returns-then-not-is_join-clause-gives : goal.returns-then-not-is_join-clause-gives
returns-then-not-is_join-clause-gives g c =
    HasGiven-none g.F.Files c.args.files.now c.args.outputs.now c.args.k _ (units-bad c.args.length_size c.args.frame.now (sym c.is_join.ensures ∙ c.if-not-is_join.true))

pub returns-then-not-is_join-clause-only : goal.returns-then-not-is_join-clause-only
returns-then-not-is_join-clause-only g c = WritesOutputs-none g.F.Reads g.F.Files c.args.files.now c.args.outputs.now c.requires.open

-- No unit is written yet.
pub loop-unit-init : goal.loop-unit-init
loop-unit-init g c = record {
  so = GivesUpTo-begins g.F.Files c.args.files.now c.args.outputs.now c.args.k _ _ refl;
  join = sym c.is_join.ensures ∙ c.if-not-is_join.false;
  count = refl;
  wrote = WritesOutputs-none g.F.Reads g.F.Files c.args.files.now c.args.outputs.now c.requires.open;
  writing = refl;
}

-- The first unit was written.
pub loop-unit-preserved : goal.loop-unit-preserved
loop-unit-preserved g c =
    let w = c.args.length_size in
    let rest = c.loop-unit.rest.now in
    let unit = c.in-Some.unit.now in
    let behind = c.in-Some.behind.now in
    let found : unit_at w rest ≡ Some (unit, behind) = c.in-Some.ensures in
    record {
      so = GivesUpTo-more c.loop-unit.invariant.so c.give_behind.new.files c.give_behind.new.outputs (start_coded unit) (unwrap_or (annex_b w behind) [])
          (units-next w rest unit behind found c.loop-unit.invariant.join) c.in_ok-give_behind.ensures.gives;
      join = sym (join-step w rest unit behind found) ∙ c.loop-unit.invariant.join;
      count = length-same c.loop-unit.outputs c.give_behind.new.outputs c.give_behind.ensures.only.same ∙ c.loop-unit.invariant.count;
      wrote = WritesOutputs-then g.F.Reads g.F.Files c.args.files.now c.loop-unit.files c.give_behind.new.files c.args.outputs.now c.loop-unit.outputs c.give_behind.new.outputs c.requires.open c.loop-unit.invariant.wrote c.give_behind.ensures.only;
      writing = c.in_ok-give_behind.ensures.cause ∙ c.loop-unit.invariant.writing;
    }

pub loop-unit-smaller : goal.loop-unit-smaller
loop-unit-smaller g c =
    let found : unit_at c.args.length_size c.loop-unit.rest.now ≡ Some (c.in-Some.unit.now, c.in-Some.behind.now) = c.in-Some.ensures in
    unit_at-fewer _ _ _ _ found

-- The unit was written in part.
pub returns-in_err-give_behind-clause-gives : goal.returns-in_err-give_behind-clause-gives
returns-in_err-give_behind-clause-gives g c =
    let w = c.args.length_size in
    let rest = c.loop-unit.rest.now in
    let unit = c.in-Some.unit.now in
    let behind = c.in-Some.behind.now in
    let found : unit_at w rest ≡ Some (unit, behind) = c.in-Some.ensures in
    GivesUpTo-stops c.loop-unit.invariant.so c.give_behind.new.files c.give_behind.new.outputs (start_coded unit) (unwrap_or (annex_b w behind) [])
    (units-next w rest unit behind found c.loop-unit.invariant.join) c.from_residual.result c.from_residual.ensures.0 c.in_err-give_behind.ensures.gives

-- Only the output was written until then.
pub returns-in_err-give_behind-clause-only : goal.returns-in_err-give_behind-clause-only
returns-in_err-give_behind-clause-only g c =
    WritesOutputs-then g.F.Reads g.F.Files c.args.files.now c.loop-unit.files c.give_behind.new.files c.args.outputs.now c.loop-unit.outputs c.give_behind.new.outputs c.requires.open c.loop-unit.invariant.wrote c.give_behind.ensures.only

-- All units were written.
pub returns-clause-gives : goal.returns-clause-gives
returns-clause-gives g c =
    let none : unit_at c.args.length_size c.loop-unit.rest.now ≡ None = c.in_default.ensures in
    GivesUpTo-ends c.loop-unit.invariant.so (units-none c.args.length_size c.loop-unit.rest.now none)
