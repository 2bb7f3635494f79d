use Rattle.std.proofs.Common.{◌≡◌, ◌<◌, ℕ, ◌*◌, ◌^◌, max, List, [], Option, refl, sym, ◌∙◌, ap, subst}
use Rattle.std.proofs.lemmas.Result.{err_from_is_err_and}
use Rattle.std.specs.Option.{IfSome, option_map}
use Rattle.mkv_io.specs.Names.{Names}
use Rattle.mkv_io.specs.Sources.{live_files}
use Rattle.output_model.specs.Document.{Document}
use Rattle.output_model.specs.declared.rule.CueRule.{CueRule}
use Rattle.cues_seekhead.specs.Draft.{StandsDrafted, draft_of}
use Rattle.splitter.specs.Sections.{Split}
use Rattle.splitter.specs.Steps.{start_of}
use Rattle.time_merge.specs.Merge.{IsTold}
use Rattle.remuxer.proofs.StandsLemmas.{stands-drafted}
use Rattle.remuxer.specs.Places.{IsEnd, first_tick, lent_ahead, part_in}
use Rattle.remuxer.specs.Stands.{Stands}
use Rattle.remuxer.specs.Taking.{CanTake, StaysDraft}
use Rattle.remuxer.proofs.TakingLemmas.{ahead-end, can-again, fills-none, fills-part, goes-then, rest-goes, rest-left, writes-then}
use Rattle.remuxer.proofs.output.fill.Given.{Over}
use Rattle.remuxer.proofs.output.fill.Goals as goal
use Rattle.remuxer.proofs.output.fill.Goals.{In_ok-add_part}

-- The output's blocks couldn't all be added.
pub returns-in_err-add_part-clause-fills : goal.returns-in_err-add_part-clause-fills
returns-in_err-add_part-clause-fills g c = λ told.
    let p = err_from_is_err_and c.from_residual.result c.from_residual.ensures.1 in
    let blocks = (part_in (live_files g.F.Reads c.args.files.now) c.args.blocks.now).blocks in
    rw p.1 (subst (λ (rules : List CueRule). StaysDraft g.F.Reads g.F.Files rules blocks c.args.files.now c.add_part.new.files c.args.writer.now) c.as_slice.ensures (c.in_err-add_part.ensures.takes told))

-- ---- all blocks were added

can : (g : Over) (c : In_ok-add_part g) → CanTake g.F.Reads g.F.Files c.add_part.new.files c.add_part.new.self c.add_part.new.blocks
can g c =
    let wrote = c.in_ok-add_part.ensures.writes in
    can-again g.F.Reads g.F.Files c.args.files.now c.add_part.new.files c.args.writer.now c.add_part.new.self c.args.blocks.now c.add_part.new.blocks c.requires.can (tt {0}) wrote c.in_ok-add_part.ensures.goes

starts : (g : Over) (c : In_ok-add_part g) → c.add_part.new.blocks.start ≡ start_of c.args.blocks.now.cuts
starts g c = c.in_ok-add_part.ensures.over.start ∙ c.requires.begun.starts

start-early : (g : Over) (c : In_ok-add_part g) → c.add_part.new.blocks.start * c.args.spec.now.limits.scale < 2 ^ 64
start-early g c =
    subst (λ (n : ℕ). c.add_part.new.blocks.start * n < 2 ^ 64) c.requires.scale (subst (λ (n : ℕ). n * c.args.blocks.now.cuts.scale < 2 ^ 64) (sym (starts g c)) c.requires.can.gives.early)

pub cut_chapters-requires-clause-start : goal.cut_chapters-requires-clause-start
cut_chapters-requires-clause-start g c = start-early g (goal.at.cut_chapters-requires-clause-start g c).In_ok-add_part

pub end_of_part-requires : goal.end_of_part-requires
end_of_part-requires g c = c.in_ok-add_part.ensures.over.stands

pub cut_chapters-requires-clause-end : goal.cut_chapters-requires-clause-end
cut_chapters-requires-clause-end g c =
    let after = (goal.at.cut_chapters-requires-clause-end g c).In_ok-add_part in
    let q = c.add_part.new.blocks in
    let scale : q.cuts.scale ≡ c.args.spec.now.limits.scale = ap (λ (s : Split). s.scale) c.in_ok-add_part.ensures.goes.split ∙ c.requires.scale in
    let early = subst (λ (n : ℕ). q.start * n < 2 ^ 64) (sym scale) (start-early g after) in
    subst (λ (o : Option ℕ). IfSome o (IsEnd c.args.spec.now.limits.scale q.start)) (sym c.end_of_part.ensures)
    (subst (λ (n : ℕ). IfSome (option_map (max q.start) (first_tick (lent_ahead q))) (IsEnd n q.start)) scale (ahead-end q q.start early c.in_ok-add_part.ensures.over.stands))

-- After a failure the content is one of the draft.
drafted : (g : Over) (c : In_ok-add_part g) (now : g.row.F.Denot) → ((before : Names) (name : List ℕ) (d : Document) → Stands g.F.Reads g.F.Files before name c.args.spec.now.rules d c.add_part.new.files c.add_part.new.self.out c.add_part.new.self.buffer c.add_part.new.self.counts [] → StandsDrafted before (g.F.Files.names now) (draft_of name d))
    → IsTold (live_files g.F.Reads c.args.files.now) c.args.blocks.now.merge → StaysDraft g.F.Reads g.F.Files c.args.spec.now.rules (part_in (live_files g.F.Reads c.args.files.now) c.args.blocks.now).blocks c.args.files.now now c.args.writer.now
drafted g c now is told =
    fills-none g.F.Reads g.F.Files c.args.spec.now c.as_slice.result.now c.args.files.now c.add_part.new.files c.args.writer.now c.add_part.new.self c.args.blocks.now c.add_part.new.blocks c.as_slice.ensures (c.in_ok-add_part.ensures.takes told) c.in_ok-add_part.ensures.over now is

-- The output's chapters couldn't be cut.
pub returns-in_err-chapters-clause-fills : goal.returns-in_err-chapters-clause-fills
returns-in_err-chapters-clause-fills g c = λ told.
    let p = err_from_is_err_and c.from_residual-in_err-chapters.result c.from_residual-in_err-chapters.ensures.1 in
    let x = c.add_part.new.files in
    let v = c.add_part.new.self in
    rw p.1 (drafted g (goal.at.returns-in_err-chapters-clause-fills g c).In_ok-add_part x (λ before name d stands. stands-drafted g.F.Reads g.F.Files before name c.args.spec.now.rules d x v.out v.buffer v.counts [] stands) told)

-- The last Cluster couldn't be written.
pub returns-in_err-add_rest-clause-fills : goal.returns-in_err-add_rest-clause-fills
returns-in_err-add_rest-clause-fills g c = λ told.
    let p = err_from_is_err_and c.from_residual-in_err-add_rest.result c.from_residual-in_err-add_rest.ensures.1 in
    rw p.1 (drafted g (goal.at.returns-in_err-add_rest-clause-fills g c).In_ok-add_part c.add_rest.new.files (λ before name d stands. c.in_err-add_rest.ensures.ends before name c.args.spec.now.rules d c.add_part.new.self.counts stands) told)

pub returns-in_err-add_rest-clause-writes : goal.returns-in_err-add_rest-clause-writes
returns-in_err-add_rest-clause-writes g c =
    let p = err_from_is_err_and c.from_residual-in_err-add_rest.result c.from_residual-in_err-add_rest.ensures.1 in
    let v = c.add_part.new.self in
    rw p.1 (writes-then g.F.Reads g.F.Files c.args.files.now c.add_part.new.files c.add_rest.new.files c.args.writer.now v (record v { out = c.add_rest.new.out; buffer = c.add_rest.new.buffer }) (tt {0}) _ c.requires.can.is_open c.in_ok-add_part.ensures.writes
    (record { file = c.in_err-add_rest.ensures.file; durations = refl; is_open = tt; kept = c.in_err-add_rest.ensures.only.kept }))

-- All was written.
pub returns-clause-fills : goal.returns-clause-fills
returns-clause-fills g c = λ told.
    let x = c.add_part.new.files in
    let v = c.add_part.new.self in
    let q = c.add_part.new.blocks in
    let only = c.in_ok-add_rest.ensures.only in
    fills-part g.F.Reads g.F.Files c.args.spec.now c.as_slice.result.now c.args.files.now x c.args.writer.now v c.args.blocks.now q c.as_slice.ensures (c.in_ok-add_part.ensures.takes told) c.in_ok-add_part.ensures.over
    c.add_rest.new.files (record v { out = c.add_rest.new.out; buffer = c.add_rest.new.buffer }) q.start c.in_ok-chapters.chapters c.end_of_part.result (starts g (goal.at.returns-clause-fills g c).In_ok-add_part) c.end_of_part.ensures c.in_ok-chapters.ensures.exact
    (rest-left g.F.Reads g.F.Files x c.add_rest.new.files v q (can g (goal.at.returns-clause-fills g c).In_ok-add_part) only.kept only.octets) c.in_ok-add_rest.ensures.ends refl refl refl

pub returns-clause-writes : goal.returns-clause-writes
returns-clause-writes g c =
    let v = c.add_part.new.self in
    writes-then g.F.Reads g.F.Files c.args.files.now c.add_part.new.files c.add_rest.new.files c.args.writer.now v (record v { out = c.add_rest.new.out; buffer = c.add_rest.new.buffer }) (tt {0}) _ c.requires.can.is_open c.in_ok-add_part.ensures.writes
    (record { file = c.in_ok-add_rest.ensures.file; durations = refl; is_open = c.in_ok-add_rest.ensures.open; kept = c.in_ok-add_rest.ensures.only.kept })

pub returns-clause-goes : goal.returns-clause-goes
returns-clause-goes g c =
    let x = c.add_part.new.files in
    let q = c.add_part.new.blocks in
    let only = c.in_ok-add_rest.ensures.only in
    goes-then g.F.Reads 0 0 c.args.files.now x c.add_rest.new.files c.args.blocks.now q q c.in_ok-add_part.ensures.goes
    (rest-goes g.F.Reads g.F.Files x c.add_rest.new.files c.add_part.new.self q (can g (goal.at.returns-clause-goes g c).In_ok-add_part) only.kept only.octets)
