use Rattle.std.proofs.Common.{slice_get, ◌∙◌, arith}
use Rattle.mkv_io.proofs.WritingLemmas.{KeepsOthers-then}
use Rattle.requests.specs.declared.job.Target.{Target}
use Rattle.extractors.specs.Job.{names_of}
use Rattle.meta_records.specs.Records.{scale_of_info}
use Rattle.extractors.specs.Cues.{cues_output}
use Rattle.extractors.specs.Source.{entries_in}
use Rattle.extractors.proofs.TargetLemmas.{KeepsOthers-target, written-more, written-part}
use Rattle.extractors.proofs.cues.write_cues.Goals as goal

-- A further file was written.
pub loop-target-preserved : goal.loop-target-preserved
loop-target-preserved g c =
    let ok = c.in_ok-write_track_cues.ensures in
    let source = c.args.source.now in
    record {
      writes = written-more (λ (t : Target). cues_output (scale_of_info source.info) source.cues t (slice_get (entries_in source) t.id)) c.args.targets.now c.loop-target.target-index c.target-item.result
          (g.F.Files.names c.args.files.now) (g.F.Files.names c.loop-target.files) (g.F.Files.names c.write_track_cues.new.files) c.loop-target-test.true c.target-item.is
          c.loop-target.invariant.writes ok.writes;
      kept = KeepsOthers-then g.F.Reads g.F.Files (names_of c.args.targets.now) c.args.files.now c.loop-target.files c.write_track_cues.new.files c.loop-target.invariant.kept
          (KeepsOthers-target g.F.Reads g.F.Files c.loop-target.files c.write_track_cues.new.files c.args.targets.now c.loop-target.target-index c.target-item.result c.loop-target-test.true c.target-item.is c.write_track_cues.ensures.kept);
      reading = ok.cause.reading ∙ c.loop-target.invariant.reading;
      writing = ok.cause.writing ∙ c.loop-target.invariant.writing;
      reads = omega (arith, c.write_track_cues.ensures.reads, c.loop-target.invariant.reads);
    }

-- The file was written in part.
pub returns-in_err-write_track_cues-clause-writes : goal.returns-in_err-write_track_cues-clause-writes
returns-in_err-write_track_cues-clause-writes g c =
    let source = c.args.source.now in
    written-part (λ (t : Target). cues_output (scale_of_info source.info) source.cues t (slice_get (entries_in source) t.id)) c.args.targets.now c.loop-target.target-index c.target-item.result
    (g.F.Files.names c.args.files.now) (g.F.Files.names c.loop-target.files) (g.F.Files.names c.write_track_cues.new.files) c.from_residual.result c.from_residual.ensures.0 c.loop-target-test.true c.target-item.is
    c.loop-target.invariant.writes c.in_err-write_track_cues.ensures.writes

-- No other name was written.
pub returns-in_err-write_track_cues-clause-kept : goal.returns-in_err-write_track_cues-clause-kept
returns-in_err-write_track_cues-clause-kept g c =
    KeepsOthers-then g.F.Reads g.F.Files (names_of c.args.targets.now) c.args.files.now c.loop-target.files c.write_track_cues.new.files c.loop-target.invariant.kept
    (KeepsOthers-target g.F.Reads g.F.Files c.loop-target.files c.write_track_cues.new.files c.args.targets.now c.loop-target.target-index c.target-item.result c.loop-target-test.true c.target-item.is c.write_track_cues.ensures.kept)
