use Rattle.std.proofs.Common.{◌≡◌, ◌≤◌, ◌+◌, ◌*◌, ℕ, List, map, sym, ◌∙◌, subst, arith}
use Rattle.mkv_io.specs.Names.{AreOthers}
use Rattle.mkv_io.proofs.WritingLemmas.{KeepsOthers-then}
use Rattle.extractors.specs.Job.{names_of}
use Rattle.meta_records.specs.Attached.{in_file}
use Rattle.requests.specs.declared.job.Target.{Target}
use Rattle.extractors.specs.Attached.{attached_at, attached_output}
use Rattle.extractors.proofs.TargetLemmas.{AreOthers-target, KeepsOthers-target, written-more, written-part}
use Rattle.extractors.proofs.attached.write_each.Goals as goal

-- The file of the source has another name than this one.
pub write_attachment-requires-clause-other : goal.write_attachment-requires-clause-other
write_attachment-requires-clause-other g c =
    AreOthers-target (g.F.Files.holder c.loop-target.files c.args.source.now.file.n) c.args.targets.now c.loop-target.target-index c.target-item.result
    (subst (λ (name : List ℕ). AreOthers name (names_of c.args.targets.now)) (sym (c.loop-target.invariant.kept.holders c.args.source.now.file.n c.requires.live)) c.requires.other)
    c.loop-target-test.true c.target-item.is

-- A further file was written.
pub loop-target-preserved : goal.loop-target-preserved
loop-target-preserved g c =
    let file = c.args.source.now.file.n in
    let same = c.loop-target.invariant.kept.others file c.requires.other in
    let ok = c.in_ok-write_attachment.ensures in
    record {
      writes = λ bytes told.
          written-more (λ (t : Target). attached_output bytes t (attached_at (map in_file c.args.source.now.attachments) t.id)) c.args.targets.now c.loop-target.target-index c.target-item.result
          (g.F.Files.names c.args.files.now) (g.F.Files.names c.loop-target.files) (g.F.Files.names c.write_attachment.new.files) c.loop-target-test.true c.target-item.is
          (c.loop-target.invariant.writes bytes told) (ok.writes bytes (same.content c.requires.live ∙ told));
      kept = KeepsOthers-then g.F.Reads g.F.Files (names_of c.args.targets.now) c.args.files.now c.loop-target.files c.write_attachment.new.files c.loop-target.invariant.kept
          (KeepsOthers-target g.F.Reads g.F.Files c.loop-target.files c.write_attachment.new.files c.args.targets.now c.loop-target.target-index c.target-item.result c.loop-target-test.true c.target-item.is c.write_attachment.ensures.kept);
      reading = ok.cause.reading ∙ c.loop-target.invariant.reading;
      writing = ok.cause.writing ∙ c.loop-target.invariant.writing;
      reads = once_more (g.F.Reads.octets_read c.args.files.now) (g.F.Reads.octets_read c.loop-target.files) (g.F.Reads.octets_read c.write_attachment.new.files) c.loop-target.target-index _ _ (same.size c.requires.live) c.loop-target.invariant.reads c.write_attachment.ensures.reads;
    }
  where
    once_more : (before mid now i size here : ℕ) → here ≡ size → mid ≤ before + i * size → now ≤ mid + here → now ≤ before + (i + 1) * size
    once_more before mid now i size here is so more = grind arith

-- The file was written in part.
pub returns-in_err-write_attachment-clause-writes : goal.returns-in_err-write_attachment-clause-writes
returns-in_err-write_attachment-clause-writes g c = λ bytes told.
    let file = c.args.source.now.file.n in
    let same = c.loop-target.invariant.kept.others file c.requires.other in
    written-part (λ (t : Target). attached_output bytes t (attached_at (map in_file c.args.source.now.attachments) t.id)) c.args.targets.now c.loop-target.target-index c.target-item.result
    (g.F.Files.names c.args.files.now) (g.F.Files.names c.loop-target.files) (g.F.Files.names c.write_attachment.new.files) c.from_residual.result c.from_residual.ensures.0 c.loop-target-test.true c.target-item.is
    (c.loop-target.invariant.writes bytes told) (c.in_err-write_attachment.ensures.writes bytes (same.content c.requires.live ∙ told))

-- No other name was written.
pub returns-in_err-write_attachment-clause-kept : goal.returns-in_err-write_attachment-clause-kept
returns-in_err-write_attachment-clause-kept g c =
    KeepsOthers-then g.F.Reads g.F.Files (names_of c.args.targets.now) c.args.files.now c.loop-target.files c.write_attachment.new.files c.loop-target.invariant.kept
    (KeepsOthers-target g.F.Reads g.F.Files c.loop-target.files c.write_attachment.new.files c.args.targets.now c.loop-target.target-index c.target-item.result c.loop-target-test.true c.target-item.is c.write_attachment.ensures.kept)
