use Rattle.std.proofs.Common.{subst}
use Rattle.mkv_lines.specs.Command.{seen_in}
use Rattle.mkv_lines.specs.Verdict.{Reaches}
use Rattle.extractors.specs.Source.{events_in}
use Rattle.mkv_io.specs.Results.{unless}
use Rattle.mkv_extract.specs.Extract.{Taken, unfit_track, verdict_of}
use Rattle.mkv_extract.specs.Read.{read_in}
use Rattle.mkv_extract.proofs.ExtractLemmas.{frames-taken, taken-job}
use Rattle.mkv_extract.proofs.extract.extract_job.Goals as goal

-- The job extracts from tracks.
pub extract_fit-requires-clause-takes : goal.extract_fit-requires-clause-takes
extract_fit-requires-clause-takes g c = taken-job c.args.job.now _ _ c.in-Tracks.is

pub returns-in-Tracks-clause-verdict : goal.returns-in-Tracks-clause-verdict
returns-in-Tracks-clause-verdict g c = λ bytes is.
    let name = c.args.name.now in
    let file = read_in c.args.source.now in
    subst (λ (t : Taken). Reaches (seen_in g.F.Reads g.F.Files g.P.Report c.args.files.now c.args.report.now) (seen_in g.F.Reads g.F.Files g.P.Report c.extract_fit.new.files c.extract_fit.new.report)
    c.extract_fit.result (verdict_of name (unless (unfit_track name c.args.job.now file) t)))
    (frames-taken name c.args.job.now _ _ bytes file (events_in c.args.source.now bytes) c.in-Tracks.is)
    (c.extract_fit.ensures.verdict bytes is)

-- The outputs have the names of the job.
pub returns-in-Chapters-clause-asks : goal.returns-in-Chapters-clause-asks
returns-in-Chapters-clause-asks g c = rw (c.in-Chapters.is, ← c.as_str.ensures.same) c.extract_chapters.ensures.asks

pub returns-in-Attachments-clause-asks : goal.returns-in-Attachments-clause-asks
returns-in-Attachments-clause-asks g c = rw (c.in-Attachments.is, ← c.as_slice.ensures) c.extract_attachments.ensures.asks

pub returns-in-Cues-clause-asks : goal.returns-in-Cues-clause-asks
returns-in-Cues-clause-asks g c = rw (c.in-Cues.is, ← c.as_slice-in-Cues.ensures) c.extract_cues.ensures.asks
