use Rattle.std.proofs.Common.{[], List, refl, sym, ap, subst, ◌∙◌}
use Rattle.std.proofs.lemmas.Result.{err_from_is_err_and}
use Rattle.mkv_io.specs.Asked.{AsksOnly}
use Rattle.mkv_io.specs.Names.{AreApart, AreOthers}
use Rattle.mkv_outputs.specs.Outputs.{with_outputs}
use Rattle.mkv_outputs.specs.Starts.{ArePrefixes}
use Rattle.block_format.specs.Events.{blocks_of, damages_of}
use Rattle.extractors.specs.BadFrames.{bad_frames}
use Rattle.extractors.specs.Content.{names_in, outputs_of}
use Rattle.extractors.specs.Job.{job_outputs}
use Rattle.extractors.specs.Source.{entries_in, events_in}
use Rattle.extractors.specs.BadFrames.{told_of}
use Rattle.extractors.specs.declared.track_output.TrackOutput.{TrackOutput}
use Rattle.extractors.proofs.JobLemmas.{job_outputs-others}
use Rattle.extractors.specs.declared.extracted.Extracted.{Extracted}
use Rattle.mkv_lines.specs.Command.{seen_in}
use Rattle.mkv_extract.specs.Read.{read_in}
use Rattle.mkv_extract.specs.Told.{wrong_lines}
use Rattle.mkv_extract.proofs.ExtractLemmas.{asks-taken, begun, fit-none, fit-same, frames-told, job_outputs-apart, stopped, told}
use Rattle.mkv_extract.proofs.extract.extract_source.Goals as goal

-- The outputs have the names of the targets.
pub extract-requires-clause-apart : goal.extract-requires-clause-apart
extract-requires-clause-apart g c =
    let entries = entries_in c.args.source.now in
    subst (λ (list : List TrackOutput). AreApart (names_in list)) (sym (fit-same c.args.job.now entries c.args.outputs.now c.requires.fit))
    (job_outputs-apart c.args.job.now entries c.requires.can.done.apart)

pub extract-requires-clause-other : goal.extract-requires-clause-other
extract-requires-clause-other g c =
    let entries = entries_in c.args.source.now in
    subst (λ (list : List TrackOutput). AreOthers (g.F.Files.holder c.args.files.now c.args.source.now.file.n) (names_in list)) (sym (fit-same c.args.job.now entries c.args.outputs.now c.requires.fit))
    (job_outputs-others c.args.job.now entries (g.F.Files.holder c.args.files.now c.args.source.now.file.n) c.requires.can.other)

-- A warning of a missing track couldn't be printed.
pub returns-in_err-say_absent-clause-verdict : goal.returns-in_err-say_absent-clause-verdict
returns-in_err-say_absent-clause-verdict g c = λ bytes is.
    let p = err_from_is_err_and c.from_residual.result c.from_residual.ensures.1 in
    rw p.1
    (begun (frames-told c.args.name.now c.args.job.now (read_in c.args.source.now) (events_in c.args.source.now bytes) c.len-count.result c.targets_of-targets.result.now
    c.requires.takes (fit-none c.args.job.now (entries_in c.args.source.now) c.args.outputs.now c.requires.fit) c.len-count.ensures c.targets_of-targets.ensures)
    (seen_in g.F.Reads g.F.Files g.P.Report c.args.files.now c.args.report.now) (seen_in g.F.Reads g.F.Files g.P.Report c.args.files.now c.say_absent.new.report) p.0 c.in_err-say_absent.ensures.said refl)

-- An output wasn't written.
pub returns-in-Err-clause-verdict : goal.returns-in-Err-clause-verdict
returns-in-Err-clause-verdict g c = λ bytes is.
    stopped (frames-told c.args.name.now c.args.job.now (read_in c.args.source.now) (events_in c.args.source.now bytes) c.len-count.result c.targets_of-targets.result.now
    c.requires.takes (fit-none c.args.job.now (entries_in c.args.source.now) c.args.outputs.now c.requires.fit) c.len-count.ensures c.targets_of-targets.ensures)
    (seen_in g.F.Reads g.F.Files g.P.Report c.args.files.now c.args.report.now) (seen_in g.F.Reads g.F.Files g.P.Report c.extract.new.files c.say_absent.new.report) c.stop_of.result c.in_ok-say_absent.ensures.said
    (subst (λ (list : List TrackOutput). ArePrefixes (g.F.Files.names c.args.files.now) (g.F.Files.names c.extract.new.files) (outputs_of list (blocks_of (events_in c.args.source.now bytes))))
    (fit-same c.args.job.now (entries_in c.args.source.now) c.args.outputs.now c.requires.fit) (c.in-Err.ensures.writes bytes is))

-- The outputs are complete.
pub returns-clause-verdict : goal.returns-clause-verdict
returns-clause-verdict g c = λ bytes is.
    let events = events_in c.args.source.now bytes in
    let list = job_outputs c.args.job.now (entries_in c.args.source.now) in
    let same = fit-same c.args.job.now (entries_in c.args.source.now) c.args.outputs.now c.requires.fit in
    let tells = c.in-Ok.ensures.tells bytes is ∙ ap (λ (os : List TrackOutput). told_of os events) same in
    told (frames-told c.args.name.now c.args.job.now (read_in c.args.source.now) (events_in c.args.source.now bytes) c.len-count.result c.targets_of-targets.result.now
    c.requires.takes (fit-none c.args.job.now (entries_in c.args.source.now) c.args.outputs.now c.requires.fit) c.len-count.ensures c.targets_of-targets.ensures)
    (seen_in g.F.Reads g.F.Files g.P.Report c.args.files.now c.args.report.now) (seen_in g.F.Reads g.F.Files g.P.Report c.extract.new.files c.tell.new.report) (g.P.Report.lines c.say_absent.new.report) c.tell.result (wrong_lines c.args.name.now c.in-Ok.extracted)
    (ap (wrong_lines c.args.name.now) tells) c.in_ok-say_absent.ensures.said c.tell.ensures.said
    (c.tell.ensures.status (damages_of events) (bad_frames list (blocks_of events)) (ap (λ (e : Extracted). e.damages) tells) (ap (λ (e : Extracted). e.bad_frames) tells))
    (c.in-Ok.ensures.writes bytes is ∙ ap (λ (os : List TrackOutput). with_outputs (g.F.Files.names c.args.files.now) (outputs_of os (blocks_of events))) same)

-- Only outputs were created.
pub returns-in-Err-clause-asks : goal.returns-in-Err-clause-asks
returns-in-Err-clause-asks g c =
    asks-taken c.args.job.now (entries_in c.args.source.now) (g.F.Files.asked c.args.files.now) (g.F.Files.asked c.extract.new.files)
    (subst (λ (list : List TrackOutput). AsksOnly [] (names_in list) (g.F.Files.asked c.args.files.now) (g.F.Files.asked c.extract.new.files))
    (fit-same c.args.job.now (entries_in c.args.source.now) c.args.outputs.now c.requires.fit) c.extract.ensures.kept.asks)

pub returns-clause-asks : goal.returns-clause-asks
returns-clause-asks g c =
    asks-taken c.args.job.now (entries_in c.args.source.now) (g.F.Files.asked c.args.files.now) (g.F.Files.asked c.extract.new.files)
    (subst (λ (list : List TrackOutput). AsksOnly [] (names_in list) (g.F.Files.asked c.args.files.now) (g.F.Files.asked c.extract.new.files))
    (fit-same c.args.job.now (entries_in c.args.source.now) c.args.outputs.now c.requires.fit) c.extract.ensures.kept.asks)
