use Rattle.std.proofs.Common.{◌≡◌, List, [], Result, Some, refl, sym, ◌∙◌, ap, subst, rules}
use Rattle.mkv_io.specs.declared.damage.Damage.{Damage}
use Rattle.block_format.specs.Events.{Event}
use Rattle.mkv_io.specs.Asked.{IsNotAmong}
use Rattle.mkv_io.proofs.AskedLemmas.{asks-both, asks-none}
use Rattle.extractors.specs.Job.{names_for}
use Rattle.mkv_io.specs.declared.outside.FileId.{FileId}
use Rattle.mkv_io.specs.Sources.{live_files}
use Rattle.extractors.specs.Source.{events_in}
use Rattle.mkv_lines.specs.Faults.{Counts, HasStopCause}
use Rattle.mkv_lines.specs.Command.{seen_in}
use Rattle.mkv_lines.specs.Seen.{Seen}
use Rattle.mkv_lines.specs.Verdict.{Reaches, Verdict}
use Rattle.mkv_lines.proofs.VerdictLemmas.{IsStopped-before}
use Rattle.mkv_extract.specs.Extract.{verdict_of}
use Rattle.mkv_extract.specs.Steps.{file_taken, fit_taken, found_taken}
use Rattle.mkv_extract.specs.Read.{FileRead, read_in}
use Rattle.mkv_extract.proofs.extract.extract_file.Goals as goal

-- The file couldn't be read.
pub returns-in-Err-ReadFault-clause-verdict : goal.returns-in-Err-ReadFault-clause-verdict
returns-in-Err-ReadFault-clause-verdict g c = λ bytes told.
    IsStopped-before (seen_in g.F.Reads g.F.Files g.P.Report c.args.files.now c.args.report.now)
    (seen_in g.F.Reads g.F.Files g.P.Report c.read_source.new.src c.args.report.now)
    (verdict_of c.args.name.now (file_taken c.args.name.now c.args.job.now bytes)) refl (g.met.F.Files.names_stand c.read_source.new.src c.args.files.now c.in-Err-ReadFault.ensures.reads.standing)

pub returns-in-Err-Memory-clause-verdict : goal.returns-in-Err-Memory-clause-verdict
returns-in-Err-Memory-clause-verdict g c = λ bytes told.
    IsStopped-before (seen_in g.F.Reads g.F.Files g.P.Report c.args.files.now c.args.report.now)
    (seen_in g.F.Reads g.F.Files g.P.Report c.read_source.new.src c.args.report.now)
    (verdict_of c.args.name.now (file_taken c.args.name.now c.args.job.now bytes)) refl (g.met.F.Files.names_stand c.read_source.new.src c.args.files.now c.in-Err-Memory.ensures.reads.standing)

-- Reading changes nothing.
pub returns-in-Ok-clause-verdict : goal.returns-in-Ok-clause-verdict
returns-in-Ok-clause-verdict g c = λ bytes told.
    let name = c.args.name.now in
    let job = c.args.job.now in
    let old = c.args.files.now in
    let mid = c.read_source.new.src in
    let source = c.in-Ok.source in
    let standing : g.F.Reads.standing mid ≡ g.F.Reads.standing old = c.in-Ok.ensures.reads.standing in
    let reading : g.F.Reads.reading_faults mid ≡ g.F.Reads.reading_faults old = c.in-Ok.ensures.cause in
    let writing : g.F.Files.writing_faults mid ≡ g.F.Files.writing_faults old = g.met.F.Files.writing_stands mid old standing in
    let names : g.F.Files.names mid ≡ g.F.Files.names old = g.met.F.Files.names_stand mid old standing in
    let there : (live_files g.F.Reads mid).content source.file.n ≡ Some bytes =
    ap (λ s. (g.F.Reads.files s).content source.file.n) standing ∙ ap (λ (file : FileId). (live_files g.F.Reads old).content file.n) c.in-Ok.ensures.file ∙ told in
    let read : verdict_of name (fit_taken name job bytes (read_in source) (events_in source bytes)) ≡ verdict_of name (found_taken name job bytes _) =
    ap (λ (es : List Event). verdict_of name (fit_taken name job bytes (read_in source) es)) (c.in-Ok.ensures.events bytes told) ∙ ap (λ (found : Result FileRead Damage). verdict_of name (found_taken name job bytes found)) (sym (c.in-Ok.ensures.exact bytes told)) in
    let before : Seen = seen_in g.F.Reads g.F.Files g.P.Report old c.args.report.now in
    let after : Seen = seen_in g.F.Reads g.F.Files g.P.Report c.extract_job.new.files c.extract_job.new.report in
    let same : seen_in g.F.Reads g.F.Files g.P.Report mid c.args.report.now ≡ before =
    λ i. record {
      counts = record { reading = reading i; writing = writing i; report = g.P.Report.faults c.args.report.now };
      lines = g.P.Report.lines c.args.report.now;
      names = names i;
    } in
    subst (λ (v : Verdict). Reaches before after c.extract_job.result v) read
    (subst (λ (s : Seen). Reaches s after c.extract_job.result (verdict_of name (fit_taken name job bytes (read_in source) (events_in source bytes)))) same (c.extract_job.ensures.verdict bytes there))

pub returns-in-Ok-clause-ended : goal.returns-in-Ok-clause-ended
returns-in-Ok-clause-ended g c =
    let old = c.args.files.now in
    let mid = c.read_source.new.src in
    let reading : g.F.Reads.reading_faults mid ≡ g.F.Reads.reading_faults old = c.in-Ok.ensures.cause in
    let writing : g.F.Files.writing_faults mid ≡ g.F.Files.writing_faults old = g.met.F.Files.writing_stands mid old c.in-Ok.ensures.reads.standing in
    let after : Counts = (seen_in g.F.Reads g.F.Files g.P.Report c.extract_job.new.files c.extract_job.new.report).counts in
    let same : (seen_in g.F.Reads g.F.Files g.P.Report mid c.args.report.now).counts ≡ (seen_in g.F.Reads g.F.Files g.P.Report old c.args.report.now).counts =
    λ i. record { reading = reading i; writing = writing i; report = g.P.Report.faults c.args.report.now } in
    record {
      ordinary = search rules;
      live = search rules;
      cause = subst (λ (counts : Counts). HasStopCause counts after c.extract_job.result) same c.extract_job.ensures.ended.cause;
    }

-- Reading opens and creates nothing.
pub returns-in-Err-Refused-clause-asks : goal.returns-in-Err-Refused-clause-asks
returns-in-Err-Refused-clause-asks g c =
    asks-none (IsNotAmong [] (names_for c.args.job.now)) (g.F.Files.asked c.args.files.now) (g.F.Files.asked c.read_source.new.src)
    (g.met.F.Files.asked_stands c.read_source.new.src c.args.files.now c.in-Err-Refused.ensures.reads.standing)

pub returns-in-Err-ReadFault-clause-asks : goal.returns-in-Err-ReadFault-clause-asks
returns-in-Err-ReadFault-clause-asks g c =
    asks-none (IsNotAmong [] (names_for c.args.job.now)) (g.F.Files.asked c.args.files.now) (g.F.Files.asked c.read_source.new.src)
    (g.met.F.Files.asked_stands c.read_source.new.src c.args.files.now c.in-Err-ReadFault.ensures.reads.standing)

pub returns-in-Err-Memory-clause-asks : goal.returns-in-Err-Memory-clause-asks
returns-in-Err-Memory-clause-asks g c =
    asks-none (IsNotAmong [] (names_for c.args.job.now)) (g.F.Files.asked c.args.files.now) (g.F.Files.asked c.read_source.new.src)
    (g.met.F.Files.asked_stands c.read_source.new.src c.args.files.now c.in-Err-Memory.ensures.reads.standing)

pub returns-in-Ok-clause-asks : goal.returns-in-Ok-clause-asks
returns-in-Ok-clause-asks g c =
    let Are = IsNotAmong [] (names_for c.args.job.now) in
    asks-both Are (g.F.Files.asked c.args.files.now) (g.F.Files.asked c.read_source.new.src) (g.F.Files.asked c.extract_job.new.files)
    (asks-none Are (g.F.Files.asked c.args.files.now) (g.F.Files.asked c.read_source.new.src) (g.met.F.Files.asked_stands c.read_source.new.src c.args.files.now c.in-Ok.ensures.reads.standing))
    c.extract_job.ensures.asks
