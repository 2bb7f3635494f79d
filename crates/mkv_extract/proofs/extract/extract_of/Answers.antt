use Rattle.std.proofs.Common.{refl, sym, ◌∙◌, ap, rules}
use Rattle.std.specs.Option.{option_copied}
use Rattle.mkv_io.specs.Asked.{IsNotAmong}
use Rattle.mkv_io.specs.declared.asked.Asked.TheVariants.{Opened}
use Rattle.mkv_io.proofs.AskedLemmas.{asks-one}
use Rattle.sidecar_edit.specs.Name.{with_sidecar}
use Rattle.extractors.specs.Job.{names_for}
use Rattle.mkv_lines.specs.Command.{seen_in}
use Rattle.mkv_lines.proofs.VerdictLemmas.{IsStopped-before}
use Rattle.mkv_extract.specs.Extract.{extract_verdict}
use Rattle.mkv_extract.proofs.ExtractLemmas.{asks-extracted, others-input}
use Rattle.mkv_extract.proofs.extract.extract_of.Goals as goal

-- No output has the name of the file.
pub extract_settled-ended-requires : goal.extract_settled-ended-requires
extract_settled-ended-requires g c = record {
  done = c.requires.job;
  live = search rules;
  other =
      others-input c.args.name.now (g.F.Files.holder c.open_file.new.self c.in-Ok.file.n) c.args.job.now (sym c.in-Ok-None.ensures ∙ ap option_copied c.in-Ok-None.field-0-is) c.in-Ok.ensures.opened.is_new.holder;
}

-- The name of the journal couldn't be made.
pub returns-in-Err-clause-verdict : goal.returns-in-Err-clause-verdict
returns-in-Err-clause-verdict g c = λ world told.
    let still = seen_in g.F.Reads g.F.Files g.P.Report c.args.files.now c.args.report.now in
    IsStopped-before still still (extract_verdict world c.args.name.now c.args.job.now) refl refl

-- The file couldn't be opened.
pub returns-in-Err-Failed-clause-verdict : goal.returns-in-Err-Failed-clause-verdict
returns-in-Err-Failed-clause-verdict g c = λ world told.
    IsStopped-before (seen_in g.F.Reads g.F.Files g.P.Report c.args.files.now c.args.report.now)
    (seen_in g.F.Reads g.F.Files g.P.Report c.open_file.new.self c.args.report.now)
    (extract_verdict world c.args.name.now c.args.job.now) refl c.open_file.ensures.stays.names

pub returns-in-Err-Memory-clause-verdict : goal.returns-in-Err-Memory-clause-verdict
returns-in-Err-Memory-clause-verdict g c = λ world told.
    IsStopped-before (seen_in g.F.Reads g.F.Files g.P.Report c.args.files.now c.args.report.now)
    (seen_in g.F.Reads g.F.Files g.P.Report c.open_file.new.self c.args.report.now)
    (extract_verdict world c.args.name.now c.args.job.now) refl c.open_file.ensures.stays.names

-- The missing file was asked for, too.
pub returns-in-Err-Missing-clause-asks : goal.returns-in-Err-Missing-clause-asks
returns-in-Err-Missing-clause-asks g c =
    asks-one (IsNotAmong (with_sidecar c.args.name.now) (names_for c.args.job.now)) (Opened c.args.name.now) (g.F.Files.asked c.args.files.now) (g.F.Files.asked c.open_file.new.self) c.open_file.result (λ others. others.0 refl) c.open_file.ensures.asks

pub returns-in-Err-Failed-clause-asks : goal.returns-in-Err-Failed-clause-asks
returns-in-Err-Failed-clause-asks g c =
    asks-one (IsNotAmong (with_sidecar c.args.name.now) (names_for c.args.job.now)) (Opened c.args.name.now) (g.F.Files.asked c.args.files.now) (g.F.Files.asked c.open_file.new.self) c.open_file.result (λ others. others.0 refl) c.open_file.ensures.asks

pub returns-in-Err-Memory-clause-asks : goal.returns-in-Err-Memory-clause-asks
returns-in-Err-Memory-clause-asks g c =
    asks-one (IsNotAmong (with_sidecar c.args.name.now) (names_for c.args.job.now)) (Opened c.args.name.now) (g.F.Files.asked c.args.files.now) (g.F.Files.asked c.open_file.new.self) c.open_file.result (λ others. others.0 refl) c.open_file.ensures.asks

-- The file and its journal were opened, and the outputs created.
pub returns-clause-asks : goal.returns-clause-asks
returns-clause-asks g c =
    asks-extracted c.args.name.now (names_for c.args.job.now) (g.F.Files.asked c.args.files.now) (g.F.Files.asked c.open_file.new.self) (g.F.Files.asked c.extract_settled-ended.new.files) (g.F.Files.asked c.close.new.self) c.open_file.result
    c.open_file.ensures.asks c.extract_settled-ended.ensures.asks c.close.ensures.stays.asks
