use Rattle.std.proofs.Common.{[], refl, ◌∙◌}
use Rattle.mkv_io.specs.Asked.{IsNotAmong}
use Rattle.mkv_io.specs.declared.asked.Asked.TheVariants.{Opened}
use Rattle.mkv_io.proofs.AskedLemmas.{asks-one}
use Rattle.sidecar_edit.specs.Name.{with_sidecar}
use Rattle.sidecar_edit.specs.Pending.{is_pending}
use Rattle.mkv_lines.specs.Command.{seen_in}
use Rattle.mkv_lines.proofs.VerdictLemmas.{IsStopped-before}
use Rattle.mkv_info.specs.Info.{info_verdict}
use Rattle.mkv_info.proofs.InfoLemmas.{asks-told, reaches-settled}
use Rattle.mkv_info.proofs.info.info_of.Goals as goal

-- The file couldn't be opened.
pub returns-in-Err-Failed-clause-verdict : goal.returns-in-Err-Failed-clause-verdict
returns-in-Err-Failed-clause-verdict g c = λ world told.
    IsStopped-before (seen_in g.F.Reads g.F.Files g.P.Report c.args.files.now c.args.report.now)
    (seen_in g.F.Reads g.F.Files g.P.Report c.open_file.new.self c.args.report.now)
    (info_verdict c.args.form world c.args.name.now) refl c.open_file.ensures.stays.names

pub returns-in-Err-Memory-clause-verdict : goal.returns-in-Err-Memory-clause-verdict
returns-in-Err-Memory-clause-verdict g c = λ world told.
    IsStopped-before (seen_in g.F.Reads g.F.Files g.P.Report c.args.files.now c.args.report.now)
    (seen_in g.F.Reads g.F.Files g.P.Report c.open_file.new.self c.args.report.now)
    (info_verdict c.args.form world c.args.name.now) refl c.open_file.ensures.stays.names

-- The file exists.
pub returns-clause-verdict : goal.returns-clause-verdict
returns-clause-verdict g c = λ world told.
    let name = c.args.name.now in
    let opened = c.open_file.ensures.stays.names in
    reaches-settled (seen_in g.F.Reads g.F.Files g.P.Report c.args.files.now c.args.report.now)
    (seen_in g.F.Reads g.F.Files g.P.Report c.close.new.self c.report_unless_pending-ended.new.report)
    c.report_unless_pending-ended.result c.args.form name (is_pending world name) (world name)
    (λ none. let refused = (c.in-Ok.ensures.missing world told).1 none in absurd (cc))
    (λ bytes is. c.report_unless_pending-ended.ensures.verdict world (opened ∙ told) bytes (c.in-Ok.ensures.opened.content world told ∙ is))
    (c.close.ensures.stays.names ∙ c.report_unless_pending-ended.ensures.looks.names ∙ opened)

-- The missing file was asked for, too.
pub returns-in-Err-Missing-clause-asks : goal.returns-in-Err-Missing-clause-asks
returns-in-Err-Missing-clause-asks g c =
    asks-one (IsNotAmong (with_sidecar c.args.name.now) []) (Opened c.args.name.now) (g.F.Files.asked c.args.files.now) (g.F.Files.asked c.open_file.new.self) c.open_file.result (λ others. others.0 refl) c.open_file.ensures.asks

pub returns-in-Err-Failed-clause-asks : goal.returns-in-Err-Failed-clause-asks
returns-in-Err-Failed-clause-asks g c =
    asks-one (IsNotAmong (with_sidecar c.args.name.now) []) (Opened c.args.name.now) (g.F.Files.asked c.args.files.now) (g.F.Files.asked c.open_file.new.self) c.open_file.result (λ others. others.0 refl) c.open_file.ensures.asks

pub returns-in-Err-Memory-clause-asks : goal.returns-in-Err-Memory-clause-asks
returns-in-Err-Memory-clause-asks g c =
    asks-one (IsNotAmong (with_sidecar c.args.name.now) []) (Opened c.args.name.now) (g.F.Files.asked c.args.files.now) (g.F.Files.asked c.open_file.new.self) c.open_file.result (λ others. others.0 refl) c.open_file.ensures.asks

-- The file and its journal were opened.
pub returns-clause-asks : goal.returns-clause-asks
returns-clause-asks g c =
    asks-told c.args.name.now (g.F.Files.asked c.args.files.now) (g.F.Files.asked c.open_file.new.self) (g.F.Files.asked c.report_unless_pending-ended.new.files) (g.F.Files.asked c.close.new.self) c.open_file.result
    c.open_file.ensures.asks c.report_unless_pending-ended.ensures.looks.kept.asks c.close.ensures.stays.asks
