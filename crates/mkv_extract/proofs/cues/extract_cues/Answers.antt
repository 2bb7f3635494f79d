use Rattle.std.proofs.Common.{refl}
use Rattle.std.proofs.lemmas.Result.{err_from_is_err_and}
use Rattle.mkv_lines.specs.Command.{seen_in}
use Rattle.mkv_extract.specs.Read.{read_in}
use Rattle.mkv_extract.proofs.ExtractLemmas.{begun, cues-told, stopped, told-whole}
use Rattle.mkv_extract.proofs.cues.extract_cues.Goals as goal

-- A warning of a missing track couldn't be printed.
pub returns-in_err-say_absent-clause-verdict : goal.returns-in_err-say_absent-clause-verdict
returns-in_err-say_absent-clause-verdict g c =
    let p = err_from_is_err_and c.from_residual.result c.from_residual.ensures.1 in
    rw p.1
    (begun (cues-told c.args.name.now (read_in c.args.source.now) c.len-count.result c.args.targets.now c.len-count.ensures)
    (seen_in g.F.Reads g.F.Files g.P.Report c.args.files.now c.args.report.now) (seen_in g.F.Reads g.F.Files g.P.Report c.args.files.now c.say_absent.new.report) p.0 c.in_err-say_absent.ensures.said refl)

-- An output wasn't written.
pub returns-in-Err-clause-verdict : goal.returns-in-Err-clause-verdict
returns-in-Err-clause-verdict g c =
    stopped (cues-told c.args.name.now (read_in c.args.source.now) c.len-count.result c.args.targets.now c.len-count.ensures)
    (seen_in g.F.Reads g.F.Files g.P.Report c.args.files.now c.args.report.now) (seen_in g.F.Reads g.F.Files g.P.Report c.write_cues.new.files c.say_absent.new.report) c.stop_of.result c.in_ok-say_absent.ensures.said c.in-Err.ensures.writes

-- The outputs are complete.
pub returns-clause-verdict : goal.returns-clause-verdict
returns-clause-verdict g c =
    told-whole (read_in c.args.source.now) (cues-told c.args.name.now (read_in c.args.source.now) c.len-count.result c.args.targets.now c.len-count.ensures)
    (seen_in g.F.Reads g.F.Files g.P.Report c.args.files.now c.args.report.now) (seen_in g.F.Reads g.F.Files g.P.Report c.write_cues.new.files c.tell_held.new.report) (g.P.Report.lines c.say_absent.new.report) c.tell_held.result c.damage.result
    c.damage.ensures c.in_ok-say_absent.ensures.said c.tell_held.ensures.said c.tell_held.ensures.status c.in_default.ensures.writes

-- Only outputs were created.
pub returns-in-Err-clause-asks : goal.returns-in-Err-clause-asks
returns-in-Err-clause-asks g c = c.write_cues.ensures.kept.asks

pub returns-clause-asks : goal.returns-clause-asks
returns-clause-asks g c = c.write_cues.ensures.kept.asks
