use Rattle.std.proofs.Common.{length, refl, sym, ◌∙◌, ap}
use Rattle.std.proofs.lemmas.List.{length-map}
use Rattle.std.proofs.lemmas.Result.{err_from_is_err_and}
use Rattle.meta_records.specs.Attached.{in_file}
use Rattle.mkv_lines.specs.Command.{seen_in}
use Rattle.mkv_extract.specs.Read.{read_in}
use Rattle.mkv_extract.proofs.ExtractLemmas.{attached-told, begun, stopped, told-whole}
use Rattle.mkv_extract.proofs.attachments.extract_attachments.Goals as goal

-- A warning of a missing attached file couldn't be printed.
pub returns-in_err-say_absent-clause-verdict : goal.returns-in_err-say_absent-clause-verdict
returns-in_err-say_absent-clause-verdict g c = λ bytes is.
    let p = err_from_is_err_and c.from_residual.result c.from_residual.ensures.1 in
    rw p.1
    (begun (attached-told c.args.name.now bytes (read_in c.args.source.now) _ c.args.targets.now
    (ap length c.as_slice.ensures ∙ sym (length-map c.args.source.now.attachments in_file)) c.requires.numbers)
    (seen_in g.F.Reads g.F.Files g.P.Report c.args.files.now c.args.report.now) (seen_in g.F.Reads g.F.Files g.P.Report c.args.files.now c.say_absent.new.report) p.0 c.in_err-say_absent.ensures.said refl)

-- An output wasn't written.
pub returns-in-Err-clause-verdict : goal.returns-in-Err-clause-verdict
returns-in-Err-clause-verdict g c = λ bytes is.
    stopped (attached-told c.args.name.now bytes (read_in c.args.source.now) _ c.args.targets.now
    (ap length c.as_slice.ensures ∙ sym (length-map c.args.source.now.attachments in_file)) c.requires.numbers)
    (seen_in g.F.Reads g.F.Files g.P.Report c.args.files.now c.args.report.now) (seen_in g.F.Reads g.F.Files g.P.Report c.write_attachments.new.files c.say_absent.new.report) c.stop_of.result c.in_ok-say_absent.ensures.said (c.in-Err.ensures.writes bytes is)

-- The outputs are complete.
pub returns-clause-verdict : goal.returns-clause-verdict
returns-clause-verdict g c = λ bytes is.
    told-whole (read_in c.args.source.now) (attached-told c.args.name.now bytes (read_in c.args.source.now) _ c.args.targets.now
    (ap length c.as_slice.ensures ∙ sym (length-map c.args.source.now.attachments in_file)) c.requires.numbers)
    (seen_in g.F.Reads g.F.Files g.P.Report c.args.files.now c.args.report.now) (seen_in g.F.Reads g.F.Files g.P.Report c.write_attachments.new.files c.tell_held.new.report) (g.P.Report.lines c.say_absent.new.report) c.tell_held.result c.damage.result
    c.damage.ensures c.in_ok-say_absent.ensures.said c.tell_held.ensures.said c.tell_held.ensures.status (c.in_default.ensures.writes bytes is)

-- Only outputs were created.
pub returns-in-Err-clause-asks : goal.returns-in-Err-clause-asks
returns-in-Err-clause-asks g c = c.write_attachments.ensures.kept.asks

pub returns-clause-asks : goal.returns-clause-asks
returns-clause-asks g c = c.write_attachments.ensures.kept.asks
