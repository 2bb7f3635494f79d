use Rattle.std.proofs.Common.{[], ◌∷◌, sym}
use Rattle.extractors.specs.Chapters.{chapters_output}
use Rattle.mkv_lines.specs.Command.{seen_in}
use Rattle.mkv_lines.proofs.SaidLemmas.{with_lines-none}
use Rattle.mkv_extract.specs.Read.{read_in}
use Rattle.mkv_extract.proofs.ExtractLemmas.{reaches-whole}
use Rattle.mkv_extract.proofs.chapters.extract_chapters.Goals as goal

-- The output is complete.
pub returns-clause-verdict : goal.returns-clause-verdict
returns-clause-verdict g c =
    let lines = g.P.Report.lines c.args.report.now in
    reaches-whole (seen_in g.F.Reads g.F.Files g.P.Report c.args.files.now c.args.report.now) (seen_in g.F.Reads g.F.Files g.P.Report c.write_chapters.new.files c.tell_output.new.report)
    lines c.tell_output.result c.args.name.now (read_in c.args.source.now) [] (chapters_output c.args.out.now c.args.source.now.chapters ∷ []) c.damage.result
    c.damage.ensures (sym (with_lines-none lines)) c.tell_output.ensures.said c.tell_output.ensures.status c.in_default.ensures.writes

-- Only outputs were created.
pub returns-in-Err-clause-asks : goal.returns-in-Err-clause-asks
returns-in-Err-clause-asks g c = c.write_chapters.ensures.kept.asks

pub returns-clause-asks : goal.returns-clause-asks
returns-clause-asks g c = c.write_chapters.ensures.kept.asks
