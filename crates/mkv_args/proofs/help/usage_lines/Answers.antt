use Rattle.mkv_args.proofs.HelpLemmas.{lines_narrow}
use Rattle.mkv_args.proofs.help.usage_lines.Goals as goal

pub returns-clause-narrow : goal.returns-clause-narrow
returns-clause-narrow c = rw c.lines_of.ensures (lines_narrow c.args.about)
