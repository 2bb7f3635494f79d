use Rattle.std.proofs.Common.{sym}
use Rattle.text_formats.proofs.TimesLemmas.{seconds_short}
use Rattle.text_formats.proofs.times.seconds.Goals as goal

pub returns-then-word-lt6-clause-same : goal.returns-then-word-lt6-clause-same
returns-then-word-lt6-clause-same c = sym (seconds_short c.args.word.now c.if-word-lt6.true)
