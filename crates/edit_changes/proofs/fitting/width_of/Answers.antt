use Rattle.edit_changes.proofs.SpanLemmas.{width-most, width-wider}
use Rattle.edit_changes.proofs.fitting.width_of.Goals as goal

pub returns-clause-most : goal.returns-clause-most
returns-clause-most c = width-most c.args.len c.size_width.result c.requires c.size_width.ensures.least

pub returns-clause-wider : goal.returns-clause-wider
returns-clause-wider c = width-wider c.args.len c.size_width.result c.size_width.ensures.least
