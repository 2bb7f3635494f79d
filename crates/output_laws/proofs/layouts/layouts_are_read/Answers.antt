use Rattle.output_laws.proofs.LayoutLemmas.{layout-read}
use Rattle.output_laws.proofs.layouts.layouts_are_read.Goals as goal

pub returns : goal.returns
returns c = layout-read
