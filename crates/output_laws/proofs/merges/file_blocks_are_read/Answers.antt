use Rattle.output_laws.proofs.KindLemmas.{all-read}
use Rattle.output_laws.proofs.merges.file_blocks_are_read.Goals as goal

pub returns : goal.returns
returns c = all-read
