use Rattle.cluster_writer.proofs.FramesLemmas.{can-prefixed}
use Rattle.cluster_writer.proofs.lent.lengths_of.Goals as goal

pub block_len-block-requires : goal.block_len-block-requires
block_len-block-requires c = can-prefixed _ _ _ _ _ c.requires
