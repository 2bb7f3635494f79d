use Rattle.lacing.proofs.WritingLemmas.{explicit_sizes-take}
use Rattle.lacing.proofs.writing.explicit_sizes.Goals as goal

pub returns : goal.returns
returns c = explicit_sizes-take c.args.sizes.now c.requires
