use Rattle.std.proofs.Common.{sym, ◌∙◌}
use Rattle.cluster_writer.specs.Lent.{lent_of}
use Rattle.cluster_writer.proofs.LengthLemmas.{length-lent}
use Rattle.cluster_writer.proofs.lent.BlockRef.lengths.Goals as goal

pub returns : goal.returns
returns c =
    let b = c.args.self.now in
    record {
      block = c.lengths_of.ensures.block;
      body = c.lengths_of.ensures.body;
      whole = c.lengths_of.ensures.whole ∙ sym (length-lent b.tick b.lane b.tick (lent_of b) c.requires);
      most = c.lengths_of.ensures.most;
    }
