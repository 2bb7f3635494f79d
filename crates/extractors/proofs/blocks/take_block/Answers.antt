use Rattle.std.proofs.Common.{replicate, ◌∙◌, ap, subst}
use Rattle.block_reader.specs.Buffered.{block_of}
use Rattle.extractors.specs.BadFrames.{TellsMore, bad_frame}
use Rattle.extractors.proofs.BadFramesLemmas.{bad_in-same}
use Rattle.extractors.proofs.blocks.take_block.Goals as goal

-- As many frames are reported as were counted.
pub returns-clause-tells : goal.returns-clause-tells
returns-clause-tells g c = λ b enough.
    let d = bad_frame (block_of c.args.cursor.now.block) in
    subst (TellsMore c.args.bad.now c.add_bad_frames.new.bad)
    (ap (λ n. replicate n d) (c.in_ok-count.ensures.bad b enough) ∙ bad_in-same c.args.list.now b c.args.cursor.now.block enough)
    c.add_bad_frames.ensures
