-- A block has a size for each frame.
use Rattle.std.proofs.Common.{◌≡◌, ℕ, ◌+◌, List, length, sym, ap, ◌∙◌}
use Rattle.std.proofs.lemmas.List.{length-map}
use Rattle.output_model.specs.Duration.{end_at}
use Rattle.output_model.specs.OutputBlock.{IsLent, Lent, lent_block}
use Rattle.cluster_writer.specs.Lent.{lent_of}
use Rattle.cluster_writer.proofs.LengthLemmas.{sizes-lent}
use Rattle.remuxer.proofs.writer.end_of.Goals as goal

frames-long : (l : Lent) → IsLent l → length (lent_block l).frames ≡ length l.sizes
frames-long l is =
    let size : List ℕ → ℕ = length in
    sym (length-map (lent_block l).frames size) ∙ ap (λ (sizes : List ℕ). length sizes) (sizes-lent l is) ∙ length-map l.sizes (λ (n : ℕ). length l.prefix + n)

pub returns : goal.returns
returns c =
    let b = c.args.block.now in
    c.end_at.ensures ∙ ap (λ (n : ℕ). end_at c.args.durations.now b.lane b.tick n b.head.now.duration) (sym (frames-long (lent_of b) c.requires.block.lent))
