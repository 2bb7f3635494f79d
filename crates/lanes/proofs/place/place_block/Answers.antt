use Rattle.std.proofs.Common.{◌≡◌, ◌∙◌, ap, map}
use Rattle.std.specs.Prelude.{ℕ, ℤ, List}
use Rattle.block_format.specs.Content.{frames_cut}
use Rattle.block_reader.specs.declared.head.BlockHead.{BlockHead}
use Rattle.merge_model.specs.Links.{lace_for}
use Rattle.output_model.specs.Ticks.{ticks_to}
use Rattle.lanes.proofs.PlaceLemmas.{track-written}
use Rattle.lanes.proofs.place.place_block.Goals as goal

pub returns-clause-lent : goal.returns-clause-lent
returns-clause-lent c = λ lends.
    let b = c.args.cursor.now.block in
    let lace : c.lace_for.result ≡ lace_for (frames_cut b.sizes b.body) b.head.lace =
    c.lace_for.ensures b.body
    ∙ ap (λ (sizes : List ℕ). lace_for (frames_cut sizes b.body) c.head-block.result.now.lace) c.sizes.ensures.exact
    ∙ ap (λ (head : BlockHead). lace_for (frames_cut b.sizes b.body) head.lace) c.head-block.ensures.exact in
    let references : c.put_references.new.into.items ≡ map (ticks_to c.args.scale c.in-Some.t) b.references =
    c.put_references.ensures.exact ∙ ap (λ (zs : List ℤ). map (ticks_to c.args.scale c.in-Some.t) zs) c.refs.ensures.exact in
    track-written c.args.scale c.in-Some.t c.args.track.now b _ _ c.requires.small.prefix lends lace references
