-- The blocks of an output are read in order.
use Rattle.std.proofs.Common.{◌≡◌, ℕ, ◌+◌, ◌≤◌, false, List, [], ◌∷◌, ◌++◌, length, map, flat_map, All, refl, ap, ap₂, ◌∙◌}
use Rattle.std.proofs.lemmas.List.Concat.{flat_map-append}
use Rattle.std.proofs.lemmas.List.Elements.{All-head, All-tail}
use Rattle.file_format.specs.Info.{scale_of}
use Rattle.file_format.specs.FileBlocks.{file_events}
use Rattle.output_model.specs.Element.{octets_of, joined}
use Rattle.output_model.specs.declared.heads.ClusterLimits.{ClusterLimits}
use Rattle.output_model.specs.OutputBlock.{OutputBlock}
use Rattle.output_model.specs.Block.{block_element}
use Rattle.output_model.specs.Cluster.{OutputCluster, cluster_element, clusters}
use Rattle.output_model.specs.Document.{Document, layout}
use Rattle.output_model.specs.Sound.{IsSoundBlock, IsSoundIn, IsSoundCluster, IsSoundDocument, lanes_of}
use Rattle.output_laws.specs.Places.{block_in_place, blocks_in_place, first_block, cluster_blocks, clusters_blocks}
use Rattle.output_laws.specs.Reading.{blocks_of_document, header_of_segment, segment_of_document}
use Rattle.output_laws.proofs.LayoutLemmas.{layout-read}
use Rattle.merge_model.specs.Merged.{in_lane}
use Rattle.output_laws.specs.Lanes.{block_read, blocks_read}
use Rattle.output_laws.proofs.AgainLemmas.{blocks-all}
use Rattle.output_laws.proofs.MergedClusterLemmas.{clusters-hold}
use Rattle.output_laws.proofs.TickLemmas.{placed-again}

block-again : (scale p : ℕ) (b : OutputBlock) → 1 ≤ scale → IsSoundBlock b → block_read scale (block_in_place scale p b) ≡ b ∷ []
block-again scale p b some sound = ap (map (in_lane b.lane)) (placed-again scale p b some sound)

-- The blocks after a Timestamp.
blocks-again : (scale lanes timestamp p : ℕ) (bs : List OutputBlock) → 1 ≤ scale → All (IsSoundIn lanes timestamp) bs → flat_map (block_read scale) (blocks_in_place scale timestamp p bs) ≡ bs
blocks-again scale lanes timestamp p [] some sound = refl
blocks-again scale lanes timestamp p (b ∷ bs) some sound =
    let q : ℕ = p + length (octets_of (block_element timestamp b)) in
    ap₂ (λ (x y : List OutputBlock). x ++ y) (block-again scale p b some (All-head (IsSoundIn lanes timestamp) b bs sound).sound)
    (blocks-again scale lanes timestamp q bs some (All-tail (IsSoundIn lanes timestamp) b bs sound))

clusters-again : (scale lanes p : ℕ) (cs : List OutputCluster) → 1 ≤ scale → All (IsSoundCluster lanes) cs → flat_map (block_read scale) (clusters_blocks scale p cs) ≡ flat_map (λ (c : OutputCluster). c.blocks) cs
clusters-again scale lanes p [] some sound = refl
clusters-again scale lanes p (c ∷ cs) some sound =
    let q : ℕ = p + length (octets_of (cluster_element c)) in
    flat_map-append (block_read scale) (cluster_blocks scale p c) (clusters_blocks scale q cs)
    ∙ ap₂ (λ (x y : List OutputBlock). x ++ y) (blocks-again scale lanes c.timestamp (first_block p c) c.blocks some (All-head (IsSoundCluster lanes) c cs sound).blocks)
    (clusters-again scale lanes q cs some (All-tail (IsSoundCluster lanes) c cs sound))

pub order-again : (d : Document) (limits : ClusterLimits) (bs : List OutputBlock) → IsSoundDocument d → d.clusters ≡ clusters limits bs → blocks_read (scale_of d.front.info) (file_events false (layout d) (header_of_segment d)) ≡ bs
order-again d limits bs is cut =
    let scale : ℕ = scale_of d.front.info in
    let place : ℕ = (header_of_segment d).body + length (joined (segment_of_document d).front) in
    ap (blocks_read scale) (layout-read d is).events
    ∙ ap (flat_map (block_read scale)) (blocks-all (blocks_of_document d))
    ∙ clusters-again scale (lanes_of d) place d.clusters is.scale is.clusters
    ∙ ap (flat_map (λ (c : OutputCluster). c.blocks)) cut ∙ clusters-hold limits bs
