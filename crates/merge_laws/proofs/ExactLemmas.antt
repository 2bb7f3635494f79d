-- The blocks of an output are read as they were written, at any offsets.
use Rattle.std.proofs.Common.{◌≡◌, ℕ, ◌+◌, false, List, [], ◌∷◌, ◌++◌, length, map, flat_map, refl, sym, ap, ap₂, ◌∙◌}
use Rattle.std.proofs.lemmas.List.{map-append}
use Rattle.block_format.specs.Block.{Block}
use Rattle.block_format.specs.Events.{Event}
use Rattle.block_format.specs.Events.{blocks_of as blocks_found}
use Rattle.file_format.specs.Info.{scale_of}
use Rattle.file_format.specs.FileBlocks.{file_events}
use Rattle.output_model.specs.Element.{octets_of, joined}
use Rattle.output_model.specs.declared.heads.ClusterLimits.{ClusterLimits}
use Rattle.output_model.specs.OutputBlock.{OutputBlock}
use Rattle.output_model.specs.Block.{block_element}
use Rattle.output_model.specs.Cluster.{OutputCluster, cluster_element, clusters}
use Rattle.output_model.specs.Document.{Document, layout}
use Rattle.output_model.specs.Sound.{IsSoundDocument}
use Rattle.output_laws.specs.Places.{block_in_place, blocks_in_place, cluster_blocks, clusters_blocks, first_block}
use Rattle.output_laws.specs.Reading.{blocks_of_document, header_of_segment, segment_of_document}
use Rattle.output_laws.proofs.AgainLemmas.{blocks-all}
use Rattle.output_laws.proofs.LayoutLemmas.{layout-read}
use Rattle.output_laws.proofs.MergedClusterLemmas.{clusters-hold}
use Rattle.merge_laws.specs.Merge.{without_place}

-- The blocks of a Cluster, after its Timestamp.
cluster-exact : (scale timestamp p : ℕ) (bs : List OutputBlock) → map without_place (blocks_in_place scale timestamp p bs) ≡ map (block_in_place scale 0) bs
cluster-exact scale timestamp p [] = refl
cluster-exact scale timestamp p (b ∷ bs) =
    ap (λ (more : List Block). block_in_place scale 0 b ∷ more) (cluster-exact scale timestamp (p + length (octets_of (block_element timestamp b))) bs)

clusters-exact : (scale p : ℕ) (cs : List OutputCluster) → map without_place (clusters_blocks scale p cs) ≡ map (block_in_place scale 0) (flat_map (λ (c : OutputCluster). c.blocks) cs)
clusters-exact scale p [] = refl
clusters-exact scale p (c ∷ cs) =
    let q : ℕ = p + length (octets_of (cluster_element c)) in
    map-append without_place (cluster_blocks scale p c) (clusters_blocks scale q cs)
    ∙ ap₂ (λ (x y : List Block). x ++ y) (cluster-exact scale c.timestamp (first_block p c) c.blocks) (clusters-exact scale q cs)
    ∙ sym (map-append (block_in_place scale 0) c.blocks (flat_map (λ (x : OutputCluster). x.blocks) cs))

pub blocks-exact : (d : Document) (limits : ClusterLimits) (bs : List OutputBlock) → IsSoundDocument d → d.clusters ≡ clusters limits bs
    → map without_place (blocks_found (file_events false (layout d) (header_of_segment d))) ≡ map (block_in_place (scale_of d.front.info) 0) bs
blocks-exact d limits bs is cut =
    let scale : ℕ = scale_of d.front.info in
    let place : ℕ = (header_of_segment d).body + length (joined (segment_of_document d).front) in
    ap (λ (events : List Event). map without_place (blocks_found events)) (layout-read d is).events
    ∙ ap (map without_place) (blocks-all (blocks_of_document d))
    ∙ clusters-exact scale place d.clusters
    ∙ ap (λ (cs : List OutputCluster). map (block_in_place scale 0) (flat_map (λ (c : OutputCluster). c.blocks) cs)) cut
    ∙ ap (map (block_in_place scale 0)) (clusters-hold limits bs)
