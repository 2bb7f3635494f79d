-- The tracks of an output that is read again.
use Rattle.std.proofs.Common.{◌≡◌, ℕ, zero, suc, ◌+◌, ◌≤◌, ◌==◌, Bool, true, false, if◌then◌else◌, cond, List, [], ◌∷◌, ◌++◌, length, map, filter, flat_map, All, append-nil, refl, sym, ap, ap₂, ◌∙◌}
use Rattle.std.proofs.lemmas.List.Concat.{flat_map-append}
use Rattle.std.proofs.lemmas.List.Elements.{All-head, All-tail, filter-append}
use Rattle.file_format.specs.Info.{scale_of}
use Rattle.block_format.specs.Block.{Block}
use Rattle.block_format.specs.Events.{blocks_of}
use Rattle.file_format.specs.FileBlocks.{file_events}
use Rattle.output_model.specs.Element.{octets_of, joined}
use Rattle.output_model.specs.declared.heads.ClusterLimits.{ClusterLimits}
use Rattle.output_model.specs.OutputBlock.{OutputBlock}
use Rattle.output_model.specs.Block.{block_element}
use Rattle.output_model.specs.Cluster.{OutputCluster, cluster_element, clusters}
use Rattle.output_model.specs.Document.{Document, layout}
use Rattle.output_model.specs.Sound.{IsSoundIn, IsSoundCluster, IsSoundDocument, lanes_of}
use Rattle.output_laws.specs.Places.{block_in_place, blocks_in_place, block_events, first_block, cluster_blocks, clusters_blocks}
use Rattle.output_laws.specs.Reading.{segment_of_document, header_of_segment}
use Rattle.output_laws.proofs.LayoutLemmas.{layout-read}
use Rattle.merge_model.specs.Links.{Given, track_given, given_blocks, placed}
use Rattle.merge_model.specs.Lanes.{lane_blocks}
use Rattle.merge_model.specs.Merged.{in_lane, merged}
use Rattle.output_laws.specs.Lanes.{lane_of, lanes_from, in_lanes, as_it_stands, lanes_read, HasNoLane}
use Rattle.output_laws.proofs.TickLemmas.{placed-again}
use Rattle.output_laws.proofs.MergedLemmas.{lanes-kept}
use Rattle.output_laws.proofs.MergedClusterLemmas.{clusters-hold}

-- ---- blocks and no damage

pub blocks-all : (bs : List Block) → blocks_of (block_events bs) ≡ bs
blocks-all [] = refl
blocks-all (b ∷ bs) = ap (λ l. b ∷ l) (blocks-all bs)

-- ---- one output track

-- the blocks of a track, placed on the output track
abbrev lane_read : ℕ → ℕ → List Block → List OutputBlock
lane_read scale k bs = flat_map (placed scale as_it_stands) (filter (λ (b : Block). b.track == k) bs)

-- the blocks of an output track without its number
abbrev unnumbered : List OutputBlock → List OutputBlock
unnumbered bs = map (in_lane 0) bs

lane_blocks-one : (scale k : ℕ) (bs : List Block) → lane_blocks scale (track_given as_it_stands k (block_events bs) ∷ []) ≡ lane_read scale k bs
lane_blocks-one scale k bs =
    let g : Given = track_given as_it_stands k (block_events bs) in
    split g.stops (given_blocks scale g) ∙ ap (λ l. lane_read scale k l) (blocks-all bs)
  where
    split : (t : Bool) (first : List OutputBlock) → first ++ (if t then [] else []) ≡ first
    split true first = append-nil first
    split false first = append-nil first

lane_read-append : (scale k : ℕ) (xs ys : List Block) → lane_read scale k (xs ++ ys) ≡ lane_read scale k xs ++ lane_read scale k ys
lane_read-append scale k xs ys =
    ap (flat_map (placed scale as_it_stands)) (filter-append (λ (b : Block). b.track == k) xs ys)
    ∙ flat_map-append (placed scale as_it_stands) (filter (λ (b : Block). b.track == k) xs) (filter (λ (b : Block). b.track == k) ys)

map-append : (xs ys : List OutputBlock) → unnumbered (xs ++ ys) ≡ unnumbered xs ++ unnumbered ys
map-append [] ys = refl
map-append (x ∷ xs) ys = ap (λ l. in_lane 0 x ∷ l) (map-append xs ys)

-- The blocks of an output track, after a Timestamp.
lane_read-blocks : (scale k lanes timestamp p : ℕ) (bs : List OutputBlock) → 1 ≤ scale → All (IsSoundIn lanes timestamp) bs → lane_read scale k (blocks_in_place scale timestamp p bs) ≡ unnumbered (lane_of k bs)
lane_read-blocks scale k lanes timestamp p [] some sound = refl
lane_read-blocks scale k lanes timestamp p (b ∷ bs) some sound =
    let q : ℕ = p + length (octets_of (block_element timestamp b)) in
    split (blocks_in_place scale timestamp q bs) (lane_read-blocks scale k lanes timestamp q bs some (All-tail (IsSoundIn lanes timestamp) b bs sound)) (b.lane == k)
  where
    split : (others : List Block) → lane_read scale k others ≡ unnumbered (lane_of k bs) → (t : Bool)
        → flat_map (placed scale as_it_stands) (cond t (block_in_place scale p b ∷ filter (λ (x : Block). x.track == k) others) (filter (λ (x : Block). x.track == k) others))
        ≡ unnumbered (cond t (b ∷ lane_of k bs) (lane_of k bs))
    split others rest true =
        ap₂ (λ (x y : List OutputBlock). x ++ y) (placed-again scale p b some (All-head (IsSoundIn lanes timestamp) b bs sound).sound) rest
    split others rest false = rest

lane_read-clusters : (scale k lanes p : ℕ) (cs : List OutputCluster) → 1 ≤ scale → All (IsSoundCluster lanes) cs → lane_read scale k (clusters_blocks scale p cs) ≡ unnumbered (lane_of k (flat_map (λ (c : OutputCluster). c.blocks) cs))
lane_read-clusters scale k lanes p [] some sound = refl
lane_read-clusters scale k lanes p (c ∷ cs) some sound =
    let others : List OutputBlock = flat_map (λ (x : OutputCluster). x.blocks) cs in
    let q : ℕ = p + length (octets_of (cluster_element c)) in
    lane_read-append scale k (cluster_blocks scale p c) (clusters_blocks scale q cs)
    ∙ ap₂ (λ a b. a ++ b) (lane_read-blocks scale k lanes c.timestamp (first_block p c) c.blocks some (All-head (IsSoundCluster lanes) c cs sound).blocks) (lane_read-clusters scale k lanes q cs some (All-tail (IsSoundCluster lanes) c cs sound))
    ∙ sym (map-append (lane_of k c.blocks) (lane_of k others))
    ∙ ap unnumbered (sym (filter-append (λ (b : OutputBlock). b.lane == k) c.blocks others))

lanes_read-all : (scale k n lanes p : ℕ) (cs : List OutputCluster) → 1 ≤ scale → All (IsSoundCluster lanes) cs
    → lanes_read scale k n (block_events (clusters_blocks scale p cs)) ≡ map unnumbered (lanes_from k n (flat_map (λ (c : OutputCluster). c.blocks) cs))
lanes_read-all scale k zero lanes p cs some sound = refl
lanes_read-all scale k (suc n) lanes p cs some sound =
    ap₂ (λ l ls. l ∷ ls) (lane_blocks-one scale k (clusters_blocks scale p cs) ∙ lane_read-clusters scale k lanes p cs some sound) (lanes_read-all scale (suc k) n lanes p cs some sound)

-- ---- numbers are added and removed

unnumbered-lane : (k : ℕ) (bs : List OutputBlock) → All HasNoLane bs → unnumbered (map (in_lane k) bs) ≡ bs
unnumbered-lane k [] none = refl
unnumbered-lane k (b ∷ bs) none =
    let lane : 0 ≡ b.lane = sym (All-head HasNoLane b bs none) in
    ap₂ (λ x xs. x ∷ xs) (λ i. record b { lane = lane i }) (unnumbered-lane k bs (All-tail HasNoLane b bs none))

unnumbered-lanes : (k : ℕ) (lanes : List (List OutputBlock)) → All (All HasNoLane) lanes → map unnumbered (in_lanes k lanes) ≡ lanes
unnumbered-lanes k [] none = refl
unnumbered-lanes k (l ∷ ls) none = ap₂ (λ x xs. x ∷ xs) (unnumbered-lane k l (All-head (All HasNoLane) l ls none)) (unnumbered-lanes (suc k) ls (All-tail (All HasNoLane) l ls none))

-- ---- a document

pub lanes-again : (d : Document) (limits : ClusterLimits) (lanes : List (List OutputBlock)) → IsSoundDocument d → d.clusters ≡ clusters limits (merged lanes) → All (All HasNoLane) lanes
    → lanes_read (scale_of d.front.info) 1 (length lanes) (file_events false (layout d) (header_of_segment d)) ≡ lanes
lanes-again d limits lanes is cut none =
    let scale : ℕ = scale_of d.front.info in
    let place : ℕ = (header_of_segment d).body + length (joined (segment_of_document d).front) in
    let all : flat_map (λ (c : OutputCluster). c.blocks) d.clusters ≡ merged lanes = ap (flat_map (λ (c : OutputCluster). c.blocks)) cut ∙ clusters-hold limits (merged lanes) in
    ap (lanes_read scale 1 (length lanes)) (layout-read d is).events
    ∙ lanes_read-all scale 1 (length lanes) (lanes_of d) place d.clusters is.scale is.clusters
    ∙ ap (λ bs. map unnumbered (lanes_from 1 (length lanes) bs)) all
    ∙ ap (map unnumbered) (lanes-kept lanes)
    ∙ unnumbered-lanes 1 lanes none

pub clusters-again : (d : Document) (limits : ClusterLimits) (lanes : List (List OutputBlock)) → IsSoundDocument d → d.clusters ≡ clusters limits (merged lanes) → All (All HasNoLane) lanes
    → clusters limits (merged (lanes_read (scale_of d.front.info) 1 (length lanes) (file_events false (layout d) (header_of_segment d)))) ≡ d.clusters
clusters-again d limits lanes is cut none = ap (λ ls. clusters limits (merged ls)) (lanes-again d limits lanes is cut none) ∙ sym cut
