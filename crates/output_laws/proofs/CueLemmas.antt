-- Cue points point at their blocks.
use Rattle.std.proofs.Common.{◌≡◌, ℕ, ◌+◌, ◌≤◌, List, [], ◌∷◌, ◌++◌, length, All, Contains, length-append, Ok, refl, ap, ◌∙◌, subst, arith, Bool, true, false}
use Rattle.std.proofs.lemmas.List.Concat.{flat_map-append}
use Rattle.std.proofs.lemmas.List.Elements.{All-nil, All-cons, All-head, All-tail, All-append, All-contains_itself}
use Rattle.ebml_numbers.specs.Number.{is_id}
use Rattle.mkv_schema.specs.declared.ids.TheConstants.{CLUSTER}
use Rattle.mkv_schema.specs.declared.element.Header.{Header}
use Rattle.mkv_schema.specs.Element.{in_segment, element_at}
use Rattle.mkv_schema.specs.Outline.{segment_bound}
use Rattle.block_format.specs.Block.{Block}
use Rattle.block_format.specs.Elements.{without_limits}
use Rattle.block_format.specs.Events.{Found, found_in}
use Rattle.output_model.specs.Element.{Element, HoldsAt, header_of, octets_of, joined, header_in_place}
use Rattle.output_model.proofs.HeldLemmas.{held-left, held-right, held-within}
use Rattle.output_model.proofs.ReadLemmas.{element_at-read, stands-body, length-octets_of, octets_of-some}
use Rattle.output_model.specs.declared.TheConstants.{MAX_LANES}
use Rattle.output_model.specs.declared.places.CuePoint.{CuePoint}
use Rattle.output_model.specs.OutputBlock.{OutputBlock}
use Rattle.output_model.specs.Block.{block_element}
use Rattle.output_model.specs.Cluster.{OutputCluster, timestamp_element, cluster_element}
use Rattle.output_model.specs.Cues.{point_of, points_where, points_in, points_from}
use Rattle.output_model.specs.Document.{clusters_elements}
use Rattle.output_model.specs.Sound.{IsSoundCluster}
use Rattle.output_laws.specs.Places.{HasSize, block_in_place, blocks_in_place, found_blocks, first_block, cluster_blocks, OutputSegment, segment_elements, segment_element, IsSoundSegment}
use Rattle.output_laws.specs.Points.{PointsAtBlock}
use Rattle.output_laws.proofs.GroupLemmas.{IsElement-element}
use Rattle.output_laws.proofs.ClusterLemmas.{cluster-read}
use Rattle.output_laws.proofs.SegmentLemmas.{sizes-clusters, IsElement-segment}

-- Each block is among the results.
found-each : (fs : List Found) (bs : List Block) → All (Contains fs) (found_blocks bs) → All (λ (b : Block). Contains fs (Ok b)) bs
found-each fs [] are = All-nil (λ (b : Block). Contains fs (Ok b))
found-each fs (b ∷ bs) are =
    All-cons (λ (x : Block). Contains fs (Ok x)) b bs (All-head (Contains fs) (Ok b) (found_blocks bs) are) (found-each fs bs (All-tail (Contains fs) (Ok b) (found_blocks bs) are))

-- The cue points of a Cluster's blocks.
points-in : (scale : ℕ) (bytes : List ℕ) (cued : OutputBlock → Bool) (segment cluster : Header) (c timestamp relative q : ℕ) (bs : List OutputBlock)
    → element_at in_segment bytes (segment.body + c) (segment_bound bytes segment) ≡ Ok cluster → cluster.id ≡ CLUSTER → q ≡ cluster.body + relative
    → All (λ (b : Block). Contains (found_in (without_limits scale) bytes (segment_bound bytes segment) cluster) (Ok b)) (blocks_in_place scale timestamp q bs)
    → All (PointsAtBlock scale bytes segment) (points_in cued c timestamp relative bs)
points-in scale bytes cued segment cluster c timestamp relative q [] stands is place found = All-nil (PointsAtBlock scale bytes segment)
points-in scale bytes cued segment cluster c timestamp relative q (b ∷ bs) stands is place found =
    let P : Block → Type 0 = λ x. Contains (found_in (without_limits scale) bytes (segment_bound bytes segment) cluster) (Ok x) in
    let len : ℕ = length (octets_of (block_element timestamp b)) in
    let others : List Block = blocks_in_place scale timestamp (q + len) bs in
    All-append (PointsAtBlock scale bytes segment) (points_where (cued b) (point_of c relative b)) (points_in cued c timestamp (relative + len) bs)
    (chosen (point_of c relative b) (cued b)
    (cluster, block_in_place scale q b, record { stands = stands; is_cluster = is; found = All-head P (block_in_place scale q b) others found; place = place; track = refl; time = refl }))
    (points-in scale bytes cued segment cluster c timestamp (relative + len) (q + len) bs stands is (omega arith) (All-tail P (block_in_place scale q b) others found))
  where
    chosen : (point : CuePoint) (t : Bool) → PointsAtBlock scale bytes segment point → All (PointsAtBlock scale bytes segment) (points_where t point)
    chosen point true here = All-cons (PointsAtBlock scale bytes segment) point [] here (All-nil (PointsAtBlock scale bytes segment))
    chosen point false here = All-nil (PointsAtBlock scale bytes segment)

-- The cue points of Clusters.
points-from : (scale : ℕ) (bytes : List ℕ) (cued : OutputBlock → Bool) (segment : Header) (c : ℕ) (cs : List OutputCluster) → All (IsSoundCluster MAX_LANES) cs → All HasSize (clusters_elements cs) → HoldsAt bytes (segment.body + c) (joined (clusters_elements cs)) → segment.body + c + length (joined (clusters_elements cs)) ≤ segment_bound bytes segment
    → All (PointsAtBlock scale bytes segment) (points_from cued c cs)
unfolding is_id
points-from scale bytes cued segment c [] sound short stand ends = All-nil (PointsAtBlock scale bytes segment)
points-from scale bytes cued segment c (k ∷ ks) sound short stand ends =
    let d : Element = cluster_element k in
    let p : ℕ = segment.body + c in
    let e : ℕ = segment_bound bytes segment in
    let others : List ℕ = joined (clusters_elements ks) in
    let len = length-append (octets_of d) others in
    let is = All-head (IsSoundCluster MAX_LANES) k ks sound in
    let size = All-head HasSize d (clusters_elements ks) short in
    let here = held-left bytes p (octets_of d) others stand in
    let next : p + length (octets_of d) ≡ segment.body + (c + length (octets_of d)) = omega arith in
    let found = cluster-read scale bytes k p e is size here (omega arith) in
    let blocks : List Block = cluster_blocks scale p k in
    let all : All (Contains (found_in (without_limits scale) bytes e (header_in_place p d))) (found_blocks blocks) =
    subst (λ (fs : List Found). All (Contains (found_in (without_limits scale) bytes e (header_in_place p d))) fs) found (All-contains_itself (found_in (without_limits scale) bytes e (header_in_place p d))) in
    All-append (PointsAtBlock scale bytes segment) (points_in cued c k.timestamp (length (octets_of (timestamp_element k.timestamp))) k.blocks) (points_from cued (c + length (octets_of d)) ks)
    (points-in scale bytes cued segment (header_in_place p d) c k.timestamp _ (first_block p k) k.blocks
    (element_at-read in_segment bytes d p e refl (IsElement-element CLUSTER _ refl size) here (omega arith)) refl refl
    (found-each (found_in (without_limits scale) bytes e (header_in_place p d)) blocks all))
    (points-from scale bytes cued segment (c + length (octets_of d)) ks (All-tail (IsSoundCluster MAX_LANES) k ks sound) (All-tail HasSize d (clusters_elements ks) short)
    (subst (λ (q : ℕ). HoldsAt bytes q others) next (held-right bytes p (octets_of d) others stand)) (omega arith))

pub points-hold : (scale : ℕ) (bytes : List ℕ) (cued : OutputBlock → Bool) (s : OutputSegment) (p : ℕ) → IsSoundSegment s → HoldsAt bytes p (octets_of (segment_element s))
    → All (PointsAtBlock scale bytes (header_in_place p (segment_element s))) (points_from cued (length (joined s.front)) s.clusters)
points-hold scale bytes cued s p sound stands =
    let d : Element = segment_element s in
    let q : ℕ = p + length (header_of d) in
    let within = held-within bytes p (octets_of d) stands (octets_of-some d (IsElement-segment s sound.size)) in
    let middle : List ℕ = joined (clusters_elements s.clusters) in
    let apart : joined (segment_elements s) ≡ joined s.front ++ (middle ++ joined s.behind) =
    flat_map-append octets_of s.front (clusters_elements s.clusters ++ s.behind) ∙ ap (λ o. joined s.front ++ o) (flat_map-append octets_of (clusters_elements s.clusters) s.behind) in
    let whole : length (joined (segment_elements s)) ≡ length (joined s.front) + length (middle ++ joined s.behind) = ap (λ (o : List ℕ). length o) apart ∙ length-append (joined s.front) (middle ++ joined s.behind) in
    let part = length-append middle (joined s.behind) in
    let size = length-octets_of d in
    points-from scale bytes cued (header_in_place p d) (length (joined s.front)) s.clusters sound.clusters (sizes-clusters s sound.size)
    (held-left bytes (q + length (joined s.front)) middle (joined s.behind)
    (held-right bytes q (joined s.front) (middle ++ joined s.behind) (subst (HoldsAt bytes q) apart (stands-body bytes p d stands))))
    (omega arith)
