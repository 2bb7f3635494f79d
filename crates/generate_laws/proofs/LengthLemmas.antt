-- An output of small SimpleBlocks is short.
use Rattle.std.specs.Prelude.{⊤}
use Rattle.std.specs.List.{All}
use Rattle.std.proofs.Common.{◌≡◌, ℕ, ◌+◌, ◌*◌, ◌^◌, ◌≤◌, nat_lt, Bool, true, false, cond, if◌then◌else◌, List, [], ◌∷◌, ◌++◌, length, map, find, unwrap_or, Some, sym, subst, length-append, arith}
use Rattle.std.proofs.lemmas.List.Elements.{All-nil, All-cons, All-head, All-tail, All-append}
use Rattle.ebml_numbers.specs.Number.{all_ones, int_octets_in, least_size_width, least_width, uint_octets, uint_width}
use Rattle.ebml_numbers.proofs.NumberLemmas.{length-uint_octets}
use Rattle.ebml_numbers.proofs.SpelledLemmas.{length-int_octets_in}
use Rattle.mkv_schema.specs.declared.ids.TheConstants.{BLOCK_GROUP, CLUSTER, CUES, CUE_CLUSTER_POSITION, CUE_POINT, CUE_RELATIVE_POSITION, CUE_TIME, CUE_TRACK, CUE_TRACK_POSITIONS, SIMPLE_BLOCK, TIMESTAMP}
use Rattle.output_model.specs.declared.heads.ClusterLimits.{ClusterLimits}
use Rattle.output_model.specs.declared.places.CuePoint.{CuePoint}
use Rattle.output_model.specs.Block.{block_element, block_header, block_octets, flags_of, frame_octets, group_octets, relative_to}
use Rattle.output_model.specs.Cluster.{OutputCluster, begun, block_elements, cluster_body, cluster_element, clusters, cut_from, joins, timestamp_element, with_block}
use Rattle.output_model.specs.Cues.{cues_elements, point_element, positions_element}
use Rattle.output_model.specs.Document.{clusters_elements}
use Rattle.output_model.specs.Element.{Element, element, joined, octets_of, uint_element}
use Rattle.output_model.specs.OutputBlock.{OutputBlock}
use Rattle.output_model.proofs.ReadLemmas.{length-header_of, length-octets_of}

-- ---- an Element

-- Each number of the list is at most 8.
abbrev AreAtMostEight : List ℕ → Type 0
AreAtMostEight [] = ⊤
AreAtMostEight (w ∷ ws) = (w ≤ 8) × AreAtMostEight ws

found-most : (fits : ℕ → Bool) (ws : List ℕ) → AreAtMostEight ws → unwrap_or (find fits ws) 8 ≤ 8
found-most fits [] most = omega arith
found-most fits (w ∷ ws) most = of (fits w) most.0 (found-most fits ws most.1)
  where
    of : (t : Bool) → w ≤ 8 → unwrap_or (find fits ws) 8 ≤ 8 → unwrap_or (cond t (Some w) (find fits ws)) 8 ≤ 8
    of true here rest = here
    of false here rest = rest

-- A width has at most eight bytes.
width-most : (fits : ℕ → Bool) → least_width fits ≤ 8
width-most fits = found-most fits (1 ∷ 2 ∷ 3 ∷ 4 ∷ 5 ∷ 6 ∷ 7 ∷ 8 ∷ []) (omega arith, (omega arith, (omega arith, (omega arith, (omega arith, (omega arith, (omega arith, (omega arith, tt))))))))

uint-most : (v : ℕ) → uint_width v ≤ 8
unfolding uint_width
uint-most v = width-most (λ w. nat_lt v (256 ^ w))

size-most : (v : ℕ) → least_size_width v ≤ 8
unfolding least_size_width
size-most v = width-most (λ w. nat_lt v (all_ones w))

-- The header of an Element has at most 16 bytes.
pub element-most : (id : ℕ) (body : List ℕ) → length (octets_of (element id body)) ≤ 16 + length body
element-most id body =
    let e : Element = element id body in
    omega (arith, length-octets_of e, length-header_of e, uint-most id, size-most (length body))

number-most : (id value : ℕ) → length (octets_of (uint_element id value)) ≤ 24
number-most id value = omega (arith, element-most id (uint_octets value), length-uint_octets value, uint-most value)

-- ---- a block

-- a SimpleBlock with at most 112 bytes of frames, their sizes included
pub record IsSmall (b : OutputBlock) : Type 0 where
  pub simple : b.group ≡ false
  pub octets : length (frame_octets b.lace b.frames) ≤ 112

body-most : (timestamp : ℕ) (b : OutputBlock) → IsSmall b → length (block_octets timestamp b) ≤ 116
body-most timestamp b is =
    let few = is.octets in
    let ticks = length-int_octets_in 2 (relative_to timestamp b) in
    omega (
      arith,
      length-append (block_header timestamp b) (frame_octets b.lace b.frames),
      length-append (int_octets_in 2 (relative_to timestamp b)) (flags_of b ∷ []),
    )

pub block-most : (timestamp : ℕ) (b : OutputBlock) → IsSmall b → length (octets_of (block_element timestamp b)) ≤ 132
block-most timestamp b is =
    let P : Bool → Type 0 = λ g. length (octets_of (if g then element BLOCK_GROUP (group_octets timestamp b) else element SIMPLE_BLOCK (block_octets timestamp b))) ≤ 132 in
    subst P (sym is.simple) (omega (arith, element-most SIMPLE_BLOCK (block_octets timestamp b), body-most timestamp b is))

blocks-most : (timestamp : ℕ) (bs : List OutputBlock) → All IsSmall bs → length (joined (block_elements timestamp bs)) ≤ 132 * length bs
blocks-most timestamp [] small = omega arith
blocks-most timestamp (b ∷ bs) small =
    let first = block-most timestamp b (All-head IsSmall b bs small) in
    let rest = blocks-most timestamp bs (All-tail IsSmall b bs small) in
    omega (arith, length-append (octets_of (block_element timestamp b)) (joined (block_elements timestamp bs)))

-- ---- Clusters

pub cluster_body-most : (c : OutputCluster) → All IsSmall c.blocks → length (cluster_body c) ≤ 24 + 132 * length c.blocks
cluster_body-most c small =
    let t : Element = timestamp_element c.timestamp in
    omega (arith, length-append (octets_of t) (joined (block_elements c.timestamp c.blocks)), number-most TIMESTAMP c.timestamp, blocks-most c.timestamp c.blocks small)

cluster-most : (c : OutputCluster) → All IsSmall c.blocks → length (octets_of (cluster_element c)) ≤ 40 + 132 * length c.blocks
cluster-most c small = omega (arith, element-most CLUSTER (cluster_body c), cluster_body-most c small)

cut-most : (limits : ClusterLimits) (c : OutputCluster) (bs : List OutputBlock) → All IsSmall c.blocks → All IsSmall bs
    → length (joined (clusters_elements (cut_from limits c bs))) ≤ 40 + 132 * length c.blocks + 172 * length bs
cut-most limits c [] own small = omega (arith, length-append (octets_of (cluster_element c)) [], cluster-most c own)
cut-most limits c (b ∷ bs) own small =
    let first = All-head IsSmall b bs small in
    let rest = All-tail IsSmall b bs small in
    of (joins limits c b)
    (cut-most limits (with_block c b) bs (All-append IsSmall c.blocks (b ∷ []) own (All-cons IsSmall b [] first (All-nil IsSmall))) rest)
    (cut-most limits (begun b) bs (All-cons IsSmall b [] first (All-nil IsSmall)) rest)
  where
    of : (t : Bool) → length (joined (clusters_elements (cut_from limits (with_block c b) bs))) ≤ 40 + 132 * length (c.blocks ++ b ∷ []) + 172 * length bs
        → length (joined (clusters_elements (cut_from limits (begun b) bs))) ≤ 40 + 132 * 1 + 172 * length bs
        → length (joined (clusters_elements (if t then cut_from limits (with_block c b) bs else c ∷ cut_from limits (begun b) bs))) ≤ 40 + 132 * length c.blocks + 172 * length (b ∷ bs)
    of true more other = omega (arith, length-append c.blocks (b ∷ []))
    of false more other =
        omega (arith, length-append (octets_of (cluster_element c)) (joined (clusters_elements (cut_from limits (begun b) bs))), cluster-most c own)

-- Each block takes at most 172 bytes, its Cluster included.
pub clusters-most : (limits : ClusterLimits) (bs : List OutputBlock) → All IsSmall bs → length (joined (clusters_elements (clusters limits bs))) ≤ 172 * length bs
clusters-most limits [] small = omega arith
clusters-most limits (b ∷ bs) small =
    let all = cut-most limits (begun b) bs (All-cons IsSmall b [] (All-head IsSmall b bs small) (All-nil IsSmall)) (All-tail IsSmall b bs small) in
    omega arith

-- ---- cue points

point-most : (p : CuePoint) → length (octets_of (point_element p)) ≤ 128
point-most p =
    let track : List ℕ = octets_of (uint_element CUE_TRACK p.lane) in
    let cluster : List ℕ = octets_of (uint_element CUE_CLUSTER_POSITION p.cluster) in
    let relative : List ℕ = octets_of (uint_element CUE_RELATIVE_POSITION p.relative) in
    let places : List ℕ = track ++ (cluster ++ (relative ++ [])) in
    let inner = element-most CUE_TRACK_POSITIONS places in
    let time : List ℕ = octets_of (uint_element CUE_TIME p.tick) in
    let positions : List ℕ = octets_of (positions_element p) in
    let outer = element-most CUE_POINT (time ++ (positions ++ [])) in
    omega (
      arith,
      number-most CUE_TRACK p.lane,
      number-most CUE_CLUSTER_POSITION p.cluster,
      number-most CUE_RELATIVE_POSITION p.relative,
      number-most CUE_TIME p.tick,
      length-append track (cluster ++ (relative ++ [])),
      length-append cluster (relative ++ []),
      length-append relative [],
      length-append time (positions ++ []),
      length-append positions [],
    )

points-most : (ps : List CuePoint) → length (joined (map point_element ps)) ≤ 128 * length ps
points-most [] = omega arith
points-most (p ∷ ps) = omega (arith, length-append (octets_of (point_element p)) (joined (map point_element ps)), point-most p, points-most ps)

-- Cues have at most 128 bytes for each point.
pub cues-most : (ps : List CuePoint) → length (joined (cues_elements ps)) ≤ 16 + 128 * length ps
cues-most [] = omega arith
cues-most (p ∷ ps) =
    let body : List ℕ = joined (map point_element (p ∷ ps)) in
    omega (arith, length-append (octets_of (element CUES body)) [], element-most CUES body, points-most (p ∷ ps))
