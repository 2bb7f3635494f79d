-- A written Cluster gives its blocks.
use Rattle.std.proofs.Common.{◌≡◌, ℕ, ◌+◌, ◌^◌, ◌<◌, ◌≤◌, nat_lt, min, Bool, true, false, if◌then◌else◌, List, [], ◌∷◌, ◌++◌, length, All, length-append, append-nil, Some, None, Err, refl, ap, ap₂, ◌∙◌, arith}
use Rattle.std.proofs.lemmas.Bool.{le-ltb}
use Rattle.std.proofs.lemmas.List.Elements.{All-nil, All-cons, All-head, All-tail}
use Rattle.ebml_numbers.specs.Number.{all_ones, is_id, uint_of, uint_octets}
use Rattle.ebml_numbers.proofs.NumberLemmas.{length-uint_octets, uint_of-octets}
use Rattle.ebml_numbers.proofs.WidthLemmas.{uint_width-IsLeast}
use Rattle.mkv_schema.specs.declared.ids.TheConstants.{TIMESTAMP, SIMPLE_BLOCK, BLOCK_GROUP}
use Rattle.mkv_schema.specs.Element.{in_master, damage}
use Rattle.mkv_schema.specs.Elements.{Run, children_in}
use Rattle.mkv_schema.specs.Value.{body_of}
use Rattle.mkv_io.specs.declared.damage.Kind.TheVariants.{BadValue}
use Rattle.block_format.specs.Elements.{without_limits}
use Rattle.block_format.specs.Events.{found_among, found_in_run, cluster_run, found_in}
use Rattle.output_model.specs.Element.{Element, IsElement, HoldsAt, element, header_of, octets_of, joined, header_in_place, headers_in_place}
use Rattle.output_model.proofs.HeldLemmas.{held-left, held-right}
use Rattle.output_model.proofs.ReadLemmas.{body_of-read, stands-body, children-all, length-octets_of}
use Rattle.output_model.specs.declared.TheConstants.{MAX_LANES}
use Rattle.output_model.specs.OutputBlock.{OutputBlock}
use Rattle.output_model.specs.Block.{block_octets, group_octets, block_element}
use Rattle.output_model.specs.Cluster.{OutputCluster, timestamp_element, block_elements, cluster_elements, cluster_element}
use Rattle.output_model.specs.Sound.{IsSoundIn, BeginsAt, IsSoundCluster}
use Rattle.output_laws.specs.Places.{HasSize, blocks_in_place, cluster_blocks, found_blocks}
use Rattle.output_laws.proofs.GroupLemmas.{IsElement-element}
use Rattle.output_laws.proofs.BlockLemmas.{block-read}

-- ---- sizes

-- If a size fits for Elements together, it fits for each.
pub sizes-joined : (es : List Element) → length (joined es) < all_ones 8 → All HasSize es
sizes-joined [] short = All-nil HasSize
sizes-joined (e ∷ es) short =
    let len = length-append (octets_of e) (joined es) in
    let own = length-octets_of e in
    All-cons HasSize e es (omega arith) (sizes-joined es (omega arith))

-- ---- its Elements

IsElement-block : (timestamp : ℕ) (b : OutputBlock) → HasSize (block_element timestamp b) → IsElement (block_element timestamp b)
unfolding is_id
IsElement-block timestamp b short = split b.group short
  where
    split : (g : Bool) → HasSize (if g then element BLOCK_GROUP (group_octets timestamp b) else element SIMPLE_BLOCK (block_octets timestamp b))
        → IsElement (if g then element BLOCK_GROUP (group_octets timestamp b) else element SIMPLE_BLOCK (block_octets timestamp b))
    split true small = IsElement-element BLOCK_GROUP (group_octets timestamp b) refl small
    split false small = IsElement-element SIMPLE_BLOCK (block_octets timestamp b) refl small

length-timestamp : (timestamp : ℕ) → timestamp < 2 ^ 63 → length (uint_octets timestamp) ≤ 8
length-timestamp timestamp low = omega (arith, length-uint_octets timestamp, (uint_width-IsLeast timestamp (omega arith)).most)

blocks-are_elements : (timestamp : ℕ) (bs : List OutputBlock) → All HasSize (block_elements timestamp bs) → All IsElement (block_elements timestamp bs)
blocks-are_elements timestamp [] short = All-nil IsElement
blocks-are_elements timestamp (b ∷ bs) short =
    All-cons IsElement (block_element timestamp b) (block_elements timestamp bs)
    (IsElement-block timestamp b (All-head HasSize (block_element timestamp b) (block_elements timestamp bs) short))
    (blocks-are_elements timestamp bs (All-tail HasSize (block_element timestamp b) (block_elements timestamp bs) short))

cluster-are_elements : (c : OutputCluster) → c.timestamp < 2 ^ 63 → All HasSize (cluster_elements c) → All IsElement (cluster_elements c)
unfolding is_id
cluster-are_elements c low short =
    let t : Element = timestamp_element c.timestamp in
    let bs : List Element = block_elements c.timestamp c.blocks in
    All-cons IsElement t bs
    (IsElement-element TIMESTAMP (uint_octets c.timestamp) refl (All-head HasSize t bs short))
    (blocks-are_elements c.timestamp c.blocks (All-tail HasSize t bs short))

-- ---- its Timestamp

-- The first block's tick is below 2^63, so the Timestamp is.
timestamp-low : (lanes timestamp : ℕ) (bs : List OutputBlock) → BeginsAt timestamp bs → All (IsSoundIn lanes timestamp) bs → timestamp < 2 ^ 63
timestamp-low lanes timestamp [] begins sound = absurd begins
timestamp-low lanes timestamp (b ∷ bs) begins sound =
    let low = (All-head (IsSoundIn lanes timestamp) b bs sound).sound.tick in
    let same : timestamp ≡ b.tick = begins in
    omega arith

-- ---- the blocks after a Timestamp

found_among-blocks : (scale : ℕ) (bytes : List ℕ) (timestamp : ℕ) (bs : List OutputBlock) (p : ℕ) → All (IsSoundIn MAX_LANES timestamp) bs → All HasSize (block_elements timestamp bs) → HoldsAt bytes p (joined (block_elements timestamp bs))
    → found_among (without_limits scale) bytes (Some timestamp) (headers_in_place p (block_elements timestamp bs)) ≡ found_blocks (blocks_in_place scale timestamp p bs)
found_among-blocks scale bytes timestamp [] p sound short stand = refl
found_among-blocks scale bytes timestamp (b ∷ bs) p sound short stand =
    let d : Element = block_element timestamp b in
    let ds : List Element = block_elements timestamp bs in
    ap₂ (λ x y. x ++ y)
    (block-read scale bytes timestamp b p (All-head (IsSoundIn MAX_LANES timestamp) b bs sound) (All-head HasSize d ds short) (held-left bytes p (octets_of d) (joined ds) stand))
    (found_among-blocks scale bytes timestamp bs (p + length (octets_of d)) (All-tail (IsSoundIn MAX_LANES timestamp) b bs sound) (All-tail HasSize d ds short) (held-right bytes p (octets_of d) (joined ds) stand))

-- ---- a Cluster

pub cluster-read : (scale : ℕ) (bytes : List ℕ) (c : OutputCluster) (p e : ℕ) → IsSoundCluster MAX_LANES c → HasSize (cluster_element c) → HoldsAt bytes p (octets_of (cluster_element c))
    → p + length (octets_of (cluster_element c)) ≤ e → found_in (without_limits scale) bytes e (header_in_place p (cluster_element c)) ≡ found_blocks (cluster_blocks scale p c)
cluster-read scale bytes c p e sound size stands ends =
    let d : Element = cluster_element c in
    let t : Element = timestamp_element c.timestamp in
    let bs : List Element = block_elements c.timestamp c.blocks in
    let ds : List Element = cluster_elements c in
    let low = timestamp-low MAX_LANES c.timestamp c.blocks sound.begins sound.blocks in
    let short = sizes-joined ds size in
    let q : ℕ = p + length (header_of d) in
    let next : ℕ = q + length (octets_of t) in
    let stand : HoldsAt bytes q (joined ds) = stands-body bytes p d stands in
    let end : min (q + length (joined ds)) e ≡ q + length (joined ds) = omega (arith, length-octets_of d) in
    let made : Run = record { list = headers_in_place q ds; damage = None; end = q + length (joined ds) } in
    let run : cluster_run bytes e (header_in_place p d) ≡ made =
    ap (children_in in_master bytes q) end ∙ children-all in_master bytes ds q refl (cluster-are_elements c low short) stand in
    let few : nat_lt 8 (length (uint_octets c.timestamp)) ≡ false = le-ltb _ _ (length-timestamp c.timestamp low) in
    let ticks : uint_of (body_of bytes (header_in_place q t)) ≡ c.timestamp =
    ap uint_of (body_of-read bytes q t (held-left bytes q (octets_of t) (joined bs) stand)) ∙ uint_of-octets c.timestamp (omega arith) in
    ap (found_in_run (without_limits scale) bytes None) run
    ∙ append-nil (found_among (without_limits scale) bytes None (headers_in_place q ds))
    ∙ ap (λ (x : Bool). (if x then Err (damage BadValue TIMESTAMP q) ∷ [] else []) ++ found_among (without_limits scale) bytes (Some (uint_of (body_of bytes (header_in_place q t)))) (headers_in_place next bs)) few
    ∙ ap (λ n. found_among (without_limits scale) bytes (Some n) (headers_in_place next bs)) ticks
    ∙ found_among-blocks scale bytes c.timestamp c.blocks next sound.blocks (All-tail HasSize t bs short) (held-right bytes q (octets_of t) (joined bs) stand)
