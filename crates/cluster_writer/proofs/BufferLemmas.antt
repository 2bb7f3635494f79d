-- The bytes of a Cluster's buffer, and its blocks.
use Rattle.std.proofs.Common.{◌≡◌, ◌≤◌, ℕ, ◌+◌, ◌^◌, List, [], ◌∷◌, ◌++◌, length, take, drop, refl, sym, ap, append-nil, ◌∙◌, arith, true, Option, Some, None, unwrap_or, inl, inr}
use Rattle.std.proofs.lemmas.List.{length-append, length-take-le, drop-append-le, drop_all, map-append, length_push}
use Rattle.std.proofs.lemmas.List.Concat.{flat_map-append}
use Rattle.std.proofs.lemmas.Bool.Decides.{nat_tests}
use Rattle.output_model.specs.Element.{Element, octets_of, joined}
use Rattle.mkv_schema.specs.declared.ids.TheConstants.{CLUSTER}
use Rattle.output_model.specs.declared.TheConstants.{MAX_CLUSTER_LEN}
use Rattle.output_model.specs.declared.heads.ClusterLimits.{ClusterLimits}
use Rattle.output_model.specs.OutputBlock.{OutputBlock}
use Rattle.output_model.specs.Block.{block_element}
use Rattle.output_model.specs.Cluster.{OutputCluster, block_elements, timestamp_element, cluster_body, with_block, begun, may_have}
use Rattle.cluster_writer.specs.declared.front.TheConstants.{FRONT}
use Rattle.cluster_writer.specs.Lengths.{octets_taken}
use Rattle.cluster_writer.specs.Buffer.{IsEmptyAt, IsTimestampLen}
use Rattle.cluster_writer.specs.Gathered.{Gathered, Holds, AddsBlock, AreFew, IsSmall, cluster_with, empty_with, gathered_with, with_next, joins_next, joins_at, has_place, size_with, timestamp_for}
use Rattle.cluster_writer.proofs.LengthLemmas.{length-element, length-same, whole-most}

-- ---- without blocks

pub cleared-length : (octets now : List ℕ) → FRONT ≤ length octets → now ≡ take FRONT octets → length now ≡ FRONT
cleared-length octets now front is = ap length is ∙ length-take-le FRONT octets front

pub cleared-drop : (octets now : List ℕ) → FRONT ≤ length octets → now ≡ take FRONT octets → drop FRONT now ≡ []
cleared-drop octets now front is = drop_all FRONT now (omega (arith, cleared-length octets now front is))

pub empty-is : (limits : ClusterLimits) (spare : ℕ) (elements : List ℕ) → elements ≡ []
    → record { limits = limits; timestamp = None; count = 0; elements = elements; spare = spare } ≡ empty_with limits spare
empty-is limits spare elements none = λ i. record { limits = limits; timestamp = None; count = 0; elements = none i; spare = spare }

-- ---- one block more

pub added-length : (old now : List ℕ) (timestamp : ℕ) (b : OutputBlock) → now ≡ old ++ octets_of (block_element timestamp b) → length now ≡ length old + octets_taken b
added-length old now timestamp b added =
    omega (arith, ap length added, length-append old (octets_of (block_element timestamp b)), length-same timestamp b.tick b)

pub added-drop : (old now : List ℕ) (timestamp : ℕ) (b : OutputBlock) → FRONT ≤ length old → now ≡ old ++ octets_of (block_element timestamp b)
    → drop FRONT now ≡ drop FRONT old ++ octets_of (block_element timestamp b)
added-drop old now timestamp b front added = ap (drop FRONT) added ∙ drop-append-le FRONT old (octets_of (block_element timestamp b)) front

joined-push : (es : List Element) (e : Element) → joined (es ++ e ∷ []) ≡ joined es ++ octets_of e
joined-push es e = flat_map-append octets_of es (e ∷ []) ∙ ap (λ w. joined es ++ w) (append-nil (octets_of e))

elements-push : (timestamp : ℕ) (blocks : List OutputBlock) (b : OutputBlock) → joined (block_elements timestamp (blocks ++ b ∷ [])) ≡ joined (block_elements timestamp blocks) ++ octets_of (block_element timestamp b)
elements-push timestamp blocks b = ap joined (map-append (block_element timestamp) blocks (b ∷ [])) ∙ joined-push (block_elements timestamp blocks) (block_element timestamp b)

-- A buffer with these fields contains the Cluster.
held : (now : Gathered) (c : OutputCluster) → now.timestamp ≡ Some c.timestamp → now.count ≡ length c.blocks → now.elements ≡ joined (block_elements c.timestamp c.blocks) → Holds (Some c) now
held now c timestamp count elements = λ i. record { limits = now.limits; timestamp = timestamp i; count = count i; elements = elements i; spare = now.spare }

pub Holds-next : (c : Option OutputCluster) (b : OutputBlock) (old now : Gathered) → Holds c old → AddsBlock b old now → Holds (Some (with_next c b)) now
Holds-next None b old now holds adds =
    let none : old.timestamp ≡ None = ap (λ (g : Gathered). g.timestamp) holds in
    let counted : old.count ≡ 0 = ap (λ (g : Gathered). g.count) holds in
    let nothing : old.elements ≡ [] = ap (λ (g : Gathered). g.elements) holds in
    let first : timestamp_for old b.tick ≡ b.tick = ap (λ t. unwrap_or t b.tick) none in
    held now (begun b) (adds.timestamp ∙ ap (λ t. Some t) first) (omega (arith, adds.count, counted))
    (adds.elements ∙ ap (λ t. old.elements ++ octets_of (block_element t b)) first ∙ ap (λ w. w ++ octets_of (block_element b.tick b)) nothing ∙ sym (append-nil (octets_of (block_element b.tick b))))
Holds-next (Some c) b old now holds adds =
    let is : old.timestamp ≡ Some c.timestamp = ap (λ (g : Gathered). g.timestamp) holds in
    let counted : old.count ≡ length c.blocks = ap (λ (g : Gathered). g.count) holds in
    let before : old.elements ≡ joined (block_elements c.timestamp c.blocks) = ap (λ (g : Gathered). g.elements) holds in
    let at : timestamp_for old b.tick ≡ c.timestamp = ap (λ t. unwrap_or t b.tick) is in
    held now (with_block c b) (adds.timestamp ∙ ap (λ t. Some t) at) (omega (arith, adds.count, counted, length_push c.blocks b))
    (adds.elements ∙ ap (λ t. old.elements ++ octets_of (block_element t b)) at ∙ ap (λ w. w ++ octets_of (block_element c.timestamp b)) before ∙ sym (elements-push c.timestamp c.blocks b))

pub Holds-same : (c : Option OutputCluster) (old now : Gathered) → now ≡ record old { spare = now.spare } → Holds c old → Holds c now
Holds-same c old now same holds = same ∙ ap (λ (g : Gathered). record { limits = old.limits; timestamp = g.timestamp; count = g.count; elements = g.elements; spare = now.spare }) holds ∙ by_cluster c
  where
    limits : old.limits ≡ now.limits
    limits = ap (λ (g : Gathered). g.limits) (sym same)

    by_cluster : (c : Option OutputCluster) → (let g : Gathered = gathered_with old.limits old.spare c in
        let with_spare : Gathered = record { limits = old.limits; timestamp = g.timestamp; count = g.count; elements = g.elements; spare = now.spare } in with_spare ≡ gathered_with now.limits now.spare c)
    by_cluster None = ap (λ l. gathered_with l now.spare None) limits
    by_cluster (Some c) = ap (λ l. gathered_with l now.spare (Some c)) limits

-- ---- joining

-- One more block adds the length of its element to the body.
length-with_block : (c : OutputCluster) (b : OutputBlock) → length (cluster_body (with_block c b)) ≡ size_with c.timestamp (joined (block_elements c.timestamp c.blocks)) + octets_taken b
length-with_block c b =
    omega (
      arith,
      length-append (octets_of (timestamp_element c.timestamp)) (joined (block_elements c.timestamp (c.blocks ++ b ∷ []))),
      ap length (elements-push c.timestamp c.blocks b),
      length-append (joined (block_elements c.timestamp c.blocks)) (octets_of (block_element c.timestamp b)),
      length-same c.timestamp b.tick b,
    )

pub joins-held : (g : Gathered) (c : Option OutputCluster) (b : OutputBlock) (tick len : ℕ) → Holds c g → b.tick ≡ tick → octets_taken b ≡ len → has_place g tick len ≡ joins_next g.limits c b
joins-held g c b tick len holds is_tick is_len =
    ap (λ t. has_place g t len) (sym is_tick) ∙ ap (λ n. has_place g b.tick n) (sym is_len)
    ∙ ap (λ (x : Gathered). joins_at g.limits x.timestamp x.count x.elements b.tick (octets_taken b)) holds ∙ by_cluster c
  where
    by_cluster : (c : Option OutputCluster) → (let x : Gathered = gathered_with g.limits g.spare c in joins_at g.limits x.timestamp x.count x.elements b.tick (octets_taken b)) ≡ joins_next g.limits c b
    by_cluster None = refl
    by_cluster (Some c) =
        let count : length c.blocks + 1 ≡ length (c.blocks ++ b ∷ []) = omega (arith, length_push c.blocks b) in
        ap (λ n. may_have g.limits c.timestamp n b.tick (size_with c.timestamp (joined (block_elements c.timestamp c.blocks)) + octets_taken b)) count
        ∙ ap (λ n. may_have g.limits c.timestamp (length (c.blocks ++ b ∷ [])) b.tick n) (sym (length-with_block c b))

-- ---- length of the buffer

pub joins-most : (limits : ClusterLimits) (timestamp : Option ℕ) (elements : List ℕ) (count tick len : ℕ) → IsEmptyAt timestamp count elements
    → joins_at limits timestamp count elements tick len ≡ true → len ≤ 2 ^ 27 → length elements + len ≤ 2 ^ 27
joins-most limits None elements count tick len empty fits few = omega (arith, ap length empty.1, few)
joins-most limits (Some t) elements count tick len empty fits few = grind (arith, nat_tests, fits)

-- With a block that can join, the Cluster stays small.
pub joins-small : (limits : ClusterLimits) (timestamp : Option ℕ) (elements now : List ℕ) (count tick len first : ℕ) → IsEmptyAt timestamp count elements
    → joins_at limits timestamp count elements tick len ≡ true → len ≤ 2 ^ 27 → length now ≡ length elements + len → first ≡ unwrap_or timestamp tick
    → IsSmall (Some first) (count + 1) now
joins-small limits None elements now count tick len first empty fits few added is = inl (omega (arith, empty.0), omega (arith, ap length empty.1, few, added))
joins-small limits (Some t) elements now count tick len first empty fits few added is =
    let within : size_with t elements + len ≤ MAX_CLUSTER_LEN = grind (arith, nat_tests, fits) in
    inr (omega (arith, within, added, ap (λ n. length (octets_of (timestamp_element n))) is))

-- The bytes of a small Cluster are few.
pub small-few : (timestamp : Option ℕ) (elements : List ℕ) (count len : ℕ) → IsTimestampLen timestamp len → IsSmall timestamp count elements → AreFew count (cluster_with timestamp elements)
small-few None elements count len counted small = inr (omega arith)
small-few (Some t) elements count len counted small = few small
  where
    body : List ℕ
    body = octets_of (timestamp_element t) ++ elements

    front : length (cluster_with (Some t) elements) ≤ size_with t elements + 16
    front =
        let size : length body ≡ size_with t elements = length-append (octets_of (timestamp_element t)) elements in
        omega (arith, length-element CLUSTER body (size_with t elements) size, whole-most CLUSTER (size_with t elements))

    few : IsSmall (Some t) count elements → AreFew count (cluster_with (Some t) elements)
    few (inl one) = inl (one.0, omega (arith, one.1, front, counted.0, counted.1))
    few (inr all) = inr (omega (arith, all, front))
