-- A written Segment has its Elements, and gives the blocks of its Clusters.
use Rattle.std.proofs.Common.{◌≡◌, ℕ, ◌+◌, ◌≤◌, min, Bool, if◌then◌else◌, List, [], ◌∷◌, ◌++◌, length, All, length-append, append-nil, append_assoc, None, Ok, refl, sym, ap, ap₂, ◌∙◌, subst, arith}
use Rattle.std.proofs.lemmas.Bool.{cond-false}
use Rattle.std.proofs.lemmas.List.Concat.{flat_map-append}
use Rattle.std.proofs.lemmas.List.Elements.{All-head, All-tail, All-append, All-nil, All-cons, All-weaker}
use Rattle.ebml_numbers.specs.declared.number.Size.TheVariants.{Known}
use Rattle.ebml_numbers.specs.Number.{is_id}
use Rattle.mkv_schema.specs.declared.ids.TheConstants.{CLUSTER}
use Rattle.mkv_schema.specs.Element.{in_segment, is_unknown, end_in}
use Rattle.mkv_schema.specs.Elements.{Run, behind_in_segment, ends_segment, level_1}
use Rattle.mkv_schema.specs.Outline.{segment_bound, segment_run}
use Rattle.mkv_schema.proofs.ElementsLemmas.{Advances-segment, elements-end}
use Rattle.block_format.specs.Block.{Block}
use Rattle.block_format.specs.Elements.{Rules, without_limits}
use Rattle.block_format.specs.Events.{Event, block, found_in, is_closed, events_then, events_among, events_in_run, events_of}
use Rattle.output_model.specs.Element.{Element, IsElement, HoldsAt, header_of, octets_of, joined, header_in_place, headers_in_place, all_in_front}
use Rattle.output_model.proofs.HeldLemmas.{held-left, held-right, held-within}
use Rattle.output_model.proofs.ReadLemmas.{Lists, elements-read, stands-body, length-octets_of, octets_of-some}
use Rattle.output_model.specs.declared.TheConstants.{MAX_LANES}
use Rattle.output_model.specs.Cluster.{OutputCluster, cluster_element}
use Rattle.output_model.specs.Document.{clusters_elements}
use Rattle.output_model.specs.Sound.{IsSoundCluster}
use Rattle.output_laws.specs.Places.{HasSize, found_blocks, block_events, cluster_blocks, clusters_blocks, IsOther, OutputSegment, segment_elements, segment_element, IsSoundSegment, segment_blocks}
use Rattle.output_laws.specs.Outputs.{SegmentIsRead}
use Rattle.output_laws.proofs.GroupLemmas.{IsElement-element}
use Rattle.output_laws.proofs.ClusterLemmas.{sizes-joined, cluster-read}

-- ---- level 1

-- The Elements of level 1 of a Segment of known size.
Lists-segment : (bytes : List ℕ) (n e : ℕ) → Lists in_segment (ends_segment (Known n)) (behind_in_segment bytes e) bytes e
Lists-segment bytes n e = record {
  plain = refl;
  advances = Advances-segment bytes e;
  next_is = λ h known. cond-false (is_unknown h.size) _ (Ok (end_in e h)) known;
}

-- A Segment whose body consists of Elements has these at level 1.
pub segment-read : (bytes : List ℕ) (d : Element) (ds : List Element) (p : ℕ) → IsElement d → d.body ≡ joined ds → All IsElement ds → HoldsAt bytes p (octets_of d)
    → segment_run bytes (header_in_place p d) ≡ record { list = headers_in_place (p + length (header_of d)) ds; damage = None; end = p + length (header_of d) + length (joined ds) }
segment-read bytes d ds p is spells are stands =
    let q : ℕ = p + length (header_of d) in
    let e : ℕ = q + length (joined ds) in
    let within = held-within bytes p (octets_of d) stands (octets_of-some d is) in
    let len : length d.body ≡ length (joined ds) = ap (λ (o : List ℕ). length o) spells in
    let bound : min (q + length d.body) (length bytes) ≡ e = omega (arith, length-octets_of d) in
    let stand : HoldsAt bytes q (joined ds) = subst (HoldsAt bytes q) spells (stands-body bytes p d stands) in
    ap (level_1 bytes (Known (length d.body)) q) bound
    ∙ elements-read in_segment (ends_segment (Known (length d.body))) (behind_in_segment bytes e) bytes ds q e (Lists-segment bytes (length d.body) e) are (λ k x below. refl) stand (omega arith)
    ∙ ap (all_in_front (headers_in_place q ds)) (elements-end in_segment (ends_segment (Known (length d.body))) (behind_in_segment bytes e) bytes e e (omega arith))
    ∙ ap (λ hs. record { list = hs; damage = None; end = e }) (append-nil (headers_in_place q ds))

-- ---- blocks and no damage

-- The blocks of an undamaged Cluster come before the following ones.
events_then-found : (closed : Bool) (bs : List Block) (rest : List Event) → events_then closed (found_blocks bs) rest ≡ block_events bs ++ rest
events_then-found closed [] rest = refl
events_then-found closed (b ∷ bs) rest = ap (λ es. block b ∷ es) (events_then-found closed bs rest)

block_events-append : (xs ys : List Block) → block_events (xs ++ ys) ≡ block_events xs ++ block_events ys
block_events-append [] ys = refl
block_events-append (x ∷ xs) ys = ap (λ es. block x ∷ es) (block_events-append xs ys)

-- Elements other than Clusters give nothing.
events-others : (r : Rules) (bytes : List ℕ) (e : ℕ) (ds rest : List Element) (p : ℕ) → All IsOther ds
    → events_among r bytes e (headers_in_place p (ds ++ rest)) None ≡ events_among r bytes e (headers_in_place (p + length (joined ds)) rest) None
events-others r bytes e [] rest p are =
    let same : p ≡ p + 0 = omega arith in
    ap (λ q. events_among r bytes e (headers_in_place q rest) None) same
events-others r bytes e (d ∷ ds) rest p are =
    let q : ℕ = p + length (octets_of d) in
    let end : q + length (joined ds) ≡ p + length (joined (d ∷ ds)) = omega (arith, length-append (octets_of d) (joined ds)) in
    ap (λ (cluster : Bool). if cluster then events_then (is_closed (length bytes) (header_in_place p d)) (found_in r bytes e (header_in_place p d)) (events_among r bytes e (headers_in_place q (ds ++ rest)) None)
    else events_among r bytes e (headers_in_place q (ds ++ rest)) None) (All-head IsOther d ds are).other
    ∙ events-others r bytes e ds rest q (All-tail IsOther d ds are)
    ∙ ap (λ k. events_among r bytes e (headers_in_place k rest) None) end

-- Clusters give their blocks.
events-clusters : (scale : ℕ) (bytes : List ℕ) (e : ℕ) (cs : List OutputCluster) (rest : List Element) (p : ℕ) → All (IsSoundCluster MAX_LANES) cs → All HasSize (clusters_elements cs) → HoldsAt bytes p (joined (clusters_elements cs)) → p + length (joined (clusters_elements cs)) ≤ e
    → events_among (without_limits scale) bytes e (headers_in_place p (clusters_elements cs ++ rest)) None
    ≡ block_events (clusters_blocks scale p cs) ++ events_among (without_limits scale) bytes e (headers_in_place (p + length (joined (clusters_elements cs))) rest) None
events-clusters scale bytes e [] rest p sound short stand ends =
    let same : p ≡ p + 0 = omega arith in
    ap (λ q. events_among (without_limits scale) bytes e (headers_in_place q rest) None) same
events-clusters scale bytes e (c ∷ cs) rest p sound short stand ends =
    let d : Element = cluster_element c in
    let others : List ℕ = joined (clusters_elements cs) in
    let q : ℕ = p + length (octets_of d) in
    let len = length-append (octets_of d) others in
    let end : q + length others ≡ p + length (joined (clusters_elements (c ∷ cs))) = omega arith in
    let more : List Event = events_among (without_limits scale) bytes e (headers_in_place q (clusters_elements cs ++ rest)) None in
    let here : List Block = cluster_blocks scale p c in
    let behind : List Event = events_among (without_limits scale) bytes e (headers_in_place (q + length others) rest) None in
    ap (λ found. events_then (is_closed (length bytes) (header_in_place p d)) found more)
    (cluster-read scale bytes c p e (All-head (IsSoundCluster MAX_LANES) c cs sound) (All-head HasSize d (clusters_elements cs) short) (held-left bytes p (octets_of d) others stand) (omega arith))
    ∙ events_then-found (is_closed (length bytes) (header_in_place p d)) here more
    ∙ ap (λ es. block_events here ++ es) (events-clusters scale bytes e cs rest q (All-tail (IsSoundCluster MAX_LANES) c cs sound) (All-tail HasSize d (clusters_elements cs) short) (held-right bytes p (octets_of d) others stand) (omega arith))
    ∙ sym (append_assoc (block_events here) (block_events (clusters_blocks scale q cs)) behind)
    ∙ ap (λ es. es ++ behind) (sym (block_events-append here (clusters_blocks scale q cs)))
    ∙ ap (λ k. block_events (clusters_blocks scale p (c ∷ cs)) ++ events_among (without_limits scale) bytes e (headers_in_place k rest) None) end

-- ---- a Segment

-- The size of each Cluster fits.
pub sizes-clusters : (s : OutputSegment) → HasSize (segment_element s) → All HasSize (clusters_elements s.clusters)
sizes-clusters s size =
    let middle : List Element = clusters_elements s.clusters in
    let apart = flat_map-append octets_of s.front (middle ++ s.behind) in
    let further = flat_map-append octets_of middle s.behind in
    let whole : length (joined (segment_elements s)) ≡ length (joined s.front) + (length (joined middle) + length (joined s.behind)) =
    ap (λ (o : List ℕ). length o) apart ∙ length-append (joined s.front) (joined (middle ++ s.behind))
    ∙ ap (λ n. length (joined s.front) + n) (ap (λ (o : List ℕ). length o) further ∙ length-append (joined middle) (joined s.behind)) in
    sizes-joined middle (omega arith)

clusters-are_elements : (cs : List OutputCluster) → All HasSize (clusters_elements cs) → All IsElement (clusters_elements cs)
unfolding is_id
clusters-are_elements [] short = All-nil IsElement
clusters-are_elements (c ∷ cs) short =
    All-cons IsElement (cluster_element c) (clusters_elements cs) (IsElement-element CLUSTER _ refl (All-head HasSize (cluster_element c) (clusters_elements cs) short))
    (clusters-are_elements cs (All-tail HasSize (cluster_element c) (clusters_elements cs) short))

pub IsElement-segment : (s : OutputSegment) → HasSize (segment_element s) → IsElement (segment_element s)
unfolding is_id
IsElement-segment s size = record { id_stands = refl; some = omega arith; most = omega arith; fits = size }

pub elements-of : (s : OutputSegment) → IsSoundSegment s → All IsElement (segment_elements s)
elements-of s sound =
    All-append IsElement s.front (clusters_elements s.clusters ++ s.behind) (All-weaker IsOther IsElement (λ d o. o.element) s.front sound.front)
    (All-append IsElement (clusters_elements s.clusters) s.behind
    (clusters-are_elements s.clusters (sizes-clusters s sound.size))
    (All-weaker IsOther IsElement (λ d o. o.element) s.behind sound.behind))

pub segment-is_read : (scale : ℕ) (bytes : List ℕ) (s : OutputSegment) (p : ℕ) → IsSoundSegment s → HoldsAt bytes p (octets_of (segment_element s)) → SegmentIsRead scale bytes s p
unfolding events_of
segment-is_read scale bytes s p sound stands =
    let d : Element = segment_element s in
    let ds : List Element = segment_elements s in
    let q : ℕ = p + length (header_of d) in
    let e : ℕ = q + length (joined ds) in
    let run = segment-read bytes d ds p (IsElement-segment s sound.size) refl (elements-of s sound) stands in
    let within = held-within bytes p (octets_of d) stands (octets_of-some d (IsElement-segment s sound.size)) in
    let bound : segment_bound bytes (header_in_place p d) ≡ e = (let h : min (q + length d.body) (length bytes) ≡ e = omega (arith, length-octets_of d) in h) in
    let behind : List Element = clusters_elements s.clusters ++ s.behind in
    let middle : List ℕ = joined (clusters_elements s.clusters) in
    let first : ℕ = q + length (joined s.front) in
    let apart : joined ds ≡ joined s.front ++ (middle ++ joined s.behind) =
    flat_map-append octets_of s.front behind ∙ ap (λ o. joined s.front ++ o) (flat_map-append octets_of (clusters_elements s.clusters) s.behind) in
    let stand : HoldsAt bytes q (joined s.front ++ (middle ++ joined s.behind)) = subst (HoldsAt bytes q) apart (stands-body bytes p d stands) in
    let stand_clusters : HoldsAt bytes first middle = held-left bytes first middle (joined s.behind) (held-right bytes q (joined s.front) (middle ++ joined s.behind) stand) in
    let whole : length (joined ds) ≡ length (joined s.front) + length (middle ++ joined s.behind) = ap (λ (o : List ℕ). length o) apart ∙ length-append (joined s.front) (middle ++ joined s.behind) in
    let part = length-append middle (joined s.behind) in
    record {
      level_1 = ap (λ (r : Run). r.list) run;
      unbroken = ap (λ (r : Run). r.damage) run;
      events =
          ap₂ (events_in_run (without_limits scale) bytes) bound run
          ∙ events-others (without_limits scale) bytes e s.front behind q sound.front
          ∙ events-clusters scale bytes e s.clusters s.behind first sound.clusters (sizes-clusters s sound.size) stand_clusters (omega arith)
          ∙ ap (λ es. block_events (segment_blocks scale p s) ++ es) (nothing (first + length middle) e)
          ∙ append-nil (block_events (segment_blocks scale p s));
    }
  where
    nothing : (k e : ℕ) → events_among (without_limits scale) bytes e (headers_in_place k s.behind) None ≡ []
    nothing k e =
        ap (λ ds. events_among (without_limits scale) bytes e (headers_in_place k ds) None) (sym (append-nil s.behind)) ∙ events-others (without_limits scale) bytes e s.behind [] k sound.behind
