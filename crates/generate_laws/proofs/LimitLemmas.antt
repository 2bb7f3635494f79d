-- A reader with limits finds the whole of such a document.
use Rattle.std.specs.List.{All, list_any}
use Rattle.std.specs.Option.{option_map, option_map_or}
use Rattle.std.proofs.Common.{◌≡◌, ℕ, zero, suc, ◌+◌, ◌-◌, replicate, ◌*◌, ◌^◌, ◌≤◌, ◌<◌, ◌==◌, nat_le, nat_lt, Bool, true, false, if◌then◌else◌, ◌&&◌, ◌||◌, ℤ, pos, List, [], ◌∷◌, ◌++◌, length, map, Option, Result, Ok, Err, IfSome, refl, sym, ap, ap₂, subst, ◌∙◌, arith}
use Rattle.std.proofs.lemmas.Bool.Decides.{nat_tests}
use Rattle.std.proofs.lemmas.Bool.{le-ltb}
use Rattle.std.proofs.lemmas.List.Elements.{All-nil, All-cons, All-head, All-tail, All-append, All-weaker}
use Rattle.mkv_io.specs.declared.damage.Damage.{Damage}
use Rattle.mkv_schema.specs.declared.ids.TheConstants.{CLUSTER, VOID}
use Rattle.mkv_schema.specs.declared.element.Header.{Header}
use Rattle.mkv_schema.specs.Element.{element_at, end_in, in_master, known, octets_between}
use Rattle.mkv_schema.specs.Elements.{children_in, elements, elements_within, ends_at, never, step}
use Rattle.mkv_schema.specs.Outline.{segment_bound}
use Rattle.mkv_schema.proofs.ElementLemmas.{element_at-placed, element_in-whole}
use Rattle.tree_format.specs.Node.{Node}
use Rattle.block_format.specs.declared.limits.TheConstants.{MAX_BLOCK_LEN}
use Rattle.block_format.specs.Block.{is_too_large, nanoseconds}
use Rattle.block_format.specs.Events.{cluster_run}
use Rattle.output_model.specs.declared.places.CuePoint.{CuePoint}
use Rattle.output_model.specs.declared.rule.CueRule.{CueRule}
use Rattle.output_model.specs.declared.TheConstants.{AREA}
use Rattle.output_model.specs.Block.{block_element}
use Rattle.output_model.specs.Cluster.{OutputCluster, begun, cluster_element, clusters, cut_from, joins, with_block}
use Rattle.output_model.specs.Cues.{cues_elements}
use Rattle.output_model.specs.Document.{Document, back_elements, clusters_elements, front_elements, layout, seeks_of, tree_element}
use Rattle.output_model.specs.Element.{Element, header_in_place, headers_in_place, octets_of, void_element}
use Rattle.output_model.specs.OutputBlock.{OutputBlock}
use Rattle.output_model.specs.SeekHead.{area_elements, seek_head}
use Rattle.output_model.specs.Sound.{IsSoundDocument}
use Rattle.output_records.proofs.OutputLemmas.{info-scale}
use Rattle.output_laws.specs.Places.{block_in_place, blocks_in_place, cluster_blocks, clusters_blocks, first_block, segment_blocks, segment_elements}
use Rattle.output_laws.specs.Reading.{blocks_of_document, header_of_segment, segment_of_document, segment_place}
use Rattle.output_laws.proofs.LayoutLemmas.{layout-read}
use Rattle.output_laws.proofs.MergedClusterLemmas.{IsOf}
use Rattle.mkv_generate.specs.declared.blocks.MediaKind.{MediaKind}
use Rattle.mkv_generate.specs.Files.{default_limits, lane_blocks}
use Rattle.remerge_laws.specs.Outline.{KeepsReaderLimits}
use Rattle.remerge_laws.specs.Blocks.{AreShortBlocks, IsReadable, IsShortBlock}
use Rattle.remerge_laws.specs.Files.{AttachmentsKeepLimits}
use Rattle.remerge_laws.specs.Records.{IsReadWithLimits, OutputKeepsLimits}
use Rattle.remerge_laws.proofs.BlockLemmas.{blocks-read}
use Rattle.remerge_laws.proofs.FirstLemmas.{layout-run}
use Rattle.remerge_laws.proofs.RecordLemmas.{outputs-read}
use Rattle.generate_laws.proofs.FileLemmas.{good, many, of-lane, tracks-lanes, tracks_of}
use Rattle.generate_laws.proofs.BlockLemmas.{IsGood}
use Rattle.generate_laws.proofs.DocumentLemmas.{HasLanes, document-sound, info-long, plain_document, plain_info}
use Rattle.generate_laws.proofs.LengthLemmas.{IsSmall, cluster_body-most}

-- ---- the children of a master

-- The body of `h` has at most `most` bytes.
abbrev IsWithin : ℕ → Header → Type 0
IsWithin most h = known h.size ≤ most

-- No child is longer than its parent's body.
children-within : (n : ℕ) (bytes : List ℕ) (p e most : ℕ) → e ≤ p + most → All (IsWithin most) (elements_within n in_master never (λ h. Ok (end_in e h)) bytes p e).list
unfolding elements_within
children-within zero bytes p e most fits = All-nil (IsWithin most)
children-within (suc n) bytes p e most fits = of (λ q later. children-within n bytes q e most (omega arith)) (nat_lt p e) refl
  where
    Rest : Type 0
    Rest = (q : ℕ) → p ≤ q → All (IsWithin most) (elements_within n in_master never (λ h. Ok (end_in e h)) bytes q e).list

    one : Rest → (found : Result Header Damage) → element_at in_master bytes p e ≡ found → p < e
        → All (IsWithin most) (step p (λ h. Ok (end_in e h)) found (λ q. elements_within n in_master never (λ h. Ok (end_in e h)) bytes q e)).list
    one rest (Err d) is before = All-nil (IsWithin most)
    one rest (Ok h) is before =
        let stands = element_at-placed in_master bytes p e h (omega arith) is in
        let whole = element_in-whole in_master (octets_between bytes p e) (length bytes) p e h is in
        let inside = whole.inside refl in
        let later = stands.later in
        All-cons (IsWithin most) h _ (omega arith) (rest (end_in e h) (omega arith))

    of : Rest → (t : Bool) → nat_lt p e ≡ t
        → All (IsWithin most) (if t then step p (λ h. Ok (end_in e h)) (element_at in_master bytes p e) (λ q. elements_within n in_master never (λ h. Ok (end_in e h)) bytes q e) else ends_at p).list
    of rest true is = one rest (element_at in_master bytes p e) refl (grind (arith, nat_tests))
    of rest false is = All-nil (IsWithin most)

-- An Element that is a Cluster has at most 32 MiB.
abbrev IsFine : Element → Type 0
IsFine e = (e.id == CLUSTER) ≡ true → length e.body ≤ MAX_BLOCK_LEN

headers-short : (bytes : List ℕ) (e p : ℕ) (es : List Element) → All IsFine es
    → All (λ (c : Header). (c.id == CLUSTER) ≡ true → All IsShortBlock (cluster_run bytes e c).list) (headers_in_place p es)
unfolding elements
headers-short bytes e p [] fine = All-nil (λ (c : Header). (c.id == CLUSTER) ≡ true → All IsShortBlock (cluster_run bytes e c).list)
headers-short bytes e p (d ∷ ds) fine =
    let h : Header = header_in_place p d in
    let end : ℕ = end_in e h in
    All-cons (λ (c : Header). (c.id == CLUSTER) ≡ true → All IsShortBlock (cluster_run bytes e c).list) h (headers_in_place (p + length (octets_of d)) ds)
    (λ is. All-weaker (IsWithin (length d.body)) IsShortBlock (λ c within block. (let short = All-head IsFine d ds fine is in omega arith)) (children_in in_master bytes h.body end).list
    (children-within _ bytes h.body end (length d.body) (omega arith)))
    (headers-short bytes e (p + length (octets_of d)) ds (All-tail IsFine d ds fine))

-- ---- the Clusters

first-of : (a b c d : Bool) → (a && b && c && d) ≡ true → a ≡ true
first-of true b c d is = refl
first-of false b c d is = absurd (cc)

-- What holds for each block holds in each Cluster, which has at most 65,535 blocks.
record IsCut (P : OutputBlock → Type 0) (c : OutputCluster) : Type 0 where
  each : All P c.blocks
  few : length c.blocks ≤ 65535

begun-cut : (P : OutputBlock → Type 0) (b : OutputBlock) → P b → IsCut P (begun b)
begun-cut P b own = record { each = All-cons P b [] own (All-nil P); few = omega arith }

cut-each : (P : OutputBlock → Type 0) (c : OutputCluster) (bs : List OutputBlock) → IsCut P c → All P bs → All (IsCut P) (cut_from default_limits c bs)
cut-each P c [] is are = All-cons (IsCut P) c [] is (All-nil (IsCut P))
cut-each P c (b ∷ bs) is are =
    let own = All-head P b bs are in
    let others = All-tail P b bs are in
    of own (λ more. cut-each P (with_block c b) bs more others) (cut-each P (begun b) bs (begun-cut P b own) others) (joins default_limits c b) refl
  where
    of : P b → (IsCut P (with_block c b) → All (IsCut P) (cut_from default_limits (with_block c b) bs)) → All (IsCut P) (cut_from default_limits (begun b) bs)
        → (t : Bool) → joins default_limits c b ≡ t → All (IsCut P) (if t then cut_from default_limits (with_block c b) bs else c ∷ cut_from default_limits (begun b) bs)
    of own more other true joined =
        let room : nat_le (length (c.blocks ++ b ∷ [])) 65535 ≡ true = first-of (nat_le (length (c.blocks ++ b ∷ [])) 65535) _ _ _ joined in
        more (record { each = All-append P c.blocks (b ∷ []) is.each (All-cons P b [] own (All-nil P)); few = grind (arith, nat_tests) })
    of own more other false apart = All-cons (IsCut P) c (cut_from default_limits (begun b) bs) is other

clusters-each : (P : OutputBlock → Type 0) (bs : List OutputBlock) → All P bs → All (IsCut P) (clusters default_limits bs)
clusters-each P [] are = All-nil (IsCut P)
clusters-each P (b ∷ bs) are = cut-each P (begun b) bs (begun-cut P b (All-head P b bs are)) (All-tail P b bs are)

elements-fine : (cs : List OutputCluster) → All (IsCut IsSmall) cs → All IsFine (clusters_elements cs)
elements-fine [] cut = All-nil IsFine
elements-fine (c ∷ cs) cut =
    let first = All-head (IsCut IsSmall) c cs cut in
    let few = first.few in
    All-cons IsFine (cluster_element c) (clusters_elements cs) (λ _. omega (arith, cluster_body-most c first.each))
    (elements-fine cs (All-tail (IsCut IsSmall) c cs cut))

-- ---- the other Elements

void-fine : (total : ℕ) → IsFine (void_element total)
void-fine total = of (nat_le total 128)
  where
    of : (t : Bool) → IsFine (if t then record { id = VOID; width = 1; body = replicate (total - 2) 0 } else record { id = VOID; width = 8; body = replicate (total - 9) 0 })
    of true is = absurd (cc)
    of false is = absurd (cc)

cues-fine : (ps : List CuePoint) → All IsFine (cues_elements ps)
cues-fine [] = All-nil IsFine
cues-fine (p ∷ ps) = All-cons IsFine _ [] (λ is. absurd (cc)) (All-nil IsFine)

-- ---- blocks that a reader can read

time-small : (tick : ℕ) → tick ≤ 4000000 → is_too_large (nanoseconds 1000000 (pos tick)) ≡ false
time-small tick early = le-ltb _ _ (omega arith)

good-readable : (place : ℕ) (b : OutputBlock) → IsGood b → IsReadable (block_in_place 1000000 place b)
good-readable place b is =
    let plain = is.sound.simple is.small.simple in
    record {
      times = ap₂ (λ (o : Option ℕ) (zs : List ℤ). is_too_large (nanoseconds 1000000 (pos b.tick)) || option_map_or (λ duration. is_too_large (pos duration)) (option_map (λ (ticks : ℕ). ticks * 1000000) o) false || list_any is_too_large (map (nanoseconds 1000000) zs)) plain.duration plain.references
          ∙ ap (λ (t : Bool). t || false || false) (time-small b.tick is.early);
      few = (let none : length (map (nanoseconds 1000000) b.references) ≡ 0 = ap (λ (zs : List ℤ). length (map (nanoseconds 1000000) zs)) plain.references in omega arith);
    }

blocks-readable : (timestamp p : ℕ) (bs : List OutputBlock) → All IsGood bs → All IsReadable (blocks_in_place 1000000 timestamp p bs)
blocks-readable timestamp p [] are = All-nil IsReadable
blocks-readable timestamp p (b ∷ bs) are =
    All-cons IsReadable (block_in_place 1000000 p b) (blocks_in_place 1000000 timestamp (p + length (octets_of (block_element timestamp b))) bs)
    (good-readable p b (All-head IsGood b bs are))
    (blocks-readable timestamp (p + length (octets_of (block_element timestamp b))) bs (All-tail IsGood b bs are))

clusters-readable : (p : ℕ) (cs : List OutputCluster) → All (IsCut IsGood) cs → All IsReadable (clusters_blocks 1000000 p cs)
clusters-readable p [] cut = All-nil IsReadable
clusters-readable p (c ∷ cs) cut =
    let q : ℕ = p + length (octets_of (cluster_element c)) in
    All-append IsReadable (cluster_blocks 1000000 p c) (clusters_blocks 1000000 q cs)
    (blocks-readable c.timestamp (first_block p c) c.blocks (All-head (IsCut IsGood) c cs cut).each)
    (clusters-readable q cs (All-tail (IsCut IsGood) c cs cut))

-- ---- the document

-- The Tracks Element and the blocks make a valid output with `lanes` output tracks, as `generate` makes it.
pub record IsPlain (lanes : ℕ) (tracks : Node) (bs : List OutputBlock) : Type 0 where
  pub has : HasLanes lanes tracks
  pub are : All (IsOf lanes) bs
  pub good : All IsGood bs
  pub few : length bs ≤ 2 ^ 20

module _ (rules : List CueRule) (tracks : Node) (lanes : ℕ) (bs : List OutputBlock) (is : IsPlain lanes tracks bs) where
  abbrev d : Document
  d = plain_document rules tracks bs

  small : All IsSmall bs
  small = All-weaker IsGood IsSmall (λ b one. one.small) bs is.good

  pub sound : IsSoundDocument d
  sound = document-sound rules tracks lanes is.has bs is.are small is.few

  tracks-fine : IsFine (tree_element tracks)
  tracks-fine cluster = let own = is.has.are.is.id in absurd (cc)

  all-fine : All IsFine (segment_elements (segment_of_document d))
  all-fine =
      let area : List Element = area_elements (seeks_of d) in
      let total : ℕ = AREA - length (octets_of (seek_head (seeks_of d))) in
      let front : List Element = front_elements d.front in
      let middle : List Element = clusters_elements d.clusters in
      All-append IsFine (area ++ front) (middle ++ back_elements d)
      (All-append IsFine area front
      (All-cons IsFine (seek_head (seeks_of d)) (void_element total ∷ []) (λ cluster. absurd (cc)) (All-cons IsFine (void_element total) [] (void-fine total) (All-nil IsFine)))
      (All-cons IsFine (tree_element plain_info) (tree_element tracks ∷ []) (λ cluster. absurd (cc)) (All-cons IsFine (tree_element tracks) [] tracks-fine (All-nil IsFine))))
      (All-append IsFine middle (back_elements d) (elements-fine d.clusters (clusters-each IsSmall bs small))
      (All-append IsFine (cues_elements d.cues) ([] ++ []) (cues-fine d.cues) (All-nil IsFine)))

  blocks-short : AreShortBlocks (layout d) (header_of_segment d)
  blocks-short =
      subst (All (λ (c : Header). (c.id == CLUSTER) ≡ true → All IsShortBlock (cluster_run (layout d) (segment_bound (layout d) (header_of_segment d)) c).list)) (sym (layout-run d sound))
      (headers-short (layout d) (segment_bound (layout d) (header_of_segment d)) (header_of_segment d).body (segment_elements (segment_of_document d)) all-fine)

  all-readable : All IsReadable (blocks_of_document d)
  all-readable =
      subst (λ (scale : ℕ). All IsReadable (segment_blocks scale (segment_place d) (segment_of_document d))) (sym (info-scale 1000000 [] (omega arith)))
      (clusters-readable _ d.clusters (clusters-each IsGood bs is.good))

  -- It keeps the limits of a reader.
  pub keeps-limits : OutputKeepsLimits d
  keeps-limits =
      let short = is.has.short in
      let many = is.has.few in
      let info : KeepsReaderLimits plain_info = record { short = omega (arith, info-long); few = omega arith } in
      record {
        records = record { lasting = refl; info = info; tracks = record { short = omega arith; few = omega arith }; chapters = tt; tags = tt };
        attachments = subst (λ (o : Option Header). IfSome o (AttachmentsKeepLimits (layout d))) (sym (layout-read d sound).records.attachments) tt;
        blocks = blocks-read d sound refl info blocks-short all-readable;
      }

  -- So a reader with limits finds the whole of it.
  pub read-with_limits : IsReadWithLimits d
  read-with_limits = outputs-read d sound keeps-limits

-- ---- both files

-- Each of both files is such an output.
pub files-plain : (medium : MediaKind) (n : ℕ) → n ≤ 100000 → IsPlain 1 (tracks_of medium) (lane_blocks medium n)
files-plain medium n most = record { has = tracks-lanes medium; are = of-lane medium n most; good = good medium n most; few = many medium n most }
