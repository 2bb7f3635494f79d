-- The outline of an output keeps a reader's limits.
use Rattle.std.proofs.Common.{◌≡◌, ℕ, ◌+◌, ◌-◌, ◌*◌, ◌≤◌, ◌==◌, nat_le, not, Bool, true, false, if◌then◌else◌, List, [], ◌∷◌, ◌++◌, length, filter, All, IfSome, Option, Some, None, refl, sym, ap, subst, ◌∙◌, arith, sum_by, inl, inr}
use Rattle.std.proofs.lemmas.List.Elements.{All-nil, All-cons, All-head, All-tail, All-append}
use Rattle.std.proofs.lemmas.List.Sums.{sum_by-append}
use Rattle.std.proofs.lemmas.Bool.{cases_Bool}
use Rattle.ebml_numbers.specs.Number.{uint_width, least_size_width}
use Rattle.mkv_schema.specs.declared.ids.TheConstants.{CLUSTER}
use Rattle.mkv_schema.specs.declared.element.Header.{Header}
use Rattle.mkv_schema.specs.declared.limits.TheConstants.{MAX_HEADER_LEN, MAX_MASTER_LEN}
use Rattle.mkv_schema.specs.Element.{known}
use Rattle.mkv_schema.specs.Outline.{is_described, described, others}
use Rattle.tree_format.specs.Node.{Node}
use Rattle.tree_format.specs.NormalForm.{content}
use Rattle.output_model.specs.Element.{Element, octets_of, header_in_place, headers_in_place, void_element}
use Rattle.output_model.specs.declared.TheConstants.{AREA}
use Rattle.output_model.specs.declared.places.CuePoint.{CuePoint}
use Rattle.output_model.specs.declared.places.Seek.{Seek}
use Rattle.output_model.specs.Cluster.{OutputCluster, cluster_element}
use Rattle.output_model.specs.Cues.{cues_elements}
use Rattle.output_model.specs.SeekHead.{seek_head, area_elements}
use Rattle.output_model.specs.Document.{info_element, Document, ebml_element, tree_element, tree_elements, attachments_elements, clusters_elements, seeks_of, layout}
use Rattle.output_laws.specs.Places.{segment_elements}
use Rattle.output_laws.specs.Reading.{segment_of_document, header_of_segment, outline_of_document, level_1_of}
use Rattle.output_laws.proofs.LayoutLemmas.{layout-read}
use Rattle.remerge_laws.specs.Outline.{KeepsReaderLimits, RecordsKeepLimits, OutlinesAreRead}
use Rattle.remerge_laws.proofs.OutlineLemmas.{IsShortHeader, none-passed, outline-within}

-- ---- counted values of an Element

-- its bytes, if it is an Info, Tracks, Chapters or Tags
abbrev weight : Element → ℕ
weight e = if is_described e.id then length e.body else 0

-- 1 if it isn't a Cluster
abbrev one_other : Element → ℕ
one_other e = if not (e.id == CLUSTER) then 1 else 0

-- the Element has at most 16 MiB if it is an Info, Tracks, Chapters or Tags
abbrev IsShortElement : Element → Type 0
IsShortElement e = is_described e.id ≡ true → length e.body ≤ MAX_MASTER_LEN

sum-first : {X : Type 0} (f : X → ℕ) (x : X) (xs : List X) → sum_by f (x ∷ xs) ≡ f x + sum_by f xs
sum-first f x xs = omega (arith, sum_by-append f (x ∷ []) xs)

described-placed : (es : List Element) (p : ℕ) → described (headers_in_place p es) ≡ sum_by weight es
described-placed [] p = refl
described-placed (e ∷ es) p = split (is_described e.id) (described-placed es (p + length (octets_of e))) ∙ sym (sum-first weight e es)
  where
    split : (t : Bool) → described (headers_in_place (p + length (octets_of e)) es) ≡ sum_by weight es
        → sum_by (λ (h : Header). known h.size) (if t then header_in_place p e ∷ filter (λ (h : Header). is_described h.id) (headers_in_place (p + length (octets_of e)) es) else filter (λ (h : Header). is_described h.id) (headers_in_place (p + length (octets_of e)) es))
        ≡ (if t then length e.body else 0) + sum_by weight es
    split true same =
        sum-first (λ (h : Header). known h.size) (header_in_place p e) (filter (λ (h : Header). is_described h.id) (headers_in_place (p + length (octets_of e)) es))
        ∙ ap (λ (k : ℕ). length e.body + k) same
    split false same = same ∙ omega arith

others-placed : (es : List Element) (p : ℕ) → others (headers_in_place p es) ≡ sum_by one_other es
others-placed [] p = refl
others-placed (e ∷ es) p =
    sum-first (λ (h : Header). if not (h.id == CLUSTER) then 1 else 0) (header_in_place p e) (headers_in_place (p + length (octets_of e)) es)
    ∙ ap (λ (k : ℕ). one_other e + k) (others-placed es (p + length (octets_of e)))
    ∙ sym (sum-first one_other e es)

short-placed : (es : List Element) (p : ℕ) → All IsShortElement es → All IsShortHeader (headers_in_place p es)
short-placed [] p are = All-nil IsShortHeader
short-placed (e ∷ es) p are =
    All-cons IsShortHeader (header_in_place p e) (headers_in_place (p + length (octets_of e)) es) (All-head IsShortElement e es are)
    (short-placed es (p + length (octets_of e)) (All-tail IsShortElement e es are))

-- ---- Elements that count little

-- An Element with an ID other than Info, Tracks, Chapters and Tags.
plain-short : (e : Element) → is_described e.id ≡ false → IsShortElement e
plain-short e is = λ described. let never : true ≡ false = sym described ∙ is in absurd (cc)

-- The Elements are short, count at most `octets` bytes, and at most `many` of them aren't Clusters.
record CountFor (octets many : ℕ) (es : List Element) : Type 0 where
  short : All IsShortElement es
  weight_most : sum_by weight es ≤ octets
  most : sum_by one_other es ≤ many

count-append : (a b m n : ℕ) (xs ys : List Element) → CountFor a m xs → CountFor b n ys → CountFor (a + b) (m + n) (xs ++ ys)
count-append a b m n xs ys one two =
    let heavy = one.weight_most in
    let heavy_too = two.weight_most in
    let many = one.most in
    let many_too = two.most in
    record {
      short = All-append IsShortElement xs ys one.short two.short;
      weight_most = omega (arith, sum_by-append weight xs ys);
      most = omega (arith, sum_by-append one_other xs ys);
    }

count-none : CountFor 0 0 []
count-none = record { short = All-nil IsShortElement; weight_most = omega arith; most = omega arith }

one-most : (e : Element) → one_other e ≤ 1
one-most e = elim (cases_Bool (not (e.id == CLUSTER))) [ inl is ↦ rw is (omega arith) | inr is ↦ rw is (omega arith) ]

-- One Element with another ID.
count-plain : (e : Element) → is_described e.id ≡ false → CountFor 0 1 (e ∷ [])
count-plain e is =
    let light : weight e ≡ 0 = ap (λ (t : Bool). if t then length e.body else 0) is in
    let few = one-most e in
    record {
      short = All-cons IsShortElement e [] (plain-short e is) (All-nil IsShortElement);
      weight_most = omega arith;
      most = omega arith;
    }

-- One record.
count-record : (n : Node) → KeepsReaderLimits n → CountFor MAX_MASTER_LEN 1 (tree_element n ∷ [])
count-record n keeps =
    let e : Element = tree_element n in
    let few = one-most e in
    let light = split (is_described e.id) keeps.short in
    record {
      short = All-cons IsShortElement e [] (λ described. keeps.short) (All-nil IsShortElement);
      weight_most = omega arith;
      most = omega arith;
    }
  where
    split : (t : Bool) → length (content n) ≤ MAX_MASTER_LEN → (if t then length (content n) else 0) ≤ MAX_MASTER_LEN
    split true short = short
    split false short = omega arith

count-records : (o : Option Node) → IfSome o KeepsReaderLimits → CountFor MAX_MASTER_LEN 1 (tree_elements o)
count-records None keeps = record { short = All-nil IsShortElement; weight_most = omega arith; most = omega arith }
count-records (Some n) keeps = count-record n keeps

void-plain : (total : ℕ) → is_described (void_element total).id ≡ false
void-plain total = elim (cases_Bool (nat_le total 128)) [ inl is ↦ rw is refl | inr is ↦ rw is refl ]

count-area : (seeks : List Seek) → CountFor 0 2 (area_elements seeks)
count-area seeks =
    let void : Element = void_element (AREA - length (octets_of (seek_head seeks))) in
    count-append 0 0 1 1 (seek_head seeks ∷ []) (void ∷ []) (count-plain (seek_head seeks) refl) (count-plain void (void-plain (AREA - length (octets_of (seek_head seeks)))))

count-attachments : (ns : List Node) → CountFor 0 1 (attachments_elements ns)
count-attachments [] = record { short = All-nil IsShortElement; weight_most = omega arith; most = omega arith }
count-attachments (n ∷ ns) = count-plain _ refl

count-cues : (points : List CuePoint) → CountFor 0 1 (cues_elements points)
count-cues [] = record { short = All-nil IsShortElement; weight_most = omega arith; most = omega arith }
count-cues (point ∷ points) = count-plain _ refl

count-cluster : (c : OutputCluster) → CountFor 0 0 (cluster_element c ∷ [])
count-cluster c = record {
  short = All-cons IsShortElement (cluster_element c) [] (plain-short (cluster_element c) refl) (All-nil IsShortElement);
  weight_most = omega arith;
  most = omega arith;
}

count-clusters : (cs : List OutputCluster) → CountFor 0 0 (clusters_elements cs)
count-clusters [] = count-none
count-clusters (c ∷ cs) = count-append 0 0 0 0 (cluster_element c ∷ []) (clusters_elements cs) (count-cluster c) (count-clusters cs)

-- ---- a document

count-document : (d : Document) → RecordsKeepLimits d → CountFor (4 * MAX_MASTER_LEN) 8 (segment_elements (segment_of_document d))
count-document d keeps =
    let area : List Element = area_elements (seeks_of d) in
    let info : Element = tree_element d.front.info in
    let tracks : Element = tree_element d.front.tracks in
    let attachments : List Element = attachments_elements d.front.attachments in
    let middle : List Element = clusters_elements d.clusters in
    let cues : List Element = cues_elements d.cues in
    let chapters : List Element = tree_elements d.chapters in
    let tags : List Element = tree_elements d.tags in
    let back = count-append 0 (MAX_MASTER_LEN + MAX_MASTER_LEN) 1 2 cues (chapters ++ tags) (count-cues d.cues)
    (count-append MAX_MASTER_LEN MAX_MASTER_LEN 1 1 chapters tags (count-records d.chapters keeps.chapters) (count-records d.tags keeps.tags)) in
    let front = count-append MAX_MASTER_LEN (MAX_MASTER_LEN + 0) 1 2 (info ∷ []) (tracks ∷ attachments) (count-record d.front.info keeps.info)
    (count-append MAX_MASTER_LEN 0 1 1 (tracks ∷ []) attachments (count-record d.front.tracks keeps.tracks) (count-attachments d.front.attachments)) in
    let rest : List Element = middle ++ (cues ++ (chapters ++ tags)) in
    subst (λ (e : Element). CountFor (4 * MAX_MASTER_LEN) 8 ((area ++ (e ∷ tracks ∷ attachments)) ++ rest)) (sym (ap (info_element d.front.info) keeps.lasting))
    (count-append (MAX_MASTER_LEN + MAX_MASTER_LEN) (MAX_MASTER_LEN + MAX_MASTER_LEN) 5 3 (area ++ (info ∷ tracks ∷ attachments)) rest
    (count-append 0 (MAX_MASTER_LEN + MAX_MASTER_LEN) 2 3 area (info ∷ tracks ∷ attachments) (count-area (seeks_of d)) front)
    (count-append 0 (MAX_MASTER_LEN + MAX_MASTER_LEN) 0 3 middle (cues ++ (chapters ++ tags)) (count-clusters d.clusters) back))

-- The EBML header is short.
ebml-short : (webm : Bool) → length (ebml_element webm).body ≤ MAX_HEADER_LEN
unfolding uint_width least_size_width
ebml-short true = omega arith
ebml-short false = omega arith

-- The outline of an output is read with limits.
pub outlines-read : OutlinesAreRead
outlines-read d is keeps =
    let es : List Element = segment_elements (segment_of_document d) in
    let q : ℕ = (header_of_segment d).body in
    let count = count-document d keeps in
    let octets = count.weight_most in
    let many = count.most in
    outline-within 0 (layout d) (outline_of_document d (length (layout d))) (layout-read d is).outline (ebml-short d.front.webm)
    (none-passed 0 [] (level_1_of d) (short-placed es q count.short) (omega (arith, described-placed es q)) (omega (arith, others-placed es q)))
