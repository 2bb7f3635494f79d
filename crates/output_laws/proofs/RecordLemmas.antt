-- The records of a document are found at level 1, and so are the Elements that the Seeks name.
use Rattle.std.proofs.Common.{◌≡◌, ℕ, zero, suc, ◌+◌, ◌≤◌, ◌==◌, Bool, true, cond, List, [], ◌∷◌, ◌++◌, length, map, All, IfSome, append-nil, length-append, Option, None, Some, refl, sym, ap, ◌∙◌, subst, arith}
use Rattle.std.specs.List.{AllZip}
use Rattle.std.proofs.lemmas.List.Concat.{flat_map-append}
use Rattle.std.proofs.lemmas.List.Elements.{All-nil, All-cons, All-head, All-tail, All-append, All-weaker}
use Rattle.ebml_numbers.specs.Number.{is_id}
use Rattle.mkv_schema.specs.declared.ids.TheConstants.{INFO, ATTACHMENTS, ATTACHED_FILE, CUES}
use Rattle.mkv_schema.specs.declared.element.Header.{Header}
use Rattle.mkv_schema.specs.Element.{in_master, in_segment, stated_end}
use Rattle.mkv_schema.specs.Elements.{Run, children_in}
use Rattle.mkv_schema.specs.Value.{first_of}
use Rattle.mkv_schema.specs.Outline.{segment_bound}
use Rattle.tree_format.specs.Node.{Node}
use Rattle.tree_format.specs.Order.{tree_without_limits}
use Rattle.tree_format.proofs.OrderLemmas.{sound-without_limits}
use Rattle.output_model.specs.Element.{Element, IsElement, HoldsAt, master_element, header_of, octets_of, joined, header_in_place, headers_in_place}
use Rattle.output_model.proofs.HeldLemmas.{held-left, held-right}
use Rattle.output_model.proofs.ReadLemmas.{element_at-read, body_of-read, stands-body, children-all}
use Rattle.output_model.specs.declared.places.CuePoint.{CuePoint}
use Rattle.output_model.specs.declared.places.Seek.{Seek}
use Rattle.output_model.specs.Cues.{cues_elements, point_element}
use Rattle.output_model.specs.SeekHead.{seeks_from}
use Rattle.output_model.specs.Document.{tree_element, tree_elements, info_element, info_told, attachments_elements}
use Rattle.output_model.specs.Sound.{IsRecord, IsAttachment}
use Rattle.output_laws.specs.Places.{HasSize}
use Rattle.output_laws.proofs.ClusterLemmas.{sizes-joined}
use Rattle.output_laws.specs.Reading.{IsRecordAt, FirstIs, IsInfoWithVoid, InfoIs, ChildrenAre, AttachmentsAre, CuesAre, SeeksElement}
use Rattle.output_laws.proofs.InfoLemmas.{told-void, told-element, void-again}
use Rattle.output_laws.proofs.PartLemmas.{IsNot, records-are_elements}

-- ---- the first Element with an ID

-- Earlier Elements with other IDs don't count.
first_of-behind : (id : ℕ) (es rest : List Element) (p : ℕ) → All (IsNot id) es
    → first_of id (headers_in_place p (es ++ rest)) ≡ first_of id (headers_in_place (p + length (joined es)) rest)
first_of-behind id [] rest p others =
    let same : p ≡ p + 0 = omega arith in
    ap (λ q. first_of id (headers_in_place q rest)) same
first_of-behind id (e ∷ es) rest p others =
    let q : ℕ = p + length (octets_of e) in
    let end : q + length (joined es) ≡ p + length (joined (e ∷ es)) = omega (arith, length-append (octets_of e) (joined es)) in
    ap (λ (t : Bool). cond t (Some (header_in_place p e)) (first_of id (headers_in_place q (es ++ rest)))) (All-head (IsNot id) e es others)
    ∙ first_of-behind id es rest q (All-tail (IsNot id) e es others)
    ∙ ap (λ k. first_of id (headers_in_place k rest)) end

first_of-none : (id : ℕ) (es : List Element) (p : ℕ) → All (IsNot id) es → first_of id (headers_in_place p es) ≡ None
first_of-none id es p others =
    ap (λ l. first_of id (headers_in_place p l)) (sym (append-nil es)) ∙ first_of-behind id es [] p others

-- The Element follows others.
first_of-here : (id : ℕ) (before : List Element) (e : Element) (rest : List Element) (p : ℕ) → All (IsNot id) before → (e.id == id) ≡ true
    → first_of id (headers_in_place p (before ++ e ∷ rest)) ≡ Some (header_in_place (p + length (joined before)) e)
first_of-here id before e rest p others is =
    let q : ℕ = p + length (joined before) in
    first_of-behind id before (e ∷ rest) p others
    ∙ ap (λ (t : Bool). cond t (Some (header_in_place q e)) (first_of id (headers_in_place (q + length (octets_of e)) rest))) is

-- The Element is at the end of the earlier ones.
held-behind : (bytes : List ℕ) (before : List Element) (e : Element) (rest : List Element) (p : ℕ) → HoldsAt bytes p (joined (before ++ e ∷ rest)) → HoldsAt bytes (p + length (joined before)) (octets_of e)
held-behind bytes before e rest p held =
    held-left bytes (p + length (joined before)) (octets_of e) (joined rest)
    (held-right bytes p (joined before) (octets_of e ++ joined rest) (subst (HoldsAt bytes p) (flat_map-append octets_of before (e ∷ rest)) held))

-- ---- records

record-read : (bytes : List ℕ) (own : ℕ) (n : Node) (p : ℕ) → IsRecord own n → HoldsAt bytes p (octets_of (tree_element n)) → IsRecordAt bytes (header_in_place p (tree_element n)) n
record-read bytes own n p is held =
    let h : Header = header_in_place p (tree_element n) in
    record {
      id = refl;
      read =
          ap (λ o. tree_without_limits h.id h.offset o h.body) (body_of-read bytes p (tree_element n) held)
          ∙ (sound-without_limits n is.master is.sound is.limits).read h.offset h.body;
    }

-- Records in sequence.
records-read : (bytes : List ℕ) (own : ℕ) (ns : List Node) (p : ℕ) → All (IsRecord own) ns → HoldsAt bytes p (joined (map tree_element ns))
    → AllZip (IsRecordAt bytes) (headers_in_place p (map tree_element ns)) ns
records-read bytes own [] p are held = tt
records-read bytes own (n ∷ ns) p are held =
    let e : Element = tree_element n in
    let others : List ℕ = joined (map tree_element ns) in (
      record-read bytes own n p (All-head (IsRecord own) n ns are) (held-left bytes p (octets_of e) others held),
      records-read bytes own ns (p + length (octets_of e)) (All-tail (IsRecord own) n ns are) (held-right bytes p (octets_of e) others held),
    )

-- A record among Elements with other IDs is the first with its own.
pub first-record : (bytes : List ℕ) (id : ℕ) (o : Option Node) (list before rest : List Element) (p : ℕ) → (id == id) ≡ true → list ≡ before ++ (tree_elements o ++ rest)
    → All (IsNot id) before → All (IsNot id) rest → IfSome o (IsRecord id) → HoldsAt bytes p (joined list) → FirstIs bytes (headers_in_place p list) id o
first-record bytes id None list before rest p same whole front back is held =
    ap (λ l. first_of id (headers_in_place p l)) whole ∙ first_of-none id (before ++ rest) p (All-append (IsNot id) before rest front back)
first-record bytes id (Some n) list before rest p same whole front back is held =
    let e : Element = tree_element n in
    let q : ℕ = p + length (joined before) in (
      header_in_place q e,
      ap (λ l. first_of id (headers_in_place p l)) whole ∙ first_of-here id before e rest p front (ap (λ x. x == id) is.id ∙ same),
      record-read bytes id n q is (held-behind bytes before e rest p (subst (λ (l : List Element). HoldsAt bytes p (joined l)) whole held)),
    )

-- ---- the Info

void-read : (bytes : List ℕ) (info : Node) (p : ℕ) → IsRecord INFO info → HoldsAt bytes p (octets_of (info_element info (Some zero))) → IsInfoWithVoid bytes (header_in_place p (info_element info (Some zero))) info
void-read bytes info p is held =
    let e : Element = info_element info (Some zero) in
    let h : Header = header_in_place p e in
    record {
      id = refl;
      read = ap (λ o. tree_without_limits h.id h.offset o h.body) (body_of-read bytes p e held) ∙ void-again info h.offset h.body is.id is.master is.sound is.limits;
    }

-- The Info of an output among Elements with other IDs is the first.
pub info-read : (bytes : List ℕ) (info : Node) (lasting : Option ℕ) (list before rest : List Element) (p : ℕ) → list ≡ before ++ info_element info lasting ∷ rest
    → All (IsNot INFO) before → All (IsNot INFO) rest → IsRecord INFO (info_told info lasting) → HoldsAt bytes p (joined list) → InfoIs bytes (headers_in_place p list) info lasting
info-read bytes info None list before rest p whole front back is held = first-record bytes INFO (Some info) list before rest p refl whole front back is held
info-read bytes info (Some zero) list before rest p whole front back is held =
    let e : Element = info_element info (Some zero) in
    let q : ℕ = p + length (joined before) in
    let own : IsRecord INFO info = subst (IsRecord INFO) (told-void info) is in (
      header_in_place q e,
      ap (λ l. first_of INFO (headers_in_place p l)) whole ∙ first_of-here INFO before e rest p front (ap (λ x. x == INFO) own.id),
      void-read bytes info q own (held-behind bytes before e rest p (subst (λ (l : List Element). HoldsAt bytes p (joined l)) whole held)),
    )
info-read bytes info (Some (suc n)) list before rest p whole front back is held =
    first-record bytes INFO (Some (info_told info (Some (suc n)))) list before rest p refl (whole ∙ ap (λ e. before ++ e ∷ rest) (sym (told-element info n is.master))) front back is held

-- ---- attachments

attached-read : (bytes : List ℕ) (ns : List Node) (p : ℕ) → All IsAttachment ns → HasSize (master_element ATTACHMENTS (map tree_element ns)) → HoldsAt bytes p (octets_of (master_element ATTACHMENTS (map tree_element ns)))
    → ChildrenAre bytes (header_in_place p (master_element ATTACHMENTS (map tree_element ns))) ns
unfolding is_id
attached-read bytes ns p are size held =
    let e : Element = master_element ATTACHMENTS (map tree_element ns) in
    let h : Header = header_in_place p e in
    let es : List Element = map tree_element ns in
    let q : ℕ = p + length (header_of e) in
    let records : All (IsRecord ATTACHED_FILE) ns = All-weaker IsAttachment (IsRecord ATTACHED_FILE) (λ n is. is.is) ns are in
    let inner : HoldsAt bytes q (joined es) = stands-body bytes p e held in
    let run : children_in in_master bytes h.body (stated_end h) ≡ record { list = headers_in_place q es; damage = None; end = q + length (joined es) } =
    children-all in_master bytes es q refl (records-are_elements ATTACHED_FILE ns refl records (sizes-joined es size)) inner in
    record {
      unbroken = ap (λ (r : Run). r.damage) run;
      are = subst (λ (r : Run). AllZip (IsRecordAt bytes) r.list ns) (sym run) (records-read bytes ATTACHED_FILE ns q records inner);
    }

pub attachments-read : (bytes : List ℕ) (ns : List Node) (list before rest : List Element) (p : ℕ) → list ≡ before ++ (attachments_elements ns ++ rest)
    → All (IsNot ATTACHMENTS) before → All (IsNot ATTACHMENTS) rest → All HasSize (attachments_elements ns) → All IsAttachment ns → HoldsAt bytes p (joined list)
    → AttachmentsAre bytes (headers_in_place p list) ns
attachments-read bytes [] list before rest p whole front back sizes are held =
    ap (λ l. first_of ATTACHMENTS (headers_in_place p l)) whole
    ∙ first_of-none ATTACHMENTS (before ++ rest) p (All-append (IsNot ATTACHMENTS) before rest front back)
attachments-read bytes (n ∷ ns) list before rest p whole front back sizes are held =
    let e : Element = master_element ATTACHMENTS (map tree_element (n ∷ ns)) in
    let q : ℕ = p + length (joined before) in (
      header_in_place q e,
      ap (λ l. first_of ATTACHMENTS (headers_in_place p l)) whole ∙ first_of-here ATTACHMENTS before e rest p front refl,
      attached-read bytes (n ∷ ns) q are (All-head HasSize e [] sizes) (held-behind bytes before e rest p (subst (λ (l : List Element). HoldsAt bytes p (joined l)) whole held)),
    )

-- ---- cue points

-- Cues among Elements with other IDs are the first, and have their points as body.
pub cues-read : (bytes : List ℕ) (points : List CuePoint) (list before rest : List Element) (p : ℕ) → list ≡ before ++ (cues_elements points ++ rest)
    → All (IsNot CUES) before → All (IsNot CUES) rest → HoldsAt bytes p (joined list) → CuesAre bytes (headers_in_place p list) points
cues-read bytes [] list before rest p whole front back held =
    ap (λ l. first_of CUES (headers_in_place p l)) whole
    ∙ first_of-none CUES (before ++ rest) p (All-append (IsNot CUES) before rest front back)
cues-read bytes (point ∷ points) list before rest p whole front back held =
    let e : Element = master_element CUES (map point_element (point ∷ points)) in
    let q : ℕ = p + length (joined before) in (
      header_in_place q e,
      ap (λ l. first_of CUES (headers_in_place p l)) whole ∙ first_of-here CUES before e rest p front refl,
      body_of-read bytes q e (held-behind bytes before e rest p (subst (λ (l : List Element). HoldsAt bytes p (joined l)) whole held)),
    )

-- ---- Seeks

-- A Seek names the Element at its place.
pub seeks-read : (bytes : List ℕ) (segment : Header) (es : List Element) (position : ℕ) → All IsElement es → HoldsAt bytes (segment.body + position) (joined es) → segment.body + position + length (joined es) ≤ segment_bound bytes segment
    → All (SeeksElement bytes segment) (seeks_from position es)
seeks-read bytes segment [] position are held ends = All-nil (SeeksElement bytes segment)
seeks-read bytes segment (e ∷ es) position are held ends =
    let q : ℕ = segment.body + position in
    let len = length-append (octets_of e) (joined es) in
    let next : ℕ = position + length (octets_of e) in
    let place : q + length (octets_of e) ≡ segment.body + next = omega arith in
    let s : Seek = record { id = e.id; position = position } in
    All-cons (SeeksElement bytes segment) s (seeks_from next es)
    (header_in_place q e, element_at-read in_segment bytes e q (segment_bound bytes segment) refl (All-head IsElement e es are) (held-left bytes q (octets_of e) (joined es) held) (omega arith), refl)
    (seeks-read bytes segment es next (All-tail IsElement e es are) (subst (λ (k : ℕ). HoldsAt bytes k (joined es)) place (held-right bytes q (octets_of e) (joined es) held)) (omega arith))
