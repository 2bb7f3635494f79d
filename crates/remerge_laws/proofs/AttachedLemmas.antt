-- An attached file is read after writing.
use Rattle.std.proofs.Common.{◌≡◌, ℕ, ◌+◌, ◌==◌, ◌≤◌, Bool, true, false, not, cond, if◌then◌else◌, List, [], ◌∷◌, ◌++◌, length, map, filter, find, flat_map, append-nil, All, Option, Some, None, Result, Ok, Err, refl, sym, ap, ap₂, ◌∙◌, subst, arith, unwrap_or, is_none, inl, inr}
use Rattle.std.specs.List.{AllZip}
use Rattle.std.specs.Option.{option_map, option_map_or}
use Rattle.std.proofs.lemmas.List.{drop-take}
use Rattle.std.proofs.lemmas.List.Elements.{All-nil, All-cons, All-head, All-tail, All-append}
use Rattle.std.proofs.lemmas.Bool.{cases_Bool}
use Rattle.ebml_numbers.specs.Number.{is_id}
use Rattle.mkv_io.specs.Contents.{octets_from}
use Rattle.mkv_io.specs.declared.damage.Damage.{Damage}
use Rattle.mkv_schema.specs.declared.ids.TheConstants.{ATTACHED_FILE, ATTACHMENTS, FILE_DATA, FILE_UID}
use Rattle.mkv_schema.specs.declared.element.Header.{Header}
use Rattle.mkv_io.specs.declared.damage.Kind.TheVariants.{BadValue, MissingChild}
use Rattle.mkv_schema.specs.Element.{damage, in_master, known}
use Rattle.mkv_schema.specs.Elements.{Run, children_in}
use Rattle.mkv_schema.specs.Outline.{first_damage, first_refusal, where_it}
use Rattle.mkv_io.specs.Results.{unless}
use Rattle.mkv_schema.specs.Schema.{uint_default}
use Rattle.mkv_schema.specs.Value.{body_of, first_of, is_known_value}
use Rattle.tree_format.specs.Node.{Node, Nodes, leaf, master, none, node, nodes_of, list_of, id_of, children, is_leaf}
use Rattle.tree_format.specs.NormalForm.{is_filler, kept_octets, octets, octets_all, content, longest}
use Rattle.tree_format.specs.Changes.{with_child, part}
use Rattle.tree_format.specs.Children.{set_in, uint_leaf}
use Rattle.tree_format.specs.Standing.{AllStandIn}
use Rattle.tree_format.specs.Values.{integer_of, uint_in}
use Rattle.tree_format.proofs.NodeLemmas.{list-nodes, octets_all-flat}
use Rattle.tree_format.proofs.WrittenLemmas.{octets-kept}
use Rattle.output_model.specs.Attached.{with_data}
use Rattle.output_model.specs.Element.{Element, IsElement, HoldsAt, master_element, header_of, octets_of, joined, header_in_place, headers_in_place}
use Rattle.output_model.specs.Document.{tree_element}
use Rattle.output_model.specs.Sound.{IsAttachment}
use Rattle.output_model.proofs.HeldLemmas.{held-left, held-right}
use Rattle.output_model.proofs.ReadLemmas.{stands-body, children-all}
use Rattle.output_model.proofs.AskedLemmas.{IsRead, headers-read, first_of-read}
use Rattle.output_laws.specs.Places.{HasSize}
use Rattle.output_laws.proofs.ClusterLemmas.{sizes-joined}
use Rattle.output_laws.proofs.GroupLemmas.{IsElement-element}
use Rattle.meta_records.specs.Attached.{AttachedFile, file_at, files_at}
use Rattle.meta_records.specs.Attachments.{ScannedElement, at_child, at_part, attached_in, child_of, children_of, data_in, ended, entry_of, is_attached, leaf_of, limit_passed, met_in, missing_data, no_value, one_too_many, part_of, parts_in, refused_from, refused_in, told_at, too_large, too_many_files}
use Rattle.meta_records.proofs.TableFacts.{no_master-in}
use Rattle.remerge_laws.specs.Files.{passed_from, AttachmentsKeepLimits, IsFileOf}
use Rattle.remerge_laws.proofs.ChangedLemmas.{written, as_read, part-written, changed-again, emptied, integer-read, element-found}
use Rattle.record_laws.proofs.StayLemmas.{octets-filler}
use Rattle.remerge_laws.proofs.TreeLemmas.{none-both, three-none}

-- ---- its place

-- The header `h` in a content belongs to the AttachedFile `n`, whose children are the written ones, without damage.
pub record IsAttachedAt (bytes : List ℕ) (h : Header) (n : Node) : Type 0 where
  pub id : h.id ≡ ATTACHED_FILE
  pub is : IsAttachment n
  pub whole : (children_of bytes h).damage ≡ None
  pub are : AllZip (IsRead bytes) (children_of bytes h).list (map tree_element (written (children n)))
  pub leaves : All (λ (k : Node). is_leaf k ≡ true) (children n)
  pub values : All (λ (e : Element). is_known_value ATTACHED_FILE e.id e.body ≡ true) (map tree_element (written (children n)))

-- The written bytes of a master after its header.
content-joined : (ns : Nodes) → octets_all ns ≡ joined (map tree_element (written (list_of ns)))
content-joined none = refl
content-joined (node n ns) = elim (cases_Bool (is_filler (id_of n))) [
  | inl filler ↦ rw (filler, octets-filler n filler) (content-joined ns)
  | inr kept ↦ rw kept (ap₂ (λ (a b : List ℕ). a ++ b) (octets-kept n ∙ ap (λ (t : Bool). cond t [] (octets_of (tree_element n))) kept) (content-joined ns))
]

-- The children of an AttachedFile are leaves.
all-leaves : (ns : Nodes) → AllStandIn ATTACHED_FILE ns → All (λ (k : Node). is_leaf k ≡ true) (list_of ns)
all-leaves none stand = All-nil (λ (k : Node). is_leaf k ≡ true)
all-leaves (node (leaf id at body) ns) stand = All-cons (λ (k : Node). is_leaf k ≡ true) (leaf id at body) (list_of ns) refl (all-leaves ns stand.1)
all-leaves (node (master id at kids) ns) stand =
    let never : true ≡ false = sym stand.0.0 ∙ no_master-in id in
    absurd (cc)

-- `e` is an Element of an AttachedFile.
record IsFileElement (e : Element) : Type 0 where
  valid : is_id e.id ≡ true
  value : is_known_value ATTACHED_FILE e.id e.body ≡ true
  short_header : (HasSize e → IsElement e)

file-elements : (ns : Nodes) → AllStandIn ATTACHED_FILE ns → All IsFileElement (map tree_element (written (list_of ns)))
file-elements none stand = All-nil IsFileElement
file-elements (node (master id at kids) ns) stand =
    let never : true ≡ false = sym stand.0.0 ∙ no_master-in id in
    absurd (cc)
file-elements (node (leaf id at body) ns) stand =
    let rest = file-elements ns stand.1 in
    elim (cases_Bool (is_filler id)) [
      | inl filler ↦ rw filler rest
      | inr kept ↦
          rw kept
          (All-cons IsFileElement (tree_element (leaf id at body)) (map tree_element (written (list_of ns)))
          (record { valid = stand.0.id_stands; value = stand.0.value; short_header = λ short. IsElement-element id body stand.0.id_stands short }) rest)
    ]

are-elements : (es : List Element) → All IsFileElement es → All HasSize es → All IsElement es
are-elements [] are short = All-nil IsElement
are-elements (e ∷ es) are short =
    All-cons IsElement e es ((All-head IsFileElement e es are).short_header (All-head HasSize e es short)) (are-elements es (All-tail IsFileElement e es are) (All-tail HasSize e es short))

all-values : (es : List Element) → All IsFileElement es → All (λ (e : Element). is_known_value ATTACHED_FILE e.id e.body ≡ true) es
all-values [] are = All-nil (λ (e : Element). is_known_value ATTACHED_FILE e.id e.body ≡ true)
all-values (e ∷ es) are =
    All-cons (λ (x : Element). is_known_value ATTACHED_FILE x.id x.body ≡ true) e es (All-head IsFileElement e es are).value (all-values es (All-tail IsFileElement e es are))

-- The AttachedFile at a place.
attached-at : (bytes : List ℕ) (n : Node) (p : ℕ) → IsAttachment n → HoldsAt bytes p (octets_of (tree_element n)) → IsAttachedAt bytes (header_in_place p (tree_element n)) n
attached-at bytes (leaf id at body) p is held = let never : true ≡ false = is.is.master in absurd (cc)
attached-at bytes (master id at kids) p is held =
    let n : Node = master id at kids in
    let e : Element = tree_element n in
    let own : id ≡ ATTACHED_FILE = is.is.id in
    let stand : AllStandIn ATTACHED_FILE kids = subst (λ (i : ℕ). AllStandIn i kids) own is.is.sound in
    let ds : List Element = map tree_element (written (list_of kids)) in
    let q : ℕ = p + length (header_of e) in
    let spelled : octets_all kids ≡ joined ds = content-joined kids in
    let long : length (octets_all kids) ≤ longest = is.is.limits.long in
    let same : length (octets_all kids) ≡ length (joined ds) = ap (λ (o : List ℕ). length o) spelled in
    let are = file-elements kids stand in
    let elements = are-elements ds are (sizes-joined ds (omega arith)) in
    let inner : HoldsAt bytes q (joined ds) = subst (HoldsAt bytes q) spelled (stands-body bytes p e held) in
    let run : children_in in_master bytes q (q + length (octets_all kids)) ≡ record { list = headers_in_place q ds; damage = None; end = q + length (joined ds) } =
    ap (λ (k : ℕ). children_in in_master bytes q (q + k)) same ∙ children-all in_master bytes ds q refl elements inner in
    record {
      id = own;
      is = is;
      whole = ap (λ (r : Run). r.damage) run;
      are = subst (λ (r : Run). AllZip (IsRead bytes) r.list ds) (sym run) (headers-read bytes ds q inner);
      leaves = all-leaves kids stand;
      values = all-values ds are;
    }

-- AttachedFiles in sequence.
attached-each : (bytes : List ℕ) (ns : List Node) (p : ℕ) → All IsAttachment ns → HoldsAt bytes p (joined (map tree_element ns)) → AllZip (IsAttachedAt bytes) (headers_in_place p (map tree_element ns)) ns
attached-each bytes [] p are held = tt
attached-each bytes (n ∷ ns) p are held =
    let e : Element = tree_element n in (
      attached-at bytes n p (All-head IsAttachment n ns are) (held-left bytes p (octets_of e) (joined (map tree_element ns)) held),
      attached-each bytes ns (p + length (octets_of e)) (All-tail IsAttachment n ns are) (held-right bytes p (octets_of e) (joined (map tree_element ns)) held),
    )

files-elements : (ns : List Node) → All IsAttachment ns → All IsElement (map tree_element ns)
unfolding is_id
files-elements [] are = All-nil IsElement
files-elements (n ∷ ns) are =
    let is = All-head IsAttachment n ns are in
    let long : length (content n) ≤ longest = is.is.limits.long in
    All-cons IsElement (tree_element n) (map tree_element ns) (IsElement-element (id_of n) (content n) (ap is_id is.is.id) (omega arith)) (files-elements ns (All-tail IsAttachment n ns are))

-- The Attachments Element `h` in a content has the AttachedFiles `ns`, without damage.
pub record AreAttachedAt (bytes : List ℕ) (h : Header) (ns : List Node) : Type 0 where
  pub whole : (children_of bytes h).damage ≡ None
  pub are : AllZip (IsAttachedAt bytes) (children_of bytes h).list ns

pub attached-all : (bytes : List ℕ) (ns : List Node) (p : ℕ) → All IsAttachment ns → HoldsAt bytes p (octets_of (master_element ATTACHMENTS (map tree_element ns)))
    → AreAttachedAt bytes (header_in_place p (master_element ATTACHMENTS (map tree_element ns))) ns
attached-all bytes ns p are held =
    let e : Element = master_element ATTACHMENTS (map tree_element ns) in
    let es : List Element = map tree_element ns in
    let q : ℕ = p + length (header_of e) in
    let inner : HoldsAt bytes q (joined es) = stands-body bytes p e held in
    let run : children_in in_master bytes q (q + length (joined es)) ≡ record { list = headers_in_place q es; damage = None; end = q + length (joined es) } =
    children-all in_master bytes es q refl (files-elements ns are) inner in
    record {
      whole = ap (λ (r : Run). r.damage) run;
      are = subst (λ (r : Run). AllZip (IsAttachedAt bytes) r.list ns) (sym run) (attached-each bytes ns q are inner);
    }

-- ---- its values

leaves-read : (bytes : List ℕ) (hs : List Header) (ns : List Node) → AllZip (IsRead bytes) hs (map tree_element ns) → map (leaf_of bytes) hs ≡ map as_read ns
leaves-read bytes [] [] are = refl
leaves-read bytes (h ∷ hs) (n ∷ ns) are =
    ap₂ (λ (k : Node) ks. k ∷ ks) (ap₂ (λ (i : ℕ) (b : List ℕ). leaf i 0 (if i == FILE_DATA then [] else b)) are.0.id_is are.0.body_is) (leaves-read bytes hs ns are.1)
leaves-read _ _ _ are = absurd are

-- The place of its data.
data-found : (bytes : List ℕ) (hs : List Header) (m : Node) (ns : List Node) → AllZip (IsRead bytes) hs (map tree_element ns) → part FILE_DATA ns ≡ m ∷ []
    → (c : Header) × (first_of FILE_DATA hs ≡ Some c) × (body_of bytes c ≡ content m)
data-found bytes hs m ns are one =
    split (first_of FILE_DATA hs) refl (first_of-read bytes (λ (o : List ℕ). o) FILE_DATA hs (map tree_element ns) are ∙ ap (option_map (λ (e : Element). e.body)) (element-found FILE_DATA m ns [] one))
  where
    split : (o : Option Header) → first_of FILE_DATA hs ≡ o → option_map (λ (h : Header). body_of bytes h) o ≡ Some (content m) → (c : Header) × (first_of FILE_DATA hs ≡ Some c) × (body_of bytes c ≡ content m)
    split None found same = absurd (cc)
    split (Some c) found same = (c, found, (cc))

one-of : (ns : List Node) → length ns ≡ 1 → (m : Node) × (ns ≡ m ∷ [])
one-of [] long = absurd (omega arith)
one-of (m ∷ []) long = (m, refl)
one-of (m ∷ k ∷ ns) long = absurd (omega arith)

-- An attached file is the AttachedFile that was written.
pub file-read : (bytes : List ℕ) (h : Header) (n : Node) → IsAttachedAt bytes h n → IsFileOf bytes n (file_at bytes h)
file-read bytes h (leaf id at body) at_place = let never : true ≡ false = at_place.is.is.master in absurd (cc)
file-read bytes h (master id at kids) at_place =
    let n : Node = master id at kids in
    let hs : List Header = (children_of bytes h).list in
    let list : List Node = map as_read (written (list_of kids)) in
    let one = one-of (part FILE_DATA (list_of kids)) at_place.is.one in
    let data_at = data-found bytes hs one.0 (written (list_of kids)) at_place.are (part-written FILE_DATA (list_of kids) refl ∙ one.1) in
    let c : Header = data_at.0 in
    let entry : Node = master ATTACHED_FILE h.offset (nodes_of (with_child (leaf FILE_DATA 0 []) list)) in
    let entry_is : entry_of bytes h ≡ entry =
    ap (λ (l : List Node). master ATTACHED_FILE h.offset (nodes_of (with_child (leaf FILE_DATA 0 []) l))) (leaves-read bytes hs (written (list_of kids)) at_place.are) in
    let data_octets : List ℕ = octets_from bytes (option_map_or (λ (d : Header). d.body) (data_in bytes h) 0) (option_map_or (λ (d : Header). known d.size) (data_in bytes h) 0) in
    let data_is : data_octets ≡ content one.0 =
    ap (λ (o : Option Header). octets_from bytes (option_map_or (λ (d : Header). d.body) o 0) (option_map_or (λ (d : Header). known d.size) o 0)) data_at.1
    ∙ sym (drop-take c.body (known c.size) bytes) ∙ data_at.2 in
    record {
      id = refl;
      uid = ap (uint_in FILE_UID) entry_is
          ∙ ap (λ (l : List Node). unwrap_or (option_map integer_of (find (λ k. id_of k == FILE_UID) l)) (unwrap_or (uint_default FILE_UID) 0)) (list-nodes (with_child (leaf FILE_DATA 0 []) list) ∙ emptied one.0 (list_of kids) one.1)
          ∙ ap (λ (o : Option ℕ). unwrap_or o (unwrap_or (uint_default FILE_UID) 0)) (integer-read FILE_UID kids refl refl at_place.leaves);
      same = λ uid.
          ap (λ (k : Node). octets (with_data data_octets (set_in (uint_leaf FILE_UID uid) k))) entry_is
          ∙ ap (λ (l : List Node). kept_octets ATTACHED_FILE (octets_all (nodes_of (with_child (leaf FILE_DATA 0 data_octets) (list_of (nodes_of (with_child (uint_leaf FILE_UID uid) l)))))))
          (list-nodes (with_child (leaf FILE_DATA 0 []) list))
          ∙ ap (λ (l : List Node). kept_octets ATTACHED_FILE (octets_all (nodes_of (with_child (leaf FILE_DATA 0 data_octets) l))))
          (list-nodes (with_child (uint_leaf FILE_UID uid) (with_child (leaf FILE_DATA 0 []) list)))
          ∙ ap (kept_octets ATTACHED_FILE)
          (octets_all-flat (with_child (leaf FILE_DATA 0 data_octets) (with_child (uint_leaf FILE_UID uid) (with_child (leaf FILE_DATA 0 []) list)))
          ∙ changed-again uid one.0 data_octets (list_of kids) one.1 data_is
          ∙ sym (octets_all-flat (with_child (uint_leaf FILE_UID uid) (list_of kids))))
          ∙ ap (λ (i : ℕ). kept_octets i (octets_all (nodes_of (with_child (uint_leaf FILE_UID uid) (list_of kids))))) (sym at_place.is.is.id);
    }

-- It has data.
data-there : (bytes : List ℕ) (h : Header) (n : Node) → IsAttachedAt bytes h n → missing_data bytes h ≡ None
data-there bytes h (leaf id at body) at_place = let never : true ≡ false = at_place.is.is.master in absurd (cc)
data-there bytes h (master id at kids) at_place =
    let one = one-of (part FILE_DATA (list_of kids)) at_place.is.one in
    let data_at = data-found bytes (children_of bytes h).list one.0 (written (list_of kids)) at_place.are (part-written FILE_DATA (list_of kids) refl ∙ one.1) in
    ap (λ (o : Option Header). where_it (is_none o) (damage MissingChild FILE_DATA h.offset)) data_at.1

-- ---- refusals

-- An Element is met, and its value is valid.
abbrev Fits : Result ScannedElement Damage → Type 0
Fits (Ok m) = m.fits ≡ true
Fits (Err d) = ⊥

two-none : (a b : Option Damage) → first_damage (a ∷ b ∷ []) ≡ None → (a ≡ None) × (b ≡ None)
two-none None None is = (refl, refl)
two-none None (Some d) is = absurd (cc)
two-none (Some d) b is = absurd (cc)

-- Only a limit refuses such Elements.
none-refused : (octets_before nodes : ℕ) (list : List (Result ScannedElement Damage)) → All Fits list → passed_from octets_before nodes list ≡ None → refused_from octets_before nodes list ≡ None
none-refused octets_before nodes [] fit passed = refl
none-refused octets_before nodes (Err d ∷ rest) fit passed = absurd (All-head Fits (Err d) rest fit)
none-refused octets_before nodes (Ok m ∷ rest) fit passed =
    let both = none-both (limit_passed (octets_before + m.counted) nodes m.header) (passed_from (octets_before + m.counted) (nodes + 1) rest) passed in
    let limits = two-none (too_large (octets_before + m.counted) m.header) (one_too_many nodes m.header) both.0 in
    let value : no_value m ≡ None = ap (λ (b : Bool). where_it (not b) (told_at BadValue m.header)) (All-head Fits (Ok m) rest fit) in
    ap (λ (o : Option Damage). first_refusal o (refused_from (octets_before + m.counted) (nodes + 1) rest))
    (three-none (too_large (octets_before + m.counted) m.header) (one_too_many nodes m.header) (no_value m) limits.0 limits.1 value)
    ∙ none-refused (octets_before + m.counted) (nodes + 1) rest (All-tail Fits (Ok m) rest fit) both.1

parts-fit : (bytes : List ℕ) (hs : List Header) (es : List Element) → AllZip (IsRead bytes) hs es → All (λ (e : Element). is_known_value ATTACHED_FILE e.id e.body ≡ true) es → All Fits (flat_map (at_part bytes) hs)
parts-fit bytes [] [] are values = All-nil Fits
parts-fit bytes (h ∷ hs) (e ∷ es) are values =
    All-cons Fits (Ok (part_of bytes h)) (flat_map (at_part bytes) hs)
    (ap₂ (is_known_value ATTACHED_FILE) are.0.id_is are.0.body_is ∙ All-head (λ (x : Element). is_known_value ATTACHED_FILE x.id x.body ≡ true) e es values)
    (parts-fit bytes hs es are.1 (All-tail (λ (x : Element). is_known_value ATTACHED_FILE x.id x.body ≡ true) e es values))
parts-fit _ _ _ are _ = absurd are

all-in : (bytes : List ℕ) (h : Header) (n : Node) → IsAttachedAt bytes h n → All Fits (parts_in bytes h)
all-in bytes h n at_place =
    subst (λ (o : Option Damage). All Fits (flat_map (at_part bytes) (children_of bytes h).list ++ ended o)) (sym at_place.whole)
    (subst (All Fits) (sym (append-nil (flat_map (at_part bytes) (children_of bytes h).list))) (parts-fit bytes (children_of bytes h).list (map tree_element (written (children n))) at_place.are at_place.values))

is-attached : (h : Header) → h.id ≡ ATTACHED_FILE → is_attached h ≡ true
is-attached h is = ap (λ i. i == ATTACHED_FILE) is

children-fit : (bytes : List ℕ) (hs : List Header) (ns : List Node) → AllZip (IsAttachedAt bytes) hs ns → All Fits (flat_map (at_child bytes) hs)
children-fit bytes [] [] are = All-nil Fits
children-fit bytes (h ∷ hs) (n ∷ ns) are =
    let inner : All Fits (if is_attached h then parts_in bytes h else []) =
    subst (λ (b : Bool). All Fits (if b then parts_in bytes h else [])) (sym (is-attached h are.0.id)) (all-in bytes h n are.0) in
    All-append Fits (at_child bytes h) (flat_map (at_child bytes) hs) (All-cons Fits (Ok (child_of h)) (if is_attached h then parts_in bytes h else []) refl inner) (children-fit bytes hs ns are.1)
children-fit _ _ _ are = absurd are

-- All children are AttachedFiles.
all-attached : (bytes : List ℕ) (hs : List Header) (ns : List Node) → AllZip (IsAttachedAt bytes) hs ns → filter is_attached hs ≡ hs
all-attached bytes [] [] are = refl
all-attached bytes (h ∷ hs) (n ∷ ns) are =
    ap (λ (b : Bool). cond b (h ∷ filter is_attached hs) (filter is_attached hs)) (is-attached h are.0.id) ∙ ap (λ l. h ∷ l) (all-attached bytes hs ns are.1)
all-attached _ _ _ are = absurd are

none-missing : (bytes : List ℕ) (hs : List Header) (ns : List Node) → AllZip (IsAttachedAt bytes) hs ns → first_damage (map (missing_data bytes) hs) ≡ None
none-missing bytes [] [] are = refl
none-missing bytes (h ∷ hs) (n ∷ ns) are =
    ap (λ (o : Option Damage). first_damage (o ∷ map (missing_data bytes) hs)) (data-there bytes h n are.0) ∙ none-missing bytes hs ns are.1
none-missing _ _ _ are = absurd are

files-are : (bytes : List ℕ) (hs : List Header) (ns : List Node) → AllZip (IsAttachedAt bytes) hs ns → AllZip (IsFileOf bytes) ns (map (file_at bytes) hs)
files-are bytes [] [] are = tt
files-are bytes (h ∷ hs) (n ∷ ns) are = (file-read bytes h n are.0, files-are bytes hs ns are.1)
files-are _ _ _ are = absurd are

-- An Attachments Element of AttachedFiles that keeps the limits isn't refused, and has these files.
pub files-read : (bytes : List ℕ) (h : Header) (ns : List Node) → AreAttachedAt bytes h ns → AttachmentsKeepLimits bytes h
    → (files : List AttachedFile) × (files_at bytes (Some h) ≡ Ok files) × AllZip (IsFileOf bytes) ns files
files-read bytes h ns all few =
    let hs : List Header = (children_of bytes h).list in
    let attached : attached_in bytes h ≡ hs = all-attached bytes hs ns all.are in
    let fit : All Fits (met_in (at_child bytes) (children_of bytes h)) =
    subst (λ (o : Option Damage). All Fits (flat_map (at_child bytes) hs ++ ended o)) (sym all.whole)
    (subst (All Fits) (sym (append-nil (flat_map (at_child bytes) hs))) (children-fit bytes hs ns all.are)) in
    let refused : refused_in bytes h ≡ None = none-refused 0 1 (met_in (at_child bytes) (children_of bytes h)) fit few.counted in
    let missing : first_damage (map (missing_data bytes) (attached_in bytes h)) ≡ None = ap (λ l. first_damage (map (missing_data bytes) l)) attached ∙ none-missing bytes hs ns all.are in (
      map (file_at bytes) (attached_in bytes h),
      ap (λ (o : Option Damage). unless o (map (file_at bytes) (attached_in bytes h)))
          (three-none (refused_in bytes h) (first_damage (map (missing_data bytes) (attached_in bytes h))) (too_many_files (attached_in bytes h)) refused missing few.files),
      subst (λ l. AllZip (IsFileOf bytes) ns (map (file_at bytes) l)) (sym attached) (files-are bytes hs ns all.are),
    )
