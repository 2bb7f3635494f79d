-- The children of an AttachedFile, one at a time.
use Rattle.std.proofs.Common.{◌≡◌, ◌<◌, ◌≤◌, ℕ, ◌+◌, ◌==◌, Bool, true, false, if◌then◌else◌, List, [], ◌∷◌, ◌++◌, length, map, Option, Some, None, IfSome, Ok, refl, sym, ◌∙◌, ap, subst, arith, append-nil, append_assoc, unwrap_or, is_none}
use Rattle.std.specs.Prelude.{IsErr}
use Rattle.std.specs.declared.alloc.AllocError.{AllocError}
use Rattle.std.specs.Option.{option_map, option_map_or, option_or}
use Rattle.mkv_schema.specs.declared.ids.TheConstants.{ATTACHED_FILE, FILE_DATA, FILE_UID}
use Rattle.mkv_schema.specs.declared.element.Header.{Header}
use Rattle.mkv_schema.specs.Element.{in_master, element_at, damage, end_in, known, stated_end}
use Rattle.mkv_schema.specs.Outline.{where_it}
use Rattle.mkv_io.specs.declared.damage.Damage.{Damage}
use Rattle.mkv_io.specs.declared.damage.Kind.TheVariants.{MissingChild}
use Rattle.mkv_io.specs.declared.outside.FileId.{FileId}
use Rattle.output_model.specs.declared.attachment.Attachment.{Attachment}
use Rattle.mkv_schema.specs.Elements.{Run, never}
use Rattle.mkv_schema.specs.Value.{first_of, is_known_value}
use Rattle.mkv_schema.proofs.ElementsLemmas.{elements-end}
use Rattle.mkv_schema.specs.Table.{table}
use Rattle.mkv_schema.specs.Schema.{entry_of, uint_default}
use Rattle.tree_format.specs.Values.{first_child, integer_of, uint_in}
use Rattle.tree_format.specs.Node.{Node, leaf, master, nodes_of, id_of, children, with_children, depth, IsMaster}
use Rattle.tree_format.specs.Changes.{AreTooLong, part, with_child}
use Rattle.tree_format.specs.Standing.{IsSound, StandsIn}
use Rattle.tree_format.proofs.NodeLemmas.{list-nodes}
use Rattle.tree_format.proofs.ChangeLemmas.{deep-with_child}
use Rattle.tree_format.proofs.PartLemmas.{part-set}
use Rattle.ebml_tree.specs.Building.{IsBuilt}
use Rattle.ebml_tree.proofs.BuildLemmas.{IsPut, built-limits, built-push}
use Rattle.output_model.specs.Sound.{IsAttachment}
use Rattle.meta_records.specs.Attachments.{children_of, leaf_of}
use Rattle.meta_records.specs.Attachments as spec
use Rattle.meta_records.specs.Walk.{ArePartsOf, IsPart, IsPartLeaf, data_at}
use Rattle.meta_records.specs.declared.attached.Parts.{Parts}
use Rattle.meta_records.specs.declared.part.Part.{Part}
use Rattle.meta_records.proofs.MetLemmas.{run_at, run_at-step}
use Rattle.meta_records.proofs.TableFacts.{file_data-stands, no_master-in}
use Rattle.ebml_numbers.specs.Number.{is_id}

-- ---- a leaf

pub leaf-stands : (id : ℕ) (body : List ℕ) (n : Node) → is_id id ≡ true → is_known_value ATTACHED_FILE id body ≡ true → n ≡ leaf id 0 body → IsPartLeaf n
leaf-stands id body n valid value is =
    let P : Node → Type 0 = IsPartLeaf in
    subst P (sym is) (record { stands = record { id_stands = valid; no_master = no_master-in id; value = value }; flat = refl })

-- ---- while the children are read

-- `ns` are the leaves of the children from `from` up to `p`, and `kept` is the first FileData among them.
pub record AreRead (bytes : List ℕ) (from p e : ℕ) (ns : List Node) (kept : Option Header) : Type 0 where
  pub leaves : map (leaf_of bytes) (run_at bytes from e).list ≡ ns ++ map (leaf_of bytes) (run_at bytes p e).list
  pub first : first_of FILE_DATA (run_at bytes from e).list ≡ option_or kept (first_of FILE_DATA (run_at bytes p e).list)

pub AreRead-none : (bytes : List ℕ) (p e : ℕ) → AreRead bytes p p e [] None
AreRead-none bytes p e = record { leaves = refl; first = refl }

-- The first FileData is kept.
first-more : (kept : Option Header) (h : Header) (rest : List Header) → option_or kept (first_of FILE_DATA (h ∷ rest)) ≡ option_or (option_or kept (data_at h)) (first_of FILE_DATA rest)
first-more (Some d) h rest = refl
first-more None h rest = split (h.id == FILE_DATA)
  where
    split : (b : Bool) → (if b then Some h else first_of FILE_DATA rest) ≡ option_or (if b then Some h else None) (first_of FILE_DATA rest)
    split true = refl
    split false = refl

read-more : (bytes : List ℕ) (from p e : ℕ) (ns : List Node) (kept : Option Header) (h : Header) (n : Node) → AreRead bytes from p e ns kept → p < e → element_at in_master bytes p e ≡ Ok h → n ≡ leaf_of bytes h
    → AreRead bytes from (stated_end h) e (ns ++ n ∷ []) (option_or kept (data_at h))
read-more bytes from p e ns kept h n are inside found is =
    let rest = run_at bytes (stated_end h) e in
    let step = run_at-step bytes p e (Ok h) inside found in
    record {
      leaves =
          are.leaves ∙ ap (λ (r : Run). ns ++ map (leaf_of bytes) r.list) step
          ∙ ap (λ (m : Node). ns ++ m ∷ map (leaf_of bytes) rest.list) (sym is)
          ∙ sym (append_assoc ns (n ∷ []) (map (leaf_of bytes) rest.list));
      first = are.first ∙ ap (λ (r : Run). option_or kept (first_of FILE_DATA r.list)) step ∙ first-more kept h rest.list;
    }

-- One more child is read.
pub AreRead-more : (bytes : List ℕ) (from p e next : ℕ) (ns ms : List Node) (kept found : Option Header) (part : Part) → AreRead bytes from p e ns kept → p < e → IsPart bytes p e part → next ≡ stated_end part.header → ms ≡ ns ++ part.leaf ∷ [] → found ≡ option_or kept (data_at part.header)
    → AreRead bytes from next e ms found
AreRead-more bytes from p e next ns ms kept found part are inside is behind grown first =
    let more = read-more bytes from p e ns kept part.header part.leaf are inside is.found is.leaf in
    let A = subst (λ (q : ℕ). AreRead bytes from q e (ns ++ part.leaf ∷ []) (option_or kept (data_at part.header))) (sym behind) more in
    let B = subst (λ (l : List Node). AreRead bytes from next e l (option_or kept (data_at part.header))) (sym grown) A in
    subst (λ (o : Option Header). AreRead bytes from next e ms o) (sym first) B

-- The first FileData ends before `end`, like each child.
pub first-inside : (kept found : Option Header) (h : Header) (end : ℕ) → IfSome kept (λ (d : Header). stated_end d ≤ end) → stated_end h ≤ end → found ≡ option_or kept (data_at h) → IfSome found (λ (d : Header). stated_end d ≤ end)
first-inside kept found h end before within is =
    let Q : Option Header → Type 0 = λ o. IfSome o (λ (d : Header). stated_end d ≤ end) in
    subst Q (sym is) (of kept before)
  where
    one : (b : Bool) → IfSome (if b then Some h else None) (λ (d : Header). stated_end d ≤ end)
    one true = within
    one false = tt

    of : (o : Option Header) → IfSome o (λ (d : Header). stated_end d ≤ end) → IfSome (option_or o (data_at h)) (λ (d : Header). stated_end d ≤ end)
    of (Some d) before = before
    of None before = one (h.id == FILE_DATA)

-- ---- all children are read

option_or-none : (kept : Option Header) → option_or kept None ≡ kept
option_or-none (Some d) = refl
option_or-none None = refl

pub AreRead-leaves : (bytes : List ℕ) (from p e : ℕ) (ns : List Node) (kept : Option Header) → AreRead bytes from p e ns kept → e ≤ p → ns ≡ map (leaf_of bytes) (run_at bytes from e).list
AreRead-leaves bytes from p e ns kept are past =
    sym (are.leaves ∙ ap (λ (r : Run). ns ++ map (leaf_of bytes) r.list) (elements-end in_master never (λ h. Ok (end_in e h)) bytes p e past) ∙ append-nil ns)

pub AreRead-first : (bytes : List ℕ) (from p e : ℕ) (ns : List Node) (kept : Option Header) → AreRead bytes from p e ns kept → e ≤ p → kept ≡ first_of FILE_DATA (run_at bytes from e).list
AreRead-first bytes from p e ns kept are past =
    sym (are.first ∙ ap (λ (r : Run). option_or kept (first_of FILE_DATA r.list)) (elements-end in_master never (λ h. Ok (end_in e h)) bytes p e past) ∙ option_or-none kept)

-- ---- the entry

-- An element's children are the ones that it was built from.
pub built-children : (id at deep : ℕ) (ns : List Node) (t : Node) → IsBuilt id at deep ns t → children t ≡ ns
built-children id at deep ns t built = ap children built.is ∙ list-nodes ns

pub built-own : (id at deep : ℕ) (ns : List Node) (t : Node) → IsBuilt id at deep ns t → IsBuilt id at deep (children t) t
built-own id at deep ns t built = let P : List Node → Type 0 = λ l. IsBuilt id at deep l t in subst P (sym (built-children id at deep ns t built)) built

-- One more leaf is added.
pub built-part : (at : ℕ) (old child new : Node) → IsBuilt ATTACHED_FILE at 0 (children old) old → IsPut old child new → IsPartLeaf child → IsBuilt ATTACHED_FILE at 0 (children old ++ child ∷ []) new
built-part at old child new built put is =
    built-push ATTACHED_FILE at 0 (children old) old child new built put is.stands (omega (arith, is.flat))

-- A child is set.
pub built-set : (id at deep : ℕ) (old child new : Node) → IsBuilt id at deep (children old) old → depth child ≤ deep → new ≡ with_children old (with_child child (children old)) → (AreTooLong (with_child child (children old)) → ⊥) → IsSound new
    → IsBuilt id at deep (with_child child (children old)) new
built-set id at deep old child new built flat is short sound =
    let ns = with_child child (children old) in
    let whole : new ≡ master id at (nodes_of ns) = is ∙ ap (λ t. with_children t ns) built.is in
    let P : Node → Type 0 = IsSound in
    let shallow = built.shallow in
    record {
      is = whole;
      stand = subst P whole sound;
      shallow = omega (arith, deep-with_child child (children old));
      short = short;
    }

-- The empty FileData is set.
pub built-data : (at : ℕ) (old child new : Node) → IsBuilt ATTACHED_FILE at 0 (children old) old → child ≡ leaf FILE_DATA 0 [] → new ≡ with_children old (with_child child (children old))
    → (AreTooLong (with_child child (children old)) → IsErr {T = Unit {0}} {E = AllocError} (Ok tt)) → (IsSound old → StandsIn (id_of old) child → IsSound new)
    → IsBuilt ATTACHED_FILE at 0 (with_child (leaf FILE_DATA 0 []) (children old)) new
built-data at old child new built made is full keeps =
    let S : Node → Type 0 = IsSound in
    let T : Node → Type 0 = StandsIn ATTACHED_FILE in
    let Q : ℕ → Type 0 = λ id. StandsIn id child in
    let sound = subst S (sym built.is) built.stand in
    let stands = subst Q (sym (ap id_of built.is)) (subst T (sym made) file_data-stands) in
    let flat : depth child ≤ 0 = omega (arith, ap depth made) in
    let whole = built-set ATTACHED_FILE at 0 old child new built flat is (λ long. (let never = full long in absurd (cc))) (keeps sound stands) in
    subst (λ (n : Node). IsBuilt ATTACHED_FILE at 0 (with_child n (children old)) new) made whole

-- The entry can be written and read again.
pub built-attachment : (at : ℕ) (ns : List Node) (t : Node) → IsBuilt ATTACHED_FILE at 0 (with_child (leaf FILE_DATA 0 []) ns) t → IsAttachment t
built-attachment at ns t built =
    let all = with_child (leaf FILE_DATA 0 []) ns in
    let M : Node → Type 0 = IsMaster in
    let S : Node → Type 0 = IsSound in
    record {
      is = record {
        id = ap id_of built.is;
        master = subst M (sym built.is) refl;
        sound = subst S (sym built.is) built.stand;
        limits = built-limits ATTACHED_FILE at 0 all t built (omega arith);
      };
      one = ap (λ (l : List Node). length (part FILE_DATA l)) (built-children ATTACHED_FILE at 0 all t built) ∙ ap (λ (l : List Node). length l) (part-set (leaf FILE_DATA 0 []) ns);
    }

-- The entry is the definition's.
pub entry-is : (bytes : List ℕ) (h : Header) (ns : List Node) (t : Node) → IsBuilt ATTACHED_FILE h.offset 0 (with_child (leaf FILE_DATA 0 []) ns) t → ns ≡ map (leaf_of bytes) (children_of bytes h).list → t ≡ spec.entry_of bytes h
entry-is bytes h ns t built is = built.is ∙ ap (λ l. master ATTACHED_FILE h.offset (nodes_of (with_child (leaf FILE_DATA 0 []) l))) is

-- ---- the FileUID

pub uid-none : (entry : Node) → first_child FILE_UID entry ≡ None → uint_in FILE_UID entry ≡ 0
unfolding entry_of table
uid-none entry none = ap (λ (o : Option Node). unwrap_or (option_map integer_of o) (unwrap_or (uint_default FILE_UID) 0)) none

-- ---- the attached file

pub attachment-is : (bytes : List ℕ) (file : FileId) (h : Header) (parts : Parts) (uid at len : ℕ) → ArePartsOf bytes h parts → uid ≡ uint_in FILE_UID parts.entry → at ≡ option_map_or (λ (d : Header). d.body) parts.first 0 → len ≡ option_map_or (λ (d : Header). known d.size) parts.first 0
    → (let a : Attachment = record { uid = uid; file = file; at = at; len = len; entry = parts.entry } in a ≡ spec.attachment_of bytes file h)
attachment-is bytes file h parts uid at len are is place count =
    let make : ℕ → ℕ → ℕ → Node → Attachment = λ u p n e. record { uid = u; file = file; at = p; len = n; entry = e } in
    ap (λ (u : ℕ). make u at len parts.entry) (is ∙ ap (uint_in FILE_UID) are.entry)
    ∙ ap (λ (p : ℕ). make (uint_in FILE_UID (spec.entry_of bytes h)) p len parts.entry) (place ∙ ap (λ (o : Option Header). option_map_or (λ (d : Header). d.body) o 0) are.first)
    ∙ ap (λ (n : ℕ). make (uint_in FILE_UID (spec.entry_of bytes h)) (option_map_or (λ (d : Header). d.body) (spec.data_in bytes h) 0) n parts.entry) (count ∙ ap (λ (o : Option Header). option_map_or (λ (d : Header). known d.size) o 0) are.first)
    ∙ ap (make (uint_in FILE_UID (spec.entry_of bytes h)) (option_map_or (λ (d : Header). d.body) (spec.data_in bytes h) 0) (option_map_or (λ (d : Header). known d.size) (spec.data_in bytes h) 0)) are.entry

pub missing-is : (bytes : List ℕ) (h : Header) (parts : Parts) (m : Option Damage) → ArePartsOf bytes h parts → m ≡ where_it (is_none parts.first) (damage MissingChild FILE_DATA h.offset) → m ≡ spec.missing_data bytes h
missing-is bytes h parts m are is = is ∙ ap (λ (o : Option Header). where_it (is_none o) (damage MissingChild FILE_DATA h.offset)) are.first

-- The data end in the AttachedFile.
pub data-inside : (end : ℕ) (first : Option Header) → IfSome first (λ (d : Header). stated_end d ≤ end) → option_map_or (λ (d : Header). d.body) first 0 + option_map_or (λ (d : Header). known d.size) first 0 ≤ end
data-inside end (Some d) inside = inside
data-inside end None inside = omega arith
