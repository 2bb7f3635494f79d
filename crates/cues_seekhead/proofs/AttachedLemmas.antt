-- An AttachedFile with its data, and the bytes before and after them.
use Rattle.std.proofs.Common.{◌≡◌, ◌<◌, ◌≤◌, ℕ, suc, ◌+◌, List, [], ◌∷◌, ◌++◌, length, map, flat_map, sum_by, take, drop, get_or, Bool, true, false, not, cond, ◌==◌, nat_lt, position, unwrap_or, Some, None, All, refl, sym, ap, append_assoc, ◌∙◌, arith, add-one, length-append}
use Rattle.std.specs.List.{position_or_len}
use Rattle.std.proofs.lemmas.Bool.Decides.{nat_tests}
use Rattle.std.proofs.lemmas.List.{take_all, drop_all}
use Rattle.std.proofs.lemmas.List.Concat.{flat_map-append}
use Rattle.std.proofs.lemmas.List.Sums.{passes_at_first, prefix_len-le-length, sum_by-cons}
use Rattle.std.proofs.Math.Seq.{drop-cons}
use Rattle.mkv_io.specs.LiveFiles.{LiveFiles}
use Rattle.mkv_schema.specs.declared.ids.TheConstants.{ATTACHED_FILE, FILE_DATA}
use Rattle.tree_format.specs.Node.{Node, leaf, master, id_of, children, IsMaster}
use Rattle.tree_format.specs.NormalForm.{octets, header_octets}
use Rattle.tree_format.specs.Changes.{without, with_child, placed_at}
use Rattle.tree_format.proofs.NodeLemmas.{octets_all-flat}
use Rattle.tree_format.proofs.ChangeLemmas.{long-with_child}
use Rattle.output_model.specs.Element.{octets_of, joined}
use Rattle.output_model.specs.Document.{tree_element}
use Rattle.output_model.specs.declared.attachment.Attachment.{Attachment}
use Rattle.output_model.specs.Attached.{with_data, attached_file, data_of}
use Rattle.cues_seekhead.specs.Attached.{data_place, attached_body, attached_total, before_data, behind_data, HaveData}

-- ---- index of the first child that passes a test

pub index-inside : (passes : Node → Bool) (ns : List Node) → position_or_len passes ns ≤ length ns
index-inside passes ns = prefix_len-le-length (λ n. not (passes n)) ns

-- It is found, or it is the number of children if none passes.
pub index-is : (passes : Node → Bool) (ns : List Node) → unwrap_or (position passes ns) (length ns) ≡ position_or_len passes ns
index-is passes ns = split (nat_lt (position_or_len passes ns) (length ns)) refl
  where
    split : (inside : Bool) → nat_lt (position_or_len passes ns) (length ns) ≡ inside → unwrap_or (cond inside (Some (position_or_len passes ns)) None) (length ns) ≡ position_or_len passes ns
    split true test = refl
    split false test =
        let most = index-inside passes ns in
        grind (arith, nat_tests, most)

-- ---- index of the first FileData

abbrev is_data : Node → Bool
is_data n = id_of n == FILE_DATA

-- Without FileData, the first FileData doesn't matter.
without-first : (ns : List Node) (d : Node) → data_place ns < length ns → without FILE_DATA (drop (data_place ns) ns) ≡ without FILE_DATA (drop (data_place ns + 1) ns)
without-first ns d inside =
    let next : drop (data_place ns + 1) ns ≡ drop (suc (data_place ns)) ns = rw add-one refl in
    let first = passes_at_first is_data ns d inside in
    ap (without FILE_DATA) (drop-cons ns (data_place ns) d inside)
    ∙ ap (λ b. cond (not b) (get_or ns (data_place ns) d ∷ without FILE_DATA (drop (suc (data_place ns)) ns)) (without FILE_DATA (drop (suc (data_place ns)) ns))) first
    ∙ ap (without FILE_DATA) (sym next)

-- ---- bytes of an AttachedFile

-- The children have the data among them.
data-among : (bytes : List ℕ) (ns : List Node) → flat_map octets (with_child (leaf FILE_DATA 0 bytes) ns)
    ≡ flat_map octets (take (data_place ns) ns) ++ ((header_octets FILE_DATA (length bytes) ++ bytes) ++ flat_map octets (without FILE_DATA (drop (data_place ns) ns)))
data-among bytes ns = split (nat_lt (data_place ns) (length ns)) refl
  where
    n : Node
    n = leaf FILE_DATA 0 bytes

    split : (found : Bool) → nat_lt (data_place ns) (length ns) ≡ found → flat_map octets (placed_at (leaf FILE_DATA 0 bytes) ns (cond found (Some (data_place ns)) None))
        ≡ flat_map octets (take (data_place ns) ns) ++ ((header_octets FILE_DATA (length bytes) ++ bytes) ++ flat_map octets (without FILE_DATA (drop (data_place ns) ns)))
    split true test =
        let inside : data_place ns < length ns = grind (arith, nat_tests) in
        flat_map-append octets (take (data_place ns) ns) (leaf FILE_DATA 0 bytes ∷ without FILE_DATA (drop (data_place ns + 1) ns))
        ∙ ap (λ l. flat_map octets (take (data_place ns) ns) ++ ((header_octets FILE_DATA (length bytes) ++ bytes) ++ flat_map octets l)) (sym (without-first ns (leaf FILE_DATA 0 bytes) inside))
    split false test =
        let past : length ns ≤ data_place ns = grind (arith, nat_tests) in
        flat_map-append octets ns (leaf FILE_DATA 0 bytes ∷ [])
        ∙ ap (λ l. flat_map octets l ++ ((header_octets FILE_DATA (length bytes) ++ bytes) ++ [])) (sym (take_all (data_place ns) ns past))
        ∙ ap (λ l. flat_map octets (take (data_place ns) ns) ++ ((header_octets FILE_DATA (length bytes) ++ bytes) ++ flat_map octets (without FILE_DATA l))) (sym (drop_all (data_place ns) ns past))

-- An AttachedFile is its header and its body.
attached-whole : (bytes : List ℕ) (e : Node) → IsMaster e → id_of e ≡ ATTACHED_FILE → octets_of (tree_element (with_data bytes e))
    ≡ header_octets ATTACHED_FILE (length (flat_map octets (with_child (leaf FILE_DATA 0 bytes) (children e)))) ++ flat_map octets (with_child (leaf FILE_DATA 0 bytes) (children e))
attached-whole bytes (leaf id at body) is own = absurd (cc)
attached-whole bytes (master id at kids) is own =
    let ns = with_child (leaf FILE_DATA 0 bytes) (children (master id at kids)) in
    ap (λ w. header_octets id (length w) ++ w) (octets_all-flat ns) ∙ ap (λ i. header_octets i (length (flat_map octets ns)) ++ flat_map octets ns) own

body-long : (a : Attachment) (bytes : List ℕ) → length bytes ≡ a.len → length (flat_map octets (with_child (leaf FILE_DATA 0 bytes) (children a.entry))) ≡ attached_body a
body-long a bytes is =
    long-with_child (leaf FILE_DATA 0 bytes) (children a.entry)
    ∙ ap (λ k. length (flat_map octets (without FILE_DATA (children a.entry))) + k)
    (length-append (header_octets FILE_DATA (length bytes)) bytes ∙ ap (λ k. length (header_octets FILE_DATA k) + k) is)

-- The bytes before the data, the data, and the bytes after them make the AttachedFile.
pub attached-parts : (a : Attachment) (bytes : List ℕ) → IsMaster a.entry → id_of a.entry ≡ ATTACHED_FILE → length bytes ≡ a.len
    → octets_of (tree_element (with_data bytes a.entry)) ≡ before_data a ++ (bytes ++ behind_data a)
attached-parts a bytes is own long =
    let ns = children a.entry in
    let front = flat_map octets (take (data_place ns) ns) in
    let head = header_octets ATTACHED_FILE (attached_body a) in
    let middle = header_octets FILE_DATA a.len in
    attached-whole bytes a.entry is own
    ∙ ap (λ k. header_octets ATTACHED_FILE k ++ flat_map octets (with_child (leaf FILE_DATA 0 bytes) ns)) (body-long a bytes long)
    ∙ ap (λ w. head ++ w) (data-among bytes ns)
    ∙ ap (λ k. head ++ (front ++ ((header_octets FILE_DATA k ++ bytes) ++ behind_data a))) long
    ∙ ap (λ w. head ++ (front ++ w)) (append_assoc middle bytes (behind_data a))
    ∙ ap (λ w. head ++ w) (sym (append_assoc front middle (bytes ++ behind_data a)))
    ∙ sym (append_assoc head (front ++ middle) (bytes ++ behind_data a))

-- The length of an AttachedFile is the computed one.
pub attached-long : (a : Attachment) (bytes : List ℕ) → IsMaster a.entry → id_of a.entry ≡ ATTACHED_FILE → length bytes ≡ a.len → length (octets_of (tree_element (with_data bytes a.entry))) ≡ attached_total a
attached-long a bytes is own long =
    let all = flat_map octets (with_child (leaf FILE_DATA 0 bytes) (children a.entry)) in
    ap length (attached-whole bytes a.entry is own) ∙ length-append (header_octets ATTACHED_FILE (length all)) all
    ∙ ap (λ k. length (header_octets ATTACHED_FILE k) + k) (body-long a bytes long)

-- ---- all AttachedFiles

-- The sum of the rest begins with the next one.
pub total-next : (i : ℕ) (attachments : List Attachment) (a : Attachment) → i < length attachments → a ≡ get_or attachments i a
    → sum_by attached_total (drop i attachments) ≡ attached_total a + sum_by attached_total (drop (i + 1) attachments)
total-next i attachments a inside is =
    let next : drop i attachments ≡ a ∷ drop (i + 1) attachments = drop-cons attachments i a inside ∙ rw (add-one, ← is) refl in
    ap (sum_by attached_total) next ∙ sum_by-cons attached_total a (drop (i + 1) attachments)

-- The length of all AttachedFiles is the sum of theirs.
pub attachments-long : (files : LiveFiles) (attachments : List Attachment) → All (λ (a : Attachment). IsMaster a.entry) attachments → All (λ (a : Attachment). id_of a.entry ≡ ATTACHED_FILE) attachments → HaveData files attachments
    → length (joined (map tree_element (map (attached_file files) attachments))) ≡ sum_by attached_total attachments
attachments-long files [] masters own have = refl
attachments-long files (a ∷ attachments) masters own have =
    let rest = attachments-long files attachments (λ k d below. masters (suc k) d (omega arith)) (λ k d below. own (suc k) d (omega arith)) (λ k d below. have (suc k) d (omega arith)) in
    length-append (octets_of (tree_element (attached_file files a))) (joined (map tree_element (map (attached_file files) attachments)))
    ∙ ap (λ k. k + length (joined (map tree_element (map (attached_file files) attachments)))) (attached-long a (data_of files a) (masters 0 a (omega arith)) (own 0 a (omega arith)) (have 0 a (omega arith)))
    ∙ ap (λ k. attached_total a + k) rest ∙ sym (sum_by-cons attached_total a attachments)
