-- Attached files with identifiers are settled.
use Rattle.std.proofs.Common.{◌≡◌, ◌<◌, ℕ, ◌+◌, ◌^◌, false, List, [], ◌∷◌, length, map, Option, None, refl, sym, ap, ap₂, ◌∙◌, arith, All, unwrap_or}
use Rattle.std.proofs.lemmas.List.{length-map}
use Rattle.std.proofs.lemmas.List.Elements.{All-head, All-tail}
use Rattle.mkv_schema.specs.declared.ids.TheConstants.{FILE_UID}
use Rattle.mkv_schema.specs.Table.{table}
use Rattle.mkv_schema.specs.Schema.{entry_of, uint_default}
use Rattle.tree_format.specs.Node.{IsMaster, Node, leaf, master, nodes_of, list_of, id_of}
use Rattle.tree_format.specs.NormalForm.{is_filler, header_octets, kept_octets, octets, octets_all}
use Rattle.tree_format.specs.Changes.{with_child}
use Rattle.tree_format.specs.Standing.{placed}
use Rattle.tree_format.specs.Values.{first_child, integer_in, integer_of, uint_in}
use Rattle.tree_format.proofs.NodeLemmas.{octets_all-flat}
use Rattle.tree_format.proofs.PartLemmas.{part-set}
use Rattle.record_changes.specs.Identifiers.{renumbered}
use Rattle.record_changes.proofs.GivenLemmas.{numbers-settle}
use Rattle.tree_format.specs.Children.{set_in, uint_leaf}
use Rattle.record_laws.specs.Again.{read_of}
use Rattle.record_laws.proofs.SameLemmas.{HasOnly, octets-read, part-read, same-only, read-step}
use Rattle.record_changes.specs.Atoms.{value_in}
use Rattle.record_laws.specs.Files.{AreFiles, FilesStay, IsAttachedFile, file_numbers, settled, with_numbers}
use Rattle.record_laws.proofs.AtomLemmas.{map-or, value-placed}
use Rattle.record_laws.proofs.NumberLemmas.{value-set}

-- ---- a number that is set in a master

-- A master with the number that is read at a place is written as it was with the same number.
set-again : (id value p : ℕ) (n : Node) → IsMaster n → is_filler id ≡ false → octets (set_in (uint_leaf id value) (placed p (set_in (uint_leaf id value) n))) ≡ octets (set_in (uint_leaf id value) n)
set-again id value p (leaf i at body) is kept = absurd (cc)
set-again id value p (master own at kids) is kept =
    let child : Node = uint_leaf id value in
    let all : List Node = with_child child (list_of kids) in
    let q : ℕ = p + length (header_octets own (length (octets_all (nodes_of all)))) in
    let only : HasOnly child (read_of q all) = part-read id q all kept ∙ ap (map octets) (part-set child (list_of kids)) in
    ap (kept_octets own) (octets_all-flat (with_child child (read_of q all)) ∙ same-only child (read_of q all) only ∙ octets-read q all ∙ sym (octets_all-flat all))

-- It has this number.
no-default : uint_default FILE_UID ≡ None
unfolding entry_of table
no-default = refl

uint-value : (n : Node) → uint_in FILE_UID n ≡ value_in FILE_UID n
uint-value n = ap (λ (o : Option ℕ). unwrap_or (integer_in FILE_UID n) (unwrap_or o 0)) no-default ∙ sym (map-or integer_of (first_child FILE_UID n) 0)

uid-again : (uid p : ℕ) (n : Node) → IsMaster n → uid < 2 ^ 64 → uint_in FILE_UID (placed p (set_in (uint_leaf FILE_UID uid) n)) ≡ uid
uid-again uid p (leaf id at body) is small = absurd (cc)
uid-again uid p (master id at kids) is small =
    uint-value (placed p (set_in (uint_leaf FILE_UID uid) (master id at kids)))
    ∙ value-placed FILE_UID (set_in (uint_leaf FILE_UID uid) (master id at kids)) p refl
    ∙ value-set FILE_UID uid at id (list_of kids) small

set-id : (uid : ℕ) (n : Node) → id_of (set_in (uint_leaf FILE_UID uid) n) ≡ id_of n
set-id uid (leaf id at body) = refl
set-id uid (master id at kids) = refl

-- ---- all files

uids-again : (uids : List ℕ) (files : List Node) (p : ℕ) → length uids ≡ length files → All IsAttachedFile files → All (λ n. n < 2 ^ 64) uids → map (uint_in FILE_UID) (read_of p (with_numbers uids files)) ≡ uids
uids-again [] files p same are small = refl
uids-again (uid ∷ uids) [] p same are small = absurd (omega arith)
uids-again (uid ∷ uids) (file ∷ files) p same are small =
    let is = All-head IsAttachedFile file files are in
    let one : Node = set_in (uint_leaf FILE_UID uid) file in
    ap (map (uint_in FILE_UID)) (read-step p one (with_numbers uids files) (ap is_filler (set-id uid file ∙ is.id)))
    ∙ ap₂ (λ u (us : List ℕ). u ∷ us) (uid-again uid p file is.master (All-head (λ n. n < 2 ^ 64) uid uids small))
    (uids-again uids files (p + length (octets one)) (omega arith) (All-tail IsAttachedFile file files are) (All-tail (λ n. n < 2 ^ 64) uid uids small))

files-again : (uids : List ℕ) (files : List Node) (p : ℕ) → length uids ≡ length files → All IsAttachedFile files → map octets (with_numbers uids (read_of p (with_numbers uids files))) ≡ map octets (with_numbers uids files)
files-again [] files p same are = refl
files-again (uid ∷ uids) [] p same are = absurd (omega arith)
files-again (uid ∷ uids) (file ∷ files) p same are =
    let is = All-head IsAttachedFile file files are in
    let one : Node = set_in (uint_leaf FILE_UID uid) file in
    ap (λ (l : List Node). map octets (with_numbers (uid ∷ uids) l)) (read-step p one (with_numbers uids files) (ap is_filler (set-id uid file ∙ is.id)))
    ∙ ap₂ (λ (o : List ℕ) (os : List (List ℕ)). o ∷ os) (set-again FILE_UID uid p file is.master refl) (files-again uids files (p + length (octets one)) (omega arith) (All-tail IsAttachedFile file files are))

-- Files with identifiers keep them, and stay.
pub files-stay : FilesStay
files-stay = record {
  uids = λ files place are. uids files place are;
  same = λ files place are. whole files place are;
}
  where
    many : (files : List Node) → length (file_numbers files) ≡ length files
    many files = numbers-settle.each (map (uint_in FILE_UID) files) ∙ length-map files (uint_in FILE_UID)

    uids : (files : List Node) (place : ℕ) → AreFiles files → map (uint_in FILE_UID) (read_of place (settled files)) ≡ file_numbers files
    uids files place are = uids-again (file_numbers files) files place (many files) are.each are.numbers

    whole : (files : List Node) (place : ℕ) → AreFiles files → map octets (settled (read_of place (settled files))) ≡ map octets (settled files)
    whole files place are =
        let numbers : List ℕ = file_numbers files in
        let read : List Node = read_of place (settled files) in
        let still : file_numbers read ≡ numbers = ap renumbered (uids files place are) ∙ numbers-settle.stays numbers (numbers-settle.settled (map (uint_in FILE_UID) files)) in
        ap (λ (l : List ℕ). map octets (with_numbers l read)) still ∙ files-again numbers files place (many files) are.each
