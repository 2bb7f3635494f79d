-- The attached files of an output stay.
use Rattle.std.proofs.Common.{◌≡◌, ℕ, ◌==◌, List, [], ◌∷◌, map, find, All, Option, Some, refl, sym, ap, ap₂, ◌∙◌, unwrap_or, option_map}
use Rattle.std.specs.List.{AllZip}
use Rattle.std.proofs.lemmas.List.Elements.{All-head, All-tail}
use Rattle.ebml_numbers.specs.Number.{uint_octets}
use Rattle.mkv_schema.specs.declared.ids.TheConstants.{FILE_UID}
use Rattle.mkv_schema.specs.Schema.{uint_default}
use Rattle.tree_format.specs.Node.{Node, leaf, master, list_of, id_of, children}
use Rattle.tree_format.specs.NormalForm.{kept_octets, octets, octets_all}
use Rattle.tree_format.specs.Changes.{with_child}
use Rattle.tree_format.specs.Children.{set_in, uint_leaf}
use Rattle.tree_format.specs.Values.{integer_of, uint_in}
use Rattle.tree_format.proofs.NodeLemmas.{nodes-list, octets_all-flat}
use Rattle.tree_format.proofs.ValueLemmas.{uint_value-octets}
use Rattle.record_changes.specs.Identifiers.{renumbered}
use Rattle.record_changes.proofs.GivenLemmas.{numbers-settle}
use Rattle.record_laws.proofs.SameLemmas.{same-only}
use Rattle.record_laws.proofs.TrackLemmas.{find-filter, first_in}
use Rattle.meta_records.specs.Attached.{AttachedFile}
use Rattle.remerge_laws.specs.Files.{IsFileOf}
use Rattle.remerge_laws.specs.OwnFiles.{IsNumbered, OwnFilesStay, written_files}

-- Its FileUID.
pub uid-is : (n : Node) (is : IsNumbered n) → uint_in FILE_UID n ≡ is.uid
uid-is n is =
    let found : find (λ k. id_of k == FILE_UID) (children n) ≡ Some (uint_leaf FILE_UID is.uid) = find-filter (λ k. id_of k == FILE_UID) (children n) ∙ ap first_in is.one in
    ap (λ (o : Option Node). unwrap_or (option_map integer_of o) (unwrap_or (uint_default FILE_UID) 0)) found
    ∙ uint_value-octets FILE_UID is.uid (uint_octets is.uid) is.small refl

-- It is written as it was with this FileUID.
set-again : (n : Node) (is : IsNumbered n) → octets (set_in (uint_leaf FILE_UID is.uid) n) ≡ octets n
set-again (leaf id at body) is = refl
set-again (master id at kids) is =
    ap (kept_octets id)
    (octets_all-flat (with_child (uint_leaf FILE_UID is.uid) (list_of kids))
    ∙ same-only (uint_leaf FILE_UID is.uid) (list_of kids) (ap (map octets) is.one)
    ∙ sym (octets_all-flat (list_of kids)) ∙ ap octets_all (nodes-list kids))

pub uids-same : (bytes : List ℕ) (ns : List Node) (files : List AttachedFile) → AllZip (IsFileOf bytes) ns files → map (λ (a : AttachedFile). a.uid) files ≡ map (uint_in FILE_UID) ns
uids-same bytes [] [] are = refl
uids-same bytes (n ∷ ns) (a ∷ files) are = ap₂ (λ (u : ℕ) us. u ∷ us) are.0.uid (uids-same bytes ns files are.1)
uids-same _ _ _ are = absurd are

each-stays : (bytes : List ℕ) (ns : List Node) (files : List AttachedFile) → AllZip (IsFileOf bytes) ns files → All IsNumbered ns → map octets (written_files bytes (map (uint_in FILE_UID) ns) files) ≡ map octets ns
each-stays bytes [] [] are numbered = refl
each-stays bytes (n ∷ ns) (a ∷ files) are numbered =
    let is = All-head IsNumbered n ns numbered in
    ap₂ (λ (o : List ℕ) os. o ∷ os)
    (are.0.same (uint_in FILE_UID n) ∙ ap (λ (u : ℕ). octets (set_in (uint_leaf FILE_UID u) n)) (uid-is n is) ∙ set-again n is)
    (each-stays bytes ns files are.1 (All-tail IsNumbered n ns numbered))
each-stays _ _ _ are _ = absurd are

pub own-files : OwnFilesStay
own-files bytes ns files are numbered settled =
    ap (λ (us : List ℕ). map octets (written_files bytes (renumbered us) files)) (uids-same bytes ns files are)
    ∙ ap (λ (us : List ℕ). map octets (written_files bytes us files)) (numbers-settle.stays (map (uint_in FILE_UID) ns) settled)
    ∙ each-stays bytes ns files are numbered
