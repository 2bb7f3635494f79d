-- The attached files of an output are read.
use Rattle.std.proofs.Common.{◌≡◌, ℕ, List, [], ◌∷◌, map, All, IfSome, Option, Some, None, Ok, refl, sym, ap, ◌∙◌, subst}
use Rattle.std.specs.List.{AllZip}
use Rattle.mkv_schema.specs.declared.ids.TheConstants.{ATTACHMENTS}
use Rattle.mkv_schema.specs.declared.element.Header.{Header}
use Rattle.mkv_schema.specs.Value.{first_of}
use Rattle.tree_format.specs.Node.{Node}
use Rattle.output_model.specs.Element.{Element, HoldsAt, octets_of, header_in_place, master_element}
use Rattle.output_model.specs.Document.{layout, tree_element}
use Rattle.output_model.specs.Sound.{IsAttachment}
use Rattle.output_laws.specs.Places.{segment_elements}
use Rattle.output_laws.specs.Reading.{AttachmentsAre, header_of_segment, level_1_of, segment_of_document}
use Rattle.output_laws.proofs.LayoutLemmas.{layout-read}
use Rattle.meta_records.specs.Attached.{AttachedFile, files_at, first_attached}
use Rattle.remerge_laws.specs.Files.{FilesAreRead, AttachmentsKeepLimits, IsFileOf}
use Rattle.remerge_laws.proofs.FirstLemmas.{attachments-first, first-at, layout-held, layout-run}
use Rattle.remerge_laws.proofs.AttachedLemmas.{AreAttachedAt, attached-all, files-read}

-- The attached files of an output are read.
pub files-found : FilesAreRead
files-found d is few = of d.front.attachments refl (layout-read d is).records.attachments
  where
    bytes : List ℕ
    bytes = layout d

    none_found : first_of ATTACHMENTS (level_1_of d) ≡ None → first_attached bytes (header_of_segment d) ≡ Ok []
    none_found first = ap (λ (l : List Header). files_at bytes (first_of ATTACHMENTS l)) (layout-run d is) ∙ ap (files_at bytes) first

    of : (ns : List Node) → d.front.attachments ≡ ns → AttachmentsAre bytes (level_1_of d) ns
        → (files : List AttachedFile) × (first_attached bytes (header_of_segment d) ≡ Ok files) × AllZip (IsFileOf bytes) ns files
    of [] same found = ([], none_found found, tt)
    of (n ∷ ns) same found =
        let h : Header = found.0 in
        let e : Element = master_element ATTACHMENTS (map tree_element (n ∷ ns)) in
        let at = first-at bytes ATTACHMENTS (segment_elements (segment_of_document d)) (header_of_segment d).body h (layout-held d) found.1 in
        let some : Some e ≡ Some at.element = sym (attachments-first d is n ns same) ∙ at.first in
        let it : at.element ≡ e = cc in
        let stands : HoldsAt bytes at.place (octets_of e) = subst (λ (x : Element). HoldsAt bytes at.place (octets_of x)) it at.stands in
        let header : header_in_place at.place e ≡ h = sym (at.header ∙ ap (header_in_place at.place) it) in
        let all : AreAttachedAt bytes h (n ∷ ns) = subst (λ (x : Header). AreAttachedAt bytes x (n ∷ ns)) header (attached-all bytes (n ∷ ns) at.place (subst (All IsAttachment) same is.attachments) stands) in
        let limits : AttachmentsKeepLimits bytes h = subst (λ (o : Option Header). IfSome o (AttachmentsKeepLimits bytes)) found.1 few in
        let here : first_attached bytes (header_of_segment d) ≡ files_at bytes (Some h) =
        ap (λ (l : List Header). files_at bytes (first_of ATTACHMENTS l)) (layout-run d is) ∙ ap (files_at bytes) found.1 in
        found_there here (files-read bytes h (n ∷ ns) all limits)
      where
        found_there : first_attached bytes (header_of_segment d) ≡ files_at bytes (Some found.0) → (files : List AttachedFile) × (files_at bytes (Some found.0) ≡ Ok files) × AllZip (IsFileOf bytes) (n ∷ ns) files
            → (files : List AttachedFile) × (first_attached bytes (header_of_segment d) ≡ Ok files) × AllZip (IsFileOf bytes) (n ∷ ns) files
        found_there here files = (files.0, here ∙ files.1, files.2)
