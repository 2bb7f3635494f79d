-- An output keeps a reader's limits if its bytes do.
use Rattle.std.proofs.Common.{◌≡◌, ◌≤◌, ℕ, length, IfSome, Option, None, Some, sym, ap, ◌∙◌, subst}
use Rattle.mkv_schema.specs.declared.ids.TheConstants.{INFO}
use Rattle.mkv_schema.specs.declared.element.Header.{Header}
use Rattle.mkv_schema.specs.declared.limits.TheConstants.{MAX_MASTER_LEN}
use Rattle.mkv_schema.specs.Element.{known}
use Rattle.mkv_schema.specs.Outline.{Outlined}
use Rattle.mkv_schema.specs.Value.{first_of}
use Rattle.tree_format.specs.NormalForm.{content}
use Rattle.output_model.specs.Element.{header_in_place}
use Rattle.output_model.specs.Document.{Document, info_element, layout, tree_element}
use Rattle.output_model.specs.Sound.{IsSoundDocument}
use Rattle.output_laws.specs.Places.{segment_elements}
use Rattle.output_laws.specs.Reading.{InfoIs, header_of_segment, level_1_of, outline_of_document, segment_of_document}
use Rattle.output_laws.proofs.LayoutLemmas.{layout-read}
use Rattle.remerge_laws.specs.Limits.{OctetsKeepLimits}
use Rattle.remerge_laws.proofs.FirstLemmas.{first-at, info-first, layout-held}

-- The Info is short.
info-short : (d : Document) → IsSoundDocument d → d.front.lasting ≡ None → IfSome (first_of INFO (level_1_of d)) (λ (h : Header). known h.size ≤ MAX_MASTER_LEN) → length (content d.front.info) ≤ MAX_MASTER_LEN
info-short d is none short =
    let found = subst (InfoIs (layout d) (level_1_of d) d.front.info) none (layout-read d is).records.info in
    let h : Header = found.0 in
    let at = first-at (layout d) INFO (segment_elements (segment_of_document d)) (header_of_segment d).body h (layout-held d) found.1 in
    let some : Some (tree_element d.front.info) ≡ Some at.element = sym (info-first d is ∙ ap (λ (lasting : Option ℕ). Some (info_element d.front.info lasting)) none) ∙ at.first in
    let it : at.element ≡ tree_element d.front.info = cc in
    let header : h ≡ header_in_place at.place (tree_element d.front.info) = at.header ∙ ap (header_in_place at.place) it in
    subst (λ (x : Header). known x.size ≤ MAX_MASTER_LEN) header (subst (λ (o : Option Header). IfSome o (λ (x : Header). known x.size ≤ MAX_MASTER_LEN)) found.1 short)

pub octets-keep : OctetsKeepLimits
octets-keep d is planned within =
    let o : Outlined = outline_of_document d (length (layout d)) in
    let outline = (layout-read d is).outline in
    record {
      records = record {
        lasting = planned.lasting;
        info = record { short = info-short d is planned.lasting (within.info o outline); few = planned.info };
        tracks = planned.tracks;
        chapters = planned.chapters;
        tags = planned.tags;
      };
      attachments = within.attachments o outline;
      blocks = within.blocks o outline;
    }
