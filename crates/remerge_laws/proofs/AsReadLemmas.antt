-- An output with a Duration has the bytes of the document that a reader finds.
use Rattle.std.proofs.Common.{◌≡◌, ◌≤◌, ℕ, zero, suc, ◌+◌, List, ◌∷◌, ◌++◌, length, take, Option, Some, None, IfSome, refl, sym, ap, subst, ◌∙◌, arith}
use Rattle.mkv_io.specs.declared.outside.TheConstants.{LONGEST_FILE}
use Rattle.tree_format.specs.Node.{Node, leaf, master, IsMaster}
use Rattle.output_model.specs.Element.{Element, joined}
use Rattle.output_model.specs.declared.TheConstants.{AREA, MAX_CUES}
use Rattle.output_model.specs.Cues.{points_from}
use Rattle.output_model.specs.SeekHead.{area_elements, seeks_from}
use Rattle.output_model.specs.Document.{Document, attachments_elements, back_elements, clusters_elements, file_with, front_elements, info_element, info_told, layout, segment_size, tree_element}
use Rattle.output_laws.proofs.InfoLemmas.{told-element, told-scale}
use Rattle.remerge_laws.specs.AsRead.{DocumentsAreWrittenAsRead, EndsAfterStart, as_read}

-- An Info is a master with a Duration, too.
pub master-told : (info : Node) (lasting : Option ℕ) → IsMaster info → IsMaster (info_told info lasting)
master-told info None is = is
master-told (leaf id at body) (Some end) is = is
master-told (master id at kids) (Some end) is = refl

-- An Info with a Duration above 0 is written as the tree that a reader finds.
element-told : (info : Node) (lasting : Option ℕ) → IsMaster (info_told info lasting) → IfSome lasting (λ end. 1 ≤ end)
    → tree_element (info_told info lasting) ≡ info_element info lasting
element-told info None is later = refl
element-told info (Some zero) is later = absurd (omega (arith, later))
element-told info (Some (suc n)) is later = told-element info n is

-- the Elements before the Clusters of the document `d`, with `info` as its Info
abbrev fronts : Element → Document → List Element
fronts info d = info ∷ tree_element d.front.tracks ∷ attachments_elements d.front.attachments

-- the bytes of the document `d`, with `info` as its Info
abbrev laid_with : Element → Document → List ℕ
laid_with info d =
    let rest = joined (fronts info d ++ (clusters_elements d.clusters ++ back_elements d)) in
    let back = AREA + length (joined (fronts info d)) + length (joined (clusters_elements d.clusters)) in
    file_with d.front.webm (segment_size (length rest)) (area_elements (seeks_from AREA (fronts info d) ++ seeks_from back (back_elements d))) rest

module _ (d : Document) (is : IsMaster (info_told d.front.info d.front.lasting)) (later : EndsAfterStart d) where
  element-same : tree_element (info_told d.front.info d.front.lasting) ≡ info_element d.front.info d.front.lasting
  element-same = element-told d.front.info d.front.lasting is later

  pub fronts-told : joined (front_elements (as_read d).front) ≡ joined (front_elements d.front)
  fronts-told = ap (λ (info : Element). joined (fronts info d)) element-same

  pub layout-told : layout (as_read d) ≡ layout d
  layout-told = ap (λ (info : Element). laid_with info d) element-same

pub as-read : DocumentsAreWrittenAsRead
as-read d is later =
    let same = layout-told d is.info.master later in
    record {
      sound = record {
        info = is.info;
        scale = subst (λ n. 1 ≤ n) (sym (told-scale d.front.info d.front.lasting)) is.scale;
        tracks = is.tracks;
        attachments = is.attachments;
        clusters = is.clusters;
        cued = is.cued;
        cues = is.cues ∙ ap (λ (octets : List ℕ). take MAX_CUES (points_from is.cued (AREA + length octets) d.clusters)) (sym (fronts-told d is.info.master later));
        chapters = is.chapters;
        tags = is.tags;
        short = subst (λ (octets : List ℕ). length octets ≤ LONGEST_FILE) (sym same) is.short;
      };
      same = same;
    }
