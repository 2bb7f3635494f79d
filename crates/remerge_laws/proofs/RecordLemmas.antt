-- The records of an output are read with limits, and so is the output.
use Rattle.std.proofs.Common.{◌≡◌, ℕ, ◌+◌, ◌≤◌, ◌==◌, not, Bool, false, List, length, map, IfSome, Option, Some, None, Result, Ok, refl, sym, ap, ◌∙◌, subst, arith, unwrap_or, option_map, option_and_then}
use Rattle.std.proofs.lemmas.Bool.Decides.{nat_tests}
use Rattle.mkv_io.specs.declared.damage.Damage.{Damage}
use Rattle.mkv_io.specs.declared.damage.Kind.TheVariants.{BadValue}
use Rattle.mkv_schema.specs.declared.ids.TheConstants.{CHAPTERS, INFO, TAGS, TIMESTAMP_SCALE, TRACKS}
use Rattle.mkv_schema.specs.declared.element.Header.{Header}
use Rattle.mkv_schema.specs.Element.{damage}
use Rattle.mkv_schema.specs.Outline.{where_it}
use Rattle.mkv_io.specs.Results.{and_then, unless}
use Rattle.mkv_schema.specs.Schema.{uint_default}
use Rattle.mkv_schema.specs.Value.{body_of, first_of}
use Rattle.mkv_schema.proofs.OutlineLemmas.{unless-ok}
use Rattle.tree_format.specs.declared.limits.TheConstants.{MAX_NODES}
use Rattle.tree_format.specs.Node.{Node, leaf, master, offset_of}
use Rattle.tree_format.specs.Reading.{tree_of}
use Rattle.tree_format.specs.Standing.{placed, placed_in}
use Rattle.tree_format.specs.Values.{first_child, integer_of}
use Rattle.file_format.specs.Entry.{entries_of}
use Rattle.file_format.specs.Info.{info_refusal, scale_of}
use Rattle.file_format.specs.Refusal.{refusal_of}
use Rattle.track_records.specs.declared.track.Track.{Track}
use Rattle.track_records.specs.Track.{track_of, tracks_of}
use Rattle.output_model.specs.Element.{header_of, header_in_place}
use Rattle.output_model.specs.Document.{Document, layout, tree_element, info_element, info_told}
use Rattle.output_model.specs.Sound.{IsRecord, IsSoundDocument}
use Rattle.output_laws.specs.Places.{segment_elements}
use Rattle.output_laws.specs.Reading.{FirstIs, header_of_segment, level_1_of, segment_of_document, InfoIs}
use Rattle.output_laws.proofs.LayoutLemmas.{layout-read}
use Rattle.meta_records.specs.Attached.{AttachedFile, first_attached}
use Rattle.meta_records.specs.Records.{FileRecords, file_records, first_tree, good_info, good_tracks, tree_at}
use Rattle.remerge_laws.specs.Outline.{KeepsReaderLimits}
use Rattle.remerge_laws.specs.Placed.{MayStandAs, StandsAs}
use Rattle.remerge_laws.specs.Records.{FirstTreeIs, OutputsAreReadWithLimits, TreesAreRead}
use Rattle.remerge_laws.proofs.DocumentLemmas.{outlines-read}
use Rattle.remerge_laws.proofs.FileLemmas.{files-found}
use Rattle.remerge_laws.proofs.FirstLemmas.{chapters-first, first-at, first_element, info-first, layout-held, layout-run, tags-first, tracks-first}
use Rattle.remerge_laws.proofs.PlacedLemmas.{first-placed, integer-placed}
use Rattle.remerge_laws.proofs.TrackLemmas.{tracks-read}
use Rattle.remerge_laws.proofs.TreeLemmas.{count-placed, depth-placed, small-read}

-- ---- trees

-- A record follows a header of the shortest form.
placed-there : (n : Node) (p : ℕ) → placed_in p (p + length (header_of (tree_element n))) n ≡ placed p n
placed-there (leaf id at body) p = refl
placed-there (master id at kids) p = refl

-- The first Element with an ID is read with limits if it keeps them.
module _ (d : Document) (is : IsSoundDocument d) (id : ℕ) where
  none-read : first_of id (level_1_of d) ≡ None → FirstTreeIs id (layout d) (header_of_segment d) None
  none-read found = (None, ap (λ (l : List Header). tree_at (layout d) (first_of id l)) (layout-run d is) ∙ ap (tree_at (layout d)) found, tt)

  some-read : (n : Node) → FirstIs (layout d) (level_1_of d) id (Some n) → first_element id (segment_elements (segment_of_document d)) ≡ Some (tree_element n) → IsRecord id n → KeepsReaderLimits n
      → FirstTreeIs id (layout d) (header_of_segment d) (Some n)
  some-read n found first own keeps =
      let bytes : List ℕ = layout d in
      let h : Header = found.0 in
      let at = first-at bytes id (segment_elements (segment_of_document d)) (header_of_segment d).body h (layout-held d) found.1 in
      let some : Some (tree_element n) ≡ Some at.element = sym first ∙ at.first in
      let it : at.element ≡ tree_element n = cc in
      let header : h ≡ header_in_place at.place (tree_element n) = at.header ∙ ap (header_in_place at.place) it in
      let m : Node = placed at.place n in
      let stands : placed_in h.offset h.body n ≡ m = ap (λ (x : Header). placed_in x.offset x.body n) header ∙ placed-there n at.place in
      let few = keeps.few in
      let deep = own.limits.deep in
      let tree : tree_of h.id h.offset (body_of bytes h) h.body MAX_NODES ≡ Ok m =
      small-read h.id h.offset (body_of bytes h) h.body MAX_NODES m (found.2.read ∙ ap (λ (t : Node). Ok t) stands) (omega (arith, count-placed at.place n)) (omega (arith, depth-placed at.place n)) in (
        Some m,
        ap (λ (l : List Header). tree_at bytes (first_of id l)) (layout-run d is) ∙ ap (tree_at bytes) found.1 ∙ ap (λ (r : Result Node Damage). and_then r (λ (t : Node). Ok (Some t))) tree,
        (at.place, refl),
      )

  may-read : (o : Option Node) → FirstIs (layout d) (level_1_of d) id o → ((n : Node) → o ≡ Some n → first_element id (segment_elements (segment_of_document d)) ≡ Some (tree_element n))
      → IfSome o (IsRecord id) → IfSome o KeepsReaderLimits → FirstTreeIs id (layout d) (header_of_segment d) o
  may-read None found first own keeps = none-read found
  may-read (Some n) found first own keeps = some-read n found (first n refl) own keeps

-- the Info of an output without a Duration: it is the first Element with its ID, and can be written
record HasPlainInfo (d : Document) : Type 0 where
  found : FirstIs (layout d) (level_1_of d) INFO (Some d.front.info)
  first : first_element INFO (segment_elements (segment_of_document d)) ≡ Some (tree_element d.front.info)
  own : IsRecord INFO d.front.info

info-is : (d : Document) → IsSoundDocument d → d.front.lasting ≡ None → HasPlainInfo d
info-is d is none = record {
  found = subst (InfoIs (layout d) (level_1_of d) d.front.info) none (layout-read d is).records.info;
  first = info-first d is ∙ ap (λ (lasting : Option ℕ). Some (info_element d.front.info lasting)) none;
  own = subst (λ (lasting : Option ℕ). IsRecord INFO (info_told d.front.info lasting)) none is.info;
}

-- The records of an output are read as trees.
pub trees-read : TreesAreRead
trees-read d is keeps =
    let records = (layout-read d is).records in
    record {
      info = some-read d is INFO d.front.info (info-is d is keeps.lasting).found (info-is d is keeps.lasting).first (info-is d is keeps.lasting).own keeps.info;
      tracks = some-read d is TRACKS d.front.tracks records.tracks (tracks-first d is) is.tracks.is keeps.tracks;
      chapters = may-read d is CHAPTERS d.chapters records.chapters (λ n same. chapters-first d is n same) is.chapters keeps.chapters;
      tags = may-read d is TAGS d.tags records.tags (λ n same. tags-first d is n same) is.tags keeps.tags;
    }

-- ---- values from the trees

some-of : (n : Node) (o : Option Node) → MayStandAs (Some n) o → (m : Node) × (o ≡ Some m) × StandsAs n m
some-of n None stands = absurd stands
some-of n (Some m) stands = (m, refl, stands)

-- The scale of an Info is the same after writing.
scale-same : (info : Node) (p : ℕ) → scale_of (placed p info) ≡ scale_of info
scale-same info p =
    ap (λ (o : Option ℕ). unwrap_or o (unwrap_or (uint_default TIMESTAMP_SCALE) 0)) (first-placed integer_of integer-placed TIMESTAMP_SCALE refl info p)

-- An Info whose scale isn't 0 isn't refused.
info-good : (info : Node) (p : ℕ) → 1 ≤ scale_of info → info_refusal (placed p info) ≡ None
info-good info p some =
    let here : Option Node = first_child TIMESTAMP_SCALE (placed p info) in
    let same : option_map integer_of here ≡ option_map integer_of (first_child TIMESTAMP_SCALE info) = first-placed integer_of integer-placed TIMESTAMP_SCALE refl info p in
    split here (subst (λ (o : Option ℕ). 1 ≤ unwrap_or o (unwrap_or (uint_default TIMESTAMP_SCALE) 0)) (sym same) some)
  where
    split : (o : Option Node) → 1 ≤ unwrap_or (option_map integer_of o) (unwrap_or (uint_default TIMESTAMP_SCALE) 0)
        → option_and_then (λ (n : Node). where_it (not (not (integer_of n == 0))) (damage BadValue TIMESTAMP_SCALE (offset_of n))) o ≡ None
    split None scale = refl
    split (Some n) scale =
        let test : (integer_of n == 0) ≡ false = grind (arith, nat_tests) in
        ap (λ (b : Bool). where_it (not (not b)) (damage BadValue TIMESTAMP_SCALE (offset_of n))) test

-- The first Info of an output is read, with the document's scale.
pub info-read : (d : Document) → IsSoundDocument d → d.front.lasting ≡ None → KeepsReaderLimits d.front.info → (m : Node) × (first_tree INFO (layout d) (header_of_segment d) ≡ Ok (Some m)) × (scale_of m ≡ scale_of d.front.info)
info-read d is none keeps =
    let its = info-is d is none in
    let read = some-read d is INFO d.front.info its.found its.first its.own keeps in
    let info = some-of d.front.info read.0 read.2 in
    (info.0, read.1 ∙ ap (λ (o : Option Node). Ok o) info.1, ap scale_of info.2.1 ∙ scale-same d.front.info info.2.0)

-- An output that keeps a reader's limits is read with them.
pub outputs-read : OutputsAreReadWithLimits
outputs-read d is keeps =
    let bytes : List ℕ = layout d in
    let segment : Header = header_of_segment d in
    let trees = trees-read d is keeps.records in
    let info = some-of d.front.info trees.info.0 trees.info.2 in
    let tracks = some-of d.front.tracks trees.tracks.0 trees.tracks.2 in
    let stand = tracks.2 in
    let files = files-found d is keeps.attachments in
    let good : refusal_of d.front.tracks ≡ None = (unless-ok (refusal_of d.front.tracks) (entries_of d.front.tracks) (entries_of d.front.tracks) is.tracks.read).0 in
    let ts : List Track = map track_of (entries_of (placed stand.0 d.front.tracks)) in
    let info_good : info_refusal info.0 ≡ None = ap info_refusal info.2.1 ∙ info-good d.front.info info.2.0 is.scale in
    let info_read : and_then (first_tree INFO bytes segment) good_info ≡ Ok (Some info.0) =
    ap (λ (r : Result (Option Node) Damage). and_then r good_info) trees.info.1 ∙ ap good_info info.1
    ∙ ap (λ (o : Option Damage). unless o (Some info.0)) info_good in
    let tracks_read : and_then (first_tree TRACKS bytes segment) (good_tracks segment) ≡ Ok ts =
    ap (λ (r : Result (Option Node) Damage). and_then r (good_tracks segment)) trees.tracks.1 ∙ ap (good_tracks segment) tracks.1
    ∙ ap tracks_of stand.1 ∙ tracks-read.good d.front.tracks stand.0 good in
    let r : FileRecords = record { info = Some info.0; tracks = ts; attachments = files.0; chapters = trees.chapters.0; tags = trees.tags.0 } in
    record {
      outline = outlines-read d is keeps.records;
      records = (
        r,
        whole bytes segment (Some info.0) ts files.0 trees.chapters.0 trees.tags.0 info_read tracks_read files.1 trees.chapters.1 trees.tags.1,
        record {
          info = info.2;
          scale = ap scale_of info.2.1 ∙ scale-same d.front.info info.2.0;
          tracks = record { say = tracks-read.same d.front.tracks stand.0; place = stand.0; stand = refl };
          attachments = files.2;
          chapters = trees.chapters.2;
          tags = trees.tags.2;
        },
      );
      events = keeps.blocks ∙ (layout-read d is).events;
    }
  where
    whole : (bytes : List ℕ) (segment : Header) (info : Option Node) (tracks : List Track) (files : List AttachedFile) (chapters tags : Option Node)
        → and_then (first_tree INFO bytes segment) good_info ≡ Ok info → and_then (first_tree TRACKS bytes segment) (good_tracks segment) ≡ Ok tracks → first_attached bytes segment ≡ Ok files
        → first_tree CHAPTERS bytes segment ≡ Ok chapters → first_tree TAGS bytes segment ≡ Ok tags
        → file_records bytes segment ≡ Ok (record { info = info; tracks = tracks; attachments = files; chapters = chapters; tags = tags })
    whole bytes segment info tracks files chapters tags a b c x y = rw (a, b, c, x, y) refl
