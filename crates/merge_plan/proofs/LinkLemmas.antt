-- The links of an input's tracks.
use Rattle.std.proofs.Common.{◌≡◌, false, ◌≤◌, ◌<◌, ℕ, ◌^◌, List, map, Option, Some, None, IfSome, refl, sym, ap, subst, ◌∙◌, arith}
use Rattle.std.specs.Bool.{⊤}
use Rattle.std.specs.List.{All}
use Rattle.std.proofs.lemmas.List.Elements.{All-weaker}
use Rattle.mkv_io.specs.declared.outside.FileId.{FileId}
use Rattle.mkv_io.specs.LiveFiles.{LiveFiles}
use Rattle.element_reader.specs.Outline.{FileOutline}
use Rattle.track_records.specs.declared.track.Track.{Track as TrackSeen}
use Rattle.merge_model.specs.FileLinks.{given_in, octets_in, IsOpenLink, IsToldLink}
use Rattle.merge_model.specs.declared.link.Link.{Link}
use Rattle.merge_model.specs.declared.link.Link.TheVariants.{Track, Entries}
use Rattle.merge_model.specs.declared.link.TrackLink.{TrackLink}
use Rattle.lanes.specs.Ends.{IsTimed}
use Rattle.lanes.specs.Survey.{AreOfOneFile, IsOfFile, first_track, length_of, surveyed_length}
use Rattle.lanes.proofs.SurveyLemmas.{first-all}
use Rattle.merge_inputs.specs.Input.{IsInput, blocks_in, read_in}
use Rattle.merge_inputs.specs.Taken.{IsTaken}
use Rattle.merge_inputs.specs.declared.input.Blocks.{Blocks}
use Rattle.merge_inputs.specs.declared.input.Blocks.TheVariants as held_by
use Rattle.merge_inputs.specs.declared.input.Input.{Input}
use Rattle.merge_inputs.specs.declared.taken.TakenTrack.{TakenTrack}
use Rattle.merge_plan.specs.Plan.{given_from, given_of, append_offset}
use Rattle.merge_plan.specs.Planned.{IsToldInput, source_in}
use Rattle.merge_plan.specs.TakenTracks.{AreLinksOf, HasPlace, HasTaken, IsLink, IsLinkBy, IsShortText}
use Rattle.merge_plan.proofs.PlanLemmas.{link-given, link-open, link-small, link-told, zip-all, zip-map}
use Rattle.merge_plan.specs.Behind.{walked_in, walked_of}

-- ---- one link

-- The times of a link keep their limits.
link-timed : (i : Input) (t : TakenTrack) (blocks : Blocks) (link : Link) → IsLinkBy false i blocks t link → HasPlace i → IsTaken t → IsShortText blocks → IsTimed link
link-timed i t (held_by.Clusters outline scale) (Track link) is place taken short =
    let small = link-small false i t (held_by.Clusters outline scale) (Track link) is taken place short in
    record {
      moves = small.moves;
      default = subst (λ (o : Option ℕ). IfSome o (λ d. d < 2 ^ 48)) (sym (is.default_duration ∙ ap (λ (track : TrackSeen). track.default_duration) taken.said)) taken.track.duration;
    }
link-timed i t (held_by.Clusters outline scale) (Entries text) is place taken short = absurd is
link-timed i t (held_by.Entries entries) (Track link) is place taken short = absurd is
link-timed i t (held_by.Entries entries) (Entries text) is place taken short = link-small false i t (held_by.Entries entries) (Entries text) is taken place short

-- The link is a track of the input's file, with the outline that was read.
record IsTrackOf (i : Input) (read : FileOutline) (nanoseconds : ℕ) (link : TrackLink) : Type 0 where
  file : link.file ≡ i.file
  segment : link.outline.value.segment ≡ read.segment
  scale : link.scale ≡ nanoseconds

abbrev IsOfInput : Input → Blocks → Link → Type 0
IsOfInput i (held_by.Clusters outline scale) (Track link) = IsTrackOf i outline.value scale link
IsOfInput i (held_by.Clusters outline scale) (Entries text) = ⊥
IsOfInput i (held_by.Entries entries) (Track link) = ⊥
IsOfInput i (held_by.Entries entries) (Entries text) = ⊤

link-own : (i : Input) (t : TakenTrack) (blocks : Blocks) (link : Link) → IsLinkBy false i blocks t link → IsOfInput i blocks link
link-own i t (held_by.Clusters outline scale) (Track link) is = record { file = is.file; segment = ap (λ (o : FileOutline). o.segment) is.outline; scale = is.scale }
link-own i t (held_by.Clusters outline scale) (Entries text) is = is
link-own i t (held_by.Entries entries) (Track link) is = is
link-own i t (held_by.Entries entries) (Entries text) is = tt

-- All tracks of an input are in one file.
link-same : (i : Input) (blocks : Blocks) (t : TrackLink) → IsOfInput i blocks (Track t) → (link : Link) → IsOfInput i blocks link → IsOfFile t link
link-same i (held_by.Clusters outline scale) t is (Track other) also = record {
  file = also.file ∙ sym is.file;
  segment = also.segment ∙ sym is.segment;
  scale = also.scale ∙ sym is.scale;
}
link-same i (held_by.Clusters outline scale) t is (Entries text) also = tt
link-same i (held_by.Entries entries) t is link also = absurd is

-- This file is walked over.
link-length : (f : LiveFiles) (i : Input) (blocks : Blocks) (t : TrackLink) → IsOfInput i blocks (Track t) → f.size t.file.n ≤ walked_in blocks (f.size i.file.n)
link-length f i (held_by.Clusters outline scale) t is = omega (arith, ap (λ (file : FileId). f.size file.n) is.file)
link-length f i (held_by.Entries entries) t is = absurd is

-- ---- all links of an input

module _ (i : Input) (links : List Link) (are : AreLinksOf i links) (has : HasTaken i) where
  -- A property holds for each link if it follows from the link's track.
  each-link : (P : Link → Type 0) → ((t : TakenTrack) (link : Link) → IsTaken t → IsLink false i t link → P link) → All P links
  each-link P so = zip-all (IsLink false i) IsTaken P so i.taken links has.taken are

  pub links-open : (f : LiveFiles) → IsInput f i → All (IsOpenLink f) links
  links-open f good = each-link (IsOpenLink f) (λ t link taken is. link-open false i t f i.blocks link is good.live good.blocks)

  pub links-told : (f : LiveFiles) → IsToldInput f i → All (IsToldLink f) links
  links-told f told = each-link (IsToldLink f) (λ t link taken is. link-told false i t f i.blocks link is told)

  pub links-timed : HasPlace i → All IsTimed links
  links-timed place = each-link IsTimed (λ t link taken is. link-timed i t i.blocks link is place taken has.text)

  links-own : All (IsOfInput i i.blocks) links
  links-own = each-link (IsOfInput i i.blocks) (λ t link taken is. link-own i t i.blocks link is)

  pub links-one : AreOfOneFile links
  links-one = λ t first. All-weaker (IsOfInput i i.blocks) (IsOfFile t) (link-same i i.blocks t (first-all (IsOfInput i i.blocks) links t first links-own)) links links-own

  -- A walk over the file reads at most its length, and a text isn't walked over.
  pub links-length : (f : LiveFiles) → surveyed_length f links ≤ walked_of f i
  links-length f = split (first_track links) refl
    where
      split : (o : Option TrackLink) → first_track links ≡ o → length_of f o ≤ walked_of f i
      split None is = omega arith
      split (Some t) is = link-length f i i.blocks t (first-all (IsOfInput i i.blocks) links t is links-own)

  -- The blocks of the links are the blocks of the input.
  pub links-given : (f : LiveFiles) → map (given_in f) links ≡ given_of (source_in f i)
  links-given f = zip-map (IsLink false i) (given_in f) (given_from (read_in i).times (append_offset (read_in i)) (blocks_in i.blocks) (octets_in f i.file.n)) (λ t link is. link-given false i t f i.blocks link is) i.taken links are
