-- The blocks of an input are the same if a track gets its own timestamps.
use Rattle.std.proofs.Common.{◌≡◌, ◌<◌, ℕ, ◌^◌, ◌==◌, Bool, true, false, if◌then◌else◌, List, [], ◌∷◌, ◌++◌, length, map, Option, Some, None, IfSome, unwrap_or, Ok, inl, inr, ◌⊎◌, eqb-true, refl, sym, ap, ap₂, subst, ◌∙◌, arith}
use Rattle.std.specs.List.{All, slice_get}
use Rattle.std.specs.Option.{option_map}
use Rattle.std.proofs.lemmas.List.{length-map}
use Rattle.std.proofs.lemmas.List.Elements.{All-head, All-tail, All-weaker}
use Rattle.std.proofs.lemmas.Option.{slice_get-map, slice_get_within}
use Rattle.ebml_numbers.specs.Number.{AreOctets}
use Rattle.mkv_schema.specs.declared.element.Header.{Header}
use Rattle.tree_format.specs.Node.{Node}
use Rattle.block_format.specs.Block.{Block}
use Rattle.block_format.specs.Elements.{with_limits}
use Rattle.block_format.specs.Events.{Event, blocks_of, events_of}
use Rattle.output_laws.specs.Blocks.{IsSmall}
use Rattle.output_laws.proofs.SmallLemmas.{all-small}
use Rattle.file_format.specs.Entry.{default_duration_of, number_of}
use Rattle.file_format.specs.FileBlocks.{file_events}
use Rattle.file_format.specs.Info.{file_scale}
use Rattle.track_records.specs.declared.track.Track.{Track}
use Rattle.meta_records.specs.Records.{FileRecords, scale_of_info}
use Rattle.meta_records.proofs.RecordsLemmas.{file_records-scale}
use Rattle.extractors.specs.Job.{output_with}
use Rattle.extractors.specs.Source.{entry_in}
use Rattle.ext_times.specs.Listing.{Listing, listing}
use Rattle.merge_model.specs.FileLinks.{timed_given}
use Rattle.merge_model.specs.Links.{Given, track_given}
use Rattle.merge_model.specs.Timed.{timed}
use Rattle.times_laws.specs.Given.{IsTimedBlock, of_track}
use Rattle.times_laws.proofs.BlocksLemmas.{nothing_changes}
use Rattle.requests.specs.declared.merge.FileWords.{FileWords}
use Rattle.merge_inputs.specs.Input.{BlocksRead, Clusters, InputRead, input_of}
use Rattle.merge_inputs.specs.Taken.{taken_from, value_for}
use Rattle.merge_inputs.specs.declared.taken.TakenTrack.{TakenTrack}
use Rattle.merge_plan.specs.Plan.{given_for, given_from, placing_for}
use Rattle.times_laws.proofs.ExtractLemmas.{ListsTimes, times_coding}
use Rattle.times_laws.proofs.ReadLemmas.{IsReadAs, IsSaid, StandsAt, at-place, input-read, taken-stand, tracks-said}

-- ---- value for an ID

-- With one more pair the value for an ID is the same; or there was none, and it is the pair's value.
value-more : {T : Type 0} (k id : ℕ) (x : T) (before behind : List (ℕ × T)) → value_for id behind ≡ None
    → (value_for k (before ++ (id, x) ∷ behind) ≡ value_for k (before ++ behind))
    ⊎ ((value_for k (before ++ behind) ≡ None) × ((value_for k (before ++ (id, x) ∷ behind) ≡ Some x) × (id ≡ k)))
value-more {T = T} k id x [] behind none = by_key (id == k) refl
  where
    by_key : (b : Bool) → (id == k) ≡ b → ((if b then Some x else value_for k behind) ≡ value_for k behind) ⊎ ((value_for k behind ≡ None) × (((if b then Some x else value_for k behind) ≡ Some x) × (id ≡ k)))
    by_key true is = let same : id ≡ k = eqb-true id k is in inr (subst (λ (n : ℕ). value_for n behind ≡ None) same none, (refl, same))
    by_key false is = inl refl
value-more {T = T} k id x (p ∷ ps) behind none = by_key (p.0 == k) (value-more k id x ps behind none)
  where
    by_key : (b : Bool) → (value_for k (ps ++ (id, x) ∷ behind) ≡ value_for k (ps ++ behind)) ⊎ ((value_for k (ps ++ behind) ≡ None) × ((value_for k (ps ++ (id, x) ∷ behind) ≡ Some x) × (id ≡ k)))
        → ((if b then Some p.1 else value_for k (ps ++ (id, x) ∷ behind)) ≡ (if b then Some p.1 else value_for k (ps ++ behind)))
        ⊎ (((if b then Some p.1 else value_for k (ps ++ behind)) ≡ None) × (((if b then Some p.1 else value_for k (ps ++ (id, x) ∷ behind)) ≡ Some x) × (id ≡ k)))
    by_key true rest = inl refl
    by_key false rest = rest

-- ---- the blocks of a file

small-timed : (b : Block) → IsSmall b → IsTimedBlock b
small-timed b is =
    let count = length-map b.frames (λ (frame : List ℕ). length frame) in
    let some = is.frames.some in
    let most = is.frames.most in
    record { some = omega arith; most = omega arith; small = is.time }

file-timed : (bytes : List ℕ) (segment : Header) → AreOctets bytes → All IsTimedBlock (blocks_of (file_events true bytes segment))
file-timed bytes segment octets = All-weaker IsSmall IsTimedBlock small-timed (blocks_of (file_events true bytes segment)) (all-small (file_scale bytes segment) bytes segment octets)

short : (duration : Option ℕ) → IfSome duration (λ d. d < 2 ^ 48) → unwrap_or duration 0 < 2 ^ 48
short None is = omega arith
short (Some d) is = is

-- ---- given timestamps

-- The timestamps that `content` lists leave the blocks unchanged.
pub record ListsOwn (content : List ℕ) (number : ℕ) (blocks : List Block) : Type 0 where
  pub times : Listing
  pub read : listing content ≡ Ok times
  pub same : timed (Some times) 0 (of_track number blocks) ≡ of_track number blocks

some-same : {X : Type 0} (a b : X) → Some a ≡ Some b → a ≡ b
some-same a b is = cc

module _ (bytes content : List ℕ) (id : ℕ) (octets : AreOctets bytes) (w : ListsTimes bytes id content) where
  -- The track that was extracted.
  pub record Extracted : Type 0 where
    pub track : Track
    pub found : slice_get w.records.tracks id ≡ Some track
    pub same : track.entry ≡ w.entry
    pub said : IsSaid track

  pub extracted-track : Extracted
  extracted-track = by_place (slice_get w.records.tracks id) refl
    where
      by_place : (o : Option Track) → slice_get w.records.tracks id ≡ o → Extracted
      by_place None is = let none = sym w.found ∙ slice_get-map entry_in w.records.tracks id ∙ ap (option_map entry_in) is in absurd (cc)
      by_place (Some t) is =
          let some : Some w.entry ≡ Some t.entry = sym w.found ∙ slice_get-map entry_in w.records.tracks id ∙ ap (option_map entry_in) is in
          record {
            track = t;
            found = is;
            same = sym (some-same w.entry t.entry some);
            said = at-place IsSaid w.records.tracks id t (tracks-said bytes w.outline.segment w.records w.read) is;
          }

  blocks : List Block
  blocks = blocks_of (file_events true bytes w.outline.segment)

  pub lists-own : ListsOwn content (number_of w.entry) (blocks_of (file_events true bytes w.outline.segment))
  lists-own =
      let x = extracted-track in
      let lasts : IfSome (default_duration_of w.entry) (λ d. d < 2 ^ 48) = subst (λ (entry : Node). IfSome (default_duration_of entry) (λ d. d < 2 ^ 48)) x.same x.said.duration in
      let own = nothing_changes (output_with w.name w.entry times_coding) (blocks_of (file_events true bytes w.outline.segment))
      (record { head = refl; form = refl; step = short (default_duration_of w.entry) lasts }) (file-timed bytes w.outline.segment octets) in
      record { times = own.times; read = ap listing (sym w.written) ∙ own.read; same = own.same }

-- ---- blocks of a track

module _ (id : ℕ) (times : Listing) (bytes : List ℕ) (segment : Header) (r : FileRecords) (track : Track) where
  -- the events of the file
  abbrev events : List Event
  events = events_of (with_limits (scale_of_info r.info)) bytes segment

  -- The blocks with and without the listed timestamps.
  module _ (before behind : List (ℕ × Listing)) (shift : ℕ) where
    abbrev more : List (ℕ × Listing)
    more = before ++ (id, times) ∷ behind

    abbrev fewer : List (ℕ × Listing)
    fewer = before ++ behind

    given-one : timed (Some times) 0 (of_track track.number (blocks_of events)) ≡ of_track track.number (blocks_of events) → slice_get r.tracks id ≡ Some track → value_for id behind ≡ None
        → (t : TakenTrack) → StandsAt r.tracks t → given_for more shift events t ≡ given_for fewer shift events t
    given-one same found none t stands = by_value (value-more t.id id times before behind none)
      where
        own : ℕ → Given
        own number = track_given (placing_for shift t) number events

        by_value : (value_for t.id more ≡ value_for t.id fewer) ⊎ ((value_for t.id fewer ≡ None) × ((value_for t.id more ≡ Some times) × (id ≡ t.id)))
            → timed_given (value_for t.id more) 0 (own t.track.number) ≡ timed_given (value_for t.id fewer) 0 (own t.track.number)
        by_value (inl is) = ap (λ (o : Option Listing). timed_given o 0 (own t.track.number)) is
        by_value (inr is) =
            let one : track.number ≡ t.track.number = some-same track.number t.track.number (ap (option_map (λ (k : Track). k.number)) (sym found ∙ ap (slice_get r.tracks) is.1.1) ∙ stands) in
            let given : timed_given (Some times) 0 (own track.number) ≡ timed_given None 0 (own track.number) = ap (λ (bs : List Block). record (own track.number) { blocks = bs }) same in
            ap (λ (o : Option Listing). timed_given o 0 (own t.track.number)) is.1.0
            ∙ subst (λ (number : ℕ). timed_given (Some times) 0 (own number) ≡ timed_given None 0 (own number)) one given
            ∙ ap (λ (o : Option Listing). timed_given o 0 (own t.track.number)) (sym is.0)

    given-all : (taken : List TakenTrack) → ((t : TakenTrack) → StandsAt r.tracks t → given_for more shift events t ≡ given_for fewer shift events t) → All (StandsAt r.tracks) taken
        → map (given_for more shift events) taken ≡ map (given_for fewer shift events) taken
    given-all [] one stand = refl
    given-all (t ∷ ts) one stand =
        ap₂ (λ (g : Given) (gs : List Given). g ∷ gs) (one t (All-head (StandsAt r.tracks) t ts stand)) (given-all ts one (All-tail (StandsAt r.tracks) t ts stand))

-- ---- blocks of an input

-- The input has a track `id`, and gives the same blocks to its output tracks if `times` are listed for it besides.
pub record GivesTheSame (id : ℕ) (times : Listing) (bytes : List ℕ) (i : InputRead) : Type 0 where
  pub there : id < i.count
  pub given : (before behind : List (ℕ × Listing)) (shift : ℕ) → value_for id behind ≡ None
      → map (given_from (before ++ (id, times) ∷ behind) shift i.blocks bytes) i.taken ≡ map (given_from (before ++ behind) shift i.blocks bytes) i.taken

-- `content` has a listing for the track `id` of the file `bytes`. An input that is read from the file gives the same blocks with it.
pub record GivesBack (bytes content : List ℕ) (id : ℕ) : Type 0 where
  pub times : Listing
  pub read : listing content ≡ Ok times
  pub same : (words : FileWords) (webm : Bool) (held : ℕ) (i : InputRead) → input_of words webm held bytes ≡ Ok i → GivesTheSame id times bytes i

module _ (bytes content : List ℕ) (id : ℕ) (octets : AreOctets bytes) (w : ListsTimes bytes id content) where
  -- the blocks of the file, as a merge reads them
  abbrev merged : List Block
  merged = blocks_of (events_of (with_limits (scale_of_info w.records.info)) bytes w.outline.segment)

  -- If the listed timestamps leave the blocks of the track unchanged, an input that is read from the file gives the same blocks.
  whole : (times : Listing) (x : Extracted bytes content id octets w) → timed (Some times) 0 (of_track x.track.number merged) ≡ of_track x.track.number merged
      → (words : FileWords) (i : InputRead) → IsReadAs words w.outline.segment w.records i → GivesTheSame id times bytes i
  whole times x same words i is =
      let inside = slice_get_within w.records.tracks id x.track x.found in
      let count = is.count in
      record {
        there = omega arith;
        given = λ before behind shift none.
            subst (λ (b : BlocksRead). map (given_from (before ++ (id, times) ∷ behind) shift b bytes) i.taken ≡ map (given_from (before ++ behind) shift b bytes) i.taken) (sym is.blocks)
            (subst (λ (ts : List TakenTrack). map (given_from (before ++ (id, times) ∷ behind) shift (Clusters w.outline.segment (scale_of_info w.records.info)) bytes) ts ≡ map (given_from (before ++ behind) shift (Clusters w.outline.segment (scale_of_info w.records.info)) bytes) ts) (sym is.taken)
            (given-all id times bytes w.outline.segment w.records x.track before behind shift (taken_from words 0 w.records.tracks)
            (given-one id times bytes w.outline.segment w.records x.track before behind shift same x.found none) (taken-stand words w.records.tracks)));
      }

  pub gives-back : GivesBack bytes content id
  gives-back =
      let x = extracted-track bytes content id octets w in
      let own = lists-own bytes content id octets w in
      let scale : scale_of_info w.records.info ≡ file_scale bytes w.outline.segment = file_records-scale bytes w.outline.segment w.records w.read in
      let number : x.track.number ≡ number_of w.entry = x.said.number ∙ ap number_of x.same in
      let blocks : merged ≡ blocks_of (file_events true bytes w.outline.segment) = ap (λ (n : ℕ). blocks_of (events_of (with_limits n) bytes w.outline.segment)) scale in
      let same : timed (Some own.times) 0 (of_track x.track.number merged) ≡ of_track x.track.number merged =
      subst (λ (bs : List Block). timed (Some own.times) 0 (of_track x.track.number bs) ≡ of_track x.track.number bs) (sym blocks)
      (subst (λ (n : ℕ). timed (Some own.times) 0 (of_track n (blocks_of (file_events true bytes w.outline.segment))) ≡ of_track n (blocks_of (file_events true bytes w.outline.segment))) (sym number) own.same) in
      record {
        times = own.times;
        read = own.read;
        same = λ words webm held i is. whole own.times x same words i (input-read words webm held bytes w.outline w.records i w.outlined w.read is);
      }
