-- The output tracks of an output are merged again as they were.
use Rattle.std.proofs.Common.{◌≡◌, ℕ, ◌+◌, ◌==◌, Bool, true, false, ◌||◌, if◌then◌else◌, ℤ, pos, List, [], ◌∷◌, ◌++◌, length, map, filter, flat_map, find, zip, All, Option, None, Some, refl, sym, ap, ap₂, subst, ◌∙◌, append-nil, suc, arith}
use Rattle.std.specs.Prelude.{◌&&◌, is_some, not}
use Rattle.std.specs.Option.{option_map_or, unwrap_or}
use Rattle.std.proofs.lemmas.List.Elements.{All-append, All-cons, All-head, All-nil, All-tail}
use Rattle.mkv_io.specs.declared.damage.Damage.{Damage}
use Rattle.mkv_schema.specs.declared.element.Header.{Header}
use Rattle.block_format.specs.Block.{Block}
use Rattle.block_format.specs.Elements.{with_limits}
use Rattle.block_format.specs.Events.{Event, blocks_of, damages_of, events_of, last_of}
use Rattle.file_format.specs.Info.{scale_of}
use Rattle.output_model.specs.Document.{Document, layout}
use Rattle.output_model.specs.OutputBlock.{OutputBlock}
use Rattle.output_model.specs.Sound.{CountFrom}
use Rattle.output_laws.specs.Lanes.{as_it_stands, lanes_read}
use Rattle.output_laws.specs.Merges.{LanesAreReadAgain}
use Rattle.output_laws.specs.Places.{block_events}
use Rattle.output_laws.specs.Reading.{blocks_of_document, header_of_segment}
use Rattle.output_laws.proofs.LayoutLemmas.{layout-read}
use Rattle.merge_model.specs.Lanes.{lane_blocks, lane_damages}
use Rattle.merge_model.specs.Links.{Given, Placing, delayed, going_on, placed, placed_at, track_given}
use Rattle.ext_times.specs.Listing.{Listing}
use Rattle.merge_inputs.specs.Input.{BlocksRead, Clusters, InputRead, events_by}
use Rattle.merge_inputs.specs.declared.taken.TakenTrack.{TakenTrack}
use Rattle.merge_plan.specs.Chains.{columns_from}
use Rattle.merge_plan.specs.Records.{keys_from}
use Rattle.merge_plan.proofs.OrderLemmas.{in_order-all, in_order-map}
use Rattle.requests.specs.declared.merge.MergeWords.{MergeWords}
use Rattle.merge_plan.specs.Plan.{Source, given_from, inputs_taken, lanes_given, lanes_taken}
use Rattle.merge_plan.specs.Front.{reads_of}
use Rattle.mkv_io.specs.Lists.{is_some_of}
use Rattle.mkv_merge.specs.Merge.{has_damage, links_met}
use Rattle.remerge_laws.specs.AgainLanes.{IsReadOfOutput, IsTakenPlain, LanesAreMergedAgain}

-- ---- one source

-- Each of its tracks is one output track.
columns-alone : (place : ℕ) (row : List Given) → columns_from place row [] ≡ map (λ (g : Given). g ∷ []) row
columns-alone place [] = refl
columns-alone place (g ∷ row) = ap (λ (more : List (List Given)). (g ∷ []) ∷ more) (columns-alone (place + 1) row)

-- the blocks of the tracks, without an append offset or timestamp files
abbrev plain_given : Header → ℕ → List ℕ → List TakenTrack → List Given
plain_given segment scale bytes taken = map (given_from [] 0 (Clusters segment scale) bytes) taken

given-alone : (bytes : List ℕ) (segment : Header) (scale : ℕ) (again : InputRead) → again.blocks ≡ Clusters segment scale → again.shift ≡ None → again.times ≡ []
    → lanes_given ((bytes, again) ∷ []) ≡ map (λ (g : Given). g ∷ []) (plain_given segment scale bytes again.taken)
given-alone bytes segment scale again blocks alone times =
    ap (λ (shift : Option ℕ). (if is_some shift then [] else columns_from 0 (map (given_from again.times (unwrap_or shift 0) again.blocks bytes) again.taken) []) ++ []) alone
    ∙ append-nil (columns_from 0 (map (given_from again.times 0 again.blocks bytes) again.taken) [])
    ∙ columns-alone 0 (map (given_from again.times 0 again.blocks bytes) again.taken)
    ∙ ap₂ (λ (ts : List (ℕ × Listing)) (bs : BlocksRead). map (λ (g : Given). g ∷ []) (map (given_from ts 0 bs bytes) again.taken)) times blocks

-- ---- its output tracks

-- the placing without a delay, append offset or prefix, with any default duration
abbrev plainly : Option ℕ → Placing
plainly lasts = record { delay = pos 0; shift = 0; default_duration = lasts; prefix = [] }

placed-plain : (scale : ℕ) (lasts : Option ℕ) (b : Block) → placed scale (plainly lasts) b ≡ placed scale as_it_stands b
placed-plain scale lasts b = of (delayed as_it_stands b)
  where
    of : (o : Option ℕ) → placed_at scale (plainly lasts) b o ≡ placed_at scale as_it_stands b o
    of None = refl
    of (Some t) = refl

all-plain : (scale : ℕ) (lasts : Option ℕ) (bs : List Block) → flat_map (placed scale (plainly lasts)) bs ≡ flat_map (placed scale as_it_stands) bs
all-plain scale lasts [] = refl
all-plain scale lasts (b ∷ bs) = ap₂ (λ (a c : List OutputBlock). a ++ c) (placed-plain scale lasts b) (all-plain scale lasts bs)

module _ (out : ℕ) (segment : Header) (scale : ℕ) (bytes : List ℕ) where
  abbrev events : List Event
  events = events_of (with_limits scale) bytes segment

  -- the blocks of the track with a number, with its own timestamps
  abbrev lane_with : ℤ → List ℕ → Option ℕ → ℕ → List OutputBlock
  lane_with delay prefix lasts number =
      flat_map (placed out (record { delay = delay; shift = 0; default_duration = lasts; prefix = prefix })) (filter (λ (b : Block). b.track == number) (blocks_of events))
      ++ (if is_some (last_of events) then [] else [])

  lane-plain : (number : ℕ) (t : TakenTrack) → t.track.number ≡ number → IsTakenPlain t
      → lane_blocks out (given_from [] 0 (Clusters segment scale) bytes t ∷ []) ≡ lane_blocks out (track_given as_it_stands number events ∷ [])
  lane-plain number t is plain =
      ap₂ (λ (delay : ℤ) (prefix : List ℕ). lane_with delay prefix t.track.default_duration t.track.number) plain.undelayed plain.prefix
      ∙ ap (lane_with (pos 0) [] t.track.default_duration) is
      ∙ ap (λ (bs : List OutputBlock). bs ++ (if is_some (last_of events) then [] else [])) (all-plain out t.track.default_duration (filter (λ (b : Block). b.track == number) (blocks_of events)))

  lanes-plain : (n : ℕ) (taken : List TakenTrack) → CountFrom n (map (λ (t : TakenTrack). t.track.number) taken) → All IsTakenPlain taken
      → map (lane_blocks out) (map (λ (g : Given). g ∷ []) (plain_given segment scale bytes taken)) ≡ lanes_read out n (length taken) events
  lanes-plain n [] count plain = refl
  lanes-plain n (t ∷ taken) count plain =
      let next : n + 1 ≡ suc n = omega arith in
      ap₂ (λ (lane : List OutputBlock) lanes. lane ∷ lanes) (lane-plain n t count.0 (All-head IsTakenPlain t taken plain))
      (lanes-plain (n + 1) taken count.1 (All-tail IsTakenPlain t taken plain) ∙ ap (λ (k : ℕ). lanes_read out k (length taken) events) next)

-- ---- damage

abbrev IsEmpty : List Damage → Type 0
IsEmpty ds = ds ≡ []

abbrev IsWhole : ℕ × List Damage → Type 0
IsWhole link = IsEmpty link.1

zip-whole : (ns : List ℕ) (ds : List (List Damage)) → All IsEmpty ds → All IsWhole (zip ns ds)
zip-whole [] ds none = All-nil IsWhole
zip-whole (n ∷ ns) [] none = All-nil IsWhole
zip-whole (n ∷ ns) (d ∷ ds) none = All-cons IsWhole (n, d) (zip ns ds) (All-head IsEmpty d ds none) (zip-whole ns ds (All-tail IsEmpty d ds none))

abbrev IsUndamaged : List Given → Type 0
IsUndamaged gs = All IsEmpty (lane_damages gs)

links-whole : (numbers : List (List ℕ)) (given : List (List Given)) → All IsUndamaged given → All IsWhole (links_met numbers given)
links-whole [] given none = All-nil IsWhole
links-whole (ns ∷ numbers) [] none = All-nil IsWhole
links-whole (ns ∷ numbers) (gs ∷ given) none =
    All-append IsWhole (zip ns (lane_damages gs)) (links_met numbers given) (zip-whole ns (lane_damages gs) (All-head IsUndamaged gs given none))
    (links-whole numbers given (All-tail IsUndamaged gs given none))

found-whole : (p : ℕ × List Damage → Bool) (links : List (ℕ × List Damage)) → All IsWhole links → option_map_or (λ (link : ℕ × List Damage). link.1) (find p links) [] ≡ []
found-whole p [] whole = refl
found-whole p (link ∷ links) whole = of (p link) (found-whole p links (All-tail IsWhole link links whole))
  where
    of : (t : Bool) → option_map_or (λ (l : ℕ × List Damage). l.1) (find p links) [] ≡ [] → option_map_or (λ (l : ℕ × List Damage). l.1) (if t then Some link else find p links) [] ≡ []
    of true rest = All-head IsWhole link links whole
    of false rest = rest

no-damages : (bs : List Block) → damages_of (block_events bs) ≡ []
no-damages [] = refl
no-damages (b ∷ bs) = no-damages bs

given-undamaged : (b : Bool) (segment : Header) (scale : ℕ) (bytes : List ℕ) (taken : List TakenTrack) → damages_of (events_of (with_limits scale) bytes segment) ≡ []
    → All IsUndamaged (map (map (going_on b)) (map (λ (g : Given). g ∷ []) (plain_given segment scale bytes taken)))
given-undamaged b segment scale bytes [] none = All-nil IsUndamaged
given-undamaged b segment scale bytes (t ∷ taken) none =
    let g : Given = given_from [] 0 (Clusters segment scale) bytes t in
    All-cons IsUndamaged (going_on b g ∷ []) (map (map (going_on b)) (map (λ (h : Given). h ∷ []) (plain_given segment scale bytes taken))) (one (not b && is_some (last_of (events_of (with_limits scale) bytes segment))))
    (given-undamaged b segment scale bytes taken none)
  where
    one : (t : Bool) → All IsEmpty (damages_of (events_of (with_limits scale) bytes segment) ∷ (if t then [] else []))
    one true = All-cons IsEmpty (damages_of (events_of (with_limits scale) bytes segment)) [] none (All-nil IsEmpty)
    one false = All-cons IsEmpty (damages_of (events_of (with_limits scale) bytes segment)) [] none (All-nil IsEmpty)

-- ---- an output

module _ (d : Document) (again : InputRead) (is : IsReadOfOutput d again) where
  abbrev own_scale : ℕ
  own_scale = scale_of d.front.info

  own-events : events_of (with_limits own_scale) (layout d) (header_of_segment d) ≡ block_events (blocks_of_document d)
  own-events = sym (ap (λ (bs : BlocksRead). events_by bs (layout d)) is.blocks) ∙ is.events

  own-given : lanes_given ((layout d, again) ∷ []) ≡ map (λ (g : Given). g ∷ []) (plain_given (header_of_segment d) own_scale (layout d) again.taken)
  own-given = given-alone (layout d) (header_of_segment d) own_scale again is.blocks is.alone is.times

  all-undamaged : (words : MergeWords) → All IsUndamaged (lanes_taken words ((layout d, again) ∷ []))
  all-undamaged words =
      let keys : List (ℕ × ℕ) = keys_from 0 (again ∷ []) in
      let lanes : List (List Given) = lanes_given ((layout d, again) ∷ []) in
      let each : All IsUndamaged (map (map (going_on words.append_damaged)) lanes) =
      subst (λ (gss : List (List Given)). All IsUndamaged (map (map (going_on words.append_damaged)) gss)) (sym own-given)
      (given-undamaged words.append_damaged (header_of_segment d) own_scale (layout d) again.taken (ap damages_of own-events ∙ no-damages (blocks_of_document d))) in
      subst (All IsUndamaged) (sym (in_order-map (map (going_on words.append_damaged)) words.order keys lanes))
      (in_order-all IsUndamaged words.order keys (map (map (going_on words.append_damaged)) lanes) each)

  none-damaged : (words : MergeWords) → has_damage words ((layout d, again) ∷ []) ≡ false
  none-damaged words =
      let sources : List Source = (layout d, again) ∷ [] in
      ap (λ (ds : List Damage). is_some_of ds || false)
      (found-whole (λ (link : ℕ × List Damage). link.0 == 0) (links_met (inputs_taken words.order (reads_of sources)) (lanes_taken words sources))
      (links-whole (inputs_taken words.order (reads_of sources)) (lanes_taken words sources) (all-undamaged words)))

pub lanes-merged : LanesAreReadAgain → LanesAreMergedAgain
lanes-merged stay = record {
  lanes = λ d limits lanes again sound cut none long is.
      let scale : ℕ = scale_of d.front.info in
      let segment : Header = header_of_segment d in
      ap (map (lane_blocks scale)) (own-given d again is)
      ∙ lanes-plain scale segment scale (layout d) 1 again.taken is.numbers is.plain
      ∙ ap₂ (λ (n : ℕ) (es : List Event). lanes_read scale 1 n es) long (own-events d again is ∙ sym (layout-read d sound).events)
      ∙ stay d limits lanes sound cut none;
  undamaged = λ words d again is. none-damaged d again is words;
}
