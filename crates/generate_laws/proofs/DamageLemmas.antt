-- Sources without damage give no warning.
use Rattle.std.specs.List.{All}
use Rattle.std.specs.Option.{option_map_or}
use Rattle.std.proofs.Common.{◌≡◌, ℕ, ◌==◌, Bool, true, false, if◌then◌else◌, List, [], ◌∷◌, map, find, zip, Some, refl, sym, ap, subst, ◌∙◌}
use Rattle.std.proofs.lemmas.List.Elements.{All-append, All-cons, All-head, All-map, All-nil, All-tail, All-weaker}
use Rattle.mkv_io.specs.declared.damage.Damage.{Damage}
use Rattle.mkv_schema.specs.declared.element.Header.{Header}
use Rattle.file_format.specs.Info.{scale_of}
use Rattle.block_format.specs.Elements.{with_limits}
use Rattle.block_format.specs.Block.{Block}
use Rattle.block_format.specs.Events.{damages_of, events_of}
use Rattle.output_model.specs.Document.{Document, layout}
use Rattle.merge_model.specs.Lanes.{lane_damages}
use Rattle.merge_model.specs.Links.{Given, going_on}
use Rattle.output_laws.specs.Places.{block_events}
use Rattle.output_laws.specs.Reading.{blocks_of_document, header_of_segment}
use Rattle.ext_times.specs.Listing.{Listing}
use Rattle.requests.specs.declared.merge.MergeWords.{MergeWords}
use Rattle.merge_inputs.specs.declared.taken.TakenTrack.{TakenTrack}
use Rattle.merge_inputs.specs.Input.{InputRead, BlocksRead, Clusters, events_by}
use Rattle.merge_plan.specs.Front.{reads_of}
use Rattle.merge_plan.specs.Plan.{Source, given_from, given_of, append_offset, inputs_taken, lanes_given, lanes_ordered, lanes_taken}
use Rattle.merge_plan.specs.Records.{is_appended}
use Rattle.merge_plan.proofs.ChainLemmas.{lanes-all}
use Rattle.merge_plan.proofs.OrderedLemmas.{ordered-all}
use Rattle.mkv_merge.specs.Merge.{damages_met, links_met}
use Rattle.remerge_laws.specs.AgainLanes.{IsReadOfOutput}

abbrev IsEmpty : List Damage → Type 0
IsEmpty ds = ds ≡ []

-- The link has no damage.
abbrev IsWhole : ℕ × List Damage → Type 0
IsWhole link = IsEmpty link.1

abbrev IsUndamaged : Given → Type 0
IsUndamaged g = IsEmpty g.damages

-- ---- links

none-met : (gs : List Given) → All IsEmpty (map (λ (g : Given). []) gs)
none-met [] = All-nil IsEmpty
none-met (g ∷ gs) = All-cons IsEmpty [] (map (λ (h : Given). []) gs) refl (none-met gs)

lane-whole : (gs : List Given) → All IsUndamaged gs → All IsEmpty (lane_damages gs)
lane-whole [] none = All-nil IsEmpty
lane-whole (g ∷ gs) none = of g.stops (All-head IsUndamaged g gs none) (lane-whole gs (All-tail IsUndamaged g gs none))
  where
    of : (t : Bool) → IsUndamaged g → All IsEmpty (lane_damages gs) → All IsEmpty (g.damages ∷ (if t then map (λ (h : Given). []) gs else lane_damages gs))
    of true own rest = All-cons IsEmpty g.damages (map (λ (h : Given). []) gs) own (none-met gs)
    of false own rest = All-cons IsEmpty g.damages (lane_damages gs) own rest

zip-whole : (ns : List ℕ) (ds : List (List Damage)) → All IsEmpty ds → All IsWhole (zip ns ds)
zip-whole [] ds none = All-nil IsWhole
zip-whole (n ∷ ns) [] none = All-nil IsWhole
zip-whole (n ∷ ns) (d ∷ ds) none = All-cons IsWhole (n, d) (zip ns ds) (All-head IsEmpty d ds none) (zip-whole ns ds (All-tail IsEmpty d ds none))

links-whole : (numbers : List (List ℕ)) (given : List (List Given)) → All (All IsUndamaged) given → All IsWhole (links_met numbers given)
links-whole [] given none = All-nil IsWhole
links-whole (ns ∷ numbers) [] none = All-nil IsWhole
links-whole (ns ∷ numbers) (gs ∷ given) none =
    All-append IsWhole (zip ns (lane_damages gs)) (links_met numbers given) (zip-whole ns (lane_damages gs) (lane-whole gs (All-head (All IsUndamaged) gs given none)))
    (links-whole numbers given (All-tail (All IsUndamaged) gs given none))

found-whole : (p : ℕ × List Damage → Bool) (links : List (ℕ × List Damage)) → All IsWhole links → option_map_or (λ (link : ℕ × List Damage). link.1) (find p links) [] ≡ []
found-whole p [] whole = refl
found-whole p (link ∷ links) whole = of (p link) (found-whole p links (All-tail IsWhole link links whole))
  where
    of : (t : Bool) → option_map_or (λ (l : ℕ × List Damage). l.1) (find p links) [] ≡ [] → option_map_or (λ (l : ℕ × List Damage). l.1) (if t then Some link else find p links) [] ≡ []
    of true rest = All-head IsWhole link links whole
    of false rest = rest

-- An output track without damage has none either if it goes on after damage.
taken-whole : (b : Bool) (lanes : List (List Given)) → All (All IsUndamaged) lanes → All (All IsUndamaged) (map (map (going_on b)) lanes)
taken-whole b lanes none =
    All-map (All IsUndamaged) (map (going_on b)) lanes
    (All-weaker (All IsUndamaged) (λ (gs : List Given). All IsUndamaged (map (going_on b) gs)) (λ gs own. All-map IsUndamaged (going_on b) gs own) lanes none)

-- ---- sources

-- The tracks of a source are read without damage.
pub HasNoDamage : Source → Type 0
HasNoDamage s = All IsUndamaged (given_of s)

-- No damage is met in sources without damage.
pub none-damaged : (words : MergeWords) (sources : List Source) (k : ℕ) → All HasNoDamage sources → damages_met words sources k ≡ []
unfolding HasNoDamage
none-damaged words sources k none =
    found-whole (λ (link : ℕ × List Damage). link.0 == k) (links_met (inputs_taken words.order (reads_of sources)) (lanes_taken words sources))
    (links-whole (inputs_taken words.order (reads_of sources)) (lanes_taken words sources)
    (taken-whole words.append_damaged (lanes_ordered words.order sources)
    (ordered-all (All IsUndamaged) words.order (reads_of sources) (lanes_given sources) (lanes-all IsUndamaged (λ (s : Source). is_appended s.1) given_of HasNoDamage (λ s is. is) sources none))))

no-damages : (bs : List Block) → damages_of (block_events bs) ≡ []
no-damages [] = refl
no-damages (b ∷ bs) = no-damages bs

taken-undamaged : (segment : Header) (scale shift : ℕ) (bytes : List ℕ) (taken : List TakenTrack) → damages_of (events_of (with_limits scale) bytes segment) ≡ []
    → All IsUndamaged (map (given_from [] shift (Clusters segment scale) bytes) taken)
taken-undamaged segment scale shift bytes [] none = All-nil IsUndamaged
taken-undamaged segment scale shift bytes (t ∷ taken) none =
    All-cons IsUndamaged (given_from [] shift (Clusters segment scale) bytes t) (map (given_from [] shift (Clusters segment scale) bytes) taken) none (taken-undamaged segment scale shift bytes taken none)

-- An output that is read again has no damage.
pub output-undamaged : (d : Document) (again : InputRead) → IsReadOfOutput d again → HasNoDamage (layout d, again)
unfolding HasNoDamage
output-undamaged d again is =
    let segment : Header = header_of_segment d in
    let scale : ℕ = scale_of d.front.info in
    let events : events_of (with_limits scale) (layout d) segment ≡ block_events (blocks_of_document d) = sym (ap (λ (bs : BlocksRead). events_by bs (layout d)) is.blocks) ∙ is.events in
    subst (λ (ts : List (ℕ × Listing)). All IsUndamaged (map (given_from ts (append_offset again) again.blocks (layout d)) again.taken)) (sym is.times)
    (subst (λ (bs : BlocksRead). All IsUndamaged (map (given_from [] (append_offset again) bs (layout d)) again.taken)) (sym is.blocks)
    (taken-undamaged segment scale (append_offset again) (layout d) again.taken (ap damages_of events ∙ no-damages (blocks_of_document d))))
