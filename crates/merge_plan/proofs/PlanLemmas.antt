-- The output tracks of a plan.
use Rattle.std.proofs.Common.{◌≡◌, ◌≤◌, ◌<◌, ℕ, zero, suc, ◌+◌, Bool, true, false, if◌then◌else◌, List, [], ◌∷◌, ◌++◌, length, map, flat_map, get_or, Option, Some, None, nat_abs, refl, sym, ap, ap₂, subst, ◌∙◌, arith}
use Rattle.std.specs.Prelude.{◌&&◌, not}
use Rattle.std.specs.List.{All, AllZip, enumerate_from, range_with_len, sum_by}
use Rattle.std.specs.Option.{option_or}
use Rattle.std.proofs.lemmas.List.{map-append, length-map}
use Rattle.std.proofs.lemmas.List.Elements.{All-map, All-weaker}
use Rattle.std.proofs.lemmas.List.Sums.{sum_by-cons}
use Rattle.std.proofs.lemmas.List.FromFn.{length-enumerate_from}
use Rattle.mkv_io.specs.declared.outside.FileId.{FileId}
use Rattle.mkv_io.specs.LiveFiles.{LiveFiles}
use Rattle.element_reader.specs.Outline.{FileOutline}
use Rattle.block_format.specs.Elements.{with_limits}
use Rattle.block_format.specs.Events.{events_of}
use Rattle.mkv_io.specs.declared.entry.Entry.{Entry}
use Rattle.text_formats.specs.Reading.{AreWithin, IsEntryWithin}
use Rattle.input_files.specs.declared.limits.TheConstants.{MAX_SRT_LEN}
use Rattle.merge_model.specs.Links.{Given, Placing, going_on, text_given, track_given}
use Rattle.ext_times.specs.Listing.{Listing}
use Rattle.merge_model.specs.FileLinks.{listing_of, octets_in, placing_of, given_in, timed_given, IsOpenLink, IsOpenTrack, IsToldLink, IsSmallEntry, IsSmallLink, IsSmallText, IsSmallTrack}
use Rattle.merge_model.specs.declared.link.Link.{Link}
use Rattle.merge_model.specs.declared.link.Link.TheVariants.{Track, Entries}
use Rattle.merge_model.specs.declared.link.TextLink.{TextLink}
use Rattle.merge_model.specs.declared.link.TrackLink.{TrackLink}
use Rattle.lanes.specs.Walks.{file_length, files_length}
use Rattle.splitter.specs.Split.{is_driver}
use Rattle.remux_plan.specs.Parts.{drivers_of}
use Rattle.remux_plan.specs.Plan.{links_of, rules_of}
use Rattle.remux_plan.specs.declared.plan.PlannedLane.{PlannedLane}
use Rattle.output_model.specs.declared.TheConstants.{MAX_LANES}
use Rattle.requests.specs.declared.merge.MergeWords.{MergeWords}
use Rattle.merge_inputs.specs.Input.{AreClusters, CanBeGiven, InputRead, IsInput, blocks_in, read_in}
use Rattle.merge_inputs.specs.Taken.{IsTaken}
use Rattle.merge_inputs.specs.declared.input.Blocks.{Blocks}
use Rattle.merge_inputs.specs.declared.input.Blocks.TheVariants as held_by
use Rattle.merge_inputs.specs.declared.input.Input.{Input}
use Rattle.merge_inputs.specs.declared.taken.TakenTrack.{TakenTrack}
use Rattle.merge_plan.specs.Chains.{lanes_by}
use Rattle.merge_plan.specs.Plan.{Source, drives_given, given_for, given_from, given_of, inputs_given, inputs_taken, is_video, lanes_given, lanes_ordered, append_offset, numbers_of, placing_for, rule_of, rules_given}
use Rattle.merge_plan.specs.Planned.{IsLinked, IsSparedLink, IsToldInput, source_in}
use Rattle.merge_plan.specs.Order.{in_order}
use Rattle.merge_plan.specs.Records.{is_appended, keys_from, ordered, tracks_begun, tracks_ordered, tracks_taken}
use Rattle.merge_plan.specs.Refusal.{lanes_refusal, plan_refusal, records_refusal}
use Rattle.merge_plan.specs.declared.refusal.PlanRefusal.{PlanRefusal}
use Rattle.merge_plan.specs.TakenTracks.{AreDriven, Spot, HasPlace, HasTaken, IsLaneOf, IsLink, IsLinkAt, IsLinkBy, IsLinkOf, IsShortText, IsTextOf, goes_on, rule_at, spot, spots_in, spots_from, spots_ordered}
use Rattle.merge_plan.proofs.ChainLemmas.{begins, enumerate-all, enumerate-map, enumerate-sum, lanes-all, lanes-few, lanes-first, lanes-light, lanes-map, unnumbered}
use Rattle.merge_plan.proofs.FileLemmas.{reads-in}
use Rattle.merge_plan.proofs.OrderLemmas.{in_order-all, in_order-length, in_order-map}
use Rattle.merge_plan.proofs.RecordLemmas.{keys-count, ordered-count}
use Rattle.merge_plan.proofs.RefusalLemmas.{unrefused-few}

-- ---- lists of related pairs

pub zip-map : {A B C : Type 0} (R : A → B → Type 0) (f : B → C) (g : A → C) → ((x : A) (y : B) → R x y → f y ≡ g x) → (xs : List A) (ys : List B) → AllZip R xs ys → map f ys ≡ map g xs
zip-map R f g same [] [] all = refl
zip-map R f g same [] (y ∷ ys) all = absurd all
zip-map R f g same (x ∷ xs) [] all = absurd all
zip-map R f g same (x ∷ xs) (y ∷ ys) all = ap₂ (λ h t. h ∷ t) (same x y all.0) (zip-map R f g same xs ys all.1)

zip-length : {A B : Type 0} (R : A → B → Type 0) (xs : List A) (ys : List B) → AllZip R xs ys → length ys ≡ length xs
zip-length R [] [] all = refl
zip-length R [] (y ∷ ys) all = absurd all
zip-length R (x ∷ xs) [] all = absurd all
zip-length R (x ∷ xs) (y ∷ ys) all = ap suc (zip-length R xs ys all.1)

all-cons : {A : Type 0} (P : A → Type 0) (x : A) (xs : List A) → P x → All P xs → All P (x ∷ xs)
all-cons P x xs one rest = of
  where
    of : (k : ℕ) (d : _) → k < length (x ∷ xs) → P (get_or (x ∷ xs) k d)
    of zero d inside = one
    of (suc k) d inside = rest k d (omega arith)

pub zip-all : {A B : Type 0} (R : A → B → Type 0) (Q : A → Type 0) (P : B → Type 0) → ((x : A) (y : B) → Q x → R x y → P y) → (xs : List A) (ys : List B) → All Q xs → AllZip R xs ys → All P ys
zip-all R Q P so [] [] each all = λ k d inside. absurd (omega arith)
zip-all R Q P so [] (y ∷ ys) each all = absurd all
zip-all R Q P so (x ∷ xs) [] each all = absurd all
zip-all R Q P so (x ∷ xs) (y ∷ ys) each all = all-cons P y ys (so x y (each 0 x (omega arith)) all.0) (zip-all R Q P so xs ys (λ k d inside. each (suc k) d (omega arith)) all.1)

-- ---- the selected tracks, each with its input

-- The input is appended to the previous one.
abbrev own_place : ℕ × Input → Bool
own_place each = goes_on each.1

spots-rules : (n : ℕ) (inputs : List Input) → map rule_at (spots_from n inputs) ≡ map rule_of (tracks_taken (map read_in inputs))
spots-rules n inputs =
    lanes-first own_place spots_in rule_at (λ (s : Spot). rule_of s.track) (λ s spots. refl) (enumerate_from n inputs)
    ∙ of n inputs
  where
    one : (n : ℕ) (i : Input) (b : Bool) → map (λ (s : Spot). rule_of s.track) (if b then [] else spots_in (n, i)) ≡ map rule_of (if b then [] else i.taken)
    one n i true = refl
    one n i false = each i.taken
      where
        each : (ts : List TakenTrack) → map (λ (s : Spot). rule_of s.track) (map (spot n i) ts) ≡ map rule_of ts
        each [] = refl
        each (t ∷ ts) = ap (λ l. rule_of t ∷ l) (each ts)

    of : (n : ℕ) (inputs : List Input) → map (λ (s : Spot). rule_of s.track) (flat_map (begins own_place spots_in) (enumerate_from n inputs)) ≡ map rule_of (tracks_taken (map read_in inputs))
    of n [] = refl
    of n (i ∷ is) =
        map-append (λ (s : Spot). rule_of s.track) (begins own_place spots_in (n, i)) (flat_map (begins own_place spots_in) (enumerate_from (n + 1) is))
        ∙ ap₂ (λ a b. a ++ b) (one n i (goes_on i)) (of (n + 1) is)
        ∙ sym (map-append rule_of (tracks_begun (read_in i)) (tracks_taken (map read_in is)))

-- the blocks of a track, in these files
abbrev pub given_at : LiveFiles → Spot → Given
given_at f s = given_from (read_in s.input).times (append_offset (read_in s.input)) (blocks_in s.input.blocks) (octets_in f s.input.file.n) s.track

spots-given : (f : LiveFiles) (n : ℕ) (inputs : List Input) → map (map (given_at f)) (spots_from n inputs) ≡ lanes_given (map (source_in f) inputs)
spots-given f n inputs =
    sym (lanes-map (λ (s : Source). is_appended s.1) given_of (λ (each : ℕ × Input). source_in f each.1) spots_in (given_at f) (λ each. of each.0 each.1 each.1.taken) (enumerate_from n inputs))
    ∙ ap lanes_given (unnumbered (source_in f) n inputs)
  where
    of : (n : ℕ) (i : Input) (ts : List TakenTrack) → map (given_from (read_in i).times (append_offset (read_in i)) (blocks_in i.blocks) (octets_in f i.file.n)) ts ≡ map (given_at f) (map (spot n i) ts)
    of n i [] = refl
    of n i (t ∷ ts) = ap (λ l. given_at f (spot n i t) ∷ l) (of n i ts)

spots-numbers : (n : ℕ) (inputs : List Input) → map (map (λ (s : Spot). s.number)) (spots_from n inputs) ≡ inputs_given n (map read_in inputs)
spots-numbers n inputs =
    sym (lanes-map (λ (each : ℕ × InputRead). is_appended each.1) numbers_of (λ (each : ℕ × Input). (each.0, read_in each.1)) spots_in (λ (s : Spot). s.number) (λ each. of each.0 each.1 each.1.taken) (enumerate_from n inputs))
    ∙ ap (lanes_by (λ (each : ℕ × InputRead). is_appended each.1) numbers_of) (sym (enumerate-map read_in n inputs))
  where
    of : (n : ℕ) (i : Input) (ts : List TakenTrack) → map (λ (t : TakenTrack). n) ts ≡ map (λ (s : Spot). s.number) (map (spot n i) ts)
    of n i [] = refl
    of n i (t ∷ ts) = ap (λ l. n ∷ l) (of n i ts)

-- `P` holds of the input of a track, which can be taken.
record Holds (P : Input → Type 0) (s : Spot) : Type 0 where
  pub input : P s.input
  pub taken : IsTaken s.track

-- `P` holds of the input, and its tracks can be taken.
record HoldsIn (P : Input → Type 0) (i : Input) : Type 0 where
  pub input : P i
  pub taken : HasTaken i

spots-hold : (P : Input → Type 0) (n : ℕ) (inputs : List Input) → All P inputs → All HasTaken inputs → All (All (Holds P)) (spots_from n inputs)
spots-hold P n inputs each all =
    lanes-all (Holds P) own_place spots_in (λ (each : ℕ × Input). HoldsIn P each.1)
    (λ each holds. All-map (Holds P) (spot each.0 each.1) each.1.taken (λ k d inside. record { input = holds.input; taken = holds.taken.taken k d inside }))
    (enumerate_from n inputs) (enumerate-all (HoldsIn P) n inputs (λ k d inside. record { input = each k d inside; taken = all k d inside }))

-- ---- a link to a track of a file

-- the blocks of track `number` in a file with this outline
made : LiveFiles → Placing → ℕ → ℕ → ℕ → FileOutline → Given
made f p number scale file outline = track_given p number (events_of (with_limits scale) (octets_in f file) outline.segment)

module _ (b : Bool) (i : Input) (read : FileOutline) (nanoseconds : ℕ) (t : TakenTrack) (link : TrackLink) (is : IsLinkOf b i read nanoseconds t link) where
  placing-is : placing_of link ≡ placing_for (append_offset (read_in i)) t
  placing-is = λ j. record { delay = is.delay j; shift = is.shift j; default_duration = is.default_duration j; prefix = is.prefix j }

  made-same : (f : LiveFiles) → made f (placing_of link) link.number link.scale link.file.n link.outline.value ≡ made f (placing_for (append_offset (read_in i)) t) t.track.number nanoseconds i.file.n read
  made-same f =
      ap (λ p. made f p link.number link.scale link.file.n link.outline.value) placing-is
      ∙ ap (λ n. made f (placing_for (append_offset (read_in i)) t) n link.scale link.file.n link.outline.value) is.number
      ∙ ap (λ s. made f (placing_for (append_offset (read_in i)) t) t.track.number s link.file.n link.outline.value) is.scale
      ∙ ap (λ (file : FileId). made f (placing_for (append_offset (read_in i)) t) t.track.number nanoseconds file.n link.outline.value) is.file
      ∙ ap (made f (placing_for (append_offset (read_in i)) t) t.track.number nanoseconds i.file.n) is.outline

  track-given : (f : LiveFiles) → given_in f (Track link) ≡ going_on b (given_for (read_in i).times (append_offset (read_in i)) (events_of (with_limits nanoseconds) (octets_in f i.file.n) read.segment) t)
  unfolding made
  track-given f =
      ap (λ g. going_on link.goes_on (timed_given (listing_of link) 0 g)) (made-same f)
      ∙ ap (λ (times : Option Listing). going_on link.goes_on (timed_given times 0 (track_given (placing_for (append_offset (read_in i)) t) t.track.number (events_of (with_limits nanoseconds) (octets_in f i.file.n) read.segment)))) is.times
      ∙ ap (λ on. going_on on (given_for (read_in i).times (append_offset (read_in i)) (events_of (with_limits nanoseconds) (octets_in f i.file.n) read.segment) t)) is.on

  track-small : IsTaken t → HasPlace i → IsSmallTrack link
  track-small taken place =
      let near = taken.near in
      record {
        moves = record { near = omega (arith, ap nat_abs is.delay); within = omega (arith, is.shift) };
        prefix = is.short;
      }

  track-open : (f : LiveFiles) → f.live i.file.n ≡ true → AreClusters (f.size i.file.n) read nanoseconds → IsOpenTrack f link
  track-open f live are =
      let some = are.scale in
      record {
        live = ap (λ (file : FileId). f.live file.n) is.file ∙ live;
        size = ap (λ (file : FileId). f.size file.n) is.file ∙ are.size ∙ ap (λ (o : FileOutline). o.total) (sym is.outline);
        scale = omega (arith, is.scale);
      }

-- ---- a link to a text

small-entry : (e : Entry) → IsEntryWithin MAX_SRT_LEN e → IsSmallEntry e
small-entry e within = let ends = within.0 in let few = within.1 in record { start = omega arith; duration = omega arith; text = omega arith }

module _ (i : Input) (read : List Entry) (t : TakenTrack) (link : TextLink) (is : IsTextOf i read t link) where
  text-given : (f : LiveFiles) → given_in f (Entries link) ≡ text_given t.delay (append_offset (read_in i)) read
  text-given f = λ j. text_given (is.delay j) (is.shift j) (is.entries j)

  text-small : IsTaken t → HasPlace i → AreWithin MAX_SRT_LEN read → IsSmallText link
  text-small taken place within =
      let near = taken.near in
      let few = within.0 in
      record {
        moves = record { near = omega (arith, ap nat_abs is.delay); within = omega (arith, is.shift) };
        few = omega (arith, ap length is.entries);
        entries = subst (All IsSmallEntry) (sym is.entries) (All-weaker (IsEntryWithin MAX_SRT_LEN) IsSmallEntry small-entry read within.1);
      }

-- ---- a link, by the form of its input

-- An input that was read has tracks that can be taken.
pub input-taken : (f : LiveFiles) (i : Input) → IsInput f i → HasTaken i
input-taken f i good = record { taken = good.taken; text = short i.blocks good.blocks }
  where
    short : (blocks : Blocks) → CanBeGiven (f.size i.file.n) blocks → IsShortText blocks
    short (held_by.Clusters outline scale) are = tt
    short (held_by.Entries entries) are = are

-- Damage never ends a text.
text-never : (b : Bool) → (not b && false) ≡ false
text-never true = refl
text-never false = refl

module _ (b : Bool) (i : Input) (t : TakenTrack) where
  pub link-given : (f : LiveFiles) (blocks : Blocks) (link : Link) → IsLinkBy b i blocks t link → given_in f link ≡ going_on b (given_from (read_in i).times (append_offset (read_in i)) (blocks_in blocks) (octets_in f i.file.n) t)
  link-given f (held_by.Clusters outline scale) (Track link) is = track-given b i outline.value scale t link is f
  link-given f (held_by.Clusters outline scale) (Entries text) is = absurd is
  link-given f (held_by.Entries entries) (Track link) is = absurd is
  link-given f (held_by.Entries entries) (Entries text) is = text-given i entries t text is f ∙ ap (λ st. record (text_given t.delay (append_offset (read_in i)) entries) { stops = st }) (sym (text-never b))

  pub link-small : (blocks : Blocks) (link : Link) → IsLinkBy b i blocks t link → IsTaken t → HasPlace i → IsShortText blocks → IsSmallLink link
  link-small (held_by.Clusters outline scale) (Track link) is taken place short = track-small b i outline.value scale t link is taken place
  link-small (held_by.Clusters outline scale) (Entries text) is taken place short = absurd is
  link-small (held_by.Entries entries) (Track link) is taken place short = absurd is
  link-small (held_by.Entries entries) (Entries text) is taken place short = text-small i entries t text is taken place short

  pub link-open : (f : LiveFiles) (blocks : Blocks) (link : Link) → IsLinkBy b i blocks t link → f.live i.file.n ≡ true → CanBeGiven (f.size i.file.n) blocks → IsOpenLink f link
  link-open f (held_by.Clusters outline scale) (Track link) is live are = track-open b i outline.value scale t link is f live are
  link-open f (held_by.Clusters outline scale) (Entries text) is live are = absurd is
  link-open f (held_by.Entries entries) (Track link) is live are = absurd is
  link-open f (held_by.Entries entries) (Entries text) is live are = tt

  -- The file of a track is the file of its input.
  file-of : (P : ℕ → Type 0) → P i.file.n → (blocks : Blocks) (link : TrackLink) → IsLinkBy b i blocks t (Track link) → P link.file.n
  file-of P own (held_by.Clusters outline scale) link is = subst (λ (file : FileId). P file.n) (sym is.file) own
  file-of P own (held_by.Entries entries) link is = absurd is

  pub link-told : (f : LiveFiles) (blocks : Blocks) (link : Link) → IsLinkBy b i blocks t link → IsToldInput f i → IsToldLink f link
  link-told f blocks (Track link) is told = file-of (λ n. f.content n ≡ Some (octets_in f n)) told blocks link is
  link-told f blocks (Entries text) is told = tt

  link-spared : (test : ℕ → Bool) (blocks : Blocks) (link : Link) → IsLinkBy b i blocks t link → test i.file.n ≡ false → IsSparedLink test link
  link-spared test blocks (Track link) is own = file-of (λ n. test n ≡ false) own blocks link is
  link-spared test blocks (Entries text) is own = tt

  link-length : (f : LiveFiles) (blocks : Blocks) (link : Link) → IsLinkBy b i blocks t link → file_length f link ≤ f.size i.file.n
  link-length f blocks (Track link) is = file-of (λ n. f.size n ≤ f.size i.file.n) (omega arith) blocks link is
  link-length f blocks (Entries text) is = omega arith

-- ---- the output tracks

lane-given : (b : Bool) (f : LiveFiles) (spots : List Spot) (l : PlannedLane) → IsLaneOf b spots l → map (given_in f) l.spec.links ≡ map (λ (s : Spot). going_on b (given_at f s)) spots
lane-given b f spots l is = zip-map (IsLinkAt b) (given_in f) (λ (s : Spot). going_on b (given_at f s)) (λ s link at. link-given b s.input s.track f s.input.blocks link at) spots l.spec.links is.links

lane-linked : (b : Bool) (inputs : List Input) (spots : List Spot) (l : PlannedLane) → length spots ≤ length inputs → IsLaneOf b spots l → IsLinked inputs l
lane-linked b inputs spots l few is =
    let links = zip-length (IsLinkAt b) spots l.spec.links is.links in
    let numbers : length l.inputs ≡ length spots = ap length is.inputs ∙ length-map spots (λ (s : Spot). s.number) in
    record { few = omega arith; numbered = omega arith }

-- the length of the file of a track
abbrev spot_length : LiveFiles → Spot → ℕ
spot_length f s = f.size s.input.file.n

lane-length : (b : Bool) (f : LiveFiles) (spots : List Spot) (links : List Link) → AllZip (IsLinkAt b) spots links → files_length f links ≤ sum_by (spot_length f) spots
lane-length b f [] [] all = omega arith
lane-length b f [] (link ∷ links) all = absurd all
lane-length b f (s ∷ spots) [] all = absurd all
lane-length b f (s ∷ spots) (link ∷ links) all =
    let here = link-length b s.input s.track f s.input.blocks link all.0 in
    let rest = lane-length b f spots links all.1 in
    omega (arith, sum_by-cons (spot_length f) s spots)

-- The links of an input keep their limits.
record KeepsLimits (i : Input) : Type 0 where
  pub place : HasPlace i
  pub has : HasTaken i

module _ (b : Bool) (order : List (ℕ × ℕ)) (inputs : List Input) (lanes : List PlannedLane) (are : AllZip (IsLaneOf b) (spots_ordered order inputs) lanes) where
  -- A fact of the output tracks of inputs holds for them in the order of the output.
  ordered-all : (P : List Spot → Type 0) → All P (spots_from 0 inputs) → All P (spots_ordered order inputs)
  ordered-all P each = in_order-all P order (keys_from 0 (map read_in inputs)) (spots_from 0 inputs) each

  spots-count : length (spots_from 0 inputs) ≡ length (tracks_taken (map read_in inputs))
  spots-count = sym (length-map (spots_from 0 inputs) rule_at) ∙ ap length (spots-rules 0 inputs) ∙ length-map (tracks_taken (map read_in inputs)) rule_of

  -- There is one output track for each track that begins one.
  pub lanes-length : length lanes ≡ length (tracks_taken (map read_in inputs))
  lanes-length =
      zip-length (IsLaneOf b) (spots_ordered order inputs) lanes are
      ∙ in_order-length order (keys_from 0 (map read_in inputs)) (spots_from 0 inputs) (keys-count 0 (map read_in inputs) ∙ sym spots-count)
      ∙ spots-count

  pub lanes-given : (f : LiveFiles) → map (map (given_in f)) (links_of lanes) ≡ map (map (going_on b)) (lanes_ordered order (map (source_in f) inputs))
  lanes-given f =
      maps lanes
      ∙ zip-map (IsLaneOf b) (λ (l : PlannedLane). map (given_in f) l.spec.links) (map (λ (s : Spot). going_on b (given_at f s))) (lane-given b f) (spots_ordered order inputs) lanes are
      ∙ each (spots_ordered order inputs)
      ∙ ap (map (map (going_on b)))
      (in_order-map (map (given_at f)) order (keys_from 0 (map read_in inputs)) (spots_from 0 inputs)
      ∙ ap (in_order order (keys_from 0 (map read_in inputs))) (spots-given f 0 inputs)
      ∙ ap (λ (rs : List InputRead). ordered order rs (lanes_given (map (source_in f) inputs))) (sym (reads-in f inputs)))
    where
      maps : (ls : List PlannedLane) → map (map (given_in f)) (links_of ls) ≡ map (λ (l : PlannedLane). map (given_in f) l.spec.links) ls
      maps [] = refl
      maps (l ∷ ls) = ap (λ rest. map (given_in f) l.spec.links ∷ rest) (maps ls)

      one : (spots : List Spot) → map (λ (s : Spot). going_on b (given_at f s)) spots ≡ map (going_on b) (map (given_at f) spots)
      one [] = refl
      one (s ∷ spots) = ap (λ gs. going_on b (given_at f s) ∷ gs) (one spots)

      each : (rows : List (List Spot)) → map (map (λ (s : Spot). going_on b (given_at f s))) rows ≡ map (map (going_on b)) (map (map (given_at f)) rows)
      each [] = refl
      each (spots ∷ rows) = ap₂ (λ gs rest. gs ∷ rest) (one spots) (each rows)

  pub lanes-numbers : map (λ (l : PlannedLane). l.inputs) lanes ≡ inputs_taken order (map read_in inputs)
  lanes-numbers =
      zip-map (IsLaneOf b) (λ (l : PlannedLane). l.inputs) (map (λ (s : Spot). s.number)) (λ spots l is. is.inputs) (spots_ordered order inputs) lanes are
      ∙ in_order-map (map (λ (s : Spot). s.number)) order (keys_from 0 (map read_in inputs)) (spots_from 0 inputs)
      ∙ ap (in_order order (keys_from 0 (map read_in inputs))) (spots-numbers 0 inputs)

  pub lanes-rules : rules_of lanes ≡ rules_given order (map read_in inputs)
  lanes-rules =
      zip-map (IsLaneOf b) (λ (l : PlannedLane). l.cues) rule_at (λ spots l is. is.rule) (spots_ordered order inputs) lanes are
      ∙ in_order-map rule_at order (keys_from 0 (map read_in inputs)) (spots_from 0 inputs)
      ∙ ap (in_order order (keys_from 0 (map read_in inputs))) (spots-rules 0 inputs)
      ∙ sym (in_order-map rule_of order (keys_from 0 (map read_in inputs)) (tracks_taken (map read_in inputs)))

  -- The drivers are determined by the types of the tracks.
  pub lanes-drives : (videos : List Bool) → AreDriven videos lanes → videos ≡ map is_video (tracks_ordered order (map read_in inputs)) → drivers_of lanes ≡ drives_given order (map read_in inputs)
  lanes-drives videos driven same =
      let tracks : List TakenTrack = tracks_ordered order (map read_in inputs) in
      driven
      ∙ ap (λ (n : ℕ). map (is_driver videos) (range_with_len 0 n)) (lanes-length ∙ sym (length-map tracks is_video ∙ ordered-count order (map read_in inputs)))
      ∙ ap (λ (vs : List Bool). map (is_driver vs) (range_with_len 0 (length (map is_video tracks)))) same

  -- Each output track has few links, and the number of each link's input.
  pub lanes-linked : All (IsLinked inputs) lanes
  lanes-linked =
      let few : All (λ (spots : List Spot). length spots ≤ length inputs) (spots_from 0 inputs) =
      subst (λ (n : ℕ). All (λ (spots : List Spot). length spots ≤ n) (spots_from 0 inputs)) (length-enumerate_from 0 inputs) (lanes-few own_place spots_in (enumerate_from 0 inputs)) in
      zip-all (IsLaneOf b) (λ (spots : List Spot). length spots ≤ length inputs) (IsLinked inputs) (λ spots l is_few is. lane-linked b inputs spots l is_few is) (spots_ordered order inputs) lanes (ordered-all (λ (spots : List Spot). length spots ≤ length inputs) few) are

  -- Each output track has the bytes of each file at most once.
  pub lanes-once : (f : LiveFiles) → All (λ (l : PlannedLane). files_length f l.spec.links ≤ sum_by (λ (i : Input). f.size i.file.n) inputs) lanes
  lanes-once f =
      let whole : ℕ = sum_by (λ (i : Input). f.size i.file.n) inputs in
      let each : All (λ (spots : List Spot). sum_by (spot_length f) spots ≤ whole) (spots_from 0 inputs) =
      subst (λ (n : ℕ). All (λ (spots : List Spot). sum_by (spot_length f) spots ≤ n) (spots_from 0 inputs)) (enumerate-sum (λ (i : Input). f.size i.file.n) 0 inputs)
      (lanes-light own_place spots_in (spot_length f) (λ (each : ℕ × Input). f.size each.1.file.n)
      (λ each. All-map (λ (s : Spot). spot_length f s ≤ f.size each.1.file.n) (spot each.0 each.1) each.1.taken (λ k d inside. omega arith)) (enumerate_from 0 inputs)) in
      zip-all (IsLaneOf b) (λ (spots : List Spot). sum_by (spot_length f) spots ≤ whole) (λ (l : PlannedLane). files_length f l.spec.links ≤ whole)
      (λ spots l fits is. omega (arith, lane-length b f spots l.spec.links is.links)) (spots_ordered order inputs) lanes (ordered-all (λ (spots : List Spot). sum_by (spot_length f) spots ≤ whole) each) are

  -- A property holds for each link if it follows from a property of each input.
  pub lanes-links : (C : Input → Type 0) (P : Link → Type 0) → ((i : Input) (t : TakenTrack) (link : Link) → C i → IsTaken t → IsLink b i t link → P link) → All C inputs → All HasTaken inputs → All (All P) (links_of lanes)
  lanes-links C P so each taken =
      All-map (All P) (λ (l : PlannedLane). l.spec.links) lanes
      (zip-all (IsLaneOf b) (All (Holds C)) (λ (l : PlannedLane). All P l.spec.links)
      (λ spots l holds is. zip-all (IsLinkAt b) (Holds C) P (λ s link one at. so s.input s.track link one.input one.taken at) spots l.spec.links holds is.links) (spots_ordered order inputs) lanes (ordered-all (All (Holds C)) (spots-hold C 0 inputs each taken)) are)

  module _ (taken : All HasTaken inputs) where
    pub links-small : All HasPlace inputs → All (All IsSmallLink) (links_of lanes)
    links-small places =
        lanes-links KeepsLimits IsSmallLink (λ i t link can one is. link-small b i t i.blocks link is one can.place can.has.text)
        (λ k d inside. record { place = places k d inside; has = taken k d inside }) taken

    pub links-open : (f : LiveFiles) → All (IsInput f) inputs → All (All (IsOpenLink f)) (links_of lanes)
    links-open f good = lanes-links (IsInput f) (IsOpenLink f) (λ i t link own one is. link-open b i t f i.blocks link is own.live own.blocks) good taken

    pub links-told : (f : LiveFiles) → All (IsToldInput f) inputs → All (All (IsToldLink f)) (links_of lanes)
    links-told f told = lanes-links (IsToldInput f) (IsToldLink f) (λ i t link own one is. link-told b i t f i.blocks link is own) told taken

    pub links-spared : (test : ℕ → Bool) → All (λ (i : Input). test i.file.n ≡ false) inputs → All (All (IsSparedLink test)) (links_of lanes)
    links-spared test spared = lanes-links (λ (i : Input). test i.file.n ≡ false) (IsSparedLink test) (λ i t link own one is. link-spared b i t test i.blocks link is own) spared taken

-- ---- the plan

-- A plan that isn't refused has few output tracks.
pub plan-few : (words : MergeWords) (reads : List InputRead) → plan_refusal words reads ≡ None → length (tracks_taken reads) ≤ MAX_LANES
plan-few words reads none =
    let sorted : List TakenTrack = tracks_ordered words.order reads in
    unrefused-few words.webm (tracks_taken reads) sorted (first-none (lanes_refusal words.webm (tracks_taken reads) sorted) (records_refusal words.order reads) none)
  where
    first-none : (o p : Option PlanRefusal) → option_or o p ≡ None → o ≡ None
    first-none None p none = refl
    first-none (Some why) p none = absurd (cc)
