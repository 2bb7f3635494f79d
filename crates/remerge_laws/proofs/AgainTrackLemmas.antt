-- The tracks of an output are selected and merged again as they were.
use Rattle.std.proofs.Common.{◌≡◌, ◌<◌, ℕ, ◌+◌, ◌^◌, ◌==◌, Bool, true, false, ◌||◌, if◌then◌else◌, List, [], ◌∷◌, ◌++◌, length, map, All, Option, None, refl, sym, ap, ap₂, subst, ◌∙◌, suc}
use Rattle.std.specs.List.{AllZip}
use Rattle.std.specs.Option.{option_and_then, option_map, option_map_or}
use Rattle.std.proofs.lemmas.List.{length-map}
use Rattle.std.proofs.lemmas.List.Elements.{All-nil, All-cons, All-head, All-tail}
use Rattle.mkv_schema.specs.declared.ids.TheConstants.{CONTENT_ENCODING, CONTENT_ENCODINGS, TRACKS}
use Rattle.tree_format.specs.Node.{Node, master, nodes_of}
use Rattle.tree_format.specs.NormalForm.{octets}
use Rattle.tree_format.specs.Standing.{placed}
use Rattle.tree_format.specs.Values.{first_child}
use Rattle.file_format.specs.Encoding.{prefix_of, settings_of}
use Rattle.file_format.specs.Entry.{entries_of, number_of, type_of, uid_of}
use Rattle.output_model.specs.Sound.{CountFrom}
use Rattle.output_model.specs.declared.rule.CueRule.{CueRule}
use Rattle.record_changes.specs.Identifiers.{renumbered}
use Rattle.record_changes.proofs.GivenLemmas.{numbers-settle}
use Rattle.record_laws.specs.Again.{AreNumbered, TracksStay, plain, plain_changes, written_entries}
use Rattle.track_records.specs.declared.track.Track.{Track}
use Rattle.track_records.specs.declared.track_change.TrackChange.{TrackChange}
use Rattle.track_records.specs.Entry.{IsWholeEntry, written_entry}
use Rattle.track_records.specs.Track.{track_of}
use Rattle.merge_inputs.specs.Select.{is_taken}
use Rattle.merge_inputs.specs.Taken.{IsTaken, taken_from, taken_track}
use Rattle.merge_inputs.specs.declared.taken.TakenTrack.{TakenTrack}
use Rattle.mkv_schema.specs.declared.track_type.TheConstants.{AUDIO_TRACK, SUBTITLE_TRACK, VIDEO_TRACK}
use Rattle.merge_plan.specs.Plan.{rule_of, default_rule}
use Rattle.merge_plan.specs.Records.{change_of, entries_from, uids_of}
use Rattle.merge_plan.specs.Records.{entries_of as entries_given}
use Rattle.merge_laws.specs.Sources.{is_taken_type}
use Rattle.merge_laws.proofs.EntryLemmas.{taken-whole}
use Rattle.remerge_laws.specs.AgainLanes.{IsTakenPlain}
use Rattle.remerge_laws.specs.AgainTracks.{AreTakenOf, ArePlainTracks, EntriesAreWrittenAgain, TracksAreTakenAgain}
use Rattle.requests.specs.Plain.{plain_file}
use Rattle.remerge_laws.specs.Records.{AreTracksOf}
use Rattle.remerge_laws.specs.Tracks.{IsTrackOf}
use Rattle.remerge_laws.proofs.OwnTrackLemmas.{own-tracks}
use Rattle.remerge_laws.proofs.PlacedLemmas.{first-placed}
use Rattle.lemmas.proofs.PlainLemmas.{map-none as none-there}

-- ---- all tracks are selected

-- the tracks, each as it is selected without options
abbrev taken_plain : List ℕ → ℕ → List Track → List TakenTrack
taken_plain name id [] = []
taken_plain name id (t ∷ ts) = taken_track (plain_file name) id t ∷ taken_plain name (id + 1) ts

abbrev HasTakenType : Track → Type 0
HasTakenType t = is_taken_type t.kind ≡ true

one-taken : (name : List ℕ) (id type : ℕ) → is_taken_type type ≡ true → is_taken (plain_file name) id type ≡ true
one-taken name id type is = of (type == VIDEO_TRACK) (type == AUDIO_TRACK) (type == SUBTITLE_TRACK) is
  where
    of : (a b c : Bool) → (a || b || c) ≡ true → (if a then true else (if b then true else (if c then true else false))) ≡ true
    of true b c is = refl
    of false true c is = refl
    of false false true is = refl
    of false false false is = is

all-taken : (name : List ℕ) (id : ℕ) (ts : List Track) → All HasTakenType ts → taken_from (plain_file name) id ts ≡ taken_plain name id ts
all-taken name id [] types = refl
all-taken name id (t ∷ ts) types =
    ap₂ (λ (b : Bool) (more : List TakenTrack). (if b then taken_track (plain_file name) id t ∷ [] else []) ++ more) (one-taken name id t.kind (All-head HasTakenType t ts types))
    (all-taken name (id + 1) ts (All-tail HasTakenType t ts types))

-- ---- values of tracks

abbrev AreTracks : List Node → List Track → Type 0
AreTracks es ts = AllZip IsTrackOf es ts

-- The entry has no ContentEncodings.
abbrev pub IsBare : Node → Type 0
IsBare entry = first_child CONTENT_ENCODINGS entry ≡ None

abbrev HasTypeTaken : Node → Type 0
HasTypeTaken entry = is_taken_type (type_of entry) ≡ true

types-taken : (es : List Node) (ts : List Track) → AreTracks es ts → All HasTypeTaken es → All HasTakenType ts
types-taken [] [] are types = All-nil HasTakenType
types-taken [] (t ∷ ts) are types = absurd are
types-taken (e ∷ es) [] are types = absurd are
types-taken (e ∷ es) (t ∷ ts) are types =
    All-cons HasTakenType t ts (ap is_taken_type are.0.kind ∙ All-head HasTypeTaken e es types) (types-taken es ts are.1 (All-tail HasTypeTaken e es types))

-- It has none after writing.
pub bare-placed : (e : Node) (p : ℕ) → IsBare e → IsBare (placed p e)
bare-placed e p bare =
    none-there (λ (n : Node). true) (first_child CONTENT_ENCODINGS (placed p e))
    (first-placed (λ (n : Node). true) (λ n q. refl) CONTENT_ENCODINGS refl e p ∙ ap (option_map (λ (n : Node). true)) bare)

-- An entry without ContentEncodings removes nothing from frames, also after reading.
bare-prefix : (e : Node) (t : Track) → IsTrackOf e t → IsBare e → prefix_of t.entry ≡ []
bare-prefix e t is bare =
    ap prefix_of is.stands.1
    ∙ ap (λ (o : Option Node). option_map_or settings_of (option_and_then (λ e. first_child CONTENT_ENCODING e) o) []) (bare-placed e is.stands.0 bare)

module _ (name : List ℕ) where
  as-many : (id : ℕ) (es : List Node) (ts : List Track) → AreTracks es ts → length (taken_plain name id ts) ≡ length es
  as-many id [] [] are = refl
  as-many id [] (t ∷ ts) are = absurd are
  as-many id (e ∷ es) [] are = absurd are
  as-many id (e ∷ es) (t ∷ ts) are = ap suc (as-many (id + 1) es ts are.1)

  count-same : (id n : ℕ) (es : List Node) (ts : List Track) → AreTracks es ts → CountFrom n (map number_of es) → CountFrom n (map (λ (t : TakenTrack). t.track.number) (taken_plain name id ts))
  count-same id n [] [] are count = tt
  count-same id n [] (t ∷ ts) are count = absurd are
  count-same id n (e ∷ es) [] are count = absurd are
  count-same id n (e ∷ es) (t ∷ ts) are count = (are.0.number ∙ count.0, count-same (id + 1) (n + 1) es ts are.1 count.1)

  uids-same : (id : ℕ) (es : List Node) (ts : List Track) → AreTracks es ts → map (λ (t : TakenTrack). t.track.uid) (taken_plain name id ts) ≡ map uid_of es
  uids-same id [] [] are = refl
  uids-same id [] (t ∷ ts) are = absurd are
  uids-same id (e ∷ es) [] are = absurd are
  uids-same id (e ∷ es) (t ∷ ts) are = ap₂ (λ (u : ℕ) us. u ∷ us) are.0.uid (uids-same (id + 1) es ts are.1)

  rules-same : (id : ℕ) (es : List Node) (ts : List Track) → AreTracks es ts → map rule_of (taken_plain name id ts) ≡ map (λ (entry : Node). default_rule (type_of entry)) es
  rules-same id [] [] are = refl
  rules-same id [] (t ∷ ts) are = absurd are
  rules-same id (e ∷ es) [] are = absurd are
  rules-same id (e ∷ es) (t ∷ ts) are = ap₂ (λ (r : CueRule) rs. r ∷ rs) (ap default_rule are.0.kind) (rules-same (id + 1) es ts are.1)

  all-plain : (id : ℕ) (es : List Node) (ts : List Track) → AreTracks es ts → All IsBare es → All IsTakenPlain (taken_plain name id ts)
  all-plain id [] [] are bare = All-nil IsTakenPlain
  all-plain id [] (t ∷ ts) are bare = absurd are
  all-plain id (e ∷ es) [] are bare = absurd are
  all-plain id (e ∷ es) (t ∷ ts) are bare =
      All-cons IsTakenPlain (taken_track (plain_file name) id t) (taken_plain name (id + 1) ts)
      (record { undelayed = refl; prefix = bare-prefix e t are.0 (All-head IsBare e es bare) }) (all-plain (id + 1) es ts are.1 (All-tail IsBare e es bare))

pub tracks-taken : TracksAreTakenAgain
tracks-taken name tracks read plain are =
    let es : List Node = entries_of tracks in
    subst (AreTakenOf tracks) (sym (all-taken name 0 read (types-taken es read are.say plain.types)))
    (record {
      many = as-many name 0 es read are.say;
      numbers = count-same name 0 1 es read are.say plain.numbers;
      uids = uids-same name 0 es read are.say;
      plain = all-plain name 0 es read are.say plain.plain;
      rules = rules-same name 0 es read are.say;
    })

-- ---- written entries

-- the changes in the entries of tracks, numbered from a number on, with these identifiers
abbrev changes_from : ℕ → List ℕ → List TakenTrack → List TrackChange
changes_from number [] taken = []
changes_from number (uid ∷ uids) [] = []
changes_from number (uid ∷ uids) (t ∷ taken) = change_of number uid t ∷ changes_from (number + 1) uids taken

abbrev entries_in : List TakenTrack → List Node
entries_in taken = map (λ (t : TakenTrack). t.track.entry) taken

abbrev IsUndone : TakenTrack → Type 0
IsUndone t = t.track.stored ≡ false

entries-changed : (number : ℕ) (uids : List ℕ) (taken : List TakenTrack) → All IsUndone taken → entries_from number uids taken ≡ written_entries (changes_from number uids taken) (entries_in taken)
entries-changed number [] taken undone = refl
entries-changed number (uid ∷ uids) [] undone = refl
entries-changed number (uid ∷ uids) (t ∷ taken) undone =
    ap₂ (λ (stored : Bool) (ns : List Node). written_entry (change_of number uid t) stored t.track.entry ∷ ns) (All-head IsUndone t taken undone)
    (entries-changed (number + 1) uids taken (All-tail IsUndone t taken undone))

changes-uids : (number : ℕ) (uids : List ℕ) (taken : List TakenTrack) → length uids ≡ length taken → map (λ (c : TrackChange). c.uid) (changes_from number uids taken) ≡ uids
changes-uids number [] taken long = refl
changes-uids number (uid ∷ uids) [] long = absurd (cc)
changes-uids number (uid ∷ uids) (t ∷ taken) long = ap (λ (us : List ℕ). uid ∷ us) (changes-uids (number + 1) uids taken (cc))

changes-numbers : (number : ℕ) (uids : List ℕ) (taken : List TakenTrack) → length uids ≡ length taken
    → map (λ (c : TrackChange). c.number) (changes_from number uids taken) ≡ map (λ (c : TrackChange). c.number) (plain_changes number uids)
changes-numbers number [] taken long = refl
changes-numbers number (uid ∷ uids) [] long = absurd (cc)
changes-numbers number (uid ∷ uids) (t ∷ taken) long = ap (λ (ns : List ℕ). number ∷ ns) (changes-numbers (number + 1) uids taken (cc))

abbrev Small : ℕ → Type 0
Small n = n < 2 ^ 64

abbrev IsSmallChange : TrackChange → Type 0
IsSmallChange c = c.uid < 2 ^ 64

changes-small : (number : ℕ) (uids : List ℕ) (taken : List TakenTrack) → All Small uids → All IsSmallChange (changes_from number uids taken)
changes-small number [] taken small = All-nil IsSmallChange
changes-small number (uid ∷ uids) [] small = All-nil IsSmallChange
changes-small number (uid ∷ uids) (t ∷ taken) small =
    All-cons IsSmallChange (change_of number uid t) (changes_from (number + 1) uids taken) (All-head Small uid uids small) (changes-small (number + 1) uids taken (All-tail Small uid uids small))

all-whole : (taken : List TakenTrack) → All IsTaken taken → All IsWholeEntry (entries_in taken)
all-whole [] are = All-nil IsWholeEntry
all-whole (t ∷ taken) are =
    All-cons IsWholeEntry t.track.entry (entries_in taken) (taken-whole t (All-head IsTaken t taken are)) (all-whole taken (All-tail IsTaken t taken are))

-- A selected track has the identifier of its entry.
said-uids : (taken : List TakenTrack) → All IsTaken taken → map (λ (t : TakenTrack). t.track.uid) taken ≡ map uid_of (entries_in taken)
said-uids [] are = refl
said-uids (t ∷ taken) are =
    ap₂ (λ (u : ℕ) us. u ∷ us) (ap (λ (k : Track). k.uid) (All-head IsTaken t taken are).said) (said-uids taken (All-tail IsTaken t taken are))

-- ---- the second time

-- Plain tracks are only numbered.
plain-entries : (name : List ℕ) (id number : ℕ) (uids : List ℕ) (ts : List Track)
    → entries_from number uids (taken_plain name id ts) ≡ written_entries (plain_changes number uids) (map (λ (t : Track). t.entry) ts)
plain-entries name id number [] ts = refl
plain-entries name id number (uid ∷ uids) [] = refl
plain-entries name id number (uid ∷ uids) (t ∷ ts) =
    ap (λ (ns : List Node). written_entry (plain number uid) false t.entry ∷ ns) (plain-entries name (id + 1) (number + 1) uids ts)

pub entries-plain : (name : List ℕ) (tracks : Node) (read : List Track) → ArePlainTracks tracks → AreTracksOf tracks read
    → entries_given (taken_from (plain_file name) 0 read) ≡ written_entries (plain_changes 1 (uids_of (taken_from (plain_file name) 0 read))) (map (λ (t : Track). t.entry) read)
entries-plain name tracks read are_plain are =
    let is : taken_from (plain_file name) 0 read ≡ taken_plain name 0 read = all-taken name 0 read (types-taken (entries_of tracks) read are.say are_plain.types) in
    ap entries_given is ∙ plain-entries name 0 1 (uids_of (taken_plain name 0 read)) read
    ∙ ap (λ (ts : List TakenTrack). written_entries (plain_changes 1 (uids_of ts)) (map (λ (t : Track). t.entry) read)) (sym is)

plain-uids : (name : List ℕ) (id : ℕ) (es : List Node) → map (λ (t : TakenTrack). t.track.uid) (taken_plain name id (map track_of es)) ≡ map uid_of (map (λ (t : Track). t.entry) (map track_of es))
plain-uids name id [] = refl
plain-uids name id (e ∷ es) = ap (λ (us : List ℕ). uid_of e ∷ us) (plain-uids name (id + 1) es)

pub entries-again : TracksStay → EntriesAreWrittenAgain
entries-again stay name taken read are undone small plain of_them =
    let uids : List ℕ = uids_of taken in
    let changes : List TrackChange = changes_from 1 uids taken in
    let tracks : Node = master TRACKS 0 (nodes_of (entries_given taken)) in
    let long : length uids ≡ length taken = numbers-settle.each (map (λ (t : TakenTrack). t.track.uid) taken) ∙ length-map taken (λ (t : TakenTrack). t.track.uid) in
    let first : entries_given taken ≡ written_entries changes (entries_in taken) = entries-changed 1 uids taken undone in
    let of_written : AreTracksOf (master TRACKS 0 (nodes_of (written_entries changes (entries_in taken)))) read =
    subst (λ (ns : List Node). AreTracksOf (master TRACKS 0 (nodes_of ns)) read) first of_them in
    let numbered : AreNumbered 1 (renumbered (map uid_of (entries_in taken))) changes = (
      changes-uids 1 uids taken long ∙ ap renumbered (said-uids taken are),
      changes-numbers 1 uids taken long ∙ ap (λ (us : List ℕ). map (λ (c : TrackChange). c.number) (plain_changes 1 (renumbered us))) (said-uids taken are),
    ) in
    let es : List Node = entries_of (placed of_them.place tracks) in
    let again : List TakenTrack = taken_plain name 0 read in
    let again_uids : map (λ (t : TakenTrack). t.track.uid) again ≡ map uid_of (map (λ (t : Track). t.entry) read) =
    subst (λ (ts : List Track). map (λ (t : TakenTrack). t.track.uid) (taken_plain name 0 ts) ≡ map uid_of (map (λ (t : Track). t.entry) ts)) (sym of_them.stand) (plain-uids name 0 es) in
    ap (λ (ts : List TakenTrack). map octets (entries_given ts)) (all-taken name 0 read (types-taken (entries_of tracks) read of_them.say plain.types))
    ∙ ap (map octets) (plain-entries name 0 1 (uids_of again) read)
    ∙ ap (λ (us : List ℕ). map octets (written_entries (plain_changes 1 (renumbered us)) (map (λ (t : Track). t.entry) read))) again_uids
    ∙ own-tracks stay changes (entries_in taken) read (all-whole taken are) (changes-small 1 uids taken small) numbered of_written
    ∙ ap (map octets) (sym first)
