-- A Tracks Element is refused if and only if its entries aren't tracks.
use Rattle.std.proofs.Common.{◌≡◌, ◌<◌, ◌≤◌, ℕ, ◌+◌, ◌==◌, nat_le, Bool, true, false, ◌&&◌, ◌||◌, cond, List, [], ◌∷◌, length, map, find, Option, Some, None, IsSome, IfSome, refl, ap, subst, arith, eqb-true, All, ◌↔◌, ◌⊎◌, inl, inr}
use Rattle.std.specs.Prelude.{slice_get, is_none}
use Rattle.std.specs.Option.{option_map, option_and_then}
use Rattle.std.proofs.lemmas.Bool.Decides.{nat_tests}
use Rattle.std.proofs.lemmas.List.{length-map}
use Rattle.std.proofs.lemmas.List.Elements.{All-nil, All-cons, All-head, All-tail}
use Rattle.mkv_schema.specs.Table.{table}
use Rattle.mkv_schema.specs.Schema.{entry_of}
use Rattle.mkv_schema.specs.declared.ids.TheConstants.{TRACK_NUMBER, TRACK_TYPE, CODEC_ID, DEFAULT_DURATION}
use Rattle.mkv_io.specs.declared.damage.Damage.{Damage}
use Rattle.mkv_io.specs.declared.damage.Kind.TheVariants.{BadValue, MissingChild, RepeatedTrack}
use Rattle.mkv_schema.specs.Element.{damage}
use Rattle.mkv_schema.specs.Outline.{first_damage}
use Rattle.tree_format.specs.Node.{Node, id_of, offset_of, children}
use Rattle.tree_format.specs.Values.{first_child, integer_of}
use Rattle.file_format.specs.Entry.{entries_of, number_of, default_duration_of}
use Rattle.file_format.specs.Refusal.{firsts, is_bad, too_long, bad_value, missing_child, first_in, told_at, is_repeated, first_repeated, repeated_number, most_tracks, too_many, causes, refusal_of}
use Rattle.file_format.specs.Tracks.{IsTrack, AreTracks}
use Rattle.file_format.proofs.FirstLemmas.{find-passes, firsts-none, firsts-some, find-within, get-none, none-get, distinct-from_none, none-from_distinct}
use Rattle.lemmas.proofs.PlainLemmas.{map-none}

-- ---- tests

fails-first : (a b c d : Bool) → (a && b) || (c && d) ≡ false → a ≡ true → b ≡ false
fails-first true false c d fails is = refl
fails-first true true c d fails is = absurd (cc)
fails-first false b c d fails is = absurd (cc)

fails-second : (a b c d : Bool) → (a && b) || (c && d) ≡ false → c ≡ true → d ≡ false
fails-second true true c d fails is = absurd (cc)
fails-second true false true d fails is = fails
fails-second true false false d fails is = absurd (cc)
fails-second false b true d fails is = fails
fails-second false b false d fails is = absurd (cc)

either : (a b c d : Bool) → (a && b) || (c && d) ≡ true → ((a ≡ true) × (b ≡ true)) ⊎ ((c ≡ true) × (d ≡ true))
either true true c d is = inl (refl, refl)
either true false true true is = inr (refl, refl)
either true false true false is = absurd (cc)
either true false false d is = absurd (cc)
either false b true true is = inr (refl, refl)
either false b true false is = absurd (cc)
either false b false d is = absurd (cc)

-- ---- one entry

-- An entry that isn't refused for a value has no bad value.
no-bad : (entry : Node) → bad_value entry ≡ None → find is_bad (firsts (children entry)) ≡ None
no-bad entry is = map-none _ (find is_bad (firsts (children entry))) is

-- The number of an entry without a bad value isn't 0.
number-good : (entry : Node) (o : Option Node) → bad_value entry ≡ None → first_child TRACK_NUMBER entry ≡ o → IsSome o → 0 < number_of entry
number-good entry None good is some = absurd (cc)
number-good entry (Some n) good is some =
    let same : (id_of n == TRACK_NUMBER) ≡ true = find-passes (λ m. id_of m == TRACK_NUMBER) (children entry) n is in
    let fine : is_bad n ≡ false = firsts-none is_bad (children entry) TRACK_NUMBER n (no-bad entry good) is in
    let test : (integer_of n == 0) ≡ false = fails-first (id_of n == TRACK_NUMBER) (integer_of n == 0) (id_of n == DEFAULT_DURATION) (nat_le too_long (integer_of n)) fine same in
    let above : 0 < integer_of n = grind (arith, nat_tests) in
    rw is above

duration-good : (entry : Node) (o : Option Node) → bad_value entry ≡ None → first_child DEFAULT_DURATION entry ≡ o → IfSome (default_duration_of entry) (λ d. d < too_long)
duration-good entry None good is = rw is tt
duration-good entry (Some n) good is =
    let same : (id_of n == DEFAULT_DURATION) ≡ true = find-passes (λ m. id_of m == DEFAULT_DURATION) (children entry) n is in
    let fine : is_bad n ≡ false = firsts-none is_bad (children entry) DEFAULT_DURATION n (no-bad entry good) is in
    let test : nat_le too_long (integer_of n) ≡ false = fails-second (id_of n == TRACK_NUMBER) (integer_of n == 0) (id_of n == DEFAULT_DURATION) (nat_le too_long (integer_of n)) fine same in
    let below : integer_of n < too_long = grind (arith, nat_tests) in
    rw is below

-- An entry without a missing child has all mandatory ones.
all-there : {A : Type 0} (f : ℕ → A) (a b c : Option Node) → option_map f (cond (is_none a) (Some TRACK_NUMBER) (cond (is_none b) (Some TRACK_TYPE) (cond (is_none c) (Some CODEC_ID) None))) ≡ None → IsSome a × IsSome b × IsSome c
all-there f (Some a) (Some b) (Some c) is = (refl, refl, refl)
all-there f (Some a) (Some b) None is = absurd (cc)
all-there f (Some a) None c is = absurd (cc)
all-there f None b c is = absurd (cc)

there-all : {A : Type 0} (f : ℕ → A) (a b c : Option Node) → IsSome a → IsSome b → IsSome c → option_map f (cond (is_none a) (Some TRACK_NUMBER) (cond (is_none b) (Some TRACK_TYPE) (cond (is_none c) (Some CODEC_ID) None))) ≡ None
there-all f (Some a) (Some b) (Some c) x y z = refl
there-all f (Some a) (Some b) None x y z = absurd (cc)
there-all f (Some a) None c x y z = absurd (cc)
there-all f None b c x y z = absurd (cc)

-- So an entry without damage is a track.
track-from_none : (entry : Node) → bad_value entry ≡ None → missing_child entry ≡ None → IsTrack entry
track-from_none entry good whole =
    let there = all-there (λ id. damage MissingChild id (offset_of entry)) (first_child TRACK_NUMBER entry) (first_child TRACK_TYPE entry) (first_child CODEC_ID entry) whole in
    record {
      number = number-good entry (first_child TRACK_NUMBER entry) good refl there.0;
      type = there.1;
      codec = there.2;
      duration = duration-good entry (first_child DEFAULT_DURATION entry) good refl;
    }

-- ---- a track has no damage

number-there : (entry : Node) (o : Option Node) → first_child TRACK_NUMBER entry ≡ o → 0 < number_of entry → IsSome o
unfolding entry_of table
number-there entry (Some n) is above = refl
number-there entry None is above = let none : 0 < 0 = rw is at above in absurd (omega arith)

-- The first TrackNumber of a track isn't 0.
number-not_bad : (entry m : Node) → IsTrack entry → first_child TRACK_NUMBER entry ≡ Some m → (integer_of m == 0) ≡ true → ⊥
number-not_bad entry m track is bad = let above : 0 < integer_of m = rw is at track.number in (grind (arith, nat_tests))

duration-not_bad : (entry m : Node) → IsTrack entry → first_child DEFAULT_DURATION entry ≡ Some m → nat_le too_long (integer_of m) ≡ true → ⊥
duration-not_bad entry m track is bad = let below : integer_of m < too_long = rw is at track.duration in (grind (arith, nat_tests))

none-bad : (entry : Node) (o : Option Node) → IsTrack entry → find is_bad (firsts (children entry)) ≡ o → o ≡ None
none-bad entry None track found = refl
none-bad entry (Some m) track found =
    let there = firsts-some is_bad (children entry) m found in
    let at : (id : ℕ) → (id_of m == id) ≡ true → first_child id entry ≡ Some m =
    λ id same. let P : ℕ → Type 0 = λ k. find (λ n. id_of n == k) (children entry) ≡ Some m in subst P (eqb-true (id_of m) id same) there.0 in
    absurd (elim (either (id_of m == TRACK_NUMBER) (integer_of m == 0) (id_of m == DEFAULT_DURATION) (nat_le too_long (integer_of m)) there.1) [
      | inl is ↦ number-not_bad entry m track (at TRACK_NUMBER is.0) is.1
      | inr is ↦ duration-not_bad entry m track (at DEFAULT_DURATION is.0) is.1
    ])

bad_value-none : (entry : Node) → IsTrack entry → bad_value entry ≡ None
bad_value-none entry track = ap (option_map (λ n. damage BadValue (id_of n) (offset_of n))) (none-bad entry (find is_bad (firsts (children entry))) track refl)

missing_child-none : (entry : Node) → IsTrack entry → missing_child entry ≡ None
missing_child-none entry track =
    there-all (λ id. damage MissingChild id (offset_of entry)) (first_child TRACK_NUMBER entry) (first_child TRACK_TYPE entry) (first_child CODEC_ID entry)
    (number-there entry (first_child TRACK_NUMBER entry) refl track.number) track.type track.codec

-- ---- all entries

head-none : (cause : Node → Option Damage) (e : Node) (es : List Node) → first_in cause (e ∷ es) ≡ None → (cause e ≡ None) × (first_in cause es ≡ None)
head-none cause e es none = split (cause e) refl none
  where
    split : (o : Option Damage) → cause e ≡ o → first_damage (o ∷ map cause es) ≡ None → (cause e ≡ None) × (first_in cause es ≡ None)
    split None is none = (is, none)
    split (Some d) is none = absurd (cc)

tracks-from_none : (es : List Node) → first_in bad_value es ≡ None → first_in missing_child es ≡ None → All IsTrack es
tracks-from_none [] good whole = All-nil IsTrack
tracks-from_none (e ∷ es) good whole =
    let g = head-none bad_value e es good in
    let w = head-none missing_child e es whole in
    All-cons IsTrack e es (track-from_none e g.0 w.0) (tracks-from_none es g.1 w.1)

none-from_tracks : (cause : Node → Option Damage) → ((e : Node) → IsTrack e → cause e ≡ None) → (es : List Node) → All IsTrack es → first_in cause es ≡ None
none-from_tracks cause fine [] all = refl
none-from_tracks cause fine (e ∷ es) all = rw (fine e (All-head IsTrack e es all)) (none-from_tracks cause fine es (All-tail IsTrack e es all))

repeated-none : (es : List Node) (o : Option ℕ) → first_repeated (map number_of es) ≡ o → option_and_then (told_at es (damage RepeatedTrack TRACK_NUMBER)) o ≡ None → o ≡ None
repeated-none es None is none = refl
repeated-none es (Some k) is none =
    let past : length es ≤ k = get-none es k (map-none _ (slice_get es k) none) in
    let within : k < 0 + length (map number_of es) = find-within (is_repeated (map number_of es)) 0 (length (map number_of es)) k is in
    absurd (omega (arith, length-map es number_of))

-- ---- the causes together

four-none : (a b c d : Option Damage) → first_damage (a ∷ b ∷ c ∷ d ∷ []) ≡ None → (a ≡ None) × (b ≡ None) × (c ≡ None) × (d ≡ None)
four-none None None None None is = (refl, refl, refl, refl)
four-none None None None (Some d) is = absurd (cc)
four-none None None (Some c) d is = absurd (cc)
four-none None (Some b) c d is = absurd (cc)
four-none (Some a) b c d is = absurd (cc)

-- A Tracks Element is refused if and only if its entries aren't tracks.
pub refusal-none : (tracks : Node) → (refusal_of tracks ≡ None) ↔ AreTracks (entries_of tracks)
refusal-none tracks = (λ is. to (entries_of tracks) is, λ are. from (entries_of tracks) are)
  where
    to : (es : List Node) → first_damage (causes es) ≡ None → AreTracks es
    to es is =
        let all = four-none (first_in bad_value es) (first_in missing_child es) (repeated_number es) (too_many es) is in
        record {
          each = tracks-from_none es all.0 all.1;
          distinct = distinct-from_none (map number_of es) (repeated-none es (first_repeated (map number_of es)) refl all.2);
          few = get-none es most_tracks (map-none _ (slice_get es most_tracks) all.3);
        }

    from : (es : List Node) → AreTracks es → first_damage (causes es) ≡ None
    from es are =
        rw (none-from_tracks bad_value bad_value-none es are.each, none-from_tracks missing_child missing_child-none es are.each, none-from_distinct (map number_of es) are.distinct, none-get es most_tracks are.few) refl
