-- The entries of a SubRip text are within its limits, and its track can be selected.
use Rattle.std.proofs.Common.{◌≡◌, ℕ, ◌+◌, ◌*◌, ◌<◌, ◌≤◌, ◌^◌, ◌==◌, nat_lt, nat_le, Bool, true, false, ◌&&◌, ◌||◌, if◌then◌else◌, List, [], ◌∷◌, ◌++◌, length, take, drop, Option, Some, None, IfSome, Ok, Err, codes, append-nil, refl, ap, subst, ◌∙◌, arith}
use Rattle.std.specs.Prelude.{slice_index, option_and_then}
use Rattle.std.specs.Char.{digit_value, is_ascii_digit}
use Rattle.std.specs.List.{All, list_all}
use Rattle.std.specs.Str.{IsUtf8}
use Rattle.std.specs.Str.Parse.{AllDigits, digits_value}
use Rattle.std.proofs.lemmas.Bool.Decides.{nat_tests}
use Rattle.std.proofs.lemmas.Grind.{common_steps}
use Rattle.std.proofs.lemmas.Int.Digits.{digits_value-lt}
use Rattle.std.proofs.lemmas.List.Elements.{All-cons, All-head, All-nil, All-tail}
use lib.Utf8.{encode}
use Rattle.mkv_schema.specs.declared.ids.TheConstants.{TRACK_ENTRY, TRACK_NUMBER, TRACK_UID, TRACK_TYPE, FLAG_LACING, LANGUAGE, CODEC_ID}
use Rattle.mkv_schema.specs.Outline.{first_damage}
use Rattle.tree_format.specs.Node.{HasRoom}
use Rattle.file_format.specs.Encoding.{usable_causes}
use Rattle.file_format.specs.Tracks.{IsTrack}
use Rattle.track_records.specs.Sound.{IsEntry}
use Rattle.track_records.specs.Track.{track_of}
use Rattle.track_records.specs.Usable.{as_stored, causes_of}
use Rattle.track_records.specs.declared.track.Track.{Track}
use Rattle.ebml_tree.proofs.LeafLemmas.{uint-stands, text-stands}
use Rattle.meta_records.specs.Records.{AreRead}
use Rattle.output_model.specs.Sound.{IsKeptElement}
use Rattle.mkv_io.specs.Octets.{cut}
use Rattle.text_formats.specs.Fields.{behind, digits, minutes_or_seconds}
use Rattle.text_formats.specs.Lines.{lines_of}
use Rattle.text_formats.proofs.FieldsLemmas.{most_digits}
use Rattle.mkv_io.specs.declared.entry.Entry.{Entry}
use Rattle.text_formats.specs.Times.{clock, is_number, is_tail, latest, seconds, span, times}
use Rattle.text_formats.specs.Srt.{before_head, by_start, entries, entry, first_bad, head, onto_entries, srt}
use Rattle.mkv_io.specs.Sorted.{insert_by, sorted_by}
use Rattle.text_formats.specs.Srt.{unless_bad as unless_bad_line}
use Rattle.text_formats.specs.Reading.{IsEntryWithin}
use Rattle.text_formats.proofs.LengthLemmas.{texts_short}
use Rattle.input_files.specs.TextFile.{srt_text, unless_bad}
use Rattle.input_files.specs.declared.limits.TheConstants.{MAX_SRT_LEN}
use Rattle.input_files.specs.declared.refusal.TextRefusal.TheVariants.{TooLarge}
use Rattle.input_files.specs.Track.{text_entry}
use Rattle.input_files.proofs.TextFacts.{is_track, is_usable, says}
use Rattle.input_files.proofs.TrackLemmas.{codec-in, lacing-in, language-in, number-in, type-in, uid-in}
use Rattle.merge_model.specs.Links.{entry_block}
use Rattle.output_laws.specs.Read.{IsReadBlock}
use Rattle.requests.specs.declared.merge.FileWords.{FileWords}
use Rattle.merge_inputs.specs.Select.{is_taken}
use Rattle.merge_inputs.specs.Taken.{first_unusable, taken_from, taken_track, track_for}

-- ---- optional values

-- A fact about a value gives a fact about its result.
then-some : {A B : Type 0} (Q : A → Type 0) (P : B → Type 0) (o : Option A) (f : A → Option B) → IfSome o Q → ((x : A) → Q x → IfSome (f x) P) → IfSome (option_and_then f o) P
then-some Q P None f is more = tt
then-some Q P (Some x) f is more = more x is

-- A fact about every value gives a fact about its result.
then-any : {A B : Type 0} (P : B → Type 0) (o : Option A) (f : A → Option B) → ((x : A) → IfSome (f x) P) → IfSome (option_and_then f o) P
then-any P None f more = tt
then-any P (Some x) f more = more x

when-some : {A : Type 0} (P : A → Type 0) (b : Bool) (x : A) → P x → IfSome (if b then Some x else None) P
when-some P true x is = is
when-some P false x is = tt

-- ---- digits

digit-small : (c : ℕ) → is_ascii_digit c ≡ true → digit_value c < 10
digit-small c is = grind (arith, nat_tests, common_steps)

all-digits : (ds : List ℕ) → list_all is_ascii_digit ds ≡ true → AllDigits 10 ds
all-digits [] all = tt
all-digits (c ∷ cs) all = of (is_ascii_digit c) refl (list_all is_ascii_digit cs) refl (all-digits cs) all
  where
    of : (a : Bool) → is_ascii_digit c ≡ a → (b : Bool) → list_all is_ascii_digit cs ≡ b → (list_all is_ascii_digit cs ≡ true → AllDigits 10 cs) → (a && b) ≡ true → AllDigits 10 (c ∷ cs)
    of true is true others rest both = (digit-small c is, rest others)
    of true is false others rest both = absurd (cc)
    of false is b others rest both = absurd (cc)

digits-small : (least most : ℕ) (word : List ℕ) → IfSome (digits least most word) (λ (n : ℕ). n < 10 ^ most)
unfolding digits
digits-small least most word = of (nat_le least (length word)) (nat_le (length word) most) refl (list_all is_ascii_digit word) refl
  where
    of : (a b : Bool) → nat_le (length word) most ≡ b → (c : Bool) → list_all is_ascii_digit word ≡ c → IfSome (if a && b && c then Some (digits_value 10 word) else None) (λ (n : ℕ). n < 10 ^ most)
    of true true short true all = most_digits (digits_value 10 word) (length word) most (digits_value-lt 10 word (all-digits word all)) (grind (arith, nat_tests))
    of true true short false all = tt
    of true false short c all = tt
    of false b short c all = tt

-- ---- times

minutes_or_seconds-small : (word : List ℕ) → IfSome (minutes_or_seconds word) (λ (n : ℕ). n < 60)
unfolding minutes_or_seconds
minutes_or_seconds-small word = then-any (λ (n : ℕ). n < 60) (digits 2 2 word) (λ n. if nat_lt n 60 then Some n else None) (λ n. of n (nat_lt n 60) refl)
  where
    of : (n : ℕ) (b : Bool) → nat_lt n 60 ≡ b → IfSome (if b then Some n else None) (λ (k : ℕ). k < 60)
    of n true is = grind (arith, nat_tests)
    of n false is = tt

seconds-small : (word : List ℕ) → IfSome (seconds word) (λ (n : ℕ). n < 60000)
unfolding seconds
seconds-small word =
    then-some (λ (s : ℕ). s < 60) (λ (n : ℕ). n < 60000) (minutes_or_seconds (take 2 word)) _ (minutes_or_seconds-small (take 2 word)) (λ s below.
    then-some (λ (m : ℕ). m < 10 ^ 3) (λ (n : ℕ). n < 60000) (digits 3 3 (take 3 (drop 3 word))) _ (digits-small 3 3 (take 3 (drop 3 word))) (λ m few.
    when-some (λ (n : ℕ). n < 60000) (slice_index word 2 == 44 || slice_index word 2 == 46) (s * 1000 + m) (omega arith)))

clock-small : (word : List ℕ) → IfSome (clock word) (λ (c : ℕ × List ℕ). c.0 < latest)
unfolding clock
clock-small word =
    then-any (λ (c : ℕ × List ℕ). c.0 < latest) (cut 58 word) _ (λ h.
    then-any (λ (c : ℕ × List ℕ). c.0 < latest) (cut 58 h.1) _ (λ m.
    then-some (λ (n : ℕ). n < 10 ^ 4) (λ (c : ℕ × List ℕ). c.0 < latest) (digits 2 4 h.0) _ (digits-small 2 4 h.0) (λ hours few.
    then-some (λ (n : ℕ). n < 60) (λ (c : ℕ × List ℕ). c.0 < latest) (minutes_or_seconds m.0) _ (minutes_or_seconds-small m.0) (λ minutes below.
    then-some (λ (n : ℕ). n < 60000) (λ (c : ℕ × List ℕ). c.0 < latest) (seconds m.1) _ (seconds-small m.1) (λ rest short.
    omega arith)))))

-- The entry ends within 10,000 hours.
abbrev IsEarly : Entry → Type 0
IsEarly e = e.start + e.duration < latest

times-early : (line : List ℕ) → IfSome (times line) (λ t. IsEarly (entry t []))
unfolding times
times-early line =
    then-some (λ (c : ℕ × List ℕ). c.0 < latest) _ (clock line) _ (clock-small line) (λ begin early.
    then-any _ (behind (codes " --> ") begin.1) _ (λ rest.
    then-some (λ (c : ℕ × List ℕ). c.0 < latest) _ (clock rest) _ (clock-small rest) (λ end late.
    when-some _ (is_tail end.1) (span begin.0 end.0) (omega arith))))

head-early : (ls : List (List ℕ)) → IfSome (head ls) (λ t. IsEarly (entry t []))
unfolding head
head-early [] = tt
head-early (n ∷ []) = tt
head-early (n ∷ (t ∷ ls)) = of (is_number n)
  where
    of : (b : Bool) → IfSome (if b then times t else None) (λ x. IsEarly (entry x []))
    of true = times-early t
    of false = tt

-- ---- entries

entries-early : (ls : List (List ℕ)) → All IsEarly (entries ls)
unfolding entries
entries-early [] = All-nil IsEarly
entries-early (l ∷ ls) =
    (elim (head (l ∷ ls)) as (λ o. IfSome o (λ t. IsEarly (entry t [])) → All IsEarly (onto_entries o (before_head (drop 1 ls)) (entries ls))) [
      | None ↦ λ early. entries-early ls
      | Some t ↦ λ early. All-cons IsEarly (entry t (before_head (drop 1 ls))) (entries ls) early (entries-early ls)
    ]) (head-early (l ∷ ls))

module _ {A : Type 0} (P : A → Type 0) (key : A → ℕ) where
  insert-all : (x : A) (ys : List A) → P x → All P ys → All P (insert_by key x ys)
  insert-all x [] is each = All-cons P x [] is (All-nil P)
  insert-all x (y ∷ ys) is each = of (nat_lt (key y) (key x)) (insert-all x ys is (All-tail P y ys each))
    where
      of : (b : Bool) → All P (insert_by key x ys) → All P (if b then y ∷ insert_by key x ys else x ∷ y ∷ ys)
      of true rest = All-cons P y (insert_by key x ys) (All-head P y ys each) rest
      of false rest = All-cons P x (y ∷ ys) is each

  sorted-all : (xs : List A) → All P xs → All P (sorted_by key xs)
  sorted-all [] each = All-nil P
  sorted-all (x ∷ xs) each = insert-all x (sorted_by key xs) (All-head P x xs each) (sorted-all xs (All-tail P x xs each))

-- The entries of a text are within its limits.
pub entries-within : (bytes : List ℕ) (es : List Entry) → srt_text bytes ≡ Ok es → All (IsEntryWithin MAX_SRT_LEN) es
unfolding srt
entries-within bytes es = of (nat_lt MAX_SRT_LEN (length bytes)) refl
  where
    found : List Entry
    found = entries (lines_of bytes)

    within : length bytes ≤ MAX_SRT_LEN → All (IsEntryWithin MAX_SRT_LEN) found
    within fits = λ k d below. (let short = texts_short bytes k d below in (entries-early (lines_of bytes) k d below, omega arith))

    good : (bad : Option ℕ) → length bytes ≤ MAX_SRT_LEN → unless_bad (unless_bad_line bad (by_start found)) ≡ Ok es → All (IsEntryWithin MAX_SRT_LEN) es
    good None fits is =
        let same : by_start found ≡ es = cc in
        subst (All (IsEntryWithin MAX_SRT_LEN)) same (sorted-all (IsEntryWithin MAX_SRT_LEN) (λ (e : Entry). e.start) found (within fits))
    good (Some line) fits is = absurd (cc)

    of : (long : Bool) → nat_lt MAX_SRT_LEN (length bytes) ≡ long → (if long then Err TooLarge else unless_bad (srt bytes)) ≡ Ok es → All (IsEntryWithin MAX_SRT_LEN) es
    of true long is = absurd (cc)
    of false long is = good (first_bad (lines_of bytes)) (grind (arith, nat_tests)) is

-- Each entry is a block as a reader finds it.
pub entry-read : (e : Entry) → IsEntryWithin MAX_SRT_LEN e → IsReadBlock (entry_block e)
entry-read e is =
    let early = is.0 in
    let short = is.1 in
    record {
      small = record {
        time = omega arith;
        duration = omega arith;
        references = All-nil _;
        few = omega arith;
        frames = record { some = omega arith; most = omega arith; total = omega arith; fits = refl };
        kept = omega arith;
      };
      kind = record { simple = λ alone. absurd (cc); group = λ grouped. record { key = refl; discardable = refl; kept = ([], refl, All-nil IsKeptElement) } };
    }

-- ---- its track

language-text : IsUtf8 (codes "und")
unfolding encode
language-text = (codes "und", (refl, refl))

codec-text : IsUtf8 (codes "S_TEXT/UTF8")
unfolding encode
codec-text = (codes "S_TEXT/UTF8", (refl, refl))

text-sound : IsEntry text_entry
text-sound = record {
  id = refl;
  sound = (
    uint-stands TRACK_ENTRY TRACK_NUMBER 1 number-in (omega arith),
    (
      uint-stands TRACK_ENTRY TRACK_UID 0 uid-in (omega arith),
      (
        uint-stands TRACK_ENTRY TRACK_TYPE 17 type-in (omega arith),
        (
          uint-stands TRACK_ENTRY FLAG_LACING 0 lacing-in (omega arith),
          (
            text-stands TRACK_ENTRY LANGUAGE (codes "und") language-in language-text,
            (text-stands TRACK_ENTRY CODEC_ID (codes "S_TEXT/UTF8") codec-in codec-text, tt),
          ),
        ),
      ),
    ),
  );
}

only : (P : Track → Type 0) → P (track_of text_entry) → All P (track_of text_entry ∷ [])
only P is = All-cons P (track_of text_entry) [] is (All-nil P)

-- The track has the values of its entry.
pub text-read : AreRead (track_of text_entry ∷ [])
text-read = record {
  said = only (λ (t : Track). t ≡ track_of t.entry) refl;
  sound = only (λ (t : Track). IsEntry t.entry) text-sound;
  each = only (λ (t : Track). IsTrack t.entry) is_track;
  room = only (λ (t : Track). HasRoom t.entry) (omega arith);
}

-- Its identifier has 64 bits.
pub text-uids : All (λ (t : Track). t.uid < 2 ^ 64) (track_of text_entry ∷ [])
text-uids = only (λ (t : Track). t.uid < 2 ^ 64) (omega (arith, says.uid))

-- Its frames can be used, whatever the options are.
pub text-usable : (words : FileWords) → first_unusable (taken_from words 0 (track_of text_entry ∷ [])) ≡ None
text-usable words = of (is_taken words 0 (track_of text_entry).kind)
  where
    own : (keep : Bool) → causes_of (record (track_of text_entry) { stored = keep && (as_stored (track_of text_entry)).stored }) ≡ usable_causes text_entry
    own true = refl
    own false = refl

    of : (taken : Bool) → first_unusable ((if taken then taken_track words 0 (track_of text_entry) ∷ [] else []) ++ []) ≡ None
    of true = ap first_damage (append-nil (causes_of (track_for words (track_of text_entry))) ∙ own words.keep_encodings) ∙ is_usable
    of false = refl
