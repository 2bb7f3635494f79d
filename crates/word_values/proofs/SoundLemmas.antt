-- Every value that is read from an argument keeps its limits.
use Rattle.std.proofs.Common.{◌≡◌, ◌<◌, ◌≤◌, ℕ, zero, suc, ◌+◌, ◌-◌, ◌*◌, ◌^◌, min, ℤ, pos, Bool, true, false, ◌&&◌, nat_lt, nat_le, if◌then◌else◌, List, [], ◌∷◌, length, take, drop, get_or, Option, Some, None, option_map, refl, subst, arith}
use Rattle.std.specs.Prelude.{nat_abs, neg_ℤ, slice_index, ◌==◌, codes, All}
use Rattle.std.specs.List.{list_all, list_any, position}
use Rattle.std.specs.Str.{IsUtf8, bytes_eq}
use Rattle.std.proofs.lemmas.Bool.Decides.{nat_tests}
use Rattle.std.proofs.lemmas.List.Elements.{All-nil, All-cons}
use Rattle.std.proofs.lemmas.List.Quantifiers.{position-Some}
use Rattle.std.proofs.lemmas.Str.{IsUtf8-drop, IsCharBoundary-after_ascii}
use Rattle.requests.specs.declared.split.SpanWords.{SpanWords}
use Rattle.requests.specs.declared.split.SplitWords.{SplitWords}
use Rattle.requests.specs.declared.split.SplitWords.TheVariants.{Duration, Times, Parts, AllChapters, Chapters, Size}
use Rattle.word_values.specs.declared.values.ValueForm.{ValueForm}
use Rattle.word_values.specs.declared.values.ValueForm.TheVariants as form
use Rattle.word_values.specs.declared.values.Value.{Value}
use Rattle.word_values.specs.declared.values.Value.TheVariants.{Flag, File, Text, Scale, Blocks, Span, Split, Uuids, Order, Tracks, TrackDelay, TrackText, TrackLanguage, TrackLanguageTag, TrackFlag, TrackCues, TrackFile}
use Rattle.requests.specs.declared.track.Select.TheVariants.{Off}
use Rattle.mkv_io.specs.Characters.{COLON, DASH, char}
use Rattle.mkv_io.specs.Optional.{◌>>=◌}
use Rattle.mkv_io.specs.Octets.{cut}
use Rattle.word_values.specs.Numbers.{from, delay_size, delay, ends, front, clock, time, amount, times_unit, size, uuid}
use Rattle.requests.specs.Decimal.{below, number, whole}
use Rattle.requests.specs.Language.{is_language_tag}
use Rattle.word_values.specs.Lists.{pieces, onto, each, passing, times, span_of, span, spans, uuids, numbers, ids, duration, order, chapters, split_of, split}
use Rattle.requests.specs.Lists.{ascend, follow, differ}
use Rattle.word_values.specs.Values.{flag_of, text, full_text, is_printable, is_media_type, media_type, is_language, language, language_tag, scale, cluster_length, track_and_rest, flag_in, track_flag, cue_word, track_value, value_of}
use Rattle.word_values.proofs.AnswerLemmas.{either}
use Rattle.requests.proofs.DecimalLemmas.{whole_small}
use Rattle.word_values.specs.Sound.{IsSoundValue}
use Rattle.requests.specs.Sound.{IsWithin, AreTimes, IsSpan, AreSpans, AreUuids, IsSoundSplit}
use Rattle.lemmas.proofs.PlainLemmas.{both-true as conj}

-- ---- numbers

-- A mapped value has its origin.
pub mapped : {A B : Type 0} (P : B → Type 0) (f : A → B) (o : Option A) (y : B) → option_map f o ≡ Some y → ((x : A) → o ≡ Some x → P (f x)) → P y
mapped P f None y is keeps = absurd (cc)
mapped P f (Some x) y is keeps = let same : f x ≡ y = cc in subst P same (keeps x refl)

-- A value that follows another has its origin.
pub read_then : {A B : Type 0} (P : Type 0) (o : Option A) (f : A → Option B) (y : B) → (o >>= f) ≡ Some y → ((x : A) → o ≡ Some x → f x ≡ Some y → P) → P
read_then P None f y is keeps = absurd (cc)
read_then P (Some x) f y is keeps = keeps x refl is

pub below-is : (limit : ℕ) (o : Option ℕ) (n : ℕ) → below limit o ≡ Some n → (n < limit) × (o ≡ Some n)
below-is limit None n is = absurd (cc)
below-is limit (Some k) n is = split (nat_lt k limit) refl is
  where
    split : (b : Bool) → nat_lt k limit ≡ b → (if b then Some k else None) ≡ Some n → (n < limit) × (Some k ≡ Some n)
    split true test found = let same : k ≡ n = cc in let P : ℕ → Type 0 = λ i. i < limit in (subst P same (grind (arith, nat_tests)), found)
    split false test found = absurd (cc)

pub from-is : (least : ℕ) (o : Option ℕ) (n : ℕ) → from least o ≡ Some n → (least ≤ n) × (o ≡ Some n)
from-is least None n is = absurd (cc)
from-is least (Some k) n is = split (nat_le least k) refl is
  where
    split : (b : Bool) → nat_le least k ≡ b → (if b then Some k else None) ≡ Some n → (least ≤ n) × (Some k ≡ Some n)
    split true test found = let same : k ≡ n = cc in let P : ℕ → Type 0 = λ i. least ≤ i in (subst P same (grind (arith, nat_tests)), found)
    split false test found = absurd (cc)

-- A number from `least` on and below `limit` is within both.
within : (least limit : ℕ) (o : Option ℕ) (n : ℕ) → below limit (from least o) ≡ Some n → IsWithin least (limit - 1) n
within least limit o n is =
    let under = below-is limit (from least o) n is in
    let over = from-is least o n under.1 in
    let small = under.0 in
    record { least = over.0; most = omega arith }

abs-negative : (n : ℕ) → nat_abs (neg_ℤ (pos n)) ≡ n
abs-negative zero = refl
abs-negative (suc n) = omega arith

-- ---- a delay

small-delay_size : (word : List ℕ) (n : ℕ) → delay_size word ≡ Some n → n < 2 ^ 55
unfolding delay_size
small-delay_size word n is = (below-is (2 ^ 55) (option_map (λ k. k * 1000000) (number word)) n is).0

small-delay : (word : List ℕ) (d : ℤ) → delay word ≡ Some d → nat_abs d < 2 ^ 55
unfolding delay
small-delay word d is =
    either (nat_abs d < 2 ^ 55) (slice_index word 0 == DASH) _ _ _ is
    (λ found. mapped (λ z. nat_abs z < 2 ^ 55) (λ n. neg_ℤ (pos n)) (delay_size (drop 1 word)) d found (λ n here. let small = small-delay_size (drop 1 word) n here in rw (abs-negative n) small))
    (λ found. mapped (λ z. nat_abs z < 2 ^ 55) pos (delay_size word) d found (small-delay_size word))

-- ---- lists

onto-is : {X : Type 0} (P : List X → Type 0) (o : Option X) (os : Option (List X)) (ys : List X) → onto o os ≡ Some ys → ((x : X) (xs : List X) → o ≡ Some x → os ≡ Some xs → P (x ∷ xs)) → P ys
onto-is P None os ys is keeps = absurd (cc)
onto-is P (Some x) None ys is keeps = absurd (cc)
onto-is P (Some x) (Some xs) ys is keeps = let same : x ∷ xs ≡ ys = cc in subst P same (keeps x xs refl refl)

-- If each piece satisfies `P`, the whole list does.
each-all : {X : Type 0} (P : X → Type 0) (read : List ℕ → Option X) (ps : List (List ℕ)) (xs : List X) → ((p : List ℕ) (x : X) → read p ≡ Some x → P x) → each read ps ≡ Some xs → All P xs
each-all P read [] xs keeps is = let none : [] ≡ xs = cc in subst (All P) none (All-nil P)
each-all P read (p ∷ ps) xs keeps is =
    onto-is (All P) (read p) (each read ps) xs is (λ y ys one others. All-cons P y ys (keeps p y one) (each-all P read ps ys keeps others))

passing-is : {X : Type 0} (test : X → Bool) (o : Option X) (x : X) → passing test o ≡ Some x → (test x ≡ true) × (o ≡ Some x)
passing-is test None x is = absurd (cc)
passing-is {X} test (Some y) x is = branch (test y) refl is
  where
    branch : (b : Bool) → test y ≡ b → (if b then Some y else None) ≡ Some x → (test x ≡ true) × (Some y ≡ Some x)
    branch true passes found = let same : y ≡ x = cc in let P : X → Type 0 = λ z. test z ≡ true in (subst P same passes, found)
    branch false fails found = absurd (cc)

small-time : (word : List ℕ) (t : ℕ) → time word ≡ Some t → t < 2 ^ 63
unfolding time
small-time word t is = (below-is (2 ^ 63) (if ends word 115 then option_map (λ n. n * 1000000000) (whole (front word)) else clock word) t is).0

times-sound : (word : List ℕ) (ts : List ℕ) → times word ≡ Some ts → AreTimes ts
unfolding times
times-sound word ts is =
    let both = passing-is ascend (each time (pieces word)) ts is in
    record { ascend = both.0; below = each-all (λ t. t < 2 ^ 63) time (pieces word) ts small-time both.1 }

span_of-sound : (p : List ℕ × List ℕ) (s : SpanWords) → span_of p ≡ Some s → IsSpan s
span_of-sound (start, []) s is = mapped IsSpan (λ (t : ℕ). let x : SpanWords = record { start = t; end = None } in x) (time start) s is (λ t here. record { start = small-time start t here; end = tt })
span_of-sound (start, e ∷ es) s is =
    read_then (IsSpan s) (time start) _ s is (λ t here more.
    read_then (IsSpan s) (time (e ∷ es)) _ s more (λ u there last.
    let made : SpanWords = record { start = t; end = Some u } in
    let same : made ≡ s = cc in
    subst IsSpan same (record { start = small-time start t here; end = small-time (e ∷ es) u there })))

span-sound : (word : List ℕ) (s : SpanWords) → span word ≡ Some s → IsSpan s
unfolding span
span-sound word s is = read_then (IsSpan s) (cut DASH word) span_of s is (λ p here more. span_of-sound p s more)

spans-sound : (word : List ℕ) (ss : List SpanWords) → spans word ≡ Some ss → AreSpans ss
unfolding spans
spans-sound word ss is =
    let both = passing-is (follow 0) (each span (pieces word)) ss is in
    record { follow = both.0; each = each-all IsSpan span (pieces word) ss span-sound both.1 }

uuids-sound : (word : List ℕ) (us : List ℕ) → uuids word ≡ Some us → AreUuids us
unfolding uuids
uuids-sound word us is =
    let both = passing-is (λ us. nat_le (length us) 1024 && differ us) (each uuid (pieces word)) us is in
    let parts = conj (nat_le (length us) 1024) (differ us) both.0 in
    let few = parts.0 in
    record { few = grind (arith, nat_tests); differ = parts.1 }

-- ---- splits

amount-sound : (word : List ℕ) (n : ℕ) → amount word ≡ Some n → IsWithin 1 (10 ^ 12) n
unfolding amount
amount-sound word n is = branch (nat_le (length word) 12) refl is
  where
    branch : (b : Bool) → nat_le (length word) 12 ≡ b → (if b then from 1 (whole word) else None) ≡ Some n → IsWithin 1 (10 ^ 12) n
    branch true short found =
        let both = from-is 1 (whole word) n found in
        let twelve : length word ≤ 12 = grind (arith, nat_tests) in
        let small = whole_small 12 word n both.1 twelve in
        let low = both.0 in
        record { least = low; most = omega arith }
    branch false long found = absurd (cc)

times_unit-sound : (unit : ℕ) (word : List ℕ) (n : ℕ) → ((k : ℕ) → 1 ≤ k → 1 ≤ k * unit) → times_unit unit (amount word) ≡ Some n → IsWithin 1 (2 ^ 64 - 1) n
times_unit-sound unit word n grows is =
    mapped (IsWithin 1 (2 ^ 64 - 1)) (λ k. min (k * unit) (2 ^ 64 - 1)) (amount word) n is (λ k here.
    let low = grows k (amount-sound word k here).least in
    record { least = omega arith; most = omega arith })

size-sound : (word : List ℕ) (n : ℕ) → size word ≡ Some n → IsWithin 1 (2 ^ 64 - 1) n
unfolding size
size-sound word n is =
    either (IsWithin 1 (2 ^ 64 - 1) n) (ends word (char "k")) _ _ _ is (times_unit-sound 1024 (front word) n (λ i h. omega arith)) (λ no_k.
    either (IsWithin 1 (2 ^ 64 - 1) n) (ends word (char "m")) _ _ _ no_k (times_unit-sound 1048576 (front word) n (λ i h. omega arith)) (λ no_m.
    either (IsWithin 1 (2 ^ 64 - 1) n) (ends word (char "g")) _ _ _ no_m (times_unit-sound 1073741824 (front word) n (λ i h. omega arith)) (λ no_g.
    let kept = amount-sound word n no_g in
    let low = kept.least in let high = kept.most in
    record { least = low; most = omega arith })))

duration-sound : (word : List ℕ) (s : SplitWords) → duration word ≡ Some s → IsSoundSplit s
unfolding duration
duration-sound word s is =
    mapped IsSoundSplit Duration (from 1 (time word)) s is (λ n here.
    let both = from-is 1 (time word) n here in
    let low = both.0 in
    let small = small-time word n both.1 in
    record { least = low; most = omega arith })

chapters-sound : (word : List ℕ) (s : SplitWords) → chapters word ≡ Some s → IsSoundSplit s
unfolding chapters
chapters-sound word s is =
    either (IsSoundSplit s) (bytes_eq word (codes "all")) _ _ _ is
    (λ found. let same : AllChapters ≡ s = cc in subst IsSoundSplit same tt)
    (λ found. mapped IsSoundSplit Chapters (numbers word) s found (λ ns here. tt))

split_of-sound : (kind rest : List ℕ) (s : SplitWords) → split_of kind rest ≡ Some s → IsSoundSplit s
unfolding split_of
split_of-sound kind rest s is =
    either (IsSoundSplit s) (bytes_eq kind (codes "duration")) _ _ _ is (duration-sound rest s) (λ other.
    either (IsSoundSplit s) (bytes_eq kind (codes "timestamps")) _ _ _ other (λ found. mapped IsSoundSplit Times (times rest) s found (times-sound rest)) (λ other.
    either (IsSoundSplit s) (bytes_eq kind (codes "chapters")) _ _ _ other (chapters-sound rest s) (λ other.
    either (IsSoundSplit s) (bytes_eq kind (codes "parts")) _ _ _ other (λ found. mapped IsSoundSplit Parts (spans rest) s found (spans-sound rest)) (λ other.
    either (IsSoundSplit s) (bytes_eq kind (codes "size")) _ _ _ other (λ found. mapped IsSoundSplit Size (size rest) s found (size-sound rest)) (λ never. absurd (cc))))))

split-sound : (word : List ℕ) (s : SplitWords) → split word ≡ Some s → IsSoundSplit s
unfolding split
split-sound word s is = read_then (IsSoundSplit s) (cut COLON word) (λ p. split_of p.0 p.1) s is (λ p here more. split_of-sound p.0 p.1 s more)

-- ---- texts

text-same : (word t : List ℕ) → text word ≡ Some t → word ≡ t
unfolding text
text-same word t is = either (word ≡ t) (list_any (λ b. b == 0) word) _ _ _ is (λ never. absurd (cc)) (λ found. cc)

language-same : (word t : List ℕ) → language word ≡ Some t → word ≡ t
unfolding language
language-same word t is = either (word ≡ t) (is_language word) _ _ _ is (λ found. cc) (λ never. absurd (cc))

tag-same : (word t : List ℕ) → language_tag word ≡ Some t → word ≡ t
unfolding language_tag
tag-same word t is = either (word ≡ t) (is_language_tag word) _ _ _ is (λ found. cc) (λ never. absurd (cc))

full-plain : (word t : List ℕ) → full_text word ≡ Some t → text word ≡ Some t
unfolding full_text
full-plain word t is = either (text word ≡ Some t) (length word == 0) _ _ _ is (λ never. absurd (cc)) (λ found. found)

-- A printable character isn't a zero byte.
printable-some : (octet : ℕ) → is_printable octet ≡ true → (octet == 0) ≡ false
printable-some octet is = let parts = conj (nat_le 32 octet) (nat_le octet 126) is in let least = parts.0 in grind (arith, nat_tests)

printable-text : (word : List ℕ) → list_all is_printable word ≡ true → list_any (λ b. b == 0) word ≡ false
printable-text [] all = refl
printable-text (b ∷ bs) all =
    let parts = conj (is_printable b) (list_all is_printable bs) all in
    rw (printable-some b parts.0) (printable-text bs parts.1)

-- A media type is a text.
media-own : (word t : List ℕ) → media_type word ≡ Some t → (word ≡ t) × (text word ≡ Some word)
unfolding media_type text
media-own word t is = branch (is_media_type word) refl is
  where
    branch : (b : Bool) → is_media_type word ≡ b → (if b then Some word else None) ≡ Some t → (word ≡ t) × ((if list_any (λ b. b == 0) word then None else Some word) ≡ Some word)
    branch true good found =
        let outer = conj (nat_le 1 (length word)) (nat_le (length word) 127 && list_all is_printable word) good in
        let inner = conj (nat_le (length word) 127) (list_all is_printable word) outer.1 in
        (cc, rw (printable-text word inner.1) refl)
    branch false bad found = absurd (cc)

-- The part after a colon is UTF-8 if the whole word is.
behind-colon : (word : List ℕ) (p : List ℕ × List ℕ) → IsUtf8 word → cut COLON word ≡ Some p → IsUtf8 p.1
unfolding cut
behind-colon word p utf8 is =
    mapped (λ (q : List ℕ × List ℕ). IsUtf8 q.1) (λ i. (take i word, drop (i + 1) word)) (position (λ b. b == COLON) word) p is (λ i here.
    let at = position-Some (λ b. b == COLON) word i 0 here in
    let colon = at.1 in
    let low : get_or word i 0 < 128 = grind (arith, nat_tests) in
    IsUtf8-drop word (i + 1) utf8 (IsCharBoundary-after_ascii word i utf8 at.0 low))

rest-text : (word : List ℕ) (p : ℕ × List ℕ) → track_and_rest word ≡ Some p → IsUtf8 word → IsUtf8 p.1
unfolding track_and_rest
rest-text word p is utf8 =
    read_then (IsUtf8 p.1) (cut COLON word) _ p is (λ q here more.
    read_then (IsUtf8 p.1) (number q.0) _ p more (λ id there last.
    let same : (id, q.1) ≡ p = cc in
    let P : ℕ × List ℕ → Type 0 = λ x. IsUtf8 x.1 in
    subst P same (behind-colon word q utf8 here)))

-- ---- the value of an option

-- A text in a value is UTF-8 if `given` holds; one for the whole output has no zero byte.
abbrev pub IsTextIf : Type 0 → Value → Type 0
IsTextIf given (Text t) = (text t ≡ Some t) × (given → IsUtf8 t)
IsTextIf given (TrackText id t) = given → IsUtf8 t
IsTextIf given (TrackLanguage id t) = given → IsUtf8 t
IsTextIf given (TrackLanguageTag id t) = given → IsUtf8 t
IsTextIf given _ = Unit {0}

-- The value keeps its limits, and its text is UTF-8 if `given` holds.
abbrev pub IsRead : Type 0 → Value → Type 0
IsRead given v = IsSoundValue v × IsTextIf given v

length-read : (given : Type 0) (word : List ℕ) (v : Value) → cluster_length word ≡ Some v → IsRead given v
unfolding cluster_length
length-read given word v is =
    either (IsRead given v) (ends word (char "s") && ends (front word) (char "m")) _ _ _ is (λ found.
    mapped (IsRead given) (λ n. Span (n * 1000000)) (below 32001 (from 100 (number (front (front word))))) v found (λ n here.
    let kept = within 100 32001 (number (front (front word))) n here in
    let low = kept.least in let high = kept.most in
    (record { least = omega arith; most = omega arith }, tt)))
    (λ found. mapped (IsRead given) Blocks (below 65536 (from 1 (number word))) v found (λ n here. (within 1 65536 (number word) n here, tt)))

flag_in-read : (given : Type 0) (word : List ℕ) (o : Option (ℕ × List ℕ)) (v : Value) → flag_in word o ≡ Some v → IsRead given v
flag_in-read given word None v is = mapped (IsRead given) (λ id. TrackFlag id true) (number word) v is (λ n here. (tt, tt))
flag_in-read given word (Some p) v is =
    either (IsRead given v) (bytes_eq p.1 (codes "0")) _ _ _ is (λ found. let same : TrackFlag p.0 false ≡ v = cc in subst (IsRead given) same (tt, tt)) (λ other.
    either (IsRead given v) (bytes_eq p.1 (codes "1")) _ _ _ other (λ found. let same : TrackFlag p.0 true ≡ v = cc in subst (IsRead given) same (tt, tt)) (λ never. absurd (cc)))

track_value-read : (given : Type 0) (form : ValueForm) (id : ℕ) (rest : List ℕ) (v : Value) → (given → IsUtf8 rest) → track_value form id rest ≡ Some v → IsRead given v
unfolding track_value
track_value-read given form.TrackDelay id rest v utf8 is = mapped (IsRead given) (λ t. TrackDelay id t) (delay rest) v is (λ t here. (small-delay rest t here, tt))
track_value-read given form.TrackText id rest v utf8 is =
    mapped (IsRead given) (λ t. TrackText id t) (text rest) v is (λ t here. (tt, λ all. subst IsUtf8 (text-same rest t here) (utf8 all)))
track_value-read given form.TrackLanguage id rest v utf8 is =
    mapped (IsRead given) (λ t. TrackLanguage id t) (language rest) v is (λ t here. (tt, λ all. subst IsUtf8 (language-same rest t here) (utf8 all)))
track_value-read given form.TrackLanguageTag id rest v utf8 is =
    mapped (IsRead given) (λ t. TrackLanguageTag id t) (language_tag rest) v is (λ t here. (tt, λ all. subst IsUtf8 (tag-same rest t here) (utf8 all)))
track_value-read given form.TrackCues id rest v utf8 is = mapped (IsRead given) (λ t. TrackCues id t) (cue_word rest) v is (λ t here. (tt, tt))
track_value-read given form.TrackFile id rest v utf8 is = let same : TrackFile id rest ≡ v = cc in subst (IsRead given) same (tt, tt)
track_value-read given _ id rest v utf8 is = absurd (cc)

-- A value that is read keeps its limits, and is UTF-8 if its argument is.
pub value_of-read : (given : Type 0) (form : ValueForm) (word : List ℕ) (v : Value) → (given → IsUtf8 word) → value_of form word ≡ Some v → IsRead given v
unfolding value_of track_flag scale
value_of-read given form.Flag word v utf8 is = absurd (cc)
value_of-read given form.Exclusion word v utf8 is = absurd (cc)
value_of-read given form.Name word v utf8 is = let same : File word ≡ v = cc in subst (IsRead given) same (tt, tt)
value_of-read given form.Text word v utf8 is =
    mapped (IsRead given) Text (text word) v is (λ t here.
    let same = text-same word t here in
    (tt, (subst (λ x. text x ≡ Some t) same here, λ all. subst IsUtf8 same (utf8 all))))
value_of-read given form.FullText word v utf8 is =
    mapped (IsRead given) Text (full_text word) v is (λ t here.
    let plain = full-plain word t here in
    let same = text-same word t plain in
    (tt, (subst (λ x. text x ≡ Some t) same plain, λ all. subst IsUtf8 same (utf8 all))))
value_of-read given form.MediaType word v utf8 is =
    mapped (IsRead given) Text (media_type word) v is (λ t here.
    let own = media-own word t here in
    (tt, (subst (λ x. text x ≡ Some x) own.0 own.1, λ all. subst IsUtf8 own.0 (utf8 all))))
value_of-read given form.Scale word v utf8 is = mapped (IsRead given) Scale (below 10000001 (from 1000 (number word))) v is (λ n here. (within 1000 10000001 (number word) n here, tt))
value_of-read given form.Length word v utf8 is = length-read given word v is
value_of-read given form.Split word v utf8 is = mapped (IsRead given) Split (split word) v is (λ s here. (split-sound word s here, tt))
value_of-read given form.Uuids word v utf8 is = mapped (IsRead given) Uuids (uuids word) v is (λ us here. (uuids-sound word us here, tt))
value_of-read given form.Order word v utf8 is = mapped (IsRead given) Order (order word) v is (λ ps here. (tt, tt))
value_of-read given form.Ids word v utf8 is = mapped (IsRead given) Tracks (ids word) v is (λ s here. (tt, tt))
value_of-read given form.TrackFlag word v utf8 is = flag_in-read given word (track_and_rest word) v is
value_of-read given form word v utf8 is =
    read_then (IsRead given v) (track_and_rest word) (λ p. track_value form p.0 p.1) v is (λ p here more. track_value-read given form p.0 p.1 v (λ all. rest-text word p here (utf8 all)) more)

-- An option without an argument is a flag, or excludes a type of tracks.
pub flag_of-is : (P : Value → Type 0) (f : ValueForm) (v : Value) → flag_of f ≡ Some v → P Flag → P (Tracks Off) → P v
flag_of-is P form.Flag v is flag off = let same : Flag ≡ v = cc in subst P same flag
flag_of-is P form.Exclusion v is flag off = let same : Tracks Off ≡ v = cc in subst P same off
flag_of-is P _ v is flag off = absurd (cc)
