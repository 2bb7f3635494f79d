-- Values of options are read back.
use Rattle.std.proofs.Common.{◌≡◌, ◌<◌, ◌^◌, ℕ, zero, suc, ◌-◌, ◌*◌, ◌/◌, ◌%◌, ℤ, pos, negsuc, Bool, true, false, nat_lt, List, [], ◌∷◌, ◌++◌, length, map, codes, Option, Some, refl, sym, ap, ◌∙◌, arith, append_assoc, All, slice_index, ◌==◌, nat_abs, le-leb, lt-ltb}
use Rattle.std.proofs.lemmas.Bool.{and_parts, and_right}
use Rattle.std.proofs.lemmas.Bool.Decides.{nat_tests}
use Rattle.std.proofs.lemmas.Grind.{common_steps}
use Rattle.std.proofs.lemmas.Fmt.{decimal_nonempty}
use Rattle.std.proofs.lemmas.List.{append-nil}
use Rattle.std.proofs.lemmas.List.Elements.{All-nil, All-cons, All-head, All-tail, All-map, All-weaker}
use Rattle.std.proofs.lemmas.List.Splits.{slice_split_none, slice_split_at}
use Rattle.std.specs.List.{list_all, list_any}
use Rattle.std.specs.Char.{is_ascii_digit}
use Rattle.std.specs.Fmt.{decimal}
use Rattle.requests.specs.declared.track.Select.TheVariants as select
use Rattle.requests.specs.declared.track.CueWord.{CueWord}
use Rattle.requests.specs.declared.track.CueWord.TheVariants as cue
use Rattle.word_values.specs.declared.values.Value.TheVariants.{Scale, Blocks, Span, Tracks, TrackDelay, TrackText, TrackLanguage, TrackLanguageTag, TrackFlag, TrackCues, TrackFile}
use Rattle.word_values.specs.declared.values.ValueForm.TheVariants as form
use Rattle.word_values.specs.Numbers.{delay_size, delay, ends, front}
use Rattle.requests.specs.Decimal.{number}
use Rattle.word_values.specs.Lists.{pieces, each, numbers, ids}
use Rattle.requests.specs.Language.{is_language_tag}
use Rattle.word_values.specs.Values.{text, is_language, language, language_tag, scale, cluster_length, track_flag, cue_word, track_value, value_of}
use Rattle.requests.specs.Sound.{IsWithin}
use Rattle.mkv_io.specs.Octets.{lacks}
use Rattle.word_laws.specs.Values.{HasFewDigits, with_number, with_commas, numbers_word, delay_word, flag_word, cues_word}
use Rattle.mkv_io.proofs.OctetsLemmas.{digit_is_not, lacks_parts, decimal_all, decimal_lacks, first_other}
use Rattle.word_laws.proofs.NumberLemmas.{short_fits, number_read, numbered_read}

-- ---- texts
lacks_any : (o : ℕ) (w : List ℕ) → lacks o w ≡ true → list_any (λ b. b == o) w ≡ false
lacks_any o [] none = refl
lacks_any o (b ∷ bs) none = let parts = lacks_parts o b bs none in rw parts.0 (lacks_any o bs parts.1)

pub text_read : (word : List ℕ) → lacks 0 word ≡ true → text word ≡ Some word
unfolding text
text_read word none = rw (lacks_any 0 word none) refl

pub language_read : (word : List ℕ) → is_language word ≡ true → language word ≡ Some word
unfolding language
language_read word is = rw is refl

pub tag_read : (word : List ℕ) → is_language_tag word ≡ true → language_tag word ≡ Some word
unfolding language_tag
tag_read word is = rw is refl

-- ---- the last byte of a value
digit_at : (ds : List ℕ) (i : ℕ) → list_all is_ascii_digit ds ≡ true → i < length ds → is_ascii_digit (slice_index ds i) ≡ true
digit_at [] i all within = absurd (omega arith)
digit_at (d ∷ ds) zero all within = (and_parts (is_ascii_digit d) (list_all is_ascii_digit ds) all).0
digit_at (d ∷ ds) (suc i) all within = digit_at ds i (and_parts (is_ascii_digit d) (list_all is_ascii_digit ds) all).1 (omega arith)

pub digits_end : (o : ℕ) (ds : List ℕ) → is_ascii_digit o ≡ false → 0 < length ds → list_all is_ascii_digit ds ≡ true → ends ds o ≡ false
digits_end o ds other some all =
    let no = digit_is_not o (slice_index ds (length ds - 1)) other (digit_at ds (length ds - 1) all (omega arith)) in
    and_right (nat_lt 0 (length ds)) _ no

pub last_is : (w : List ℕ) (o : ℕ) → slice_index (w ++ o ∷ []) (length (w ++ o ∷ []) - 1) ≡ o
last_is w o = grind (arith, common_steps)

pub ends_is : (w : List ℕ) (o : ℕ) → ends (w ++ o ∷ []) o ≡ true
ends_is w o =
    let some : nat_lt 0 (length (w ++ o ∷ [])) ≡ true = grind (arith, nat_tests, common_steps) in
    rw some (rw (last_is w o) (grind (arith, nat_tests)))

pub front_is : (w : List ℕ) (o : ℕ) → front (w ++ o ∷ []) ≡ w
front_is w o = grind (arith, common_steps)

-- ---- ticks, blocks and milliseconds
pub scale_read : (n : ℕ) → IsWithin 1000 10000000 n → value_of form.Scale (decimal n) ≡ Some (Scale n)
unfolding value_of scale
scale_read n within = rw (number_read n (omega arith), le-leb 1000 n within.least, lt-ltb n 10000001 (omega arith)) refl

pub blocks_read : (n : ℕ) → IsWithin 1 65535 n → value_of form.Length (decimal n) ≡ Some (Blocks n)
unfolding value_of cluster_length
blocks_read n within =
    let fits : n < 2 ^ 64 = omega arith in
    rw (digits_end 115 (decimal n) refl (decimal_nonempty n fits) (decimal_all n fits), number_read n (omega arith), le-leb 1 n within.least, lt-ltb n 65536 (omega arith)) refl

pub span_read : (span : ℕ) → IsWithin 100000000 32000000000 span → span % 1000000 ≡ 0 → value_of form.Length (decimal (span / 1000000) ++ codes "ms") ≡ Some (Span span)
unfolding value_of cluster_length
span_read span within whole =
    let n = span / 1000000 in
    let same : n * 1000000 ≡ span = omega arith in
    let apart : decimal n ++ codes "ms" ≡ (decimal n ++ 109 ∷ []) ++ 115 ∷ [] = sym (append_assoc (decimal n) (109 ∷ []) (115 ∷ [])) in
    rw apart (rw (ends_is (decimal n ++ 109 ∷ []) 115, front_is (decimal n ++ 109 ∷ []) 115, ends_is (decimal n) 109, front_is (decimal n) 109)
    (rw (number_read n (omega arith), le-leb 100 n (omega arith), lt-ltb n 32001 (omega arith), same) refl))

-- ---- values of tracks
pub delay_read : (d : ℤ) → nat_abs d < 2 ^ 55 → nat_abs d % 1000000 ≡ 0 → delay (delay_word d) ≡ Some d
unfolding delay delay_size
delay_read (pos n) small whole =
    let ms = n / 1000000 in
    let same : ms * 1000000 ≡ n = omega arith in
    let fits : ms < 2 ^ 64 = omega arith in
    let first : (slice_index (decimal ms) 0 == 45) ≡ false = rw append-nil at (first_other 45 (decimal ms) [] refl (decimal_nonempty ms fits) (decimal_all ms fits)) in
    rw first (rw (number_read ms (omega arith)) (rw same (rw (lt-ltb n (2 ^ 55) small) refl)))
delay_read (negsuc n) small whole =
    let ms = suc n / 1000000 in
    let same : ms * 1000000 ≡ suc n = omega arith in
    rw (number_read ms (omega arith)) (rw same (rw (lt-ltb (suc n) (2 ^ 55) small) refl))

pub track_delay_read : (id : ℕ) (d : ℤ) → HasFewDigits id → nat_abs d < 2 ^ 55 → nat_abs d % 1000000 ≡ 0 → value_of form.TrackDelay (with_number id (delay_word d)) ≡ Some (TrackDelay id d)
unfolding value_of track_value
track_delay_read id d short small whole = rw (numbered_read id (delay_word d) short) (rw (delay_read d small whole) refl)

pub track_text_read : (id : ℕ) (word : List ℕ) → HasFewDigits id → lacks 0 word ≡ true → value_of form.TrackText (with_number id word) ≡ Some (TrackText id word)
unfolding value_of track_value
track_text_read id word short none = rw (numbered_read id word short) (rw (text_read word none) refl)

pub track_language_read : (id : ℕ) (word : List ℕ) → HasFewDigits id → is_language word ≡ true → value_of form.TrackLanguage (with_number id word) ≡ Some (TrackLanguage id word)
unfolding value_of track_value
track_language_read id word short is = rw (numbered_read id word short) (rw (language_read word is) refl)

pub track_tag_read : (id : ℕ) (word : List ℕ) → HasFewDigits id → is_language_tag word ≡ true → value_of form.TrackLanguageTag (with_number id word) ≡ Some (TrackLanguageTag id word)
unfolding value_of track_value
track_tag_read id word short is = rw (numbered_read id word short) (rw (tag_read word is) refl)

pub track_flag_read : (id : ℕ) (flag : Bool) → HasFewDigits id → value_of form.TrackFlag (with_number id (flag_word flag)) ≡ Some (TrackFlag id flag)
unfolding value_of track_flag
track_flag_read id true short = rw (numbered_read id (codes "1") short) refl
track_flag_read id false short = rw (numbered_read id (codes "0") short) refl

pub track_cues_read : (id : ℕ) (c : CueWord) → HasFewDigits id → value_of form.TrackCues (with_number id (cues_word c)) ≡ Some (TrackCues id c)
unfolding value_of track_value cue_word
track_cues_read id cue.Never short = rw (numbered_read id (codes "none") short) refl
track_cues_read id cue.Key short = rw (numbered_read id (codes "iframes") short) refl
track_cues_read id cue.All short = rw (numbered_read id (codes "all") short) refl

pub track_file_read : (id : ℕ) (name : List ℕ) → HasFewDigits id → value_of form.TrackFile (with_number id name) ≡ Some (TrackFile id name)
unfolding value_of track_value
track_file_read id name short = rw (numbered_read id name short) refl

-- ---- values between commas
lacks_each : (o : ℕ) (w : List ℕ) → lacks o w ≡ true → All (λ b. (b == o) ≡ false) w
lacks_each o [] none = All-nil (λ b. (b == o) ≡ false)
lacks_each o (b ∷ bs) none = let parts = lacks_parts o b bs none in All-cons (λ b. (b == o) ≡ false) b bs parts.0 (lacks_each o bs parts.1)

pub pieces_read : (ws : List (List ℕ)) → 0 < length ws → All (λ w. lacks 44 w ≡ true) ws → pieces (with_commas ws) ≡ ws
pieces_read [] some none = absurd (omega arith)
pieces_read (w ∷ []) some none = slice_split_none (λ b. b == 44) w (lacks_each 44 w (All-head (λ v. lacks 44 v ≡ true) w [] none))
pieces_read (w ∷ v ∷ ws) some none =
    slice_split_at (λ b. b == 44) w 44 (with_commas (v ∷ ws)) (lacks_each 44 w (All-head (λ u. lacks 44 u ≡ true) w (v ∷ ws) none)) refl
    ∙ ap (λ ps. w ∷ ps) (pieces_read (v ∷ ws) (omega arith) (All-tail (λ u. lacks 44 u ≡ true) w (v ∷ ws) none))

pub each_read : {X : Type 0} (read : List ℕ → Option X) (write : X → List ℕ) (xs : List X) → All (λ x. read (write x) ≡ Some x) xs → each read (map write xs) ≡ Some xs
each_read read write [] reads = refl
each_read {X} read write (x ∷ xs) reads =
    rw (All-head (λ (y : X). read (write y) ≡ Some y) x xs reads) (rw (each_read read write xs (All-tail (λ (y : X). read (write y) ≡ Some y) x xs reads)) refl)

-- The values that are read from the pieces.
pub list_read : {X : Type 0} (read : List ℕ → Option X) (write : X → List ℕ) (xs : List X) → 0 < length xs → All (λ x. lacks 44 (write x) ≡ true) xs → All (λ x. read (write x) ≡ Some x) xs
    → each read (pieces (with_commas (map write xs))) ≡ Some xs
list_read read write [] some none reads = absurd (omega arith)
list_read read write (x ∷ xs) some none reads =
    rw (pieces_read (map write (x ∷ xs)) (omega arith) (All-map (λ w. lacks 44 w ≡ true) write (x ∷ xs) none)) (each_read read write (x ∷ xs) reads)

-- ---- numbers of tracks
pub numbers_read : (ns : List ℕ) → 0 < length ns → All HasFewDigits ns → numbers (numbers_word ns) ≡ Some ns
unfolding numbers
numbers_read ns some short =
    list_read number decimal ns some (All-weaker HasFewDigits (λ n. lacks 44 (decimal n) ≡ true) (λ n h. decimal_lacks 44 n refl (short_fits n h)) ns short)
    (All-weaker HasFewDigits (λ n. number (decimal n) ≡ Some n) (λ n h. number_read n h) ns short)

pub numbers_first : (o : ℕ) (ns : List ℕ) → is_ascii_digit o ≡ false → 0 < length ns → All HasFewDigits ns → (slice_index (numbers_word ns) 0 == o) ≡ false
numbers_first o [] other some short = absurd (omega arith)
numbers_first o (n ∷ []) other some short =
    let fits = short_fits n (All-head HasFewDigits n [] short) in
    rw append-nil at (first_other o (decimal n) [] other (decimal_nonempty n fits) (decimal_all n fits))
numbers_first o (n ∷ m ∷ ms) other some short =
    let fits = short_fits n (All-head HasFewDigits n (m ∷ ms) short) in
    first_other o (decimal n) (codes "," ++ numbers_word (m ∷ ms)) other (decimal_nonempty n fits) (decimal_all n fits)

pub these_read : (ns : List ℕ) → 0 < length ns → All HasFewDigits ns → value_of form.Ids (numbers_word ns) ≡ Some (Tracks (select.These ns))
unfolding value_of ids
these_read ns some short = rw (numbers_first 33 ns refl some short) (rw (numbers_read ns some short) refl)

pub others_read : (ns : List ℕ) → 0 < length ns → All HasFewDigits ns → value_of form.Ids (codes "!" ++ numbers_word ns) ≡ Some (Tracks (select.AllBut ns))
unfolding value_of ids
others_read ns some short = rw (numbers_read ns some short) refl
