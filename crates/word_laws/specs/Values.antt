-- Values of options in the form of the canonical command line.
use Rattle.std.specs.Prelude.{ℕ, zero, suc, ◌/◌, ◌%◌, ◌^◌, ◌<◌, ◌==◌, ℤ, nat_abs, pos, Bool, ◌&&◌, nat_lt, if◌then◌else◌, List, [], ◌∷◌, ◌++◌, map, codes, Option, Some, None}
use Rattle.std.specs.Char.{digit_char}
use Rattle.std.specs.Fmt.{decimal}
use Rattle.requests.specs.declared.split.SpanWords.{SpanWords}
use Rattle.requests.specs.declared.split.SplitWords.{SplitWords}
use Rattle.requests.specs.declared.split.SplitWords.TheVariants as split
use Rattle.requests.specs.declared.track.CueWord.{CueWord}
use Rattle.requests.specs.declared.track.CueWord.TheVariants as cue

-- The number `n` has at most 18 decimal digits. A condition of all numbers of tracks. Used by `HaveFewDigits`, `IsSection` and others.
abbrev pub HasFewDigits : ℕ → Type 0
HasFewDigits n = n < 10 ^ 18

-- the argument `N:REST`, for the number `n` and the text `rest`. For the targets of `extract` and the options for a track.
abbrev pub with_number : ℕ → List ℕ → List ℕ
with_number n rest = decimal n ++ (codes ":" ++ rest)

-- the values with commas between them. For lists of numbers, times and identifiers. Used by `numbers_word`, `split_word` and others.
abbrev pub with_commas : List (List ℕ) → List ℕ
with_commas [] = []
with_commas (w ∷ []) = w
with_commas (w ∷ v ∷ ws) = w ++ (codes "," ++ with_commas (v ∷ ws))

-- the numbers `numbers` in decimal, with commas between them. For selections of tracks and for `--split`.
abbrev pub numbers_word : List ℕ → List ℕ
numbers_word numbers = with_commas (map decimal numbers)

-- the last digits of the number `n` in the base `base`; the second argument is their number. For times and identifiers. Used by `time_word` and
-- `uuids_word`.
unfoldable pub last_digits : ℕ → ℕ → ℕ → List ℕ
last_digits base zero n = []
last_digits base (suc k) n = last_digits base k (n / base) ++ digit_char (n % base) ∷ []

-- the time `t` in nanoseconds as `H:MM:SS.nnnnnnnnn`. For the times of `--split`.
abbrev pub time_word : ℕ → List ℕ
time_word t =
    decimal (t / 3600000000000) ++ (codes ":" ++ (last_digits 10 2 (t / 60000000000 % 60)
    ++ (codes ":" ++ (last_digits 10 2 (t / 1000000000 % 60) ++ (codes "." ++ last_digits 10 9 (t % 1000000000))))))

-- the end of a period, a time in nanoseconds; no text if the period has no end. For `span_word`, in the laws on canonical command lines.
abbrev pub end_word : Option ℕ → List ℕ
end_word None = []
end_word (Some t) = time_word t

-- the period `span` as `START-END`, or `START-` without an end. For `--split parts:`.
abbrev pub span_word : SpanWords → List ℕ
span_word span = time_word span.start ++ (codes "-" ++ end_word span.end)

-- The number of bytes `limit` is a multiple of `unit`, with a quotient of at most 12 digits. For `is_size` and `size_word`, in the laws on canonical
-- command lines.
abbrev pub is_in : ℕ → ℕ → Bool
is_in unit limit = limit % unit == 0 && nat_lt (limit / unit) (10 ^ 12)

-- the number of bytes `limit` as an argument: as it is, with the unit `k`, `m` or `g`, or as the greatest one. For `--split size:`.
abbrev pub size_word : ℕ → List ℕ
size_word limit =
    if nat_lt limit (10 ^ 12) then decimal limit
    else if is_in 1024 limit then decimal (limit / 1024) ++ codes "k"
    else if is_in 1048576 limit then decimal (limit / 1048576) ++ codes "m"
    else if is_in 1073741824 limit then decimal (limit / 1073741824) ++ codes "g"
    else codes "17179869184g"

-- the value of `--split`. For `output_options`.
abbrev pub split_word : SplitWords → List ℕ
split_word (split.Duration by) = codes "duration" ++ (codes ":" ++ time_word by)
split_word (split.Times at) = codes "timestamps" ++ (codes ":" ++ with_commas (map time_word at))
split_word (split.Parts spans) = codes "parts" ++ (codes ":" ++ with_commas (map span_word spans))
split_word split.AllChapters = codes "chapters:all"
split_word (split.Chapters numbers) = codes "chapters" ++ (codes ":" ++ numbers_word numbers)
split_word (split.Size limit) = codes "size" ++ (codes ":" ++ size_word limit)

-- the value of `--segment-uid`: 32 hexadecimal digits for each identifier, with commas between them; none without identifiers. For `output_options`.
abbrev pub uuids_word : List ℕ → Option (List ℕ)
uuids_word [] = None
uuids_word (u ∷ us) = Some (with_commas (map (last_digits 16 32) (u ∷ us)))

-- the track `track`, the index of an input and its own index in that input, as an item of `--track-order`. For `order_word`.
abbrev pub place_word : ℕ × ℕ → List ℕ
place_word track = with_number track.0 (decimal track.1)

-- the value of `--track-order`: the tracks with commas between them; none without tracks. For `output_options`.
abbrev pub order_word : List (ℕ × ℕ) → Option (List ℕ)
order_word [] = None
order_word (p ∷ ps) = Some (with_commas (map place_word (p ∷ ps)))

-- the value of a delay in nanoseconds: milliseconds, with a `-` if it is negative. For `--sync`.
abbrev pub delay_word : ℤ → List ℕ
delay_word (pos n) = decimal (n / 1000000)
delay_word earlier = codes "-" ++ decimal (nat_abs earlier / 1000000)

-- the value of the flag `flag`: `1` or `0`. For the flags of tracks.
abbrev pub flag_word : Bool → List ℕ
flag_word flag = if flag then codes "1" else codes "0"

-- the value of `--cues` for a track: which of its blocks get a cue point. For `file_options`.
abbrev pub cues_word : CueWord → List ℕ
cues_word cue.Never = codes "none"
cues_word cue.Key = codes "iframes"
cues_word cue.All = codes "all"
