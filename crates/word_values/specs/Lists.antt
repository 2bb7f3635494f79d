-- Values of options that are lists with commas, in this project's grammar.
use Rattle.std.specs.Prelude.{ℕ, Bool, true, not, ◌&&◌, ◌==◌, nat_le, if◌then◌else◌, List, [], ◌∷◌, length, drop, slice_index, codes, Option, Some, None, option_map}
use Rattle.std.specs.List.{list_any, slice_split}
use Rattle.std.specs.Str.{bytes_eq}
use Rattle.requests.specs.declared.track.Select.{Select}
use Rattle.requests.specs.declared.track.Select.TheVariants.{These, AllBut}
use Rattle.requests.specs.declared.split.SpanWords.{SpanWords}
use Rattle.requests.specs.declared.split.SplitWords.{SplitWords}
use Rattle.requests.specs.declared.split.SplitWords.TheVariants.{Duration, Times, Parts, AllChapters, Chapters, Size}
use Rattle.mkv_io.specs.Characters.{COLON, COMMA, DASH, char}
use Rattle.mkv_io.specs.Optional.{◌>>=◌}
use Rattle.mkv_io.specs.Octets.{cut}
use Rattle.word_values.specs.Numbers.{from, size, time, uuid}
use Rattle.requests.specs.Decimal.{number}
pub use Rattle.requests.specs.Lists.{ascend, ends_before, follow, differ}

-- the items of the argument `word`, which its commas separate. Options with a list read each. Used by `list_of`, `numbers` and others.
abbrev pub pieces : List ℕ → List (List ℕ)
pieces word = slice_split (λ b. b == COMMA) word

-- the value of the first item before the values of the others, if all items have the form, or else None. `each` uses it.
abbrev pub onto : {X : Type 0} → Option X → Option (List X) → Option (List X)
onto None xs = None
onto (Some x) None = None
onto (Some x) (Some xs) = Some (x ∷ xs)

-- the values of all items of a list, which `read` reads, if all have the form, or else None. Options with a list use it.
abbrev pub each : {X : Type 0} → (List ℕ → Option X) → List (List ℕ) → Option (List X)
each read [] = Some []
each read (p ∷ ps) = onto (read p) (each read ps)

-- the value, if there is one and it passes `test`, or else None. Times, periods and identifiers are checked so.
abbrev pub passing : {X : Type 0} → (X → Bool) → Option X → Option X
passing test None = None
passing test (Some x) = if test x then Some x else None

-- the numbers in the argument `word`, one or more, with commas between them, or None. They are track IDs or numbers of chapters. Used by `read`,
-- `differ` and others.
unfoldable pub numbers : List ℕ → Option (List ℕ)
numbers word = each number (pieces word)

-- the tracks that the argument `word` of `--video-tracks` and its like selects: track IDs with commas, or `!` and the IDs that are excluded; or None
unfoldable pub ids : List ℕ → Option Select
ids word = if slice_index word 0 == char "!" then option_map AllBut (numbers (drop 1 word)) else option_map These (numbers word)

-- the times in the argument `word` of `--split timestamps:`, in nanoseconds, each above the previous one; or None
unfoldable pub times : List ℕ → Option (List ℕ)
times word = passing ascend (each time (pieces word))

-- the period whose start and end are the two parts of an argument, both times in nanoseconds; an empty end means that there is none. It is None for
-- any other. `span` uses it.
abbrev pub span_of : List ℕ × List ℕ → Option SpanWords
span_of (start, []) = option_map (λ s. record { start = s; end = None }) (time start)
span_of (start, e ∷ es) = do
  s ← time start
  t ← time (e ∷ es)
  Some (record { start = s; end = Some t })

-- the period that the argument `word` gives, an item of `--split parts:`: `a-b`, or `a-` without an end; or None
unfoldable pub span : List ℕ → Option SpanWords
span word = cut DASH word >>= span_of

-- the periods in the argument `word` of `--split parts:`; none begins before the end of the previous one, or it is None
unfoldable pub spans : List ℕ → Option (List SpanWords)
spans word = passing (follow 0) (each span (pieces word))

-- the identifiers in the argument `word` of `--segment-uid`, 1 to 1024, all different, or None
unfoldable pub uuids : List ℕ → Option (List ℕ)
uuids word = passing (λ us. nat_le (length us) 1024 && differ us) (each uuid (pieces word))

-- the track that the argument `word` gives, an item of `--track-order`: the number of an input, `:` and a track ID; or None. `order` uses it.
unfoldable pub place : List ℕ → Option (ℕ × ℕ)
place word = do
  p ← cut COLON word
  file ← number p.0
  id ← number p.1
  Some (file, id)

-- The pair `pair`, the number of an input and a track ID, is one of `pairs`. `pairs_differ` uses it.
abbrev pub has_pair : ℕ × ℕ → List (ℕ × ℕ) → Bool
has_pair pair pairs = list_any (λ (other : ℕ × ℕ). other.0 == pair.0 && other.1 == pair.1) pairs

-- No pair occurs twice in the list. The tracks of `--track-order`, each with its input, must differ so. `order` uses it.
abbrev pub pairs_differ : List (ℕ × ℕ) → Bool
pairs_differ [] = true
pairs_differ (p ∷ ps) = not (has_pair p ps) && pairs_differ ps

-- the tracks in the argument `word` of `--track-order`, each with the number of its input, all different, or None
unfoldable pub order : List ℕ → Option (List (ℕ × ℕ))
order word = passing pairs_differ (each place (pieces word))

-- the split into parts of the duration that `word` gives, a time above 0, or None, for `--split duration:`
unfoldable pub duration : List ℕ → Option SplitWords
duration word = option_map Duration (from 1 (time word))

-- the split at all chapters if `word` is `all`, or at the chapters whose numbers it lists, from 1, or None, for `--split chapters:`
unfoldable pub chapters : List ℕ → Option SplitWords
chapters word = if bytes_eq word (codes "all") then Some AllChapters else option_map Chapters (numbers word)

-- the split that `--split` gives with the kind `kind` before the colon and the value `rest` after it, or None for another. `split` uses it.
unfoldable pub split_of : List ℕ → List ℕ → Option SplitWords
split_of kind rest =
    if bytes_eq kind (codes "duration") then duration rest
    else if bytes_eq kind (codes "timestamps") then option_map Times (times rest)
    else if bytes_eq kind (codes "chapters") then chapters rest
    else if bytes_eq kind (codes "parts") then option_map Parts (spans rest)
    else if bytes_eq kind (codes "size") then option_map Size (size rest)
    else None

-- the split that the value `word` of `--split` gives, or None. The contract of the function with this name promises it.
unfoldable pub split : List ℕ → Option SplitWords
split word = cut COLON word >>= (λ p. split_of p.0 p.1)
