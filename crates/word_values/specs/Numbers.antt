-- Numbers, times and sizes in arguments, in this project's grammar.
use Rattle.std.specs.Prelude.{ℕ, ℤ, pos, neg_ℤ, ◌+◌, ◌-◌, ◌*◌, ◌^◌, min, Bool, ◌&&◌, ◌==◌, nat_lt, nat_le, if◌then◌else◌, List, length, take, drop, slice_index, Option, Some, None, option_map}
use Rattle.std.specs.List.{list_all}
use Rattle.std.specs.Char.{is_ascii_digit, is_digit}
use Rattle.std.specs.Str.Parse.{digits_value}
use Rattle.mkv_io.specs.Characters.{COLON, DASH, POINT, char}
use Rattle.mkv_io.specs.Octets.{cut}
use Rattle.mkv_io.specs.Optional.{◌>>=◌}
pub use Rattle.requests.specs.Decimal.{below, whole, number}

-- the number, if there is one and it is at least `least`, or else None. Ranges of values are checked with it. Used by `duration`, `amount` and
-- others.
abbrev pub from : ℕ → Option ℕ → Option ℕ
from least None = None
from least (Some n) = if nat_le least n then Some n else None

-- the size of a delay in nanoseconds, below 2^55, that `word` gives in milliseconds, or None, for `--sync`
unfoldable pub delay_size : List ℕ → Option ℕ
delay_size word = below (2 ^ 55) (option_map (λ n. n * 1000000) (number word))

-- the delay in nanoseconds that `word` gives in milliseconds, with or without `-`, or None, for `--sync`
unfoldable pub delay : List ℕ → Option ℤ
delay word =
    if slice_index word 0 == DASH then option_map (λ n. neg_ℤ (pos n)) (delay_size (drop 1 word))
    else option_map pos (delay_size word)

-- the minutes or seconds of a time, by their digits `word`: two digits, below 60, or None. Used by `second_parts` and `clock`.
unfoldable pub minutes_or_seconds : List ℕ → Option ℕ
minutes_or_seconds word = if length word == 2 then below 60 (whole word) else None

-- the digits `word` after the point of a time, 1 to 9, in nanoseconds, or None. Used by `second_parts`.
unfoldable pub fraction : List ℕ → Option ℕ
fraction word = if nat_le (length word) 9 then option_map (λ n. n * 10 ^ (9 - length word)) (whole word) else None

-- the seconds of a time in nanoseconds, or None. If the argument was split at a point, the pair has the parts before and after it. If not, `word` is
-- SS. `seconds` uses it.
abbrev pub second_parts : List ℕ → Option (List ℕ × List ℕ) → Option ℕ
second_parts word None = option_map (λ n. n * 1000000000) (minutes_or_seconds word)
second_parts word (Some p) = do
  n ← minutes_or_seconds p.0
  f ← fraction p.1
  Some (n * 1000000000 + f)

-- the seconds of a time in nanoseconds: `word` is SS or SS.n, or else it is None. `clock` uses it.
unfoldable pub seconds : List ℕ → Option ℕ
seconds word = second_parts word (cut POINT word)

-- the time `word`, H:MM:SS or H:MM:SS.n, in nanoseconds, or None. `time` uses it.
unfoldable pub clock : List ℕ → Option ℕ
clock word = do
  h ← cut COLON word
  m ← cut COLON h.1
  hours ← whole h.0
  minutes ← minutes_or_seconds m.0
  n ← seconds m.1
  Some ((hours * 3600 + minutes * 60) * 1000000000 + n)

-- The word `word` ends with the byte `octet`. Units of times and sizes are found by it. Used by `time`, `size` and others.
abbrev pub ends : List ℕ → ℕ → Bool
ends word octet = nat_lt 0 (length word) && slice_index word (length word - 1) == octet

-- the word `word` without its last byte, the unit of a time or size. `time` and `size` use it.
abbrev pub front : List ℕ → List ℕ
front word = take (length word - 1) word

-- the time `word` in nanoseconds, below 2^63: H:MM:SS with or without a fraction, or digits followed by `s`; None for any other. Options with a time
-- use it. Used by `times`, `span_of` and others.
unfoldable pub time : List ℕ → Option ℕ
time word =
    below (2 ^ 63) (if ends word (char "s") then option_map (λ n. n * 1000000000) (whole (front word)) else clock word)

-- the number `word` of a size: 1 to 12 digits, at least 1, or None. `size` uses it.
unfoldable pub amount : List ℕ → Option ℕ
amount word = if nat_le (length word) 12 then from 1 (whole word) else None

-- the product of the number of a size and `unit`, in bytes; a product above 2^64 - 1 is 2^64 - 1. It is None without a number. `size` uses it.
abbrev pub times_unit : ℕ → Option ℕ → Option ℕ
times_unit unit = option_map (λ n. min (n * unit) (2 ^ 64 - 1))

-- the size `word` in bytes, for `--split size:`: a number, or a number followed by `k`, `m` or `g` for 1024, its square or its cube; or None
unfoldable pub size : List ℕ → Option ℕ
size word =
    if ends word (char "k") then times_unit 1024 (amount (front word))
    else if ends word (char "m") then times_unit 1048576 (amount (front word))
    else if ends word (char "g") then times_unit 1073741824 (amount (front word))
    else amount word

-- The byte `b` is a hexadecimal digit, as the identifiers of `--segment-uid` have. `uuid` uses it.
abbrev pub is_hex : ℕ → Bool
is_hex b = is_digit b 16

-- the identifier `word` of `--segment-uid` as a number: 32 hexadecimal digits, the highest first; or None
unfoldable pub uuid : List ℕ → Option ℕ
uuid word = if length word == 32 && list_all is_hex word then Some (digits_value 16 word) else None
