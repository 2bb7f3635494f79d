-- The fields of a line of a text file, in this project's grammar.
use Rattle.std.specs.Prelude.{ℕ, ◌&&◌, nat_lt, nat_le, if◌then◌else◌, List, length, take, drop, Option, Some, None}
use Rattle.std.specs.List.{list_all}
use Rattle.std.specs.Str.{bytes_eq}
use Rattle.std.specs.Char.{is_ascii_digit}
use Rattle.std.specs.Str.Parse.{digits_value}
use Rattle.mkv_io.specs.Optional.{◌>>=◌}

-- the part of `word` after the prefix `front`, or None if it hasn't this prefix. Grammars of text files use it.
abbrev pub behind : List ℕ → List ℕ → Option (List ℕ)
behind front word = if bytes_eq (take (length front) word) front then Some (drop (length front) word) else None

-- the value of `word` if it consists of `least` to `most` decimal digits; otherwise None. Grammars of text files use it. Used by
-- `minutes_or_seconds`, `time_of` and others.
unfoldable pub digits : ℕ → ℕ → List ℕ → Option ℕ
digits least most word =
    if nat_le least (length word) && nat_le (length word) most && list_all is_ascii_digit word
    then Some (digits_value 10 word) else None

-- the minutes or seconds of a time, by their digits `word`: two digits, below 60; otherwise None. Grammars of times use it. Used by `time_of`,
-- `seconds` and others.
unfoldable pub minutes_or_seconds : List ℕ → Option ℕ
minutes_or_seconds word = digits 2 2 word >>= (λ n. if nat_lt n 60 then Some n else None)
