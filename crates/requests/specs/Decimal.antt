-- Decimal numbers: this project's grammar.
use Rattle.std.specs.Prelude.{ℕ, ◌&&◌, nat_lt, nat_le, if◌then◌else◌, List, length, Option, Some, None}
use Rattle.std.specs.List.{list_all}
use Rattle.std.specs.Char.{is_ascii_digit}
use Rattle.std.specs.Str.Parse.{digits_value}

-- the number in the second argument, if there is one and it is below `limit`; otherwise None. Used for the limits of numbers in options. Used by
-- `whole`, `AreTimes` and others.
abbrev pub below : ℕ → Option ℕ → Option ℕ
below limit None = None
below limit (Some n) = if nat_lt n limit then Some n else None

-- the value of `word` as one or more decimal digits, if it has this form; otherwise None. Used for numbers in options. Used by `number`.
unfoldable pub whole : List ℕ → Option ℕ
whole word = if nat_lt 0 (length word) && list_all is_ascii_digit word then Some (digits_value 10 word) else None

-- the value of `word` as 1 to 18 decimal digits, if it has this form; otherwise None. Used for numbers in options. The contract of the function of
-- the same name states it.
unfoldable pub number : List ℕ → Option ℕ
number word = if nat_le (length word) 18 then whole word else None
