-- The written form of bytes, numbers and times in a text file, in this project's grammar.
use Rattle.std.specs.Prelude.{ℕ, ◌+◌, ◌/◌, ◌%◌, nat_lt, if◌then◌else◌, List, [], ◌∷◌, ◌++◌}
use Rattle.std.specs.Fmt.{decimal}
use Rattle.mkv_io.specs.Characters.{COLON, DIGIT_0}
use Rattle.text_formats.specs.declared.pieces.Piece.{Piece}
use Rattle.text_formats.specs.declared.pieces.Piece.TheVariants.{Octets, Number, Padded, Time}

-- the last decimal digit of `n`, as ASCII. `two_digits` and `three_digits` use it.
abbrev pub digit : ℕ → ℕ
digit n = DIGIT_0 + n % 10

-- the last two decimal digits of `n`, as ASCII. `stamp` uses them.
abbrev pub two_digits : ℕ → List ℕ
two_digits n = digit (n / 10) ∷ digit n ∷ []

-- the last three decimal digits of `n`, as ASCII. `stamp` uses them.
abbrev pub three_digits : ℕ → List ℕ
three_digits n = digit (n / 100) ∷ digit (n / 10) ∷ digit n ∷ []

-- `n` in at least two decimal digits. Hours and numbers of chapters are written so. Used by `put_two_or_more`, `put_pair` and others.
abbrev pub two_or_more : ℕ → List ℕ
two_or_more n = if nat_lt n 100 then two_digits n else decimal n

-- A time of `ms` milliseconds: hours, `:`, minutes, `:`, seconds, the byte `point`, and the thousandths of a second. SubRip and simple chapters use
-- it.
unfoldable pub stamp : ℕ → ℕ → List ℕ
stamp point ms =
    two_or_more (ms / 3600000) ++ (COLON ∷ (two_digits (ms / 60000 % 60) ++ (COLON ∷ (two_digits (ms / 1000 % 60) ++ (point ∷ three_digits (ms % 1000))))))

-- the bytes that a piece of a text file is written with. The contract of `put_pieces` has it.
abbrev pub octets_of : Piece → List ℕ
octets_of (Octets octets) = octets.now
octets_of (Number n) = decimal n
octets_of (Padded n) = two_or_more n
octets_of (Time point ms) = stamp point ms
