-- The names of the parts of an output, which are this project's choice.
use Rattle.std.specs.Prelude.{ℕ, suc, ◌-◌, ◌==◌, nat_eq, nat_le, Bool, false, not, ◌&&◌, ◌||◌, if◌then◌else◌, List, [], ◌∷◌, ◌++◌, length, take, drop, replicate, codes, Option, Some, None}
use Rattle.std.specs.List.{list_all, starts_with, ends_with}
use Rattle.std.specs.Option.{option_and_then, option_map_or}
use Rattle.std.specs.Char.{is_ascii_digit}
use Rattle.std.specs.Fmt.{decimal}
use Rattle.mkv_io.specs.Characters.{DIGIT_0, POINT, char}

-- The byte `b` is neither a point nor `/`. For `stem_len`, in the names of the parts of `merge --split`.
abbrev pub is_plain : ℕ → Bool
is_plain b = not (b == POINT || b == char "/")

-- the number of bytes before a name's extension, which begins at the last point if no `/` follows, and is empty otherwise. For `stem` and
-- `extension`, in the names of the parts of `merge --split`.
abbrev pub stem_len : List ℕ → ℕ
stem_len [] = 0
stem_len (b ∷ bs) = if b == POINT && list_all is_plain bs then 0 else suc (stem_len bs)

-- the name `name` of an output without its extension. For the names of parts.
abbrev pub stem : List ℕ → List ℕ
stem name = take (stem_len name) name

-- the extension of the name `name` of an output, with its point; it may be empty. For the names of parts.
abbrev pub extension : List ℕ → List ℕ
extension name = drop (stem_len name) name

-- the decimal number `n`, with zeros before it up to three digits. For `part_name`, in the names of the parts of `merge --split`.
abbrev pub three_digits : ℕ → List ℕ
three_digits n = replicate (3 - length (decimal n)) DIGIT_0 ++ decimal n

-- the name of the part with the number `number`, counted from 1, of the output `output`. `merge` writes parts under these names.
abbrev pub part_name : List ℕ → ℕ → List ℕ
part_name output number = stem output ++ (codes "-" ++ (three_digits number ++ extension output))

-- The bytes `bs` are at least three digits, as the number in a part's name. For `is_part_name`, in the names of the parts of `merge --split`.
abbrev pub are_digits : List ℕ → Bool
are_digits bs = nat_le 3 (length bs) && list_all is_ascii_digit bs

-- the bytes `bs` without the prefix `front`, if they have it. For `number_in`, in the names of the parts of `merge --split`.
abbrev pub behind : List ℕ → List ℕ → Option (List ℕ)
behind front bs = if starts_with nat_eq bs front then Some (drop (length front) bs) else None

-- the bytes `bs` without the suffix `end`, if they have it. For `number_in`, in the names of the parts of `merge --split`.
abbrev pub before : List ℕ → List ℕ → Option (List ℕ)
before end bs = if ends_with nat_eq bs end then Some (take (length bs - length end) bs) else None

-- the bytes of `name` between the stem of `output` with `-` and its extension, if it has both: the number in a part's name. For `is_part_name`, in
-- the names of the parts of `merge --split`.
abbrev pub number_in : List ℕ → List ℕ → Option (List ℕ)
number_in output name = option_and_then (before (extension output)) (option_and_then (behind (codes "-")) (behind (stem output) name))

-- `name` could be the name of a part of `output`, with any number. `merge` refuses a split if a file that it reads has such a name.
abbrev pub is_part_name : List ℕ → List ℕ → Bool
is_part_name output name = option_map_or are_digits (number_in output name) false
