-- The language tags that a command accepts: RFC 5646, section 2.1 (Syntax). A tag of more than 63 bytes isn't accepted, and subtags aren't checked.
use Rattle.std.specs.Prelude.{ℕ, Bool, ◌&&◌, ◌||◌, ◌==◌, nat_le, List, length}
use Rattle.std.specs.List.{list_all}
use Rattle.std.specs.Char.{is_ascii_alphanumeric}

-- The byte `b` is an ASCII letter, a digit or a hyphen. `is_language_tag` uses it.
abbrev pub is_in_tag : ℕ → Bool
is_in_tag b = is_ascii_alphanumeric b || b == 0x2D

-- `word` may be a language tag of an option or a property: it consists of 1 to 63 letters, digits and hyphens. Used by `value_of` of `edit_changes`
-- and others.
abbrev pub is_language_tag : List ℕ → Bool
is_language_tag word = nat_le 1 (length word) && nat_le (length word) 63 && list_all is_in_tag word
