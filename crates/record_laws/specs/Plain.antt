-- Texts that fit into one line of a text file.
use Rattle.std.specs.Prelude.{◌≡◌, ℕ, ◌-◌, ◌==◌, Bool, true, false, List, length, slice_index}
use Rattle.mkv_io.specs.Octets.{lacks}

-- The last byte of the text is CR. A reader would take it as a part of the line break. Used by `IsLine` and `IsPlainLine`.
abbrev pub ends_with_return : List ℕ → Bool
ends_with_return text = slice_index text (length text - 1) == 13

-- The text is one line: it has no LF, and no CR at its end, which would belong to the line break. The name of a plain chapter must be one. Used by
-- `IsPlain`.
pub record IsLine (text : List ℕ) : Type 0 where
  pub no_break : lacks 10 text ≡ true
  pub no_return : ends_with_return text ≡ false
