-- The lines of a text file, in this project's grammar.
use Rattle.std.specs.Prelude.{ℕ, List, [], ◌∷◌, map, take, drop, if◌then◌else◌}
use Rattle.std.specs.List.{enumerate_from}
use Rattle.std.specs.Str.{bytes_eq}
use Rattle.std.specs.Str.Lines.{lines}

-- the content `content` of a text file after the byte order mark of UTF-8 (`EF BB BF`), or all of it if it doesn't begin with one. `lines_of` uses
-- it.
abbrev pub behind_mark : List ℕ → List ℕ
behind_mark content = if bytes_eq (take 3 content) (239 ∷ 187 ∷ 191 ∷ []) then drop 3 content else content

-- the lines of a text file with the content `content`, each ended by LF or CRLF. A last line without LF counts, and keeps a CR at its end. Grammars
-- of text files use it.
abbrev pub lines_of : List ℕ → List (List ℕ)
lines_of content = lines (behind_mark content)

-- A line of a text file and its number, from 1. Grammars report a bad line by it. Used by `numbered`, `all_lines` and others.
pub record Line : Type 0 where
  pub number : ℕ
  pub words : List ℕ

-- the line `words` with the number `number`, from 1. Grammars of text files use it.
abbrev pub numbered : ℕ → List ℕ → Line
numbered number words = record { number = number; words = words }

-- the lines `ls` of a text file, numbered from 1. `filled` uses it.
abbrev pub all_lines : List (List ℕ) → List Line
all_lines ls = map (λ (p : ℕ × List ℕ). numbered p.0 p.1) (enumerate_from 1 ls)
