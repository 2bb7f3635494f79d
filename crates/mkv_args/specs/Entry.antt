-- Tables of words with their meanings. They are this project's.
use Rattle.std.specs.Prelude.{ℕ, Bool, ◌&&◌, ◌||◌, nat_lt, List, length, Option, option_map}
use Rattle.std.specs.List.{find}
use Rattle.std.specs.Str.{bytes_eq}
use Rattle.mkv_args.specs.declared.entry.Entry as code

-- a row of a table of arguments (commands, modes or options): the short spelling (may be empty), the long one, and the meaning. Used by `commands`,
-- `entry` and others.
pub record Entry (T : Type 0) : Type 0 where
  pub short : List ℕ
  pub long : List ℕ
  pub means : T

-- the row of a table of arguments with the spellings `short` and `long` and the meaning `means`. Used by `explained`, `modes` and others.
abbrev pub entry : {T : Type 0} → List ℕ → List ℕ → T → Entry T
entry short long means = record { short = short; long = long; means = means }

-- the row `e` of a table of arguments of the code, as a value; contracts of the tables use it
abbrev pub shown : {T : Type 0} → code.Entry T → Entry T
shown e = record { short = e.0.now; long = e.1.now; means = e.2 }

-- The argument `word` of a command line isn't empty and is one of the two spellings in the row `e` of a table. Used by `meant`.
abbrev pub spelled : {T : Type 0} → List ℕ → Entry T → Bool
spelled word e = nat_lt 0 (length word) && (bytes_eq e.short word || bytes_eq e.long word)

-- the meaning of the first of `entries` that has the argument `word` as one of its spellings, or None. Used for commands, modes of `extract` and
-- options of `propedit`.
abbrev pub meant : {T : Type 0} → List (Entry T) → List ℕ → Option T
meant {T} entries word = option_map (λ (e : Entry T). e.means) (find (spelled word) entries)
