-- Results of the calls that read a text file, against the definitions. Memory may run out at any time.
use Rattle.std.specs.Prelude.{◌≡◌, ℕ, ⊤, Option, Some, Result, Ok, Err}
use Rattle.text_formats.specs.declared.end.TextEnd.{TextEnd}
use Rattle.text_formats.specs.declared.end.TextEnd.TheVariants as text_end

-- The error names `bad`, the number of the first bad line by the definitions, if there is one; or memory ran out. Used by the contracts of the steps
-- of `read_srt`.
abbrev pub Blames : TextEnd → Option ℕ → Type 0
Blames (text_end.Bad n) bad = bad ≡ Some n
Blames text_end.Memory bad = ⊤

-- The result is `meant`, the content of a text file or the number of its first bad line by the definitions; or memory ran out. Used by the contracts
-- of the readers of text files.
abbrev pub Reads : {A : Type 0} → Result A TextEnd → Result A ℕ → Type 0
Reads (Ok found) meant = meant ≡ Ok found
Reads (Err (text_end.Bad n)) meant = meant ≡ Err n
Reads (Err text_end.Memory) meant = ⊤
