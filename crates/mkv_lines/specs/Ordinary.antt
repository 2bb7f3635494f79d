-- Commands that did their work or refused it.
use Rattle.std.specs.Prelude.{⊤}
use Rattle.mkv_lines.specs.declared.status.Status.{Status}
use Rattle.mkv_lines.specs.declared.status.Status.TheVariants as status

-- No call outside the program failed, and memory didn't run out, in a run that ends with this status. Commands return only such a status; other ends
-- are errors. Used by `refuse`, `HasEnded` and others.
abbrev pub IsOrdinary : Status → Type 0
IsOrdinary status.NoMemory = ⊥
IsOrdinary status.Outside = ⊥
IsOrdinary s = ⊤
