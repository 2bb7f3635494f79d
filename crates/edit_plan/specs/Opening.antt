-- The outline of a file whose properties are edited.
use Rattle.std.specs.Prelude.{◌≡◌, ℕ, List, Result, Ok}
use Rattle.mkv_io.specs.declared.damage.Damage.{Damage}
use Rattle.mkv_io.specs.Results.{and_then, unless}
use Rattle.element_reader.specs.Outline.{FileOutline, outline_in}
use Rattle.mkv_io.specs.Sources.{IfTold}
use Rattle.mkv_io.specs.declared.reads.Reads.{Ghosts}
use Rattle.mkv_io.specs.declared.outside.FileId.{FileId}

-- the outline of a file with the content `bytes`, or the damage for which it is refused; damage at level 1 is refused too. The contract of
-- `open_outline` promises it.
abbrev pub opening : List ℕ → Result FileOutline Damage
opening bytes = and_then (outline_in 0 bytes) (λ (o : FileOutline). unless o.damage o)

-- If the content of the file `file` in the state `src` is visible to the proof and has the outline `outline`, `P` holds of it. `r` has the live files
-- of a state. Contracts of the planning after the outline is read use it.
abbrev pub IfOutline : {S : Type 0} → Ghosts S → S → FileId → FileOutline → (List ℕ → Type 0) → Type 0
IfOutline r src file outline P = IfTold r src file (λ bytes. outline_in 0 bytes ≡ Ok outline → P bytes)
