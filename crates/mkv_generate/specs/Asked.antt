-- The names that `generate` opens and creates. They are this project's.
use Rattle.std.specs.Prelude.{◌≡◌, true, false, List, [], ◌∷◌}
use Rattle.mkv_io.specs.Asked.{AsksNone}
use Rattle.mkv_io.specs.Names.{AreOthers}
use Rattle.mkv_io.specs.declared.asked.Asked.{Asked}
use Rattle.mkv_io.specs.declared.asked.Asked.TheVariants.{Made, Opened}
use Rattle.remux_plan.specs.Parts.{may_be_written}
use Rattle.mkv_generate.specs.declared.names.Names.{Names}

-- The call isn't one of `generate` with the names `names`. It opens a file other than the two files and the merged one. Or it creates a file that is
-- neither one of the three nor a part of the split. Used by `AsksToGenerate`, and for all commands.
abbrev pub IsBesidesGenerate : Names → Asked → Type 0
IsBesidesGenerate names (Opened name) = AreOthers name (names.pictures ∷ names.sounds ∷ names.both ∷ [])
IsBesidesGenerate names (Made name) = AreOthers name (names.pictures ∷ names.sounds ∷ names.both ∷ []) × (may_be_written true names.parts name ≡ false)

-- From the calls `old` to `new`, only the two files and the merged file of `names` are opened. Only the three and parts of the split are created. The
-- contract of `generate` has it.
abbrev pub AsksToGenerate : Names → List Asked → List Asked → Type 0
AsksToGenerate names old new = AsksNone (IsBesidesGenerate names) old new
