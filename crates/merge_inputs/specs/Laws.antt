-- Laws about each input that was read.
use Rattle.mkv_io.specs.LiveFiles.{LiveFiles, IsSameFile}
use Rattle.merge_inputs.specs.Input.{IsInput}
use Rattle.merge_inputs.specs.declared.input.Input.{Input}

-- Law for `merge`: an input `i` stays valid from the live files `old` to `new`, if its own file is unchanged.
abbrev pub InputsStay : Type 0
InputsStay = (old new : LiveFiles) (i : Input) → IsSameFile old new i.file.n → IsInput old i → IsInput new i
