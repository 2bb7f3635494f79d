-- The SeekHead that the code has read, in the form of the definitions of edits.
use Rattle.edit_changes.specs.SeekHead as spec
use Rattle.edit_plan.specs.declared.found.SeekHead.{SeekHead}
use Rattle.std.specs.Prelude.{◌≡◌, Option, option_map, Result, IfOk}
use Rattle.mkv_io.specs.Sources.{IfTold}
use Rattle.mkv_io.specs.declared.reads.Reads.{Ghosts}
use Rattle.mkv_io.specs.declared.outside.FileId.{FileId}
use Rattle.element_reader.specs.Outline.{FileOutline}

-- the code's SeekHead `s`, which was read from a file, as the definitions of edits have it. Contracts on the SeekHead use it. Used by `prepared`,
-- `old_seeks` and others.
abbrev pub found : SeekHead → spec.SeekHeadAt
found s = record { header = s.header; seeks = s.seeks }

-- `result` has the SeekHead of the file `file` with the outline `outline`, or None. It is promised if the file's content is visible to the proof in
-- the state `src`; `r` has the live files of a state. The contract of `first_seek_head` promises it.
abbrev pub FindsSeekHead : {S E : Type 0} → Ghosts S → S → FileId → FileOutline → Result (Option SeekHead) E → Type 0
FindsSeekHead r src file outline result =
    IfTold r src file (λ bytes. IfOk result (λ head. option_map found head ≡ spec.seek_head_of bytes outline))
