-- The outcome of `merge -J` for a file: its status, and one line of JSON. The keys are this project's, after `mkvmerge -J`.
use Rattle.std.specs.Prelude.{ℕ, List, ◌∷◌, Result, Ok, Err}
use Rattle.mkv_io.specs.declared.damage.Damage.{Damage}
use Rattle.mkv_info.specs.Identification.{identification_line}
use Rattle.mkv_lines.specs.Line.{refusal_line}
use Rattle.mkv_lines.specs.Verdict.{Verdict, only_said, refused}
use Rattle.mkv_info.specs.Listed.{status_with, warnings}
use Rattle.mkv_info.specs.Read.{Described, read_in, read_of}
use Rattle.mkv_info.specs.declared.reading.FileRead.{FileRead}

-- the outcome of `merge -J` for the file `name`, given the data that were read. It is the line of JSON, and then a warning of damage at level 1. A
-- file that is refused gets only an error line.
abbrev pub identified : List ℕ → Result Described Damage → Verdict
identified name (Ok file) = only_said (status_with file.damage) (identification_line name file.records ∷ warnings name file.damage)
identified name (Err d) = refused (refusal_line name d)

-- the outcome of `merge -J` for the file `name`, if the code has read `read`: the line of JSON, and then a warning of damage at level 1. The contract
-- of `tell` promises it.
abbrev pub identified_of : List ℕ → FileRead → Verdict
identified_of name read = identified name (Ok (read_in read))

-- the outcome of `merge -J` for the file `name` with the content `bytes`. The contract of `identify_file` promises it.
abbrev pub identified_verdict : List ℕ → List ℕ → Verdict
identified_verdict name bytes = identified name (read_of bytes)
