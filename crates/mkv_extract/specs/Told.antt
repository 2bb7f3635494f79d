-- The lines that an extraction prints for its targets and for damage. They are this project's.
use Rattle.std.specs.Prelude.{◌≡◌, ℕ, ◌==◌, nat_le, nat_lt, Bool, if◌then◌else◌, List, [], ◌∷◌, ◌++◌, map, Option, Some, None, Result, IfOk}
use Rattle.std.specs.List.{list_any}
use Rattle.mkv_io.specs.declared.damage.Damage.{Damage}
use Rattle.requests.specs.declared.job.Target.{Target}
use Rattle.cluster_reader.specs.ToldDamages.{ToldDamages, told_damages}
use Rattle.extractors.specs.declared.extracted.Extracted.{Extracted}
use Rattle.mkv_lines.specs.Line.{more_bad_frames_line, more_damages_line, no_attachment_line, no_track_line, warning_line, wrote_line}
use Rattle.mkv_lines.specs.declared.status.Status.{Status}
use Rattle.mkv_lines.specs.declared.status.CommandEnd.{CommandEnd}
use Rattle.mkv_extract.specs.Extract.{absent, status_of, told_bad, told_lines}
use Rattle.mkv_extract.specs.declared.telling.Missing.{Missing}
use Rattle.mkv_extract.specs.declared.telling.Missing.TheVariants as missing
use Rattle.mkv_extract.specs.declared.telling.WarningKind.{WarningKind}
use Rattle.mkv_extract.specs.declared.telling.WarningKind.TheVariants as wrong

-- One of `targets` names an item that the file lacks, since its number is at least `count`. For tracks, numbered from 0, `count` is their number. For
-- attached files, numbered from 1, it is their number plus 1. The contract of the function of the same name states it.
abbrev pub has_absent : ℕ → List Target → Bool
has_absent count targets = list_any (λ (t : Target). nat_le count t.id) targets

-- a warning of the damage of the file `name` at level 1, if there is any. The contract of `warn_outline` states it.
abbrev pub outline_lines : List ℕ → Option Damage → List (List ℕ)
outline_lines name None = []
outline_lines name (Some d) = warning_line name d ∷ []

-- the line that the file `name` lacks the track or attached file with the number that follows. The contract of `say_missing` states it.
abbrev pub line_of : Missing → List ℕ → ℕ → List ℕ
line_of missing.Track name = no_track_line name
line_of missing.Attachment name = no_attachment_line name

-- the line with the number `more` of damaged places of the file `name` that aren't printed each, by their kind. The contract of `say_more` states it.
abbrev pub more_line : WarningKind → List ℕ → ℕ → List ℕ
more_line wrong.File name more = more_damages_line name more
more_line wrong.Frames name more = more_bad_frames_line name more

-- the line for the file `name` with the number `more` of damaged places that aren't printed each, or none if it is 0. `what` is their kind. For
-- `warnings`, when `extract` prints its messages.
abbrev pub others : WarningKind → List ℕ → ℕ → List (List ℕ)
others what name more = if more == 0 then [] else more_line what name more ∷ []

-- a warning for each of the first damaged places in `d`, and a line with the number of the others. `what` is their kind, and `name` the file's name.
-- The contract of `warn` states it.
abbrev pub warnings : WarningKind → List ℕ → ToldDamages → List (List ℕ)
warnings what name d = map (warning_line name) d.first ++ others what name d.more

-- the output names of the targets with a number below `count`, the first number that the file lacks: those that are written. For `wrote_lines`, when
-- `extract` prints its messages.
abbrev pub written : ℕ → List Target → List (List ℕ)
written count [] = []
written count (t ∷ ts) = (if nat_lt t.id count then t.name ∷ [] else []) ++ written count ts

-- ---- the lines of the calls

-- a line for each number that `targets` name and the file `name` lacks, each number once. `count` is the first number that it lacks, and `what` are
-- tracks or attached files. The contract of `say_absent` states it.
abbrev pub absent_lines : Missing → List ℕ → ℕ → List Target → List (List ℕ)
absent_lines what name count targets = map (line_of what name) (absent count targets)

-- a line for each output that is written: for each of `targets` with a number below `count`, the first number that the file lacks. The contract of
-- `say_wrote` states it.
abbrev pub wrote_lines : ℕ → List Target → List (List ℕ)
wrote_lines count targets = map wrote_line (written count targets)

-- the lines after an extraction of attached files or cue points: the outputs for `targets`, and then `damage`, the damage at level 1. `count` is the
-- first number that the file `name` lacks. The contract of `tell_held` states it.
abbrev pub held_lines : List ℕ → ℕ → List Target → Option Damage → List (List ℕ)
held_lines name count targets damage = wrote_lines count targets ++ outline_lines name damage

-- a warning for each damaged place that `e` has of the file `name`, and then for each frame that is left out. The contract of `warn_all` states it.
abbrev pub wrong_lines : List ℕ → Extracted → List (List ℕ)
wrong_lines name e = told_lines name e.damages ++ told_bad name e.bad_frames

-- the lines after an extraction of frames: the outputs for `targets`, then the damage and the frames that are left out, which `e` has. `count` is the
-- number of tracks in the file `name`. The contract of `tell` states it.
abbrev pub extracted_lines : List ℕ → ℕ → List Target → Extracted → List (List ℕ)
extracted_lines name count targets e = wrote_lines count targets ++ wrong_lines name e

-- `result` has the status for the damage and the frames left out that `e` reports; `is_missing` is true if an item is missing. The contract of `tell`
-- states it.
abbrev pub HasStatusOf : Extracted → Bool → Result Status CommandEnd → Type 0
HasStatusOf e is_missing result =
    (damages bad : List Damage) → e.damages ≡ told_damages damages → e.bad_frames ≡ told_damages bad → IfOk result (λ s. s ≡ status_of is_missing (damages ++ bad))
