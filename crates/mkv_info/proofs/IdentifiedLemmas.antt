-- A line of JSON, and then the warning.
use Rattle.std.proofs.Common.{◌≡◌, ℕ, List, [], ◌∷◌, Result, Ok, Err, IfOk, refl}
use Rattle.mkv_io.specs.Lines.{with_lines}
use Rattle.mkv_io.specs.declared.damage.Damage.{Damage}
use Rattle.mkv_info.specs.Identification.{identification_line}
use Rattle.mkv_lines.specs.Said.{ReportLines, Says, SaysPart}
use Rattle.mkv_lines.specs.Verdict.{SaysVerdict, nothing}
use Rattle.mkv_lines.specs.declared.status.Status.{Status}
use Rattle.mkv_lines.specs.declared.status.CommandEnd.{CommandEnd}
use Rattle.mkv_lines.proofs.SaidLemmas.{SaysPart-before, Says-then}
use Rattle.mkv_info.specs.Listed.{status_with, warnings}
use Rattle.mkv_info.specs.Identified.{identified}
use Rattle.mkv_info.specs.Read.{Described}

-- The line couldn't be printed.
pub says-part : (old new : ReportLines) (name line : List ℕ) (file : Described) (why : CommandEnd) → line ≡ identification_line name file.records → SaysPart old new (line ∷ []) → SaysVerdict old new (Err why) (identified name (Ok file))
says-part old new name line file why is part = SaysPart-before old new (identification_line name file.records ∷ []) (warnings name file.damage) (rw is at part)

-- The line was printed, and then the warning.
pub says-all : (old mid new : ReportLines) (name line : List ℕ) (file : Described) (r : Result Status CommandEnd) → line ≡ identification_line name file.records → mid ≡ with_lines old (line ∷ []) → Says mid new (warnings name file.damage) r → IfOk r (λ s. s ≡ status_with file.damage) → SaysVerdict old new r (identified name (Ok file))
says-all old mid new name line file r is said says status = step r (Says-then old mid new (identification_line name file.records ∷ []) (warnings name file.damage) r (rw is at said) says) status
  where
    step : (s : Result Status CommandEnd) → Says old new (identification_line name file.records ∷ warnings name file.damage) s → IfOk s (λ t. t ≡ status_with file.damage) → SaysVerdict old new s (identified name (Ok file))
    step (Ok s) all is_status = (is_status, all)
    step (Err why) all is_status = all

-- Nothing is written.
pub identified-nothing : (name : List ℕ) (read : Result Described Damage) → (identified name read).outputs ≡ nothing
identified-nothing name (Ok file) = refl
identified-nothing name (Err d) = refl
