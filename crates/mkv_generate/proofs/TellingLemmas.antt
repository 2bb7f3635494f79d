-- The result of the command.
use Rattle.std.proofs.Common.{◌≡◌, ℕ, List, [], ◌++◌, Option, Result, Ok, Err, IfOk, inl, refl, sym, ◌∙◌, ap, subst, arith}
use Rattle.mkv_io.specs.Faults.{HasIncreased}
use Rattle.mkv_io.specs.Lines.{with_lines}
use Rattle.mkv_io.specs.declared.reads.Reads.{Ghosts}
use Rattle.mkv_io.specs.declared.files.Files as writing
use Rattle.mkv_io.specs.declared.report.Report.{Ghosts as ReportGhosts}
use Rattle.mkv_lines.specs.Faults.{Counts, HasStopCause}
use Rattle.mkv_lines.specs.Said.{HasSayCause, Says, SaysPart}
use Rattle.mkv_lines.specs.Seen.{Seen, seen}
use Rattle.mkv_lines.specs.Verdict.{Leaves, Reaches}
use Rattle.mkv_lines.specs.declared.status.Status.{Status}
use Rattle.mkv_lines.specs.declared.status.CommandEnd.{CommandEnd}
use Rattle.mkv_lines.specs.declared.status.CommandEnd.TheVariants as stop
use Rattle.mkv_lines.proofs.SaidLemmas.{SaysPart-none, with_lines-none}
use Rattle.mkv_lines.proofs.VerdictLemmas.{Reaches-behind}
use Rattle.mkv_lines.specs.Command.{files_counts}
use Rattle.mkv_merge.specs.declared.refusal.Refusal.{Refusal}
use Rattle.mkv_generate.specs.declared.making.Outcome.{Outcome}
use Rattle.mkv_generate.specs.declared.names.Names as own
use Rattle.mkv_generate.specs.Generate.{MergeMade, both_words, merge_of, parts_words, two_files, verdict_of, with_both, with_parts}
use Rattle.remux_plan.specs.Parts.{PlannedOutput}
use Rattle.mkv_generate.specs.Outcome.{HasMade, lines_of, status_for}

-- No line is printed before the files.
parts-before : (n : ℕ) (names : own.Names) (files : List PlannedOutput) (both : MergeMade) (r : Result MergeMade Refusal) → (with_parts n names files both r).before ≡ []
parts-before n names files both (Ok parts) = refl
parts-before n names files both (Err why) = refl

both-before : (n : ℕ) (names : own.Names) (files : List PlannedOutput) (r : Result MergeMade Refusal) → (with_both n names files r).before ≡ []
both-before n names files (Ok both) = parts-before n names files both (merge_of (parts_words names) both.outputs)
both-before n names files (Err why) = refl

pub none-before : (n : ℕ) (names : own.Names) → (verdict_of n names).before ≡ []
none-before n names = both-before n names (two_files n names) (merge_of (both_words names) (two_files n names))

-- The files couldn't all be made.
pub make-stopped : (old new : Seen) (n : ℕ) (names : own.Names) (why : CommandEnd) → new.lines ≡ old.lines → Leaves old.names new.names (verdict_of n names).outputs → Reaches old new (Err why) (verdict_of n names)
make-stopped old new n names why lines leaves = inl (
  subst (λ (now : Option (List (List ℕ))). SaysPart old.lines now (verdict_of n names).before) (sym lines) (SaysPart-none old.lines (verdict_of n names).before),
  leaves,
)

-- The files are complete, and the lines are printed.
pub make-told : (old new : Seen) (n : ℕ) (names : own.Names) (outcome : Outcome) (r : Result Status CommandEnd) → HasMade old.names new.names n outcome (verdict_of n names) → Says old.lines new.lines (lines_of n outcome) r
    → IfOk r (λ (s : Status). s ≡ status_for outcome) → Reaches old new r (verdict_of n names)
make-told old new n names outcome r made says status =
    let none = none-before n names in
    Reaches-behind old new old.lines r (verdict_of n names) (lines_of n outcome)
    (made.lines ∙ sym (ap (λ (before : List (List ℕ)). before ++ lines_of n outcome) none))
    (sym (ap (with_lines old.lines) none ∙ with_lines-none old.lines))
    says
    (by-answer r status)
    made.whole
  where
    by-answer : (answer : Result Status CommandEnd) → IfOk answer (λ (s : Status). s ≡ status_for outcome) → IfOk answer (λ (s : Status). s ≡ (verdict_of n names).status)
    by-answer (Ok s) is = is ∙ sym made.status
    by-answer (Err why) is = tt

-- ---- failures

module _ {S R : Type 0} (r : Ghosts S) (f : writing.Ghosts S) (p : ReportGhosts R) (a b : S) (said now : R) where
  -- The files couldn't be made.
  pub stopped-cause : (T : Type 0) (why : CommandEnd) → HasStopCause {T = Outcome} (files_counts r f a) (files_counts r f b) (Err why) → HasStopCause {T = T} (seen r f.writing_faults f.names p a said).counts (seen r f.writing_faults f.names p b said).counts (Err why)
  stopped-cause T stop.Memory same = ap (λ (c : Counts). record c { report = p.faults said }) same
  stopped-cause T stop.Files cause = (cause.0, refl)
  stopped-cause T stop.Disk cause = cause
  stopped-cause T stop.Report cause = absurd (let risen : HasIncreased 0 0 = cause.0 in let rose = risen.rose in omega arith)

  -- The files were made, and the lines are printed.
  pub told-cause : (outcome : Outcome) (result : Result Status CommandEnd) → HasStopCause {T = Outcome} (files_counts r f a) (files_counts r f b) (Ok outcome) → HasSayCause (p.faults said) (p.faults now) result
      → HasStopCause (seen r f.writing_faults f.names p a said).counts (seen r f.writing_faults f.names p b now).counts result
  told-cause outcome (Ok s) same cause = λ i. record { reading = (same i).reading; writing = (same i).writing; report = cause i }
  told-cause outcome (Err stop.Memory) same cause = λ i. record { reading = (same i).reading; writing = (same i).writing; report = cause i }
  told-cause outcome (Err stop.Files) same cause = absurd cause
  told-cause outcome (Err stop.Disk) same cause = absurd cause
  told-cause outcome (Err stop.Report) same cause = (cause, λ i. record { reading = (same i).reading; writing = (same i).writing; report = p.faults now })
