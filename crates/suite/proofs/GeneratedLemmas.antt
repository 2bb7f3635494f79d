-- A run of `generate` ends well.
use Rattle.std.proofs.Common.{◌≡◌, ◌≤◌, ℕ, List, Option, Some, Result, Ok, inl, inr, refl, sym, ap, ap₂, ◌∙◌}
use Rattle.mkv_io.specs.Names.{Names}
use Rattle.mkv_io.specs.Told.{IfVisible}
use Rattle.word_values.specs.declared.usage.Usage.{Usage}
use Rattle.mkv_args.specs.Words.{command}
use Rattle.mkv_args.specs.declared.command.Command.{Command}
use Rattle.mkv_args.specs.declared.command.Command.TheVariants.{Generate}
use Rattle.mkv_args.proofs.SoundLemmas.{command-sound}
use Rattle.mkv_generate.specs.Generate.{generate_verdict}
use Rattle.mkv_lines.specs.Verdict.{Verdict}
use Rattle.mkv_lines.specs.declared.status.Status.{Status}
use Rattle.mkv_lines.specs.declared.status.Status.TheVariants as status
use Rattle.mkv_propedit.specs.Recover.{DiskWorld}
use Rattle.generate_laws.specs.Generated.{GenerateSucceeds}
use Rattle.mkv_run.specs.Ends.{Ends}
use Rattle.mkv_run.specs.Run.{verdict_after, verdict_in}
use Rattle.mkv_run.specs.RunSeen.{RunSeen}
use Rattle.suite.specs.Generated.{GeneratesWell, IsDoneOrStopped}

-- A run ends with the status Done if its result has it, unless it is stopped.
ends-done : (old new : RunSeen) (s : Status) (v : Verdict) → v.status ≡ status.Done → Ends old new s v → IsDoneOrStopped s
ends-done old new status.Done v is ends = inl refl
ends-done old new status.Warned v is ends = inl (ends.0 ∙ is)
ends-done old new status.Refused v is ends = inl (ends.0 ∙ is)
ends-done old new status.NoMemory v is ends = inr (inl refl)
ends-done old new status.Outside v is ends = inr (inr refl)

pub generates-well : GenerateSucceeds → (old new : RunSeen) (disk : Option DiskWorld) (words : List (List ℕ)) (s : Status) → IfVisible (verdict_in old.seen.names disk words) (Ends old new s) → GeneratesWell old.seen.names words s
generates-well succeeds old new disk words s reached = λ n prefix is.
    let sound = command-sound words (Generate n prefix) is in
    let made = succeeds n prefix sound.most in (
      made,
      λ world told. ends-done old new s (generate_verdict n prefix) (ap (λ (v : Verdict). v.status) made.result)
          (reached (generate_verdict n prefix) (ap₂ (λ (names : Names) (c : Result Command Usage). verdict_after names disk c) told is)),
    )
