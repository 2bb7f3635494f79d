-- Reasons why a merge ends before all its outputs are complete, and the failures that have then been counted.
use Rattle.std.specs.Prelude.{◌≡◌, ⊤, ℕ, Result, Ok, Err}
use Rattle.mkv_io.specs.declared.remux_end.RemuxEnd.{RemuxEnd}
use Rattle.remux_plan.specs.declared.summary.Summary.{Summary}
use Rattle.mkv_lines.specs.Code.{stop_of}
use Rattle.mkv_lines.specs.declared.status.Status.{Status}
use Rattle.mkv_lines.specs.declared.status.CommandEnd.{CommandEnd}
use Rattle.mkv_lines.specs.declared.status.CommandEnd.TheVariants as stop
use Rattle.mkv_io.specs.Faults.{HasIncreased}
use Rattle.merge_plan.specs.declared.refusal.PlanEnd.{PlanEnd}
use Rattle.merge_plan.specs.declared.refusal.PlanEnd.TheVariants as plan_end
use Rattle.mkv_merge.specs.declared.refusal.MergeEnd.{MergeEnd}
use Rattle.mkv_merge.specs.declared.refusal.MergeEnd.TheVariants.{Refused, Stopped}
use Rattle.mkv_merge.specs.declared.refusal.Refusal.TheVariants.{Plan}
use Rattle.mkv_merge.specs.declared.refusal.Refusal.{Refusal}

-- A call that only reads ended with this result, and the count of failed reads was `before` and is `now`. The count rises exactly if a failed read
-- stopped the call. No other failure stops it. Used by `EndsReading`, in the contracts of `prepare` and its steps.
abbrev pub HasReadCause : {T : Type 0} → ℕ → ℕ → Result T MergeEnd → Type 0
HasReadCause before now (Ok _) = now ≡ before
HasReadCause before now (Err (Refused why)) = now ≡ before
HasReadCause before now (Err (Stopped stop.Memory)) = now ≡ before
HasReadCause before now (Err (Stopped stop.Files)) = HasIncreased before now
HasReadCause before now (Err (Stopped stop.Disk)) = ⊥
HasReadCause before now (Err (Stopped stop.Report)) = ⊥

-- The end of a call that reads no files: the merge was refused, or memory ran out. The contracts of `with_file` and `with_times`, which apply text
-- files, state it of their errors.
abbrev pub IsQuiet : MergeEnd → Type 0
IsQuiet (Refused why) = ⊤
IsQuiet (Stopped stop.Memory) = ⊤
IsQuiet (Stopped stop.Files) = ⊥
IsQuiet (Stopped stop.Disk) = ⊥
IsQuiet (Stopped stop.Report) = ⊥

-- the end of a merge that can't be planned, by the reason. The conversion from `PlanEnd` states it. Used by the contract of `from`.
abbrev pub unplanned : PlanEnd → MergeEnd
unplanned (plan_end.Refused why) = Refused (Plan why)
unplanned plan_end.Memory = Stopped stop.Memory

-- the end of a merge that prints messages, by the result of its writing; an early end is a stop, never a refusal. The contract of `written` states
-- it.
abbrev pub as_written : Result Status CommandEnd → Result Status MergeEnd
as_written (Ok s) = Ok s
as_written (Err why) = Err (Stopped why)

-- the end of a merge that prints nothing, by the result of its writing; an early end is a stop, never a refusal. The contract of `remuxed` states it.
abbrev pub as_remuxed : Result Summary RemuxEnd → Result Summary MergeEnd
as_remuxed (Ok s) = Ok s
as_remuxed (Err end) = Err (Stopped (stop_of end))

-- the end of a command by the end of the merge that it ran. `done` is applied to the merge's result, and `told` to its refusal; a stop stays one. For
-- `merge`, which prints a refusal, and for `generate`, which returns it.
abbrev pub end_as : {A T : Type 0} → (A → T) → (Refusal → T) → Result A MergeEnd → Result T CommandEnd
end_as done told (Ok x) = Ok (done x)
end_as done told (Err (Refused why)) = Ok (told why)
end_as done told (Err (Stopped why)) = Err why
