-- The ends of runs, and the reasons.
use Rattle.std.proofs.Common.{◌≡◌, ℕ, Bool, true, false, if◌then◌else◌, IsTrue, ◌+◌, ◌≤◌, List, [], ◌∷◌, ◌++◌, Result, Ok, Err, inl, inr, Option, Some, None, ◌⊎◌, refl, sym, ◌∙◌, ap, subst, arith}
use Rattle.mkv_io.specs.Faults.{HasIncreased}
use Rattle.mkv_io.specs.Lines.{with_lines}
use Rattle.mkv_io.specs.Names.{Names}
use Rattle.mkv_io.specs.Told.{IfVisible}
use Rattle.mkv_io.specs.declared.reads.Reads as reads
use Rattle.mkv_disk.specs.Calls.{AnyMoment, AtRest, OfReads}
use Rattle.mkv_disk.specs.Moments.{LeavesOnly}
use Rattle.mkv_disk.specs.Pair.{IsPairImage}
use Rattle.mkv_disk.proofs.MomentsLemmas.{stays}
use Rattle.mkv_disk.specs.declared.disk.Disk as disks
use Rattle.mkv_lines.specs.Said.{HasSayCause, ReportLines, Says, SaysLast, SaysPart}
use Rattle.mkv_lines.specs.Verdict.{StopsSaying, Verdict}
use Rattle.sidecar_edit.proofs.GateLemmas.{both_image}
use Rattle.mkv_propedit.specs.Recover.{DiskWorld, disk_world}
use Rattle.mkv_propedit.specs.Recovery.{HasDiskStop}
use Rattle.mkv_propedit.proofs.RecoverLemmas.{recovery-still}
use Rattle.mkv_propedit.specs.Left.{writes_of_edits}
use Rattle.mkv_propedit.specs.Reindex.{writes_of_index}
use Rattle.mkv_propedit.proofs.PropeditLemmas.{edit-still}
use Rattle.mkv_run.specs.Ends.{SaysFault}
use Rattle.mkv_run.specs.Run.{LeavesReadable, MergesReadableIn, ReadsWithinAfter}
use Rattle.mkv_run.specs.RunSeen.{HasRunStop, IsSilent, RunSeen}
use Rattle.mkv_run.specs.Touched.{IsInPlace, LeftOnTheWay, Reach, Touches, edited, files, indexed, nothing, recovered}
use Rattle.mkv_lines.specs.declared.status.Status.{Status}
use Rattle.mkv_lines.specs.declared.status.Status.TheVariants as status
use Rattle.mkv_lines.specs.declared.status.CommandEnd.{CommandEnd}
use Rattle.mkv_lines.specs.declared.status.CommandEnd.TheVariants as stop
use Rattle.requests.specs.declared.job.Job.{Job}
use Rattle.requests.specs.declared.job.Job.TheVariants as jobs
use Rattle.word_values.specs.declared.usage.Usage.{Usage}
use Rattle.mkv_args.specs.declared.command.Command.{Command}
use Rattle.mkv_args.specs.declared.command.Command.TheVariants.{Explain, Extract, Generate, Help, Identify, Info, Merge, Propedit, Recover, Reindex, Version}
use Rattle.mkv_args.specs.Sound.{IsSoundJob}
use Rattle.extractors.specs.Job.{CanBeDone}
use Rattle.mkv_lines.proofs.SaidLemmas.{SaysPart-before, SaysPart-none, with_lines-both, with_lines-none}

-- The line of the failure follows a first part of the lines.
fault_behind : (fault : List ℕ) (old mid new : ReportLines) (all : List (List ℕ)) → SaysPart old mid all → new ≡ with_lines mid (fault ∷ []) → SaysFault old new all fault
fault_behind fault old mid new all part added = record {
  said = part.said;
  left = part.left;
  whole = part.whole;
  added = added ∙ ap (λ (held : ReportLines). with_lines held (fault ∷ [])) part.added ∙ with_lines-both old part.said (fault ∷ []);
}

-- No line follows the last one.
last_alone : (rest left : List (List ℕ)) → [] ≡ rest ++ left → rest ≡ []
last_alone [] left none = refl
last_alone (line ∷ lines) left none = absurd (cc)

-- The line of the failure was printed or not.
fault_or_not : (fault : List ℕ) (old mid new : ReportLines) (all said left : List (List ℕ)) → SaysPart old mid all → fault ∷ [] ≡ said ++ left → new ≡ with_lines mid said → SaysFault old new all fault ⊎ SaysPart old new all
fault_or_not fault old mid new all [] left part whole added =
    inr (subst (λ (held : ReportLines). SaysPart old held all) (sym (added ∙ with_lines-none mid)) part)
fault_or_not fault old mid new all (line ∷ lines) left part whole added =
    let first : line ≡ fault = cc in
    let rest : lines ≡ [] = last_alone lines left (cc) in
    inl (fault_behind fault old mid new all part (added ∙ ap (λ (l : List ℕ). with_lines mid (l ∷ lines)) first ∙ ap (λ (ls : List (List ℕ)). with_lines mid (fault ∷ ls)) rest))

-- A predicate that follows from another for any lines may replace it in `StopsSaying`.
pub stops-saying : (P Q : List (List ℕ) → Type 0) (old new : Names) (v : Verdict) → ((all : List (List ℕ)) → P all → Q all) → StopsSaying P old new v → StopsSaying Q old new v
stops-saying P Q old new v so stops =
    elim stops [ inl within ↦ inl (so v.before within.0, within.1) | inr behind ↦ inr (so v.lines behind.0, behind.1) ]

-- The line of a failure follows the lines of the command, unless the report fails.
pub fault-told : {T : Type 0} (fault : List ℕ) (before now : ℕ) (old mid new : ReportLines) (all : List (List ℕ)) (r : Result T CommandEnd) → SaysPart old mid all → Says mid new (fault ∷ []) r → HasSayCause before now r → (r ≡ Err stop.Memory → ⊥)
    → SaysFault old new all fault ⊎ (HasIncreased before now × SaysPart old new all)
fault-told fault before now old mid new all (Ok done) part says cause some = inl (fault_behind fault old mid new all part says)
fault-told fault before now old mid new all (Err stop.Memory) part says cause some = absurd (some refl)
fault-told fault before now old mid new all (Err stop.Files) part says cause some = absurd cause
fault-told fault before now old mid new all (Err stop.Disk) part says cause some = absurd cause
fault-told fault before now old mid new all (Err stop.Report) part says cause some =
    elim (fault_or_not fault old mid new all says.said says.left part says.whole says.added) [ inl told ↦ inl told | inr untold ↦ inr (cause, untold) ]

-- The line of a failure is the only one if none was printed before, unless the report fails.
pub fault-alone : {T : Type 0} (fault : List ℕ) (before now : ℕ) (old mid new : ReportLines) (all : List (List ℕ)) (r : Result T CommandEnd) → mid ≡ old → Says mid new (fault ∷ []) r → HasSayCause before now r → (r ≡ Err stop.Memory → ⊥)
    → (new ≡ with_lines old (fault ∷ [])) ⊎ (HasIncreased before now × SaysPart old new all)
fault-alone fault before now old mid new all r same says cause some =
    elim (fault-told fault before now old mid new [] r none says cause some) [
      | inl told ↦ inl (told.added ∙ ap (λ (said : List (List ℕ)). with_lines old (said ++ fault ∷ [])) (last_alone told.said told.left told.whole))
      | inr untold ↦ inr (untold.0, SaysPart-before old new [] all untold.1)
    ]
  where
    none : SaysPart old mid []
    none = subst (λ (held : ReportLines). SaysPart old held []) (sym same) (SaysPart-none old [])

-- ---- outputs that can be read again

-- A command that ended by itself leaves outputs that can be read again.
pub leaves-readable : (names : Names) (words : List (List ℕ)) (s : Status) → MergesReadableIn names words (Ok s) → LeavesReadable names words s
leaves-readable names words status.Done readable = readable
leaves-readable names words status.Warned readable = readable
leaves-readable names words status.Refused readable = readable
leaves-readable names words status.NoMemory readable = tt
leaves-readable names words status.Outside readable = tt

-- ---- the reason why a command stops

-- If no line was printed, an edit in place has printed nothing.
pub silent-same : (reach : Reach) (old new : ReportLines) → new ≡ old → IsSilent reach old new
silent-same nothing old new same = tt
silent-same files old new same = tt
silent-same (recovered file) old new same = same
silent-same (edited file edits) old new same = same
silent-same (indexed file) old new same = same

-- A command over the disk, in a run that leaves the files.
module _ {D : Type 0} (r : reads.Ghosts D) (d : disks.Ghosts D) (a b : D) (reading writing before now : ℕ) (lines lines_now : ReportLines) (names : Names) where
  abbrev old : RunSeen
  old = record {
    seen = record { counts = record { reading = reading; writing = writing; report = before }; lines = lines; names = names };
    disk = record { reading = r.reading_faults a; writing = d.writing_faults a };
  }

  abbrev new : RunSeen
  new = record {
    seen = record { counts = record { reading = reading; writing = writing; report = now }; lines = lines_now; names = names };
    disk = record { reading = r.reading_faults b; writing = d.writing_faults b };
  }

  pub disk-stop : {T : Type 0} (reach : Reach) (result : Result T CommandEnd) → HasDiskStop r d a b before now result → SaysLast lines lines_now result → HasRunStop reach old new result
  disk-stop reach (Ok x) cause last = record {
    counts = λ i. record { reading = reading; writing = writing; report = cause.1 i };
    disk = λ i. record { reading = cause.0.reading i; writing = cause.0.writing i };
  }
  disk-stop reach (Err stop.Memory) cause last = (
    record {
      counts = λ i. record { reading = reading; writing = writing; report = cause.1 i };
      disk = λ i. record { reading = cause.0.reading i; writing = cause.0.writing i };
    },
    silent-same reach lines lines_now last,
  )
  disk-stop reach (Err stop.Files) cause last = absurd cause
  disk-stop reach (Err stop.Disk) cause last = (
    elim cause.0 [ inl reads ↦ inl reads.0 | inr writes ↦ inr writes.1 ],
    λ i. record { reading = reading; writing = writing; report = cause.1 i },
    last,
  )
  disk-stop reach (Err stop.Report) cause last = (cause.1, refl, λ i. record { reading = cause.0.reading i; writing = cause.0.writing i })

-- ---- crashes

-- A crash leaves an unchanged disk as it was.
untouched : {D : Type 0} (e : Status) (d : disks.Ghosts D) (old new : D) → AtRest d old → ((m s : List ℕ) → IsTrue d.told → d.left_since old (d.moment old) m s → IsPairImage (d.pair old) m s) → new ≡ old → AnyMoment d old new (LeftOnTheWay nothing e)
untouched e d old now rest only same = λ told.
    subst (λ x. LeavesOnly d.moment d.left_since old x (LeftOnTheWay nothing e (d.pair old).media.reads (d.pair old).sidecar.reads)) (sym same)
    (stays d.moment d.left_since old (LeftOnTheWay nothing e (d.pair old).media.reads (d.pair old).sidecar.reads) (λ m s left. both_image (d.pair old) m s (rest told) (only m s told left)))

-- A crash leaves what the command may leave on its way.
pub touches-moment : {F D : Type 0} (r : reads.Ghosts D) (d : disks.Ghosts D) (reach : Reach) (before after : F) (old new : D) (s : Status)
    → AtRest d old → ((m s : List ℕ) → IsTrue d.told → d.left_since old (d.moment old) m s → IsPairImage (d.pair old) m s) → Touches r d reach before after old new s → AnyMoment d old new (LeftOnTheWay reach s)
touches-moment r d nothing before after was now s rest only touches = untouched s d was now rest only touches.1
touches-moment r d files before after was now s rest only touches = untouched s d was now rest only touches
touches-moment r d (recovered name) before after was now s rest only touches = touches.1.leaves.any_moment
touches-moment r d (edited name edits) before after was now s rest only touches = touches.1.leaves.any_moment
touches-moment r d (indexed name) before after was now s rest only touches = touches.1.leaves.any_moment

-- If memory runs out before the command is read, nothing is changed.
pub touches-nothing : {F D : Type 0} (r : reads.Ghosts D) (d : disks.Ghosts D) (reach : Reach) (before : F) (disk : D)
    → (IsInPlace reach → AtRest d disk) → ((m s : List ℕ) → IsTrue d.told → d.left_since disk (d.moment disk) m s → IsPairImage (d.pair disk) m s) → Touches r d reach before before disk disk status.NoMemory
touches-nothing r d (recovered name) before disk rest only = (
  refl,
  record {
    leaves = recovery-still d disk status.NoMemory (rest tt) (λ M S p same. same) only;
    opened = inr record { standing = refl; not_done = λ is. absurd (cc); missing = λ is told. absurd (cc) };
  },
)
touches-nothing r d (edited name edits) before disk rest only = (
  refl,
  record {
    leaves = edit-still d (writes_of_edits edits) disk status.NoMemory (rest tt) (λ M S p same. same) only;
    opened = inr record { standing = refl; not_done = λ is. absurd (cc); missing = λ is told. absurd (cc) };
  },
)
touches-nothing r d (indexed name) before disk rest only = (
  refl,
  record {
    leaves = edit-still d writes_of_index disk status.NoMemory (rest tt) (λ M S p same. same) only;
    opened = inr record { standing = refl; not_done = λ is. absurd (cc); missing = λ is told. absurd (cc) };
  },
)
touches-nothing r d nothing before disk rest only = (refl, refl)
touches-nothing r d files before disk rest only = refl

-- ---- numbers of bytes read

-- A bound on the bytes of the files, or of the disk, is a bound on both if the other isn't read.
pub files-alone : (before now most other : ℕ) → now ≤ before + most → now + other ≤ before + other + most
files-alone before now most other within = omega arith

pub disk-alone : (before now most other : ℕ) → now ≤ before + most → other + now ≤ other + before + most
disk-alone before now most other within = omega arith

-- ---- contents of a disk that are visible to the proof

-- A predicate on the bytes of the medium holds of the visible contents of the disk.
pub media-told : {D : Type 0} (d : disks.Ghosts D) (disk : D) (P : List ℕ → Type 0) → OfReads d disk (λ M S. P M) → IfVisible (disk_world d disk) (λ world. P world.media)
media-told d disk P so = by_told d.told so
  where
    world : DiskWorld
    world = record { is_there = d.is_there disk; media = (d.pair disk).media.reads; sidecar = (d.pair disk).sidecar.reads }

    by_told : (told : Bool) → (IsTrue told → P world.media) → IfVisible (if told then Some world else None) (λ w. P w.media)
    by_told true so = λ w is. let same : world ≡ w = cc in subst (λ (each : DiskWorld). P each.media) same (so refl)
    by_told false so = λ w is. absurd (cc)

-- ---- an extraction

-- A job that a command line asks for can be done.
pub job-done : (job : Job) → IsSoundJob job → CanBeDone job
job-done (jobs.Tracks form list) sound = record { apart = sound.apart; numbers = tt }
job-done (jobs.Attachments list) sound = record { apart = sound.apart; numbers = sound.from }
job-done (jobs.Cues list) sound = record { apart = sound.apart; numbers = tt }
job-done (jobs.Chapters name) sound = record { apart = (tt, tt); numbers = tt }

-- A run that reads nothing is within every bound.
pub reads-nothing : (names : Names) (disk : Option DiskWorld) (asked : Result Command Usage) (count : ℕ) → ReadsWithinAfter names disk asked count count
reads-nothing names disk (Ok (Help about)) count = refl
reads-nothing names disk (Ok Version) count = refl
reads-nothing names disk (Ok (Explain name)) count = refl
reads-nothing names disk (Ok (Info file)) count = λ world told. omega arith
reads-nothing names disk (Ok (Identify file)) count = λ world told. omega arith
reads-nothing names disk (Ok (Recover file)) count = omega arith
reads-nothing names disk (Ok (Reindex file)) count = λ world told. omega arith
reads-nothing names disk (Ok (Generate n prefix)) count = λ world told. omega arith
reads-nothing names disk (Ok (Extract file job)) count = λ world told. omega arith
reads-nothing names disk (Ok (Propedit file edits)) count = λ world told. omega arith
reads-nothing names disk (Ok (Merge words)) count = λ world told. omega arith
reads-nothing names disk (Err usage) count = refl
