-- Each call of files in memory fulfils the clauses of the traits for files.
use Rattle.std.proofs.Common.{◌≡◌, ◌≢◌, ℕ, ◌+◌, ◌-◌, ◌<◌, ◌≤◌, min, List, [], ◌∷◌, ◌++◌, zero, suc, ◌∙◌, length, take, Option, Some, None, Bool, true, false, is_some, unwrap_or, if◌then◌else◌, Result, Ok, Err, OnOk, IfOk, IsErrOf, OnErr, refl, sym, ap, subst, arith}
use Rattle.mkv_io.specs.declared.outside.FileId.{FileId}
use Rattle.mkv_io.specs.declared.outside.Failed.{Failed}
use Rattle.mkv_io.specs.declared.outside.OpenFault.{OpenFault}
use Rattle.mkv_io.specs.declared.outside.MakeFault.{MakeFault}
use Rattle.mkv_io.specs.declared.outside.MakeFault.TheVariants as make_fault
use Rattle.mkv_io.specs.Contents.{with_appended, with_overwritten}
use Rattle.mkv_io.specs.LiveFiles.{Appends, AppendsPart, KeepsFiles, Overwrites, OverwritesWithin}
use Rattle.mkv_io.specs.Told.{IfVisible}
use Rattle.mkv_memory.specs.Stored.{Stored, content_of_file, files_of, holder_of, name_of_file, with_changed_file}
use Rattle.mkv_memory.specs.SeenFiles.{SeenFiles, AppendsTo, CreatesName, OpensName, OverwritesIn, kept_by, is_too_much}
use Rattle.mkv_memory.proofs.StoredLemmas.{ChangesStored, IsSound, ChangesStored-appended, ChangesStored-overwritten, IsSameFile-created, OverwritesWithin-nothing, content_of_file-told, size-created}

-- If the store is unchanged, so is every file.
KeepsFiles-same : (old new : Stored) (Is : ℕ → Type 0) → new ≡ old → KeepsFiles (files_of old) (files_of new) Is
KeepsFiles-same old new Is same file is = record {
  alive = ap (λ stored. (files_of stored).live file) same;
  size = λ _. ap (λ stored. (files_of stored).size file) same;
  content = λ _. ap (λ stored. (files_of stored).content file) same;
}

-- A live file has a name.
holder-live : (name : Option (List ℕ)) → is_some name ≡ true → name ≡ Some (unwrap_or name [])
holder-live None live = cc
holder-live (Some name) live = refl

-- ---- opening and making

-- A file that is opened has the content of its name.
pub OpensName-content : (old new : SeenFiles) (name : List ℕ) (result : Result FileId OpenFault) → OpensName old name result new → IfOk result (λ file. IfVisible (Some old.stored.world) (λ world. content_of_file new.stored file.n ≡ world name))
OpensName-content old new name (Ok file) opens =
    λ world told. content_of_file-told old.stored new.stored world name file.n (ap (λ (seen : SeenFiles). seen.stored) opens.3) opens.2 told
OpensName-content old new name (Err fault) opens = tt

-- One more file is live.
added-elsewhere : (opened : List (Option (List ℕ))) (name : List ℕ) (other : ℕ) → other ≢ length opened → name_of_file (opened ++ Some name ∷ []) other ≡ name_of_file opened other
added-elsewhere [] name zero differs = absurd (differs refl)
added-elsewhere [] name (suc other) differs = refl
added-elsewhere (one ∷ more) name zero differs = refl
added-elsewhere (one ∷ more) name (suc other) differs = added-elsewhere more name other (λ same. differs (ap suc same))

-- No other file becomes live.
pub OpensName-alone : (old new : SeenFiles) (name : List ℕ) (result : Result FileId OpenFault) → OpensName old name result new → IfOk result (λ file. (other : ℕ) → other ≢ file.n → (files_of new.stored).live other ≡ (files_of old.stored).live other)
OpensName-alone old new name (Ok file) opens = λ other differs.
    ap (λ (seen : SeenFiles). is_some (name_of_file seen.stored.opened other)) opens.3
    ∙ ap is_some (added-elsewhere old.stored.opened name other (λ same. differs (same ∙ sym opens.2)))
OpensName-alone old new name (Err fault) opens = tt

pub CreatesName-alone : (old new : SeenFiles) (name : List ℕ) (result : Result FileId MakeFault) → CreatesName old name result new → IfOk result (λ file. (other : ℕ) → other ≢ file.n → (files_of new.stored).live other ≡ (files_of old.stored).live other)
CreatesName-alone old new name (Ok file) creates = λ other differs.
    ap (λ (seen : SeenFiles). is_some (name_of_file seen.stored.opened other)) creates.2
    ∙ ap is_some (added-elsewhere old.stored.opened name other (λ same. differs (same ∙ sym creates.1)))
CreatesName-alone old new name (Err fault) creates = tt

-- A refusal leaves no other file live.
pub CreatesName-refused : (old new : SeenFiles) (name : List ℕ) (result : Result FileId MakeFault) → CreatesName old name result new → OnErr result ((file : ℕ) → (files_of new.stored).live file ≡ (files_of old.stored).live file)
CreatesName-refused old new name (Ok file) creates = tt
CreatesName-refused old new name (Err make_fault.Failed) creates = λ file. ap (λ (seen : SeenFiles). (files_of seen.stored).live file) creates.1
CreatesName-refused old new name (Err make_fault.Memory) creates = λ file. ap (λ (seen : SeenFiles). (files_of seen.stored).live file) creates.1

-- A file that is made is empty.
pub CreatesName-size : (old new : SeenFiles) (name : List ℕ) (result : Result FileId MakeFault) → CreatesName old name result new → IfOk result (λ file. (files_of new.stored).size file.n ≡ 0)
CreatesName-size old new name (Ok file) creates =
    let now = ap (λ (seen : SeenFiles). seen.stored) creates.2 in
    rw creates.1 (size-created new.stored old.stored.world old.stored.opened name (ap (λ (stored : Stored). stored.world) now) (ap (λ (stored : Stored). stored.opened) now))
CreatesName-size old new name (Err fault) creates = tt

-- Files with other names stay.
pub CreatesName-others : (old new : SeenFiles) (name : List ℕ) (result : Result FileId MakeFault) → CreatesName old name result new → KeepsFiles (files_of old.stored) (files_of new.stored) (λ file. (file < length old.stored.opened) × (holder_of old.stored file ≢ name))
CreatesName-others old new name (Ok file) creates = λ other is.
    let now = ap (λ (seen : SeenFiles). seen.stored) creates.2 in
    IsSameFile-created old.stored new.stored name other (ap (λ (stored : Stored). stored.world) now) (ap (λ (stored : Stored). stored.opened) now) is.0 is.1
CreatesName-others old new name (Err make_fault.Failed) creates = KeepsFiles-same old.stored new.stored _ (ap (λ (seen : SeenFiles). seen.stored) creates.1)
CreatesName-others old new name (Err make_fault.Memory) creates = KeepsFiles-same old.stored new.stored _ (ap (λ (seen : SeenFiles). seen.stored) creates.1)

-- ---- appending

-- The bytes are appended to a live file.
ChangesStored-file_appended : (old new : Stored) (file : ℕ) (more : List ℕ) → (files_of old).live file ≡ true → IsSound old.world old.opened → new ≡ with_changed_file old file (with_appended more) → ChangesStored old new file ((files_of old).size file + length more) (with_appended more)
ChangesStored-file_appended old new file more live sound now =
    ChangesStored-appended old new file (holder_of old file) more (holder-live (name_of_file old.opened file) live)
    (ap (λ (stored : Stored). stored.opened) now) (ap (λ (stored : Stored). stored.world) now) sound

pub AppendsTo-ok : {T : Type 0} (old new : SeenFiles) (file : ℕ) (more : List ℕ) (result : Result T MakeFault) → (files_of old.stored).live file ≡ true → IsSound old.stored.world old.stored.opened → AppendsTo old file more result new → OnOk result (Appends (files_of old.stored) (files_of new.stored) (Some old.stored.world) (Some new.stored.world) file (holder_of old.stored file) more)
AppendsTo-ok old new file more (Ok value) live sound appends =
    (ChangesStored-file_appended old.stored new.stored file more live sound (ap (λ (seen : SeenFiles). seen.stored) appends.1)).changed
AppendsTo-ok old new file more (Err fault) live sound appends = tt

-- A failing append keeps at most all bytes.
kept_by-within : (old : SeenFiles) (file : ℕ) (more : List ℕ) → kept_by old file more ≤ length more
kept_by-within old file more = step (is_too_much old file more)
  where
    step : (too_much : Bool) → (if too_much then 0 else min (unwrap_or (old.to_fail old.calls) 0) (length more - 1)) ≤ length more
    step true = omega arith
    step false = omega arith

-- A failing append adds a prefix.
pub AppendsTo-failed : {T : Type 0} (old new : SeenFiles) (file : ℕ) (more : List ℕ) (result : Result T MakeFault) → (files_of old.stored).live file ≡ true → IsSound old.stored.world old.stored.opened → AppendsTo old file more result new → IsErrOf result make_fault.Failed → AppendsPart (files_of old.stored) (files_of new.stored) (Some old.stored.world) (Some new.stored.world) file (holder_of old.stored file) more
AppendsTo-failed old new file more (Ok value) live sound appends is = cc
AppendsTo-failed old new file more (Err make_fault.Failed) live sound appends is = record {
  kept = kept_by old file more;
  within = kept_by-within old file more;
  added = (ChangesStored-file_appended old.stored new.stored file (take (kept_by old file more) more) live sound (ap (λ (seen : SeenFiles). seen.stored) appends.1)).changed;
}
AppendsTo-failed old new file more (Err make_fault.Memory) live sound appends is = cc

-- Files with other names stay.
pub AppendsTo-others : {T : Type 0} (old new : SeenFiles) (file : ℕ) (more : List ℕ) (result : Result T MakeFault) → (files_of old.stored).live file ≡ true → IsSound old.stored.world old.stored.opened → AppendsTo old file more result new → KeepsFiles (files_of old.stored) (files_of new.stored) (λ other. holder_of old.stored other ≢ holder_of old.stored file)
AppendsTo-others old new file more (Ok value) live sound appends =
    (ChangesStored-file_appended old.stored new.stored file more live sound (ap (λ (seen : SeenFiles). seen.stored) appends.1)).others
AppendsTo-others old new file more (Err make_fault.Failed) live sound appends =
    (ChangesStored-file_appended old.stored new.stored file (take (kept_by old file more) more) live sound (ap (λ (seen : SeenFiles). seen.stored) appends.1)).others
AppendsTo-others old new file more (Err make_fault.Memory) live sound appends = KeepsFiles-same old.stored new.stored _ (ap (λ (seen : SeenFiles). seen.stored) appends.1)

-- ---- overwriting

-- The bytes are written over a live file.
ChangesStored-file_overwritten : (old new : Stored) (file at : ℕ) (bytes : List ℕ) → (files_of old).live file ≡ true → IsSound old.world old.opened → at + length bytes ≤ (files_of old).size file → new ≡ with_changed_file old file (with_overwritten at bytes) → ChangesStored old new file ((files_of old).size file) (with_overwritten at bytes)
ChangesStored-file_overwritten old new file at bytes live sound within now =
    ChangesStored-overwritten old new file (holder_of old file) at bytes (holder-live (name_of_file old.opened file) live)
    (ap (λ (stored : Stored). stored.opened) now) (ap (λ (stored : Stored). stored.world) now) sound within

pub OverwritesIn-ok : {T : Type 0} (old new : SeenFiles) (file at : ℕ) (bytes : List ℕ) (result : Result T Failed) → (files_of old.stored).live file ≡ true → IsSound old.stored.world old.stored.opened → at + length bytes ≤ (files_of old.stored).size file → OverwritesIn old file at bytes result new → OnOk result (Overwrites (files_of old.stored) (files_of new.stored) (Some old.stored.world) (Some new.stored.world) file (holder_of old.stored file) at bytes)
OverwritesIn-ok old new file at bytes (Ok value) live sound within overwrites =
    (ChangesStored-file_overwritten old.stored new.stored file at bytes live sound within (ap (λ (seen : SeenFiles). seen.stored) overwrites.1)).changed
OverwritesIn-ok old new file at bytes (Err fault) live sound within overwrites = tt

-- If nothing is written, the bytes of the range are some bytes.
pub OverwritesIn-err : {T : Type 0} (old new : SeenFiles) (file at : ℕ) (bytes : List ℕ) (result : Result T Failed) → (files_of old.stored).live file ≡ true → at + length bytes ≤ (files_of old.stored).size file → OverwritesIn old file at bytes result new → OnErr result (OverwritesWithin (files_of old.stored) (files_of new.stored) (Some old.stored.world) (Some new.stored.world) file (holder_of old.stored file) at (length bytes))
OverwritesIn-err old new file at bytes (Ok value) live within overwrites = tt
OverwritesIn-err old new file at bytes (Err fault) live within overwrites =
    let P : Stored → Type 0 = λ stored. OverwritesWithin (files_of old.stored) (files_of stored) (Some old.stored.world) (Some stored.world) file (holder_of old.stored file) at (length bytes) in
    subst P (sym (ap (λ (seen : SeenFiles). seen.stored) overwrites.1)) (OverwritesWithin-nothing old.stored file at (length bytes) live within)

pub OverwritesIn-others : {T : Type 0} (old new : SeenFiles) (file at : ℕ) (bytes : List ℕ) (result : Result T Failed) → (files_of old.stored).live file ≡ true → IsSound old.stored.world old.stored.opened → at + length bytes ≤ (files_of old.stored).size file → OverwritesIn old file at bytes result new → KeepsFiles (files_of old.stored) (files_of new.stored) (λ other. holder_of old.stored other ≢ holder_of old.stored file)
OverwritesIn-others old new file at bytes (Ok value) live sound within overwrites =
    (ChangesStored-file_overwritten old.stored new.stored file at bytes live sound within (ap (λ (seen : SeenFiles). seen.stored) overwrites.1)).others
OverwritesIn-others old new file at bytes (Err fault) live sound within overwrites = KeepsFiles-same old.stored new.stored _ (ap (λ (seen : SeenFiles). seen.stored) overwrites.1)
