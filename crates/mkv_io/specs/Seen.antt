-- The effects of a call on the live files, by comparison of the states before and after it.
use Rattle.std.specs.Prelude.{◌≡◌, ◌≢◌, ◌<◌, ◌≤◌, ℕ, List, [], length, Result, OnErr, IsErrOf}
use Rattle.mkv_io.specs.LiveFiles.{Appends, AppendsPart, KeepsFiles, KeepsHolders, Overwrites, OverwritesWithin}
use Rattle.mkv_io.specs.Names.{MayEmpty, Names, with_content}
use Rattle.mkv_io.specs.Sources.{IsLive, content_of, file_size, live_files}
use Rattle.mkv_io.specs.Told.{IfVisible}
use Rattle.mkv_io.specs.declared.asked.Asked.{Asked}
use Rattle.mkv_io.specs.declared.outside.FileId.{FileId}
use Rattle.mkv_io.specs.declared.outside.MakeFault.{MakeFault}
use Rattle.mkv_io.specs.declared.outside.MakeFault.TheVariants as make_fault
use Rattle.mkv_io.specs.declared.reads.Reads.{Ghosts}

-- From `old` to `new` each file number that fulfils `Is` is live if and only if it was. `r` has the live files of a state. Contracts of `open_file`
-- and `create` use it.
abbrev pub StayLive : {S : Type 0} → Ghosts S → S → S → (ℕ → Type 0) → Type 0
StayLive r old new Is = (file : ℕ) → Is file → (live_files r new).live file ≡ (live_files r old).live file

-- From `old` to `new` no file became live, and none was closed. `r` has the live files of a state. Contracts of calls that write, or that close what
-- they open, use it.
abbrev pub SameLive : {S : Type 0} → Ghosts S → S → S → Type 0
SameLive r old new = (file : ℕ) → (live_files r new).live file ≡ (live_files r old).live file

-- From `old` to `new` each file whose number fulfils `Is` stays live or not, and a live one has the same length and content. `r` has the live files
-- of a state. Contracts of calls on one file use it for the others.
abbrev pub LiveFilesStay : {S : Type 0} → Ghosts S → S → S → (ℕ → Type 0) → Type 0
LiveFilesStay r old new Is = KeepsFiles (live_files r old) (live_files r new) Is

-- The file number `file` is below `given`, and the file has a name other than `name`. `holder` has the name of each file. `StaysAtMaking` keeps the
-- files that fulfil it.
abbrev pub IsAnother : ℕ → (ℕ → List ℕ) → List ℕ → ℕ → Type 0
IsAnother given holder name file = (file < given) × (holder file ≢ name)

-- ---- a call on one live file

-- From `old` to `new` the bytes `more` were appended to the live file `file` and to the content of its name: the success of `append`. `r`, `names`
-- and `holder` have the live files, contents and file names of a state.
abbrev pub AddsOctets : {S : Type 0} → Ghosts S → (S → Names) → (S → ℕ → List ℕ) → S → S → FileId → List ℕ → Type 0
AddsOctets r names holder old new file more = Appends (live_files r old) (live_files r new) (names old) (names new) file.n (holder old file.n) more

-- From `old` to `new` a prefix of the bytes `more` was appended to the live file `file` and to the content of its name: a failed `append`. `r`,
-- `names` and `holder` have the live files, contents and file names of a state.
abbrev pub AddsFirst : {S : Type 0} → Ghosts S → (S → Names) → (S → ℕ → List ℕ) → S → S → FileId → List ℕ → Type 0
AddsFirst r names holder old new file more = AppendsPart (live_files r old) (live_files r new) (names old) (names new) file.n (holder old file.n) more

-- From `old` to `new` the bytes `now` were written over the live file `file` and the content of its name, from the offset `at` onwards. It is the
-- success of `overwrite`. `r`, `names` and `holder` have the live files, contents and file names of a state.
abbrev pub Puts : {S : Type 0} → Ghosts S → (S → Names) → (S → ℕ → List ℕ) → S → S → FileId → ℕ → List ℕ → Type 0
Puts r names holder old new file at now = Overwrites (live_files r old) (live_files r new) (names old) (names new) file.n (holder old file.n) at now

-- From `old` to `new` some bytes, as many as `now` has, were written over the live file `file` and the content of its name. They begin at the offset
-- `at`. It is a failed `overwrite`. `r`, `names` and `holder` have the live files, contents and file names of a state.
abbrev pub PutsSome : {S : Type 0} → Ghosts S → (S → Names) → (S → ℕ → List ℕ) → S → S → FileId → ℕ → List ℕ → Type 0
PutsSome r names holder old new file at now = OverwritesWithin (live_files r old) (live_files r new) (names old) (names new) file.n (holder old file.n) at (length now)

-- ---- the counts

-- From `old` to `new` no byte was read, and no read failed. `r` has the counts of a state. Contracts of calls that only write, make or close files
-- use it.
pub record ReadsNothing {S : Type 0} (r : Ghosts S) (old new : S) : Type 0 where
  pub reading : r.reading_faults new ≡ r.reading_faults old
  pub octets : r.octets_read new ≡ r.octets_read old

-- From `old` to `new` the counts of writing faults and bytes read stay, as in a call that can only fail to open or read. `r` has the counts of a
-- state. The contracts of `open_file`, and of opening a disk, use it.
pub record KeepsOtherCounts {S : Type 0} (r : Ghosts S) (writing_faults : S → ℕ) (old new : S) : Type 0 where
  pub writing : writing_faults new ≡ writing_faults old
  pub octets : r.octets_read new ≡ r.octets_read old

-- ---- a file that is opened or made

-- From `old` to `new` the file `file` became live under the name `name`. Its number was never given before, and no other file became live. `r`,
-- `held` and `numbers` have the live files, their names and the bound of the numbers of a state. Contracts of `open_file` and `create` promise it.
pub record IsNewFile {S : Type 0} (r : Ghosts S) (held : S → ℕ → List ℕ) (numbers : S → ℕ) (old new : S) (name : List ℕ) (file : FileId) : Type 0 where
  pub number : (numbers old ≤ file.n) × (file.n < numbers new)
  pub live : IsLive r new file
  pub alone : StayLive r old new (λ other. other ≢ file.n)
  pub holder : held new file.n ≡ name

-- From `old` to `new` the file `file` was opened under the name `name`. It has this name's content, if contents are visible to the proof. The
-- contract of `open_file` promises it. `r`, `contents`, `held` and `numbers` describe a state.
pub record IsOpenedFile {S : Type 0} (r : Ghosts S) (contents : S → Names) (held : S → ℕ → List ℕ) (numbers : S → ℕ) (old new : S) (name : List ℕ) (file : FileId) : Type 0 where
  pub is_new : IsNewFile r held numbers old new name file
  pub content : IfVisible (contents old) (λ world. content_of r new file ≡ world name)

-- From `old` to `new` the file `file` was created with the name `name`. It is empty, and so is the content of its name, whatever it was. The contract
-- of `create` promises it. `r`, `contents`, `held` and `numbers` describe a state.
pub record IsMadeFile {S : Type 0} (r : Ghosts S) (contents : S → Names) (held : S → ℕ → List ℕ) (numbers : S → ℕ) (old new : S) (name : List ℕ) (file : FileId) : Type 0 where
  pub is_new : IsNewFile r held numbers old new name file
  pub size : file_size r new file ≡ 0
  pub names : contents new ≡ with_content (contents old) name []

-- A `create` of `name` with this result was refused from `old` to `new`. The same files are live, and the content of `name` is as it was or empty. If
-- memory ran out, everything is as it was. `r` and `contents` have the live files and contents of a state. The contract of `create` promises it.
pub record LeavesUnmade {S T : Type 0} (r : Ghosts S) (contents : S → Names) (old new : S) (name : List ℕ) (result : Result T MakeFault) : Type 0 where
  pub live : OnErr result (SameLive r old new)
  pub names : OnErr result (MayEmpty (contents old) (contents new) name)
  pub memory : IsErrOf result make_fault.Memory → r.standing new ≡ r.standing old

-- ---- unchanged files and names

-- From `old` to `new` all names and the earlier live files stay, as at opening a file. So do the counts of writing faults and of bytes read. `r`,
-- `contents`, `held`, `numbers` and `writing_faults` describe a state. The contract of `open_file` promises it.
pub record StaysAtOpening {S : Type 0} (r : Ghosts S) (contents : S → Names) (held : S → ℕ → List ℕ) (numbers writing_faults : S → ℕ) (old new : S) : Type 0 where
  pub names : contents new ≡ contents old
  pub others : LiveFilesStay r old new (λ file. file < numbers old)
  pub holders : KeepsHolders (live_files r old).live (held old) (held new)
  pub counts : KeepsOtherCounts r writing_faults old new

-- From `old` to `new` the earlier files stay live, as at creating the file `name`. Files with other names keep their length and content. `r`, `held`
-- and `numbers` describe a state. The contract of `create` promises it.
pub record StaysAtMaking {S : Type 0} (r : Ghosts S) (held : S → ℕ → List ℕ) (numbers : S → ℕ) (old new : S) (name : List ℕ) : Type 0 where
  pub given : numbers old ≤ numbers new
  pub alive : StayLive r old new (λ file. file < numbers old)
  pub others : LiveFilesStay r old new (IsAnother (numbers old) (held old) name)
  pub holders : KeepsHolders (live_files r old).live (held old) (held new)

-- From `old` to `new` the same files are live and no name was asked for, as at writing to `file`. Files with other names keep their length and
-- content. `r`, `held`, `numbers` and `asked` describe a state. The contracts of `append` and `overwrite` promise it.
pub record StaysAtWriting {S : Type 0} (r : Ghosts S) (held : S → ℕ → List ℕ) (numbers : S → ℕ) (asked : S → List Asked) (old new : S) (file : FileId) : Type 0 where
  pub given : numbers new ≡ numbers old
  pub alive : SameLive r old new
  pub others : LiveFilesStay r old new (λ other. held old other ≢ held old file.n)
  pub holders : KeepsHolders (live_files r old).live (held old) (held new)
  pub asks : asked new ≡ asked old

-- From `old` to `new` all names and all other files stay, as at closing `file`. No name was asked for, and nothing was written. `r`, `contents`,
-- `held`, `numbers`, `writing_faults` and `asked` describe a state. The contract of `close` promises it.
pub record StaysAtClosing {S : Type 0} (r : Ghosts S) (contents : S → Names) (held : S → ℕ → List ℕ) (numbers writing_faults : S → ℕ) (asked : S → List Asked) (old new : S) (file : FileId) : Type 0 where
  pub names : contents new ≡ contents old
  pub given : numbers new ≡ numbers old
  pub others : LiveFilesStay r old new (λ other. other ≢ file.n)
  pub holders : KeepsHolders (live_files r new).live (held old) (held new)
  pub asks : asked new ≡ asked old
  pub writing : writing_faults new ≡ writing_faults old
