-- A file that is created, written and closed.
use Rattle.std.specs.Prelude.{◌≡◌, ◌≢◌, ◌≤◌, ℕ, List, [], ◌∷◌, true, Result, Ok, Err}
use Rattle.mkv_io.specs.declared.outside.FileId.{FileId}
use Rattle.mkv_io.specs.Asked.{AsksOnly}
use Rattle.mkv_io.specs.LiveFiles.{KeepsFiles, KeepsHolders}
use Rattle.mkv_io.specs.Names.{AreOthers}
use Rattle.mkv_io.specs.Sources.{live_files}
use Rattle.mkv_io.specs.Writing.{KeepsOthers, WritesOnly}
use Rattle.mkv_io.specs.declared.reads.Reads.{Ghosts}
use Rattle.mkv_io.specs.declared.files.Files as writing
use Rattle.mkv_io.specs.declared.remux_end.RemuxEnd.{RemuxEnd}
use Rattle.mkv_outputs.specs.Sinks.{EndsOnly}
use Rattle.cues_seekhead.specs.OpenOutput.{OpenOutput}

-- From `old` to `new` the file `file` was created with the name `name`, and is live with a new number. Other files are live as before, with the same
-- names. Files of other names are unchanged, and no other file was created or opened. `r` and `f` give the proof's view of the files. Used by
-- `MakesForOutput`.
pub record MakesFile {S : Type 0} (r : Ghosts S) (f : writing.Ghosts S) (name : List ℕ) (file : FileId) (old new : S) : Type 0 where
  pub newer : f.given old ≤ file.n
  pub live : (live_files r new).live file.n ≡ true
  pub holder : f.holder new file.n ≡ name
  pub besides : (other : ℕ) → other ≢ file.n → (live_files r new).live other ≡ (live_files r old).live other
  pub given : f.given old ≤ f.given new
  pub holders : KeepsHolders (live_files r old).live (f.holder old) (f.holder new)
  pub others : KeepsFiles (live_files r old) (live_files r new) (λ other. ((live_files r old).live other ≡ true) × AreOthers (f.holder old other) (name ∷ []))
  pub asks : AsksOnly [] (name ∷ []) (f.asked old) (f.asked new)

-- From `old` to `new` the file `name` was created for an output; the contract of `begin`. If the last argument, its result, is an error, the file
-- isn't open: the same files are live as before, and files of other names are unchanged. `r` and `f` give the proof's view of the files.
abbrev pub MakesForOutput : {S : Type 0} → Ghosts S → writing.Ghosts S → List ℕ → S → S → Result OpenOutput RemuxEnd → Type 0
MakesForOutput r f name old new (Ok o) = MakesFile r f name o.file old new
MakesForOutput r f name old new (Err _) = KeepsOthers r f (name ∷ []) old new

-- From `old` to `new` only the name of the output `file` was written, and then the file was closed, also after a failure; the contract of `finish`.
-- `r` and `f` give the proof's view of the files.
pub record WritesAndEnds {S : Type 0} (r : Ghosts S) (f : writing.Ghosts S) (file : FileId) (old new : S) : Type 0 where
  pub before : S
  pub written : WritesOnly r f (f.holder old file.n ∷ []) old before
  pub ended : EndsOnly r f before new (file ∷ [])
