-- Pending edits, and the effects of a call that only looks for one in a journal. The rule is this project's.
use Rattle.std.specs.Prelude.{◌≡◌, ℕ, Bool, true, false, List, [], Option, Some, None}
use Rattle.mkv_io.specs.Writing.{UsesOnly}
use Rattle.mkv_io.specs.declared.reads.Reads.{Ghosts}
use Rattle.mkv_io.specs.declared.files.Files as writing
use Rattle.sidecar_edit.specs.declared.held.Gate.{Gate}
use Rattle.sidecar_edit.specs.declared.held.Gate.TheVariants.{Live, Quiet, Bad}
use Rattle.sidecar_edit.specs.Gate.{state}
use Rattle.sidecar_edit.specs.Name.{sidecar_of}

-- The given state of a journal is a pending edit, which `recover` must complete before other commands read the file.
abbrev pub is_begun : Gate → Bool
is_begun Live = true
is_begun Quiet = false
is_begun (Bad offset) = false

-- A journal exists, with the given content, and has a pending edit; for `is_pending`.
abbrev pub holds_edit : Option (List ℕ) → Bool
holds_edit None = false
holds_edit (Some sidecar) = is_begun (state sidecar)

-- An edit of the file `name` is pending: its journal exists and has a pending edit; `world` has the content of each name. Commands that read the file
-- refuse it then.
abbrev pub is_pending : (List ℕ → Option (List ℕ)) → List ℕ → Bool
is_pending world name = holds_edit (world (sidecar_of name))

-- From the state `old` to `new`, a call that looks for a pending edit or reads a text only looked into files with names in `opened`. The same files
-- are open and unchanged, and so is the content of every name. `r` and `f` give the proof's view of the files.
pub record LooksOnly {S : Type 0} (r : Ghosts S) (f : writing.Ghosts S) (opened : List (List ℕ)) (old new : S) : Type 0 where
  pub kept : UsesOnly r f opened [] old new
  pub names : f.names new ≡ f.names old
  pub writing : f.writing_faults new ≡ f.writing_faults old
