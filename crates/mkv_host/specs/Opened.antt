-- The open files of the system, as far as the code knows them: numbers, names and lengths.
use Rattle.std.specs.Prelude.{◌≡◌, ℕ, ◌≤◌, ◌<◌, zero, suc, List, [], ◌∷◌, length, Bool, true, ◌&&◌, ◌==◌, Option, Some, None, is_some, get_or}
use Rattle.std.proofs.Common.{arith}
use Rattle.mkv_io.specs.LiveFiles.{LiveFiles}
use Rattle.mkv_host.specs.declared.opened.Opened.{Opened}
use Rattle.mkv_host.specs.declared.system.Node.{Node}
use Rattle.mkv_io.specs.declared.outside.TheConstants.{LONGEST_FILE}

-- the open file with the number `file` in the list `opened`, or None if it was closed. `live_in` and `holder_in` use it.
abbrev pub opened_at : List (Option Opened) → ℕ → Option Opened
opened_at opened file = get_or opened file None

-- the length in bytes of an open file, or 0 if it was closed. `size_at` uses it.
abbrev pub size_of : Option Opened → ℕ
size_of None = 0
size_of (Some opened) = opened.size

-- the name under which a file was opened, or no bytes if it was closed. `holder_in` uses it.
abbrev pub name_of : Option Opened → List ℕ
name_of None = []
name_of (Some opened) = opened.name

-- the length in bytes of the file with the number `file` in the list `opened`, 0 if it was closed. `live_in` uses it.
abbrev pub size_at : List (Option Opened) → ℕ → ℕ
size_at opened file = size_of (opened_at opened file)

-- the files in the list `opened` with their lengths, as contracts see the open files of the system; their contents aren't visible to the proof
abbrev pub live_in : List (Option Opened) → LiveFiles
live_in opened = record {
  live = λ file. is_some (opened_at opened file);
  size = size_at opened;
  content = λ _. None;
}

-- the name under which the file with the number `file` in the list `opened` was opened, or no bytes if it was closed. Contracts of `RealFiles` use
-- it.
abbrev pub holder_in : List (Option Opened) → ℕ → List ℕ
holder_in opened file = name_of (opened_at opened file)

-- The identities `node` and `other` belong to the same file of the system. Used by the contracts of `is_seen` and `is_taken`.
abbrev pub is_node : Node → Node → Bool
is_node node other = (other.device == node.device) && (other.inode == node.inode)

-- ---- simple facts

-- No open file is too long.
pub short-of_size : (opened : Option Opened) → size_of opened ≤ LONGEST_FILE
short-of_size None = omega arith
short-of_size (Some opened) = opened.short

-- An open file has a number below the next one.
pub numbered-live : (opened : List (Option Opened)) (file : ℕ) → is_some (opened_at opened file) ≡ true → file < length opened
numbered-live [] zero live = cc
numbered-live [] (suc file) live = cc
numbered-live (first ∷ rest) zero live = omega arith
numbered-live (first ∷ rest) (suc file) live = let below = numbered-live rest file live in omega arith
