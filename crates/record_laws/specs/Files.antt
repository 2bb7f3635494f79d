-- Attached files keep their identifiers when they are merged again: RFC 9559, section 5.1.6 (Attachments Element). This is this project's
-- promise.
use Rattle.std.specs.Prelude.{◌≡◌, ◌<◌, ◌^◌, ℕ, List, [], ◌∷◌, map, All}
use Rattle.mkv_schema.specs.declared.ids.TheConstants.{ATTACHED_FILE, FILE_UID}
use Rattle.tree_format.specs.Node.{Node, IsMaster, id_of}
use Rattle.tree_format.specs.NormalForm.{octets}
use Rattle.tree_format.specs.Values.{uint_in}
use Rattle.record_changes.specs.Identifiers.{renumbered}
use Rattle.tree_format.specs.Children.{set_in, uint_leaf}
use Rattle.record_laws.specs.Again.{read_of}

-- `n` is an AttachedFile, as a master. `AreFiles` requires it of each file.
pub record IsAttachedFile (n : Node) : Type 0 where
  pub id : id_of n ≡ ATTACHED_FILE
  pub master : IsMaster n

-- the FileUIDs that a merge gives to the attached files `files`, in their order. Used by `settled`, `AreFiles` and others.
abbrev pub file_numbers : List Node → List ℕ
file_numbers files = renumbered (map (uint_in FILE_UID) files)

-- the files `files` with the FileUIDs of the list. `settled` uses it.
abbrev pub with_numbers : List ℕ → List Node → List Node
with_numbers [] files = []
with_numbers (uid ∷ uids) [] = []
with_numbers (uid ∷ uids) (file ∷ files) = set_in (uint_leaf FILE_UID uid) file ∷ with_numbers uids files

-- the attached files `files` with the FileUIDs that a merge gives to them, as the output of the first merge has them. The law `files_stay` uses it.
abbrev pub settled : List Node → List Node
settled files = with_numbers (file_numbers files) files

-- The Elements `files` are attached files, and the identifiers that a merge gives them have 64 bits. It is the condition of the law `files_stay`.
pub record AreFiles (files : List Node) : Type 0 where
  pub each : All IsAttachedFile files
  pub numbers : All (λ n. n < 2 ^ 64) (file_numbers files)

-- Attached files with the identifiers of a merge have them when they are written and read from an offset `place` on. A merge writes them as they
-- were. It is the law `files_stay`.
pub record FilesStay : Type 0 where
  pub uids : (files : List Node) (place : ℕ) → AreFiles files → map (uint_in FILE_UID) (read_of place (settled files)) ≡ file_numbers files
  pub same : (files : List Node) (place : ℕ) → AreFiles files → map octets (settled (read_of place (settled files))) ≡ map octets (settled files)
