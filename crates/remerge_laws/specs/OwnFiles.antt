-- Attached files of an output that are read and written again: RFC 9559, section 5.1.6 (Attachments Element). This is this project's promise.
use Rattle.std.specs.Prelude.{◌≡◌, ◌<◌, ◌^◌, ℕ, List, [], ◌∷◌, map, All}
use Rattle.std.specs.List.{AllZip}
use Rattle.mkv_schema.specs.declared.ids.TheConstants.{FILE_UID}
use Rattle.mkv_io.specs.Contents.{octets_from}
use Rattle.tree_format.specs.Node.{Node, IsMaster, children}
use Rattle.tree_format.specs.NormalForm.{octets}
use Rattle.tree_format.specs.Changes.{part}
use Rattle.tree_format.specs.Children.{set_in, uint_leaf}
use Rattle.tree_format.specs.Values.{uint_in}
use Rattle.output_model.specs.Attached.{with_data}
use Rattle.record_changes.specs.Identifiers.{AreSettled, renumbered}
use Rattle.meta_records.specs.Attached.{AttachedFile}
use Rattle.remerge_laws.specs.Files.{IsFileOf}

-- The AttachedFile `n` has exactly one FileUID, of 64 bits, as a merge writes it. A condition of `OwnFilesStay`.
pub record IsNumbered (n : Node) : Type 0 where
  pub master : IsMaster n
  pub uid : ℕ
  pub small : uid < 2 ^ 64
  pub one : part FILE_UID (children n) ≡ uint_leaf FILE_UID uid ∷ []

-- the AttachedFiles that a merge writes for attached files of the content `bytes`, each with its data; the second list has their FileUIDs and the
-- third the files. `OwnFilesStay` compares them with the ones of the first merge. `files` are these files.
abbrev pub written_files : List ℕ → List ℕ → List AttachedFile → List Node
written_files bytes [] files = []
written_files bytes (uid ∷ uids) [] = []
written_files bytes (uid ∷ uids) (a ∷ files) =
    with_data (octets_from bytes a.at a.len) (set_in (uint_leaf FILE_UID uid) a.entry) ∷ written_files bytes uids files

-- The AttachedFiles `ns`, which a merge has numbered, are read from the content `bytes` as `files`. If their FileUIDs are positive and distinct, a
-- merge by itself keeps them and writes the AttachedFiles as they were. The law `own_files_stay` states it.
abbrev pub OwnFilesStay : Type 0
OwnFilesStay =
    (bytes : List ℕ) (ns : List Node) (files : List AttachedFile) → AllZip (IsFileOf bytes) ns files → All IsNumbered ns
    → AreSettled (map (uint_in FILE_UID) ns)
    → map octets (written_files bytes (renumbered (map (λ a. a.uid) files)) files) ≡ map octets ns
