-- The attached files of an output: RFC 9559, section 5.1.6 (Attachments). Their identifiers are this project's choice.
use Rattle.std.specs.Prelude.{ℕ, List, [], ◌∷◌, map, flat_map}
use Rattle.mkv_schema.specs.declared.ids.TheConstants.{FILE_UID}
use Rattle.record_changes.specs.Identifiers.{renumbered}
use Rattle.tree_format.specs.Children.{uint_leaf, set_in}
use Rattle.output_model.specs.declared.attachment.Attachment.{Attachment}
use Rattle.output_records.specs.declared.inputs.InputRecords.{InputRecords}

-- the attached files of all inputs of a merge, input after input. Used by `attachments_of`, `file_numbers` and others.
abbrev pub files_of : List InputRecords → List Attachment
files_of inputs = flat_map (λ (i : InputRecords). i.attachments) inputs

-- the FileUIDs of the attached files `files`, in their order, before or after they are numbered anew; for `file_numbers` and `uids_of`
abbrev pub file_uids : List Attachment → List ℕ
file_uids files = map (λ (a : Attachment). a.uid) files

-- the attached file `a` of an input with the output's FileUID `uid`, also in its AttachedFile; for `with_uids`
abbrev pub with_uid : ℕ → Attachment → Attachment
with_uid uid a = record { uid = uid; file = a.file; at = a.at; len = a.len; entry = set_in (uint_leaf FILE_UID uid) a.entry }

-- the attached files `files` of the inputs with the output's FileUIDs `uids`, also in their AttachedFiles; for `merged_attachments` and the contract
-- of `attachments_of`
abbrev pub with_uids : List ℕ → List Attachment → List Attachment
with_uids [] files = []
with_uids (uid ∷ uids) [] = []
with_uids (uid ∷ uids) (a ∷ files) = with_uid uid a ∷ with_uids uids files

-- the output's FileUIDs for the attached files of all inputs of a merge, in their order. Used by `merged_attachments` and `numbers_of`.
abbrev pub file_numbers : List InputRecords → List ℕ
file_numbers inputs = renumbered (file_uids (files_of inputs))

-- the attached files of an output of a merge: the ones of all inputs, each with the output's FileUID. Used by `merge_records`.
abbrev pub merged_attachments : List InputRecords → List Attachment
merged_attachments inputs = with_uids (file_numbers inputs) (files_of inputs)
