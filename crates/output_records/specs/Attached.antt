-- The AttachedFile of a file that a merge attaches: RFC 9559, section 5.1.6.1 (AttachedFile). The order of its children is this project's choice.
use Rattle.std.specs.Prelude.{ℕ, List, [], ◌∷◌, ◌++◌}
use Rattle.mkv_schema.specs.declared.ids.TheConstants.{ATTACHED_FILE, FILE_DATA, FILE_DESCRIPTION, FILE_MEDIA_TYPE, FILE_NAME, FILE_UID}
use Rattle.tree_format.specs.Node.{Node, leaf, master, nodes_of}
use Rattle.tree_format.specs.Children.{uint_leaf}

-- the FileDescription of an AttachedFile, or none if the description is empty; for `attached_entry`
abbrev pub description_elements : List ℕ → List Node
description_elements [] = []
description_elements (octet ∷ octets) = leaf FILE_DESCRIPTION 0 (octet ∷ octets) ∷ []

-- the AttachedFile of a file that a merge attaches, with the FileName `name`, the FileMediaType `media_type` and the FileDescription `description`. Its
-- FileData is empty, since the data are in the file, and its FileUID is 0 until the merge gives one. The contract of the function of the same name
-- states it.
abbrev pub attached_entry : List ℕ → List ℕ → List ℕ → Node
attached_entry name media_type description = master ATTACHED_FILE 0 (nodes_of (
    description_elements description
    ++ (leaf FILE_NAME 0 name ∷ leaf FILE_MEDIA_TYPE 0 media_type ∷ leaf FILE_DATA 0 [] ∷ uint_leaf FILE_UID 0 ∷ [])))
