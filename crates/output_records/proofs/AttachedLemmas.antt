-- The AttachedFile of a file that a merge attaches is valid, and can be read again.
use Rattle.std.proofs.Common.{◌≡◌, ◌==◌, ℕ, suc, true, false, List, [], ◌∷◌, ◌++◌, length, inl, inr, eqb-true, refl, sym, ap, subst, ◌∙◌, arith, append_assoc}
use Rattle.ebml_numbers.specs.Number.{is_id}
use Rattle.mkv_schema.specs.declared.ids.TheConstants.{ATTACHED_FILE, FILE_DATA, FILE_DESCRIPTION, FILE_MEDIA_TYPE, FILE_NAME, FILE_UID}
use Rattle.mkv_schema.specs.Table.{table}
use Rattle.mkv_schema.specs.Schema.{entry_of, is_master}
use Rattle.tree_format.specs.Node.{Node, leaf, master, nodes_of, deepest, children}
use Rattle.tree_format.specs.Changes.{part}
use Rattle.tree_format.specs.Children.{uint_leaf}
use Rattle.tree_format.specs.Standing.{StandsIn}
use Rattle.ebml_tree.specs.Building.{IsBuilt}
use Rattle.ebml_tree.specs.Leaves.{IsUintIn, IsTextIn}
use Rattle.output_model.specs.Sound.{IsAttachment}
use Rattle.output_records.specs.Attached.{attached_entry, description_elements}
use Rattle.output_records.proofs.OutputLemmas.{built-record}

-- ---- the table

pub attached-master : is_master ATTACHED_FILE ≡ true
unfolding entry_of table
attached-master = refl

pub description-in : IsTextIn ATTACHED_FILE FILE_DESCRIPTION
unfolding entry_of table is_id
description-in = record { valid = refl; stands = refl; kind = inr refl }

pub name-in : IsTextIn ATTACHED_FILE FILE_NAME
unfolding entry_of table is_id
name-in = record { valid = refl; stands = refl; kind = inr refl }

pub type-in : IsTextIn ATTACHED_FILE FILE_MEDIA_TYPE
unfolding entry_of table is_id
type-in = record { valid = refl; stands = refl; kind = inl refl }

pub data-stands : StandsIn ATTACHED_FILE (leaf FILE_DATA 0 [])
unfolding entry_of table is_id
data-stands = record { id_stands = refl; no_master = refl; value = refl }

pub data-valid : is_id FILE_DATA ≡ true
unfolding is_id
data-valid = refl

pub uid-in : IsUintIn ATTACHED_FILE FILE_UID
unfolding entry_of table is_id
uid-in = record { valid = refl; known = record { stands = refl; kind = refl } }

-- ---- the description

-- A description that isn't empty is written.
pub description-written : (text : List ℕ) → (length text == 0) ≡ false → description_elements text ≡ leaf FILE_DESCRIPTION 0 text ∷ []
description-written [] some = absurd (cc)
description-written (octet ∷ octets) some = refl

pub description-left : (text : List ℕ) → (length text == 0) ≡ true → description_elements text ≡ []
description-left [] none = refl
description-left (octet ∷ octets) none = absurd (let never : suc (length octets) ≡ 0 = eqb-true (suc (length octets)) 0 none in omega arith)

-- ---- the whole entry

-- the children of the entry, as they are appended one after another
abbrev pub entry_children : List ℕ → List ℕ → List ℕ → List Node
entry_children name media_type description =
    description_elements description ++ leaf FILE_NAME 0 name ∷ [] ++ leaf FILE_MEDIA_TYPE 0 media_type ∷ [] ++ leaf FILE_DATA 0 [] ∷ [] ++ uint_leaf FILE_UID 0 ∷ []

pub entry-is : (name media_type description : List ℕ) (t : Node) → IsBuilt ATTACHED_FILE 0 0 (entry_children name media_type description) t → t ≡ attached_entry name media_type description
entry-is name media_type description t built = built.is ∙ ap (λ ns. master ATTACHED_FILE 0 (nodes_of ns)) (same description)
  where
    same : (text : List ℕ) → entry_children name media_type text ≡ description_elements text ++ (leaf FILE_NAME 0 name ∷ leaf FILE_MEDIA_TYPE 0 media_type ∷ leaf FILE_DATA 0 [] ∷ uint_leaf FILE_UID 0 ∷ [])
    same [] = refl
    same (octet ∷ octets) = refl

-- It has one FileData.
one-data : (name media_type description : List ℕ) → length (part FILE_DATA (children (attached_entry name media_type description))) ≡ 1
one-data name media_type [] = refl
one-data name media_type (octet ∷ octets) = refl

pub entry-sound : (name media_type description : List ℕ) (t : Node) → IsBuilt ATTACHED_FILE 0 0 (entry_children name media_type description) t → IsAttachment t
entry-sound name media_type description t built = record {
  is = built-record ATTACHED_FILE 0 _ t built (omega arith);
  one = ap (λ n. length (part FILE_DATA (children n))) (entry-is name media_type description t built) ∙ one-data name media_type description;
}
