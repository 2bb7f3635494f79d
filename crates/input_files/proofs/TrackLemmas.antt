-- The entry of a text is valid in the table.
use Rattle.std.proofs.Common.{◌≡◌, ℕ, true, List, [], ◌∷◌, ◌++◌, inl, refl, sym, ◌∙◌, ap, subst, arith}
use Rattle.ebml_numbers.specs.Number.{is_id}
use Rattle.mkv_schema.specs.declared.ids.TheConstants.{TRACKS, TRACK_ENTRY, TRACK_NUMBER, TRACK_UID, TRACK_TYPE, FLAG_LACING, LANGUAGE, CODEC_ID}
use Rattle.mkv_schema.specs.Table.{table}
use Rattle.mkv_schema.specs.Schema.{entry_of, is_master}
use Rattle.tree_format.specs.Node.{Node, leaf, master, nodes_of, children, with_children, IsMaster, HasRoom, id_of}
use Rattle.tree_format.specs.Reading.{is_master_in}
use Rattle.tree_format.specs.Standing.{IsSound, StandsIn}
use Rattle.track_records.specs.Entry.{IsWholeEntry}
use Rattle.ebml_tree.specs.Building.{IsBuilt}
use Rattle.ebml_tree.specs.Leaves.{IsUintIn, IsTextIn}

-- ---- the table

pub entry-master : is_master TRACK_ENTRY ≡ true
unfolding entry_of table
entry-master = refl

pub tracks-master : is_master TRACKS ≡ true
unfolding entry_of table
tracks-master = refl

pub entry-in : is_master_in TRACKS TRACK_ENTRY ≡ true
unfolding entry_of table
entry-in = refl

pub number-in : IsUintIn TRACK_ENTRY TRACK_NUMBER
unfolding entry_of table is_id
number-in = record { valid = refl; known = record { stands = refl; kind = refl } }

pub uid-in : IsUintIn TRACK_ENTRY TRACK_UID
unfolding entry_of table is_id
uid-in = record { valid = refl; known = record { stands = refl; kind = refl } }

pub type-in : IsUintIn TRACK_ENTRY TRACK_TYPE
unfolding entry_of table is_id
type-in = record { valid = refl; known = record { stands = refl; kind = refl } }

pub lacing-in : IsUintIn TRACK_ENTRY FLAG_LACING
unfolding entry_of table is_id
lacing-in = record { valid = refl; known = record { stands = refl; kind = refl } }

pub language-in : IsTextIn TRACK_ENTRY LANGUAGE
unfolding entry_of table is_id
language-in = record { valid = refl; stands = refl; kind = inl refl }

pub codec-in : IsTextIn TRACK_ENTRY CODEC_ID
unfolding entry_of table is_id
codec-in = record { valid = refl; stands = refl; kind = inl refl }

-- ---- an entry of leaves

pub whole-built : (ns : List Node) (t : Node) → IsBuilt TRACK_ENTRY 0 0 ns t → IsWholeEntry t
whole-built ns t built =
    let low = built.shallow in
    record {
      id = ap id_of built.is;
      master = (let P : Node → Type 0 = IsMaster in subst P (sym built.is) refl);
      sound = (let P : Node → Type 0 = IsSound in subst P (sym built.is) built.stand);
      room = (let P : Node → Type 0 = HasRoom in subst P (sym built.is) (omega arith));
    }

-- ---- a Tracks with one entry

pub sound-built : (id deep : ℕ) (ns : List Node) (t : Node) → IsBuilt id 0 deep ns t → IsSound t
sound-built id deep ns t built = let P : Node → Type 0 = IsSound in subst P (sym built.is) built.stand

pub entry-stands : (n : Node) → IsWholeEntry n → StandsIn TRACKS n
entry-stands (leaf id at body) whole = let never = whole.master in absurd (cc)
entry-stands (master id at kids) whole = (ap (is_master_in TRACKS) whole.id ∙ entry-in, whole.sound)

pub stands-in : (n child : Node) → id_of n ≡ TRACKS → IsWholeEntry child → StandsIn (id_of n) child
stands-in n child is whole = let P : ℕ → Type 0 = λ p. StandsIn p child in subst P (sym is) (entry-stands child whole)

pub one-entry : (old child new : Node) → IsBuilt TRACKS 0 0 [] old → new ≡ with_children old (children old ++ child ∷ []) → new ≡ master TRACKS 0 (nodes_of (child ∷ []))
one-entry old child new built is = is ∙ ap (λ t. with_children t (children t ++ child ∷ [])) built.is
