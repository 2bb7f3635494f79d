-- The records of an output are valid, and can be read again.
use Rattle.std.specs.Prelude.{All}
use Rattle.std.proofs.Common.{◌≡◌, ◌<◌, ◌^◌, ◌==◌, ℕ, true, false, List, [], ◌∷◌, ◌++◌, length, inr, suc, eqb-true, refl, sym, ap, subst, ◌∙◌, arith, append_assoc}
use Rattle.ebml_numbers.specs.Number.{is_id, uint_octets}
use Rattle.mkv_schema.specs.declared.ids.TheConstants.{INFO, TIMESTAMP_SCALE, TITLE, MUXING_APP, WRITING_APP, TRACKS, TRACK_ENTRY}
use Rattle.mkv_schema.specs.Table.{table}
use Rattle.mkv_schema.specs.Schema.{entry_of, is_master}
use Rattle.tree_format.specs.Node.{Node, leaf, master, id_of, nodes_of, deepest, IsMaster}
use Rattle.tree_format.specs.Reading.{is_master_in}
use Rattle.tree_format.specs.Standing.{StandsIn, IsSound}
use Rattle.tree_format.proofs.ValueLemmas.{uint_value-octets}
use Rattle.file_format.specs.Info.{scale_of}
use Rattle.tree_format.specs.Children.{uint_leaf}
use Rattle.track_records.specs.Entry.{IsWholeEntry}
use Rattle.ebml_tree.specs.Building.{IsBuilt}
use Rattle.ebml_tree.specs.Leaves.{IsUintIn, IsTextIn}
use Rattle.ebml_tree.proofs.BuildLemmas.{built-limits}
use Rattle.output_model.specs.Sound.{IsRecord}
use Rattle.output_records.specs.Info.{application, title_elements, output_info}

-- ---- the table

pub info-master : is_master INFO ≡ true
unfolding entry_of table
info-master = refl

pub tracks-master : is_master TRACKS ≡ true
unfolding entry_of table
tracks-master = refl

pub entry-in : is_master_in TRACKS TRACK_ENTRY ≡ true
unfolding entry_of table
entry-in = refl

pub scale-in : IsUintIn INFO TIMESTAMP_SCALE
unfolding entry_of table is_id
scale-in = record { valid = refl; known = record { stands = refl; kind = refl } }

pub title-in : IsTextIn INFO TITLE
unfolding entry_of table is_id
title-in = record { valid = refl; stands = refl; kind = inr refl }

pub muxing-in : IsTextIn INFO MUXING_APP
unfolding entry_of table is_id
muxing-in = record { valid = refl; stands = refl; kind = inr refl }

pub writing-in : IsTextIn INFO WRITING_APP
unfolding entry_of table is_id
writing-in = record { valid = refl; stands = refl; kind = inr refl }

-- ---- a record

pub built-record : (id deep : ℕ) (ns : List Node) (t : Node) → IsBuilt id 0 deep ns t → deep < deepest → IsRecord id t
built-record id deep ns t built low = record {
  id = ap id_of built.is;
  master = (let P : Node → Type 0 = IsMaster in subst P (sym built.is) refl);
  sound = (let P : Node → Type 0 = IsSound in subst P (sym built.is) built.stand);
  limits = built-limits id 0 deep ns t built low;
}

-- ---- the Info

-- A title that isn't empty is written.
pub title-written : (title : List ℕ) → (length title == 0) ≡ false → title_elements title ≡ leaf TITLE 0 title ∷ []
title-written [] some = absurd (cc)
title-written (octet ∷ octets) some = refl

pub title-left : (title : List ℕ) → (length title == 0) ≡ true → title_elements title ≡ []
title-left [] none = refl
title-left (octet ∷ octets) none = absurd (let never : suc (length octets) ≡ 0 = eqb-true (suc (length octets)) 0 none in omega arith)

-- The Info is complete with its last two children.
pub info-is : (scale : ℕ) (title : List ℕ) (t : Node)
    → IsBuilt INFO 0 0 ((uint_leaf TIMESTAMP_SCALE scale ∷ title_elements title) ++ leaf MUXING_APP 0 application ∷ [] ++ leaf WRITING_APP 0 application ∷ []) t → t ≡ output_info scale title
info-is scale title t built =
    built.is ∙ ap (λ ns. master INFO 0 (nodes_of (uint_leaf TIMESTAMP_SCALE scale ∷ ns))) (append_assoc (title_elements title) (leaf MUXING_APP 0 application ∷ []) (leaf WRITING_APP 0 application ∷ []))

pub info-scale : (scale : ℕ) (title : List ℕ) → scale < 2 ^ 64 → scale_of (output_info scale title) ≡ scale
info-scale scale title small = uint_value-octets TIMESTAMP_SCALE scale (uint_octets scale) small refl

-- ---- the Tracks

-- A whole entry is valid in Tracks.
pub entry-stands : (n : Node) → IsWholeEntry n → StandsIn TRACKS n
entry-stands (leaf id at body) whole = let never = whole.master in absurd (cc)
entry-stands (master id at kids) whole = (ap (is_master_in TRACKS) whole.id ∙ entry-in, whole.sound)

-- The first entry is whole, and so are the others.
pub first-whole : (ns rest : List Node) (n : Node) → ns ≡ n ∷ rest → All IsWholeEntry ns → IsWholeEntry n
first-whole ns rest n is whole = let P : List Node → Type 0 = All IsWholeEntry in let all = subst P is whole in all 0 n (omega arith)

pub rest-whole : (ns rest : List Node) (n : Node) → ns ≡ n ∷ rest → All IsWholeEntry ns → All IsWholeEntry rest
rest-whole ns rest n is whole = let P : List Node → Type 0 = All IsWholeEntry in let all = subst P is whole in λ k d inside. all (suc k) d (omega arith)
