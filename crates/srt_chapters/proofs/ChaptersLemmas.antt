-- Chapters as a tree.
use Rattle.std.proofs.Common.{◌≡◌, ◌≤◌, ℕ, true, List, [], ◌∷◌, ◌++◌, map, Ok, refl, arith}
use Rattle.std.proofs.lemmas.List.{map_push}
use Rattle.ebml_numbers.specs.Number.{is_id}
use Rattle.mkv_schema.specs.Schema.{entry_of, is_master}
use Rattle.mkv_schema.specs.Table.{table}
use Rattle.mkv_schema.specs.declared.ids.TheConstants.{CHAPTERS, EDITION_ENTRY, EDITION_UID, CHAPTER_ATOM, CHAPTER_UID, CHAPTER_TIME_START, CHAPTER_DISPLAY, CHAP_STRING, CHAP_LANGUAGE}
use Rattle.tree_format.specs.Node.{master, none, nodes_of, children, with_children, depth_all, HasRoom}
use Rattle.tree_format.specs.Reading.{tree_of, grove, grove_within}
use Rattle.tree_format.proofs.NodeLemmas.{list-nodes}
use Rattle.text_formats.specs.declared.chapter_reading.Chapter.{Chapter}
use Rattle.srt_chapters.specs.Chapters.{atom, edition}

-- ---- entries of the table
pub master_chapters : is_master CHAPTERS ≡ true
unfolding entry_of table
master_chapters = refl

pub master_edition : is_master EDITION_ENTRY ≡ true
unfolding entry_of table
master_edition = refl

pub master_atom : is_master CHAPTER_ATOM ≡ true
unfolding entry_of table
master_atom = refl

pub master_display : is_master CHAPTER_DISPLAY ≡ true
unfolding entry_of table
master_display = refl

pub id_edition_uid : is_id EDITION_UID ≡ true
unfolding is_id
id_edition_uid = refl

pub id_uid : is_id CHAPTER_UID ≡ true
unfolding is_id
id_uid = refl

pub id_start : is_id CHAPTER_TIME_START ≡ true
unfolding is_id
id_start = refl

pub id_string : is_id CHAP_STRING ≡ true
unfolding is_id
id_string = refl

pub id_language : is_id CHAP_LANGUAGE ≡ true
unfolding is_id
id_language = refl

pub ruleset known = (master_chapters, master_edition, master_atom, master_display, id_edition_uid, id_uid, id_start, id_string, id_language)

-- A master that is read from no bytes has no children.
pub empty_tree : (id : ℕ) → tree_of id 0 [] 0 1 ≡ Ok (master id 0 none)
unfolding grove grove_within
empty_tree id = refl

pub ruleset empty = (empty_tree)

-- ---- an edition
-- Appending an atom to an edition appends its chapter.
pub edition_more : (cs : List Chapter) (c : Chapter) → with_children (edition cs) (children (edition cs) ++ atom c ∷ []) ≡ edition (cs ++ c ∷ [])
edition_more cs c =
    let same = list-nodes (map atom cs) in
    let more = map_push atom cs c in
    rw (same, more) refl

-- The depth of an atom is two masters.
atoms_depth : (cs : List Chapter) → depth_all (nodes_of (map atom cs)) ≤ 2
atoms_depth [] = omega arith
atoms_depth (c ∷ cs) = let more = atoms_depth cs in omega arith

pub edition_room : (cs : List Chapter) → HasRoom (edition cs)
edition_room cs = let low = atoms_depth cs in omega arith
