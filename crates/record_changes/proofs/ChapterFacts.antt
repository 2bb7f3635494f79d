-- Facts of the table about Chapters.
use Rattle.std.proofs.Common.{◌≡◌, true, refl}
use Rattle.ebml_numbers.specs.Number.{is_id}
use Rattle.mkv_schema.specs.declared.ids.TheConstants.{CHAPTERS, EDITION_ENTRY, EDITION_UID, CHAPTER_ATOM, CHAPTER_UID, CHAPTER_TIME_START, CHAPTER_TIME_END}
use Rattle.mkv_schema.specs.Table.{table}
use Rattle.mkv_schema.specs.Schema.{entry_of, is_master}
use Rattle.tree_format.specs.Reading.{is_master_in}
use Rattle.ebml_tree.specs.Leaves.{IsUintIn}

-- ---- masters

pub chapters-master : is_master CHAPTERS ≡ true
unfolding entry_of table
chapters-master = refl

pub edition-master : is_master EDITION_ENTRY ≡ true
unfolding entry_of table
edition-master = refl

pub atom-master : is_master CHAPTER_ATOM ≡ true
unfolding entry_of table
atom-master = refl

pub edition-in : is_master_in CHAPTERS EDITION_ENTRY ≡ true
unfolding entry_of table
edition-in = refl

pub atom-in_edition : is_master_in EDITION_ENTRY CHAPTER_ATOM ≡ true
unfolding entry_of table
atom-in_edition = refl

pub atom-in_atom : is_master_in CHAPTER_ATOM CHAPTER_ATOM ≡ true
unfolding entry_of table
atom-in_atom = refl

-- ---- integers

pub edition_uid : IsUintIn EDITION_ENTRY EDITION_UID
unfolding entry_of table is_id
edition_uid = record { valid = refl; known = record { stands = refl; kind = refl } }

pub chapter_uid : IsUintIn CHAPTER_ATOM CHAPTER_UID
unfolding entry_of table is_id
chapter_uid = record { valid = refl; known = record { stands = refl; kind = refl } }

pub start : IsUintIn CHAPTER_ATOM CHAPTER_TIME_START
unfolding entry_of table is_id
start = record { valid = refl; known = record { stands = refl; kind = refl } }

pub end : IsUintIn CHAPTER_ATOM CHAPTER_TIME_END
unfolding entry_of table is_id
end = record { valid = refl; known = record { stands = refl; kind = refl } }
