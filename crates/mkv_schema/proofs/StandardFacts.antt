-- Facts of the standards on some Elements, computed from the table.
use Rattle.std.proofs.Common.{◌≡◌, true, false, [], ◌∷◌, filter, Some, None, codes, refl}
use Rattle.mkv_schema.specs.declared.ids.TheConstants.{EBML, CRC_32, VOID, SEGMENT, SEEK_HEAD, INFO, TIMESTAMP_SCALE, CLUSTER, SIMPLE_BLOCK, BLOCK_GROUP, BLOCK, TRACKS, TRACK_ENTRY, TRACK_NUMBER, LANGUAGE, LANGUAGE_BCP47, CHANNELS, CUES, ATTACHMENTS, CHAPTERS, EDITION_ENTRY, CHAPTER_ATOM, CHAP_LANGUAGE, TAGS, SIMPLE_TAG}
use Rattle.mkv_schema.specs.declared.kind.ElementKind.TheVariants.{Master, Binary}
use Rattle.mkv_schema.specs.Table.{table}
use Rattle.mkv_schema.specs.Schema.{entry_of, table_ids, name_of, kind_of, is_level0, is_level1, may_stand, uint_default, text_default}

-- RFC 8794, section 8 (EBML Document): a header and a body, whose root is the Segment.
pub level0_ids : filter is_level0 table_ids ≡ EBML ∷ SEGMENT ∷ []
unfolding entry_of table
level0_ids = refl

-- RFC 9559, section 5.1 (Segment Element): the eight Top-Level Elements.
pub level1_ids : filter is_level1 table_ids ≡ SEEK_HEAD ∷ INFO ∷ CLUSTER ∷ TRACKS ∷ CUES ∷ ATTACHMENTS ∷ CHAPTERS ∷ TAGS ∷ []
unfolding entry_of table
level1_ids = refl

pub name_of-0xA3 : name_of 0xA3 ≡ Some (codes "SimpleBlock")
unfolding entry_of table
name_of-0xA3 = refl

pub kind_of-cluster : kind_of CLUSTER ≡ Some Master
unfolding entry_of table
kind_of-cluster = refl

pub kind_of-block_group : kind_of BLOCK_GROUP ≡ Some Master
unfolding entry_of table
kind_of-block_group = refl

pub kind_of-simple_block : kind_of SIMPLE_BLOCK ≡ Some Binary
unfolding entry_of table
kind_of-simple_block = refl

-- Void's ID with one more bit isn't in the table.
pub kind_of-0xED : kind_of 0xED ≡ None
unfolding entry_of table
kind_of-0xED = refl

pub may_stand-simple_block : may_stand SIMPLE_BLOCK CLUSTER ≡ true
unfolding entry_of table
may_stand-simple_block = refl

pub may_stand-block : may_stand BLOCK CLUSTER ≡ false
unfolding entry_of table
may_stand-block = refl

-- A ChapterAtom may contain others (RFC 9559, section 5.1.7, Chapters Element), and so may a SimpleTag.
pub may_stand-chapter_atom : may_stand CHAPTER_ATOM CHAPTER_ATOM ≡ true
unfolding entry_of table
may_stand-chapter_atom = refl

pub may_stand-simple_tag : may_stand SIMPLE_TAG SIMPLE_TAG ≡ true
unfolding entry_of table
may_stand-simple_tag = refl

pub may_stand-edition_entry : may_stand EDITION_ENTRY EDITION_ENTRY ≡ false
unfolding entry_of table
may_stand-edition_entry = refl

-- A Global Element may be in every master, and in no other Element (RFC 8794, section 11.3, Global Elements).
pub may_stand-void : may_stand VOID TRACK_ENTRY ≡ true
unfolding entry_of table
may_stand-void = refl

pub may_stand-crc_32 : may_stand CRC_32 EBML ≡ true
unfolding entry_of table
may_stand-crc_32 = refl

pub may_stand-void_in_leaf : may_stand VOID TRACK_NUMBER ≡ false
unfolding entry_of table
may_stand-void_in_leaf = refl

pub is_level1-void : is_level1 VOID ≡ false
unfolding entry_of table
is_level1-void = refl

pub uint_default-timestamp_scale : uint_default TIMESTAMP_SCALE ≡ Some 1000000
unfolding entry_of table
uint_default-timestamp_scale = refl

pub uint_default-channels : uint_default CHANNELS ≡ Some 1
unfolding entry_of table
uint_default-channels = refl

pub uint_default-track_number : uint_default TRACK_NUMBER ≡ None
unfolding entry_of table
uint_default-track_number = refl

pub text_default-language : text_default LANGUAGE ≡ Some (codes "eng")
unfolding entry_of table
text_default-language = refl

pub text_default-chap_language : text_default CHAP_LANGUAGE ≡ Some (codes "eng")
unfolding entry_of table
text_default-chap_language = refl

pub text_default-language_bcp47 : text_default LANGUAGE_BCP47 ≡ None
unfolding entry_of table
text_default-language_bcp47 = refl
