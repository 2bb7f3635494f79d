-- The values that the table has under the masters that are read.
use Rattle.std.proofs.Common.{◌≡◌, ◌<◌, ◌≤◌, ℕ, true, List, length, get_or, inl, inr, refl, ap, ◌∙◌, arith}
use Rattle.std.proofs.lemmas.Bool.Decides.{nat_tests}
use Rattle.mkv_schema.specs.declared.ids.TheConstants.{ATTACHED_FILE, FILE_DESCRIPTION, FILE_MEDIA_TYPE, FILE_NAME, FLAG_DEFAULT, FLAG_ENABLED, FLAG_FORCED, INFO, LANGUAGE_BCP47, NAME, PIXEL_HEIGHT, PIXEL_WIDTH, TAG_TRACK_UID, TARGETS, TITLE, TRACK_ENTRY, VIDEO}
use Rattle.mkv_schema.specs.declared.kind.ElementKind.TheVariants.{Uint}
use Rattle.mkv_schema.specs.Table.{table}
use Rattle.mkv_schema.specs.Schema.{entry_of, kind_of, may_stand}
use Rattle.mkv_schema.specs.Value.{is_value}
use Rattle.tree_format.specs.Node.{Node, body_of, children, id_of}
use Rattle.tree_format.specs.Standing.{IsSound, IsSoundOf}
use Rattle.tree_format.specs.Values.{HasUint}
use Rattle.tree_format.proofs.ChildLemmas.{HasUint-of, child-stands, stands-sound, stands-value}
use Rattle.ebml_tree.specs.Texts.{HasText}
use Rattle.ebml_tree.proofs.TextLemmas.{HasText-of}

-- ---- entries of the table

pub title : HasText INFO TITLE
unfolding entry_of table
title = record { stands = refl; kind = inr refl }

pub media_type : HasText ATTACHED_FILE FILE_MEDIA_TYPE
unfolding entry_of table
media_type = record { stands = refl; kind = inl refl }

pub description : HasText ATTACHED_FILE FILE_DESCRIPTION
unfolding entry_of table
description = record { stands = refl; kind = inr refl }

pub file_name : HasText ATTACHED_FILE FILE_NAME
unfolding entry_of table
file_name = record { stands = refl; kind = inr refl }

pub name : HasText TRACK_ENTRY NAME
unfolding entry_of table
name = record { stands = refl; kind = inr refl }

pub language_bcp47 : HasText TRACK_ENTRY LANGUAGE_BCP47
unfolding entry_of table
language_bcp47 = record { stands = refl; kind = inl refl }

pub flag_default : HasUint TRACK_ENTRY FLAG_DEFAULT
unfolding entry_of table
flag_default = record { stands = refl; kind = refl }

pub flag_enabled : HasUint TRACK_ENTRY FLAG_ENABLED
unfolding entry_of table
flag_enabled = record { stands = refl; kind = refl }

pub flag_forced : HasUint TRACK_ENTRY FLAG_FORCED
unfolding entry_of table
flag_forced = record { stands = refl; kind = refl }

pub pixel_width : HasUint VIDEO PIXEL_WIDTH
unfolding entry_of table
pixel_width = record { stands = refl; kind = refl }

pub pixel_height : HasUint VIDEO PIXEL_HEIGHT
unfolding entry_of table
pixel_height = record { stands = refl; kind = refl }

pub track_uid : HasUint TARGETS TAG_TRACK_UID
unfolding entry_of table
track_uid = record { stands = refl; kind = refl }

pub ruleset known = (HasText-of, HasUint-of, title, media_type, description, file_name, name, language_bcp47, flag_default, flag_enabled, flag_forced, pixel_width, pixel_height)

-- ---- the values

-- An integer among the children of a sound master has at most eight bytes.
pub child-short : (parent : ℕ) (tree n : Node) (ns : List Node) (i id : ℕ) → IsSoundOf parent tree → HasUint parent id → ns ≡ children tree → i < length ns → n ≡ get_or ns i n → id_of n ≡ id → length (body_of n) ≤ 8
child-short parent tree n ns i id is uint are inside at same =
    let stands = child-stands tree n ns i is.sound are inside at in
    let has = HasUint-of parent id tree is uint in
    let value : is_value Uint (body_of n) ≡ true =
    stands-value (id_of tree) Uint n stands (ap (λ own. may_stand own (id_of tree)) same ∙ has.stands) (ap kind_of same ∙ has.kind) in
    grind (arith, nat_tests)

-- A master among the children of a sound one is sound.
pub child-sound : (tree n : Node) (ns : List Node) (i id own : ℕ) → IsSound tree → ns ≡ children tree → i < length ns → n ≡ get_or ns i n → own ≡ id_of n → own ≡ id → IsSoundOf id n
child-sound tree n ns i id own sound are inside at of same =
    record { id = cc; sound = stands-sound (id_of tree) n (child-stands tree n ns i sound are inside at) }
