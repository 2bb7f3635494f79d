-- The table allows the elements of a text's chapters at their places.
use Rattle.std.proofs.Common.{◌≡◌, ◌<◌, ◌≤◌, ◌^◌, ◌+◌, ℕ, zero, suc, Bool, true, false, not, ◌⊎◌, inl, inr, List, [], ◌∷◌, length, get_or, codes, refl, arith, lit<, eqb-true}
use Rattle.std.proofs.lemmas.Bool.Decides.{nat_tests}
use Rattle.std.proofs.lemmas.Str.{IsUtf8-from_ascii, IsUtf8-take, IsCharBoundary-before_ascii, is_utf8-from_IsUtf8}
use Rattle.std.proofs.Math.Seq.{take-length}
use Rattle.std.specs.Prelude.{◌==◌}
use Rattle.std.specs.List.{prefix_len}
use Rattle.std.specs.Str.{IsUtf8, is_utf8, IsAscii}
use Rattle.ebml_numbers.specs.Number.{uint_octets}
use Rattle.ebml_numbers.proofs.NumberLemmas.{length-uint_octets}
use Rattle.ebml_numbers.proofs.WidthLemmas.{uint_width-IsLeast}
use Rattle.mkv_schema.specs.Schema.{entry_of}
use Rattle.mkv_schema.specs.Table.{table}
use Rattle.mkv_schema.specs.declared.ids.TheConstants.{CHAPTERS, EDITION_ENTRY, EDITION_UID, CHAPTER_ATOM, CHAPTER_UID, CHAPTER_TIME_START, CHAPTER_DISPLAY, CHAP_STRING, CHAP_LANGUAGE}
use Rattle.mkv_schema.specs.Value.{text_of}
use Rattle.tree_format.specs.Reading.{is_master_in}
use Rattle.tree_format.specs.Standing.{IsLeafIn, StandsIn, IsSound, IsSoundOf}
use Rattle.text_formats.specs.declared.chapter_reading.Chapter.{Chapter}
use Rattle.tree_format.specs.Children.{uint_leaf}
use Rattle.srt_chapters.specs.Chapters.{display, atom, edition, chapters_of}
use Rattle.srt_chapters.proofs.ChaptersLemmas.{id_edition_uid, id_uid, id_start, id_string, id_language}

-- ---- a name up to its first zero byte
abbrev is_some_octet : ℕ → Bool
is_some_octet octet = not (octet == 0)

-- The name is read whole or ends before a zero byte.
cut_at : (w : List ℕ) → (prefix_len is_some_octet w ≡ length w) ⊎ ((prefix_len is_some_octet w < length w) × (get_or w (prefix_len is_some_octet w) 0 ≡ 0))
cut_at [] = inl refl
cut_at (b ∷ bs) = split (b == 0) refl (cut_at bs)
  where
    split : (c : Bool) → (b == 0) ≡ c → (prefix_len is_some_octet bs ≡ length bs) ⊎ ((prefix_len is_some_octet bs < length bs) × (get_or bs (prefix_len is_some_octet bs) 0 ≡ 0))
        → (prefix_len is_some_octet (b ∷ bs) ≡ length (b ∷ bs)) ⊎ ((prefix_len is_some_octet (b ∷ bs) < length (b ∷ bs)) × (get_or (b ∷ bs) (prefix_len is_some_octet (b ∷ bs)) 0 ≡ 0))
    split true is rest = inr (rw is (omega arith), rw is (eqb-true b 0 is))
    split false is (inl all) = inl (rw (is, all) (omega arith))
    split false is (inr before) =
        let one : 1 + prefix_len is_some_octet bs ≡ suc (prefix_len is_some_octet bs) = omega arith in
        let less = before.0 in
        inr (rw (is, one) (omega arith), rw (is, one) before.1)

pub cut_utf8 : (name : List ℕ) → IsUtf8 name → is_utf8 (text_of name) ≡ true
cut_utf8 name utf8 = is_utf8-from_IsUtf8 (text_of name) (split (cut_at name))
  where
    split : (prefix_len is_some_octet name ≡ length name) ⊎ ((prefix_len is_some_octet name < length name) × (get_or name (prefix_len is_some_octet name) 0 ≡ 0)) → IsUtf8 (text_of name)
    split (inl all) = rw (all, take-length name) utf8
    split (inr before) =
        let zero_octet = before.1 in
        IsUtf8-take name (prefix_len is_some_octet name) utf8 (IsCharBoundary-before_ascii name (prefix_len is_some_octet name) before.0 (omega arith))

-- ---- the leaves
short : (v : ℕ) → v < 2 ^ 64 → length (uint_octets v) ≤ 8
short v small = let long = length-uint_octets v in let most = (uint_width-IsLeast v small).most in omega arith

edition_uid : IsLeafIn EDITION_ENTRY EDITION_UID (uint_octets 0)
unfolding entry_of table
edition_uid = record { id_stands = id_edition_uid; no_master = refl; value = (let h = short 0 (omega arith) in grind (arith, nat_tests)) }

chapter_uid : IsLeafIn CHAPTER_ATOM CHAPTER_UID (uint_octets 0)
unfolding entry_of table
chapter_uid = record { id_stands = id_uid; no_master = refl; value = (let h = short 0 (omega arith) in grind (arith, nat_tests)) }

chapter_start : (v : ℕ) → v < 2 ^ 64 → IsLeafIn CHAPTER_ATOM CHAPTER_TIME_START (uint_octets v)
unfolding entry_of table
chapter_start v small = record { id_stands = id_start; no_master = refl; value = (let h = short v small in grind (arith, nat_tests)) }

chapter_name : (name : List ℕ) → IsUtf8 name → IsLeafIn CHAPTER_DISPLAY CHAP_STRING name
unfolding entry_of table
chapter_name name utf8 = record { id_stands = id_string; no_master = refl; value = cut_utf8 name utf8 }

ascii : IsAscii (codes "und")
ascii zero = lit< tt
ascii (suc zero) = lit< tt
ascii (suc (suc zero)) = lit< tt
ascii (suc (suc (suc i))) = lit< tt

chapter_language : IsLeafIn CHAPTER_DISPLAY CHAP_LANGUAGE (codes "und")
unfolding entry_of table
chapter_language = record { id_stands = id_language; no_master = refl; value = is_utf8-from_IsUtf8 (codes "und") (IsUtf8-from_ascii (codes "und") ascii) }

-- ---- the masters
display_stands : (name : List ℕ) → IsUtf8 name → StandsIn CHAPTER_ATOM (display name)
unfolding entry_of table
display_stands name utf8 = (refl, (chapter_name name utf8, (chapter_language, tt)))

pub atom_stands : (c : Chapter) → c.start < 2 ^ 64 → IsUtf8 c.name → StandsIn EDITION_ENTRY (atom c)
unfolding entry_of table
atom_stands c small utf8 = (refl, (chapter_uid, (chapter_start c.start small, (display_stands c.name utf8, tt))))

-- The table still allows the atoms after one is appended.
pub ruleset stands = (atom_stands)

pub uid_stands : StandsIn EDITION_ENTRY (uint_leaf EDITION_UID 0)
uid_stands = edition_uid

pub in_chapters : is_master_in CHAPTERS EDITION_ENTRY ≡ true
unfolding entry_of table
in_chapters = refl

pub chapters_sound : (cs : List Chapter) → IsSound (edition cs) → IsSoundOf CHAPTERS (chapters_of cs)
chapters_sound cs sound = record { id = refl; sound = ((in_chapters, sound), tt) }
