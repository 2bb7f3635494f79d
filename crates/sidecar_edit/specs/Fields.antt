-- The record of an edit in a journal (FILE.mkvedit), byte for byte. Numbers are big-endian. The layout is this project's.
--
--   0            gate: A5 is open, any other byte is closed
--   1 to 7       MKVEDIT
--   8 to 15      length of the record in bytes, including the gate
--   16 to 23     length of the file after the edit
--   24           version, 1 or 2
--   25           number of writes, 1 to 8
--   26 to 31     zero
--   32 to 159    eight places of writes, each an offset and a length of eight bytes; unused ones are zero
--   version 2:
--   160 to 167   length of the file before the edit
--   168 to 231   first 64 bytes of the file before the edit, zeros after its end
--   then, at 160 in version 1 and at 232 in version 2, the bytes of the writes, in their order
use Rattle.std.specs.Prelude.{◌≡◌, ◌≤◌, ℕ, zero, suc, ◌+◌, ◌*◌, ◌==◌, max, min, if◌then◌else◌, List, [], ◌∷◌, ◌++◌, length, take, drop, replicate, slice_index, get_or, ◌-◌}
use Rattle.byteorder.specs.Endian.{big_number, big_bytes}
use Rattle.mkv_io.specs.Contents.{octets_from}
use Rattle.sidecar_edit.specs.declared.place.Place.{Place}
use Rattle.sidecar_edit.specs.Writes.{Write}
use Rattle.sidecar_edit.specs.declared.place.TheConstants.{HEAD, HEAD_1, KEPT, MAX_OCTETS, MAX_WRITES}
use Rattle.mkv_io.specs.declared.outside.TheConstants.{LONGEST_FILE}

-- the bytes `MKVEDIT` of a journal's record, which follow its gate; for `front_octets` and `rules_of`
abbrev pub magic : List ℕ
magic = 77 ∷ 75 ∷ 86 ∷ 69 ∷ 68 ∷ 73 ∷ 84 ∷ []

-- ---- reading: the fields before the bytes of the writes

-- the big-endian number in the eight bytes of the journal `s` from the offset `at` on
unfoldable pub number_at : List ℕ → ℕ → ℕ
number_at s at = big_number 8 (drop at s)

-- the length of the record in bytes, including the gate, as the journal `s` states (version 1 or 2); for `is_total` and `gate_of`
abbrev pub total_in : List ℕ → ℕ
total_in s = number_at s 8

-- the length of the file in bytes after the edit, as the journal `s` states. Used by `has_other_length`, `has_new_len` and others.
abbrev pub new_len_in : List ℕ → ℕ
new_len_in s = number_at s 16

-- the version of the record in the journal `s`, 1 or 2 if it is valid. Used by `unfit`, `head_len` and others.
abbrev pub version_in : List ℕ → ℕ
version_in s = slice_index s 24

-- the number of writes in the record, as the journal `s` states, 1 to 8 if it is valid. Used by `is_touched`, `differs` and others.
abbrev pub count_in : List ℕ → ℕ
count_in s = slice_index s 25

-- the place in the file of the write with the index `k`, counted from 0, as the journal `s` states; for `places_in`
abbrev pub place_in : List ℕ → ℕ → Place
place_in s k = record { at = number_at s (32 + 16 * k); len = number_at s (40 + 16 * k) }

-- all eight places of writes in the record of the journal `s`, used or not. Used by `place_breach`, `used_in` and others.
abbrev pub places_in : List ℕ → List Place
places_in s =
    place_in s 0 ∷ place_in s 1 ∷ place_in s 2 ∷ place_in s 3
    ∷ place_in s 4 ∷ place_in s 5 ∷ place_in s 6 ∷ place_in s 7 ∷ []

-- the places of the writes in the record of the journal `s` that are used. Used by `is_touched`, `gap_of` and others.
abbrev pub used_in : List ℕ → List Place
used_in s = take (count_in s) (places_in s)

-- the length of the file in bytes before the edit, as the journal `s` states (version 2). Used by `has_other_length`, `old_len_of` and others.
abbrev pub old_len_in : List ℕ → ℕ
old_len_in s = number_at s 160

-- the first 64 bytes of the file before the edit, as the journal `s` has them (version 2); for `is_padded`
abbrev pub first_in : List ℕ → List ℕ
first_in s = octets_from s 168 KEPT

-- the number of bytes before the bytes of the writes, in a journal's record of the version `version`; for `writes_in` and `is_total`
abbrev pub head_len : ℕ → ℕ
head_len version = if version == 1 then HEAD_1 else HEAD

-- the first bytes of the journal `sidecar`, at most 232, which include all fields before the bytes of the writes. Used by `writes_in`, `state` and
-- others.
abbrev pub head_of : List ℕ → List ℕ
head_of sidecar = take HEAD sidecar

-- the writes of a record at the given places, with the bytes `bytes` in order; for `writes_in` and `writes_of`
abbrev pub cut_up : List Place → List ℕ → List Write
cut_up [] bytes = []
cut_up (p ∷ ps) bytes = record { at = p.at; bytes = take p.len bytes } ∷ cut_up ps (drop p.len bytes)

-- the writes in the journal `sidecar`, each with its place and its bytes, which `recover` makes
abbrev pub writes_in : List ℕ → List Write
writes_in sidecar =
    let head = head_of sidecar in
    cut_up (used_in head) (drop (head_len (version_in head)) sidecar)

-- ---- writing: the bytes after the gate

-- a place of a record that isn't used: all zeros. Used by `slot`.
abbrev pub no_place : Place
no_place = record { at = 0; len = 0 }

-- the sixteen bytes of the place `p` in a journal's record; for `slot`
abbrev pub spelled : Place → List ℕ
spelled p = big_bytes 8 p.at ++ big_bytes 8 p.len

-- the bytes of the place in `ps` with the index `k`, counted from 0, in a journal's record, or zeros if there are fewer; for `slots` and the contract
-- of `append_place`
abbrev pub slot : List Place → ℕ → List ℕ
slot ps k = spelled (get_or ps k no_place)

-- the number of bytes that the writes of a record at the given places write. Used by `sum_in`, `payload` and others.
abbrev pub sum_of : List Place → ℕ
sum_of [] = 0
sum_of (p ∷ ps) = p.len + sum_of ps

-- All fields of a journal's record before the bytes of the writes. They are the file's length in bytes before and after, its first 64 bytes before,
-- and the places of the writes. Used by `IsSound`, `IsMadeFor` and others.
pub record Head : Type 0 where
  pub old_len : ℕ
  pub new_len : ℕ
  pub first : List ℕ
  pub places : List Place

-- ---- writes that an edit may have

-- The given places of writes are in order, for a file of `old` bytes, as a planned edit must have them. Each has bytes. It begins at or after the end
-- of the previous one, which is `from` for the first. It begins at most at the end of the file or of the previous place. Used by `EndsInOrder` and
-- the contract of `end_behind`.
abbrev pub AreInOrder : ℕ → ℕ → List Place → Type 0
AreInOrder old from [] = Unit {0}
AreInOrder old from (p ∷ ps) = (1 ≤ p.len) × (from ≤ p.at) × (p.at ≤ max old from) × AreInOrder old (p.at + p.len) ps

-- the offset in the file after the last of the given places of writes, or `from` if there is none; for `has_new_len`
abbrev pub last_end : ℕ → List Place → ℕ
last_end from [] = from
last_end from (p ∷ ps) = last_end (p.at + p.len) ps

-- The fields `h` of a journal's record are ones of an edit: its places are in order, and the length after it is right. It is a condition of a plan.
-- Used by `IsPlan`.
pub record IsSound (h : Head) : Type 0 where
  pub few : length h.places ≤ MAX_WRITES
  pub order : AreInOrder h.old_len 0 h.places
  pub small : sum_of h.places ≤ MAX_OCTETS
  pub short : h.old_len ≤ LONGEST_FILE
  pub new_len : h.new_len ≡ max h.old_len (last_end 0 h.places)
  pub first : length h.first ≡ min KEPT h.old_len

-- The record with the fields `h` was made for a file with the content `file`: it has its length and first bytes. An edit requires it. Used by
-- `commit`.
pub record IsMadeFor (h : Head) (file : List ℕ) : Type 0 where
  pub len : h.old_len ≡ length file
  pub first : h.first ≡ take KEPT file

-- `n` bytes of zero, which fill the first bytes of a short file in a record; for `mark_octets`
abbrev pub zeros : ℕ → List ℕ
zeros n = replicate n 0

-- the bytes of a journal's record of version 2 between gate and places. It has `total` bytes in all and `count` writes, and gives the file `new_len`
-- bytes.
abbrev pub front_octets : ℕ → ℕ → ℕ → List ℕ
front_octets total new_len count =
    magic ++ (big_bytes 8 total ++ (big_bytes 8 new_len ++ (2 ∷ count ∷ 0 ∷ 0 ∷ 0 ∷ 0 ∷ 0 ∷ 0 ∷ [])))

-- the bytes of the places of a journal's record that has the places `ps`. Only the places with an index below the first argument are meant. Used by
-- `head_octets` and the contract of `append_places`.
abbrev pub slots : ℕ → List Place → List ℕ
slots zero ps = []
slots (suc n) ps = slots n ps ++ slot ps n

-- the bytes of a journal's record of version 2 that identify its file: its length `old_len` in bytes and its first bytes `first`, both before the
-- edit; for `head_octets` and the contract of `append_marks`
abbrev pub mark_octets : ℕ → List ℕ → List ℕ
mark_octets old_len first = big_bytes 8 old_len ++ (first ++ zeros (KEPT - length first))

-- the bytes of a journal's record of version 2 after the gate, up to the bytes of the writes, with the fields `h`; for `body_of`
abbrev pub head_octets : Head → List ℕ
head_octets h =
    front_octets (HEAD + sum_of h.places) h.new_len (length h.places)
    ++ (slots MAX_WRITES h.places ++ mark_octets h.old_len h.first)

-- A plan of an edit, of `propedit` or `reindex`: the fields before the bytes of its writes, and the bytes of the writes, in sequence.
pub record Planned : Type 0 where
  pub head : Head
  pub payload : List ℕ

-- the writes of the planned edit `p`, each with its own bytes; for the contracts of `write_media` and `commit`
abbrev pub writes_of : Planned → List Write
writes_of p = cut_up p.head.places p.payload

-- the bytes of the journal's record of the planned edit `p`, after the gate; for the contracts of `write_record` and `body`
abbrev pub body_of : Planned → List ℕ
body_of p = head_octets p.head ++ p.payload

-- The plan `p` is one of an edit, as planning promises: its fields are, and the bytes of its writes are as many as its places have. Used by
-- `write_record`, `new` and others.
pub record IsPlan (p : Planned) : Type 0 where
  pub sound : IsSound p.head
  pub full : length p.payload ≡ sum_of p.head.places
