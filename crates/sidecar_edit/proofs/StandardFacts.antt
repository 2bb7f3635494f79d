-- Computed journals of small files. A wrong definition fails here.
use Rattle.std.proofs.Common.{◌≡◌, ℕ, List, [], ◌∷◌, ◌++◌, refl, Err}
use Rattle.sidecar_edit.specs.declared.held.Gate.TheVariants.{Live, Quiet, Bad}
use Rattle.sidecar_edit.specs.declared.outcome.Mark.TheVariants.{Length, Octet}
use Rattle.sidecar_edit.specs.declared.outcome.RecoverEnd.TheVariants.{BadSidecar, Foreign}
use Rattle.sidecar_edit.specs.Fields.{number_at, zeros}
use Rattle.sidecar_edit.specs.Gate.{state}
use Rattle.sidecar_edit.specs.Recovery.{recovered, recovery}

-- a number below 256 in eight bytes
abbrev eight : ℕ → List ℕ
eight n = 0 ∷ 0 ∷ 0 ∷ 0 ∷ 0 ∷ 0 ∷ 0 ∷ n ∷ []

-- MKVEDIT
abbrev name : List ℕ
name = 0x4D ∷ 0x4B ∷ 0x56 ∷ 0x45 ∷ 0x44 ∷ 0x49 ∷ 0x54 ∷ []

-- a record by its gate, length, new length, version, number of writes, and the bytes after these
abbrev record_of : ℕ → ℕ → ℕ → ℕ → ℕ → List ℕ → List ℕ
record_of gate total new_len version count rest =
    gate ∷ name ++ eight total ++ eight new_len ++ version ∷ count ∷ zeros 6 ++ rest

-- a file of four bytes; the edit changes the second to 7 and appends two: 1 7 3 4 8 9
abbrev file : List ℕ
file = 1 ∷ 2 ∷ 3 ∷ 4 ∷ []

abbrev edited : List ℕ
edited = 1 ∷ 7 ∷ 3 ∷ 4 ∷ 8 ∷ 9 ∷ []

-- one byte at 1, two bytes at 4
abbrev two_places : List ℕ
two_places = eight 1 ++ eight 1 ++ eight 4 ++ eight 2 ++ zeros 96

-- the record of this edit in version 1: 160 bytes and three
abbrev first : List ℕ
first = record_of 0xA5 163 6 1 2 (two_places ++ 7 ∷ 8 ∷ 9 ∷ [])

-- the record of this edit in version 2: 232 bytes and three
abbrev second : List ℕ
second = record_of 0xA5 235 6 2 2 (two_places ++ eight 4 ++ file ++ zeros 60 ++ 7 ∷ 8 ∷ 9 ∷ [])

-- ---- states

state-first : state first ≡ Live
unfolding number_at
state-first = refl

state-second : state second ≡ Live
unfolding number_at
state-second = refl

-- A closed gate, an empty file and one byte have no pending edit.
state-closed : state (record_of 0x37 163 6 1 2 (two_places ++ 7 ∷ 8 ∷ 9 ∷ [])) ≡ Quiet
state-closed = refl

state-empty : state [] ≡ Quiet
state-empty = refl

state-one : state (0xA5 ∷ []) ≡ Quiet
state-one = refl

-- A file that is shorter than any record is bad at its end.
state-short : state (0xA5 ∷ name) ≡ Bad 8
state-short = refl

-- A file without the record's last byte is bad at its end.
state-cut : state (record_of 0xA5 163 6 1 2 (two_places ++ 7 ∷ 8 ∷ [])) ≡ Bad 162
unfolding number_at
state-cut = refl

-- Bytes after the record don't count.
state-longer : state (first ++ 1 ∷ 2 ∷ []) ≡ Live
unfolding number_at
state-longer = refl

-- Each field in turn.
state-total : state (record_of 0xA5 164 6 1 2 (two_places ++ 7 ∷ 8 ∷ 9 ∷ 0 ∷ [])) ≡ Bad 8
unfolding number_at
state-total = refl

state-new_len : state (record_of 0xA5 163 5 1 2 (two_places ++ 7 ∷ 8 ∷ 9 ∷ [])) ≡ Bad 16
unfolding number_at
state-new_len = refl

-- Version 1 allows a new length past the last write, version 2 doesn't.
state-longer_first : state (record_of 0xA5 163 9 1 2 (two_places ++ 7 ∷ 8 ∷ 9 ∷ [])) ≡ Live
unfolding number_at
state-longer_first = refl

state-longer_second : state (record_of 0xA5 235 9 2 2 (two_places ++ eight 4 ++ file ++ zeros 60 ++ 7 ∷ 8 ∷ 9 ∷ [])) ≡ Bad 16
unfolding number_at
state-longer_second = refl

-- A wrong version hides the fields that depend on the number of writes, and so does a wrong number.
state-version : state (record_of 0xA5 164 6 3 2 (two_places ++ 7 ∷ 8 ∷ 9 ∷ [])) ≡ Bad 24
state-version = refl

state-count : state (record_of 0xA5 164 6 1 9 (two_places ++ 7 ∷ 8 ∷ 9 ∷ [])) ≡ Bad 25
state-count = refl

-- Writes that overlap, are empty, or leave a gap after the file, and an unused place that isn't zero.
state-overlap : state (record_of 0xA5 163 6 1 2 (eight 4 ++ eight 2 ++ eight 5 ++ eight 1 ++ zeros 96 ++ 7 ∷ 8 ∷ 9 ∷ [])) ≡ Bad 48
unfolding number_at
state-overlap = refl

state-none : state (record_of 0xA5 163 6 1 2 (eight 1 ++ eight 0 ++ eight 3 ++ eight 3 ++ zeros 96 ++ 7 ∷ 8 ∷ 9 ∷ [])) ≡ Bad 32
unfolding number_at
state-none = refl

state-gap : state (record_of 0xA5 235 7 2 2 (eight 1 ++ eight 1 ++ eight 5 ++ eight 2 ++ zeros 96 ++ eight 4 ++ file ++ zeros 60 ++ 7 ∷ 8 ∷ 9 ∷ [])) ≡ Bad 48
unfolding number_at
state-gap = refl

state-unused : state (record_of 0xA5 161 2 1 1 (eight 1 ++ eight 1 ++ eight 0 ++ eight 1 ++ zeros 96 ++ 7 ∷ [])) ≡ Bad 48
unfolding number_at
state-unused = refl

-- Zeros after the end of the file before the edit.
state-padded : state (record_of 0xA5 235 6 2 2 (two_places ++ eight 4 ++ file ++ 1 ∷ zeros 59 ++ 7 ∷ 8 ∷ 9 ∷ [])) ≡ Bad 168
unfolding number_at
state-padded = refl

-- A record of version 2 that ends before its kept bytes: rules that need them are skipped.
state-cut_second : state (record_of 0xA5 235 9 2 2 (two_places ++ zeros 4)) ≡ Bad 164
unfolding number_at
state-cut_second = refl

-- ---- the file that two files recover to

recovered-first : recovered file first ≡ edited
unfolding number_at
recovered-first = refl

recovered-second : recovered file second ≡ edited
unfolding number_at
recovered-second = refl

-- A file that the writes have torn, and one that is edited already.
recovered-torn : recovered (1 ∷ 0 ∷ 3 ∷ 4 ∷ 5 ∷ []) second ≡ edited
unfolding number_at
recovered-torn = refl

recovered-again : recovered edited second ≡ edited
unfolding number_at
recovered-again = refl

-- With a closed gate the file is unchanged.
recovered-closed : recovered file (record_of 0 235 6 2 2 (two_places ++ eight 4 ++ file ++ zeros 60 ++ 7 ∷ 8 ∷ 9 ∷ [])) ≡ file
recovered-closed = refl

-- Another file: with a length that is impossible during the edit, or with another byte that no write changes.
foreign-short : recovery (1 ∷ 2 ∷ 3 ∷ []) second ≡ Err (Foreign Length 4 3)
unfolding number_at
foreign-short = refl

foreign-long : recovery (edited ++ 1 ∷ []) second ≡ Err (Foreign Length 4 7)
unfolding number_at
foreign-long = refl

foreign-octet : recovery (1 ∷ 2 ∷ 5 ∷ 4 ∷ []) second ≡ Err (Foreign (Octet 2) 3 5)
unfolding number_at
foreign-octet = refl

-- Version 1 only detects a gap: the second write begins after the end of a file of three bytes.
gap-first : recovery (1 ∷ 2 ∷ 3 ∷ []) first ≡ Err (BadSidecar 48)
unfolding number_at
gap-first = refl
