-- The state of a journal, by the layout of `Fields`, which is this project's.
use Rattle.std.specs.Prelude.{◌≡◌, ◌≢◌, ◌<◌, ◌≤◌, ◌^◌, ℕ, zero, suc, ◌+◌, ◌==◌, nat_le, nat_lt, max, Bool, true, not, ◌&&◌, ◌||◌, if◌then◌else◌, List, [], ◌∷◌, ◌++◌, length, drop, slice_index, Option, Some, None, ◌*◌}
use Rattle.std.specs.List.{list_all}
use Rattle.std.specs.Str.{bytes_eq}
use Rattle.mkv_io.specs.Contents.{octets_from}
use Rattle.sidecar_edit.specs.declared.place.Place.{Place}
use Rattle.sidecar_edit.specs.declared.place.TheConstants.{HEAD, HEAD_1, MAX_OCTETS, MAX_WRITES, OPEN}
use Rattle.sidecar_edit.specs.declared.held.Gate.{Gate}
use Rattle.sidecar_edit.specs.declared.held.Gate.TheVariants.{Live, Quiet, Bad}
use Rattle.sidecar_edit.specs.Fields.{magic, total_in, new_len_in, version_in, count_in, place_in, places_in, used_in, old_len_in, first_in, head_len, head_of, last_end, sum_of}

-- A rule of a journal's record: the offset in the journal that is reported if it is broken, and whether it is kept. Used by `first_breach`,
-- `place_rules` and others.
pub record Rule : Type 0 where
  pub octet : ℕ
  pub kept : Bool

-- the offset in the journal of the first broken rule of the given ones, or None if all are kept; for `IsUnusedBreach` and `gate_of`
abbrev pub first_breach : List Rule → Option ℕ
first_breach [] = None
first_breach (r ∷ rs) = if r.kept then first_breach rs else Some r.octet

-- All bytes of `octets`, a field of a journal's record that isn't used, are zero. Used by `is_padded` and `counted_rules`.
abbrev pub are_zeros : List ℕ → Bool
are_zeros octets = list_all (λ octet. octet == 0) octets

-- the file's length in bytes before the edit in the journal `s`, or None unless the record has it and the journal is long enough for it; for
-- `has_new_len` and `counted_rules`
abbrev pub old_len_of : List ℕ → Option ℕ
old_len_of s = if (version_in s == 2) && nat_le 168 (length s) then Some (old_len_in s) else None

-- The place `p` of a write leaves no gap after the offset `from`, the end of the previous write. It isn't after this offset or the file's end, if the
-- file's length before the edit is known, the first argument. It is a part of a rule of a record. Used by `place_rules` and the contract of
-- `is_used`.
abbrev pub is_joined : Option ℕ → ℕ → Place → Bool
is_joined None from p = true
is_joined (Some old) from p = nat_le p.at (max old from)

-- The length `new_len` after the edit is right in a record of the version `version`. It is the greater of the length before and `end`, the end of the
-- last write, if the length before is known, the second argument. Otherwise it is at least `end` in version 1, and any in version 2. Used by
-- `has_new_len`.
abbrev pub is_new_len : ℕ → Option ℕ → ℕ → ℕ → Bool
is_new_len version None new_len end = (version == 2) || nat_le end new_len
is_new_len version (Some old) new_len end = new_len == max old end

-- The length after the edit in the journal `s` is right, by its other fields; a rule of a record. Used by `counted_rules` and the contract of
-- `is_new_len`.
abbrev pub has_new_len : List ℕ → Bool
has_new_len s = is_new_len (version_in s) (old_len_of s) (new_len_in s) (last_end 0 (used_in s))

-- the rules of a record's places in the given list. The first `used` of them are used, and the first one is at the offset `octet` of the journal. A
-- used place has bytes, and begins at or after `from`, the end of the previous one. It leaves no gap, if the file's length `old` before the edit is
-- known. An unused place is zero. Used by `place_breach`, `IsUnusedBreach` and others.
abbrev pub place_rules : Option ℕ → ℕ → ℕ → ℕ → List Place → List Rule
place_rules old octet used from [] = []
place_rules old octet zero from (p ∷ ps) =
    record { octet = octet; kept = (p.at == 0) && (p.len == 0) } ∷ place_rules old (octet + 16) zero from ps
place_rules old octet (suc used) from (p ∷ ps) =
    record { octet = octet; kept = nat_le 1 p.len && nat_le from p.at && is_joined old from p }
    ∷ place_rules old (octet + 16) used (p.at + p.len) ps

-- The offset `breach` in the journal `s` is the first unused place that breaks its rule, or None, whatever places precede them. It is the contract of
-- `unused_breach`.
abbrev pub IsUnusedBreach : List ℕ → Option ℕ → Type 0
IsUnusedBreach s breach = (old : Option ℕ) (from : ℕ) →
    breach ≡ first_breach (place_rules old (32 + 16 * count_in s) 0 from (drop (count_in s) (places_in s)))

-- The journal `s` has zeros after the end of a file that is shorter than its 64 kept bytes; a rule of a record. A journal that isn't long enough for
-- them passes. Used by `counted_rules`.
abbrev pub is_padded : List ℕ → Bool
is_padded s = not ((version_in s == 2) && nat_le HEAD (length s)) || are_zeros (drop (old_len_in s) (first_in s))

-- The number `version` is a version of a journal's record that is read: 1 or 2. Used by `rules_of`.
abbrev pub is_version : ℕ → Bool
is_version version = (version == 1) || (version == 2)

-- A journal's record may have `count` writes: 1 to 8. Used by `rules_of`.
abbrev pub is_count : ℕ → Bool
is_count count = nat_le 1 count && nat_le count 8

-- The length of the record in the journal `s` is the sum of its parts, and at most 16 MiB are written; a rule of a record. Used by `counted_rules`.
abbrev pub is_total : List ℕ → Bool
is_total s = nat_le (sum_of (used_in s)) MAX_OCTETS && (total_in s == head_len (version_in s) + sum_of (used_in s))

-- the rules for the record in the journal `s` that depend on the number of writes, in the order of their offsets; for `rules_of` and the contract of
-- `counted_breach`
abbrev pub counted_rules : List ℕ → List Rule
counted_rules s =
    record { octet = 8; kept = is_total s }
    ∷ record { octet = 16; kept = has_new_len s }
    ∷ record { octet = 26; kept = are_zeros (octets_from s 26 6) }
    ∷ (place_rules (old_len_of s) 32 (count_in s) 0 (places_in s) ++ record { octet = 168; kept = is_padded s } ∷ [])

-- the rules for the record in the journal `s`, in the order of their offsets. Rules that depend on the number of writes only count if version and
-- number are right. A journal with an open gate is invalid if one is broken. Used by `gate_of`.
abbrev pub rules_of : List ℕ → List Rule
rules_of s =
    record { octet = 1; kept = bytes_eq (octets_from s 1 7) magic }
    ∷ (if is_version (version_in s) && is_count (count_in s) then counted_rules s
    else record { octet = 24; kept = is_version (version_in s) } ∷ record { octet = 25; kept = is_count (count_in s) } ∷ [])

-- A journal of `size` bytes with the first bytes `head` has no pending edit: the gate is closed, or nothing follows it. Its file is whole, and may be
-- read and edited. Used by `gate_of`.
abbrev pub is_quiet : List ℕ → ℕ → Bool
is_quiet head size = nat_le size 1 || not (slice_index head 0 == OPEN)

-- the state of a journal of `size` bytes with an open gate, by the offset of its first broken rule, or None; without one, the record of `total` bytes
-- must end in the journal. Used by `gate_of`.
abbrev pub unless_broken : Option ℕ → ℕ → ℕ → Gate
unless_broken (Some octet) total size = Bad octet
unless_broken None total size = if nat_lt size total then Bad size else Live

-- the state of a journal of `size` bytes with the first bytes `head`; the contract of the function of this name
abbrev pub gate_of : List ℕ → ℕ → Gate
gate_of head size =
    if is_quiet head size then Quiet
    else if nat_lt size HEAD_1 then Bad size
    else unless_broken (first_breach (rules_of head)) (total_in head) size

-- the state of a journal with the content `sidecar`, by which commands decide whether its file may be used. It is `Quiet` without a pending edit, and
-- `Live` with one. It is `Bad`, with the offset of the first error, if it should have a record and has no valid one. Used by `holds_edit`, `IsHeadOf`
-- and others.
abbrev pub state : List ℕ → Gate
state sidecar = gate_of (head_of sidecar) (length sidecar)

-- The first bytes `head` of a pending journal of `size` bytes have all fields of their version, as recovery requires. There are at most `MAX_WRITES`
-- writes. Their bytes are in the journal, and the ends of their places are numbers of eight bytes.
pub record IsLiveHead (head : List ℕ) (size : ℕ) : Type 0 where
  pub long : HEAD_1 ≤ length head
  pub whole : version_in head ≢ 1 → length head ≡ HEAD
  pub few : count_in head ≤ MAX_WRITES
  pub small : sum_of (used_in head) ≤ MAX_OCTETS
  pub room : head_len (version_in head) + sum_of (used_in head) ≤ size
  pub ends : (k : ℕ) → k < count_in head → (place_in head k).at + (place_in head k).len < 2 ^ 64
