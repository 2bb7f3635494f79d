-- H.265 (HEVC): the configuration of ISO/IEC 14496-15, section 8.3.3.1 (HEVCDecoderConfigurationRecord).
use Rattle.std.specs.Prelude.{◌≡◌, ◌≢◌, ◌<◌, ℕ, zero, suc, ◌+◌, ◌%◌, ◌^◌, ◌==◌, nat_le, Bool, not, ◌&&◌, if◌then◌else◌, List, [], ◌∷◌, ◌++◌, length, drop, slice_index, All, Option, None, Some}
use Rattle.std.specs.List.{flat_map}
use Rattle.std.specs.Option.{option_map}
use Rattle.byteorder.specs.Endian.{big_number, big_bytes}
use Rattle.elementary.specs.declared.configuration.Avc.{Avc}
use Rattle.elementary.specs.Units.{IsUnit, sized_units, units_at}
use Rattle.elementary.specs.Avc.{behind_sets}

-- ---- the configuration

-- An array of the record: parameter sets of one kind. Their kind isn't looked at. For `HevcRecord`.
pub record HevcArray : Type 0 where
  pub kind : ℕ  -- array_completeness, a reserved bit, and NAL_unit_type
  pub sets : List (List ℕ)  -- nalUnit, behind numNalus

-- the bytes of the array `a`; the number of its sets and the length of a set take two bytes. For `hevc_octets`.
abbrev pub array_octets : HevcArray → List ℕ
array_octets a = a.kind ∷ (big_bytes 2 (length a.sets) ++ sized_units 2 a.sets)

-- The fields of an HEVCDecoderConfigurationRecord, and the bytes after them. It is the CodecPrivate of an H.265 track. For the law
-- `hevc_configurations_are_read`.
pub record HevcRecord : Type 0 where
  pub general : List ℕ  -- 20 bytes, from general_profile_space to avgFrameRate
  pub lengths : ℕ  -- constantFrameRate, numTemporalLayers, temporalIdNested, and two bits of lengthSizeMinusOne
  pub arrays : List HevcArray  -- array, behind numOfArrays
  pub rest : List ℕ

-- the bytes of the record `r`; configurationVersion is 1. For `IsHevcConfiguration`, when `extract` reads H.265.
abbrev pub hevc_octets : HevcRecord → List ℕ
hevc_octets r = 1 ∷ (r.general ++ (r.lengths ∷ (length r.arrays ∷ (flat_map array_octets r.arrays ++ r.rest))))

-- The array `a` can be written: the number of its sets fits, and so does each set. For `IsHevcRecord`.
pub record IsHevcArray (a : HevcArray) : Type 0 where
  pub fits : length a.sets < 2 ^ 16
  pub each : All (IsUnit 2) a.sets

-- The record `r` is valid: its arrays can be written, and the lengths of units take 1, 2 or 4 bytes. For `IsHevcConfiguration`, when `extract` reads
-- H.265.
pub record IsHevcRecord (r : HevcRecord) : Type 0 where
  pub general : length r.general ≡ 20
  pub sizes : r.lengths % 4 ≢ 2
  pub arrays : All IsHevcArray r.arrays

-- the configuration in the record `r`: the number of bytes of a unit's length, and the sets of all arrays, in order. For `IsHevcConfiguration`, when
-- `extract` reads H.265.
abbrev pub hevc_in : HevcRecord → Avc
hevc_in r = record { length_size = r.lengths % 4 + 1; sets = flat_map (λ (a : HevcArray). a.sets) r.arrays }

-- The bytes `octets` are a valid record with the configuration `avc`. For the law `hevc_configurations_are_read`.
abbrev pub IsHevcConfiguration : List ℕ → Avc → Type 0
IsHevcConfiguration octets avc = (r : HevcRecord) × IsHevcRecord r × (octets ≡ hevc_octets r) × (avc ≡ hevc_in r)

-- ---- reading it

-- the sets of the first array of `octets`, and the bytes after it; none if it is cut off or a set is empty. The contract of `read_array` states it.
unfoldable pub array_at : List ℕ → Option (List (List ℕ) × List ℕ)
array_at octets = if nat_le 3 (length octets) then units_at 2 (big_number 2 (drop 1 octets)) (drop 3 octets) else None

-- the sets of an array, if it could be read, followed by the sets that `next` reads from the bytes after it. For `arrays_at`.
abbrev pub array_then : Option (List (List ℕ) × List ℕ) → (List ℕ → Option (List (List ℕ) × List ℕ)) → Option (List (List ℕ) × List ℕ)
array_then None next = None
array_then (Some (sets, rest)) next = behind_sets sets (next rest)

-- the sets of the first arrays of `octets`, as many as the first argument, and the bytes after them. The contract of `read_arrays` states it.
unfoldable pub arrays_at : ℕ → List ℕ → Option (List (List ℕ) × List ℕ)
arrays_at zero octets = Some ([], octets)
arrays_at (suc n) octets = array_then (array_at octets) (arrays_at n)

-- The bytes `octets` are long enough for the fields of a record before its arrays, its version is 1, and unit lengths don't take three bytes. For
-- `hevc_of`; a contract of `read_hevc` states that nothing else is read without it.
abbrev pub has_hevc_front : List ℕ → Bool
has_hevc_front octets = nat_le 23 (length octets) && (slice_index octets 0 == 1) && not (slice_index octets 21 % 4 == 2)

-- the configuration with unit lengths of `w` bytes. The last argument has its sets and the bytes after them, or None if they couldn't be read. For
-- `hevc_of`, when `extract` reads H.265.
abbrev pub with_sets : ℕ → Option (List (List ℕ) × List ℕ) → Option Avc
with_sets w read = option_map (λ (p : List (List ℕ) × List ℕ). record { length_size = w; sets = p.0 }) read

-- the configuration in the HEVCDecoderConfigurationRecord `octets`, if it is valid. The contract of `read_hevc` states it.
unfoldable pub hevc_of : List ℕ → Option Avc
hevc_of octets =
    if has_hevc_front octets then with_sets (slice_index octets 21 % 4 + 1) (arrays_at (slice_index octets 22) (drop 23 octets)) else None
