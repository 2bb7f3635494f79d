-- PGS (Presentation Graphic Stream): a frame is the segments of a display set (Matroska codec specification, S_HDMV/PGS). In a SUP stream, the form
-- of a file, each segment follows a header with its time.
use Rattle.std.specs.Prelude.{◌≡◌, ℕ, ◌+◌, ◌*◌, ◌/◌, ◌%◌, ◌^◌, nat_le, ℤ, pos, negsuc, if◌then◌else◌, List, [], ◌∷◌, ◌++◌, length, take, drop, All, Option, None, Some, codes}
use Rattle.std.specs.List.{concat, flat_map}
use Rattle.std.specs.Option.{option_map}
use Rattle.byteorder.specs.Endian.{big_number, big_bytes}
use Rattle.elementary.specs.Pieces.{pieces_of}

-- ---- segments

-- the size in bytes of the segment that `octets` begin with. Its first three bytes are segment_type, and segment_length in two bytes; it is the
-- number of the bytes that follow. For `IsSegment` and `segment_at`.
abbrev pub segment_size : List ℕ → ℕ
segment_size octets = 3 + big_number 2 (drop 1 octets)

-- The bytes `segment` are exactly a segment. For `IsSegments`, and for the law on SUP streams.
pub record IsSegment (segment : List ℕ) : Type 0 where
  pub size : length segment ≡ segment_size segment

-- The bytes `octets` are a join of `segments`. For the law `segments_are_read`.
pub record IsSegments (octets : List ℕ) (segments : List (List ℕ)) : Type 0 where
  pub each : All IsSegment segments
  pub join : octets ≡ concat segments

-- ---- reading them

-- the first segment of `octets`, and the bytes after it; none if it is cut off. The contract of the function of the same name states it.
unfoldable pub segment_at : List ℕ → Option (List ℕ × List ℕ)
segment_at octets =
    if nat_le (segment_size octets) (length octets) then Some (take (segment_size octets) octets, drop (segment_size octets) octets) else None

-- The bytes `octets` don't begin with a segment. The contract of `segment_at` states it if it returns None.
abbrev pub HasNoSegment : List ℕ → Type 0
HasNoSegment octets = segment_at octets ≡ None

-- The bytes `octets` begin with the segment `segment`, followed by `rest`. The contract of `segment_at` states it of its result.
abbrev pub SegmentFirst : List ℕ → List ℕ → List ℕ → Type 0
SegmentFirst octets segment rest = segment_at octets ≡ Some (segment, rest)

-- the segments that the bytes `octets` are exactly a join of, if they are one. For the frames of a PGS track.
unfoldable pub segments_of : List ℕ → Option (List (List ℕ))
segments_of octets = pieces_of segment_at octets

-- ---- the SUP stream

-- the presentation time of a frame at the given time in nanoseconds, and 0 for a time before 0. It is the lowest 32 bits of the time in units of
-- 1/90,000 second, rounded down. The contract of the function of the same name states it.
abbrev pub presentation_time : ℤ → ℕ
presentation_time (pos t) = t * 9 / 100000 % 2 ^ 32
presentation_time (negsuc t) = 0

-- the header of a segment with the presentation time `ticks`, in units of 1/90,000 second: a mark, this time, and the decoding time, which is 0. For
-- `segment_header`, and for the law on SUP streams.
unfoldable pub header_at : ℕ → List ℕ
header_at ticks = codes "PG" ++ (big_bytes 4 ticks ++ (0 ∷ 0 ∷ 0 ∷ 0 ∷ []))

-- the header of a segment of a frame at `time` nanoseconds. The contract of the function of the same name states it.
unfoldable pub segment_header : ℤ → List ℕ
segment_header time = header_at (presentation_time time)

-- the PGS frame `frame` at `time` nanoseconds with a header before each segment, if it is a join of segments. Another frame is bad. `extract` writes
-- it, and leaves out a bad frame.
abbrev pub pgs : ℤ → List ℕ → Option (List ℕ)
pgs time frame = option_map (flat_map (λ segment. segment_header time ++ segment)) (segments_of frame)
