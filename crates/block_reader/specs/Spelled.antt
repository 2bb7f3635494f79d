-- Content that is read from the bytes of a Block or a SimpleBlock.
use Rattle.std.specs.Prelude.{◌≡◌, ◌≤◌, ℕ, ◌+◌, if◌then◌else◌, List, length, take, drop, sum, Option, Some, None, Result, Ok, Err}
use Rattle.lacing.specs.declared.kind.Lace.{Lace}
use Rattle.lacing.specs.declared.kind.Lace.TheVariants as laces
use Rattle.lacing.specs.Writing.{FitsKind}
use Rattle.mkv_io.specs.declared.damage.Kind.{Kind}
use Rattle.block_format.specs.Content.{Content, has_no_header, track_in, relative_in, flags_in, header_len, lace_of, frames_cut, content_in, frames_in}
use Rattle.block_reader.specs.declared.content.BlockHeader.{BlockHeader}
use Rattle.block_reader.specs.declared.content.Spelled.{Spelled}

-- the header at the start of `octets`, the content of a Block or SimpleBlock, which isn't too short for it; for `header_in`
abbrev pub header_of : List ℕ → BlockHeader
header_of octets = record { track = track_in octets; relative = relative_in octets; flags = flags_in octets; len = header_len octets }

-- the header at the start of `octets`, the content of a Block or SimpleBlock or its first bytes, or None if it is incomplete; the contract of the
-- function of this name
abbrev pub header_in : List ℕ → Option BlockHeader
header_in octets = if has_no_header octets then None else Some (header_of octets)

-- Frames of the sizes `sizes` in bytes, valid for the lacing `kind`, begin at the index `start` of the bytes `octets` of a block and fill the rest.
-- Used by `Cuts` and `SpellsContent`.
pub record AreFrames (kind : Lace) (octets sizes : List ℕ) (start : ℕ) : Type 0 where
  pub inside : start ≤ length octets
  pub whole : start + sum sizes ≡ length octets
  pub some : 1 ≤ length sizes
  pub most : length sizes ≤ 256
  pub fits : FitsKind kind sizes

-- The last argument, the result of dividing the bytes `octets` of a block with the lacing `lace` into frames, agrees with the expected one, `found`.
-- The sizes `sizes` give the frames in `found`, or both are the same kind of damage.
abbrev pub Cuts : Lace → List ℕ → List ℕ → Result (List (List ℕ)) Kind → Result ℕ Kind → Type 0
Cuts lace octets sizes found (Ok start) = (found ≡ Ok (frames_cut sizes (drop start octets))) × AreFrames lace octets sizes start
Cuts lace octets sizes found (Err kind) = found ≡ Err kind

-- The bytes `octets` of a block without lacing are one frame, which begins at the index `start`, and `sizes` has its size in bytes; the contract of
-- `one_frame`.
abbrev pub CutsWhole : List ℕ → List ℕ → ℕ → Type 0
CutsWhole octets sizes start = Cuts laces.None octets sizes (frames_in laces.None octets) (Ok start)

-- the content of a Block or SimpleBlock with the parsed header `s` and the frames `frames`, as the definitions of a block have it. Used by
-- `MakesSimpleHead`, `MakesGroupHead` and others.
abbrev pub content_of : Spelled → List (List ℕ) → Content
content_of s frames = record { track = s.track; relative = s.relative; flags = s.flags; frames = frames }

-- The last argument is the result of parsing `octets`, the content of a Block or SimpleBlock, with `spell`: its header and the frame sizes `sizes` in
-- bytes, or its kind of damage.
abbrev pub SpellsContent : List ℕ → List ℕ → Result Spelled Kind → Type 0
SpellsContent octets sizes (Ok s) = (content_in octets ≡ Ok (content_of s (frames_cut sizes (drop s.start octets)))) × AreFrames (lace_of s.flags) octets sizes s.start
SpellsContent octets sizes (Err kind) = content_in octets ≡ Err kind

-- The bytes `octets`, the content of a SimpleBlock, begin with `front`, the ones that were looked at. Used by `Settles`.
abbrev pub IsFront : List ℕ → List ℕ → Type 0
IsFront front octets = front ≡ take (length front) octets
