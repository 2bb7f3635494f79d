-- The parts of a block that its buffer makes available, and that they can be written.
use Rattle.std.specs.Prelude.{◌≡◌, ◌≤◌, ◌<◌, ◌⊎◌, ℕ, ◌+◌, ◌-◌, ℤ, List, [], length, take, drop, sum}
use Rattle.std.specs.List.{All}
use Rattle.std.specs.Option.{IfSome}
use Rattle.elements.specs.declared.TheConstants.{LITTLE}
use Rattle.lacing.specs.Writing.{FitsKind}
use Rattle.block_format.specs.declared.limits.TheConstants.{MAX_BLOCK_LEN, MAX_REFERENCES, TOO_LARGE_TIME}
use Rattle.block_format.specs.Content.{lace_of}
use Rattle.block_reader.specs.declared.head.BlockHead.{BlockHead}
use Rattle.block_reader.specs.declared.parts.Parts.{Parts}
use Rattle.block_reader.specs.Buffered.{Buffered}
use Rattle.block_reader.specs.Time.{IsSmallTime}

-- The time and the duration in `head`, the head of a block that was read or skipped, are below 2^56 nanoseconds in size.
pub record HasSmallTimes (head : BlockHead) : Type 0 where
  pub time : IsSmallTime head.time
  pub duration : IfSome head.duration (λ d. d < TOO_LARGE_TIME)

-- The buffer `b` has no block whose frames can be borrowed: it is new, its block was skipped or damaged, or is only read and not parsed. Used by
-- `new`, `read` and others.
pub record LendsNothing (b : Buffered) : Type 0 where
  pub body : b.body ≡ []
  pub sizes : b.sizes ≡ []
  pub references : b.references ≡ []
  pub kept : b.kept ≡ []

-- The parts of the block in the buffer `b` are within their limits, also without a block. They are times, frame count, frames and sizes, references,
-- and kept children. It is a condition of `IsLendable`.
pub record LendsFew (b : Buffered) : Type 0 where
  pub times : HasSmallTimes b.head
  pub frames : b.frames ≤ 256
  pub cut : sum b.sizes ≡ length b.body
  pub body : length b.body ≤ MAX_BLOCK_LEN
  pub sizes : length b.sizes ≤ 256
  pub references : All IsSmallTime b.references
  pub most_references : length b.references ≤ MAX_REFERENCES
  pub kept : length b.kept ≤ MAX_BLOCK_LEN

-- The buffer `b` has a block that `merge` can write. Its parts are within their limits, and its frames, one or more, suit its lacing.
pub record IsLendable (b : Buffered) : Type 0 where
  pub few : LendsFew b
  pub some : 1 ≤ length b.sizes
  pub count : b.frames ≡ length b.sizes
  pub fits : FitsKind b.head.lace b.sizes

-- The buffer `b` has no block, or one that can be written. It is a condition of the buffer's invariant. Used by `AreParts`.
abbrev pub Lends : Buffered → Type 0
Lends b = LendsNothing b ⊎ IsLendable b

-- ---- parts of a block

-- the content of a block buffer with the bytes `octets`, as they were read, and the parts `p` of a block. Used by `spell_simple`, `spell_group` and
-- others.
abbrev pub lent : List ℕ → Parts → Buffered
lent octets p = record {
  octets = octets;
  head = p.head;
  frames = p.frames;
  body = take (p.end - p.start) (drop p.start octets);
  sizes = p.sizes.items;
  references = p.gathered.references.items;
  kept = p.gathered.kept.items;
}

-- The parts `p` of a block buffer belong to no block whose frames can be borrowed. Used by `new`, `forget` and others.
pub record IsEmpty (p : Parts) : Type 0 where
  pub start : p.start ≡ 0
  pub end : p.end ≡ 0
  pub sizes : p.sizes.items ≡ []
  pub references : p.gathered.references.items ≡ []
  pub kept : p.gathered.kept.items ≡ []

-- The frames of the parts `p` of a block buffer are a range of the bytes `octets` that were read. Used by `IsBlock` and `AreParts`.
pub record IsWithin (octets : List ℕ) (p : Parts) : Type 0 where
  pub order : p.start ≤ p.end
  pub inside : p.end ≤ length octets

-- The parts `p` are of a block in the bytes `octets` that can be written, as `simple` and `group` promise after a success.
pub record IsBlock (octets : List ℕ) (p : Parts) : Type 0 where
  pub within : IsWithin octets p
  pub lendable : IsLendable (lent octets p)

-- The parts `p` are of no block in the bytes `octets`, or of one that can be written. Their times and frame count are within limits in either case.
-- It is a condition of the buffer's invariant.
pub record AreParts (octets : List ℕ) (p : Parts) : Type 0 where
  pub within : IsWithin octets p
  pub times : HasSmallTimes p.head
  pub frames : p.frames ≤ 256
  pub lends : Lends (lent octets p)

-- A block buffer has the bytes `octets`, at most 32 MiB and 1,024 bytes. Its last block is the first `len` of them, and `p` are its parts. It is the
-- invariant of `BlockBuffer`.
pub record IsBuffer (len : ℕ) (octets : List ℕ) (p : Parts) : Type 0 where
  pub within : len ≤ length octets
  pub few : len ≤ MAX_BLOCK_LEN
  pub most : length octets ≤ MAX_BLOCK_LEN + LITTLE
  pub parts : AreParts (take len octets) p

-- The times in `head` and the references `refs` of a block, in nanoseconds, can be written, and the lacing in `head` is the one that `flags` names.
-- `simple_head` and `group_head` promise it.
pub record CanLead (flags : ℕ) (refs : List ℤ) (head : BlockHead) : Type 0 where
  pub times : HasSmallTimes head
  pub references : All IsSmallTime refs
  pub most : length refs ≤ MAX_REFERENCES
  pub lace : head.lace ≡ lace_of flags
