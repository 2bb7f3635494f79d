-- Contents of a block buffer.
use Rattle.std.specs.Prelude.{◌≡◌, ℕ, ℤ, List, Result, Ok, Err}
use Rattle.mkv_io.specs.declared.damage.Damage.{Damage}
use Rattle.block_format.specs.Content.{frames_cut}
use Rattle.block_format.specs.Block.{Block}
use Rattle.block_reader.specs.declared.head.BlockHead.{BlockHead}

-- the content of a block buffer. It has the bytes `octets` that were read, the head, and the number, bytes and sizes of the frames. It also has the
-- references in nanoseconds, and the kept children of a group. A skipped block has no bytes or sizes of frames. Used by `block_of`, `HoldsFound` and
-- others.
pub record Buffered : Type 0 where
  pub octets : List ℕ
  pub head : BlockHead
  pub frames : ℕ
  pub body : List ℕ
  pub sizes : List ℕ
  pub references : List ℤ
  pub kept : List ℕ

-- the block that the buffer `b` holds, as the definitions of a file's blocks have it; for `HoldsFound`
abbrev pub block_of : Buffered → Block
block_of b = record {
  track = b.head.track;
  time = b.head.time;
  key = b.head.key;
  invisible = b.head.invisible;
  discardable = b.head.discardable;
  group = b.head.group;
  lace = b.head.lace;
  frames = frames_cut b.sizes b.body;
  duration = b.head.duration;
  references = b.references;
  kept = b.kept;
  offset = b.head.offset;
}

-- The result of parsing a block, the first argument, agrees with `found`, the one that the definitions expect: the buffer `b` holds its block, or
-- both are the same damage. Used by `SpellsSimple` and `SpellsGroup`.
abbrev pub HoldsFound : {T : Type 0} → Result T Damage → Buffered → Result Block Damage → Type 0
HoldsFound (Ok done) b found = found ≡ Ok (block_of b)
HoldsFound (Err d) b found = found ≡ Err d
