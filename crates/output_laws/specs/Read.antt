-- Blocks that were read, as far as they can be written: RFC 9559, section 10 (Cluster Blocks).
use Rattle.std.specs.Prelude.{◌≡◌, ◌≤◌, ◌<◌, ℕ, ◌==◌, nat_abs, true, false, [], length, None}
use Rattle.block_format.specs.Block.{Block}
use Rattle.output_laws.specs.Blocks.{IsSmall}
use Rattle.output_model.specs.declared.TheConstants.{MAX_PREFIX_LEN}
use Rattle.output_model.specs.Sound.{AreKept}
use Rattle.merge_model.specs.declared.limits.TheConstants.{MAX_SHIFT, TOO_LARGE_DELAY}
use Rattle.merge_model.specs.Links.{Placing}

-- The block `b`, read from a SimpleBlock, has only frames and flags: no duration, no references, no kept children. A case of `IsOfItsKind`, in the
-- laws on what `merge` writes.
pub record IsReadSimple (b : Block) : Type 0 where
  pub duration : b.duration ≡ None
  pub references : b.references ≡ []
  pub kept : b.kept ≡ []

-- The block `b`, read from a BlockGroup, is a keyframe if and only if it has no references. It isn't discardable, and its kept children can be
-- written. A case of `IsOfItsKind`, in the laws on what `merge` writes.
pub record IsReadGroup (b : Block) : Type 0 where
  pub key : b.key ≡ (length b.references == 0)
  pub discardable : b.discardable ≡ false
  pub kept : AreKept b.kept

-- The fields of the block `b` besides its frames are the ones of its kind, SimpleBlock or BlockGroup. The law `found_blocks_are_of_their_kind` states
-- it of each block that is read.
pub record IsOfItsKind (b : Block) : Type 0 where
  pub simple : b.group ≡ false → IsReadSimple b
  pub group : b.group ≡ true → IsReadGroup b

-- `b` is a block as a reader with limits finds it: within these limits, and valid for its kind, SimpleBlock or BlockGroup. The law
-- `file_blocks_are_read` states it of the blocks of an input; then `merge` can write them.
pub record IsReadBlock (b : Block) : Type 0 where
  pub small : IsSmall b
  pub kind : IsOfItsKind b

-- The delay, the append offset and the bytes before frames in the placing `p` are within their limits. A condition of the law that `merge` can write
-- the blocks of an input.
pub record IsPlacing (p : Placing) : Type 0 where
  pub delay : nat_abs p.delay < TOO_LARGE_DELAY
  pub shift : p.shift ≤ MAX_SHIFT
  pub prefix : length p.prefix ≤ MAX_PREFIX_LEN

-- the minimum number of nanoseconds per tick that an output can have. A condition of the law that `merge` can write the blocks of an input.
abbrev pub LEAST_SCALE : ℕ
LEAST_SCALE = 1000
