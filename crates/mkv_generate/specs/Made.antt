-- A generated block of the code, as a block of the definitions.
use Rattle.std.specs.Prelude.{◌≡◌, ℕ, Bool, false, List, [], None}
use Rattle.lacing.specs.declared.kind.Lace.{Lace}
use Rattle.output_model.specs.declared.heads.OutHead.{OutHead}
use Rattle.output_model.specs.OutputBlock.{IsLent, Lent, OutputBlock, lent_block}
use Rattle.cluster_writer.specs.Lent.{lent}
use Rattle.mkv_generate.specs.declared.blocks.Made.{Made}

-- the head of a SimpleBlock at `time` milliseconds, a keyframe if `key` is true, with the lacing `kind`. Generated blocks have it.
abbrev pub simple_head : ℕ → Bool → Lace → OutHead
simple_head time key kind = record {
  tick = time;
  order = time;
  duration = None;
  key = key;
  invisible = false;
  discardable = false;
  group = false;
  lace = kind;
}

-- The code's block `m` has the head `own` and the bytes `all`, in frames of the sizes `parts`, in bytes. The contracts of `single` and `laced` have
-- it.
pub record HasParts (own : OutHead) (all parts : List ℕ) (m : Made) : Type 0 where
  pub head : m.head ≡ own
  pub octets : m.octets.items ≡ all
  pub sizes : m.sizes.items ≡ parts

-- the code's block `m`, as a block that a Cluster takes by reference. The contract of `Made::lent` has it.
abbrev pub lent_made : Made → Lent
lent_made m = lent m.head [] m.octets.items m.sizes.items [] []

-- The code's block `m` is the block `b`, within the limits of a block that a Cluster takes. The contracts of `picture` and `sound` have it.
pub record IsMade (b : OutputBlock) (m : Made) : Type 0 where
  pub is : lent_block (lent_made m) ≡ b
  pub can : IsLent (lent_made m)
