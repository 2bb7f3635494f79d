-- The flags of a block are read as they are written.
use Rattle.std.proofs.Common.{◌≡◌, ℕ, ◌+◌, Bool, true, false, refl}
use Rattle.lacing.specs.declared.kind.Lace.{Lace}
use Rattle.lacing.specs.declared.kind.Lace.TheVariants as lace
use Rattle.block_format.specs.Content.{is_key, is_invisible, is_discardable, lace_of}
use Rattle.output_model.specs.OutputBlock.{OutputBlock}
use Rattle.output_model.specs.Block.{flag, lace_bits, block_flags, simple_block_flags}

-- ---- flags of a Block

abbrev AreBlockFlags : Bool → Lace → Type 0
AreBlockFlags invisible kind =
    let flags = flag 0x08 invisible + lace_bits kind in
    (is_invisible flags ≡ invisible) × (lace_of flags ≡ kind)

-- A fact about each kind of lace.
each-kind : (P : Lace → Type 0) → P lace.None → P lace.Xiph → P lace.Fixed → P lace.Ebml → (kind : Lace) → P kind
each-kind P none xiph fixed ebml lace.None = none
each-kind P none xiph fixed ebml lace.Xiph = xiph
each-kind P none xiph fixed ebml lace.Fixed = fixed
each-kind P none xiph fixed ebml lace.Ebml = ebml

-- Each of the 8 values is computed.
each-block : (invisible : Bool) (kind : Lace) → AreBlockFlags invisible kind
each-block true = each-kind (AreBlockFlags true) (refl, refl) (refl, refl) (refl, refl) (refl, refl)
each-block false = each-kind (AreBlockFlags false) (refl, refl) (refl, refl) (refl, refl) (refl, refl)

-- A Block of a group keeps its flag for invisible and its lacing.
pub block_flags-read : (b : OutputBlock) → (is_invisible (block_flags b) ≡ b.invisible) × (lace_of (block_flags b) ≡ b.lace)
block_flags-read b = each-block b.invisible b.lace

-- ---- flags of a SimpleBlock

pub record AreFlags (flags : ℕ) (key invisible discardable : Bool) (kind : Lace) : Type 0 where
  pub key_is : is_key flags ≡ key
  pub invisible_is : is_invisible flags ≡ invisible
  pub discardable_is : is_discardable flags ≡ discardable
  pub lace_is : lace_of flags ≡ kind

abbrev AreSimpleFlags : Bool → Bool → Bool → Lace → Type 0
AreSimpleFlags key discardable invisible kind =
    let flags = flag 0x80 key + flag 0x01 discardable + (flag 0x08 invisible + lace_bits kind) in
    (is_key flags ≡ key) × (is_invisible flags ≡ invisible) × (is_discardable flags ≡ discardable) × (lace_of flags ≡ kind)

-- Each of the 32 values is computed.
each-simple : (key discardable invisible : Bool) (kind : Lace) → AreSimpleFlags key discardable invisible kind
each-simple true true true = each-kind (AreSimpleFlags true true true) (refl, refl, refl, refl) (refl, refl, refl, refl) (refl, refl, refl, refl) (refl, refl, refl, refl)
each-simple true true false = each-kind (AreSimpleFlags true true false) (refl, refl, refl, refl) (refl, refl, refl, refl) (refl, refl, refl, refl) (refl, refl, refl, refl)
each-simple true false true = each-kind (AreSimpleFlags true false true) (refl, refl, refl, refl) (refl, refl, refl, refl) (refl, refl, refl, refl) (refl, refl, refl, refl)
each-simple true false false = each-kind (AreSimpleFlags true false false) (refl, refl, refl, refl) (refl, refl, refl, refl) (refl, refl, refl, refl) (refl, refl, refl, refl)
each-simple false true true = each-kind (AreSimpleFlags false true true) (refl, refl, refl, refl) (refl, refl, refl, refl) (refl, refl, refl, refl) (refl, refl, refl, refl)
each-simple false true false = each-kind (AreSimpleFlags false true false) (refl, refl, refl, refl) (refl, refl, refl, refl) (refl, refl, refl, refl) (refl, refl, refl, refl)
each-simple false false true = each-kind (AreSimpleFlags false false true) (refl, refl, refl, refl) (refl, refl, refl, refl) (refl, refl, refl, refl) (refl, refl, refl, refl)
each-simple false false false = each-kind (AreSimpleFlags false false false) (refl, refl, refl, refl) (refl, refl, refl, refl) (refl, refl, refl, refl) (refl, refl, refl, refl)

pub simple_block_flags-read : (b : OutputBlock) → AreFlags (simple_block_flags b) b.key b.invisible b.discardable b.lace
simple_block_flags-read b =
    let are = each-simple b.key b.discardable b.invisible b.lace in
    record { key_is = are.0; invisible_is = are.1; discardable_is = are.2; lace_is = are.3 }
