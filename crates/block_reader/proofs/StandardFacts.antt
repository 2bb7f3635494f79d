-- Examples of first bytes of SimpleBlocks, by RFC 9559, sections 10.2 (SimpleBlock Structure) and 10.3 (Block Lacing). They are computed: a wrong
-- definition doesn't check.
use Rattle.std.proofs.Common.{◌≡◌, ◌^◌, ℕ, pos, true, false, List, [], ◌∷◌, Some, None, refl}
use Rattle.std.specs.Int.Count.{count_leading_zeros}
use Rattle.ebml_numbers.specs.declared.number.Size.TheVariants.{Known}
use Rattle.ebml_numbers.specs.Number.{size_at}
use Rattle.lacing.specs.declared.kind.Lace.TheVariants as lace
use Rattle.lacing.specs.Reading.{size_in, sizes_in, lace_in}
use Rattle.mkv_schema.specs.declared.element.Header.{Header}
use Rattle.mkv_schema.specs.declared.ids.TheConstants.{SIMPLE_BLOCK}
use Rattle.block_reader.specs.declared.head.BlockHead.{BlockHead}
use Rattle.block_reader.specs.Front.{front_head}

-- a SimpleBlock with a body of 13 bytes
abbrev block : Header
block = record { id = SIMPLE_BLOCK; offset = 50; body = 52; size = Known 13 }

-- track 1, five ticks after the Cluster's Timestamp, a keyframe with EBML lacing
abbrev laced : List ℕ
laced = 0x81 ∷ 0x00 ∷ 0x05 ∷ 0x86 ∷ []

abbrev head : BlockHead
head = record {
  track = 1;
  time = pos 105000000;
  key = true;
  invisible = false;
  discardable = false;
  group = false;
  lace = lace.Ebml;
  duration = None;
  offset = 50;
}

pub record AreSettled : Type 0 where
  pub laced_frames : front_head 1000000 100 block (0x81 ∷ 0x00 ∷ 0x05 ∷ 0x86 ∷ 0x02 ∷ 0x83 ∷ 0xBD ∷ []) ≡ Some (record { head = head; frames = 3 })
  pub lace_cut : front_head 1000000 100 block (0x81 ∷ 0x00 ∷ 0x05 ∷ 0x86 ∷ 0x02 ∷ 0x83 ∷ []) ≡ None
  pub no_count : front_head 1000000 100 block laced ≡ None
  pub frames_past_the_end : front_head 1000000 100 block (0x81 ∷ 0x00 ∷ 0x05 ∷ 0x86 ∷ 0x01 ∷ 0x88 ∷ []) ≡ None
  pub one_frame : front_head 1000000 100 block (0x81 ∷ 0x00 ∷ 0x05 ∷ 0x80 ∷ []) ≡ Some (record { head = record head { lace = lace.None }; frames = 1 })
  pub header_cut : front_head 1000000 100 block (0x81 ∷ 0x00 ∷ 0x05 ∷ []) ≡ None
  pub too_late : front_head 1000000 (2 ^ 40) block (0x81 ∷ 0x00 ∷ 0x05 ∷ 0x80 ∷ []) ≡ None

pub settled : AreSettled
unfolding lace_in sizes_in size_in size_at count_leading_zeros
settled = record { laced_frames = refl; lace_cut = refl; no_count = refl; frames_past_the_end = refl; one_frame = refl; header_cut = refl; too_late = refl }
