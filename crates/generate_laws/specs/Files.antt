-- The two files that `generate` writes hold their blocks: RFC 9559, section 5.1 (Segment Element).
use Rattle.std.specs.Prelude.{◌≡◌, ◌≤◌, ℕ, false, List, All}
use Rattle.file_format.specs.Entry.{entries_of}
use Rattle.file_format.specs.FileBlocks.{file_events}
use Rattle.output_model.specs.Document.{Document, layout}
use Rattle.output_model.specs.OutputBlock.{OutputBlock}
use Rattle.output_model.specs.Sound.{IsSoundDocument}
use Rattle.output_laws.specs.Lanes.{blocks_read}
use Rattle.output_laws.specs.Reading.{IsReadAs, header_of_segment}
use Rattle.mkv_generate.specs.declared.blocks.MediaKind.{MediaKind}
use Rattle.mkv_generate.specs.Files.{file_of, lane_blocks}
use Rattle.merge_laws.specs.Merge.{HasNoEncodings}

-- the greatest N in `generate N PREFIX`; it is this project's. The laws on `generate` hold up to it.
abbrev pub most_pictures : ℕ
most_pictures = 100000

-- A file with the content `d` is valid. Read by the format's definition, without a reader's limits, it is that content, undamaged. The frames of its
-- tracks are stored unchanged. Its blocks are `bs`, each once and in order, with ticks of a millisecond. The laws on `generate` state it of each
-- file.
pub record HoldsBlocks (d : Document) (bs : List OutputBlock) : Type 0 where
  pub sound : IsSoundDocument d
  pub read : IsReadAs d (layout d)
  pub plain : All HasNoEncodings (entries_of d.front.tracks)
  pub blocks : blocks_read 1000000 (file_events false (layout d) (header_of_segment d)) ≡ bs

-- For at most 100,000 pictures both files, of pictures and of sounds, hold their blocks. The number of pictures is `n`. The law `files_hold_blocks`
-- states it.
abbrev pub FilesHoldBlocks : Type 0
FilesHoldBlocks = (medium : MediaKind) (n : ℕ) → n ≤ most_pictures → HoldsBlocks (file_of medium n) (lane_blocks medium n)
