-- The blocks of the two files that `generate` makes. They are this project's.
use Rattle.std.specs.Prelude.{ℕ, ◌+◌, ◌*◌, ◌%◌, ◌==◌, Bool, true, false, if◌then◌else◌, List, [], ◌∷◌, map, None}
use Rattle.std.specs.List.{range_with_len}
use Rattle.lacing.specs.declared.kind.Lace.{Lace}
use Rattle.lacing.specs.declared.kind.Lace.TheVariants as lace
use Rattle.block_format.specs.Content.{frames_cut}
use Rattle.output_model.specs.OutputBlock.{OutputBlock}
use Rattle.mkv_generate.specs.declared.blocks.MediaKind.{MediaKind}
use Rattle.mkv_generate.specs.declared.blocks.MediaKind.TheVariants.{Pictures, Sounds}

-- `count` bytes that count up from `first`; 0 follows 255. Generated frames have them.
abbrev pub counting : ℕ → ℕ → List ℕ
counting first count = map (λ n. n % 256) (range_with_len first count)

-- a SimpleBlock at `time` milliseconds, a keyframe if `key` is true, with the lacing `kind`. Its bytes `octets` are cut into frames of the sizes
-- `sizes`, in bytes. It is on no output track yet. Generated blocks are such blocks.
abbrev pub simple_block : ℕ → Bool → Lace → List ℕ → List ℕ → OutputBlock
simple_block time key kind sizes octets = record {
  lane = 0;
  tick = time;
  key = key;
  invisible = false;
  discardable = false;
  group = false;
  lace = kind;
  frames = frames_cut sizes octets;
  duration = None;
  references = [];
  kept = [];
}

-- the size in bytes of picture `i`, counted from 0: 8 to 108. `picture` uses it.
abbrev pub picture_size : ℕ → ℕ
picture_size i = 8 + 37 * i % 101

-- the block of picture `i`, counted from 0, with one frame, in the first file of `generate`. Pictures follow each other by 40 ms, and every 25th is a
-- keyframe.
abbrev pub picture : ℕ → OutputBlock
picture i = simple_block (40 * i) (i % 25 == 0) lace.None (picture_size i ∷ []) (counting i (picture_size i))

-- the block of sound `i`, counted from 0, in the second file of `generate`. Sounds follow each other by 20 ms, and each is a keyframe. Every third is
-- a lace of frames of 4 and 6 bytes, and each other one a frame of 5 bytes.
abbrev pub sound : ℕ → OutputBlock
sound i =
    if i % 3 == 0 then simple_block (20 * i) true lace.Xiph (4 ∷ 6 ∷ []) (counting (3 * i) 10)
    else simple_block (20 * i) true lace.None (5 ∷ []) (counting (3 * i) 5)

-- the block number `i`, counted from 0, of the file of this kind, pictures or sounds. `blocks_of` uses it.
abbrev pub block_of : MediaKind → ℕ → OutputBlock
block_of Pictures i = picture i
block_of Sounds i = sound i

-- the number of blocks in the file of this kind, pictures or sounds, for `n` pictures; there are two sounds for each picture. `blocks_of` uses it.
abbrev pub count_of : MediaKind → ℕ → ℕ
count_of Pictures n = n
count_of Sounds n = 2 * n

-- all blocks of the file of the kind `medium` for `n` pictures, in their order. `generate` writes them.
abbrev pub blocks_of : MediaKind → ℕ → List OutputBlock
blocks_of medium n = map (block_of medium) (range_with_len 0 (count_of medium n))
