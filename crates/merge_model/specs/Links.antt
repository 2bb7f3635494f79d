-- Sources of output tracks, and the placing of their blocks in the output: RFC 9559, sections 10 (Cluster Blocks), 10.3 (Block Lacing) and 11
-- (Timestamps).
use Rattle.std.specs.Prelude.{ℕ, ◌+◌, ◌==◌, ℤ, pos, ◌+ℤ◌, Bool, true, false, not, ◌&&◌, List, [], ◌∷◌, ◌++◌, map, filter, flat_map, Option, Some, None, is_some}
use Rattle.std.specs.Option.{option_map}
use Rattle.lacing.specs.declared.kind.Lace.{Lace}
use Rattle.lacing.specs.declared.kind.Lace.TheVariants as lace
use Rattle.mkv_io.specs.declared.damage.Damage.{Damage}
use Rattle.block_format.specs.Block.{Block}
use Rattle.block_format.specs.Events.{Event, blocks_of, damages_of, last_of}
use Rattle.mkv_io.specs.declared.entry.Entry.{Entry}
use Rattle.output_model.specs.OutputBlock.{OutputBlock}
use Rattle.output_model.specs.Ticks.{since_start, tick_of, ticks_for, ticks_to}

-- ---- a link

-- the placing of a source's blocks in the output of a merge. It has the delay of their timestamps, the append offset, the default duration of a
-- frame, and the bytes before each frame. Times are in nanoseconds. Used by `lasting`, `end_at` and others.
pub record Placing : Type 0 where
  pub delay : ℤ
  pub shift : ℕ
  pub default_duration : Option ℕ
  pub prefix : List ℕ

-- a source of an output track, as the definition of a merge has it. It has the blocks of a track in the order of the file, and the damage of the
-- file. `stops` is true if the damage ends the reading of the sources after it. Used by `file_end`, `timed_given` and others.
pub record Given : Type 0 where
  pub blocks : List Block
  pub damages : List Damage
  pub stops : Bool
  pub placing : Placing

-- the source of an output track for the track with the TrackNumber `number` in a file with the events `events` (blocks and damage); `p` is the
-- placing. It stops if damage ends the reading of its file.
abbrev pub track_given : Placing → ℕ → List Event → Given
track_given p number events = record {
  blocks = filter (λ (b : Block). b.track == number) (blocks_of events);
  damages = damages_of events;
  stops = is_some (last_of events);
  placing = p;
}

-- the source `g`; if `goes_on`, an option of `merge`, damage in it doesn't end the reading of the sources after it
abbrev pub going_on : Bool → Given → Given
going_on goes_on g = record g { stops = not goes_on && g.stops }

-- the subtitle `e` of a SubRip text as a block that `merge` can place: a group of one frame, with the start and the duration of the subtitle in
-- nanoseconds
abbrev pub entry_block : Entry → Block
entry_block e = record {
  track = 0;
  time = pos e.start;
  key = true;
  invisible = false;
  discardable = false;
  group = true;
  lace = lace.None;
  frames = e.text ∷ [];
  duration = Some e.duration;
  references = [];
  kept = [];
  offset = 0;
}

-- the source of an output track for the subtitles `entries` of a SubRip text, with the delay `delay` and the append offset `shift` in nanoseconds;
-- for `text_with` and `given_from`
abbrev pub text_given : ℤ → ℕ → List Entry → Given
text_given delay shift entries = record {
  blocks = map entry_block entries;
  damages = [];
  stops = false;
  placing = record { delay = delay; shift = shift; default_duration = None; prefix = [] };
}

-- ---- a block in the output

-- the lacing of a written block with the given frames: none for a single frame, and otherwise the input's, `kind`; for `output_block`
abbrev pub lace_for : List (List ℕ) → Lace → Lace
lace_for [] kind = kind
lace_for (frame ∷ []) kind = lace.None
lace_for (frame ∷ other ∷ frames) kind = kind

-- the block `b` of an input as it is at `t` nanoseconds of an output with `scale` nanoseconds per tick, with `prefix` before each frame. Its output
-- track isn't known yet, so its number is 0. Used by `placed_at`.
abbrev pub output_block : ℕ → List ℕ → ℕ → Block → OutputBlock
output_block scale prefix t b = record {
  lane = 0;
  tick = tick_of scale t;
  key = b.key;
  invisible = b.invisible;
  discardable = b.discardable;
  group = b.group;
  lace = lace_for b.frames b.lace;
  frames = map (λ frame. prefix ++ frame) b.frames;
  duration = option_map (ticks_for scale t) b.duration;
  references = map (ticks_to scale t) b.references;
  kept = b.kept;
}

-- the timestamp of the block `b` of an input with the delay in `p`, in nanoseconds, or None if it is before time 0, so that the block is dropped; for
-- `block_end` and `placed`
abbrev pub delayed : Placing → Block → Option ℕ
delayed p b = since_start (b.time +ℤ p.delay)

-- the block `b` as a list of one, as it is in an output with `scale` nanoseconds per tick. The last argument is its timestamp with the delay of `p`
-- in nanoseconds; without one the block is dropped, and the list is empty. Used by `placed`.
abbrev pub placed_at : ℕ → Placing → Block → Option ℕ → List OutputBlock
placed_at scale p b None = []
placed_at scale p b (Some t) = output_block scale p.prefix (t + p.shift) b ∷ []

-- the block `b` of a source with the placing `p` as a list of one, as it is in an output of `scale` nanoseconds per tick. The list is empty if the
-- block is before time 0. Used by `given_blocks`.
abbrev pub placed : ℕ → Placing → Block → List OutputBlock
placed scale p b = placed_at scale p b (delayed p b)

-- the blocks of the source `g` of an output track as they are in an output of `scale` nanoseconds per tick, without the dropped ones; for
-- `DamagedLanesGoOn` and `lane_blocks`
abbrev pub given_blocks : ℕ → Given → List OutputBlock
given_blocks scale g = flat_map (placed scale g.placing) g.blocks
