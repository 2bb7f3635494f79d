-- Computed small output tracks and merges. A wrong definition fails here.
use Rattle.std.proofs.Common.{◌≡◌, ℕ, ◌+◌, ◌*◌, true, false, List, [], ◌∷◌, map, Some, None, refl}
use Rattle.std.specs.Prelude.{ℤ, pos, negsuc}
use Rattle.lacing.specs.declared.kind.Lace.TheVariants as lace
use Rattle.mkv_io.specs.declared.damage.Damage.{Damage}
use Rattle.mkv_io.specs.declared.damage.Kind.TheVariants.{Truncated, ShortBlock}
use Rattle.block_format.specs.Events.{Event, block, damaged, stopped}
use Rattle.mkv_io.specs.declared.entry.Entry.{Entry}
use Rattle.output_model.specs.OutputBlock.{OutputBlock}
use Rattle.output_model.specs.Ticks.{tick_of, tick_near, ticks_for, ticks_to}
use Rattle.merge_model.specs.Links.{Given, Placing, lace_for, text_given, track_given}
use Rattle.merge_model.specs.Lanes.{lane_blocks, lane_damages}
use Rattle.merge_model.specs.Ends.{file_end}
use Rattle.merge_model.specs.Merged.{merged}

-- ---- times

pub record AreTicks : Type 0 where
  pub exact : tick_of 1000000 20000000 ≡ 20
  pub half : tick_of 1000000 1500000 ≡ 2
  pub below_half : tick_of 1000000 1499999 ≡ 1
  pub odd_scale : tick_of 3 1 ≡ 0
  pub odd_scale_up : tick_of 3 2 ≡ 1
  pub before_start : tick_near 1000000 (negsuc 499999) ≡ pos 0
  pub further_before : tick_near 1000000 (negsuc 500000) ≡ negsuc 0
  -- A duration is the difference of two ticks, and isn't rounded by itself.
  pub duration : ticks_for 1000000 400000 200000 ≡ 1
  pub same_duration_later : ticks_for 1000000 600000 200000 ≡ 0
  pub reference : ticks_to 1000000 40000000 (negsuc 39999999) ≡ negsuc 39
  -- A reference may be before the start, and isn't rounded to 0.
  pub reference_before_start : ticks_to 1000000 0 (negsuc 999999) ≡ negsuc 0

ticks_hold : AreTicks
ticks_hold = record { exact = refl; half = refl; below_half = refl; odd_scale = refl; odd_scale_up = refl; before_start = refl; further_before = refl; duration = refl; same_duration_later = refl; reference = refl; reference_before_start = refl }

-- ---- output tracks

-- a SimpleBlock of a track at `ms` milliseconds
abbrev at_ms : ℕ → ℕ → Event
at_ms track ms = block (record {
  track = track;
  time = pos (ms * 1000000);
  key = true;
  invisible = false;
  discardable = false;
  group = false;
  lace = lace.Xiph;
  frames = (0xAA ∷ []) ∷ [];
  duration = None;
  references = [];
  kept = [];
  offset = 0;
})

abbrev short_block : Damage
short_block = record { kind = ShortBlock; id = 0xA3; offset = 61 }

abbrev truncated : Damage
truncated = record { kind = Truncated; id = 0xA3; offset = 61 }

abbrev plain : ℤ → ℕ → Placing
plain delay shift = record { delay = delay; shift = shift; default_duration = None; prefix = 0x0B ∷ [] }

-- a frame of twenty milliseconds
abbrev lasts : Placing
lasts = record { delay = pos 0; shift = 0; default_duration = Some 20000000; prefix = [] }

-- a track with its own timestamps
abbrev track : ℕ → List Event → Given
track number events = track_given (plain (pos 0) 0) number events

-- the same with a delay and an append offset
abbrev moved : ℤ → ℕ → List Event → Given
moved delay shift events = track_given (plain delay shift) 1 events

abbrev ticks : List OutputBlock → List ℕ
ticks blocks = map (λ (b : OutputBlock). b.tick) blocks

abbrev s1 : List Event
s1 = at_ms 1 0 ∷ at_ms 2 5 ∷ at_ms 1 20 ∷ []

-- a file that ends at its second block
abbrev cut : List Event
cut = at_ms 1 0 ∷ stopped truncated ∷ []

-- a file with two Clusters; the first is closed and ends with a bad block
abbrev holed : List Event
holed = at_ms 1 0 ∷ damaged short_block ∷ at_ms 1 40 ∷ at_ms 1 60 ∷ []

abbrev hello : Entry
hello = record { start = 1000000000; duration = 500000000; text = 0x48 ∷ 0x69 ∷ [] }

pub record AreLanes : Type 0 where
  -- Blocks of other tracks don't belong to the output track.
  pub own_track : ticks (lane_blocks 1000000 (track 1 s1 ∷ [])) ≡ 0 ∷ 20 ∷ []
  -- Blocks that a delay moves before the start are dropped.
  pub dropped : ticks (lane_blocks 1000000 (moved (negsuc 1499999999) 0 (map (at_ms 1) (0 ∷ 1000 ∷ 1500 ∷ 2000 ∷ [])) ∷ [])) ≡ 0 ∷ 500 ∷ []
  -- They are dropped before the append offset is added.
  pub dropped_first : ticks (lane_blocks 1000000 (moved (negsuc 9999999) 100000000 s1 ∷ [])) ≡ 110 ∷ []
  -- An appended file begins at the end of the previous one.
  pub appended : ticks (lane_blocks 1000000 (track 1 s1 ∷ moved (pos 0) (file_end (track 1 s1 ∷ [])) s1 ∷ [])) ≡ 0 ∷ 20 ∷ 20 ∷ 40 ∷ []
  -- A damage in a closed Cluster leaves out no later block, and no file.
  pub went_on : ticks (lane_blocks 1000000 (track 1 holed ∷ moved (pos 0) (file_end (track 1 holed ∷ [])) s1 ∷ [])) ≡ 0 ∷ 40 ∷ 60 ∷ 60 ∷ 80 ∷ []
  -- Files after one that isn't read to its end don't count.
  pub ended : ticks (lane_blocks 1000000 (track 1 cut ∷ track 1 s1 ∷ [])) ≡ 0 ∷ []
  pub damages : lane_damages (track 1 holed ∷ track 1 cut ∷ track 1 holed ∷ []) ≡ (short_block ∷ []) ∷ (truncated ∷ []) ∷ [] ∷ []
  pub frames : map (λ (b : OutputBlock). b.frames) (lane_blocks 1000000 (track 2 s1 ∷ [])) ≡ ((0x0B ∷ 0xAA ∷ []) ∷ []) ∷ []
  pub alone : lace_for ((0xAA ∷ []) ∷ []) lace.Xiph ≡ lace.None
  pub two : lace_for ((0xAA ∷ []) ∷ [] ∷ []) lace.Xiph ≡ lace.Xiph

lanes_hold : AreLanes
lanes_hold = record { own_track = refl; dropped = refl; dropped_first = refl; appended = refl; went_on = refl; ended = refl; damages = refl; frames = refl; alone = refl; two = refl }

-- ---- texts and ends

pub record AreEnds : Type 0 where
  -- An entry is one group.
  pub entry : lane_blocks 1000000 (text_given (pos 0) 0 (hello ∷ []) ∷ []) ≡ record {
    lane = 0;
    tick = 1000;
    key = true;
    invisible = false;
    discardable = false;
    group = true;
    lace = lace.None;
    frames = (0x48 ∷ 0x69 ∷ []) ∷ [];
    duration = Some 500;
    references = [];
    kept = [];
  } ∷ []
  -- A file without blocks on its output tracks ends at the start.
  pub none : file_end (track 3 s1 ∷ []) ≡ 0
  -- The end is the greatest of the ends on its output tracks, including a frame's default duration.
  pub greatest : file_end (track 1 s1 ∷ track_given lasts 2 s1 ∷ text_given (pos 0) 0 (hello ∷ []) ∷ []) ≡ 1500000000
  pub default_duration : file_end (track_given lasts 1 s1 ∷ []) ≡ 40000000
  -- A dropped block doesn't count.
  pub dropped : file_end (moved (negsuc 999999999) 0 s1 ∷ []) ≡ 0

ends_hold : AreEnds
ends_hold = record { entry = refl; none = refl; greatest = refl; default_duration = refl; dropped = refl }

-- ---- the merged list

-- the output track and the tick of each block
abbrev shown : List OutputBlock → List ℕ
shown blocks = map (λ (b : OutputBlock). b.lane * 1000 + b.tick) blocks

pub record AreMerged : Type 0 where
  -- Video in decoding order: 0, 80, 40; audio 0, 40, 80.
  pub reordered : shown (merged (lane_blocks 1000000 (track 1 (map (at_ms 1) (0 ∷ 80 ∷ 40 ∷ [])) ∷ []) ∷ lane_blocks 1000000 (track 2 (map (at_ms 2) (0 ∷ 40 ∷ 80 ∷ [])) ∷ []) ∷ []))
      ≡ 1000 ∷ 2000 ∷ 2040 ∷ 1080 ∷ 1040 ∷ 2080 ∷ []
  -- Two blocks with the same timestamp and track are both there.
  pub twice : shown (merged (lane_blocks 1000000 (track 1 (at_ms 1 20 ∷ at_ms 1 20 ∷ []) ∷ []) ∷ [])) ≡ 1020 ∷ 1020 ∷ []
  pub none : merged ([] ∷ [] ∷ []) ≡ []

merged_holds : AreMerged
merged_holds = record { reordered = refl; twice = refl; none = refl }
