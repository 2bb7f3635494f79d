-- A small merge, split in several ways, and names of parts. They are computed: a wrong definition doesn't check.
use Rattle.std.proofs.Common.{◌≡◌, ℕ, ◌+◌, ◌*◌, ◌-◌, Bool, true, false, List, [], ◌∷◌, Some, None, refl}
use Rattle.std.specs.Prelude.{codes}
use Rattle.std.specs.Fmt.{digits}
use Rattle.lacing.specs.declared.kind.Lace.TheVariants as lace
use Rattle.output_model.specs.OutputBlock.{OutputBlock}
use Rattle.requests.specs.declared.split.SpanWords.{SpanWords}
use Rattle.splitter.specs.declared.spec.SplitSpec.{SplitSpec}
use Rattle.splitter.specs.declared.spec.SplitSpec.TheVariants.{Whole, Duration, Times, Parts}
use Rattle.splitter.specs.Names.{is_part_name, part_name}
use Rattle.splitter.specs.Sections.{Part, Split, parts}
use Rattle.splitter.specs.Split.{is_driver}

-- ---- a merge

abbrev block : ℕ → ℕ → Bool → OutputBlock
block lane tick key = record {
  lane = lane;
  tick = tick;
  key = key;
  invisible = false;
  discardable = false;
  group = false;
  lace = lace.Xiph;
  frames = (0xAA ∷ []) ∷ [];
  duration = None;
  references = [];
  kept = [];
}

-- blocks of the video track, with some keyframes, and of the audio track, with only keyframes
abbrev video : ℕ → Bool → OutputBlock
video tick key = block 1 tick key

abbrev audio : ℕ → OutputBlock
audio tick = block 2 tick true

abbrev blocks : List OutputBlock
blocks =
    video 0 true ∷ (audio 0 ∷ (audio 500 ∷ (video 1000 false ∷ (audio 1000 ∷ (audio 1500 ∷ (video 2000 true ∷ (video 1960 false ∷ (audio 2000 ∷ (audio 2500 ∷ (video 3000 false ∷ (audio 3000 ∷ [])))))))))))

-- a split with ticks of a millisecond
abbrev at : SplitSpec → List Bool → Split
at spec videos = record { spec = spec; size = None; scale = 1000000; drives = λ lane. is_driver videos (lane - 1) }

abbrev seconds : ℕ → ℕ
seconds n = n * 1000000000

abbrev between : ℕ → ℕ → SpanWords
between start end = record { start = seconds start; end = Some (seconds end) }

-- ---- parts of the merge

abbrev first : List OutputBlock
first = video 0 true ∷ (audio 0 ∷ (audio 500 ∷ (video 1000 false ∷ (audio 1000 ∷ (audio 1500 ∷ [])))))

-- A block before the start of its part is at 0.
abbrev second : List OutputBlock
second = video 0 true ∷ (video 0 false ∷ (audio 0 ∷ (audio 500 ∷ (video 1000 false ∷ (audio 1000 ∷ [])))))

abbrev both : List Part
both = record { start = 0; end = Some 2000; blocks = first } ∷ (record { start = 2000; end = None; blocks = second } ∷ [])

-- the parts if the first track is video
abbrev video_parts : SplitSpec → List Part
video_parts spec = parts (at spec (true ∷ (false ∷ []))) blocks

pub record AreSplit : Type 0 where
  -- The next keyframe is at 2 seconds.
  pub timestamp : video_parts (Times (seconds 1 ∷ [])) ≡ both
  -- The time 0 has no effect, and one block passes all times before it.
  pub timestamps : video_parts (Times (0 ∷ (seconds 1 ∷ (seconds 2 ∷ [])))) ≡ both
  pub duration : video_parts (Duration (seconds 1)) ≡ both
  pub stretches : video_parts (Parts (between 0 1 ∷ (between 2 3 ∷ []))) ≡ both
  -- If one cut passes several bounds, the last one decides.
  pub last_bound : video_parts (Parts (between 0 1 ∷ (record { start = seconds 1 + 500000000; end = None } ∷ []))) ≡ both
  -- A cut that passes both bounds begins a section that isn't written.
  pub past_both : video_parts (Parts (between 1 2 ∷ [])) ≡ []
  -- Adjacent spans are two parts.
  pub touching : video_parts (Parts (between 0 2 ∷ (between 2 3 ∷ []))) ≡ both
  pub not_split : video_parts Whole ≡ record { start = 0; end = None; blocks = blocks } ∷ []

are_split : AreSplit
are_split = record { timestamp = refl; timestamps = refl; duration = refl; stretches = refl; last_bound = refl; past_both = refl; touching = refl; not_split = refl }

-- ---- each track drives, or nothing is before a cut

abbrev audio_parts : SplitSpec → List OutputBlock → List Part
audio_parts spec list = parts (at spec (false ∷ [])) list

abbrev lone : ℕ → ℕ → Part
lone start tick = record { start = start; end = None; blocks = block 1 tick true ∷ [] }

pub record AreLone : Type 0 where
  -- A cut before the first block makes no part.
  pub cut_before : audio_parts (Times (seconds 1 ∷ [])) (block 1 1500 true ∷ []) ≡ lone 1500 0 ∷ []
  pub not_cut : audio_parts (Times (seconds 2 ∷ [])) (block 1 1500 true ∷ []) ≡ lone 0 1500 ∷ []
  pub each : audio_parts (Duration (seconds 1)) (block 1 0 true ∷ (block 1 1000 true ∷ [])) ≡ record { start = 0; end = Some 1000; blocks = block 1 0 true ∷ [] } ∷ (lone 1000 0 ∷ [])
  -- The section at the start is a part even without blocks.
  pub no_blocks : audio_parts (Duration (seconds 1)) [] ≡ record { start = 0; end = None; blocks = [] } ∷ []
  pub none_kept : audio_parts (Parts (between 1 2 ∷ [])) [] ≡ []
  -- A section that isn't written ends the part before it.
  pub left_out : audio_parts (Parts (between 0 1 ∷ [])) (block 1 0 true ∷ (block 1 1000 true ∷ [])) ≡ record { start = 0; end = Some 1000; blocks = block 1 0 true ∷ [] } ∷ []

are_lone : AreLone
are_lone = record { cut_before = refl; not_cut = refl; each = refl; no_blocks = refl; none_kept = refl; left_out = refl }

-- ---- names

pub record AreNamed : Type 0 where
  pub first : part_name (codes "o.mkv") 1 ≡ codes "o-001.mkv"
  pub thousand : part_name (codes "o.mkv") 1000 ≡ codes "o-1000.mkv"
  pub in_folder : part_name (codes "a.b/o") 12 ≡ codes "a.b/o-012"
  pub two_points : part_name (codes "o.a.mkv") 2 ≡ codes "o.a-002.mkv"
  pub input : is_part_name (codes "s.mkv") (codes "s-001.mkv") ≡ true
  pub long_number : is_part_name (codes "s.mkv") (codes "s-0001.mkv") ≡ true
  pub short_number : is_part_name (codes "s.mkv") (codes "s-01.mkv") ≡ false
  pub other_end : is_part_name (codes "s.mkv") (codes "s-001.mka") ≡ false
  pub no_number : is_part_name (codes "s.mkv") (codes "s-a01.mkv") ≡ false

are_named : AreNamed
unfolding digits
are_named = record { first = refl; thousand = refl; in_folder = refl; two_points = refl; input = refl; long_number = refl; short_number = refl; other_end = refl; no_number = refl }
