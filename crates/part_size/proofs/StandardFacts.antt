-- Small merges that are cut by their load. They are computed: a wrong definition doesn't check.
use Rattle.std.proofs.Common.{◌≡◌, ℕ, Bool, true, false, List, [], ◌∷◌, Some, None, refl}
use Rattle.ebml_numbers.specs.Number.{least_size_width, uint_width}
use Rattle.lacing.specs.declared.kind.Lace.TheVariants as lace
use Rattle.output_model.specs.OutputBlock.{OutputBlock}
use Rattle.cluster_writer.specs.Lengths.{octets_taken}
use Rattle.splitter.specs.Sections.{Part, parts}
use Rattle.part_size.specs.Laws.{by_size}

-- a block of one byte, with the SimpleBlock A3 85 81 00 00 80 AA
abbrev block : ℕ → Bool → OutputBlock
block tick key = record {
  lane = 1;
  tick = tick;
  key = key;
  invisible = false;
  discardable = false;
  group = false;
  lace = lace.None;
  frames = (0xAA ∷ []) ∷ [];
  duration = None;
  references = [];
  kept = [];
}

-- the parts if each track drives
abbrev parts_by : ℕ → List OutputBlock → List Part
parts_by limit blocks = parts (by_size limit 1000000 (λ lane. true)) blocks

-- two keyframes
abbrev two : List OutputBlock
two = block 0 true ∷ (block 20 true ∷ [])

-- three blocks, the second of them not a keyframe
abbrev three : List OutputBlock
three = block 0 true ∷ (block 20 false ∷ (block 40 true ∷ []))

abbrev only : ℕ → List OutputBlock → Part
only start blocks = record { start = start; end = None; blocks = blocks }

pub record AreCut : Type 0 where
  pub octets : octets_taken (block 0 true) ≡ 7
  -- A part of 7 bytes has reached 7.
  pub reached : parts_by 7 two ≡ record { start = 0; end = Some 20; blocks = block 0 true ∷ [] } ∷ (only 20 (block 0 true ∷ []) ∷ [])
  pub not_reached : parts_by 8 two ≡ only 0 two ∷ []
  -- A part goes on past the limit if there is no possible cut.
  pub past : parts_by 7 three ≡ record { start = 0; end = Some 40; blocks = block 0 true ∷ (block 20 false ∷ []) } ∷ (only 40 (block 0 true ∷ []) ∷ [])
  pub none : parts_by 7 [] ≡ only 0 [] ∷ []
  -- A part that starts after the next one ends at its own start.
  pub behind : parts_by 7 (block 0 true ∷ (block 40 true ∷ (block 20 true ∷ []))) ≡ record { start = 0; end = Some 40; blocks = block 0 true ∷ [] } ∷ (record { start = 40; end = Some 40; blocks = block 0 true ∷ [] } ∷ (only 20 (block 0 true ∷ []) ∷ []))

are_cut : AreCut
unfolding uint_width least_size_width
are_cut = record { octets = refl; reached = refl; not_reached = refl; past = refl; none = refl; behind = refl }
