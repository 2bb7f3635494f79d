-- Some of the blocks, computed: a wrong definition doesn't check.
use Rattle.std.proofs.Common.{◌≡◌, ℕ, true, false, [], ◌∷◌, length, map, refl}
use Rattle.output_model.specs.OutputBlock.{OutputBlock}
use Rattle.merge_model.specs.Merged.{merged}
use Rattle.mkv_generate.specs.Blocks.{blocks_of, picture, sound}
use Rattle.mkv_generate.specs.declared.blocks.MediaKind.TheVariants.{Pictures, Sounds}

abbrev place : OutputBlock → ℕ × ℕ
place b = (b.lane, b.tick)

pub record AreMade : Type 0 where
  pub first_picture : (picture 0).frames ≡ (0 ∷ 1 ∷ 2 ∷ 3 ∷ 4 ∷ 5 ∷ 6 ∷ 7 ∷ []) ∷ []
  pub sizes : map (λ i. map length (picture i).frames) (1 ∷ 2 ∷ 3 ∷ []) ≡ (45 ∷ []) ∷ (82 ∷ []) ∷ (18 ∷ []) ∷ []
  pub keys : map (λ i. (picture i).key) (0 ∷ 1 ∷ 24 ∷ 25 ∷ []) ≡ true ∷ false ∷ false ∷ true ∷ []
  pub lace : (sound 0).frames ≡ (0 ∷ 1 ∷ 2 ∷ 3 ∷ []) ∷ (4 ∷ 5 ∷ 6 ∷ 7 ∷ 8 ∷ 9 ∷ []) ∷ []
  pub alone : (sound 86).frames ≡ (2 ∷ 3 ∷ 4 ∷ 5 ∷ 6 ∷ []) ∷ []
  pub wraps : (sound 85).frames ≡ (255 ∷ 0 ∷ 1 ∷ 2 ∷ 3 ∷ []) ∷ []
  pub order : map place (merged (blocks_of Pictures 2 ∷ blocks_of Sounds 2 ∷ [])) ≡ (1, 0) ∷ (2, 0) ∷ (2, 20) ∷ (1, 40) ∷ (2, 40) ∷ (2, 60) ∷ []

are_made : AreMade
are_made = record { first_picture = refl; sizes = refl; keys = refl; lace = refl; alone = refl; wraps = refl; order = refl }
