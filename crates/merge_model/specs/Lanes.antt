-- An output track, which has its blocks from one input or from several in sequence. This is this project's choice; blocks are defined by RFC 9559,
-- section 10 (Cluster Blocks).
use Rattle.std.specs.Prelude.{ℕ, if◌then◌else◌, List, [], ◌∷◌, ◌++◌, map}
use Rattle.mkv_io.specs.declared.damage.Damage.{Damage}
use Rattle.output_model.specs.OutputBlock.{OutputBlock}
use Rattle.merge_model.specs.Links.{Given, given_blocks}

-- the blocks of an output track with the given sources, in sequence, in an output of `scale` nanoseconds per tick. Sources after one that stops don't
-- count. Used by `lanes_over`.
abbrev pub lane_blocks : ℕ → List Given → List OutputBlock
lane_blocks scale [] = []
lane_blocks scale (g ∷ gs) = given_blocks scale g ++ (if g.stops then [] else lane_blocks scale gs)

-- the damage that `merge` reports of each given source of an output track, in their order. Sources after one that stops aren't read, so they have
-- none.
abbrev pub lane_damages : List Given → List (List Damage)
lane_damages [] = []
lane_damages (g ∷ gs) = g.damages ∷ (if g.stops then map (λ _. []) gs else lane_damages gs)
