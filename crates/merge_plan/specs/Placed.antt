-- Inputs that were placed.
use Rattle.std.specs.Prelude.{◌≡◌, ℕ, ◌+◌, List, [], ◌∷◌, map}
use Rattle.std.specs.List.{All}
use Rattle.mkv_io.specs.LiveFiles.{LiveFiles}
use Rattle.merge_inputs.specs.Input.{IsInput}
use Rattle.merge_inputs.specs.declared.input.Input.{Input}
use Rattle.merge_plan.specs.Places.{in_place}
use Rattle.merge_plan.specs.Planned.{IsToldInput, source_in}
use Rattle.merge_plan.specs.TakenTracks.{HasPlace}
use Rattle.merge_plan.specs.Behind.{walked_for, walked_of}

-- The inputs `placed` are `inputs`, except that each appended one begins at the end of the previous one. This holds if the contents of their files,
-- which are live in `f`, are visible to the proof. Used by the contract of `assign_append_offsets`.
abbrev pub StandInPlace : LiveFiles → List Input → List Input → Type 0
StandInPlace f inputs placed = All (IsToldInput f) inputs → map (source_in f) placed ≡ in_place (map (source_in f) inputs)

-- The inputs `placed`, whose append offsets were found, are valid and read from the same live files in `f` as `inputs`. No append offset exceeds the
-- limit of a link. Used by the contract of `assign_append_offsets`.
pub record ArePlaced (f : LiveFiles) (inputs placed : List Input) : Type 0 where
  pub good : All (IsInput f) placed
  pub files : map (λ (i : Input). i.file) placed ≡ map (λ (i : Input). i.file) inputs
  pub places : All HasPlace placed

-- the total number of bytes that are walked over to find the append offsets of a list of inputs. `before` is the number for the input before the
-- list, and `f` are the live files. Only inputs before an appended one count, and texts don't. `walked_length` uses it.
abbrev pub walked_behind : LiveFiles → ℕ → List Input → ℕ
walked_behind f before [] = 0
walked_behind f before (i ∷ is) = walked_for i.shift before + walked_behind f (walked_of f i) is

-- the total number of bytes that are walked over to find the append offsets of `inputs`, among the live files `f`. The contract of
-- `assign_append_offsets` allows to read twice as many.
abbrev pub walked_length : LiveFiles → List Input → ℕ
walked_length f inputs = walked_behind f 0 inputs
