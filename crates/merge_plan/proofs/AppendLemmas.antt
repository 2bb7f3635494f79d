-- Tracks that can or can't continue output tracks.
use Rattle.std.proofs.Common.{◌≡◌, ◌≤◌, ◌<◌, ℕ, ◌+◌, List, length, drop, map, get_or, Option, None, ap, ap₂, ◌∙◌, arith}
use Rattle.std.specs.Option.{option_map, option_or}
use Rattle.std.proofs.lemmas.List.{drop_all}
use Rattle.track_records.specs.Difference.{first_difference}
use Rattle.merge_inputs.specs.Input.{read_in}
use Rattle.merge_inputs.specs.declared.input.Input.{Input}
use Rattle.merge_inputs.specs.declared.taken.TakenTrack.{TakenTrack}
use Rattle.merge_plan.specs.Appending.{difference_at, differs_at, differs_from, first_differing, lane_tracks}
use Rattle.merge_plan.proofs.ListLemmas.{drop-next}

-- ---- track after track

module _ (lanes taken : List TakenTrack) (k : ℕ) (lane t : TakenTrack) (many : length lanes ≡ length taken) (inside : k < length lanes) (is : lane ≡ get_or lanes k lane) (at : t ≡ get_or taken k t) where
  pub track-next : (d : Option ℕ) → first_difference lane.track t.track ≡ d → first_differing (drop k lanes) (drop k taken) ≡ option_or d (first_differing (drop (k + 1) lanes) (drop (k + 1) taken))
  track-next d differs =
      ap₂ first_differing (drop-next lanes k lane inside is) (drop-next taken k t (omega arith) at)
      ∙ ap (λ o. option_or o (first_differing (drop (k + 1) lanes) (drop (k + 1) taken))) differs

pub track-none : (lanes taken : List TakenTrack) (k : ℕ) → length lanes ≤ k → first_differing (drop k lanes) (drop k taken) ≡ None
track-none lanes taken k past = ap (λ l. first_differing l (drop k taken)) (drop_all k lanes past)

-- ---- input after input

module _ (before : List TakenTrack) (inputs : List Input) (k : ℕ) (i : Input) (inside : k < length inputs) (is : i ≡ get_or inputs k i) where
  pub input-differs : (d : Option ℕ) → difference_at before (read_in i) ≡ d
      → differs_from before k (map read_in (drop k inputs)) ≡ option_or (option_map (differs_at k) d) (differs_from (lane_tracks before (read_in i)) (k + 1) (map read_in (drop (k + 1) inputs)))
  input-differs d differs =
      ap (λ l. differs_from before k (map read_in l)) (drop-next inputs k i inside is)
      ∙ ap (λ o. option_or (option_map (differs_at k) o) (differs_from (lane_tracks before (read_in i)) (k + 1) (map read_in (drop (k + 1) inputs)))) differs

pub input-none : (before : List TakenTrack) (inputs : List Input) (k : ℕ) → length inputs ≤ k → differs_from before k (map read_in (drop k inputs)) ≡ None
input-none before inputs k past = ap (λ l. differs_from before k (map read_in l)) (drop_all k inputs past)
