-- Inputs with the timestamps of timestamp files. The way is this project's.
use Rattle.std.specs.Prelude.{◌≡◌, ℕ, suc, ◌==◌, if◌then◌else◌, List, [], ◌∷◌, flat_map, map}
use Rattle.ext_times.specs.Listing.{Listing}
use Rattle.input_files.specs.declared.times_file.TimesFile.{TimesFile}
use Rattle.merge_inputs.specs.Input.{InputRead}
use Rattle.merge_inputs.specs.declared.input.Input.{Input}
use Rattle.merge_plan.specs.Records.{is_appended}
use Rattle.mkv_merge.specs.Texts.{given_listing, with_listings}
use Rattle.mkv_merge.specs.declared.texts.SharedTimes.{SharedTimes}

-- the timestamps that a timestamp file lists: number of the input, counted from 0, ID of the track, and timestamps. Used by the contracts of the
-- functions that share timestamps among output tracks.
pub record Listed : Type 0 where
  pub input : ℕ
  pub id : ℕ
  pub times : Listing

-- the timestamps `s` that output tracks share in the code, as a plain value. For the contract of `shared`.
abbrev pub listed_of : SharedTimes → Listed
listed_of s = record { input = s.input; id = s.id; times = s.times.value }

-- the timestamps `pair.1` for the track with the ID `pair.0` of the input number `input`; both are counted from 0. For `listed_by`, when `merge`
-- applies its text files.
abbrev pub given_listed : ℕ → ℕ × Listing → Listed
given_listed input pair = record { input = input; id = pair.0; times = pair.1 }

-- the timestamps that the timestamp file `f` lists, if it was read. The contract of `share` states it.
abbrev pub listed_by : TimesFile → List Listed
listed_by f = map (given_listed f.named.input) (given_listing f.named.id f.given)

-- the timestamps that the timestamp files `files` list, if they were read. The contract of `shared` states it.
abbrev pub listed_in : List TimesFile → List Listed
listed_in files = flat_map listed_by files

-- the timestamps `l` with the ID of their track, if they are for the input number `input`, counted from 0. The contract of `add_at` states it.
abbrev pub at_input : ℕ → Listed → List (ℕ × Listing)
at_input input l = if l.input == input then (l.id, l.times) ∷ [] else []

-- the timestamps in `shared` that are for the input number `input`, counted from 0, each with the ID of its track. The contract of `times_at` states
-- it.
abbrev pub shared_at : ℕ → List SharedTimes → List (ℕ × Listing)
shared_at input shared = flat_map (λ (s : SharedTimes). at_input input (listed_of s)) shared

-- the timestamps in `shared` that are for `i`, the input number `input`, counted from 0; an appended input gets none and keeps its own. The contract
-- of `times_for` states it.
abbrev pub shared_for : ℕ → List SharedTimes → InputRead → List (ℕ × Listing)
shared_for input shared i = if is_appended i then [] else shared_at input shared

-- the inputs from the number `input`, counted from 0, onwards, each with the timestamps in `shared` that are for it. The contract of `timed` states
-- it.
abbrev pub shared_from : List SharedTimes → ℕ → List InputRead → List InputRead
shared_from shared input [] = []
shared_from shared input (i ∷ is) = with_listings (shared_at input shared) i ∷ shared_from shared (suc input) is

-- the input `i` without timestamps of timestamp files. Used by `IsSameBut`, when `merge` applies its text files.
abbrev pub untimed : Input → Input
untimed i = record i { times = [] }

-- The inputs `new` are `inputs`, except for the timestamps of timestamp files. The contracts of `timed` and `with_times` state it.
abbrev pub IsSameBut : List Input → List Input → Type 0
IsSameBut inputs new = map untimed new ≡ map untimed inputs
