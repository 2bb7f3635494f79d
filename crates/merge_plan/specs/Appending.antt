-- Check whether the tracks of an appended input can continue the output tracks of the previous one: RFC 9559, section 5.1.4 (Tracks Element). The
-- choice of Elements that must be equal is this project's.
use Rattle.std.specs.Prelude.{ℕ, ◌+◌, ◌==◌, if◌then◌else◌, List, [], ◌∷◌, length, Option, Some, None, option_map}
use Rattle.std.specs.Option.{option_or}
use Rattle.mkv_schema.specs.declared.ids.TheConstants.{TRACK_ENTRY}
use Rattle.track_records.specs.Difference.{first_difference}
use Rattle.merge_inputs.specs.Input.{InputRead}
use Rattle.merge_inputs.specs.declared.taken.TakenTrack.{TakenTrack}
use Rattle.merge_plan.specs.declared.appending.AppendDiffers.{AppendDiffers}
use Rattle.merge_plan.specs.Records.{is_appended}

-- the ID of the first Element in a track of the second list that differs from the track in the first at its index, or None. They are an appended
-- input's tracks, and the tracks that began the output tracks. Used for the refusal of a merge that appends inputs. Used by `differing`.
abbrev pub first_differing : List TakenTrack → List TakenTrack → Option ℕ
first_differing [] taken = None
first_differing (lane ∷ lanes) [] = None
first_differing (lane ∷ lanes) (t ∷ taken) = option_or (first_difference lane.track t.track) (first_differing lanes taken)

-- the ID of the first Element in the tracks `taken` of an appended input that differs from `lanes`, the tracks that began the output tracks, or None.
-- It is TrackEntry if their numbers differ. Used for the refusal of a merge that appends inputs.
abbrev pub differing : List TakenTrack → List TakenTrack → Option ℕ
differing lanes taken = if length lanes == length taken then first_differing lanes taken else Some TRACK_ENTRY

-- the ID of the first Element in the tracks of the input `i` that differs from `before`, the tracks that began the output tracks, or None. An input
-- that isn't appended has none. Used for the refusal of a merge that appends inputs.
abbrev pub difference_at : List TakenTrack → InputRead → Option ℕ
difference_at before i = if is_appended i then differing before i.taken else None

-- the tracks that begin the output tracks of the input `i`: its own, or `before`, the previous input's, if it is appended. The next input is compared
-- with them. Used by `differs_from`.
abbrev pub lane_tracks : List TakenTrack → InputRead → List TakenTrack
lane_tracks before i = if is_appended i then before else i.taken

-- the refusal because the appended input number `input`, counted from 0, differs in an Element with the ID `id`, as `append_refusal` returns it
abbrev pub differs_at : ℕ → ℕ → AppendDiffers
differs_at input id = record { input = input; id = id }

-- the refusal because of the first appended input in a list whose tracks can't continue the output tracks, or None. The first input of the list has
-- the number `input`, counted from 0, and the tracks `before` began the output tracks before the list. `append_refusal` uses it.
abbrev pub differs_from : List TakenTrack → ℕ → List InputRead → Option AppendDiffers
differs_from before input [] = None
differs_from before input (i ∷ is) = option_or (option_map (differs_at input) (difference_at before i)) (differs_from (lane_tracks before i) (input + 1) is)

-- the refusal of a merge of the inputs `reads` because of the first appended input whose tracks can't continue the output tracks of the previous one,
-- or None. The contract of `append_refusal` in the code, and of `prepare`, uses it.
abbrev pub append_refusal : List InputRead → Option AppendDiffers
append_refusal reads = differs_from [] 0 reads
