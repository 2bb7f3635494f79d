-- The damage that refuses a Tracks Element: RFC 9559, section 5.1.4 (Tracks Element). The kinds, their order and the limits are this project's.
use Rattle.std.specs.Prelude.{ℕ, ◌==◌, ◌^◌, nat_le, Bool, ◌&&◌, ◌||◌, List, [], ◌∷◌, length, map, find, take, slice_get, slice_index, Option, is_none}
use Rattle.std.specs.Option.{option_map, option_and_then}
use Rattle.std.specs.List.{list_any, range_with_len}
use Rattle.mkv_schema.specs.declared.ids.TheConstants.{TRACK_ENTRY, TRACK_NUMBER, TRACK_TYPE, CODEC_ID, DEFAULT_DURATION}
use Rattle.mkv_io.specs.declared.damage.Damage.{Damage}
use Rattle.mkv_io.specs.declared.damage.Kind.TheVariants.{BadValue, MissingChild, RepeatedTrack, TooMany}
use Rattle.mkv_schema.specs.Element.{damage}
use Rattle.mkv_schema.specs.Outline.{first_damage}
use Rattle.tree_format.specs.Node.{Node, id_of, offset_of, children}
use Rattle.tree_format.specs.Changes.{without}
use Rattle.tree_format.specs.Values.{first_child, integer_of}
use Rattle.file_format.specs.Entry.{entries_of, number_of}

-- ---- one entry

-- the first Element with each ID in the given children of a TrackEntry, which gives the value. `bad_value` uses them.
abbrev pub firsts : List Node → List Node
firsts [] = []
firsts (n ∷ ns) = n ∷ without (id_of n) (firsts ns)

-- the smallest DefaultDuration that is refused, in nanoseconds. Readers of tracks refuse a Tracks with one. `is_bad` uses it.
abbrev pub too_long : ℕ
too_long = 2 ^ 48

-- The child `n` of a TrackEntry is a TrackNumber of 0, or a DefaultDuration that is too long. `bad_value` uses it.
abbrev pub is_bad : Node → Bool
is_bad n = (id_of n == TRACK_NUMBER && integer_of n == 0) || (id_of n == DEFAULT_DURATION && nat_le too_long (integer_of n))

-- the damage of the first bad value of the TrackEntry `entry`, or None. The first check of `causes`.
abbrev pub bad_value : Node → Option Damage
bad_value entry = option_map (λ n. damage BadValue (id_of n) (offset_of n)) (find is_bad (firsts (children entry)))

-- the IDs of the children that a TrackEntry must have, in the order of the checks. `missing_child` uses them.
abbrev pub mandatory : List ℕ
mandatory = TRACK_NUMBER ∷ TRACK_TYPE ∷ CODEC_ID ∷ []

-- the damage of the TrackEntry `entry` if it lacks a mandatory child, at its own offset, or None. The second check of `causes`.
abbrev pub missing_child : Node → Option Damage
missing_child entry = option_map (λ id. damage MissingChild id (offset_of entry)) (find (λ id. is_none (first_child id entry)) mandatory)

-- ---- all entries

-- the damage that `cause` gives for the first of the TrackEntries `entries` that has one, or None. `causes` uses it.
abbrev pub first_in : (Node → Option Damage) → List Node → Option Damage
first_in cause entries = first_damage (map cause entries)

-- the damage that `told` gives for the offset of the TrackEntry at the index `k` of `entries`, counted from 0, if there is one. `repeated_number` and
-- `too_many` use it.
abbrev pub told_at : List Node → (ℕ → Damage) → ℕ → Option Damage
told_at entries told k = option_map (λ entry. told (offset_of entry)) (slice_get entries k)

-- The number at the index `k` of `numbers`, counted from 0, is among the numbers before it. `first_repeated` uses it.
abbrev pub is_repeated : List ℕ → ℕ → Bool
is_repeated numbers k = list_any (λ n. n == slice_index numbers k) (take k numbers)

-- the smallest index in `numbers`, counted from 0, whose number is among the numbers before it, if there is one. `repeated_number` uses it.
abbrev pub first_repeated : List ℕ → Option ℕ
first_repeated numbers = find (is_repeated numbers) (range_with_len 0 (length numbers))

-- the damage of the first of the TrackEntries `entries` with the TrackNumber of an earlier one, or None. The third check of `causes`.
abbrev pub repeated_number : List Node → Option Damage
repeated_number entries = option_and_then (told_at entries (damage RepeatedTrack TRACK_NUMBER)) (first_repeated (map number_of entries))

-- the maximum number of TrackEntries in a file that is read. A Tracks with more is refused. `too_many` uses it.
abbrev pub most_tracks : ℕ
most_tracks = 1024

-- the damage of the first of the TrackEntries `entries` after the maximum number, or None. The last check of `causes`.
abbrev pub too_many : List Node → Option Damage
too_many entries = told_at entries (damage TooMany TRACK_ENTRY) most_tracks

-- the possible damage of the TrackEntries `entries`, in the order of the checks. `refusal_of` takes the first.
abbrev pub causes : List Node → List (Option Damage)
causes entries =
    first_in bad_value entries ∷
    first_in missing_child entries ∷
    repeated_number entries ∷
    too_many entries ∷
    []

-- the damage that refuses the Tracks `tracks`, if there is any. `read_tracks` refuses a Tracks because of it. Used by `entries_in`.
abbrev pub refusal_of : Node → Option Damage
refusal_of tracks = first_damage (causes (entries_of tracks))
