-- The counts of tags of a file, and of each of its tracks, in the JSON of `merge -J`: RFC 9559, section 5.1.8 (Tags Element). The keys are this
-- project's.
use Rattle.std.specs.Prelude.{ℕ, ◌==◌, Bool, true, not, if◌then◌else◌, List, [], ◌∷◌, filter, flat_map, length, map, Option, Some, None}
use Rattle.std.specs.List.{list_any}
use Rattle.serde_json.specs.Data.{Data}
use Rattle.mkv_schema.specs.declared.ids.TheConstants.{SIMPLE_TAG, TAG, TAG_TRACK_UID, TARGETS}
use Rattle.tree_format.specs.Node.{Node, children}
use Rattle.tree_format.specs.Changes.{part}
use Rattle.tree_format.specs.Values.{integer_of}
use Rattle.track_records.specs.declared.track.Track as tracks
use Rattle.mkv_info.specs.declared.tags.Scope.{Scope}
use Rattle.mkv_info.specs.declared.tags.Scope.TheVariants.{Global, Track}
use Rattle.mkv_info.specs.Json.{array_of, given, numbered, object_of, whole}

-- the TrackUIDs that `ns`, the children of a Targets, name; a TagTrackUID of 0 names no track. `named_in` uses it.
abbrev pub named_among : List Node → List ℕ
named_among ns = filter (λ uid. not (uid == 0)) (map integer_of (part TAG_TRACK_UID ns))

-- the TrackUIDs that the Targets `targets` names. Tags of a track are counted by them. Used by `add_named`, `names_in` and others.
abbrev pub named_in : Node → List ℕ
named_in targets = named_among (children targets)

-- the TrackUIDs that the Tag `tag` names in all its Targets, possibly more than once. Tags are counted by them. Used by `names`, `uids_named` and
-- others.
abbrev pub tracks_named : Node → List ℕ
tracks_named tag = flat_map named_in (part TARGETS (children tag))

-- The Tag `tag` is counted in a scope: it names no track, or it names the track with the TrackUID of the scope. The contract of the function with
-- this name promises it.
abbrev pub is_counted : Scope → Node → Bool
is_counted Global tag = not (list_any (λ own. true) (tracks_named tag))
is_counted (Track uid) tag = list_any (λ own. own == uid) (tracks_named tag)

-- the SimpleTags directly in the Tags of `ns` that are counted in `scope`, each once; `ns` has the children of a Tags. `tag_count` has their number.
abbrev pub simple_tags : Scope → List Node → List Node
simple_tags scope ns = flat_map (λ t. part SIMPLE_TAG (children t)) (filter (is_counted scope) (part TAG ns))

-- the number of SimpleTags directly in the Tags that are counted in `scope`, or 0 if the file has no Tags. Counts in `merge -J` are this.
abbrev pub tag_count : Scope → Option Node → ℕ
tag_count scope None = 0
tag_count scope (Some tags) = length (simple_tags scope (children tags))

-- the object for `count` SimpleTags of the track with index `id`, from 0, in the key `track_tags`. `track_tags` uses it.
abbrev pub counted_tags : ℕ → ℕ → Data
counted_tags count id = object_of (given "num_entries" (whole count) ∷ given "track_id" (whole id) ∷ [])

-- the object for the SimpleTags in `tags` of the track `t`, which has the index `id`, from 0, as a list; empty if it has none. `track_tags_value`
-- joins them.
abbrev pub track_tags : Option Node → ℕ → tracks.Track → List Data
track_tags tags id t =
    if tag_count (Track t.uid) tags == 0 then [] else counted_tags (tag_count (Track t.uid) tags) id ∷ []

-- the value of the key `track_tags` of `merge -J`: the counts in `tags` for all of `tracks` that have SimpleTags, with their index from 0
abbrev pub track_tags_value : Option Node → List tracks.Track → Data
track_tags_value tags tracks = array_of (numbered (track_tags tags) 0 tracks)
