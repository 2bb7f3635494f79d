-- The tracks of a file that the command line of a merge chooses (RFC 9559, section 5.1.4, Tracks), and the other kept parts.
use Rattle.std.specs.Prelude.{ℕ, ◌==◌, Bool, true, false, not, ◌&&◌, ◌||◌, if◌then◌else◌, List, [], Option, Some, None, option_map}
use Rattle.tree_format.specs.Node.{Node}
use Rattle.record_changes.specs.Statistics.{without_statistics}
use Rattle.std.specs.List.{list_any}
use Rattle.record_changes.specs.declared.uid_map.TagKeep.{TagKeep}
use Rattle.requests.specs.declared.track.Select.{Select}
use Rattle.requests.specs.declared.track.Select.TheVariants.{All, These, AllBut, Off}
use Rattle.requests.specs.declared.merge.FileWords.{FileWords}
use Rattle.mkv_schema.specs.declared.track_type.TheConstants.{VIDEO_TRACK, AUDIO_TRACK, SUBTITLE_TRACK}

-- ---- tracks

-- The track ID `id`, counted from 0, is in the list `ids` of an option such as `-a`. Used by `takes`.
abbrev pub is_among : ℕ → List ℕ → Bool
is_among id ids = list_any (λ k. k == id) ids

-- The given value of an option for one type of tracks, such as `-a`, selects the track with the ID `id`, counted from 0. Used by `is_taken`.
abbrev pub takes : Select → ℕ → Bool
takes All id = true
takes (These ids) id = is_among id ids
takes (AllBut ids) id = not (is_among id ids)
takes Off id = false

-- The options `words` of an input of `merge` select the track with the ID `id`, counted from 0, and the TrackType `type`. Only video, audio and
-- subtitle tracks can be selected.
abbrev pub is_taken : FileWords → ℕ → ℕ → Bool
is_taken words id type =
    if type == VIDEO_TRACK then takes words.video id else
    if type == AUDIO_TRACK then takes words.audio id else
    if type == SUBTITLE_TRACK then takes words.subtitles id else
    false

-- ---- other kept parts

-- Attached files of an input of `merge` are kept, unless its options `words` leave them out or the output is WebM (the second argument, `webm`).
abbrev pub keeps_attachments : FileWords → Bool → Bool
keeps_attachments words webm = words.attachments && not webm

-- Chapters of an input of `merge` are kept, unless its options `words` leave them out or the output is WebM (the second argument, `webm`).
abbrev pub keeps_chapters : FileWords → Bool → Bool
keeps_chapters words webm = words.chapters && not webm

-- Some Tags of an input of `merge` with the options `words` are kept: Tags of tracks, or others.
abbrev pub keeps_tags : FileWords → Bool
keeps_tags words = words.track_tags || words.global_tags

-- the choice of Tags that the options `words` of an input of `merge` make: Tags of tracks, and others
abbrev pub keep_of : FileWords → TagKeep
keep_of words = record { tracks = words.track_tags; global = words.global_tags }

-- the append offset of an input of `merge` in nanoseconds before it is known: 0 if `words` appends it to the previous input, and None otherwise
abbrev pub unmoved : FileWords → Option ℕ
unmoved words = if words.appended then Some 0 else None

-- the attached files `list` of an input, if they are kept (`true`), and otherwise an empty list; for `input_with` and the contract of `kept_files`
abbrev pub kept_list : {T : Type 0} → Bool → List T → List T
kept_list true list = list
kept_list false list = []

-- the Chapters or Tags `one` of an input, if there is one and it is kept (`true`), and otherwise None. Used by `kept_tree`, `input_with` and others.
abbrev pub kept_one : {T : Type 0} → Bool → Option T → Option T
kept_one true one = one
kept_one false one = None

-- the Tags `tags` of an input of `merge` if its options `words` keep some, or None. They lack the statistics if the options leave the statistics out.
abbrev pub kept_tags : FileWords → Option Node → Option Node
kept_tags words tags =
    if words.statistics then kept_one (keeps_tags words) tags
    else option_map without_statistics (kept_one (keeps_tags words) tags)
