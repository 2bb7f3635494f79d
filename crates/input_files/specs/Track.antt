-- The track that a SubRip file has in a merge: RFC 9559, section 5.1.4 (Tracks). Its values are this project's choice.
use Rattle.std.specs.Prelude.{[], ◌∷◌, codes}
use Rattle.mkv_schema.specs.declared.ids.TheConstants.{TRACK_ENTRY, TRACK_NUMBER, TRACK_UID, TRACK_TYPE, FLAG_LACING, LANGUAGE, CODEC_ID}
use Rattle.mkv_schema.specs.declared.track_type.TheConstants.{SUBTITLE_TRACK}
use Rattle.tree_format.specs.Node.{Node, leaf, master, nodes_of}
use Rattle.tree_format.specs.Children.{uint_leaf}

-- the TrackEntry of a SubRip file: subtitles of unknown language, without lacing, with TrackUID 0 until the merge gives one. `merge` reads such a
-- file as if it had this track.
abbrev pub text_entry : Node
text_entry = master TRACK_ENTRY 0 (nodes_of (
    uint_leaf TRACK_NUMBER 1 ∷ uint_leaf TRACK_UID 0 ∷ uint_leaf TRACK_TYPE SUBTITLE_TRACK ∷ uint_leaf FLAG_LACING 0
    ∷ leaf LANGUAGE 0 (codes "und") ∷ leaf CODEC_ID 0 (codes "S_TEXT/UTF8") ∷ []))
