-- The tracks in the JSON of `merge -J`: RFC 9559, section 5.1.4 (Tracks Element). The keys are this project's.
use Rattle.std.specs.Prelude.{ℕ, ◌==◌, not, List, [], ◌∷◌, ◌++◌, Option, codes}
use Rattle.std.specs.Fmt.{decimal}
use Rattle.std.specs.Option.{option_map, option_and_then}
use Rattle.serde_json.specs.Data.{Data, boolean, string}
use Rattle.mkv_schema.specs.declared.ids.TheConstants.{FLAG_DEFAULT, FLAG_ENABLED, FLAG_FORCED, LANGUAGE_BCP47, NAME, PIXEL_HEIGHT, PIXEL_WIDTH, VIDEO}
use Rattle.tree_format.specs.Node.{Node}
use Rattle.tree_format.specs.Values.{first_child, integer_in, text_in, uint_in}
use Rattle.file_format.specs.TrackType.{type_name}
use Rattle.track_records.specs.declared.track.Track.{Track}
use Rattle.mkv_info.specs.Json.{Member, array_of, given, if_there, numbered, object_of, whole}
use Rattle.mkv_info.specs.Texts.{text_or_empty, unless_empty}

-- the flag with the ID `id` in the TrackEntry `entry`, as a JSON boolean, true unless its value is 0. If it is absent or empty, it is the default of
-- the Matroska table. `properties_of` has three of them.
abbrev pub flag : ℕ → Node → Data
flag id entry = boolean (not (uint_in id entry == 0))

-- `width` and `height`, both in pixels, as the text `WIDTHxHEIGHT` in the properties of a track. `pixels_in` uses it.
abbrev pub dimensions_text : ℕ → ℕ → List ℕ
dimensions_text width height = decimal width ++ (codes "x" ++ decimal height)

-- PixelWidth and PixelHeight of the Video `video`, as `WIDTHxHEIGHT`, or None unless both are present. `dimensions_of` uses it.
abbrev pub pixels_in : Node → Option (List ℕ)
pixels_in video = option_and_then (λ w. option_map (dimensions_text w) (integer_in PIXEL_HEIGHT video)) (integer_in PIXEL_WIDTH video)

-- PixelWidth and PixelHeight in the first Video of the TrackEntry `entry`, as `WIDTHxHEIGHT`, or None unless both are present. `properties_of` has
-- them.
abbrev pub dimensions_of : Node → Option (List ℕ)
dimensions_of entry = option_and_then pixels_in (first_child VIDEO entry)

-- the properties of the track `t` in `merge -J`: CodecID, DefaultDuration in nanoseconds, flags, language, LanguageBCP47, TrackNumber, pixels, Name
-- and TrackUID. Absent ones and an empty Name are left out; an absent TrackUID is 0. `track_value` has them.
abbrev pub properties_of : Track → List Member
properties_of t =
    given "codec_id" (string t.codec) ∷
    if_there "default_duration" (option_map whole t.default_duration) ∷
    given "default_track" (flag FLAG_DEFAULT t.entry) ∷
    given "enabled_track" (flag FLAG_ENABLED t.entry) ∷
    given "forced_track" (flag FLAG_FORCED t.entry) ∷
    given "language" (string t.language) ∷
    if_there "language_ietf" (option_map string (text_in LANGUAGE_BCP47 t.entry)) ∷
    given "number" (whole t.number) ∷
    if_there "pixel_dimensions" (option_map string (dimensions_of t.entry)) ∷
    if_there "track_name" (option_map string (unless_empty (text_or_empty NAME t.entry))) ∷
    given "uid" (whole t.uid) ∷
    []

-- the object of the track `t`, which has the index `id`, from 0, an item of `tracks_value`: CodecID, index, properties, and the name of its TrackType
abbrev pub track_value : ℕ → Track → Data
track_value id t = object_of (
    given "codec" (string t.codec) ∷
    given "id" (whole id) ∷
    given "properties" (object_of (properties_of t)) ∷
    given "type" (string (type_name t.kind)) ∷
    [])

-- the value of the key `tracks` of `merge -J`: the tracks `list` in their order in the file, numbered from 0
abbrev pub tracks_value : List Track → Data
tracks_value list = array_of (numbered (λ id t. track_value id t ∷ []) 0 list)
