-- The test of a merge whether a track may be appended to another: RFC 9559, section 5.1.4 (Tracks). The compared fields are this project's choice.
use Rattle.std.specs.Prelude.{ℕ, Bool, true, false, not, if◌then◌else◌, List, Option, Some, None, find}
use Rattle.std.specs.Option.{option_map, option_and_then, option_or}
use Rattle.std.specs.Str.{bytes_eq}
use Rattle.mkv_schema.specs.declared.ids.TheConstants.{CONTENT_ENCODINGS}
use Rattle.tree_format.specs.Node.{Node, body_of}
use Rattle.tree_format.specs.Values.{first_child}
use Rattle.track_records.specs.declared.fields.Field.{Field}
use Rattle.track_records.specs.declared.fields.TheConstants.{FIELDS}
use Rattle.track_records.specs.declared.track.Track.{Track}
use Rattle.track_records.specs.Same.{is_same}

-- the first Element with the ID `id` in the TrackEntry `entry`: a child of the entry, or of its first master with the given ID; None if there is
-- none. Fields of an appended track are found so. Used by `octets_at`.
abbrev pub in_master : Option ℕ → ℕ → Node → Option Node
in_master None id entry = first_child id entry
in_master (Some master) id entry = option_and_then (λ m. first_child id m) (first_child master entry)

-- the data of the first Element of `field` in the TrackEntry `entry`, or None if it is absent. `first_difference` compares it.
abbrev pub octets_at : Field → Node → Option (List ℕ)
octets_at field entry = option_map body_of (in_master field.master field.id entry)

-- Both values of a field are absent, or equal. `first_difference` compares two tracks with it.
abbrev pub are_alike : Option (List ℕ) → Option (List ℕ) → Bool
are_alike None None = true
are_alike None (Some q) = false
are_alike (Some p) None = false
are_alike (Some p) (Some q) = bytes_eq p q

-- the ID of the first field that differs between the TrackEntries `a` and `b`, or None if all are alike. The fields are TrackType, CodecID,
-- CodecPrivate, PixelWidth, PixelHeight, Channels and SamplingFrequency. `first_difference` begins with it.
abbrev pub field_difference : Node → Node → Option ℕ
field_difference a b = option_map (λ f. f.id) (find (λ f. not (are_alike (octets_at f a) (octets_at f b))) FIELDS)

-- the first ContentEncodings of `track` if its frames are taken as they are stored, and None otherwise. An output keeps it. `encodings_difference`
-- compares it.
abbrev pub kept_encodings : Track → Option Node
kept_encodings track = if track.stored then first_child CONTENT_ENCODINGS track.entry else None

-- Two tracks keep no ContentEncodings, or the same: what each keeps is given. `encodings_difference` compares them with it.
abbrev pub are_kept_alike : Option Node → Option Node → Bool
are_kept_alike None None = true
are_kept_alike None (Some q) = false
are_kept_alike (Some p) None = false
are_kept_alike (Some p) (Some q) = is_same p q

-- the ID of ContentEncodings unless the tracks `a` and `b` keep the same or none. `first_difference` ends with it.
abbrev pub encodings_difference : Track → Track → Option ℕ
encodings_difference a b = if are_kept_alike (kept_encodings a) (kept_encodings b) then None else Some CONTENT_ENCODINGS

-- the ID of the first field that differs between the tracks `a` and `b`, or None if `b` may be appended to `a`. The ContentEncodings that an output
-- keeps are the last field. The contract of `differs` promises it.
abbrev pub first_difference : Track → Track → Option ℕ
first_difference a b = option_or (field_difference a.entry b.entry) (encodings_difference a b)
