-- TrackEntries that are read, and the differences between two: RFC 9559, section 5.1.4 (Tracks Element).
use Rattle.std.specs.Prelude.{◌≡◌, ◌<◌, ◌↔◌, true, All, None}
use Rattle.mkv_schema.specs.declared.ids.TheConstants.{TRACKS}
use Rattle.tree_format.specs.Node.{Node, nodes_of, children, depth_all, deepest}
use Rattle.tree_format.specs.NormalForm.{octets}
use Rattle.tree_format.specs.Standing.{StandsIn, IsSoundOf}
use Rattle.file_format.specs.Entry.{entries_of}
use Rattle.track_records.specs.declared.fields.TheConstants.{FIELDS}
use Rattle.track_records.specs.declared.track.Track.{Track}
use Rattle.track_records.specs.Entry.{IsWholeEntry}
use Rattle.track_records.specs.Same.{is_same}
use Rattle.track_records.specs.Difference.{octets_at, are_kept_alike, kept_encodings, first_difference}

-- The entries of a Tracks Element `tracks` that was read are valid, and each valid entry may be in one. It is the law `read_entries_are_whole`.
pub record ReadEntriesAreWhole : Type 0 where
  pub read : (tracks : Node) → IsSoundOf TRACKS tracks → depth_all (nodes_of (children tracks)) < deepest → All IsWholeEntry (entries_of tracks)
  pub stands : (entry : Node) → IsWholeEntry entry → StandsIn TRACKS entry

-- Two tracks `a` and `b` have no first difference exactly if they have the same bytes in every field that appended tracks must share, and what they
-- keep of ContentEncodings is alike. It is the law `differences_are_told`.
abbrev pub DifferencesAreTold : Type 0
DifferencesAreTold =
    (a b : Track)
    → (first_difference a b ≡ None) ↔ (All (λ f. octets_at f a.entry ≡ octets_at f b.entry) FIELDS × (are_kept_alike (kept_encodings a) (kept_encodings b) ≡ true))

-- Two Elements `a` and `b` that are the same, as kept ContentEncodings are compared, are written as the same bytes. It is the law
-- `same_elements_are_written_alike`.
abbrev pub SameElementsAreWrittenAlike : Type 0
SameElementsAreWrittenAlike = (a b : Node) → is_same a b ≡ true → octets a ≡ octets b
