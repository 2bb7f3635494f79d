-- The TrackEntries of a file: RFC 9559, section 5.1.4 (Tracks Element).
use Rattle.std.specs.Prelude.{◌≡◌, ℕ, List, [], Option, Some, None, Result, Ok}
use Rattle.mkv_schema.specs.declared.ids.TheConstants.{TRACKS}
use Rattle.mkv_io.specs.declared.damage.Damage.{Damage}
use Rattle.mkv_schema.specs.declared.element.Header.{Header}
use Rattle.mkv_schema.specs.Outline.{segment_run}
use Rattle.mkv_io.specs.Results.{and_then, unless}
use Rattle.mkv_schema.specs.Value.{body_of, first_of}
use Rattle.tree_format.specs.declared.limits.TheConstants.{MAX_NODES}
use Rattle.tree_format.specs.Node.{Node}
use Rattle.tree_format.specs.Reading.{tree_of}
use Rattle.tree_format.specs.Order.{tree_without_limits}
use Rattle.file_format.specs.Entry.{entries_of}
use Rattle.file_format.specs.Refusal.{refusal_of}

-- the Tracks with the header `h` in the content `bytes` as a tree, or the first damage in it, for a reader with limits. `file_entries` uses it.
abbrev pub tracks_tree : List ℕ → Header → Result Node Damage
tracks_tree bytes h = tree_of h.id h.offset (body_of bytes h) h.body MAX_NODES

-- the Tracks with the header `h` in the content `bytes` as a tree, or the first damage in it, for a reader without limits. `entries_without_limits`
-- uses it.
abbrev pub tracks_without_limits : List ℕ → Header → Result Node Damage
tracks_without_limits bytes h = tree_without_limits h.id h.offset (body_of bytes h) h.body

-- the TrackEntries of the Tracks `tracks`, or the damage that refuses them. `entries_at` uses it.
abbrev pub entries_in : Node → Result (List Node) Damage
entries_in tracks = unless (refusal_of tracks) (entries_of tracks)

-- the TrackEntries of the Tracks with the given header, which `read` reads, or none if there is no Tracks. The result is the first damage if it can't
-- be read. `file_entries` and `entries_without_limits` use it.
abbrev pub entries_at : (Header → Result Node Damage) → Option Header → Result (List Node) Damage
entries_at read None = Ok []
entries_at read (Some h) = and_then (read h) entries_in

-- the TrackEntries of the first Tracks of the content `bytes` with the Segment header `segment`, or its damage, for a reader with limits. There are
-- none without a Tracks. Used by the law `limits_change_no_entry`.
unfoldable pub file_entries : List ℕ → Header → Result (List Node) Damage
file_entries bytes segment = entries_at (tracks_tree bytes) (first_of TRACKS (segment_run bytes segment).list)

-- the TrackEntries of the first Tracks of the content `bytes` with the Segment header `segment`, or its damage. The reader has no limits on Elements
-- and nested masters. Compared with `file_entries`.
unfoldable pub entries_without_limits : List ℕ → Header → Result (List Node) Damage
entries_without_limits bytes segment = entries_at (tracks_without_limits bytes) (first_of TRACKS (segment_run bytes segment).list)

-- If a reader with limits finds TrackEntries in the content `bytes` with the Segment header `segment`, a reader without limits finds the same ones,
-- `entries`. The law `limits_change_no_entry` states it.
abbrev pub LimitsChangeNoEntry : Type 0
LimitsChangeNoEntry =
    (bytes : List ℕ) (segment : Header) (entries : List Node) → file_entries bytes segment ≡ Ok entries
    → entries_without_limits bytes segment ≡ Ok entries
