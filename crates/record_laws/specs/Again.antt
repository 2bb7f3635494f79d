-- Tracks that were written and read are written as they were: RFC 9559, section 5.1.4 (Tracks Element). This is this project's promise.
use Rattle.std.specs.Prelude.{◌≡◌, ◌<◌, ◌^◌, ℕ, ◌+◌, Bool, true, false, List, [], ◌∷◌, map, All, None}
use Rattle.tree_format.specs.Node.{Node, nodes_of, list_of, children, IsMaster}
use Rattle.mkv_schema.specs.declared.ids.TheConstants.{CONTENT_ENCODINGS}
use Rattle.tree_format.specs.Changes.{part}
use Rattle.tree_format.specs.NormalForm.{octets}
use Rattle.tree_format.specs.Standing.{placed, placed_all}
use Rattle.file_format.specs.Entry.{uid_of}
use Rattle.record_changes.specs.Identifiers.{renumbered}
use Rattle.track_records.specs.declared.track_change.FlagChange.{FlagChange}
use Rattle.track_records.specs.declared.track_change.TrackChange.{TrackChange}
use Rattle.track_records.specs.Entry.{written_entry, IsWholeEntry}

-- a change of no flag of a track, as a merge without options has it. `plain` has it.
abbrev pub flags_stay : FlagChange
flags_stay = record {
  enabled = None;
  hearing_impaired = None;
  visual_impaired = None;
  text_descriptions = None;
  original = None;
  commentary = None;
}

-- a change of a track that gives only the number `number` and the identifier `uid`, as a merge without options makes it. The law `entries_stay` uses
-- it.
abbrev pub plain : ℕ → ℕ → TrackChange
plain number uid = record {
  number = number;
  uid = uid;
  name = None;
  language = None;
  language_tag = None;
  flag_default = None;
  flag_forced = None;
  flags = flags_stay;
}

-- An entry `entry` that was written with any change `c`, and read at any offset `place`, is written as it was. The second change gives only the same
-- number and identifier, and the frames are taken as they are stored (`stored`) both times or never. It is the law `entries_stay`.
abbrev pub EntriesStay : Type 0
EntriesStay =
    (c : TrackChange) (stored : Bool) (entry : Node) (place : ℕ) → IsMaster entry
    → octets (written_entry (plain c.number c.uid) stored (placed place (written_entry c stored entry))) ≡ octets (written_entry c stored entry)

-- An entry `entry` whose frames are taken as they are stored is written with any change `c` with its own ContentEncodings, all of them. It is the law
-- `encodings_stay`.
abbrev pub EncodingsStay : Type 0
EncodingsStay =
    (c : TrackChange) (entry : Node) → IsMaster entry → part CONTENT_ENCODINGS (children (written_entry c true entry)) ≡ part CONTENT_ENCODINGS (children entry)

-- ---- all tracks

-- the written entries of `entries`, each with its change; no frames are taken as they are stored. `TracksStay` compares them with the ones of a second merge.
abbrev pub written_entries : List TrackChange → List Node → List Node
written_entries [] entries = []
written_entries (c ∷ cs) [] = []
written_entries (c ∷ cs) (entry ∷ entries) = written_entry c false entry ∷ written_entries cs entries

-- changes that number tracks from `n` on, and give them only the identifiers `uids`, as a merge without options makes them. Used by `AreNumbered` and
-- `merged_again`.
abbrev pub plain_changes : ℕ → List ℕ → List TrackChange
plain_changes n [] = []
plain_changes n (uid ∷ uids) = plain n uid ∷ plain_changes (n + 1) uids

-- The changes `changes` number tracks from `n` on, and give them the identifiers `uids`. The changes of a merge are so, as the law `tracks_stay`
-- requires.
abbrev pub AreNumbered : ℕ → List ℕ → List TrackChange → Type 0
AreNumbered n uids changes = (map (λ c. c.uid) changes ≡ uids) × (map (λ c. c.number) changes ≡ map (λ c. c.number) (plain_changes n uids))

-- the Elements `ns` as they are read if they are written from the offset `place` on. Laws of a second merge read an output so.
abbrev pub read_of : ℕ → List Node → List Node
read_of place ns = list_of (placed_all place (nodes_of ns))

-- the entries `entries` after a merge without options: numbers from 1 on, and the identifiers renumbered. The law `tracks_stay` uses it.
abbrev pub merged_again : List Node → List Node
merged_again entries = written_entries (plain_changes 1 (renumbered (map uid_of entries))) entries

-- The tracks `entries` of an output are written as they were after they are read at the offset `place`. They were numbered and renumbered, and given
-- anything else by `changes`. It is the law `tracks_stay`.
abbrev pub TracksStay : Type 0
TracksStay =
    (changes : List TrackChange) (entries : List Node) (place : ℕ) → All IsWholeEntry entries → All (λ c. c.uid < 2 ^ 64) changes
    → AreNumbered 1 (renumbered (map uid_of entries)) changes
    → map octets (merged_again (read_of place (written_entries changes entries))) ≡ map octets (written_entries changes entries)
