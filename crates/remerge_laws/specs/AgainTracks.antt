-- The tracks of an output that is merged by itself: RFC 9559, section 5.1.4 (Tracks Element). This is this project's promise.
use Rattle.std.specs.Prelude.{◌≡◌, ◌<◌, ◌^◌, ℕ, true, false, List, length, map, All, None}
use Rattle.mkv_schema.specs.declared.ids.TheConstants.{CONTENT_ENCODINGS, TRACKS}
use Rattle.tree_format.specs.Node.{Node, master, nodes_of}
use Rattle.tree_format.specs.NormalForm.{octets}
use Rattle.tree_format.specs.Values.{first_child}
use Rattle.file_format.specs.Entry.{entries_of, number_of, type_of, uid_of}
use Rattle.output_model.specs.Sound.{CountFrom}
use Rattle.track_records.specs.declared.track.Track.{Track}
use Rattle.merge_inputs.specs.Taken.{IsTaken, taken_from}
use Rattle.merge_inputs.specs.declared.taken.TakenTrack.{TakenTrack}
use Rattle.merge_plan.specs.Plan.{rule_of, default_rule}
use Rattle.merge_plan.specs.Records.{uids_of}
use Rattle.merge_plan.specs.Records.{entries_of as entries_given}
use Rattle.merge_laws.specs.Sources.{is_taken_type}
use Rattle.remerge_laws.specs.AgainLanes.{IsTakenPlain}
use Rattle.requests.specs.Plain.{plain_file}
use Rattle.remerge_laws.specs.Records.{AreTracksOf}

-- The entries of the Tracks Element `tracks` are plain. Their TrackNumbers count from 1, a merge can select their types, and none has
-- ContentEncodings. A condition of the laws on tracks that are merged again.
pub record ArePlainTracks (tracks : Node) : Type 0 where
  pub numbers : CountFrom 1 (map number_of (entries_of tracks))
  pub types : All (λ (entry : Node). is_taken_type (type_of entry) ≡ true) (entries_of tracks)
  pub plain : All (λ (entry : Node). first_child CONTENT_ENCODINGS entry ≡ None) (entries_of tracks)

-- The selected tracks `taken` belong to the entries of the Tracks Element `tracks`, one to each, in order. They are plain, with the numbers and
-- identifiers of the entries, and their types decide on cue points. It is the result of `TracksAreTakenAgain`.
pub record AreTakenOf (tracks : Node) (taken : List TakenTrack) : Type 0 where
  pub many : length taken ≡ length (entries_of tracks)
  pub numbers : CountFrom 1 (map (λ (t : TakenTrack). t.track.number) taken)
  pub uids : map (λ (t : TakenTrack). t.track.uid) taken ≡ map uid_of (entries_of tracks)
  pub plain : All IsTakenPlain taken
  pub rules : map rule_of taken ≡ map (λ (entry : Node). default_rule (type_of entry)) (entries_of tracks)

-- All tracks `read` from a plain Tracks Element `tracks` are selected by a merge of the file `name` without options. The law `tracks_are_taken_again`
-- states it.
abbrev pub TracksAreTakenAgain : Type 0
TracksAreTakenAgain =
    (name : List ℕ) (tracks : Node) (read : List Track) → ArePlainTracks tracks → AreTracksOf tracks read
    → AreTakenOf tracks (taken_from (plain_file name) 0 read)

-- A merge of the selected tracks `taken`, none of them taken as it is stored, wrote TrackEntries, which are read from the file `name` as `read`. If
-- they are plain and have identifiers of 64 bits, a merge of `name` without options writes them as they were. The law `entries_are_written_again`
-- states it.
abbrev pub EntriesAreWrittenAgain : Type 0
EntriesAreWrittenAgain =
    (name : List ℕ) (taken : List TakenTrack) (read : List Track) → All IsTaken taken → All (λ (t : TakenTrack). t.track.stored ≡ false) taken → All (λ n. n < 2 ^ 64) (uids_of taken)
    → ArePlainTracks (master TRACKS 0 (nodes_of (entries_given taken))) → AreTracksOf (master TRACKS 0 (nodes_of (entries_given taken))) read
    → map octets (entries_given (taken_from (plain_file name) 0 read)) ≡ map octets (entries_given taken)
