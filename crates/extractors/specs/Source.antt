-- A file to extract from, and the outputs of a job for it. The choice is this project's.
use Rattle.std.specs.Prelude.{◌≡◌, ℕ, List, map, None, IfSome, slice_get}
use Rattle.std.specs.List.{All}
use Rattle.mkv_io.specs.Sources.{IsLive, file_size}
use Rattle.mkv_io.specs.declared.reads.Reads.{Ghosts}
use Rattle.mkv_schema.specs.declared.ids.TheConstants.{CHAPTERS, CUES}
use Rattle.requests.specs.declared.job.Target.{Target}
use Rattle.mkv_schema.specs.Outline.{first_damage}
use Rattle.tree_format.specs.Node.{Node}
use Rattle.tree_format.specs.Standing.{IsSoundOf}
use Rattle.file_format.specs.Encoding.{usable_causes}
use Rattle.track_records.specs.declared.track.Track.{Track}
use Rattle.meta_records.specs.Walk.{IsAttachedIn}
use Rattle.meta_records.specs.Records.{AreRead, IsGoodInfo, scale_of_info}
use Rattle.block_format.specs.Elements.{with_limits}
use Rattle.block_format.specs.Events.{Event, events_of}
use Rattle.extractors.specs.declared.source.Source.{Source}

-- the TrackEntry of the track `t` that was read from a file to extract from. Used by `job_outputs` and others.
abbrev pub entry_in : Track → Node
entry_in t = t.entry

-- the TrackEntries of the source `s` of an extraction, in the order of its Tracks; targets name them by index. Used by `WritesTrackCues`,
-- `WritesCues` and others.
abbrev pub entries_in : Source → List Node
entries_in s = map entry_in s.tracks

-- the blocks and the damaged places of the source `s` of an extraction in file order, if its file has the content `bytes`; for `WritesTaken` and
-- `TellsTaken`
abbrev pub events_in : Source → List ℕ → List Event
events_in s bytes = events_of (with_limits (scale_of_info s.info)) bytes s.outline.segment

-- ---- requirements of a source

-- The source `s` was read from its file. In the state `files` the file is open and has the length of the outline, and each record of `s` is valid.
-- Each extraction requires it.
pub record IsSource {S : Type 0} (r : Ghosts S) (files : S) (s : Source) : Type 0 where
  pub live : IsLive r files s.file
  pub whole : s.outline.total ≡ file_size r files s.file
  pub info : IfSome s.info IsGoodInfo
  pub tracks : AreRead s.tracks
  pub attachments : All (IsAttachedIn s.file s.outline.total) s.attachments
  pub chapters : IfSome s.chapters (IsSoundOf CHAPTERS)
  pub cues : IfSome s.cues (IsSoundOf CUES)

-- The frames of the track with the TrackEntry `entry` can be used by `extract`: nothing prevents their decoding, such as an unsupported compression.
abbrev pub IsUsable : Node → Type 0
IsUsable entry = first_damage (usable_causes entry) ≡ None

-- The frames of the tracks that `targets` name can be used, as `extract` requires; `entries` has the TrackEntries of the file. A target whose track
-- is missing is fine.
abbrev pub AreUsableOf : List Node → List Target → Type 0
AreUsableOf entries targets = All (λ (t : Target). IfSome (slice_get entries t.id) IsUsable) targets

-- The frames of the tracks that `targets` name in the source `s` can be used, as `extract` requires. A target whose track is missing is fine.
abbrev pub AreUsable : Source → List Target → Type 0
AreUsable s targets = AreUsableOf (entries_in s) targets
