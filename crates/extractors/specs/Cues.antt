-- The outputs of an extraction of cue points: RFC 9559, section 5.1.5 (Cues Element).
use Rattle.std.specs.Prelude.{ℕ, List, [], ◌∷◌, Option, Some, None, slice_get, Result}
use Rattle.std.specs.List.{flat_map}
use Rattle.requests.specs.declared.job.Target.{Target}
use Rattle.mkv_outputs.specs.Outputs.{Output}
use Rattle.tree_format.specs.Node.{Node}
use Rattle.file_format.specs.Entry.{number_of}
use Rattle.extractors.specs.Lines.{cue_lines}
use Rattle.extractors.specs.Source.{entries_in}
use Rattle.extractors.specs.Whole.{AreWritten, output}
use Rattle.extractors.specs.declared.source.Source.{Source}
use Rattle.meta_records.specs.Records.{scale_of_info}
use Rattle.mkv_io.specs.declared.files.Files.{Ghosts}

-- the text that `extract` writes of the cue points of the track with the TrackNumber `track` in the first Cues of a file, at `scale` nanoseconds per
-- tick. It is empty without a Cues (None).
abbrev pub cues_text : ℕ → ℕ → Option Node → List ℕ
cues_text scale track None = []
cues_text scale track (Some cues) = cue_lines scale track cues

-- the output of the target `t` for the track with the given TrackEntry, the last argument, in a file with the Cues `cues` and `scale` nanoseconds per
-- tick. There is none without an entry (None). Used by `cues_outputs` and `WritesTrackCues`.
abbrev pub cues_output : ℕ → Option Node → Target → Option Node → List Output
cues_output scale cues t None = []
cues_output scale cues t (Some entry) = output t.name (cues_text scale (number_of entry) cues) ∷ []

-- the outputs of an extraction of cue points from `cues`, the first Cues, at `scale` nanoseconds per tick, in the order of `targets`. `entries` has
-- the TrackEntries of the file; a target names one by its index from 0. Used by `WritesCues` and `cues_taken`.
abbrev pub cues_outputs : ℕ → Option Node → List Target → List Node → List Output
cues_outputs scale cues targets entries = flat_map (λ (t : Target). cues_output scale cues t (slice_get entries t.id)) targets

-- ---- the effects of the calls

-- A call of `write_track_cues` has written the output of the target `t` from the source `s`; `old` and `new` are the states before and after. After
-- success the output is complete. It is absent if the source has no such track. After a failure it may have only a first part. No other name changes.
-- `f` gives the proof's view of the files. `result` is what the call returned.
abbrev pub WritesTrackCues : {S T E : Type 0} → Ghosts S → Source → Target → S → S → Result T E → Type 0
WritesTrackCues f s t old new result =
    AreWritten (f.names old) (f.names new) (cues_output (scale_of_info s.info) s.cues t (slice_get (entries_in s) t.id)) result

-- A call of `write_cues` has written the outputs of `targets` from the source `s`; `old` and `new` are the states before and after. After success
-- they are complete. After a failure some first outputs exist, each with a first part of its content. No other name changes. `f` gives the proof's
-- view of the files. `result` is what the call returned.
abbrev pub WritesCues : {S T E : Type 0} → Ghosts S → Source → List Target → S → S → Result T E → Type 0
WritesCues f s targets old new result = AreWritten (f.names old) (f.names new) (cues_outputs (scale_of_info s.info) s.cues targets (entries_in s)) result
