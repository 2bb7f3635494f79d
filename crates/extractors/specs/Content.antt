-- The content of an output, made of the blocks of its track: RFC 9559, section 10 (Cluster Blocks). The forms of codecs are defined by their own
-- standards.
use Rattle.std.specs.Prelude.{ℕ, ◌+◌, min, List, [], ◌∷◌, ◌++◌, map, Option, Some, unwrap_or}
use Rattle.mkv_io.specs.Faults.{last_count}
use Rattle.text_formats.specs.Writing.{put_srt}
use Rattle.block_format.specs.Block.{Block}
use Rattle.mkv_outputs.specs.Outputs.{Output}
use Rattle.extractors.specs.Frames.{Frame, frames_of}
use Rattle.extractors.specs.Times.{time_line}
use Rattle.elementary.specs.Avc.{annex_b}
use Rattle.elementary.specs.Aac.{adts}
use Rattle.elementary.specs.Pgs.{pgs}
use Rattle.extractors.specs.declared.frame_form.FrameForm.{FrameForm}
use Rattle.extractors.specs.declared.frame_form.FrameForm.TheVariants as form
use Rattle.extractors.specs.declared.track_output.TrackOutput.{TrackOutput}

-- the number that `extract` writes for frame `n` of a track, counted from 1: past 2^64 - 1 it stays at that number
abbrev pub counted : ℕ → ℕ
counted n = min n last_count

-- the frame `f` as it was before header stripping: `prefix`, the bytes that were removed, and the frame's bytes in the block. `extract` writes it so.
abbrev pub whole : List ℕ → Frame → List ℕ
whole prefix f = prefix ++ f.octets

-- the bytes that `extract` writes for frame number `n` of a track, counted from 1, in the given form. `octets` is the frame with the bytes that were
-- removed from its start; `f` has its time and duration. A bad frame has none (None).
abbrev pub written_of : FrameForm → ℕ → Frame → List ℕ → Option (List ℕ)
written_of form.Plain n f octets = Some octets
written_of form.SubRip n f octets = Some (put_srt (counted n) f.time f.duration octets)
written_of (form.AnnexB w) n f octets = annex_b w octets
written_of (form.Adts aac) n f octets = adts aac octets
written_of form.Pgs n f octets = pgs f.time octets
written_of form.Time n f octets = Some (time_line f.time)

-- the bytes that are added to the output `o` of an extraction for the frame `f`, number `n` of its track, counted from 1; none for a bad frame. Used
-- by `entries_from` and `AddsFrame`.
abbrev pub entry_of : TrackOutput → ℕ → Frame → List ℕ
entry_of o n f = unwrap_or (written_of o.form n f (whole o.prefix f)) []

-- the bytes that are added to the output `o` of an extraction for the given frames in sequence; the first has number `n` in its track, counted from
-- 1. Used by `entries_of`, `piece` and others.
abbrev pub entries_from : TrackOutput → ℕ → List Frame → List ℕ
entries_from o n [] = []
entries_from o n (f ∷ fs) = entry_of o n f ++ entries_from o (n + 1) fs

-- the bytes that are added to the output `o` of an extraction for `frames`, all frames of its track, numbered from 1; for `content_of`
abbrev pub entries_of : TrackOutput → List Frame → List ℕ
entries_of o frames = entries_from o 1 frames

-- the whole content of the output `o` of an extraction, if the file has `blocks`: the bytes before the first frame, and then the frames of its track.
-- Used by `output_of` and `OutputsHoldTheGoodFrames`.
abbrev pub content_of : TrackOutput → List Block → List ℕ
content_of o blocks = o.head ++ entries_of o (frames_of o.step o.track blocks)

-- the complete output `o` of an extraction with its name, if the file has `blocks`. Used by `outputs_of`.
abbrev pub output_of : TrackOutput → List Block → Output
output_of o blocks = record { name = o.name; content = content_of o blocks }

-- the complete outputs `list` of an extraction, in this order, if the file has `blocks`. Used by `make_all`, `HaveBlocks` and others.
abbrev pub outputs_of : List TrackOutput → List Block → List Output
outputs_of list blocks = map (λ (o : TrackOutput). output_of o blocks) list

-- the names of the files of the outputs in `list`, which an extraction may write. Used by `extract`, `write_tracks` and others.
abbrev pub names_in : List TrackOutput → List (List ℕ)
names_in list = map (λ (o : TrackOutput). o.name) list
