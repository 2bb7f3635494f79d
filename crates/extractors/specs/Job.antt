-- The outputs of an extraction for the tracks of a file: RFC 9559, section 5.1.4 (Tracks Element). A job is the extraction that a command line asks
-- for.
use Rattle.std.specs.Prelude.{◌≤◌, ⊤, ℕ, Bool, true, false, List, [], ◌∷◌, map, Option, Some, None, Result, Ok, Err, option_map, slice_get, unwrap_or}
use Rattle.std.specs.List.{All, find, flat_map}
use Rattle.std.specs.Option.{option_map_or}
use Rattle.mkv_io.specs.Names.{AreApart}
use Rattle.mkv_io.specs.Results.{unless}
use Rattle.requests.specs.declared.job.Job.{Job}
use Rattle.requests.specs.declared.job.Job.TheVariants as jobs
use Rattle.requests.specs.declared.job.Form.{Form}
use Rattle.requests.specs.declared.job.Target.{Target}
use Rattle.tree_format.specs.Node.{Node}
use Rattle.file_format.specs.Entry.{default_duration_of, number_of}
use Rattle.file_format.specs.Encoding.{prefix_of}
use Rattle.extractors.specs.Codec.{coding_of}
use Rattle.extractors.specs.declared.frame_form.Coding.{Coding}
use Rattle.extractors.specs.declared.frame_form.Refusal.{Refusal}
use Rattle.extractors.specs.declared.frame_form.UnsupportedTrack.{UnsupportedTrack}
use Rattle.extractors.specs.declared.frame_form.UnsupportedTrack.TheVariants.{NoExtractor, BadConfig}
use Rattle.extractors.specs.declared.track_output.TrackOutput.{TrackOutput}

-- the form of the frames that the given job of `extract` writes; None if it extracts attached files, cue points or chapters
abbrev pub form_of : Job → Option Form
form_of (jobs.Tracks form list) = Some form
form_of (jobs.Attachments list) = None
form_of (jobs.Cues list) = None
form_of (jobs.Chapters name) = None

-- the targets of the given job of `extract` that name tracks, each an index from 0 with the name of its output
abbrev pub targets_of : Job → List Target
targets_of (jobs.Tracks form list) = list
targets_of (jobs.Attachments list) = []
targets_of (jobs.Cues list) = list
targets_of (jobs.Chapters name) = []

-- the names of the files that `targets` of an extraction are written to, in their order; for `names_for`
abbrev pub names_of : List Target → List (List ℕ)
names_of targets = map (λ (t : Target). t.name) targets

-- the names of all files that the given job of `extract` may write, in order
abbrev pub names_for : Job → List (List ℕ)
names_for (jobs.Tracks form list) = names_of list
names_for (jobs.Attachments list) = names_of list
names_for (jobs.Cues list) = names_of list
names_for (jobs.Chapters name) = name ∷ []

-- If the given job of `extract` extracts attached files, each of its targets has a number of at least 1. The parser of the command line promises it.
abbrev pub AreNumbered : Job → Type 0
AreNumbered (jobs.Tracks form list) = ⊤
AreNumbered (jobs.Attachments list) = All (λ (t : Target). 1 ≤ t.id) list
AreNumbered (jobs.Cues list) = ⊤
AreNumbered (jobs.Chapters name) = ⊤

-- The job `job` may be done by `extract`, which requires it: the files that it writes have different names, and its attached files are numbered from
-- 1.
pub record CanBeDone (job : Job) : Type 0 where
  pub apart : AreApart (names_for job)
  pub numbers : AreNumbered job

-- The track with the given coding, the second argument, can't be written by `extract`, for the reason `why`.
abbrev pub is_unfit : UnsupportedTrack → Result Coding UnsupportedTrack → Bool
is_unfit why (Ok coding) = false
is_unfit NoExtractor (Err NoExtractor) = true
is_unfit NoExtractor (Err BadConfig) = false
is_unfit BadConfig (Err NoExtractor) = false
is_unfit BadConfig (Err BadConfig) = true

-- The track of the target `t` of `extract`, by its index in the TrackEntries `entries`, can't be written in the form `kind`, for the reason `why`. A
-- track that is missing isn't refused.
abbrev pub names_unfit : UnsupportedTrack → Form → List Node → Target → Bool
names_unfit why kind entries t = option_map_or (λ entry. is_unfit why (coding_of kind entry)) (slice_get entries t.id) false

-- the index, from 0, of the track of the first of `targets` that can't be written in the form `kind`, for the reason `why`, or None; for the refusal
-- of a job. `entries` has the TrackEntries of the file. Used by `refusal_taken`.
abbrev pub first_unfit : UnsupportedTrack → Form → List Target → List Node → Option ℕ
first_unfit why kind targets entries = option_map (λ (t : Target). t.id) (find (names_unfit why kind entries) targets)

-- the refusal of a job of `extract` for the track with the index `track`, from 0, which can't be written for the reason `why`. Used by `refusal_of`.
abbrev pub refusal : UnsupportedTrack → ℕ → Refusal
refusal why track = record { why = why; track = track }

-- The refusal of a job of `extract`: for the first track whose codec has no form, the first argument, or else for the first with a bad configuration
-- (`bad_config`). Both are indexes of tracks, from 0, or None without such a track.
abbrev pub refusal_of : Option ℕ → Option ℕ → Option Refusal
refusal_of (Some track) bad_config = Some (refusal NoExtractor track)
refusal_of None (Some track) = Some (refusal BadConfig track)
refusal_of None None = None

-- the output of `extract` with the name `name` for the track with the TrackEntry `entry`, in the coding `coding`. Its prefix has the bytes that
-- header stripping removed.
abbrev pub output_with : List ℕ → Node → Coding → TrackOutput
output_with name entry coding = record {
  name = name;
  track = number_of entry;
  step = unwrap_or (default_duration_of entry) 0;
  head = coding.head;
  prefix = prefix_of entry;
  form = coding.form;
}

-- the output of `extract` with the name `name` for the track with the TrackEntry `entry`, if its coding, the last argument, is one; none if the track
-- is refused
abbrev pub track_output : List ℕ → Node → Result Coding UnsupportedTrack → List TrackOutput
track_output name entry (Err why) = []
track_output name entry (Ok coding) = output_with name entry coding ∷ []

-- the output of the target `t` of `extract` in the form `kind`, for the TrackEntry that it names, the last argument. There is none if the track is
-- missing, or can't be written in this form.
abbrev pub output_for : Form → Target → Option Node → List TrackOutput
output_for kind t None = []
output_for kind t (Some entry) = track_output t.name entry (coding_of kind entry)

-- the outputs of `extract` in the form `kind` for `targets`, in their order; `entries` has the TrackEntries of the file
abbrev pub outputs_for : Form → List Target → List Node → List TrackOutput
outputs_for kind targets entries = flat_map (λ (t : Target). output_for kind t (slice_get entries t.id)) targets

-- the outputs of `targets` of `extract` in the given form, the first argument; none for a job that doesn't write frames (None). `entries` has the
-- TrackEntries of the file.
abbrev pub outputs_taken : Option Form → List Target → List Node → List TrackOutput
outputs_taken None targets entries = []
outputs_taken (Some kind) targets entries = outputs_for kind targets entries

-- the outputs of the job `job` of `extract`, if it writes frames of tracks, for a file with the TrackEntries `entries`
abbrev pub job_outputs : Job → List Node → List TrackOutput
job_outputs job entries = outputs_taken (form_of job) (targets_of job) entries

-- the refusal for one of the tracks of `targets` in the form of a job of `extract`, the first argument, or None; `entries` has the TrackEntries of
-- the file. A job that doesn't write frames (None) isn't refused.
abbrev pub refusal_taken : Option Form → List Target → List Node → Option Refusal
refusal_taken None targets entries = None
refusal_taken (Some kind) targets entries = refusal_of (first_unfit NoExtractor kind targets entries) (first_unfit BadConfig kind targets entries)

-- the refusal of the job `job` of `extract` for one of the tracks that it names, or None; `entries` has the TrackEntries of the file
abbrev pub job_refusal : Job → List Node → Option Refusal
job_refusal job entries = refusal_taken (form_of job) (targets_of job) entries

-- the outputs of `extract` in the form `kind` for `targets`, or the refusal for the track of one of them; `entries` has the TrackEntries of the file.
-- The contract of `outputs_for` promises it.
abbrev pub outputs_or_refusal : Form → List Target → List Node → Result (List TrackOutput) Refusal
outputs_or_refusal kind targets entries = unless (refusal_taken (Some kind) targets entries) (outputs_for kind targets entries)

-- the outputs of the job `job` of `extract`, or its refusal; `entries` has the TrackEntries of the file. The contract of `job_outputs` promises it.
abbrev pub fit_outputs : Job → List Node → Result (List TrackOutput) Refusal
fit_outputs job entries = unless (job_refusal job entries) (job_outputs job entries)
