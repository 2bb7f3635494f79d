-- The outcome of `extract`: status, lines and outputs. All of it is this project's, after mkvextract(1).
use Rattle.std.specs.Prelude.{ℕ, ◌+◌, ◌==◌, nat_le, Bool, true, false, if◌then◌else◌, not, List, [], ◌∷◌, ◌++◌, length, map, filter, Option, Some, None, ok_or, option_map, option_to_list, Result, Ok, Err}
use Rattle.mkv_io.specs.Lists.{is_some_of}
use Rattle.mkv_io.specs.Results.{and_then, unless}
use Rattle.mkv_io.specs.declared.damage.Damage.{Damage}
use Rattle.requests.specs.declared.job.Job.{Job}
use Rattle.requests.specs.declared.job.Job.TheVariants as jobs
use Rattle.requests.specs.declared.job.Target.{Target}
use Rattle.tree_format.specs.Node.{Node}
use Rattle.block_format.specs.Events.{Event, blocks_of, damages_of}
use Rattle.file_format.specs.FileBlocks.{file_events}
use Rattle.cluster_reader.specs.ToldDamages.{ToldDamages, told_damages}
use Rattle.mkv_outputs.specs.Outputs.{Output, names_of}
use Rattle.meta_records.specs.Records.{scale_of_info}
use Rattle.extractors.specs.Attached.{attached_outputs}
use Rattle.extractors.specs.BadFrames.{bad_frames}
use Rattle.extractors.specs.Chapters.{chapters_output}
use Rattle.extractors.specs.Content.{outputs_of}
use Rattle.extractors.specs.Cues.{cues_outputs}
use Rattle.extractors.specs.Job.{job_outputs, job_refusal, targets_of}
use Rattle.extractors.specs.Source.{entry_in}
use Rattle.extractors.specs.declared.frame_form.Refusal.{Refusal}
use Rattle.extractors.specs.declared.frame_form.UnsupportedTrack.{UnsupportedTrack}
use Rattle.extractors.specs.declared.frame_form.UnsupportedTrack.TheVariants as unfit
use Rattle.mkv_lines.specs.Line.{bad_config_line, bad_frame_lines, damage_lines, missing_line, no_attachment_line, no_extractor_line, no_track_line, output_is_input_line, pending_edit_line, refusal_line, wrote_line}
use Rattle.mkv_lines.specs.Verdict.{Verdict, at_once, refused}
use Rattle.mkv_lines.specs.declared.status.Status.{Status}
use Rattle.mkv_lines.specs.declared.status.Status.TheVariants.{Done, Warned}
use Rattle.sidecar_edit.specs.Pending.{is_pending}
use Rattle.mkv_extract.specs.Names.{first_written}
use Rattle.mkv_extract.specs.Read.{FileRead, read_of}

-- ---- the content that a job extracts

-- the numbers of a list in their order, each only at its first place. For `absent`, in the outcome of `extract`.
abbrev pub once : List ℕ → List ℕ
once [] = []
once (n ∷ ns) = n ∷ filter (λ m. not (n == m)) (once ns)

-- the numbers of at least `count` that `targets` name, each once. `count` is the first number that the file lacks, so they are missing items.
-- `extract` warns of each.
abbrev pub absent : ℕ → List Target → List ℕ
absent count targets = filter (λ n. nat_le count n) (once (map (λ (t : Target). t.id) targets))

-- a line for each track that `targets` name and the file `name` lacks; `file` has its records. `extract` prints them before it writes an output.
abbrev pub missing_tracks : List ℕ → FileRead → List Target → List (List ℕ)
missing_tracks name file targets = map (no_track_line name) (absent (length file.tracks) targets)

-- a line for each attached file that `targets` name and the file `name` lacks; `file` has its records. Attached files are numbered from 1. `extract`
-- prints them before it writes an output.
abbrev pub missing_attachments : List ℕ → FileRead → List Target → List (List ℕ)
missing_attachments name file targets = map (no_attachment_line name) (absent (length file.attachments + 1) targets)

-- The content that a job extracts. `missing` has a line for each named item that the file lacks. The outputs are in the order of the command line.
-- `damages` is the damage of the file that is reported, and `bad_frames` the frames that are left out. The outcome of `extract` is made from it.
pub record Taken : Type 0 where
  pub missing : List (List ℕ)
  pub outputs : List Output
  pub damages : List Damage
  pub bad_frames : List Damage

-- the TrackEntries of the file `file` that was read. For the choice of an output's form.
abbrev pub entries_of : FileRead → List Node
entries_of file = map entry_in file.tracks

-- the content for `job`, a job for frames or timestamps, from the file `name` with the blocks and damage `events`; `file` has its records. For
-- `taken_by`, in the outcome of `extract`.
abbrev pub frames_taken : List ℕ → Job → FileRead → List Event → Taken
frames_taken name job file events = record {
  missing = missing_tracks name file (targets_of job);
  outputs = outputs_of (job_outputs job (entries_of file)) (blocks_of events);
  damages = damages_of events;
  bad_frames = bad_frames (job_outputs job (entries_of file)) (blocks_of events);
}

-- the content of a job for anything else than frames of the file `file`: the outputs `outputs`, and the lines `missing`. Only damage at level 1 is
-- reported. For attached files, cue points and chapters. Used by `attached_taken`, `cues_taken` and others.
abbrev pub taken_whole : FileRead → List (List ℕ) → List Output → Taken
taken_whole file missing outputs = record { missing = missing; outputs = outputs; damages = option_to_list file.damage; bad_frames = [] }

-- the content for `targets` that name attached files, from the file `name` with the content `bytes`; `file` has its records. For `taken_by`, in the
-- outcome of `extract`.
abbrev pub attached_taken : List ℕ → List Target → List ℕ → FileRead → Taken
attached_taken name targets bytes file = taken_whole file (missing_attachments name file targets) (attached_outputs bytes targets file.attachments)

-- the content for `targets` that name tracks whose cue points are asked for, from the file `name`; `file` has its records. For `taken_by`, in the
-- outcome of `extract`.
abbrev pub cues_taken : List ℕ → List Target → FileRead → Taken
cues_taken name targets file =
    taken_whole file (missing_tracks name file targets) (cues_outputs (scale_of_info file.info) file.cues targets (entries_of file))

-- the content for the output name `out`: the chapters of the file `file` as OGM simple chapters; `file` has the records that were read. For
-- `taken_by`, in the outcome of `extract`.
abbrev pub chapters_taken : List ℕ → FileRead → Taken
chapters_taken out file = taken_whole file [] (chapters_output out file.chapters ∷ [])

-- the content for the job in the second argument, from the file `name` with the content `bytes`. `events` are its blocks and damage, and `file` has
-- its records. For `taken_of`, in the outcome of `extract`.
abbrev pub taken_by : List ℕ → Job → List ℕ → FileRead → List Event → Taken
taken_by name (jobs.Chapters out) bytes file events = chapters_taken out file
taken_by name (jobs.Attachments list) bytes file events = attached_taken name list bytes file
taken_by name (jobs.Cues list) bytes file events = cues_taken name list file
taken_by name job bytes file events = frames_taken name job file events

-- ---- refusals

-- the error line for the track with index `number`, from 0, of the file `name`, which can't be extracted for the reason given. For `unfit_track`, in
-- the outcome of `extract`.
abbrev pub unfit_line : List ℕ → UnsupportedTrack → ℕ → List ℕ
unfit_line name unfit.NoExtractor number = no_extractor_line name number
unfit_line name unfit.BadConfig number = bad_config_line name number

-- the error line for the first track that `job` names and that can't be written in its form, if any. `file` has the records of the file `name`.
-- `extract` prints it and writes nothing.
abbrev pub unfit_track : List ℕ → Job → FileRead → Option (List ℕ)
unfit_track name job file = option_map (λ (r : Refusal). unfit_line name r.why r.track) (job_refusal job (entries_of file))

-- the data that were read of the file `name`, or the error line for the damage that refuses them. For `taken_of`, in the outcome of `extract`.
abbrev pub or_line : {A : Type 0} → List ℕ → Result A Damage → Result A (List ℕ)
or_line name (Ok x) = Ok x
or_line name (Err d) = Err (refusal_line name d)

-- The content for `job` from the file `name`, or the error line of its first refusal; `world` has the content of each name. The checks are in this
-- order. No output has the name of a file that is read. The file exists. Its journal has no pending edit. Its content can be read. Each named track
-- can be extracted in this form. It defines what `extract` writes.
abbrev pub taken_of : (List ℕ → Option (List ℕ)) → List ℕ → Job → Result Taken (List ℕ)
taken_of world name job =
    and_then (unless (option_map output_is_input_line (first_written name job)) (world name)) (λ (content : Option (List ℕ)).
    and_then (ok_or content (missing_line name)) (λ (bytes : List ℕ).
    and_then (unless (if is_pending world name then Some (pending_edit_line name) else None) (read_of job bytes)) (λ (found : Result FileRead Damage).
    and_then (or_line name found) (λ (file : FileRead).
    unless (unfit_track name job file) (taken_by name job bytes file (file_events true bytes file.segment))))))

-- ---- the result

-- a warning for each damaged place in `d` of the file `name` that is reported, and the number of the others. For `warned`, in the outcome of
-- `extract`.
abbrev pub told_lines : List ℕ → ToldDamages → List (List ℕ)
told_lines name d = damage_lines name d.first d.more

-- a warning for each frame in `d` of the file `name` that is left out and reported, and the number of the others. For `warned`, in the outcome of
-- `extract`.
abbrev pub told_bad : List ℕ → ToldDamages → List (List ℕ)
told_bad name d = bad_frame_lines name d.first d.more

-- the warnings of the damage of the file `name` in `t`, and then of its frames that are left out. `extract` prints them last.
abbrev pub warned : List ℕ → Taken → List (List ℕ)
warned name t = told_lines name (told_damages t.damages) ++ told_bad name (told_damages t.bad_frames)

-- the status of `extract`: Warned if an item is missing (`true`) or there is damage, or else Done. The second argument is the damage and the frames
-- that are left out.
abbrev pub status_of : Bool → List Damage → Status
status_of false [] = Done
status_of false (d ∷ ds) = Warned
status_of true damages = Warned

-- The outcome of an extraction of `t` from the file `name`. Lines for missing items are printed before the outputs are written, and the messages of
-- outputs and the warnings after. For `verdict_of`.
abbrev pub done_verdict : List ℕ → Taken → Verdict
done_verdict name t = record {
  status = status_of (is_some_of t.missing) (t.damages ++ t.bad_frames);
  lines = t.missing ++ (map wrote_line (names_of t.outputs) ++ warned name t);
  before = t.missing;
  outputs = at_once t.outputs;
}

-- the outcome of an extraction from the file `name`, or of its refusal, which prints only that line. The contracts of `extract` and its steps state
-- it.
abbrev pub verdict_of : List ℕ → Result Taken (List ℕ) → Verdict
verdict_of name (Ok t) = done_verdict name t
verdict_of name (Err line) = refused line

-- the outcome of `extract` for the file `name` and the job `job`; `world` has the content of each name. It defines the command `extract`.
abbrev pub extract_verdict : (List ℕ → Option (List ℕ)) → List ℕ → Job → Verdict
extract_verdict world name job = verdict_of name (taken_of world name job)
