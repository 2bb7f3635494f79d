-- Timestamp files, which replace the timestamps of tracks, and refusals because of text files. Both are this project's.
use Rattle.std.specs.Prelude.{ℕ, suc, ◌==◌, if◌then◌else◌, List, [], ◌∷◌, find, Option, Some, None, is_some, Result}
use Rattle.std.specs.List.{flat_map}
use Rattle.std.specs.Option.{option_and_then, option_or}
use Rattle.ext_times.specs.Listing.{Listing}
use Rattle.input_files.specs.declared.text_files.TextFiles.{TextFiles}
use Rattle.input_files.specs.declared.times_file.TimesFile.{TimesFile}
use Rattle.input_files.specs.declared.times_file.TimesGiven.{TimesGiven}
use Rattle.input_files.specs.declared.times_file.TimesGiven.TheVariants as given
use Rattle.merge_inputs.specs.Input.{InputRead}
use Rattle.merge_plan.specs.Records.{is_appended}
use Rattle.mkv_merge.specs.Chapters.{missing_chapters}
use Rattle.mkv_io.specs.Results.{unless}
use Rattle.mkv_merge.specs.declared.refusal.Refusal.{Refusal}
use Rattle.mkv_merge.specs.declared.refusal.Refusal.TheVariants.{MissingTimes, Times}

-- ---- refusals

-- the first of the timestamp files `files` for which `why` gives a refusal. For the contracts of `first_missing` and `first_refused`.
abbrev pub first_refusing : (TimesFile → Option Refusal) → List TimesFile → Option TimesFile
first_refusing why files = find (λ (f : TimesFile). is_some (why f)) files

-- the refusal that `why` gives for the first of the timestamp files `files` with one. For `missing_times` and `times_refusal`, when `merge` applies
-- its text files.
abbrev pub refusal_of_first : (TimesFile → Option Refusal) → List TimesFile → Option Refusal
refusal_of_first why files = option_and_then why (first_refusing why files)

-- the refusal of the merge if the timestamp file `name` doesn't exist. For `missing_by`.
abbrev pub missing_given : List ℕ → TimesGiven → Option Refusal
missing_given name given.Missing = Some (MissingTimes name)
missing_given name (given.Refused why) = None
missing_given name (given.Read times) = None

-- the refusal of the merge if the timestamp file `f` doesn't exist. For `missing_times`.
abbrev pub missing_by : TimesFile → Option Refusal
missing_by f = missing_given f.named.name f.given

-- the refusal of the merge because of the first of the timestamp files `files` that doesn't exist. For `missing_text`.
abbrev pub missing_times : List TimesFile → Option Refusal
missing_times files = refusal_of_first missing_by files

-- the refusal of the merge if the chapter file doesn't exist, or else because of the first timestamp file that doesn't. `merge` checks it before it
-- reads an input.
abbrev pub missing_text : TextFiles → Option Refusal
missing_text texts = option_or (missing_chapters texts.chapters) (missing_times texts.times)

-- the refusal of the merge if the content of the timestamp file `name`, as the second argument has it, is refused. For `refusal_by`.
abbrev pub given_refusal : List ℕ → TimesGiven → Option Refusal
given_refusal name given.Missing = None
given_refusal name (given.Refused why) = Some (Times name why)
given_refusal name (given.Read times) = None

-- the refusal of the merge if the content of the timestamp file `f` is refused. For `times_refusal`.
abbrev pub refusal_by : TimesFile → Option Refusal
refusal_by f = given_refusal f.named.name f.given

-- the refusal of the merge because of the first of the timestamp files `files` whose content is refused. `merge` checks it after the inputs are read.
abbrev pub times_refusal : List TimesFile → Option Refusal
times_refusal files = refusal_of_first refusal_by files

-- ---- timestamps of the files

-- the timestamps that a timestamp file gives to the track with the ID `id`, if it was read. For `listings_at`, when `merge` applies its text files.
abbrev pub given_listing : ℕ → TimesGiven → List (ℕ × Listing)
given_listing id given.Missing = []
given_listing id (given.Refused why) = []
given_listing id (given.Read times) = (id, times) ∷ []

-- the timestamps that `files` give to tracks of the input number `input`, counted from 0, each with the ID of its track. For `timed_from`, when
-- `merge` applies its text files.
abbrev pub listings_at : ℕ → List TimesFile → List (ℕ × Listing)
listings_at input files = flat_map (λ (f : TimesFile). if f.named.input == input then given_listing f.named.id f.given else []) files

-- the input `i` with the timestamps `times` of timestamp files; an appended input keeps its own. For `timed_from`, when `merge` applies its text
-- files.
abbrev pub with_listings : List (ℕ × Listing) → InputRead → InputRead
with_listings times i = record i { times = if is_appended i then [] else times }

-- the inputs from the number `input`, counted from 0, onwards, with the timestamps that `files` give them. `reads_with` applies the timestamp files
-- so.
abbrev pub timed_from : List TimesFile → ℕ → List InputRead → List InputRead
timed_from files input [] = []
timed_from files input (i ∷ is) = with_listings (listings_at input files) i ∷ timed_from files (suc input) is

-- all inputs with the timestamps that `files` give them, or the refusal if one of the files is refused. The contract of the function of the same name
-- states it. `reads` are the inputs as they were read.
abbrev pub with_times : List TimesFile → List InputRead → Result (List InputRead) Refusal
with_times files reads = unless (times_refusal files) (timed_from files 0 reads)
