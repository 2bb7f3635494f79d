-- The result of `merge`. The command is this project's, after mkvmerge(1); the contents of its outputs are defined by RFC 9559.
use Rattle.std.specs.Prelude.{ℕ, ◌==◌, nat_le, Bool, true, false, not, ◌&&◌, ◌||◌, if◌then◌else◌, List, [], ◌∷◌, ◌++◌, length, map, filter, flat_map, Option, Result, Ok, Err}
use Rattle.std.specs.List.{enumerate_from, find, list_any, range_with_len, zip}
use Rattle.std.specs.Option.{option_map, option_map_or}
use Rattle.std.specs.Result.{result_err}
use Rattle.mkv_io.specs.declared.damage.Damage.{Damage}
use Rattle.mkv_io.specs.Faults.{counted}
use Rattle.mkv_io.specs.Lists.{is_some_of}
use Rattle.mkv_io.specs.Told.{IfVisible}
use Rattle.mkv_io.specs.declared.files.Files as writing
use Rattle.mkv_io.specs.declared.reads.Reads.{Ghosts}
use Rattle.mkv_io.specs.declared.report.Report.{Ghosts as ReportGhosts}
use Rattle.cluster_reader.specs.ToldDamages.{told_damages}
use Rattle.output_model.specs.OutputBlock.{OutputBlock}
use Rattle.tree_format.specs.Node.{Node}
use Rattle.output_model.specs.Document.{Document, Front}
use Rattle.merge_model.specs.Lanes.{lane_blocks, lane_damages}
use Rattle.merge_model.specs.Links.{Given}
use Rattle.merge_model.specs.Merged.{merged}
use Rattle.output_model.specs.Cued.{document_of}
use Rattle.splitter.specs.Sections.{Part, Split, parts}
use Rattle.splitter.specs.Words.{size_of}
use Rattle.remux_plan.specs.Parts.{PlannedOutput, drives_by, name_of, stretch_of}
use Rattle.remux_plan.specs.Parts.{chapters_of as chapters_within}
use Rattle.remux_plan.specs.Uuids.{uuids_at, with_uuids}
use Rattle.remuxer.specs.Output.{drafts_of}
use Rattle.input_files.specs.Inputs.{attached_names, file_names, first_large, first_missing}
use Rattle.input_files.specs.declared.text_files.TextFiles.{TextFiles}
use Rattle.requests.specs.declared.merge.FileWords.{FileWords}
use Rattle.requests.specs.declared.merge.MergeWords.{MergeWords}
use Rattle.merge_inputs.specs.Input.{InputRead}
use Rattle.merge_plan.specs.Appending.{append_refusal}
use Rattle.merge_plan.specs.Attached.{attached_sources}
use Rattle.merge_plan.specs.Plan.{Source, drives_given, inputs_taken, lanes_taken, limits_of, rules_given, split_given}
use Rattle.merge_plan.specs.Front.{front_of, reads_of}
use Rattle.merge_plan.specs.Places.{in_place}
use Rattle.merge_plan.specs.Records.{chapters_of, tags_of}
use Rattle.merge_plan.specs.Refusal.{plan_refusal}
use Rattle.mkv_lines.specs.Command.{Fulfils}
use Rattle.mkv_lines.specs.declared.status.CommandEnd.{CommandEnd}
use Rattle.mkv_lines.specs.Line.{damage_lines, no_track_line, uuid_count_line, wrote_blocks_line}
use Rattle.mkv_lines.specs.Verdict.{Verdict, in_turn, refused}
use Rattle.mkv_lines.specs.declared.status.Status.{Status}
use Rattle.mkv_lines.specs.declared.status.Status.TheVariants.{Done, Warned}
use Rattle.mkv_merge.specs.Chapters.{chapters_refusal}
use Rattle.mkv_merge.specs.Read.{attached_held, contents_held, first_written, inputs_of, is_split, pending_of, reads_with, texts_held}
use Rattle.mkv_merge.specs.Refused.{first_cause, line_of}
use Rattle.mkv_merge.specs.Texts.{missing_text, times_refusal}
use Rattle.mkv_io.specs.Results.{unless}
use Rattle.mkv_merge.specs.declared.refusal.Refusal.{Refusal}
use Rattle.mkv_merge.specs.declared.refusal.Refusal.TheVariants.{AttachedTooLarge, Differs, Missing, MissingAttached, OutputIsInput, Plan}

-- ---- sources

-- the inputs of the merge `words` as sources: the result of reading each, with the text files `texts` applied. They have the contents `contents`. Each
-- appended input has its append offset. Used by `sources_in`.
abbrev pub sources_placed : MergeWords → TextFiles → List (List ℕ) → List Source
sources_placed words texts contents = in_place (zip contents (reads_with words texts contents))

-- the sources of the merge `words`: its inputs, which have the contents `contents`, with the text files `texts` applied, and after them the files that
-- it attaches, which have the contents `attached`. Used by `sources_unless`.
abbrev pub sources_in : MergeWords → TextFiles → List (List ℕ) → List (List ℕ) → List Source
sources_in words texts contents attached = sources_placed words texts contents ++ attached_sources words.webm words.attached attached

-- the refusal of a merge because of the first of the files that it attaches that is too large, if any. `attached` has their contents. For
-- `refusals_read`.
abbrev pub attached_refusal : List (List ℕ) → Option Refusal
attached_refusal attached = option_map AttachedTooLarge (first_large (map length attached))

-- the refusals of the merge `words` after its files are opened, in the order of the checks. They concern an input, the chapter file, a timestamp
-- file, an attached file, an appended input whose tracks can't continue the output tracks, and the plan. `contents` has the contents of the inputs,
-- `attached` those of the attached files, and `texts` the text files. Used by `sources_unless`.
abbrev pub refusals_read : MergeWords → TextFiles → List (List ℕ) → List (List ℕ) → List (Option Refusal)
refusals_read words texts contents attached =
    result_err (inputs_of words contents)
    ∷ chapters_refusal texts.chapters
    ∷ times_refusal texts.times
    ∷ attached_refusal attached
    ∷ option_map Differs (append_refusal (reads_with words texts contents))
    ∷ option_map Plan (plan_refusal words (reads_of (sources_in words texts contents attached)))
    ∷ []

-- the sources of the merge `words`, or its first refusal. Its inputs have the contents `contents`, and its attached files `attached`. `causes` are the
-- refusals that are checked before the inputs are read. `texts` has the text files. The contracts of `merge` and `generate` name by it what is merged.
abbrev pub sources_unless : List (Option Refusal) → MergeWords → TextFiles → List (List ℕ) → List (List ℕ) → Result (List Source) Refusal
sources_unless causes words texts contents attached =
    unless (first_cause (causes ++ refusals_read words texts contents attached)) (sources_in words texts contents attached)

-- the refusals of the merge `words` before its inputs are read, in the order of the checks. The files are `world`. They are an output with the name
-- of a file that is read, a missing input, text file or attached file, and a pending edit. Used by `sources_of`.
abbrev pub refusals : (List ℕ → Option (List ℕ)) → MergeWords → List (Option Refusal)
refusals world words =
    option_map OutputIsInput (first_written words)
    ∷ option_map Missing (first_missing world (file_names words.files))
    ∷ missing_text (texts_held world words)
    ∷ option_map MissingAttached (first_missing world (attached_names words.attached))
    ∷ pending_of world words
    ∷ []

-- the sources of the merge `words` if the files are `world`, or its first refusal. It defines what `merge` writes, prints and reads.
abbrev pub sources_of : (List ℕ → Option (List ℕ)) → MergeWords → Result (List Source) Refusal
sources_of world words = sources_unless (refusals world words) words (texts_held world words) (contents_held world words) (attached_held world words)

-- ---- outputs

-- the blocks of all output tracks of the merge `words` of `sources` in one list, in the order of writing. For `parts_of`, which cuts them into parts.
abbrev pub blocks_of : MergeWords → List Source → List OutputBlock
blocks_of words sources = merged (map (lane_blocks words.scale) (lanes_taken words sources))

-- the rule for cutting the output of the merge `words` into parts, with times in ticks of the output. For `parts_of`. `sources` are its inputs.
abbrev pub split_of : MergeWords → List Source → Split
split_of words sources = record { spec = split_given words (reads_of sources); size = size_of words.split; scale = words.scale; drives = drives_by (drives_given words.order (reads_of sources)) }

-- the parts of the output of the merge `words` of `sources`; an output that isn't split is one part. For `outputs_of`: each becomes an output.
abbrev pub parts_of : MergeWords → List Source → List Part
parts_of words sources = parts (split_of words sources) (blocks_of words sources)

-- the Elements before the first Cluster of the part `number`, counted from 1; `front` has them for an unsplit output. Each part has its own
-- identifiers; only the first part has the attached files. For `front_at`, in the outcome of `merge`. `words` are the options of the merge.
abbrev pub front_for : MergeWords → ℕ → Front → Front
front_for words number front = record front {
  info = with_uuids (uuids_at words.uuids words.link number) front.info;
  attachments = if number == 1 then front.attachments else [];
}

-- the Elements before the first Cluster of the part `number`, counted from 1, of the merge `words` of `sources`. A part of the part's document.
abbrev pub front_at : MergeWords → List Source → ℕ → Front
front_at words sources number = front_for words number (front_of words sources)

-- the Chapters of the part `part` of the merge `words` of `sources`: those within its period of time, or all if the output isn't split. A part of the
-- part's document.
abbrev pub chapters_in : MergeWords → List Source → Part → Option Node
chapters_in words sources part = chapters_within (is_split words) (chapters_of (reads_of sources)) (stretch_of words.scale part.start part.end)

-- the document of the part `each`, which is given with its number, counted from 1, in the merge `words` of `sources`. It has its Clusters and the
-- Elements around them. `merge` writes its layout as an output.
abbrev pub document_at : MergeWords → List Source → ℕ × Part → Document
document_at words sources each =
    document_of (limits_of words) (rules_given words.order (reads_of sources)) (front_at words sources each.0) (chapters_in words sources each.1) (tags_of words.order (reads_of sources)) each.1.blocks

-- the output for a part, which is given with its number, counted from 1 (`each`), in the merge `words` of `sources`: its name, blocks and document.
-- For `outputs_of`.
abbrev pub output_at : MergeWords → List Source → ℕ × Part → PlannedOutput
output_at words sources each = record { name = name_of (is_split words) words.output each.0; blocks = each.1.blocks; document = document_at words sources each }

-- all outputs of the merge `words` of `sources`, in the order of writing. `merge` writes them.
abbrev pub outputs_of : MergeWords → List Source → List PlannedOutput
outputs_of words sources = map (output_at words sources) (enumerate_from 1 (parts_of words sources))

-- ---- warnings

-- the track numbers, counted from 0, that the options of the input `file` name and that aren't below `count`, the number of its tracks. The pairs of
-- `--track-order` don't count among them. For the warnings of `merge`.
abbrev pub absent_of : FileWords → ℕ → List ℕ
absent_of file count = filter (λ n. nat_le count n) file.named

-- a warning for each track that the options of the input `file` name and that isn't among its `count` tracks. The pairs of `--track-order` don't
-- count. For `lines_absent`, in the outcome of `merge`.
abbrev pub lines_absent_of : FileWords → ℕ → List (List ℕ)
lines_absent_of file count = map (no_track_line file.name) (absent_of file count)

-- The pair `pair` of `--track-order` names a track that isn't among the `count` tracks of the input number `input`, and that none of the options of this
-- input, `file`, names. Numbers count from 0. For the warnings of `merge`.
abbrev pub is_absent_in : ℕ → FileWords → ℕ → ℕ × ℕ → Bool
is_absent_in input file count pair = pair.0 == input && nat_le count pair.1 && not (list_any (λ n. n == pair.1) file.named)

-- those of the pairs `order` of `--track-order` that name a track which isn't among the `count` tracks of the input number `input`, counted from 0, and
-- which none of the options of this input, `file`, names. For the warnings of `merge`.
abbrev pub absent_in : List (ℕ × ℕ) → ℕ → FileWords → ℕ → List (ℕ × ℕ)
absent_in order input file count = filter (is_absent_in input file count) order

-- a warning for each of the pairs `order` of `--track-order` that name a track which isn't among the `count` tracks of the input number `input`, counted
-- from 0, and which none of the options of this input, `file`, names. For `lines_absent`, in the outcome of `merge`.
abbrev pub lines_absent_in : List (ℕ × ℕ) → ℕ → FileWords → ℕ → List (List ℕ)
lines_absent_in order input file count = map (λ (pair : ℕ × ℕ). no_track_line file.name pair.1) (absent_in order input file count)

-- an input with its number, counted from 0: its options, and what was read of it. The warnings of `merge` name it.
abbrev pub Named : Type 0
Named = ℕ × (FileWords × InputRead)

-- The options of the merge `words` name a track that the input `each` doesn't have. For the status of `merge`.
abbrev pub lacks_track : MergeWords → Named → Bool
lacks_track words each = is_some_of (absent_of each.1.0 each.1.1.count) || is_some_of (absent_in words.order each.0 each.1.0 each.1.1.count)

-- a warning for each track that the options of the merge `words` name and that the input `each` doesn't have: first those that its own options name, and
-- then those of `--track-order`. For `lines_before`, in the outcome of `merge`.
abbrev pub lines_absent : MergeWords → Named → List (List ℕ)
lines_absent words each = lines_absent_of each.1.0 each.1.1.count ++ lines_absent_in words.order each.0 each.1.0 each.1.1.count

-- the links of all output tracks: for each the number of its source, counted from 0, and the damage that is met in it. `numbers` and `given` have a
-- list of links for each output track. For `damages_met`, in the outcome of `merge`.
abbrev pub links_met : List (List ℕ) → List (List Given) → List (ℕ × List Damage)
links_met numbers given = flat_map (λ (lane : List ℕ × List Given). zip lane.0 (lane_damages lane.1)) (zip numbers given)

-- the damage that is met in the first link with the source number `k`, counted from 0, or none if there is no such link. `links` are as in
-- `links_met`. For `damages_met`, in the outcome of `merge`.
abbrev pub first_met : ℕ → List (ℕ × List Damage) → List Damage
first_met k links = option_map_or (λ (link : ℕ × List Damage). link.1) (find (λ (link : ℕ × List Damage). link.0 == k) links) []

-- the damage that is met in the source number `k`, counted from 0, while its blocks are merged. There is none if no track of the source is selected.
-- Without the option `--append-damaged` there is also none if a file before it in its chain of appended files ended at damage. For the warnings and
-- the status of `merge`. `words` are the options of the merge of `sources`.
abbrev pub damages_met : MergeWords → List Source → ℕ → List Damage
damages_met words sources k = first_met k (links_met (inputs_taken words.order (reads_of sources)) (lanes_taken words sources))

-- the warnings about the damage `damages` of a file `name`: its first places one by one, then the number of the others. For `warnings`, in the
-- outcome of `merge`.
abbrev pub damages_warned : List ℕ → List Damage → List (List ℕ)
damages_warned name damages = let told = told_damages damages in damage_lines name told.first told.more

-- the warnings about the damage of a source, which is given with its number, counted from 0, and its options. `merge` prints them after the outputs
-- are written. `words` are the options of the merge of `sources`, and `each` is the number of one with its options.
abbrev pub warnings : MergeWords → List Source → ℕ × FileWords → List (List ℕ)
warnings words sources each = damages_warned each.1.name (damages_met words sources each.0)

-- Some input lacks a track that the options for it name; `reads` are the inputs as they were read. `merge` then ends with the status of warnings.
-- `words` are the options of the merge.
abbrev pub has_absent : MergeWords → List InputRead → Bool
has_absent words reads = list_any (lacks_track words) (enumerate_from 0 (zip words.files reads))

-- Some of `sources` has damage that is met while its blocks are merged. `merge` then ends with the status of warnings. `words` are the options of the
-- merge.
abbrev pub has_damage : MergeWords → List Source → Bool
has_damage words sources = list_any (λ k. is_some_of (damages_met words sources k)) (range_with_len 0 (length sources))

-- The command line gives segment identifiers, but not one for each of the `count` outputs. `merge` then ends with the status of warnings. `words` are
-- the options of the merge.
abbrev pub has_other_count : MergeWords → ℕ → Bool
has_other_count words count = not (length words.uuids == 0) && not (length words.uuids == count)

-- the warning about the number of segment identifiers, if `words` gives some, but not one for each of the `count` outputs. It is the last message of
-- `merge`.
abbrev pub uuid_lines : MergeWords → ℕ → List (List ℕ)
uuid_lines words count = if has_other_count words count then uuid_count_line (length words.uuids) count ∷ [] else []

-- ---- result

-- the status of a merge that isn't refused; the argument is true if it printed a warning. For the outcomes of `merge` and `generate`.
abbrev pub warned_if : Bool → Status
warned_if true = Warned
warned_if false = Done

-- the messages of `merge` before the outputs are written: a warning for each track that options name and that its input lacks. `words` are the
-- options of the merge, and `reads` its inputs as they were read.
abbrev pub lines_before : MergeWords → List InputRead → List (List ℕ)
lines_before words reads = flat_map (lines_absent words) (enumerate_from 0 (zip words.files reads))

-- the message about a complete output, with its name and number of blocks. For `lines_behind`, in the outcome of `merge`.
abbrev pub output_line : PlannedOutput → List ℕ
output_line o = wrote_blocks_line o.name (counted 0 (length o.blocks))

-- the messages of `merge` after the outputs are written. They are one for each output, warnings of damage by input, and a warning about the number of
-- segment identifiers. For the outcome of the merge `words` of `sources`.
abbrev pub lines_behind : MergeWords → List Source → List (List ℕ)
lines_behind words sources =
    map output_line (outputs_of words sources) ++ flat_map (warnings words sources) (enumerate_from 0 words.files) ++ uuid_lines words (length (outputs_of words sources))

-- the outcome of the merge `words` of `sources`, which isn't refused: status, messages and outputs. For `verdict_of`.
abbrev pub merged_verdict : MergeWords → List Source → Verdict
merged_verdict words sources = record {
  status = warned_if (has_absent words (reads_of sources) || has_damage words sources || has_other_count words (length (outputs_of words sources)));
  lines = lines_before words (reads_of sources) ++ lines_behind words sources;
  before = lines_before words (reads_of sources);
  outputs = in_turn (drafts_of (outputs_of words sources));
}

-- the outcome of the merge `words`, given its sources or its refusal. The contracts of `merge` and its stages state it.
abbrev pub verdict_of : MergeWords → Result (List Source) Refusal → Verdict
verdict_of words (Ok sources) = merged_verdict words sources
verdict_of words (Err why) = refused (line_of words why)

-- the outcome of the merge `words` if the files are `world`. It defines the command `merge`.
abbrev pub merge_verdict : (List ℕ → Option (List ℕ)) → MergeWords → Verdict
merge_verdict world words = verdict_of words (sources_of world words)

-- The command `merge` ended with `result`, and has the outcome of the merge `words`, or was stopped on the way to it. A refusal is printed. Files and
-- report were `files` and `report` before it, and are `files'` and `report'` after it. Promises nothing if contents aren't visible to the proof. The
-- contract of `merge_of` states it. `r`, `f` and `p` give the proof's view of the files and the report.
abbrev pub ComesToMerge : {F P : Type 0} → Ghosts F → writing.Ghosts F → ReportGhosts P → F → F → P → P → Result Status CommandEnd → MergeWords → Type 0
ComesToMerge r f p files files' report report' result words =
    IfVisible (f.names files) (λ world. Fulfils r f p files files' report report' result (merge_verdict world words))
