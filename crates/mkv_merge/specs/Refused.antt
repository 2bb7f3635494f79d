-- Reasons why nothing is merged, and the line that reports each. The lines and their order are this project's.
use Rattle.std.specs.Prelude.{ℕ, List, [], ◌∷◌, Option, Some, None, unwrap_or}
use Rattle.std.specs.List.{slice_get}
use Rattle.std.specs.Option.{option_map_or}
use Rattle.input_files.specs.declared.refusal.TextRefusal.{TextRefusal}
use Rattle.input_files.specs.declared.refusal.TextRefusal.TheVariants.{TooLarge, Bad}
use Rattle.requests.specs.declared.merge.AttachedWords.{AttachedWords}
use Rattle.requests.specs.declared.merge.FileWords.{FileWords}
use Rattle.requests.specs.declared.merge.MergeWords.{MergeWords}
use Rattle.merge_inputs.specs.declared.input.InputRefusal.{InputRefusal}
use Rattle.merge_inputs.specs.declared.input.InputRefusal.TheVariants.{Damaged, Text}
use Rattle.merge_plan.specs.declared.refusal.PlanRefusal.{PlanRefusal}
use Rattle.merge_plan.specs.declared.refusal.PlanRefusal.TheVariants.{NoLane, TooManyLanes, NotWebm, HeaderTooLarge}
use Rattle.mkv_lines.specs.Line.{append_differs_line, bad_text_line, file_too_large_line, missing_line, no_lane_line, not_webm_line, output_is_input_line, pending_edit_line, refusal_line, text_too_large_line, too_large_line, too_many_lanes_line}
use Rattle.mkv_merge.specs.declared.refusal.Refusal.{Refusal}
use Rattle.mkv_merge.specs.declared.refusal.Refusal.TheVariants.{OutputIsInput, Missing, MissingChapters, MissingTimes, MissingAttached, PendingInput, PendingOutput, Input, Chapters, Times, AttachedTooLarge, Differs, Plan}

-- ---- the first refusal that holds

-- the first of the refusals `causes` that is present. `merge` reports only this one.
abbrev pub first_cause : List (Option Refusal) → Option Refusal
first_cause [] = None
first_cause (None ∷ causes) = first_cause causes
first_cause (Some why ∷ causes) = Some why

-- ---- lines

-- the name of the input number `input` of `words`, counted from 0, or an empty text if there is none. For `line_of`, in the message of a refused
-- `merge`.
abbrev pub name_of : MergeWords → ℕ → List ℕ
name_of words input = option_map_or (λ (file : FileWords). file.name) (slice_get words.files input) []

-- the message that reports why the merge can't be planned; `output` is the name of the output. For `line_of`.
abbrev pub plan_line : List ℕ → PlanRefusal → List ℕ
plan_line output NoLane = no_lane_line
plan_line output TooManyLanes = too_many_lanes_line
plan_line output (NotWebm codec) = not_webm_line codec
plan_line output (HeaderTooLarge id) = too_large_line output id

-- the name of the chapter file on the command line, or an empty text if there is none. For `line_of`, in the message of a refused `merge`.
abbrev pub chapters_name : MergeWords → List ℕ
chapters_name words = unwrap_or words.chapters []

-- the name of the attached file number `attached` of `words`, counted from 0, or an empty text if there is none. For `line_of`, in the message of a
-- refused `merge`.
abbrev pub attached_name : MergeWords → ℕ → List ℕ
attached_name words attached = option_map_or (λ (w : AttachedWords). w.file) (slice_get words.attached attached) []

-- the message that reports why the chapter file or timestamp file `name` is refused. For `line_of`, in the message of a refused `merge`.
abbrev pub text_line : List ℕ → TextRefusal → List ℕ
text_line name TooLarge = text_too_large_line name
text_line name (Bad line) = bad_text_line name line

-- the message that reports why the input `name` is refused. For `line_of`, in the message of a refused `merge`.
abbrev pub input_line : List ℕ → InputRefusal → List ℕ
input_line name (Damaged damage) = refusal_line name damage
input_line name (Text why) = text_line name why

-- the message that reports the refusal of the merge `words`. `merge` prints it and writes nothing. Inputs are named by their numbers in `words`,
-- counted from 0.
abbrev pub line_of : MergeWords → Refusal → List ℕ
line_of words (OutputIsInput name) = output_is_input_line name
line_of words (Missing input) = missing_line (name_of words input)
line_of words MissingChapters = missing_line (chapters_name words)
line_of words (MissingTimes name) = missing_line name
line_of words (MissingAttached attached) = missing_line (attached_name words attached)
line_of words (PendingInput input) = pending_edit_line (name_of words input)
line_of words PendingOutput = pending_edit_line words.output
line_of words (Input input why) = input_line (name_of words input) why
line_of words (Chapters why) = text_line (chapters_name words) why
line_of words (Times name why) = text_line name why
line_of words (AttachedTooLarge attached) = file_too_large_line (attached_name words attached)
line_of words (Differs d) = append_differs_line (name_of words d.input) d.id
line_of words (Plan why) = plan_line words.output why
