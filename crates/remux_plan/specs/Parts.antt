-- The outputs of a plan: one, or one for each part of its merged list if it is split. The split is this project's.
use Rattle.std.specs.Prelude.{◌≡◌, ℕ, suc, ◌-◌, ◌*◌, ◌==◌, Bool, true, false, ◌||◌, if◌then◌else◌, List, [], ◌∷◌, map, Option, None, is_some, unwrap_or}
use Rattle.std.specs.List.{slice_get}
use Rattle.std.specs.Option.{option_and_then, option_map}
use Rattle.std.specs.Str.{bytes_eq}
use Rattle.mkv_io.specs.LiveFiles.{LiveFiles}
use Rattle.tree_format.specs.Node.{Node}
use Rattle.output_model.specs.OutputBlock.{OutputBlock}
use Rattle.output_model.specs.Document.{Document}
use Rattle.output_model.specs.Front.{front_with}
use Rattle.output_model.specs.declared.front.Front.{Front}
use Rattle.splitter.specs.declared.spec.SplitSpec.{SplitSpec}
use Rattle.splitter.specs.declared.spec.SplitSpec.TheVariants.{Whole, Duration, Times, Parts}
use Rattle.splitter.specs.Names.{is_part_name, part_name}
use Rattle.splitter.specs.Sections.{Part, Split, parts}
use Rattle.record_changes.specs.declared.stretch.Stretch.{Stretch}
use Rattle.record_changes.specs.Cut.{cut}
use Rattle.output_model.specs.Cued.{document_of}
use Rattle.remux_plan.specs.Plan.{blocks_of, document_in, rules_of}
use Rattle.remux_plan.specs.Uuids.{uuids_at, with_uuids}
use Rattle.remux_plan.specs.declared.output.OutputSpec.{OutputSpec}
use Rattle.remux_plan.specs.declared.plan.MergePlan.{MergePlan}
use Rattle.remux_plan.specs.declared.plan.PlannedLane.{PlannedLane}

-- ---- split

-- The rule for cuts of a plan has times, in nanoseconds. Without them it may still cut by size. Used by `is_split`.
abbrev pub is_timed : SplitSpec → Bool
is_timed Whole = false
is_timed (Duration by) = true
is_timed (Times at) = true
is_timed (Parts spans) = true

-- The output of the plan `p` is cut into parts, at times or by size. Then the names of the parts have numbers. Used by `spec_of`.
abbrev pub is_split : MergePlan → Bool
is_split p = is_timed p.split || is_some p.size

-- for each of the output tracks `lanes` of a plan whether the output may be cut before its keyframes. The rule for cuts uses it. Used by `split_of`
-- and others.
abbrev pub drivers_of : List PlannedLane → List Bool
drivers_of lanes = map (λ (l : PlannedLane). l.drives) lanes

-- The output may be cut before keyframes of the output track with the number `lane`, counted from 1; `drivers` has this for each. `split_of` uses it.
abbrev pub drives_by : List Bool → ℕ → Bool
drives_by drivers lane = unwrap_or (slice_get drivers (lane - 1)) false

-- the rule of the plan `p` for cuts of its merged list: times or size, the nanoseconds of a tick, and the output tracks that decide. `outputs_in`
-- uses it.
abbrev pub split_of : MergePlan → Split
split_of p = record { spec = p.split; size = p.size; scale = p.limits.scale; drives = drives_by (drivers_of p.lanes) }

-- ---- names

-- the name of the part with the number `number`, counted from 1, of the output `output`, or of the whole output without `split`. `output_in` uses it.
abbrev pub name_of : Bool → List ℕ → ℕ → List ℕ
name_of split output number = if split then part_name output number else output

-- An output of a merge may have the name `name`: it is `output`, or with `split` it could be the name of one of its parts. A merge may not write
-- other files.
abbrev pub may_be_written : Bool → List ℕ → List ℕ → Bool
may_be_written split output name = if split then is_part_name output name else bytes_eq output name

-- ---- elements outside the Clusters of a part

-- the period of a part in nanoseconds. Its `start` and `end` are in ticks of `scale` nanoseconds; without an end it lasts to the end of the output.
-- The Chapters of the part are cut to it. `document_with` uses it.
abbrev pub stretch_of : ℕ → ℕ → Option ℕ → Stretch
stretch_of scale start end = record { from = start * scale; to = option_map (λ tick. tick * scale) end }

-- the Chapters of a part of an output: with `split` the ones in its period `stretch`, otherwise all of `chapters`. None means that the part has none.
abbrev pub chapters_of : Bool → Option Node → Stretch → Option Node
chapters_of split chapters stretch = if split then option_and_then (cut stretch) chapters else chapters

-- the Elements before the first Cluster of the part with the number `number`, counted from 1, given the ones of an uncut output, `front`. It has its
-- own identifiers from `uuids`, with the neighbours' if `link`, and only the first part has attached files. Used by `spec_at`.
abbrev pub front_of : List ℕ → Bool → Front → ℕ → Front
front_of uuids link front number = record front {
  info = with_uuids (uuids_at uuids link number) front.info;
  attachments = if number == 1 then front.attachments else [];
}

-- the document of the part `part` of an output with the description `o`: its Clusters, and the Elements around them. The live files `f` have the
-- attached files. `output_in` uses it.
abbrev pub document_with : LiveFiles → OutputSpec → Part → Document
document_with f o part =
    document_of o.limits o.rules (front_with f o.front) (chapters_of o.split o.chapters (stretch_of o.limits.scale part.start part.end)) o.tags part.blocks

-- ---- outputs

-- an output of a merge as it will be written: its name, its blocks, and its document. The contract of `merge` has a list of them.
pub record PlannedOutput : Type 0 where
  pub name : List ℕ
  pub blocks : List OutputBlock
  pub document : Document

-- the description of the part with the number `number`, counted from 1, given the common one, `o`. `output_in` uses it.
abbrev pub spec_at : OutputSpec → ℕ → OutputSpec
spec_at o number = record o { front = front_of o.uuids o.link o.front number }

-- the output for the part `part` with the number `number`, counted from 1: its name, blocks and document. `o` is the common description, and the live
-- files `f` have the attached files. `outputs_from` uses it.
abbrev pub output_in : LiveFiles → OutputSpec → ℕ → Part → PlannedOutput
output_in f o number part = record { name = name_of o.split o.name number; blocks = part.blocks; document = document_with f (spec_at o number) part }

-- the outputs for the parts in a list, the first with the number `number`, counted from 1. `o` is the common description, and `f` are the live files.
-- `outputs_in` uses them.
abbrev pub outputs_from : LiveFiles → OutputSpec → ℕ → List Part → List PlannedOutput
outputs_from f o number [] = []
outputs_from f o number (part ∷ more) = output_in f o number part ∷ outputs_from f o (suc number) more

-- the description that all outputs of the plan `p` share. `outputs_in` uses it.
abbrev pub spec_of : MergePlan → OutputSpec
spec_of p = record {
  name = p.output;
  split = is_split p;
  limits = p.limits;
  rules = rules_of p.lanes;
  front = p.front;
  chapters = p.chapters;
  tags = p.tags;
  uuids = p.uuids;
  link = p.link;
}

-- the outputs of the plan `p`, in the order of writing, by the contents of the live files `f`. The summary of a merge, and the contract of the
-- remuxer, have them. Used by `WholeIsOneOutput` and `IsSummary`.
abbrev pub outputs_in : LiveFiles → MergePlan → List PlannedOutput
outputs_in f p = outputs_from f (spec_of p) 1 (parts (split_of p) (blocks_of f p))

-- A plan `p` without cuts has only one output, with all blocks of the merged list. `f` are the live files. The law `whole_is_one_output` states it.
abbrev pub WholeIsOneOutput : Type 0
WholeIsOneOutput =
    (f : LiveFiles) (p : MergePlan) → p.split ≡ Whole → p.size ≡ None → outputs_in f p ≡ record { name = p.output; blocks = blocks_of f p; document = document_in f p } ∷ []
