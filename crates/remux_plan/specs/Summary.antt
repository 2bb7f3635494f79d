-- The summary of a merge whose outputs are complete.
use Rattle.std.specs.Prelude.{◌≡◌, ℕ, suc, max, ◌==◌, if◌then◌else◌, List, [], ◌∷◌, length, map, find}
use Rattle.std.specs.List.{flat_map, range_with_len, zip}
use Rattle.std.specs.Option.{option_map_or}
use Rattle.mkv_io.specs.declared.damage.Damage.{Damage}
use Rattle.mkv_io.specs.Faults.{counted}
use Rattle.mkv_io.specs.LiveFiles.{LiveFiles}
use Rattle.cluster_reader.specs.ToldDamages.{ToldDamages, told_damages}
use Rattle.merge_model.specs.Lanes.{lane_damages}
use Rattle.merge_model.specs.FileLinks.{given_in}
use Rattle.remux_plan.specs.Parts.{PlannedOutput, outputs_in}
use Rattle.remux_plan.specs.declared.plan.MergePlan.{MergePlan}
use Rattle.remux_plan.specs.declared.plan.PlannedLane.{PlannedLane}
use Rattle.remux_plan.specs.declared.summary.InputDamage.{InputDamage}
use Rattle.remux_plan.specs.declared.summary.MoreDamage.{MoreDamage}
use Rattle.remux_plan.specs.declared.summary.Summary.{Summary}
use Rattle.remux_plan.specs.declared.summary.Written.{Written}

-- ---- damaged places of the inputs

-- the links of the output track `l`: for each the number of its input, counted from 0, and the damage of its file among the live files `f`, if it
-- counts. Warnings of `merge` come from it.
abbrev pub link_damages : LiveFiles → PlannedLane → List (ℕ × List Damage)
link_damages f l = zip l.inputs (lane_damages (map (given_in f) l.spec.links))

-- the damage of the input with the number `input`, counted from 0, that the output tracks `lanes` meet. `f` are the live files. All links to an input
-- have the same damage, so the first counts. `IsSummary` uses it.
abbrev pub damages_of : LiveFiles → List PlannedLane → ℕ → List Damage
damages_of f lanes input = option_map_or (λ (link : ℕ × List Damage). link.1) (find (λ (link : ℕ × List Damage). link.0 == input) (flat_map (link_damages f) lanes)) []

-- one more than the greatest number in the list, or 0 if it is empty. `linked_inputs` uses it.
abbrev pub count_to : List ℕ → ℕ
count_to [] = 0
count_to (n ∷ ns) = max (suc n) (count_to ns)

-- the numbers from 0 up to the greatest one of an input that the output tracks `lanes` read. The summary has damage for each. `IsSummary` uses them.
abbrev pub linked_inputs : List PlannedLane → List ℕ
linked_inputs lanes = range_with_len 0 (count_to (flat_map (λ (l : PlannedLane). l.inputs) lanes))

-- the first hundred damaged places of the input with the number `input`, counted from 0, for the summary of a merge. `told` has them and the number
-- of the others.
abbrev pub first_damages : ℕ → ToldDamages → List InputDamage
first_damages input told = map (λ damage. record { input = input; damage = damage }) told.first

-- the number of damaged places after the first hundred of the input with the number `input`, counted from 0, if there are any, for the summary of a
-- merge. `told` has it.
abbrev pub more_damages : ℕ → ToldDamages → List MoreDamage
more_damages input told = if told.more == 0 then [] else record { input = input; count = told.more } ∷ []

-- ---- summary

-- the summary of the complete output `o` of a merge: its name, and its numbers of blocks, Clusters and cue points. The messages of `merge` show them.
abbrev pub written_of : PlannedOutput → Written
written_of o = record {
  name = o.name;
  blocks = counted 0 (length o.blocks);
  clusters = counted 0 (length o.document.clusters);
  cues = length o.document.cues;
}

-- `s` is the summary of the merge with the plan `p`, by the contents of the live files `f`. It has its outputs, and the damaged places of the inputs.
-- The contract of the remuxer has it. Used by `SumsUp` of `remuxer`.
pub record IsSummary (f : LiveFiles) (p : MergePlan) (s : Summary) : Type 0 where
  pub outputs : s.outputs ≡ map written_of (outputs_in f p)
  pub damages : s.damages ≡ flat_map (λ input. first_damages input (told_damages (damages_of f p.lanes input))) (linked_inputs p.lanes)
  pub more : s.more ≡ flat_map (λ input. more_damages input (told_damages (damages_of f p.lanes input))) (linked_inputs p.lanes)
