-- The output of a plan without cuts.
use Rattle.std.specs.Prelude.{List, map}
use Rattle.mkv_io.specs.LiveFiles.{LiveFiles}
use Rattle.output_model.specs.OutputBlock.{OutputBlock}
use Rattle.output_model.specs.Document.{Document}
use Rattle.output_model.specs.Front.{front_with}
use Rattle.output_model.specs.declared.front.Front.{Front}
use Rattle.merge_model.specs.Merged.{merged}
use Rattle.merge_model.specs.declared.link.Link.{Link}
use Rattle.output_model.specs.Cued.{document_of}
use Rattle.output_model.specs.declared.rule.CueRule.{CueRule}
use Rattle.merge_model.specs.FileLinks.{lanes_over}
use Rattle.remux_plan.specs.declared.plan.MergePlan.{MergePlan}
use Rattle.remux_plan.specs.declared.plan.PlannedLane.{PlannedLane}
use Rattle.remux_plan.specs.Uuids.{uuids_at, with_uuids}

-- the links of the output tracks `lanes`, to the tracks whose blocks they get. `blocks_of` uses them.
abbrev pub links_of : List PlannedLane → List (List Link)
links_of lanes = map (λ (l : PlannedLane). l.spec.links) lanes

-- the rules for cue points of the output tracks `lanes`. `document_in` uses them.
abbrev pub rules_of : List PlannedLane → List CueRule
rules_of lanes = map (λ (l : PlannedLane). l.cues) lanes

-- the merged list of all output tracks of the plan `p`, by the contents of the live files `f`. Outputs are made of it. Used by `outputs_in`,
-- `WholeIsOneOutput` and others.
abbrev pub blocks_of : LiveFiles → MergePlan → List OutputBlock
blocks_of f p = merged (lanes_over f p.limits.scale (links_of p.lanes))

-- the Elements before the first Cluster of the only output of the plan `p`. `document_in` uses them.
abbrev pub front_in : MergePlan → Front
front_in p = record p.front { info = with_uuids (uuids_at p.uuids p.link 1) p.front.info }

-- the document of the only output of the plan `p`: Elements before the first Cluster, the merged list in Clusters, cue points, Chapters and Tags. `f`
-- are the live files. Used by `WholeIsOneOutput`.
abbrev pub document_in : LiveFiles → MergePlan → Document
document_in f p = document_of p.limits (rules_of p.lanes) (front_with f (front_in p)) p.chapters p.tags (blocks_of f p)
