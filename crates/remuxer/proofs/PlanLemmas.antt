-- A plan and its merge.
use Rattle.std.proofs.Common.{◌≡◌, ◌≤◌, ◌<◌, ℕ, Bool, List, [], ◌∷◌, All, length, map, None, Result, Ok, refl, sym, ◌∙◌, ap, ap₂, subst, arith}
use Rattle.std.proofs.lemmas.List.{length-map}
use Rattle.std.proofs.lemmas.List.Elements.{All-cons, All-head, All-nil, All-tail}
use Rattle.mkv_io.specs.Sources.{live_files}
use Rattle.mkv_io.specs.declared.reads.Reads.{Ghosts}
use Rattle.mkv_io.specs.declared.files.Files as writing
use Rattle.mkv_io.specs.declared.remux_end.RemuxEnd.{RemuxEnd}
use Rattle.output_model.specs.declared.TheConstants.{MAX_LANES}
use Rattle.output_model.specs.OutputBlock.{OutputBlock}
use Rattle.cluster_reader.specs.ToldDamages.{ToldDamages, told_damages}
use Rattle.merge_model.specs.Lanes.{lane_damages}
use Rattle.merge_model.specs.FileLinks.{IsToldLink, given_in}
use Rattle.lanes.specs.Lane.{LaneSeen}
use Rattle.lanes.specs.Lane as lanes
use Rattle.time_merge.specs.Merge as merges
use Rattle.time_merge.specs.Merge.{Begins, IsTold, MergeSeen, Starts, damages, due, files_length, left}
use Rattle.time_merge.specs.declared.queue.Queue.{Queue}
use Rattle.time_merge.proofs.KeptLemmas.{started-merged}
use Rattle.splitter.specs.Sections.{Split, parts}
use Rattle.splitter.specs.Steps.{CutsSeen, new_cuts}
use Rattle.output_model.specs.declared.rule.CueRule.{CueRule}
use Rattle.remux_plan.specs.Parts.{PlannedOutput, drives_by, is_split, name_of, outputs_from, outputs_in, spec_of, split_of}
use Rattle.remux_plan.specs.Plan.{blocks_of, links_of}
use Rattle.remux_plan.specs.Summary.{IsSummary, first_damages, more_damages, written_of}
use Rattle.remux_plan.specs.declared.TheConstants.{MAX_INPUTS}
use Rattle.remux_plan.specs.declared.plan.MergePlan.{MergePlan}
use Rattle.remux_plan.specs.declared.plan.PlannedLane.{PlannedLane}
use Rattle.remux_plan.specs.declared.output.OutputSpec.{OutputSpec}
use Rattle.remux_plan.specs.declared.summary.Summary.{Summary}
use Rattle.remux_plan.specs.declared.summary.Written.{Written}
use Rattle.std.specs.List.{flat_map, range_with_len}
use Rattle.remuxer.specs.Places.{CanGive, split_in}
use Rattle.remuxer.specs.Output.{CanWriteAll, Ends, HasRecords, IsUnwritten, IsUnwrittenLink, KeepsUnwritten, ReadsParts, SaysWritten, WritesOutputs, WritesParts, outputs_left}
use Rattle.remuxer.specs.Plan.{IsPlan, IsToldPlan, ReadsFew, WritesPlan, inputs_length}
use Rattle.remuxer.specs.Started.{AreStarted, CanStart}
use Rattle.remuxer.specs.Taking.{told_by}
use Rattle.remuxer.specs.Told.{HasDamages, damages_told}
use Rattle.remuxer.specs.declared.placed.PlacedBlocks.{PlacedBlocks}
use Rattle.remuxer.specs.declared.planned.StartedLanes.{StartedLanes}
use Rattle.remuxer.proofs.StartedLemmas.{all-due, all-lengths, all-links, all-ready, all-scales, all-told, are-started, count-started}
use Rattle.remuxer.proofs.SummaryLemmas.{plan-damages}

-- A fact about the started output tracks holds in the merge.
lanes-to : (P : LaneSeen → Type 0) (qs : List Queue) (ls : List LaneSeen) → map (λ (q : Queue). q.lane) qs ≡ ls → All P ls → All (λ (q : Queue). P q.lane) qs
lanes-to P qs ls is all = step qs (subst (All P) (sym is) all)
  where
    step : (each : List Queue) → All P (map (λ (q : Queue). q.lane) each) → All (λ (q : Queue). P q.lane) each
    step [] none = All-nil (λ (q : Queue). P q.lane)
    step (q ∷ each) some =
        All-cons (λ (one : Queue). P one.lane) q each (All-head P q.lane (map (λ (one : Queue). one.lane) each) some) (step each (All-tail P q.lane (map (λ (one : Queue). one.lane) each) some))

lanes-map : {A : Type 0} (v : LaneSeen → A) (qs : List Queue) → map (λ (q : Queue). v q.lane) qs ≡ map v (map (λ (q : Queue). q.lane) qs)
lanes-map v [] = refl
lanes-map v (q ∷ qs) = ap (λ rest. v q.lane ∷ rest) (lanes-map v qs)

-- The merge of the plan was started, with its cuts, and nothing was read.
pub record IsMerged {S : Type 0} (r : Ghosts S) (a b : S) (p : MergePlan) (s : StartedLanes) (m : MergeSeen) (cuts : CutsSeen) (split : Bool) : Type 0 where
  pub started : AreStarted p.limits.scale p.lanes s
  pub starts : Starts (live_files r a) s.lanes m
  pub begins : Begins s.lanes m
  pub idle : b ≡ a
  pub cut : cuts ≡ new_cuts p.split p.size p.limits.scale
  pub same : split ≡ is_split p

pub merged : {S : Type 0} (r : Ghosts S) {a b : S} (p : MergePlan) {s : StartedLanes} {m : MergeSeen} {cuts : CutsSeen} {split : Bool} → AreStarted p.limits.scale p.lanes s → Starts (live_files r a) s.lanes m → Begins s.lanes m → b ≡ a → cuts ≡ new_cuts p.split p.size p.limits.scale → split ≡ is_split p
    → IsMerged r a b p s m cuts split
merged r p started starts begins idle cut same = record { started = started; starts = starts; begins = begins; idle = idle; cut = cut; same = same }

module _ {S : Type 0} {r : Ghosts S} {f : writing.Ghosts S} {a : S} {p : MergePlan} (plan : IsPlan r f a p) where
  -- All output tracks of the plan can be started.
  pub plan-starts : All CanStart p.lanes
  plan-starts = λ k d inside. record { few = (plan.lanes k d inside).few; small = (plan.lanes k d inside).small }

  module _ {b : S} {s : StartedLanes} {m : MergeSeen} {cuts : CutsSeen} {split : Bool} (it : IsMerged r a b p s m cuts split) where
    pub count-lanes : length s.lanes ≡ length p.lanes
    count-lanes = count-started p.limits.scale p.lanes s.lanes it.started.lanes

    count-queues : length m.queues ≡ length s.lanes
    count-queues = sym (length-map m.queues (λ (q : Queue). q.lane)) ∙ ap (λ (ls : List LaneSeen). length ls) it.begins.lanes

    pub plan-few : length m.queues ≤ MAX_LANES
    plan-few = omega (arith, count-lanes, count-queues, plan.few)

    pub plan-inputs : length s.inputs ≡ length m.queues
    plan-inputs = ap (λ (ns : List (List ℕ)). length ns) it.started.inputs ∙ length-map p.lanes (λ (l : PlannedLane). l.inputs) ∙ sym count-lanes ∙ sym count-queues

    pub plan-ready : merges.IsReady (live_files r a) m
    plan-ready = it.starts.ready (all-ready (live_files r a) p.limits.scale p.lanes s.lanes it.started.lanes (λ k d inside. (plan.lanes k d inside).live))

    pub plan-apart : IsUnwritten (f.holder a) (is_split p) p.output m
    plan-apart =
        lanes-to (λ (l : LaneSeen). All (IsUnwrittenLink (f.holder a) (is_split p) p.output) l.links) m.queues s.lanes it.begins.lanes
        (all-links (IsUnwrittenLink (f.holder a) (is_split p) p.output) p.limits.scale p.lanes s.lanes it.started.lanes (λ k d inside. (plan.lanes k d inside).apart))

    -- Blocks can be taken, and none was placed.
    pub plan-gives : CanGive (live_files r a) (record { merge = m; cuts = new_cuts p.split p.size p.limits.scale; drives = s.drives; ahead = None; start = 0 })
    plan-gives = record {
      ready = plan-ready;
      few = plan-few;
      drives = ap (λ (ds : List Bool). length ds) it.started.drives ∙ length-map p.lanes (λ (l : PlannedLane). l.drives) ∙ sym count-lanes ∙ sym count-queues;
      scales = lanes-to (λ (l : LaneSeen). l.scale ≡ p.limits.scale) m.queues s.lanes it.begins.lanes (all-scales p.limits.scale p.lanes s.lanes it.started.lanes);
      scale_some = plan.scale;
      scale = plan.scale_most;
      early = omega arith;
      empty = λ none. refl;
      limit = plan.limit;
    }

    pub plan-told : IsToldPlan (live_files r a) p → IsTold (live_files r a) m
    plan-told told =
        lanes-to (λ (l : LaneSeen). All (IsToldLink (live_files r a)) l.links) m.queues s.lanes it.begins.lanes
        (all-links (IsToldLink (live_files r a)) p.limits.scale p.lanes s.lanes it.started.lanes told)

    plan-left : left (live_files r a) m ≡ blocks_of (live_files r a) p
    plan-left = it.starts.left ∙ started-merged (live_files r a) p.limits.scale (links_of p.lanes) s.lanes (are-started (live_files r a) p.limits.scale p.lanes s.lanes it.started.lanes)

    pub plan-due : due (live_files r a) m ≡ inputs_length (live_files r a) p
    plan-due = it.starts.due ∙ all-due (live_files r a) p.limits.scale p.lanes s.lanes it.started.lanes

    pub plan-length : files_length (live_files r a) m ≡ inputs_length (live_files r a) p
    plan-length = it.starts.length ∙ all-lengths (live_files r a) p.limits.scale p.lanes s.lanes it.started.lanes

    plan-split : split_in (record { merge = m; cuts = new_cuts p.split p.size p.limits.scale; drives = s.drives; ahead = None; start = 0 }) ≡ split_of p
    plan-split = ap (λ (drivers : List Bool). let x : Split = record { spec = p.split; size = p.size; scale = p.limits.scale; drives = drives_by drivers } in x) it.started.drives

    -- the blocks of the plan, and the common part of its outputs
    abbrev pub started_blocks : PlacedBlocks
    started_blocks = record { merge = m; cuts = cuts; drives = s.drives; ahead = None; start = 0 }

    abbrev pub started_spec : OutputSpec
    started_spec = record { name = p.output; split = split; limits = p.limits; rules = s.rules; front = p.front; chapters = p.chapters; tags = p.tags; uuids = p.uuids; link = p.link }

    -- The outputs can be written.
    pub plan-can : CanWriteAll r f b started_spec started_blocks
    plan-can = subst (λ (x : S). CanWriteAll r f x started_spec started_blocks) (sym it.idle) (record {
      gives = subst (λ (c : CutsSeen). CanGive (live_files r a) (record { merge = m; cuts = c; drives = s.drives; ahead = None; start = 0 })) (sym it.cut) plan-gives;
      fresh = record { placed = ap (λ (c : CutsSeen). c.start) it.cut; start = refl };
      scale = ap (λ (c : CutsSeen). c.scale) it.cut;
      apart = subst (λ (q : Bool). IsUnwritten (f.holder a) q p.output m) (sym it.same) plan-apart;
      records = subst (λ (q : Bool). HasRecords r f a (name_of q p.output 1) p.front p.chapters p.tags) (sym it.same) plan.records;
    })

    -- The outputs are the ones of the plan.
    plan-outputs : outputs_left (live_files r a) started_spec started_blocks ≡ outputs_in (live_files r a) p
    plan-outputs =
        ap (λ (c : CutsSeen). outputs_left (live_files r a) started_spec (record { merge = m; cuts = c; drives = s.drives; ahead = None; start = 0 })) it.cut
        ∙ ap₂ (λ (each : Bool) (rules : List CueRule). outputs_left (live_files r a) (record { name = p.output; split = each; limits = p.limits; rules = rules; front = p.front; chapters = p.chapters; tags = p.tags; uuids = p.uuids; link = p.link })
        (record { merge = m; cuts = new_cuts p.split p.size p.limits.scale; drives = s.drives; ahead = None; start = 0 })) it.same it.started.rules
        ∙ ap₂ (λ (each : Split) (blocks : List OutputBlock). outputs_from (live_files r a) (spec_of p) 1 (parts each blocks)) plan-split plan-left

    -- The outputs of the plan are written.
    pub plan-writes : {T : Type 0} (now : S) (result : Result T RemuxEnd) → WritesParts r f b now started_spec started_blocks result → WritesPlan r f a now p result
    plan-writes now result writes told =
        let here = subst (λ (x : S). WritesParts r f x now started_spec started_blocks result) it.idle writes in
        subst (λ (outputs : List PlannedOutput). WritesOutputs (f.names a) (f.names now) outputs result) plan-outputs (here (plan-told told))

    -- The summaries of the outputs are right.
    pub plan-says : (written : List Written) → SaysWritten r b started_spec started_blocks (Ok written) → IsToldPlan (live_files r a) p → written ≡ map written_of (outputs_in (live_files r a) p)
    plan-says written says told =
        subst (λ (x : S). SaysWritten r x started_spec started_blocks (Ok written)) it.idle says (plan-told told) ∙ ap (map written_of) plan-outputs

    -- The bytes that are read stay within the bound.
    pub plan-reads : (now : S) → ReadsParts r b now started_spec started_blocks → ReadsFew r a now p
    plan-reads now reads =
        let here = subst (λ (x : S). ReadsParts r x now started_spec started_blocks) it.idle reads in
        omega (arith, here, plan-due, plan-length)

    -- Files of other names are unchanged.
    pub plan-keeps : (now : S) → KeepsUnwritten r f split p.output b now → KeepsUnwritten r f (is_split p) p.output a now
    plan-keeps now kept = subst (λ (x : S). KeepsUnwritten r f (is_split p) p.output x now) it.idle (subst (λ (q : Bool). KeepsUnwritten r f q p.output b now) it.same kept)

    pub plan-ends : (m' : MergeSeen) → Ends (live_files r b) m m' → Ends (live_files r a) m m'
    plan-ends m' ends = subst (λ (x : S). Ends (live_files r x) m m') it.idle ends

    -- The summary is the plan's.
    pub plan-summary : (m' : MergeSeen) (sum : Summary) → told_by m' ≡ damages (live_files r a) m → sum.outputs ≡ map written_of (outputs_in (live_files r a) p)
        → HasDamages s.inputs (told_by m') (range_with_len 0 MAX_INPUTS) sum → IsSummary (live_files r a) p sum
    plan-summary m' sum given outputs has = record {
      outputs = outputs;
      damages = has.damages ∙ ap₂ (λ (ns : List (List ℕ)) (ts : List (List ToldDamages)). flat_map (λ input. first_damages input (damages_told ns ts input)) (range_with_len 0 MAX_INPUTS)) it.started.inputs told
          ∙ plan-damages (live_files r a) p.lanes first_damages (λ input. refl) numbered inputs;
      more = has.more ∙ ap₂ (λ (ns : List (List ℕ)) (ts : List (List ToldDamages)). flat_map (λ input. more_damages input (damages_told ns ts input)) (range_with_len 0 MAX_INPUTS)) it.started.inputs told
          ∙ plan-damages (live_files r a) p.lanes more_damages (λ input. refl) numbered inputs;
    }
      where
        numbered : All (λ (l : PlannedLane). length l.inputs ≡ length l.spec.links) p.lanes
        numbered = λ k d inside. (plan.lanes k d inside).numbered

        inputs : All (λ (l : PlannedLane). All (λ n. n < MAX_INPUTS) l.inputs) p.lanes
        inputs = λ k d inside. (plan.lanes k d inside).inputs

        told : told_by m' ≡ map (λ (l : PlannedLane). map told_damages (lane_damages (map (given_in (live_files r a)) l.spec.links))) p.lanes
        told =
            given ∙ lanes-map (lanes.told_in_all (live_files r a)) m.queues ∙ ap (map (lanes.told_in_all (live_files r a))) it.begins.lanes
            ∙ all-told (live_files r a) p.limits.scale p.lanes s.lanes it.started.lanes
