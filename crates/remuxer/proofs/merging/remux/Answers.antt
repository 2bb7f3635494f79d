use Rattle.std.proofs.Common.{ℕ, List, Ok, Err, length, sym, ◌∙◌, ap, subst, arith}
use Rattle.std.proofs.lemmas.Result.{err_from_is_err_and}
use Rattle.std.specs.List.{range_with_len}
use Rattle.mkv_io.specs.Sources.{live_files}
use Rattle.remux_plan.specs.Parts.{is_split, outputs_in}
use Rattle.remux_plan.specs.declared.TheConstants.{MAX_INPUTS}
use Rattle.remux_plan.specs.declared.summary.Written.{Written}
use Rattle.remuxer.specs.Taking.{told_by}
use Rattle.remuxer.specs.Told.{HasDamages}
use Rattle.remuxer.proofs.OutputsLemmas.{all-in_turn, keeps-none}
use Rattle.remuxer.proofs.PartLemmas.{whole-of}
use Rattle.remuxer.proofs.PlanLemmas.{merged, plan-can, plan-ends, plan-inputs, plan-keeps, plan-reads, plan-says, plan-summary, plan-told, plan-writes}
use Rattle.remuxer.proofs.StartedLemmas.{count-started}
use Rattle.remuxer.proofs.merging.remux.Goals as goal

pub start-requires-2 : goal.start-requires-2
start-requires-2 g c = omega (arith, count-started c.args.plan.limits.scale c.args.plan.lanes c.in_ok-lanes.field-0.lanes c.in_ok-lanes.ensures.lanes, c.requires.few)

pub new-cuts-requires : goal.new-cuts-requires
new-cuts-requires g c = whole-of c.args.plan.size c.args.plan.split c.requires.limit

pub write_parts-requires : goal.write_parts-requires
write_parts-requires g c =
    let it = merged g.F.Reads c.args.plan c.in_ok-lanes.ensures (c.in_ok-merge.ensures.starts (live_files g.F.Reads c.args.files.now)) c.in_ok-merge.ensures.begins c.in_ok-merge.ensures.idle c.new-cuts.ensures c.is_split.ensures in
    plan-can c.requires it

-- Nothing was written before.
pub returns-in_err-merge-clause-kept : goal.returns-in_err-merge-clause-kept
returns-in_err-merge-clause-kept g c =
    rw c.in_err-merge.ensures.idle (keeps-none g.F.Reads g.F.Files (is_split c.args.plan) c.args.plan.output c.args.files.now)

-- ---- the outputs failed

pub returns-in_err-written-clause-output : goal.returns-in_err-written-clause-output
returns-in_err-written-clause-output g c =
    let p = err_from_is_err_and c.from_residual-in_err-written.result c.from_residual-in_err-written.ensures.1 in
    let it = merged g.F.Reads c.args.plan c.in_ok-lanes.ensures (c.in_ok-merge.ensures.starts (live_files g.F.Reads c.args.files.now)) c.in_ok-merge.ensures.begins c.in_ok-merge.ensures.idle c.new-cuts.ensures c.is_split.ensures in
    rw p.1 (plan-writes c.requires it {T = List Written} c.write_parts.new.files (Err c.in_err-written.field-0.0) c.in_err-written.ensures.writes)

pub returns-in_err-written-clause-kept : goal.returns-in_err-written-clause-kept
returns-in_err-written-clause-kept g c =
    let it = merged g.F.Reads c.args.plan c.in_ok-lanes.ensures (c.in_ok-merge.ensures.starts (live_files g.F.Reads c.args.files.now)) c.in_ok-merge.ensures.begins c.in_ok-merge.ensures.idle c.new-cuts.ensures c.is_split.ensures in
    plan-keeps c.requires it c.write_parts.new.files c.in_err-written.ensures.kept

pub returns-in_err-written-clause-octets : goal.returns-in_err-written-clause-octets
returns-in_err-written-clause-octets g c =
    let it = merged g.F.Reads c.args.plan c.in_ok-lanes.ensures (c.in_ok-merge.ensures.starts (live_files g.F.Reads c.args.files.now)) c.in_ok-merge.ensures.begins c.in_ok-merge.ensures.idle c.new-cuts.ensures c.is_split.ensures in
    plan-reads c.requires it c.write_parts.new.files c.in_err-written.ensures.octets

-- ---- the summary

pub summary_of-requires : goal.summary_of-requires
summary_of-requires g c =
    let it = merged g.F.Reads c.args.plan c.in_ok-lanes.ensures (c.in_ok-merge.ensures.starts (live_files g.F.Reads c.args.files.now)) c.in_ok-merge.ensures.begins c.in_ok-merge.ensures.idle c.new-cuts.ensures c.is_split.ensures in
    ap (λ (ns : List (List ℕ)). length ns) c.as_slice.ensures ∙ plan-inputs c.requires it ∙ sym c.in_ok-written.ensures.ends.lanes

-- There is no memory for it, and all outputs are complete.
pub returns-in_err-summary-clause-output : goal.returns-in_err-summary-clause-output
returns-in_err-summary-clause-output g c = λ told.
    let p = err_from_is_err_and c.from_residual-in_err-summary.result c.from_residual-in_err-summary.ensures.1 in
    let a = c.args.files.now in
    let it = merged g.F.Reads c.args.plan c.in_ok-lanes.ensures (c.in_ok-merge.ensures.starts (live_files g.F.Reads c.args.files.now)) c.in_ok-merge.ensures.begins c.in_ok-merge.ensures.idle c.new-cuts.ensures c.is_split.ensures in
    rw p.1 (all-in_turn (g.F.Files.names a) (g.F.Files.names c.write_parts.new.files) (outputs_in (live_files g.F.Reads a) c.args.plan) (plan-writes c.requires it c.write_parts.new.files (Ok c.in_ok-written.written) c.in_ok-written.ensures.writes told))

pub returns-in_err-summary-clause-kept : goal.returns-in_err-summary-clause-kept
returns-in_err-summary-clause-kept g c =
    let it = merged g.F.Reads c.args.plan c.in_ok-lanes.ensures (c.in_ok-merge.ensures.starts (live_files g.F.Reads c.args.files.now)) c.in_ok-merge.ensures.begins c.in_ok-merge.ensures.idle c.new-cuts.ensures c.is_split.ensures in
    plan-keeps c.requires it c.write_parts.new.files c.in_ok-written.ensures.kept

pub returns-in_err-summary-clause-octets : goal.returns-in_err-summary-clause-octets
returns-in_err-summary-clause-octets g c =
    let it = merged g.F.Reads c.args.plan c.in_ok-lanes.ensures (c.in_ok-merge.ensures.starts (live_files g.F.Reads c.args.files.now)) c.in_ok-merge.ensures.begins c.in_ok-merge.ensures.idle c.new-cuts.ensures c.is_split.ensures in
    plan-reads c.requires it c.write_parts.new.files c.in_ok-written.ensures.octets

-- ---- all was written

pub returns-clause-output : goal.returns-clause-output
returns-clause-output g c =
    let it = merged g.F.Reads c.args.plan c.in_ok-lanes.ensures (c.in_ok-merge.ensures.starts (live_files g.F.Reads c.args.files.now)) c.in_ok-merge.ensures.begins c.in_ok-merge.ensures.idle c.new-cuts.ensures c.is_split.ensures in
    plan-writes c.requires it c.write_parts.new.files (Ok c.in_ok-written.written) c.in_ok-written.ensures.writes

pub returns-clause-kept : goal.returns-clause-kept
returns-clause-kept g c =
    let it = merged g.F.Reads c.args.plan c.in_ok-lanes.ensures (c.in_ok-merge.ensures.starts (live_files g.F.Reads c.args.files.now)) c.in_ok-merge.ensures.begins c.in_ok-merge.ensures.idle c.new-cuts.ensures c.is_split.ensures in
    plan-keeps c.requires it c.write_parts.new.files c.in_ok-written.ensures.kept

pub returns-clause-octets : goal.returns-clause-octets
returns-clause-octets g c =
    let it = merged g.F.Reads c.args.plan c.in_ok-lanes.ensures (c.in_ok-merge.ensures.starts (live_files g.F.Reads c.args.files.now)) c.in_ok-merge.ensures.begins c.in_ok-merge.ensures.idle c.new-cuts.ensures c.is_split.ensures in
    plan-reads c.requires it c.write_parts.new.files c.in_ok-written.ensures.octets

pub returns-clause-summary : goal.returns-clause-summary
returns-clause-summary g c = λ told.
    let it = merged g.F.Reads c.args.plan c.in_ok-lanes.ensures (c.in_ok-merge.ensures.starts (live_files g.F.Reads c.args.files.now)) c.in_ok-merge.ensures.begins c.in_ok-merge.ensures.idle c.new-cuts.ensures c.is_split.ensures in
    let m' = c.write_parts.new.blocks.merge in
    plan-summary c.requires it m' c.in_ok-summary.summary ((plan-ends c.requires it m' c.in_ok-written.ensures.ends).damages (plan-told c.requires it told))
    (c.in_ok-summary.ensures.outputs ∙ plan-says c.requires it c.in_ok-written.written c.in_ok-written.ensures.written told)
    (subst (λ (ns : List (List ℕ)). HasDamages ns (told_by m') (range_with_len 0 MAX_INPUTS) c.in_ok-summary.summary) c.as_slice.ensures c.in_ok-summary.ensures.damages)
