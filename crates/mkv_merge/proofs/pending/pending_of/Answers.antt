use Rattle.std.proofs.Common.{not, ◌∙◌, ap}
use Rattle.sidecar_edit.proofs.LooksLemmas.{LooksOnly-then}
use Rattle.mkv_merge.specs.Asked.{sidecars_of}
use Rattle.mkv_merge.proofs.AskedLemmas.{looks-inputs, looks-output}
use Rattle.mkv_merge.proofs.pending.pending_of.Goals as goal
use Rattle.mkv_merge.proofs.pending.pending_of.Goals.{else-is_none-via-then-is_none+in_ok-is_pending+else-branch, else-is_none-via-else-is_none}

-- The journals of the inputs are looked at.
pub returns-in_err-input-clause-looks : goal.returns-in_err-input-clause-looks
returns-in_err-input-clause-looks g c =
    looks-inputs g.F.Reads g.F.Files c.args.words.now c.as_slice.result.now c.args.files.now c.first_pending.new.files c.as_slice.ensures c.first_pending.ensures.looks

pub returns-in-Some-clause-looks : goal.returns-in-Some-clause-looks
returns-in-Some-clause-looks g c =
    looks-inputs g.F.Reads g.F.Files c.args.words.now c.as_slice.result.now c.args.files.now c.first_pending.new.files c.as_slice.ensures c.first_pending.ensures.looks

-- Then the output's journal is looked at.
pub returns-in_err-is_pending-clause-looks : goal.returns-in_err-is_pending-clause-looks
returns-in_err-is_pending-clause-looks g c =
    LooksOnly-then g.F.Reads g.F.Files (sidecars_of c.args.words.now) c.args.files.now c.first_pending.new.files c.is_pending.new.files
    (looks-inputs g.F.Reads g.F.Files c.args.words.now c.as_slice.result.now c.args.files.now c.first_pending.new.files c.as_slice.ensures c.first_pending.ensures.looks)
    (looks-output g.F.Reads g.F.Files c.args.words.now c.as_str.result.now c.first_pending.new.files c.is_pending.new.files (c.is_none.ensures ∙ ap not c.if-is_none.true) c.as_str.ensures.same c.is_pending.ensures.looks)

pub returns-then-branch-clause-looks : goal.returns-then-branch-clause-looks
returns-then-branch-clause-looks g c =
    LooksOnly-then g.F.Reads g.F.Files (sidecars_of c.args.words.now) c.args.files.now c.first_pending.new.files c.is_pending.new.files
    (looks-inputs g.F.Reads g.F.Files c.args.words.now c.as_slice.result.now c.args.files.now c.first_pending.new.files c.as_slice.ensures c.first_pending.ensures.looks)
    (looks-output g.F.Reads g.F.Files c.args.words.now c.as_str.result.now c.first_pending.new.files c.is_pending.new.files (c.is_none.ensures ∙ ap not c.if-is_none.true) c.as_str.ensures.same c.is_pending.ensures.looks)

-- No other journal is looked at if the output is split.
pub returns-clause-looks : goal.returns-clause-looks
returns-clause-looks g c =
    let words = c.args.words.now in
    let first = looks-inputs g.F.Reads g.F.Files words c.as_slice.result.now c.args.files.now c.first_pending.new.files c.as_slice.ensures c.first_pending.ensures.looks in
    elim c.else-is_none.branch [
      | else-is_none-via-then-is_none+in_ok-is_pending+else-branch w ↦
          rw w.files-is
          (LooksOnly-then g.F.Reads g.F.Files (sidecars_of words) c.args.files.now c.first_pending.new.files w.is_pending.new.files first
          (looks-output g.F.Reads g.F.Files words w.as_str.result.now c.first_pending.new.files w.is_pending.new.files (c.is_none.ensures ∙ ap not w.if-is_none.true) w.as_str.ensures.same w.is_pending.ensures.looks))
      | else-is_none-via-else-is_none w ↦ rw w.files-is first
    ]
