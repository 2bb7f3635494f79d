use Rattle.std.proofs.Common.{sym, ◌∙◌, arith}
use Rattle.std.proofs.lemmas.Result.{err_from_is_err_and}
use Rattle.cues_seekhead.proofs.AppendingLemmas.{AppendsOnly-memory}
use Rattle.cues_seekhead.proofs.AttachingLemmas.{attached-all, attached-unbegun, attached-uncopied}
use Rattle.cues_seekhead.proofs.attaching.add_attachment.Goals as goal

-- The file that is read is unchanged.
pub copy_data-requires : goal.copy_data-requires
copy_data-requires g c =
    let kept = c.in_ok-append.ensures.kept in
    let can = c.requires.attached in
    record {
      from = kept.live c.args.attachment.now.file.n ∙ can.live;
      to = kept.live c.args.file.n ∙ c.requires.live;
      apart = λ same. can.apart (sym (kept.holders c.args.attachment.now.file.n can.live) ∙ same ∙ kept.holders c.args.file.n c.requires.live);
      inside = omega (arith, can.inside, (kept.others c.args.attachment.now.file.n (λ same. can.apart (sym same), tt)).size can.live);
      buffer = c.requires.buffer;
    }

pub returns-in_err-before : goal.returns-in_err-before
returns-in_err-before g c =
    let p = err_from_is_err_and c.from_residual.result c.from_residual.ensures.1 in
    rw (p.1, p.2) (AppendsOnly-memory g.F.Reads g.F.Files c.args.file _ _ c.args.files.now)

pub returns-in_err-behind : goal.returns-in_err-behind
returns-in_err-behind g c =
    let p = err_from_is_err_and c.from_residual-in_err-behind.result c.from_residual-in_err-behind.ensures.1 in
    rw (p.1, p.2) (AppendsOnly-memory g.F.Reads g.F.Files c.args.file _ _ c.args.files.now)

pub returns-in_err-append : goal.returns-in_err-append
returns-in_err-append g c =
    let p = err_from_is_err_and c.from_residual-in_err-append.result c.from_residual-in_err-append.ensures.1 in
    rw (p.1, p.2) (attached-unbegun g.F.Reads g.F.Files c.args.file c.args.attachment.now c.args.files.now c.append.new.files c.in_err-append.field-0.0 _ c.requires.attached
    (g.met.F.Reads.told_size (g.F.Reads.standing c.args.files.now) c.args.attachment.now.file.n) (c.as_slice.ensures ∙ c.in_ok-before.ensures) c.in_err-append.ensures)

pub returns-in_err-copy_data : goal.returns-in_err-copy_data
returns-in_err-copy_data g c =
    let p = err_from_is_err_and c.from_residual-in_err-copy_data.result c.from_residual-in_err-copy_data.ensures.1 in
    rw (p.1, p.2) (attached-uncopied g.F.Reads g.F.Files c.args.file c.args.attachment.now c.args.files.now c.append.new.files c.copy_data.new.files _ c.in_err-copy_data.field-0.0 _ c.requires.live c.requires.attached
    (g.met.F.Reads.told_size (g.F.Reads.standing c.args.files.now) c.args.attachment.now.file.n) (c.as_slice.ensures ∙ c.in_ok-before.ensures) c.in_ok-append.ensures c.in_err-copy_data.ensures)

-- The three parts of an AttachedFile are appended.
pub returns : goal.returns
returns g c =
    attached-all g.F.Reads g.F.Files c.args.file c.args.attachment.now c.args.files.now c.append.new.files c.copy_data.new.files c.append-2.new.files _ c.append-2.result _ _ c.requires.live c.requires.attached
    (g.met.F.Reads.told_size (g.F.Reads.standing c.args.files.now) c.args.attachment.now.file.n) (c.as_slice.ensures ∙ c.in_ok-before.ensures) (c.as_slice-2.ensures ∙ c.in_ok-behind.ensures)
    c.in_ok-append.ensures c.in_ok-copy_data.ensures c.append-2.ensures
