use Rattle.std.proofs.Common.{◌++◌, ℕ, List, get_or, subst, sym, ap, refl, arith}
use Rattle.std.proofs.lemmas.Result.{err_from_is_err_and}
use Rattle.mkv_io.specs.Sources.{live_files}
use Rattle.cues_seekhead.specs.OpenOutput.{CanAttach}
use Rattle.cues_seekhead.proofs.AppendingLemmas.{AppendsOnly-more, AppendsOnly-same, AppendsOnly-then, CanAttach-kept}
use Rattle.cues_seekhead.proofs.AttachingLemmas.{attached_octets, attached-octets-kept, data_total}
use Rattle.cues_seekhead.proofs.out.write_front.Goals as goal

-- The first bytes fail.
pub returns-in_err-append : goal.returns-in_err-append
returns-in_err-append g c =
    let p = err_from_is_err_and c.from_residual.result c.from_residual.ensures.1 in
    rw (p.1, p.2) (AppendsOnly-more g.F.Reads g.F.Files c.args.file c.args.octets.now (attached_octets (live_files g.F.Reads c.args.files.now) c.args.front.now.attachments)
    (c.args.octets.now ++ attached_octets (live_files g.F.Reads c.args.files.now) c.args.front.now.attachments) 0 (data_total c.args.front.now.attachments) c.args.files.now c.append.new.files c.in_err-append.field-0.0 refl (omega arith) c.in_err-append.ensures)

-- Each one can still be attached.
pub add_attachments-requires-clause-attached : goal.add_attachments-requires-clause-attached
add_attachments-requires-clause-attached g c = rw c.as_slice.ensures (λ k d below.
    let start = c.args.files.now in
    let kept = c.in_ok-append.ensures.kept in
    let name = g.F.Files.holder start c.args.file.n in
    let it = get_or c.args.front.now.attachments k d in
    let P : List ℕ → Type 0 = λ n. CanAttach g.F.Reads g.F.Files c.append.new.files n it in
    subst P (sym (kept.holders c.args.file.n c.requires.live)) (CanAttach-kept g.F.Reads g.F.Files name start c.append.new.files it kept (c.requires.attached k d below)))

-- The attached files follow.
pub returns : goal.returns
returns g c =
    let start = c.args.files.now in
    let kept = c.in_ok-append.ensures.kept in
    let them = c.args.front.now.attachments in
    let added = rw c.as_slice.ensures at c.add_attachments.ensures in
    let same = attached-octets-kept g.F.Reads g.F.Files (g.F.Files.holder start c.args.file.n) start c.append.new.files them kept c.requires.attached in
    AppendsOnly-same g.F.Reads g.F.Files c.args.file _ (c.args.octets.now ++ attached_octets (live_files g.F.Reads start) them) _ (data_total them) start c.add_attachments.new.files c.add_attachments.result
    (ap (λ w. c.args.octets.now ++ w) same) (omega arith)
    (AppendsOnly-then g.F.Reads g.F.Files c.args.file start c.append.new.files c.add_attachments.new.files c.args.octets.now _ 0 (data_total them) _ c.add_attachments.result c.requires.live c.in_ok-append.ensures added)
