use Rattle.std.proofs.Common.{◌≡◌, ◌+◌, ◌++◌, ℕ, Err, List, take, drop, sym, ap, subst, ◌∙◌, arith}
use Rattle.std.proofs.lemmas.List.{take_all}
use Rattle.std.proofs.lemmas.Result.{err_from_is_err_and}
use Rattle.mkv_io.specs.Sources.{live_files}
use Rattle.output_model.specs.declared.attachment.Attachment.{Attachment}
use Rattle.output_model.specs.Element.{octets_of}
use Rattle.output_model.specs.Document.{tree_element}
use Rattle.cues_seekhead.specs.OpenOutput.{CanAttach}
use Rattle.cues_seekhead.proofs.AppendingLemmas.{AppendsOnly-none, AppendsOnly-then, AppendsOnly-more, AppendsOnly-same, no_refusal, CanAttach-kept, attached_file-kept, attached-push, data-push}
use Rattle.cues_seekhead.proofs.AttachingLemmas.{attached_octets, data_total, attached-rest, data-rest}
use Rattle.cues_seekhead.proofs.attaching.add_each.Goals as goal

-- Nothing was appended.
pub loop-attachment-init : goal.loop-attachment-init
loop-attachment-init g c = AppendsOnly-none g.F.Reads g.F.Files c.args.file c.args.files.now 0

-- The next one can be appended.
pub add_attachment-requires : goal.add_attachment-requires
add_attachment-requires g c =
    let r = g.F.Reads in
    let f = g.F.Files in
    let start = c.args.files.now in
    let name = f.holder start c.args.file.n in
    let i = c.loop-attachment.attachment-index in
    let it = c.attachment-item.result in
    let kept = c.loop-attachment.invariant.kept in
    let P : Attachment → Type 0 = CanAttach r f start name in
    let can = subst P (sym c.attachment-item.is) (c.requires.attached i it c.loop-attachment-test.true) in
    let Q : List ℕ → Type 0 = λ n. CanAttach r f c.loop-attachment.files n it in
    record {
      live = kept.live c.args.file.n ∙ c.requires.live;
      attached = subst Q (sym (kept.holders c.args.file.n c.requires.live)) (CanAttach-kept r f name start c.loop-attachment.files it kept can);
      buffer = omega (arith, c.requires.buffer);
    }

-- The next AttachedFile was appended.
pub loop-attachment-preserved : goal.loop-attachment-preserved
loop-attachment-preserved g c =
    let r = g.F.Reads in
    let f = g.F.Files in
    let start = c.args.files.now in
    let name = f.holder start c.args.file.n in
    let i = c.loop-attachment.attachment-index in
    let it = c.attachment-item.result in
    let them = c.args.attachments.now in
    let before = c.loop-attachment.invariant in
    let P : Attachment → Type 0 = CanAttach r f start name in
    let can = subst P (sym c.attachment-item.is) (c.requires.attached i it c.loop-attachment-test.true) in
    let one = c.in_ok-add_attachment.ensures in
    let same = ap (λ n. octets_of (tree_element n)) (attached_file-kept r f name start c.loop-attachment.files it before.kept can) in
    AppendsOnly-same r f c.args.file _ (attached_octets (live_files r start) (take (i + 1) them)) _ (data_total (take (i + 1) them)) start c.add_attachment.new.files no_refusal
    (ap (λ w. attached_octets (live_files r start) (take i them) ++ w) same ∙ attached-push (live_files r start) them i it c.loop-attachment-test.true c.attachment-item.is)
    (data-push them i it c.loop-attachment-test.true c.attachment-item.is)
    (AppendsOnly-then r f c.args.file start c.loop-attachment.files c.add_attachment.new.files _ _ _ _ 0 no_refusal c.requires.live before
    (record { appended = one.appended; size = one.size; kept = one.kept; cause = record { reading = one.cause.reading; writing = one.cause.writing }; reads = one.reads }))

-- The next AttachedFile couldn't be appended.
pub returns-in_err-add_attachment : goal.returns-in_err-add_attachment
returns-in_err-add_attachment g c =
    let r = g.F.Reads in
    let f = g.F.Files in
    let start = c.args.files.now in
    let name = f.holder start c.args.file.n in
    let i = c.loop-attachment.attachment-index in
    let it = c.attachment-item.result in
    let them = c.args.attachments.now in
    let before = c.loop-attachment.invariant in
    let P : Attachment → Type 0 = CanAttach r f start name in
    let can = subst P (sym c.attachment-item.is) (c.requires.attached i it c.loop-attachment-test.true) in
    let same = ap (λ n. octets_of (tree_element n)) (attached_file-kept r f name start c.loop-attachment.files it before.kept can) in
    let p = err_from_is_err_and c.from_residual.result c.from_residual.ensures.1 in
    rw (p.1, p.2)
    (AppendsOnly-more r f c.args.file (attached_octets (live_files r start) (take (i + 1) them)) (attached_octets (live_files r start) (drop (i + 1) them)) (attached_octets (live_files r start) them)
    (data_total (take (i + 1) them)) (data_total them) start c.add_attachment.new.files c.in_err-add_attachment.field-0.0 (attached-rest (live_files r start) them (i + 1)) (data-rest them (i + 1))
    (AppendsOnly-same r f c.args.file _ (attached_octets (live_files r start) (take (i + 1) them)) _ (data_total (take (i + 1) them)) start c.add_attachment.new.files _
    (ap (λ w. attached_octets (live_files r start) (take i them) ++ w) same ∙ attached-push (live_files r start) them i it c.loop-attachment-test.true c.attachment-item.is)
    (data-push them i it c.loop-attachment-test.true c.attachment-item.is)
    (AppendsOnly-then r f c.args.file start c.loop-attachment.files c.add_attachment.new.files _ _ _ _ 0 (Err c.in_err-add_attachment.field-0.0) c.requires.live before c.in_err-add_attachment.ensures)))

-- All were appended.
pub returns : goal.returns
returns g c =
    let them = c.args.attachments.now in
    let all : take c.loop-attachment.attachment-index them ≡ them = take_all c.loop-attachment.attachment-index them c.loop-attachment-test.false in
    let whole = AppendsOnly-same g.F.Reads g.F.Files c.args.file _ (attached_octets (live_files g.F.Reads c.args.files.now) them) _ (data_total them) c.args.files.now c.loop-attachment.files no_refusal
    (ap (attached_octets (live_files g.F.Reads c.args.files.now)) all) (ap data_total all) c.loop-attachment.invariant in
    record { appended = whole.appended; size = whole.size; kept = whole.kept; cause = record { reading = whole.cause.reading; writing = whole.cause.writing }; reads = whole.reads }
