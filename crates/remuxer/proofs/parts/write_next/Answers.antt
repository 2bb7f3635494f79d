use Rattle.std.proofs.Common.{◌≡◌, ◌<◌, ◌+◌, ◌^◌, ℕ, List, [], ◌∷◌, ◌++◌, length, sym, ◌∙◌, ap, subst, arith}
use Rattle.std.proofs.lemmas.Result.{err_from_is_err_and}
use Rattle.std.proofs.lemmas.List.{length-append}
use Rattle.mkv_io.specs.Names.{Names}
use Rattle.mkv_io.specs.Sources.{live_files}
use Rattle.mkv_io.specs.Writing.{KeepsOthers}
use Rattle.mkv_io.proofs.WritingLemmas.{KeepsOthers-then}
use Rattle.mkv_io.proofs.EndsLemmas.{HasRemuxCause-read, HasRemuxCause-then}
use Rattle.mkv_outputs.specs.Drafts.{AreWrittenInOrder}
use Rattle.output_model.specs.Document.{Document}
use Rattle.output_model.specs.declared.attachment.Attachment.{Attachment}
use Rattle.cues_seekhead.specs.Draft.{draft_of}
use Rattle.remux_plan.specs.Parts.{document_with}
use Rattle.remux_plan.specs.declared.output.OutputSpec.{OutputSpec}
use Rattle.remux_plan.specs.declared.summary.Written.{Written}
use Rattle.remuxer.specs.Output.{HasRecords, KeepsUnwritten, TellsOwn, WritesLayout, data_of, next_name, own_name, own_spec}
use Rattle.remuxer.specs.Places.{part_in}
use Rattle.remuxer.proofs.OutputLemmas.{whole-in_turn}
use Rattle.remuxer.proofs.OutputsLemmas.{keeps-one, named-so, unwritten-apart}
use Rattle.remuxer.proofs.TakingLemmas.{OnlyRead, goes-more, only-read, read-keeps}
use Rattle.remuxer.proofs.parts.write_next.Given.{Over}
use Rattle.remuxer.proofs.parts.write_next.Goals as goal
use Rattle.remuxer.proofs.parts.write_next.Goals.{After-write_own}

-- ---- the output

num : (g : Over) (c : After-write_own g) → length c.as_slice.result.now + 1 ≡ length c.args.written.now + 1
num g c = ap (λ (ws : List Written). length ws + 1) c.as_slice.ensures

pub write_own-requires : goal.write_own-requires
write_own-requires g c =
    let spec = c.args.spec.now in
    let number = length c.as_slice.result.now + 1 in
    let same : number ≡ length c.args.written.now + 1 = ap (λ (ws : List Written). length ws + 1) c.as_slice.ensures in
    let few : number < 2 ^ 64 = omega arith in
    record {
      gives = c.requires.gives;
      begun = c.requires.begun;
      scale = c.requires.scale;
      apart = unwritten-apart (g.F.Files.holder c.args.files.now) spec.split spec.name (own_name spec number) c.args.blocks.now.merge (named-so spec.split spec.name number few) c.requires.apart;
      records = subst (λ (n : ℕ). HasRecords g.F.Reads g.F.Files c.args.files.now (own_name spec n) spec.front spec.chapters spec.tags) (sym same) c.requires.records;
    }

-- the document of the part
abbrev its : (g : Over) (c : After-write_own g) (number : ℕ) → Document
its g c number = document_with (live_files g.F.Reads c.args.files.now) (own_spec c.args.spec.now number) (part_in (live_files g.F.Reads c.args.files.now) c.args.blocks.now)

kept-one : (g : Over) (c : After-write_own g) (e : g.row.F.Denot) → KeepsOthers g.F.Reads g.F.Files (own_name c.args.spec.now (length c.as_slice.result.now + 1) ∷ []) c.args.files.now e
    → KeepsUnwritten g.F.Reads g.F.Files c.args.spec.now.split c.args.spec.now.name c.args.files.now e
kept-one g c e =
    let spec = c.args.spec.now in
    let number = length c.as_slice.result.now + 1 in
    let few : number < 2 ^ 64 = omega arith in
    keeps-one g.F.Reads g.F.Files spec.split spec.name (own_name spec number) c.args.files.now e (named-so spec.split spec.name number few)

-- The output couldn't be written.
pub returns-in_err-done-clause-writes : goal.returns-in_err-done-clause-writes
returns-in_err-done-clause-writes g c = λ told.
    let end = err_from_is_err_and c.from_residual.result c.from_residual.ensures.1 in
    let after = (goal.at.returns-in_err-done-clause-writes g c).After-write_own in
    rw end.1 (subst (λ (n : ℕ). AreWrittenInOrder (g.F.Files.names c.args.files.now) (g.F.Files.names c.write_own.new.files) (draft_of (own_name c.args.spec.now n) (its g after n) ∷ [])) (num g after) (c.in_err-done.ensures.writes told))

pub returns-in_err-done-clause-kept : goal.returns-in_err-done-clause-kept
returns-in_err-done-clause-kept g c = kept-one g (goal.at.returns-in_err-done-clause-kept g c).After-write_own c.write_own.new.files c.in_err-done.ensures.kept

-- The output is complete.
stands : (g : Over) (c : After-write_own g) → WritesLayout (g.F.Files.names c.args.files.now) (g.F.Files.names c.write_own.new.files) (own_name c.args.spec.now (length c.as_slice.result.now + 1)) (its g c (length c.as_slice.result.now + 1))
    → WritesLayout (g.F.Files.names c.args.files.now) (g.F.Files.names c.write_own.new.files) (next_name c.args.spec.now c.args.written.now) (its g c (length c.args.written.now + 1))
stands g c = subst (λ (n : ℕ). WritesLayout (g.F.Files.names c.args.files.now) (g.F.Files.names c.write_own.new.files) (own_name c.args.spec.now n) (its g c n)) (num g c)

whole : (g : Over) (c : After-write_own g) → WritesLayout (g.F.Files.names c.args.files.now) (g.F.Files.names c.write_own.new.files) (own_name c.args.spec.now (length c.as_slice.result.now + 1)) (its g c (length c.as_slice.result.now + 1))
    → AreWrittenInOrder (g.F.Files.names c.args.files.now) (g.F.Files.names c.write_own.new.files) (draft_of (next_name c.args.spec.now c.args.written.now) (its g c (length c.args.written.now + 1)) ∷ [])
whole g c wrote =
    whole-in_turn (g.F.Files.names c.args.files.now) (g.F.Files.names c.write_own.new.files) (next_name c.args.spec.now c.args.written.now) (its g c (length c.args.written.now + 1)) (stands g c wrote)

-- There is no memory for its summary.
pub returns-in_err-push-clause-writes : goal.returns-in_err-push-clause-writes
returns-in_err-push-clause-writes g c = λ told.
    let end = err_from_is_err_and c.from_residual-in_err-push.result c.from_residual-in_err-push.ensures.1 in
    rw end.1 (whole g (goal.at.returns-in_err-push-clause-writes g c).After-write_own (c.in_ok-done.ensures.writes told))

pub returns-in_err-push-clause-kept : goal.returns-in_err-push-clause-kept
returns-in_err-push-clause-kept g c = kept-one g (goal.at.returns-in_err-push-clause-kept g c).After-write_own c.write_own.new.files c.in_ok-done.ensures.kept

pub returns-in_err-push-clause-goes : goal.returns-in_err-push-clause-goes
returns-in_err-push-clause-goes g c =
    let end = err_from_is_err_and c.from_residual-in_err-push.result c.from_residual-in_err-push.ensures.1 in
    let paid = c.in_ok-done.ensures.goes.paid in
    rw end.1 (omega (arith, paid))

-- ---- the next part

pub next_part-requires-clause-gives : goal.next_part-requires-clause-gives
next_part-requires-clause-gives g c = c.in_ok-done.ensures.goes.gives

pub next_part-requires-clause-stands : goal.next_part-requires-clause-stands
next_part-requires-clause-stands g c = c.in_ok-done.ensures.finds.over.stands

-- The files were only read.
read : (g : Over) (a b : g.row.F.Denot) → g.F.Reads.standing b ≡ g.F.Reads.standing a → OnlyRead g.F.Reads g.F.Files a b
read g a b standing = only-read g.F.Reads g.F.Files a b standing g.met.F.Files.names_stand g.met.F.Files.holders_stand g.met.F.Files.given_stands g.met.F.Files.asked_stands

kept-then : (g : Over) (c : After-write_own g) (h : g.row.F.Denot) → g.F.Reads.standing h ≡ g.F.Reads.standing c.write_own.new.files → KeepsOthers g.F.Reads g.F.Files (own_name c.args.spec.now (length c.as_slice.result.now + 1) ∷ []) c.args.files.now c.write_own.new.files
    → KeepsUnwritten g.F.Reads g.F.Files c.args.spec.now.split c.args.spec.now.name c.args.files.now h
kept-then g c h standing kept =
    let names = own_name c.args.spec.now (length c.as_slice.result.now + 1) ∷ [] in
    kept-one g c h (KeepsOthers-then g.F.Reads g.F.Files names c.args.files.now c.write_own.new.files h kept (read-keeps g.F.Reads g.F.Files c.write_own.new.files h (read g c.write_own.new.files h standing) names))

-- The next part couldn't be read.
pub returns-in_err-begun-clause-writes : goal.returns-in_err-begun-clause-writes
returns-in_err-begun-clause-writes g c = λ told.
    let end = err_from_is_err_and c.from_residual-in_err-begun.result c.from_residual-in_err-begun.ensures.1 in
    let after = (goal.at.returns-in_err-begun-clause-writes g c).After-write_own in
    let d = its g after (length c.args.written.now + 1) in
    rw end.1 (subst (λ (names : Names). AreWrittenInOrder (g.F.Files.names c.args.files.now) names (draft_of (next_name c.args.spec.now c.args.written.now) d ∷ [])) (sym (read g c.write_own.new.files c.next_part.new.src c.in_err-begun.ensures.standing).names)
    (whole g after (c.in_ok-done.ensures.writes told)))

pub returns-in_err-begun-clause-kept : goal.returns-in_err-begun-clause-kept
returns-in_err-begun-clause-kept g c = kept-then g (goal.at.returns-in_err-begun-clause-kept g c).After-write_own c.next_part.new.src c.in_err-begun.ensures.standing c.in_ok-done.ensures.kept

pub returns-in_err-begun-clause-goes : goal.returns-in_err-begun-clause-goes
returns-in_err-begun-clause-goes g c =
    let end = err_from_is_err_and c.from_residual-in_err-begun.result c.from_residual-in_err-begun.ensures.1 in
    let paid = c.in_ok-done.ensures.goes.paid in
    let long = c.in_ok-done.ensures.goes.length in
    let more = c.in_err-begun.ensures.goes in
    rw end.1 (omega (arith, paid, long, more))

pub returns-in_err-begun-clause-cause : goal.returns-in_err-begun-clause-cause
returns-in_err-begun-clause-cause g c =
    let end = err_from_is_err_and c.from_residual-in_err-begun.result c.from_residual-in_err-begun.ensures.1 in
    let e = c.write_own.new.files in
    let h = c.next_part.new.src in
    rw (end.1, end.2)
    (HasRemuxCause-then g.F.Reads g.F.Files c.args.files.now e h _ c.in_ok-done.ensures.cause.reading c.in_ok-done.ensures.cause.writing
    (HasRemuxCause-read g.F.Reads g.F.Files e h c.in_err-begun.field-0.0 (g.met.F.Files.writing_stands h e c.in_err-begun.ensures.standing) c.in_err-begun.ensures.cause))

-- The next part was found, or none is left.
pub returns-clause-writes : goal.returns-clause-writes
returns-clause-writes g c = λ told.
    let after = (goal.at.returns-clause-writes g c).After-write_own in
    let e = c.write_own.new.files in
    let f = live_files g.F.Reads c.args.files.now in
    let stood = stands g after (c.in_ok-done.ensures.writes told) in
    let own = subst (λ (n : ℕ). TellsOwn f (live_files g.F.Reads e) c.args.spec.now n c.args.blocks.now c.write_own.new.blocks c.in_ok-done.done) (num g after) (c.in_ok-done.ensures.finds.told told) in
    record {
      writes = record { names = (read g e c.next_part.new.src c.in_ok-begun.ensures.standing).names ∙ stood.names; becomes = stood.becomes; short = stood.short };
      added = c.in_ok-push.ensures.ok ∙ ap (λ (w : Written). c.args.written.now ++ w ∷ []) own.says;
      behind = c.in_ok-begun.ensures.finds.found (c.in_ok-done.ensures.goes.told told).told ∙ own.behind;
    }

pub returns-clause-finds : goal.returns-clause-finds
returns-clause-finds g c =
    let done = c.in_ok-done.ensures.finds in
    let next = c.in_ok-begun.ensures.finds in
    record {
      begins = next.begins;
      spec =
          ap (λ (files : List Attachment). let o : OutputSpec = record c.write_own.new.spec { front = record c.write_own.new.spec.front { attachments = files } } in o) c.new.ensures
          ∙ ap (λ (each : OutputSpec). let o : OutputSpec = record each { front = record each.front { attachments = [] } } in o) c.in_ok-done.ensures.spec;
      count = ap (λ (ws : List Written). length ws) c.in_ok-push.ensures.ok ∙ length-append c.args.written.now _;
      on = let one = done.over.on in let other = next.on in omega (arith, one, other);
    }

pub returns-clause-goes : goal.returns-clause-goes
returns-clause-goes g c =
    goes-more g.F.Reads (data_of c.args.spec.now) c.args.files.now c.write_own.new.files c.next_part.new.src c.args.blocks.now c.write_own.new.blocks c.next_part.new.self c.in_ok-done.ensures.goes c.in_ok-begun.ensures.goes

pub returns-clause-cause : goal.returns-clause-cause
returns-clause-cause g c =
    let a = c.args.files.now in
    let e = c.write_own.new.files in
    let h = c.next_part.new.src in
    let read = only-read g.F.Reads g.F.Files e h c.in_ok-begun.ensures.standing g.met.F.Files.names_stand g.met.F.Files.holders_stand g.met.F.Files.given_stands g.met.F.Files.asked_stands in
    record {
      reading = c.in_ok-begun.ensures.cause ∙ c.in_ok-done.ensures.cause.reading;
      writing = g.met.F.Files.writing_stands h e c.in_ok-begun.ensures.standing ∙ c.in_ok-done.ensures.cause.writing;
    }

pub returns-clause-kept : goal.returns-clause-kept
returns-clause-kept g c = kept-then g (goal.at.returns-clause-kept g c).After-write_own c.next_part.new.src c.in_ok-begun.ensures.standing c.in_ok-done.ensures.kept
