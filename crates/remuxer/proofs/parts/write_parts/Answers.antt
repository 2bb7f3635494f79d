use Rattle.std.proofs.Common.{◌≡◌, List, sym, ◌∙◌, subst, arith}
use Rattle.std.proofs.lemmas.Result.{err_from_is_err_and}
use Rattle.mkv_io.specs.Names.{Names}
use Rattle.mkv_io.specs.Sources.{live_files}
use Rattle.mkv_io.proofs.EndsLemmas.{HasRemuxCause-read}
use Rattle.mkv_outputs.specs.Drafts.{AreWrittenInOrder}
use Rattle.mkv_outputs.proofs.DraftsLemmas.{AreWrittenInOrder-none}
use Rattle.remux_plan.specs.declared.summary.Written.{Written}
use Rattle.remuxer.specs.Output.{drafts_of, outputs_left}
use Rattle.remuxer.proofs.OutputsLemmas.{OnTheWay, all-summed, all-written, keeps-read, refused-next, way-apart, way-at, way-begins, way-keeps, way-next, way-records, way-refused, way-scale}
use Rattle.remuxer.proofs.TakingLemmas.{OnlyRead, merge-ends, only-read}
use Rattle.remuxer.proofs.parts.write_parts.Given.{Over}
use Rattle.remuxer.proofs.parts.write_parts.Goals as goal

-- The files were only read.
read : (g : Over) (a b : g.row.F.Denot) → g.F.Reads.standing b ≡ g.F.Reads.standing a → OnlyRead g.F.Reads g.F.Files a b
read g a b standing = only-read g.F.Reads g.F.Files a b standing g.met.F.Files.names_stand g.met.F.Files.holders_stand g.met.F.Files.given_stands g.met.F.Files.asked_stands

-- The first part couldn't be read.
pub returns-in_err-begun-clause-writes : goal.returns-in_err-begun-clause-writes
returns-in_err-begun-clause-writes g c = λ told.
    let end = err_from_is_err_and c.from_residual.result c.from_residual.ensures.1 in
    let a = c.args.files.now in
    let b = c.first_part.new.src in
    let all = drafts_of (outputs_left (live_files g.F.Reads a) c.args.spec c.args.blocks.now) in
    rw end.1 (subst (λ (names : Names). AreWrittenInOrder (g.F.Files.names a) names all) (sym (read g a b c.in_err-begun.ensures.standing).names) (AreWrittenInOrder-none (g.F.Files.names a) all))

pub returns-in_err-begun-clause-kept : goal.returns-in_err-begun-clause-kept
returns-in_err-begun-clause-kept g c =
    let a = c.args.files.now in
    let b = c.first_part.new.src in
    keeps-read g.F.Reads g.F.Files c.args.spec.split c.args.spec.name a b (read g a b c.in_err-begun.ensures.standing)

pub returns-in_err-begun-clause-cause : goal.returns-in_err-begun-clause-cause
returns-in_err-begun-clause-cause g c =
    let end = err_from_is_err_and c.from_residual.result c.from_residual.ensures.1 in
    let a = c.args.files.now in
    let b = c.first_part.new.src in
    rw (end.1, end.2) (HasRemuxCause-read g.F.Reads g.F.Files a b c.in_err-begun.field-0.0 (g.met.F.Files.writing_stands b a c.in_err-begun.ensures.standing) c.in_err-begun.ensures.cause)

-- ---- the parts

pub parts-init : goal.parts-init
parts-init g c =
    let a = c.args.files.now in
    let b = c.first_part.new.src in
    record {
      way = subst (λ (written : List Written). OnTheWay g.F.Reads g.F.Files c.args.spec a c.args.blocks.now b c.args.spec c.first_part.new.self written c.in_ok-begun.begun) (sym c.new-written.ensures)
          (way-begins g.F.Reads g.F.Files c.args.spec a c.args.blocks.now b c.first_part.new.self c.in_ok-begun.begun _ (read g a b c.in_ok-begun.ensures.standing) c.in_ok-begun.ensures.goes c.in_ok-begun.ensures.finds c.requires.records.attached);
      reading = c.in_ok-begun.ensures.cause;
      writing = g.met.F.Files.writing_stands b a c.in_ok-begun.ensures.standing;
    }

pub write_next-requires : goal.write_next-requires
write_next-requires g c =
    let r = g.F.Reads in
    let f = g.F.Files in
    let o = c.args.spec in
    let a = c.args.files.now in
    let p = c.args.blocks.now in
    let b = c.parts.files in
    let o' = c.parts.spec in
    let p' = c.parts.blocks in
    let written = c.parts.written in
    let way = way-at c.parts-test.true c.parts.invariant.way in
    record {
      gives = way.goes.gives;
      begun = way.begins;
      scale = way-scale r f o a p b o' p' written way c.requires.scale;
      apart = way-apart r f o a p b o' p' written way c.requires.apart c.requires.gives.ready;
      records = way-records r f o a p b o' p' written way c.requires.records;
    }

-- One more part is written.
pub parts-preserved : goal.parts-preserved
parts-preserved g c =
    let next = c.in_ok-begun-2.ensures in
    record {
      way = way-next g.F.Reads g.F.Files c.args.spec c.args.files.now c.args.blocks.now c.parts.files c.parts.spec c.parts.blocks c.parts.written (way-at c.parts-test.true c.parts.invariant.way)
          c.write_next.new.files c.write_next.new.spec c.write_next.new.blocks c.write_next.new.written c.in_ok-begun-2.begun next.finds next.goes next.kept next.writes;
      reading = next.cause.reading ∙ c.parts.invariant.reading;
      writing = next.cause.writing ∙ c.parts.invariant.writing;
    }

pub parts-smaller : goal.parts-smaller
parts-smaller g c =
    let on = c.in_ok-begun-2.ensures.finds.on in
    rw c.parts-test.true (omega (arith, on))

-- A part failed.
pub returns-in_err-begun-2-clause-writes : goal.returns-in_err-begun-2-clause-writes
returns-in_err-begun-2-clause-writes g c = λ told.
    let end = err_from_is_err_and c.from_residual-in_err-begun-2.result c.from_residual-in_err-begun-2.ensures.1 in
    let now = way-at c.parts-test.true c.parts.invariant.way in
    rw end.1 (refused-next g.F.Reads g.F.Files c.args.spec c.args.files.now c.args.blocks.now c.parts.files c.parts.spec c.parts.blocks c.parts.written now told (g.F.Files.names c.write_next.new.files) (c.in_err-begun-2.ensures.writes (now.goes.told told).told))

pub returns-in_err-begun-2-clause-kept : goal.returns-in_err-begun-2-clause-kept
returns-in_err-begun-2-clause-kept g c =
    way-keeps g.F.Reads g.F.Files c.args.spec c.args.files.now c.args.blocks.now c.parts.files c.parts.spec c.parts.blocks c.parts.written (way-at c.parts-test.true c.parts.invariant.way) c.write_next.new.files c.in_err-begun-2.ensures.kept

pub returns-in_err-begun-2-clause-octets : goal.returns-in_err-begun-2-clause-octets
returns-in_err-begun-2-clause-octets g c =
    way-refused g.F.Reads g.F.Files c.args.spec c.args.files.now c.args.blocks.now c.parts.files c.parts.spec c.parts.blocks c.parts.written (way-at c.parts-test.true c.parts.invariant.way) c.write_next.new.files c.in_err-begun-2.ensures.goes

-- No part is left.
pub returns-clause-writes : goal.returns-clause-writes
returns-clause-writes g c = λ told. all-written g.F.Reads g.F.Files c.args.spec c.args.files.now c.parts.files c.args.blocks.now c.parts.blocks c.parts.spec c.parts.written ((way-at c.parts-test.false c.parts.invariant.way).standing told)

pub returns-clause-written : goal.returns-clause-written
returns-clause-written g c = λ told. all-summed g.F.Reads g.F.Files c.args.spec c.args.files.now c.parts.files c.args.blocks.now c.parts.blocks c.parts.spec c.parts.written ((way-at c.parts-test.false c.parts.invariant.way).standing told)

pub returns-clause-ends : goal.returns-clause-ends
returns-clause-ends g c =
    let now = way-at c.parts-test.false c.parts.invariant.way in
    merge-ends g.F.Reads now.read c.args.files.now c.parts.files c.args.blocks.now c.parts.blocks now.goes now.begins

pub returns-clause-kept : goal.returns-clause-kept
returns-clause-kept g c = (way-at c.parts-test.false c.parts.invariant.way).kept

pub returns-clause-octets : goal.returns-clause-octets
returns-clause-octets g c =
    let now = way-at c.parts-test.false c.parts.invariant.way in
    let paid = now.goes.paid in
    let rest = now.data_left in
    omega (arith, paid, rest)
