use Rattle.std.proofs.Common.{length, [], refl, ap, subst, sym, ◌∙◌, arith}
use Rattle.std.proofs.lemmas.List.{length-replicate}
use Rattle.std.proofs.lemmas.Result.{err_from_is_err_and}
use Rattle.mkv_io.specs.declared.outside.FileId.{FileId}
use Rattle.mkv_io.specs.Names.{AreOthers}
use Rattle.mkv_io.proofs.EndsLemmas.{HasRemuxCause-make, HasRemuxCause-read, HasRemuxCause-then}
use Rattle.block_format.specs.Events.{blocks_of}
use Rattle.cluster_reader.specs.Reading.{GivesBlock, LendsWanted, left_of}
use Rattle.cluster_reader.specs.declared.step.Step.TheVariants as StepOf
use Rattle.cluster_reader.proofs.ReadingLemmas.{CanRead-kept}
use Rattle.mkv_outputs.specs.Sinks.{names_under}
use Rattle.mkv_outputs.proofs.GivenLemmas.{HaveBeenGiven-part}
use Rattle.mkv_outputs.proofs.StartsLemmas.{ArePrefixes-then}
use Rattle.extractors.specs.Content.{outputs_of}
use Rattle.extractors.specs.declared.extracted.Extracted.{Extracted}
use Rattle.extractors.proofs.ContentLemmas.{outputs_of-begun}
use Rattle.extractors.proofs.BlocksLemmas.{GivesBlocks-err}
use Rattle.extractors.proofs.TakesLemmas.{enough-taken}
use Rattle.extractors.proofs.WalkLemmas.{MetSoFar-begins, MetSoFar-begun, MetSoFar-block, MetSoFar-damage, MetSoFar-ends, MetSoFar-part, MetSoFar-read, MetSoFar-told, ReadsFew-all, ReadsFew-err, WritesAndReads-none, WritesAndReads-read, WritesAndReads-write, input-other}
use Rattle.extractors.proofs.blocks.write_blocks.Goals as goal

-- Nothing is done yet.
pub steps-init : goal.steps-init
steps-init g c =
    let ones = c.in_ok-numbers.ensures.items_if_clones_equal (λ y is. is) in
    record {
      so = λ bytes told.
          MetSoFar-begins g.F.Files c.args.list.now c.args.files.now c.args.outputs.now c.in_ok-numbers.numbers.items (left_of bytes c.args.cursor.now) c.in_ok-told.told.damages c.in_ok-told.told.bad_frames ones
          (ap (λ (e : Extracted). e.damages) c.in_ok-told.ensures) (ap (λ (e : Extracted). e.bad_frames) c.in_ok-told.ensures);
      count = ap length ones ∙ length-replicate (length c.args.list.now) 1;
      ready = c.requires.stands;
      file = refl;
      walks = WritesAndReads-none g.F.Reads g.F.Files c.args.files.now c.args.outputs.now c.requires.open;
      pays = omega arith;
      most = c.requires.stands.before.within;
      writing = refl;
      reading = refl;
    }

-- Memory for the numbers ran out, and nothing was written.
pub returns-in_err-numbers-clause-gives : goal.returns-in_err-numbers-clause-gives
returns-in_err-numbers-clause-gives g c = λ bytes told.
    GivesBlocks-err g.F.Files c.args.list.now c.args.files.now c.args.files.now c.args.outputs.now c.args.outputs.now (blocks_of (left_of bytes c.args.cursor.now)) c.from_residual.result c.from_residual.ensures.0
    (λ since has. ArePrefixes-then since (g.F.Files.names c.args.files.now) (outputs_of c.args.list.now []) (outputs_of c.args.list.now (blocks_of (left_of bytes c.args.cursor.now)))
    (HaveBeenGiven-part since (g.F.Files.names c.args.files.now) (g.F.Files.holder c.args.files.now) c.args.outputs.now (outputs_of c.args.list.now []) has)
    (outputs_of-begun c.args.list.now [] (blocks_of (left_of bytes c.args.cursor.now))))

-- Memory for the report ran out, and nothing was written.
pub returns-in_err-told-clause-gives : goal.returns-in_err-told-clause-gives
returns-in_err-told-clause-gives g c = λ bytes told.
    GivesBlocks-err g.F.Files c.args.list.now c.args.files.now c.args.files.now c.args.outputs.now c.args.outputs.now (blocks_of (left_of bytes c.args.cursor.now)) c.from_residual-in_err-told.result c.from_residual-in_err-told.ensures.0
    (λ since has. ArePrefixes-then since (g.F.Files.names c.args.files.now) (outputs_of c.args.list.now []) (outputs_of c.args.list.now (blocks_of (left_of bytes c.args.cursor.now)))
    (HaveBeenGiven-part since (g.F.Files.names c.args.files.now) (g.F.Files.holder c.args.files.now) c.args.outputs.now (outputs_of c.args.list.now []) has)
    (outputs_of-begun c.args.list.now [] (blocks_of (left_of bytes c.args.cursor.now))))

-- The cursor couldn't advance.
pub returns-in_err-advance_for-clause-gives : goal.returns-in_err-advance_for-clause-gives
returns-in_err-advance_for-clause-gives g c = λ bytes told.
    let names_same = g.met.F.Files.names_stand c.advance_for.new.src c.steps.files c.advance_for.ensures.standing in
    let holders_same = g.met.F.Files.holders_stand c.advance_for.new.src c.steps.files c.advance_for.ensures.standing in
    GivesBlocks-err g.F.Files c.args.list.now c.args.files.now c.advance_for.new.src c.args.outputs.now c.steps.outputs (blocks_of (left_of bytes c.args.cursor.now)) c.from_residual-in_err-advance_for.result c.from_residual-in_err-advance_for.ensures.0
    (MetSoFar-begun g.F.Files c.args.list.now c.args.files.now c.advance_for.new.src c.args.outputs.now c.steps.outputs c.steps.numbers.items (left_of bytes c.args.cursor.now) (left_of bytes c.steps.cursor) c.steps.told.damages c.steps.told.bad_frames
    (MetSoFar-read g.F.Files c.args.list.now c.args.files.now c.steps.files c.advance_for.new.src c.args.outputs.now c.steps.outputs c.steps.numbers.items (left_of bytes c.args.cursor.now) (left_of bytes c.steps.cursor) c.steps.told.damages c.steps.told.bad_frames (c.steps.invariant.so bytes told) names_same holders_same))

pub returns-in_err-advance_for-clause-walks : goal.returns-in_err-advance_for-clause-walks
returns-in_err-advance_for-clause-walks g c =
    let holders_same = g.met.F.Files.holders_stand c.advance_for.new.src c.steps.files c.advance_for.ensures.standing in
    let given_same = g.met.F.Files.given_stands c.advance_for.new.src c.steps.files c.advance_for.ensures.standing in
    let asked_same = g.met.F.Files.asked_stands c.advance_for.new.src c.steps.files c.advance_for.ensures.standing in
    WritesAndReads-read g.F.Reads g.F.Files c.args.files.now c.steps.files c.advance_for.new.src c.args.outputs.now c.steps.outputs c.steps.invariant.walks c.advance_for.ensures.standing given_same holders_same asked_same

pub returns-in_err-advance_for-clause-cause : goal.returns-in_err-advance_for-clause-cause
returns-in_err-advance_for-clause-cause g c =
    let p = err_from_is_err_and c.from_residual-in_err-advance_for.result c.from_residual-in_err-advance_for.ensures.1 in
    rw (p.1, p.2)
    (HasRemuxCause-then g.F.Reads g.F.Files c.args.files.now c.steps.files c.advance_for.new.src _ c.steps.invariant.reading c.steps.invariant.writing
    (HasRemuxCause-read g.F.Reads g.F.Files c.steps.files c.advance_for.new.src c.in_err-advance_for.field-0.0
    (g.met.F.Files.writing_stands c.advance_for.new.src c.steps.files c.advance_for.ensures.standing) c.in_err-advance_for.ensures.cause))

pub returns-in_err-advance_for-clause-octets : goal.returns-in_err-advance_for-clause-octets
returns-in_err-advance_for-clause-octets g c =
    let same = c.steps.invariant.walks.kept.others c.args.cursor.now.file.n c.requires.other in
    let size = ap (λ (f : FileId). (g.F.Reads.files (g.F.Reads.standing c.steps.files)).size f.n) c.steps.invariant.file ∙ same.size c.requires.stands.live in
    let pays = c.in_err-advance_for.ensures.spends.pays in
    let most = c.in_err-advance_for.ensures.spends.most in
    ReadsFew-err _ _ _ c.from_residual-in_err-advance_for.result c.from_residual-in_err-advance_for.ensures.0 (omega (arith, c.steps.invariant.pays, pays, most, size))

-- A block was added.
pub steps-preserved-in-Continue-branch-5 : goal.steps-preserved-in-Continue-branch-5
steps-preserved-in-Continue-branch-5 g c =
    let give = c.in_ok-take_block-in-Block.ensures in
    let names_same = g.met.F.Files.names_stand c.advance_for.new.src c.steps.files c.advance_for.ensures.standing in
    let holders_same = g.met.F.Files.holders_stand c.advance_for.new.src c.steps.files c.advance_for.ensures.standing in
    let given_same = g.met.F.Files.given_stands c.advance_for.new.src c.steps.files c.advance_for.ensures.standing in
    let asked_same = g.met.F.Files.asked_stands c.advance_for.new.src c.steps.files c.advance_for.ensures.standing in
    let same = c.steps.invariant.walks.kept.others c.args.cursor.now.file.n c.requires.other in
    let size = ap (λ (f : FileId). (g.F.Reads.files (g.F.Reads.standing c.steps.files)).size f.n) c.steps.invariant.file ∙ same.size c.requires.stands.live in
    let file_same = c.advance_for.ensures.moves.same.file ∙ c.steps.invariant.file in
    let walks = WritesAndReads-read g.F.Reads g.F.Files c.args.files.now c.steps.files c.advance_for.new.src c.args.outputs.now c.steps.outputs c.steps.invariant.walks c.advance_for.ensures.standing given_same holders_same asked_same in
    let other : AreOthers (g.F.Files.holder c.advance_for.new.src c.advance_for.new.self.file.n) (names_under g.F.Files c.advance_for.new.src c.steps.outputs) =
    subst (λ (f : FileId). AreOthers (g.F.Files.holder c.advance_for.new.src f.n) (names_under g.F.Files c.advance_for.new.src c.steps.outputs)) (sym file_same)
    (input-other g.F.Reads g.F.Files c.args.files.now c.advance_for.new.src c.args.outputs.now c.steps.outputs c.args.cursor.now.file.n c.requires.open walks c.requires.stands.live c.requires.other) in
    record {
      so = λ bytes told.
          let here = ap (λ (f : FileId). (g.F.Reads.files (g.F.Reads.standing c.steps.files)).content f.n) c.steps.invariant.file ∙ same.content c.requires.stands.live ∙ told in
          let gives : GivesBlock c.takes_of-takes.result bytes c.steps.cursor c.advance_for.new.self = rw c.in-Block.is at (c.in_ok-advance_for.ensures.gives bytes here) in
          let lends : LendsWanted c.takes_of-takes.result StepOf.Block c.advance_for.new.self.block = rw c.in-Block.is at c.in_ok-advance_for.ensures.moves.lends in
          let enough = enough-taken c.args.list.now c.takes_of-takes.result gives.given c.advance_for.new.self.block c.takes_of-takes.ensures gives.known lends in
          MetSoFar-block g.F.Files c.args.list.now c.args.files.now c.advance_for.new.src c.take_block.new.files c.args.outputs.now c.steps.outputs c.take_block.new.outputs c.steps.numbers.items c.take_block.new.numbers.items (left_of bytes c.args.cursor.now) (left_of bytes c.steps.cursor) (left_of bytes c.advance_for.new.self) c.steps.told.damages c.steps.told.bad_frames c.take_block.new.bad gives.given
          (MetSoFar-read g.F.Files c.args.list.now c.args.files.now c.steps.files c.advance_for.new.src c.args.outputs.now c.steps.outputs c.steps.numbers.items (left_of bytes c.args.cursor.now) (left_of bytes c.steps.cursor) c.steps.told.damages c.steps.told.bad_frames (c.steps.invariant.so bytes told) names_same holders_same)
          gives.left (give.gives gives.given enough) (give.tells gives.given enough);
      count = c.take_block.ensures.count ∙ c.steps.invariant.count;
      ready = CanRead-kept (g.F.Reads.files (g.F.Reads.standing c.advance_for.new.src)) (g.F.Reads.files (g.F.Reads.standing c.take_block.new.files)) c.advance_for.new.self
          (give.only.only.kept.others c.advance_for.new.self.file.n other) c.advance_for.ensures.stands;
      file = file_same;
      walks = WritesAndReads-write g.F.Reads g.F.Files c.args.files.now c.advance_for.new.src c.take_block.new.files c.args.outputs.now c.steps.outputs c.take_block.new.outputs c.requires.open walks give.only;
      pays = omega (arith, c.steps.invariant.pays, c.in_ok-advance_for.ensures.spends.pays, give.only.only.octets);
      most = omega (arith, c.in_ok-advance_for.ensures.spends.most, size);
      writing = give.cause ∙ g.met.F.Files.writing_stands c.advance_for.new.src c.steps.files c.advance_for.ensures.standing ∙ c.steps.invariant.writing;
      reading = give.only.only.reading ∙ c.in_ok-advance_for.ensures.cause ∙ c.steps.invariant.reading;
    }

-- A block was added in part.
pub returns-in_err-take_block-in-Block-clause-gives : goal.returns-in_err-take_block-in-Block-clause-gives
returns-in_err-take_block-in-Block-clause-gives g c = λ bytes told.
    let names_same = g.met.F.Files.names_stand c.advance_for.new.src c.steps.files c.advance_for.ensures.standing in
    let holders_same = g.met.F.Files.holders_stand c.advance_for.new.src c.steps.files c.advance_for.ensures.standing in
    let same = c.steps.invariant.walks.kept.others c.args.cursor.now.file.n c.requires.other in
    let here = ap (λ (f : FileId). (g.F.Reads.files (g.F.Reads.standing c.steps.files)).content f.n) c.steps.invariant.file ∙ same.content c.requires.stands.live ∙ told in
    let gives : GivesBlock c.takes_of-takes.result bytes c.steps.cursor c.advance_for.new.self = rw c.in-Block.is at (c.in_ok-advance_for.ensures.gives bytes here) in
    let lends : LendsWanted c.takes_of-takes.result StepOf.Block c.advance_for.new.self.block = rw c.in-Block.is at c.in_ok-advance_for.ensures.moves.lends in
    let enough = enough-taken c.args.list.now c.takes_of-takes.result gives.given c.advance_for.new.self.block c.takes_of-takes.ensures gives.known lends in
    GivesBlocks-err g.F.Files c.args.list.now c.args.files.now c.take_block.new.files c.args.outputs.now c.take_block.new.outputs (blocks_of (left_of bytes c.args.cursor.now)) c.from_residual-in_err-take_block-in-Block.result c.from_residual-in_err-take_block-in-Block.ensures.0
    (MetSoFar-part g.F.Files c.args.list.now c.args.files.now c.advance_for.new.src c.take_block.new.files c.args.outputs.now c.steps.outputs c.steps.numbers.items (left_of bytes c.args.cursor.now) (left_of bytes c.steps.cursor) (left_of bytes c.advance_for.new.self) c.steps.told.damages c.steps.told.bad_frames gives.given
    (MetSoFar-read g.F.Files c.args.list.now c.args.files.now c.steps.files c.advance_for.new.src c.args.outputs.now c.steps.outputs c.steps.numbers.items (left_of bytes c.args.cursor.now) (left_of bytes c.steps.cursor) c.steps.told.damages c.steps.told.bad_frames (c.steps.invariant.so bytes told) names_same holders_same)
    gives.left (c.in_err-take_block-in-Block.ensures.gives gives.given enough))

pub returns-in_err-take_block-in-Block-clause-walks : goal.returns-in_err-take_block-in-Block-clause-walks
returns-in_err-take_block-in-Block-clause-walks g c =
    let holders_same = g.met.F.Files.holders_stand c.advance_for.new.src c.steps.files c.advance_for.ensures.standing in
    let given_same = g.met.F.Files.given_stands c.advance_for.new.src c.steps.files c.advance_for.ensures.standing in
    let asked_same = g.met.F.Files.asked_stands c.advance_for.new.src c.steps.files c.advance_for.ensures.standing in
    let walks = WritesAndReads-read g.F.Reads g.F.Files c.args.files.now c.steps.files c.advance_for.new.src c.args.outputs.now c.steps.outputs c.steps.invariant.walks c.advance_for.ensures.standing given_same holders_same asked_same in
    WritesAndReads-write g.F.Reads g.F.Files c.args.files.now c.advance_for.new.src c.take_block.new.files c.args.outputs.now c.steps.outputs c.take_block.new.outputs c.requires.open walks c.take_block.ensures.only

pub returns-in_err-take_block-in-Block-clause-cause : goal.returns-in_err-take_block-in-Block-clause-cause
returns-in_err-take_block-in-Block-clause-cause g c =
    let give = c.in_err-take_block-in-Block.ensures in
    let p = err_from_is_err_and c.from_residual-in_err-take_block-in-Block.result c.from_residual-in_err-take_block-in-Block.ensures.1 in
    rw (p.1, p.2)
    (HasRemuxCause-then g.F.Reads g.F.Files c.args.files.now c.advance_for.new.src c.take_block.new.files _
    (c.in_ok-advance_for.ensures.cause ∙ c.steps.invariant.reading)
    (g.met.F.Files.writing_stands c.advance_for.new.src c.steps.files c.advance_for.ensures.standing ∙ c.steps.invariant.writing)
    (HasRemuxCause-make g.F.Reads g.F.Files c.advance_for.new.src c.take_block.new.files c.in_err-take_block-in-Block.field-0.0 give.only.only.reading give.cause))

pub returns-in_err-take_block-in-Block-clause-octets : goal.returns-in_err-take_block-in-Block-clause-octets
returns-in_err-take_block-in-Block-clause-octets g c =
    let same = c.steps.invariant.walks.kept.others c.args.cursor.now.file.n c.requires.other in
    let size = ap (λ (f : FileId). (g.F.Reads.files (g.F.Reads.standing c.steps.files)).size f.n) c.steps.invariant.file ∙ same.size c.requires.stands.live in
    let spends = c.in_ok-advance_for.ensures.spends in
    ReadsFew-all _ _ _ c.from_residual-in_err-take_block-in-Block.result (omega (arith, c.steps.invariant.pays, spends.pays, spends.most, size, c.take_block.ensures.only.only.octets))

-- The cursor returned damage.
pub steps-preserved : goal.steps-preserved
steps-preserved g c =
    let names_same = g.met.F.Files.names_stand c.advance_for.new.src c.steps.files c.advance_for.ensures.standing in
    let holders_same = g.met.F.Files.holders_stand c.advance_for.new.src c.steps.files c.advance_for.ensures.standing in
    let given_same = g.met.F.Files.given_stands c.advance_for.new.src c.steps.files c.advance_for.ensures.standing in
    let asked_same = g.met.F.Files.asked_stands c.advance_for.new.src c.steps.files c.advance_for.ensures.standing in
    let same = c.steps.invariant.walks.kept.others c.args.cursor.now.file.n c.requires.other in
    let size = ap (λ (f : FileId). (g.F.Reads.files (g.F.Reads.standing c.steps.files)).size f.n) c.steps.invariant.file ∙ same.size c.requires.stands.live in
    record {
      so = λ bytes told.
          let here = ap (λ (f : FileId). (g.F.Reads.files (g.F.Reads.standing c.steps.files)).content f.n) c.steps.invariant.file ∙ same.content c.requires.stands.live ∙ told in
          MetSoFar-damage g.F.Files c.args.list.now c.args.files.now c.advance_for.new.src c.args.outputs.now c.steps.outputs c.steps.numbers.items (left_of bytes c.args.cursor.now) (left_of bytes c.steps.cursor) (left_of bytes c.advance_for.new.self) c.steps.told.damages c.steps.told.bad_frames c.add.new.self c.advance_for.new.self.stopped c.in-Damaged.damage
          (MetSoFar-read g.F.Files c.args.list.now c.args.files.now c.steps.files c.advance_for.new.src c.args.outputs.now c.steps.outputs c.steps.numbers.items (left_of bytes c.args.cursor.now) (left_of bytes c.steps.cursor) c.steps.told.damages c.steps.told.bad_frames (c.steps.invariant.so bytes told) names_same holders_same)
          (rw c.in-Damaged.is at (c.in_ok-advance_for.ensures.gives bytes here)) c.add.ensures;
      count = c.steps.invariant.count;
      ready = c.advance_for.ensures.stands;
      file = c.advance_for.ensures.moves.same.file ∙ c.steps.invariant.file;
      walks = WritesAndReads-read g.F.Reads g.F.Files c.args.files.now c.steps.files c.advance_for.new.src c.args.outputs.now c.steps.outputs c.steps.invariant.walks c.advance_for.ensures.standing given_same holders_same asked_same;
      pays = omega (arith, c.steps.invariant.pays, c.in_ok-advance_for.ensures.spends.pays);
      most = omega (arith, c.in_ok-advance_for.ensures.spends.most, size);
      writing = g.met.F.Files.writing_stands c.advance_for.new.src c.steps.files c.advance_for.ensures.standing ∙ c.steps.invariant.writing;
      reading = c.in_ok-advance_for.ensures.cause ∙ c.steps.invariant.reading;
    }

-- All blocks were added.
pub returns-in-End-clause-gives : goal.returns-in-End-clause-gives
returns-in-End-clause-gives g c = λ bytes told.
    let names_same = g.met.F.Files.names_stand c.advance_for.new.src c.steps.files c.advance_for.ensures.standing in
    let holders_same = g.met.F.Files.holders_stand c.advance_for.new.src c.steps.files c.advance_for.ensures.standing in
    let same = c.steps.invariant.walks.kept.others c.args.cursor.now.file.n c.requires.other in
    let here = ap (λ (f : FileId). (g.F.Reads.files (g.F.Reads.standing c.steps.files)).content f.n) c.steps.invariant.file ∙ same.content c.requires.stands.live ∙ told in
    MetSoFar-ends g.F.Files c.args.list.now c.args.files.now c.advance_for.new.src c.args.outputs.now c.steps.outputs c.steps.numbers.items (left_of bytes c.args.cursor.now) (left_of bytes c.steps.cursor) c.steps.told.damages c.steps.told.bad_frames
    (MetSoFar-read g.F.Files c.args.list.now c.args.files.now c.steps.files c.advance_for.new.src c.args.outputs.now c.steps.outputs c.steps.numbers.items (left_of bytes c.args.cursor.now) (left_of bytes c.steps.cursor) c.steps.told.damages c.steps.told.bad_frames (c.steps.invariant.so bytes told) names_same holders_same)
    (rw c.in-End.is at (c.in_ok-advance_for.ensures.gives bytes here)).0

-- All damage and bad frames were reported.
pub returns-in-End-clause-tells : goal.returns-in-End-clause-tells
returns-in-End-clause-tells g c = λ bytes told.
    let same = c.steps.invariant.walks.kept.others c.args.cursor.now.file.n c.requires.other in
    let here = ap (λ (f : FileId). (g.F.Reads.files (g.F.Reads.standing c.steps.files)).content f.n) c.steps.invariant.file ∙ same.content c.requires.stands.live ∙ told in
    MetSoFar-told g.F.Files c.args.list.now c.args.files.now c.steps.files c.args.outputs.now c.steps.outputs c.steps.numbers.items (left_of bytes c.args.cursor.now) (left_of bytes c.steps.cursor) c.steps.told
    (c.steps.invariant.so bytes told) (rw c.in-End.is at (c.in_ok-advance_for.ensures.gives bytes here)).0

-- Only the outputs were written.
pub returns-in-End-clause-walks : goal.returns-in-End-clause-walks
returns-in-End-clause-walks g c =
    let holders_same = g.met.F.Files.holders_stand c.advance_for.new.src c.steps.files c.advance_for.ensures.standing in
    let given_same = g.met.F.Files.given_stands c.advance_for.new.src c.steps.files c.advance_for.ensures.standing in
    let asked_same = g.met.F.Files.asked_stands c.advance_for.new.src c.steps.files c.advance_for.ensures.standing in
    WritesAndReads-read g.F.Reads g.F.Files c.args.files.now c.steps.files c.advance_for.new.src c.args.outputs.now c.steps.outputs c.steps.invariant.walks c.advance_for.ensures.standing given_same holders_same asked_same

pub returns-in-End-clause-octets : goal.returns-in-End-clause-octets
returns-in-End-clause-octets g c =
    let same = c.steps.invariant.walks.kept.others c.args.cursor.now.file.n c.requires.other in
    let size = ap (λ (f : FileId). (g.F.Reads.files (g.F.Reads.standing c.steps.files)).size f.n) c.steps.invariant.file ∙ same.size c.requires.stands.live in
    let spends = c.in_ok-advance_for.ensures.spends in
    omega (arith, c.steps.invariant.pays, spends.pays, spends.most, size)
