use Rattle.std.proofs.Common.{◌<◌, ℕ, List, length, Option, unwrap_or, subst, sym, ap, ap₂, refl, ◌∙◌, arith}
use Rattle.std.specs.Option.{option_or}
use Rattle.std.proofs.Math.ListN.{set}
use Rattle.std.proofs.lemmas.List.{length-set, take_all}
use Rattle.mkv_outputs.specs.Sinks.{HaveBeenGiven}
use Rattle.mkv_outputs.specs.Starts.{ArePrefixes}
use Rattle.mkv_outputs.proofs.FilesLemmas.{WritesOutputs-none, WritesOutputs-then}
use Rattle.mkv_outputs.proofs.GivenLemmas.{length-same}
use Rattle.mkv_outputs.proofs.StartsLemmas.{ArePrefixes-then}
use Rattle.extractors.specs.declared.track_output.TrackOutput.{TrackOutput}
use Rattle.extractors.proofs.BadFramesLemmas.{bad_in-count, bad_of_first, bad_of_first-more}
use Rattle.extractors.proofs.BlocksLemmas.{WritesBlock-err, given_upto, given_upto-all, given_upto-begun, given_upto-more, given_upto-none, numbers_upto-all, numbers_upto-more, numbers_upto-none, numbers-at}
use Rattle.extractors.proofs.TakesLemmas.{enough-at}
use Rattle.extractors.proofs.blocks.give_block.Goals as goal

-- No output has the block yet.
pub loop-k-init : goal.loop-k-init
loop-k-init g c = record {
  has = λ b enough since blocks has. subst (HaveBeenGiven since (g.F.Files.names c.args.files.now) (g.F.Files.holder c.args.files.now) c.args.outputs.now) (sym (given_upto-none c.args.list.now blocks b)) has.given;
  numbers = λ b enough blocks is. is ∙ sym (numbers_upto-none c.args.list.now blocks b);
  bad = λ b enough. refl;
  kept = refl;
  count = refl;
  wrote = WritesOutputs-none g.F.Reads g.F.Files c.args.files.now c.args.outputs.now c.requires.open;
  writing = refl;
}

-- One more output has the block.
pub loop-k-preserved : goal.loop-k-preserved
loop-k-preserved g c =
    let k = c.loop-k.k in
    let list = c.args.list.now in
    let o = c.index-list-k.result in
    let n : ℕ = c.index.result.now in
    let below : k < length list = omega (arith, c.loop-k-test.true) in
    record {
      has = λ b enough since blocks had.
          let named = numbers-at c.loop-k.numbers.items k n list o blocks b (c.loop-k.invariant.numbers b enough blocks had.next) below c.index-list-k.is c.index.ensures in
          subst (HaveBeenGiven since (g.F.Files.names c.give_to.new.files) (g.F.Files.holder c.give_to.new.files) c.give_to.new.outputs)
          (given_upto-more k list o n blocks b below c.index-list-k.is named)
          (c.in_ok-given.ensures.gives b (enough-at list k o b c.args.cursor.now.block below c.index-list-k.is enough.each) since (given_upto k list blocks b) (c.loop-k.invariant.has b enough since blocks had));
      numbers = λ b enough blocks is.
          let here = c.loop-k.invariant.numbers b enough blocks is in
          ap (λ (ns : List ℕ). set ns k c.in_ok-given.given.next) here
          ∙ numbers_upto-more k list o n c.in_ok-given.given.next blocks b below c.index-list-k.is (numbers-at c.loop-k.numbers.items k n list o blocks b here below c.index-list-k.is c.index.ensures)
          (c.in_ok-given.ensures.number b (enough-at list k o b c.args.cursor.now.block below c.index-list-k.is enough.each));
      bad = λ b enough.
          c.or-bad.ensures
          ∙ ap₂ option_or (c.loop-k.invariant.bad b enough) (c.in_ok-given.ensures.bad b (enough-at list k o b c.args.cursor.now.block below c.index-list-k.is enough.each))
          ∙ sym (bad_of_first-more list b k o below c.index-list-k.is);
      kept = length-set c.loop-k.numbers.items k c.in_ok-given.given.next ∙ c.loop-k.invariant.kept;
      count = length-same c.loop-k.outputs c.give_to.new.outputs c.give_to.ensures.only.same ∙ c.loop-k.invariant.count;
      wrote = WritesOutputs-then g.F.Reads g.F.Files c.args.files.now c.loop-k.files c.give_to.new.files c.args.outputs.now c.loop-k.outputs c.give_to.new.outputs c.requires.open c.loop-k.invariant.wrote c.give_to.ensures.only;
      writing = c.in_ok-given.ensures.cause ∙ c.loop-k.invariant.writing;
    }

-- One output has the block in part.
pub returns-in_err-given-clause-gives : goal.returns-in_err-given-clause-gives
returns-in_err-given-clause-gives g c =
    let k = c.loop-k.k in
    let list = c.args.list.now in
    let o = c.index-list-k.result in
    let n : ℕ = c.index.result.now in
    let below : k < length list = omega (arith, c.loop-k-test.true) in
    λ b enough. WritesBlock-err g.F.Files list _ _ _ _ _ _ b c.from_residual.result c.from_residual.ensures.0
    (λ since blocks had.
    let named = numbers-at c.loop-k.numbers.items k n list o blocks b (c.loop-k.invariant.numbers b enough blocks had.next) below c.index-list-k.is c.index.ensures in
    ArePrefixes-then since _ _ _
    (subst (ArePrefixes since (g.F.Files.names c.give_to.new.files)) (given_upto-more k list o n blocks b below c.index-list-k.is named)
    (c.in_err-given.ensures.gives b (enough-at list k o b c.args.cursor.now.block below c.index-list-k.is enough.each) since (given_upto k list blocks b) (c.loop-k.invariant.has b enough since blocks had)))
    (given_upto-begun _ list blocks b))

-- Only the outputs before the failure were written.
pub returns-in_err-given-clause-only : goal.returns-in_err-given-clause-only
returns-in_err-given-clause-only g c =
    WritesOutputs-then g.F.Reads g.F.Files c.args.files.now c.loop-k.files c.give_to.new.files c.args.outputs.now c.loop-k.outputs c.give_to.new.outputs c.requires.open c.loop-k.invariant.wrote c.give_to.ensures.only

-- All outputs have the block.
pub returns-clause-gives : goal.returns-clause-gives
returns-clause-gives g c = λ b enough since blocks had.
    record {
      given = subst (HaveBeenGiven since (g.F.Files.names c.loop-k.files) (g.F.Files.holder c.loop-k.files) c.loop-k.outputs)
          (given_upto-all c.loop-k.k c.args.list.now blocks b (omega (arith, c.loop-k-test.false)))
          (c.loop-k.invariant.has b enough since blocks had);
      next = c.loop-k.invariant.numbers b enough blocks had.next ∙ numbers_upto-all c.loop-k.k c.args.list.now blocks b (omega (arith, c.loop-k-test.false));
    }

-- The first output of the track has counted the bad frames.
pub returns-clause-bad : goal.returns-clause-bad
returns-clause-bad g c = λ b enough.
    c.unwrap_or.ensures
    ∙ ap (λ (bad : Option ℕ). unwrap_or bad 0) (c.loop-k.invariant.bad b enough ∙ ap (λ (list : List TrackOutput). bad_of_first list b) (take_all c.loop-k.k c.args.list.now (omega (arith, c.loop-k-test.false))))
    ∙ bad_in-count c.args.list.now b
