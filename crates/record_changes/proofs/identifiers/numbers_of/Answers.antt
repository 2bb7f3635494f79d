-- Each number is new, and is appended.
use Rattle.std.proofs.Common.{◌++◌, refl, ap, arith, length}
use Rattle.record_changes.specs.Identifiers.{renumbered_from}
use Rattle.record_changes.proofs.TakenLemmas.{numbers-next, next-pushed, few-pushed, first-next}
use Rattle.record_changes.proofs.identifiers.numbers_of.Goals as goal

pub loop-uid-init : goal.loop-uid-init
loop-uid-init c = record {
  all = ap (λ given. given ++ renumbered_from c.args.uids.now given c.args.uids.now) c.new-given.ensures.empty;
  next = first-next _;
  few = omega (arith, ap length c.new-given.ensures.empty);
}

pub number_for-requires : goal.number_for-requires
number_for-requires c = let few = c.loop-uid.invariant.few in record { next = c.loop-uid.invariant.next; room = omega arith }

pub loop-uid-preserved : goal.loop-uid-preserved
loop-uid-preserved c =
    let keys = c.in_ok-insert.ensures.keys in
    record {
      all = numbers-next c.args.source.now c.args.uids.now c.requires.source _ _ _ _ _ c.loop-uid-test.true refl c.number_for.ensures.exact keys c.loop-uid.invariant.all;
      next = next-pushed c.args.source.now c.loop-uid.given c.insert.new.self _ keys _ c.number_for.ensures.next;
      few = few-pushed c.args.source.now c.loop-uid.given c.insert.new.self _ keys _ c.loop-uid.invariant.few;
    }
