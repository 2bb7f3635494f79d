use Rattle.std.proofs.Common.{sym}
use Rattle.remuxer.proofs.InfoLemmas.{copy-room, more-none, more-step}
use Rattle.remuxer.proofs.info.add_copies.Goals as goal

pub loop-child-init : goal.loop-child-init
loop-child-init c = record { master = c.requires.master; is = sym (more-none c.args.info.now) }

pub push-requires-clause-room : goal.push-requires-clause-room
push-requires-clause-room c =
    copy-room c.args.children.now c.loop-child.child-index c.child-item.result c.in_ok-copy.field-0 c.requires.room c.loop-child-test.true c.child-item.is c.in_ok-copy.ensures

pub loop-child-preserved : goal.loop-child-preserved
loop-child-preserved c = record {
  master = c.in_ok-push.ensures.master;
  is = more-step c.args.info.now c.loop-child.info c.push.new.self c.args.children.now c.loop-child.child-index c.child-item.result c.in_ok-copy.field-0 c.loop-child-test.true c.child-item.is c.in_ok-copy.ensures
      c.loop-child.invariant.is c.in_ok-push.ensures.ok;
}
