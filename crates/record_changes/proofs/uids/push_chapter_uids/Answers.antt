-- The identifiers of one more edition are appended.
use Rattle.mkv_schema.specs.declared.ids.TheConstants.{CHAPTER_UID}
use Rattle.record_changes.specs.Atoms.{value_in}
use Rattle.record_changes.proofs.ChapterFacts.{edition-in}
use Rattle.record_changes.proofs.StandLemmas.{read-if}
use Rattle.record_changes.proofs.AtomLemmas.{inside-step, uids-grown}
use Rattle.record_changes.proofs.uids.push_chapter_uids.Goals as goal

pub push_uids_inside-requires : goal.push_uids_inside-requires
push_uids_inside-requires c = read-if _ _ _ _ _ _ edition-in c.requires c.children-child-items.ensures.exact c.loop-child-test.true c.child-item.is

pub loop-child-preserved : goal.loop-child-preserved
loop-child-preserved c =
    uids-grown (value_in CHAPTER_UID) _ _ _ _ _ _ (inside-step _ _ _ c.loop-child-test.true c.child-item.is) c.loop-child.invariant c.in_ok-push_uids_inside.ensures
