-- The start of one more atom is appended.
use Rattle.mkv_schema.specs.declared.ids.TheConstants.{CHAPTER_ATOM}
use Rattle.record_changes.specs.Cut.{start_of}
use Rattle.record_changes.proofs.ChapterFacts.{atom-in_edition}
use Rattle.record_changes.proofs.StandLemmas.{read-if}
use Rattle.record_changes.proofs.AtomLemmas.{part-step, uids-grown}
use Rattle.record_changes.proofs.starts.push_starts.Goals as goal

pub push_start-requires : goal.push_start-requires
push_start-requires c = read-if _ _ _ _ _ _ atom-in_edition c.requires c.children-child-items.ensures.exact c.loop-child-test.true c.child-item.is

pub loop-child-preserved : goal.loop-child-preserved
loop-child-preserved c =
    uids-grown start_of _ _ _ _ _ _ (part-step CHAPTER_ATOM _ _ _ c.loop-child-test.true c.child-item.is) c.loop-child.invariant c.in_ok-push_start.ensures
