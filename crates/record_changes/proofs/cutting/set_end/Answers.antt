-- An end is set if present; otherwise nothing changes.
use Rattle.std.proofs.Common.{◌∷◌, [], OnOk, sym, subst}
use Rattle.mkv_schema.specs.declared.ids.TheConstants.{CHAPTER_TIME_END}
use Rattle.tree_format.specs.Node.{Node}
use Rattle.tree_format.specs.Children.{uint_leaf}
use Rattle.record_changes.specs.Cut.{within, end_within}
use Rattle.record_changes.specs.Standing.{SetsTimes}
use Rattle.record_changes.proofs.ChapterFacts.{end}
use Rattle.record_changes.proofs.CutLemmas.{sets-none}
use Rattle.record_changes.proofs.cutting.set_end.Goals as goal

pub set_time-requires-clause-id : goal.set_time-requires-clause-id
set_time-requires-clause-id c = end

pub returns-in-Some : goal.returns-in-Some
returns-in-Some c =
    let old : Node = c.args.atom.now in
    let new : Node = c.set_time.new.atom in
    let done : OnOk c.set_time.result (SetsTimes (uint_leaf CHAPTER_TIME_END (within c.args.stretch c.in-Some.end) ∷ []) old new) =
    subst (λ v. OnOk c.set_time.result (SetsTimes (uint_leaf CHAPTER_TIME_END v ∷ []) old new)) c.within.ensures c.set_time.ensures in
    subst (λ o. OnOk c.set_time.result (SetsTimes (end_within c.args.stretch o) old new)) (sym c.in-Some.is) done

pub returns-in-None : goal.returns-in-None
returns-in-None c =
    let old : Node = c.args.atom.now in
    subst (λ o. SetsTimes (end_within c.args.stretch o) old old) (sym c.in-None.is) (sets-none old c.requires.read)
