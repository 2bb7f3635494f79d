-- Each edition is cut, and kept if it has an atom.
use Rattle.std.proofs.Common.{◌==◌, List, Some, flat_map, length, sym, ap, ◌∙◌}
use Rattle.mkv_schema.specs.declared.ids.TheConstants.{CHAPTERS}
use Rattle.tree_format.specs.Node.{Node, with_children}
use Rattle.ebml_tree.proofs.BuildLemmas.{put-is, built-none, built-master, built-limits, child-of, room-of, some-of, step-some, step-none}
use Rattle.record_changes.specs.declared.stretch.Stretch.{Stretch}
use Rattle.record_changes.specs.Cut.{edition_within}
use Rattle.record_changes.specs.Standing.{MayReplace}
use Rattle.record_changes.proofs.ChapterFacts.{chapters-master, edition-in}
use Rattle.record_changes.proofs.StandLemmas.{read-if, built-all, built-whole, built-read, may-some}
use Rattle.record_changes.proofs.CutLemmas.{built-children, unless-none, unless-some}
use Rattle.record_changes.proofs.cutting.cut.Goals as goal
use Rattle.record_changes.proofs.cutting.cut.Goals.{in-Some+in_ok-push-in-Some, in-None}

pub empty-requires : goal.empty-requires
empty-requires c = chapters-master

pub loop-child-init : goal.loop-child-init
loop-child-init c = built-none _ _ _ _ _ c.offset.ensures c.in_ok-part.ensures

pub cut_edition-requires-clause-edition : goal.cut_edition-requires-clause-edition
cut_edition-requires-clause-edition c = read-if _ _ _ _ _ _ edition-in c.requires.read c.children-child-items.ensures.exact c.loop-child-test.true c.child-item.is

pub push-requires-clause-master : goal.push-requires-clause-master
push-requires-clause-master c = built-master _ _ _ _ _ c.loop-child.invariant

pub push-requires-clause-room : goal.push-requires-clause-room
push-requires-clause-room c =
    let inside = c.loop-child-test.true in
    let item = c.child-item.is in
    let may = some-of _ (MayReplace c.child-item.result) _ c.in_ok-edition.ensures.place c.in-Some.is in
    room-of _ _ _ _ _ c.children-child-items.ensures.room inside item (may CHAPTERS (child-of _ _ _ _ _ c.requires.read c.children-child-items.ensures.exact inside item))

pub loop-child-preserved : goal.loop-child-preserved
loop-child-preserved c =
    let inside = c.loop-child-test.true in
    let item = c.child-item.is in
    let built = c.loop-child.invariant in
    let exact = c.in_ok-edition.ensures.exact in
    let stands = child-of _ _ _ _ _ c.requires.read c.children-child-items.ensures.exact inside item in
    let place = may-some _ CHAPTERS c.child-item.result stands c.in_ok-edition.ensures.place in
    elim c.match-branch-3.branch [
      | in-Some+in_ok-push-in-Some w ↦ step-some _ _ _ _ _ _ inside item _ _ built exact _ _ _ place w.in-Some.is (put-is _ _ _ _ w.in_ok-push-in-Some.ensures.ok w.in_ok-push-in-Some.ensures.full) w.part-is
      | in-None w ↦ step-none _ _ _ _ _ _ inside item _ _ built exact _ w.in-None.is w.part-is
    ]

pub returns-then-is_empty-clause-exact : goal.returns-then-is_empty-clause-exact
returns-then-is_empty-clause-exact c =
    let chapters : Node = c.args.chapters.now in
    let s : Stretch = record { from = c.args.from; to = c.args.to } in
    let all = built-all _ _ _ _ (flat_map (edition_within s)) _ _ c.loop-child-test.false c.loop-child.invariant in
    let kids = built-children _ _ _ _ _ all ∙ ap (flat_map (edition_within s)) c.children-child-items.ensures.exact in
    sym (unless-none chapters _ (ap (λ (l : List Node). length l == 0) (sym kids ∙ sym c.children.ensures.exact) ∙ sym c.is_empty.ensures ∙ c.if-is_empty.true))

pub returns-clause-exact : goal.returns-clause-exact
returns-clause-exact c =
    let chapters : Node = c.args.chapters.now in
    let s : Stretch = record { from = c.args.from; to = c.args.to } in
    let all = built-all _ _ _ _ (flat_map (edition_within s)) _ _ c.loop-child-test.false c.loop-child.invariant in
    let are = c.children-child-items.ensures.exact in
    let kids = built-children _ _ _ _ _ all ∙ ap (flat_map (edition_within s)) are in
    let some = ap (λ (l : List Node). length l == 0) (sym kids ∙ sym c.children.ensures.exact) ∙ sym c.is_empty.ensures ∙ c.if-is_empty.false in
    ap Some (built-whole _ _ chapters _ _ c.requires.read all ∙ ap (λ l. with_children chapters (flat_map (edition_within s) l)) are) ∙ sym (unless-some chapters _ some)

pub returns-clause-read : goal.returns-clause-read
returns-clause-read c = built-read _ _ _ _ _ c.loop-child.invariant

pub returns-clause-limits : goal.returns-clause-limits
returns-clause-limits c = built-limits _ _ _ _ _ c.loop-child.invariant c.children-child-items.ensures.room
