-- Each edition has later atoms.
use Rattle.std.proofs.Common.{map, ap, ◌∙◌}
use Rattle.mkv_schema.specs.declared.ids.TheConstants.{CHAPTERS}
use Rattle.tree_format.specs.Node.{Node, with_children}
use Rattle.ebml_tree.proofs.BuildLemmas.{put-is, built-none, built-master, built-limits, map-one, child-of, room-of}
use Rattle.record_changes.specs.Shift.{shifted_edition}
use Rattle.record_changes.proofs.ChapterFacts.{chapters-master, edition-in}
use Rattle.record_changes.proofs.StandLemmas.{read-if, built-all, built-whole, built-read}
use Rattle.record_changes.proofs.shifting.shift.Goals as goal

pub empty-requires : goal.empty-requires
empty-requires c = chapters-master

pub loop-child-init : goal.loop-child-init
loop-child-init c = built-none _ _ _ _ _ c.offset.ensures c.in_ok-shifted.ensures

pub shifted_edition-requires : goal.shifted_edition-requires
shifted_edition-requires c = read-if _ _ _ _ _ _ edition-in c.requires c.children-child-items.ensures.exact c.loop-child-test.true c.child-item.is

pub push-requires-clause-master : goal.push-requires-clause-master
push-requires-clause-master c = built-master _ _ _ _ _ c.loop-child.invariant

pub push-requires-clause-room : goal.push-requires-clause-room
push-requires-clause-room c =
    let inside = c.loop-child-test.true in
    let item = c.child-item.is in
    room-of _ _ _ _ _ c.children-child-items.ensures.room inside item (c.in_ok-shifted_edition.ensures.place CHAPTERS (child-of _ _ _ _ _ c.requires c.children-child-items.ensures.exact inside item))

pub loop-child-preserved : goal.loop-child-preserved
loop-child-preserved c =
    let inside = c.loop-child-test.true in
    let item = c.child-item.is in
    let place = c.in_ok-shifted_edition.ensures.place CHAPTERS (child-of _ _ _ _ _ c.requires c.children-child-items.ensures.exact inside item) in
    map-one _ _ _ _ _ _ inside item _ _ _ c.loop-child.invariant c.in_ok-shifted_edition.ensures.exact place (put-is _ _ _ _ c.in_ok-push.ensures.ok c.in_ok-push.ensures.full)

pub returns-clause-ok : goal.returns-clause-ok
returns-clause-ok c =
    let chapters : Node = c.args.chapters.now in
    let later : Node → Node = shifted_edition c.args.by in
    built-whole _ _ chapters _ _ c.requires (built-all _ _ _ _ (map later) _ _ c.loop-child-test.false c.loop-child.invariant) ∙ ap (λ l. with_children chapters (map later l)) c.children-child-items.ensures.exact

pub returns-clause-read : goal.returns-clause-read
returns-clause-read c = built-read _ _ _ _ _ c.loop-child.invariant

pub returns-clause-limits : goal.returns-clause-limits
returns-clause-limits c = built-limits _ _ _ _ _ c.loop-child.invariant c.children-child-items.ensures.room
