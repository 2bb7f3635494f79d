-- An element is cut to the period, with the elements inside it.
use Rattle.std.proofs.Common.{◌≡◌, ◌+◌, ◌∷◌, [], All, Ok, refl, sym, ap, ap₂, subst, ◌∙◌, arith}
use Rattle.std.proofs.lemmas.List.Elements.{All-drop}
use Rattle.mkv_schema.specs.declared.ids.TheConstants.{CHAPTER_ATOM, CHAPTER_TIME_START}
use Rattle.mkv_schema.specs.Schema.{is_master}
use Rattle.tree_format.specs.Node.{Node, id_of}
use Rattle.tree_format.specs.Children.{uint_leaf, set_in, set_each}
use Rattle.ebml_tree.specs.Building.{IsRead}
use Rattle.ebml_tree.proofs.BuildLemmas.{put-is, built-master, child-of, room-of, some-of}
use Rattle.record_changes.specs.declared.stretch.Stretch.{Stretch}
use Rattle.record_changes.specs.Cut.{takes, within, end_within, next_start, cut_at}
use Rattle.record_changes.specs.Standing.{IsReadIf, MayReplace}
use Rattle.record_changes.proofs.ChapterFacts.{start}
use Rattle.record_changes.proofs.StandLemmas.{read-if, child-smaller, built-read, may-built, may-copy}
use Rattle.record_changes.proofs.CutLemmas.{from-rest, atom-holds, all-read, may-sets, cut-other, cut-taken, cut-left, cut-none_yet, cut-more, cut-less, cut-done}
use Rattle.record_changes.proofs.cutting.+cutting.Goals as goal
use Rattle.record_changes.proofs.cutting.+cutting.Goals.{cut_inside-in-Some+in_ok-push-in-Some, cut_inside-in-None}

-- ---- one element

pub cut_child-start_of-start-requires : goal.cut_child-start_of-start-requires
cut_child-start_of-start-requires t c = c.requires.atom (sym c.id.ensures ∙ c.if-id-ne-CHAPTER_ATOM.false)

pub cut_child-end_of-requires-clause-atom : goal.cut_child-end_of-requires-clause-atom
cut_child-end_of-requires-clause-atom t c = c.requires.atom (sym c.id.ensures ∙ c.if-id-ne-CHAPTER_ATOM.false)

pub cut_child-own_end-requires : goal.cut_child-own_end-requires
cut_child-own_end-requires t c = c.requires.atom (sym c.id.ensures ∙ c.if-id-ne-CHAPTER_ATOM.false)

pub cut_child-returns-then-id-ne-CHAPTER_ATOM : goal.cut_child-returns-then-id-ne-CHAPTER_ATOM
cut_child-returns-then-id-ne-CHAPTER_ATOM t c =
    let child : Node = c.args.child.now in
    let other : id_of child ≡ CHAPTER_ATOM → ⊥ = λ own. c.if-id-ne-CHAPTER_ATOM.true (c.id.ensures ∙ own) in
    record {
      exact = ap (λ n. n ∷ []) c.in_ok-copy.ensures ∙ sym (cut-other c.args.stretch child (next_start c.args.behind.now) other);
      place = may-copy (Ok c.in_ok-copy.field-0) child c.in_ok-copy.ensures;
    }

-- An atom outside the period is left out.
pub cut_child-returns-then-not-takes : goal.cut_child-returns-then-not-takes
cut_child-returns-then-not-takes t c =
    let child : Node = c.args.child.now in
    let read = c.requires.atom (sym c.id.ensures ∙ c.if-id-ne-CHAPTER_ATOM.false) in
    let times = ap₂ (takes c.args.stretch) c.start_of-start.ensures c.end_of.ensures in
    record { exact = sym (cut-left c.args.stretch child (next_start c.args.behind.now) read (sym times ∙ sym c.takes.ensures ∙ c.if-not-takes.true)); place = tt }

pub cut_child-cut_inside-requires : goal.cut_child-cut_inside-requires
cut_child-cut_inside-requires t c =
    let read = c.requires.atom (sym c.id.ensures ∙ c.if-id-ne-CHAPTER_ATOM.false) in
    (omega arith, (atom-holds c.args.child.now read, c.requires.stretch))

pub cut_child-set_time-requires-clause-id : goal.cut_child-set_time-requires-clause-id
cut_child-set_time-requires-clause-id t c = start

pub cut_child-set_time-requires-clause-read : goal.cut_child-set_time-requires-clause-read
cut_child-set_time-requires-clause-read t c =
    subst (λ p. IsRead p c.in_ok-atom.atom) (sym c.id.ensures ∙ c.if-id-ne-CHAPTER_ATOM.false) c.in_ok-atom.ensures.read

pub cut_child-set_end-requires-clause-read : goal.cut_child-set_end-requires-clause-read
cut_child-set_end-requires-clause-read t c = c.in_ok-set_time.ensures.read

pub cut_child-returns : goal.cut_child-returns
cut_child-returns t c =
    let child : Node = c.args.child.now in
    let s : Stretch = c.args.stretch in
    let read = c.requires.atom (sym c.id.ensures ∙ c.if-id-ne-CHAPTER_ATOM.false) in
    let times = ap₂ (takes s) c.start_of-start.ensures c.end_of.ensures in
    let taken = sym times ∙ sym c.takes.ensures ∙ c.if-not-takes.false in
    let begin = c.within.ensures ∙ ap (within s) c.start_of-start.ensures in
    record {
      exact = ap (λ n. n ∷ [])
          (c.in_ok-set_end.ensures.changed
          ∙ ap₂ set_each (ap (end_within s) c.own_end.ensures) (c.in_ok-set_time.ensures.changed ∙ ap₂ (λ v n. set_in (uint_leaf CHAPTER_TIME_START v) n) begin c.in_ok-atom.ensures.exact))
          ∙ sym (cut-taken s child (next_start c.args.behind.now) read taken);
      place = may-sets child _ _ _ _ _ read c.in_ok-atom.ensures.place c.in_ok-set_time.ensures c.in_ok-set_end.ensures;
    }

-- ---- elements inside it

pub cut_inside-empty-requires : goal.cut_inside-empty-requires
cut_inside-empty-requires t c = ap is_master c.id.ensures ∙ c.requires.holds.known

pub cut_inside-loop-k-init : goal.cut_inside-loop-k-init
cut_inside-loop-k-init t c = cut-none_yet _ _ _ _ _ _ _ c.id.ensures c.offset.ensures c.in_ok-written.ensures

pub cut_inside-cut_child-requires : goal.cut_inside-cut_child-requires
cut_inside-cut_child-requires t c =
    let are = c.children-children.ensures.exact in
    let inside = c.loop-k-test.true in
    let item = c.index-children-k.is in
    let less = child-smaller _ _ _ _ are inside item in (
      omega arith,
      (
        read-if _ _ _ _ _ _ c.requires.holds.atoms c.requires.holds.read are inside item,
        (subst (All (IsReadIf CHAPTER_ATOM)) (sym (from-rest (c.loop-k.k + 1) c.children-children.result.now)) (All-drop (IsReadIf CHAPTER_ATOM) _ _ (all-read c.args.parent.now _ c.requires.holds are)), c.requires.stretch),
      ),
    )

pub cut_inside-push-requires-clause-master : goal.cut_inside-push-requires-clause-master
cut_inside-push-requires-clause-master t c = built-master _ _ _ _ _ c.loop-k.invariant.built

pub cut_inside-push-requires-clause-room : goal.cut_inside-push-requires-clause-room
cut_inside-push-requires-clause-room t c =
    let are = c.children-children.ensures.exact in
    let inside = c.loop-k-test.true in
    let item = c.index-children-k.is in
    let may = some-of _ (MayReplace c.index-children-k.result) _ c.in_ok-part.ensures.place c.in-Some.is in
    room-of _ _ _ _ _ c.children-children.ensures.room inside item (may (id_of c.args.parent.now) (child-of _ _ _ _ _ c.requires.holds.read are inside item))

pub cut_inside-loop-k-preserved : goal.cut_inside-loop-k-preserved
cut_inside-loop-k-preserved t c =
    let are = c.children-children.ensures.exact in
    let inside = c.loop-k-test.true in
    let item = c.index-children-k.is in
    let so_far = c.loop-k.invariant in
    let exact = c.in_ok-part.ensures.exact ∙ ap (λ l. cut_at c.args.stretch c.index-children-k.result (next_start l)) (from-rest (c.loop-k.k + 1) c.children-children.result.now) in
    let stands = child-of _ _ _ _ _ c.requires.holds.read are inside item in
    elim c.match-branch-3.branch [
      | cut_inside-in-Some+in_ok-push-in-Some w ↦
          let may = some-of _ (MayReplace c.index-children-k.result) _ c.in_ok-part.ensures.place w.in-Some.is in
          cut-more _ _ _ _ _ _ _ _ _ inside item refl so_far exact _ _ _ w.in-Some.is (may (id_of c.args.parent.now) stands) (put-is _ _ _ _ w.in_ok-push-in-Some.ensures.ok w.in_ok-push-in-Some.ensures.full) w.written-is
      | cut_inside-in-None w ↦ cut-less _ _ _ _ _ _ _ _ _ inside item refl so_far exact _ w.in-None.is w.written-is
    ]

pub cut_inside-returns : goal.cut_inside-returns
cut_inside-returns t c =
    let parent : Node = c.args.parent.now in
    let read = c.requires.holds.read in
    let are = c.children-children.ensures.exact in
    record {
      exact = cut-done _ _ _ parent _ _ read are c.loop-k-test.false c.loop-k.invariant;
      read = built-read _ _ _ _ _ c.loop-k.invariant.built;
      place = may-built _ parent _ _ _ read are c.loop-k.invariant.built;
    }
