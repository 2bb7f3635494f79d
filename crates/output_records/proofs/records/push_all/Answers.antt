-- Each child is appended.
use Rattle.std.proofs.Common.{List, [], ◌∷◌, ◌++◌, refl, sym, ap, subst, ◌∙◌, arith, append-nil, append_assoc}
use Rattle.tree_format.specs.Node.{Node, id_of, offset_of, children, nodes_of, depth_all}
use Rattle.tree_format.specs.Standing.{AllStandIn}
use Rattle.ebml_tree.specs.Building.{IsBuilt}
use Rattle.ebml_tree.proofs.BuildLemmas.{built-push, put-is}
use Rattle.output_records.proofs.RecordLemmas.{record-built, built-record, all-stand}
use Rattle.output_records.proofs.records.push_all.Goals as goal

pub loop-child-init : goal.loop-child-init
loop-child-init c =
    let tree : Node = c.args.tree.now in
    let P : List Node → Type 0 = λ l. IsBuilt (id_of tree) (offset_of tree) 31 l tree in
    let Q : List Node → Type 0 = λ l. AllStandIn (id_of tree) (nodes_of l) in
    let items = c.into_iter-child-iterator.ensures.into_iter_gives.0 in
    let room = c.into_children-child-items.ensures.room in
    record {
      built = subst P (sym (append-nil (children tree))) (record-built (id_of tree) tree c.requires.own);
      all = refl;
      stand = subst Q (sym (items ∙ c.into_children-child-items.ensures.exact)) (all-stand (id_of tree) c.args.other c.requires.other);
      low = omega (arith, room, ap (λ l. depth_all (nodes_of l)) items);
    }

pub loop-child-preserved : goal.loop-child-preserved
loop-child-preserved c =
    let tree : Node = c.args.tree.now in
    let next = c.in-Some.ensures.steps.0 in
    let rest : List Node = c.next.new.self.rest.items in
    let child : Node = c.in-Some.child in
    let P : List Node → Type 0 = λ l. IsBuilt (id_of tree) (offset_of tree) 31 l c.push.new.self in
    let Q : List Node → Type 0 = λ l. AllStandIn (id_of tree) (nodes_of l) in
    let stand : Q (child ∷ rest) = subst Q next c.loop-child.invariant.stand in
    let low = c.loop-child.invariant.low in
    let deep = ap (λ l. depth_all (nodes_of l)) next in
    record {
      built = subst P (append_assoc (children tree) c.loop-child.yielded (child ∷ []))
          (built-push (id_of tree) (offset_of tree) 31 (children tree ++ c.loop-child.yielded) c.loop-child.tree child c.push.new.self c.loop-child.invariant.built (put-is _ _ _ _ c.in_ok-push.ensures.ok c.in_ok-push.ensures.full) stand.0 (omega arith));
      all = append_assoc c.loop-child.yielded (child ∷ []) rest ∙ ap (λ l. c.loop-child.yielded ++ l) (sym next) ∙ c.loop-child.invariant.all;
      stand = stand.1;
      low = omega arith;
    }

pub returns-clause-own : goal.returns-clause-own
returns-clause-own c = built-record _ _ 31 _ c.loop-child.tree c.loop-child.invariant.built (omega arith)
