use Rattle.std.proofs.Common.{◌≡◌, [], ◌∷◌, ◌++◌, List, Option, sym, ap, ap₂, ◌∙◌, arith, append-nil, append_assoc}
use Rattle.std.proofs.lemmas.List.{nil_from_length}
use Rattle.tree_format.specs.Node.{Node}
use Rattle.merge_inputs.specs.declared.input.Input.{Input}
use Rattle.mkv_merge.specs.Chapters.{first_with, with_tree}
use Rattle.mkv_merge.proofs.ChaptersLemmas.{first-more, none-left}
use Rattle.mkv_merge.proofs.chapters.first_with.Goals as goal

pub loop-input-preserved : goal.loop-input-preserved
loop-input-preserved c =
    let done = c.loop-input.yielded in
    let input = c.in-Some.input in
    let chapters = c.args.chapters in
    record {
      all = append_assoc done (input ∷ []) c.next.new.self.rest.items ∙ ap (λ l. done ++ l) (sym c.in-Some.ensures.steps.0) ∙ c.loop-input.invariant.all;
      list = c.in_ok-push.ensures.ok
          ∙ ap₂ (λ (list : List Input) (t : Option Node). list ++ with_tree t input ∷ []) c.loop-input.invariant.list (c.take.ensures.value ∙ c.loop-input.invariant.next)
          ∙ sym (first-more chapters done input);
      next = c.take.ensures.after ∙ sym (none-left chapters done input);
    }

pub returns : goal.returns
returns c =
    let none : c.loop-input.input-iterator.rest.items ≡ [] = nil_from_length c.loop-input.input-iterator.rest.items (omega (arith, c.loop-input.input-iterator.rest.ok, c.in-None.ensures.steps.0)) in
    let all : c.loop-input.yielded ≡ c.args.inputs =
    sym (append-nil c.loop-input.yielded) ∙ ap (λ l. c.loop-input.yielded ++ l) (sym none) ∙ c.loop-input.invariant.all ∙ c.into_iter-input-iterator.ensures.into_iter_gives.0 ∙ c.into_vec-input-items.ensures in
    c.loop-input.invariant.list ∙ ap (first_with with_tree c.args.chapters) all
