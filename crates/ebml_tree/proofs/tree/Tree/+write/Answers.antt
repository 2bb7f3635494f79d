-- Once every child is written, the whole Element is.
use Rattle.std.proofs.Common.{◌≡◌, ◌++◌, flat_map, append-nil, sym, ap, ◌∙◌, rules}
use Rattle.tree_format.specs.NormalForm.{octets}
use Rattle.ebml_tree.specs.View.{content_of}
use Rattle.ebml_tree.proofs.ContentLemmas.{written-whole}
use Rattle.ebml_tree.proofs.LoopLemmas.{octets-none}
use Rattle.ebml_tree.proofs.tree.Tree.+write.Goals as goal

pub returns-after-loop-tree-clause-ok : goal.returns-after-loop-tree-clause-ok
returns-after-loop-tree-clause-ok t c =
    let none = octets-none c.loop-tree.tree-index c.deref-tree-items.result.now c.loop-tree-test.false in
    let whole = sym (append-nil c.loop-tree.out.items) ∙ ap (λ l. c.loop-tree.out.items ++ l) (sym none) ∙ c.loop-tree.invariant.whole in
    let inside : content_of c.self.inside.content ≡ flat_map octets c.deref-tree-items.result.now = search rules in
    written-whole c.self.inside.content c.self.inside.id c.self.inside.offset c.args.self.now _ _ _ c.self.inside.written c.deref-tree-items.result.now c.self.view_is (sym c.is_filler.ensures ∙ c.if-is_filler.false) inside c.self.invariant.exact c.in_ok-write_header.ensures.ok whole
