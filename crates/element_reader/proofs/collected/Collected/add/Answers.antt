use Rattle.std.proofs.Common.{eq-eqb, ◌≡◌, ◌+◌, ◌==◌, true, false, Some, not, append-nil, refl, sym, ◌∙◌, ap, arith}
use Rattle.std.proofs.lemmas.Bool.Decides.{nat_tests}
use Rattle.mkv_schema.specs.declared.ids.TheConstants.{CLUSTER}
use Rattle.element_reader.proofs.CollectedLemmas.{Keeps-more, option_or-none, option_or-first, option_or-later}
use Rattle.element_reader.proofs.collected.Collected.add.Goals as goal

-- An Element other than a Cluster.
pub returns-in_ok-push-clause-kept : goal.returns-in_ok-push-clause-kept
returns-in_ok-push-clause-kept c = λ _ held list keeps.
    let h = c.args.header in
    let other : (h.id == CLUSTER) ≡ false = grind (arith, nat_tests, c.if-header-ne-CLUSTER.true) in
    Keeps-more held list c.args.self.now _ h keeps
    (rw other c.in_ok-push.ensures.items)
    (rw other (option_or-none c.args.self.now.cluster))
    refl
    (ap (λ n. c.args.self.now.held + n) c.described_octets.ensures)

-- The first Cluster.
pub returns-then-is_none-clause-kept : goal.returns-then-is_none-clause-kept
returns-then-is_none-clause-kept c = λ _ held list keeps.
    let h = c.args.header in
    let cluster : (h.id == CLUSTER) ≡ true = eq-eqb h.id CLUSTER c.if-header-ne-CLUSTER.false in
    Keeps-more held list c.args.self.now _ h keeps
    (rw cluster (sym (append-nil c.args.self.now.others.items)))
    (rw cluster (option_or-later c.args.self.now.cluster (Some h) (c.is_none.ensures ∙ ap not c.if-is_none.true)))
    refl
    (ap (λ n. c.args.self.now.held + n) c.described_octets.ensures)

-- Another Cluster.
pub returns-else-is_none-clause-kept : goal.returns-else-is_none-clause-kept
returns-else-is_none-clause-kept c = λ _ held list keeps.
    let h = c.args.header in
    let cluster : (h.id == CLUSTER) ≡ true = eq-eqb h.id CLUSTER c.if-header-ne-CLUSTER.false in
    Keeps-more held list c.args.self.now _ h keeps
    (rw cluster (sym (append-nil c.args.self.now.others.items)))
    (rw cluster (option_or-first c.args.self.now.cluster (Some h) (c.is_none.ensures ∙ ap not c.if-is_none.false)))
    refl
    (ap (λ n. c.args.self.now.held + n) c.described_octets.ensures)
