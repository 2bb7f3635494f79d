use Rattle.std.proofs.Common.{◌≡◌, ◌==◌, false, IfSome, Option, subst, sym, ◌∙◌, ap, arith}
use Rattle.std.proofs.lemmas.Bool.Decides.{nat_tests}
use Rattle.mkv_schema.specs.declared.ids.TheConstants.{CLUSTER}
use Rattle.mkv_schema.specs.Value.{first_of}
use Rattle.mkv_schema.specs.declared.element.Header.{Header}
use Rattle.element_reader.specs.Collected.{IsInFile}
use Rattle.element_reader.specs.Outline.{FileOutline}
use Rattle.element_reader.proofs.CollectedLemmas.{All-find}
use Rattle.element_reader.proofs.OutlineLemmas.{first_in-others}
use Rattle.element_reader.proofs.outline.Outline.first.Goals as goal

-- The first Cluster is kept.
pub returns-then-id-eq-CLUSTER-clause-exact : goal.returns-then-id-eq-CLUSTER-clause-exact
returns-then-id-eq-CLUSTER-clause-exact c = λ bytes o same.
    ap (λ (v : FileOutline). v.cluster) (c.self.view_is ∙ same) ∙ ap (λ id. first_of id o.list) (sym c.if-id-eq-CLUSTER.true)

-- The first Element of another ID is found among the kept ones.
pub returns-clause-exact : goal.returns-clause-exact
returns-clause-exact c = λ bytes o same.
    let other : (c.args.id == CLUSTER) ≡ false = grind (arith, nat_tests, c.if-id-eq-CLUSTER.false) in
    c.first_of.ensures ∙ ap (first_of c.args.id) (c.deref.ensures.value ∙ ap (λ (v : FileOutline). v.others) (c.self.view_is ∙ same)) ∙ first_in-others c.args.id o.list other

-- They can be read.
pub returns-clause-inside : goal.returns-clause-inside
returns-clause-inside c = λ other.
    subst (λ (v : FileOutline). IfSome c.first_of.result (IsInFile v.total)) c.self.view_is
    (subst (λ (o : Option Header). IfSome o (IsInFile c.self.inside.total)) (sym (c.first_of.ensures ∙ ap (first_of c.args.id) c.deref.ensures.value))
    (All-find (IsInFile c.self.inside.total) (λ h. h.id == c.args.id) c.self.inside.level.kept.others.items c.self.invariant.1))
