use Rattle.std.proofs.Common.{ℕ, [], ◌∷◌, Option, sym, ◌∙◌, ap}
use Rattle.tree_format.specs.Node.{Node, leaf}
use Rattle.tree_format.specs.Children.{given}
use Rattle.remux_plan.specs.Uuids.{uuid_leaf}
use Rattle.remuxer.specs.Info.{with_more}
use Rattle.remuxer.proofs.InfoLemmas.{more-none, on-ok-then}
use Rattle.remuxer.proofs.info.add_uuid.Goals as goal

-- No identifier is given.
pub returns-in_default-clause-added : goal.returns-in_default-clause-added
returns-in_default-clause-added c =
    sym (more-none c.args.info.now) ∙ ap (λ (o : Option ℕ). with_more c.args.info.now (given (uuid_leaf c.args.id) o)) (sym c.in_default.is)

pub returns-clause-added : goal.returns-clause-added
returns-clause-added c =
    on-ok-then c.push.result _ _
    (λ put. put ∙ ap (λ (n : Node). with_more c.args.info.now (n ∷ [])) (c.in_ok-leaf.ensures.exact ∙ ap (leaf c.args.id 0) c.to_be_bytes.ensures)
    ∙ ap (λ (o : Option ℕ). with_more c.args.info.now (given (uuid_leaf c.args.id) o)) (sym c.in-Some.is))
    c.push.ensures.ok
