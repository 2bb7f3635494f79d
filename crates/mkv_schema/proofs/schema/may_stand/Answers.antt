use Rattle.std.proofs.Common.{rules, ◌∙◌, sym}
use Rattle.mkv_schema.proofs.SchemaLemmas.{is_master-may_stand}
use Rattle.mkv_schema.proofs.schema.may_stand.Goals as goal

pub returns-clause-exact : goal.returns-clause-exact
returns-clause-exact c = search rules

-- Every parent in the table is one of its masters.
pub returns-clause-parent : goal.returns-clause-parent
returns-clause-parent c = λ stands.
    is_master-may_stand c.args.id c.args.parent (sym (returns-clause-exact c) ∙ stands)
