-- Without Tags nothing is appended.
use Rattle.std.proofs.Common.{◌++◌, sym, ap, ◌∙◌}
use Rattle.std.specs.Option.{option_map}
use Rattle.tree_format.specs.Node.{children, with_children}
use Rattle.record_changes.specs.Tags.{written_tags}
use Rattle.output_records.specs.Inputs.{children_in}
use Rattle.output_records.specs.Tags.{numbers_for}
use Rattle.output_records.proofs.RecordLemmas.{none-grown}
use Rattle.output_records.proofs.tags.push_tags.Goals as goal

pub returns-in-None-clause-exact : goal.returns-in-None-clause-exact
returns-in-None-clause-exact c = λ numbers given.
    none-grown c.args.joined.now
    ∙ ap (λ o. with_children c.args.joined.now (children c.args.joined.now ++ children_in (option_map (written_tags c.args.input.now.keep (numbers_for c.args.input.now numbers)) o))) (sym c.in-None.is)
