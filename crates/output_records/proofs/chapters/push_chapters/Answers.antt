-- Without Chapters nothing is appended.
use Rattle.std.proofs.Common.{◌++◌, sym, ap, ◌∙◌}
use Rattle.std.specs.Option.{option_map}
use Rattle.tree_format.specs.Node.{children, with_children}
use Rattle.output_records.specs.Inputs.{children_in}
use Rattle.output_records.specs.Chapters.{later}
use Rattle.output_records.proofs.RecordLemmas.{none-grown}
use Rattle.output_records.proofs.chapters.push_chapters.Goals as goal

pub returns-in-None-clause-exact : goal.returns-in-None-clause-exact
returns-in-None-clause-exact c =
    none-grown c.args.joined.now ∙ ap (λ o. with_children c.args.joined.now (children c.args.joined.now ++ children_in (option_map (later c.args.input.now.shift) o))) (sym c.in-None.is)
