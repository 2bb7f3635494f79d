use Rattle.std.proofs.Common.{ap}
use Rattle.std.specs.Fmt.{styled_decimal}
use Rattle.splitter.proofs.NameLemmas.{written-name}
use Rattle.splitter.proofs.names.part_name.Goals as goal

pub returns : goal.returns
returns c =
    written-name c.args.output.now c.cut.result.0.now c.cut.result.1.now _ c.in_ok-name.name c.args.number c.from_string.result
    (ap (λ spec. styled_decimal spec c.args.number) c.laid_out.ensures) c.cut.ensures.stem c.cut.ensures.extension c.in_ok-name.ensures.ok c.from_string.ensures
