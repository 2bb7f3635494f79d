use Rattle.std.proofs.Common.{arith}
use Rattle.ebml_numbers.proofs.NumberLemmas.{is_id-bounds}
use Rattle.cues_seekhead.proofs.area.id_len.Goals as goal

pub returns-clause-most : goal.returns-clause-most
returns-clause-most c = omega (arith, (is_id-bounds c.args.id c.requires).1)
