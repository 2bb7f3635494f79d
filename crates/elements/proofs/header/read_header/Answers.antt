use Rattle.elements.specs.Parent.{setting_of}
use Rattle.mkv_schema.proofs.ElementLemmas.{element_in-is_placed, element_in-is_whole}
use Rattle.elements.proofs.header.read_header.Goals as goal

-- An Element in bytes up to an end begins before that end.
pub returns-clause-placed : goal.returns-clause-placed
returns-clause-placed c = λ inside.
    rw c.first_header.ensures (element_in-is_placed (setting_of c.args.parent) c.args.octets.now c.args.total c.args.at c.args.end inside)

-- An Element that may not be open is whole.
pub returns-clause-whole : goal.returns-clause-whole
returns-clause-whole c = rw c.first_header.ensures (element_in-is_whole (setting_of c.args.parent) c.args.octets.now c.args.total c.args.at c.args.end)
