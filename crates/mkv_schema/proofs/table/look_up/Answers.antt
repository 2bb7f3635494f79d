-- The code's entries, shown as the definition's, are the table.
use Rattle.mkv_schema.specs.Schema.{entry_of}
use Rattle.mkv_schema.specs.Table.{table}
use Rattle.mkv_schema.proofs.table.look_up.Goals as goal

pub returns : goal.returns
unfolding entry_of table
returns c = c.first_of.ensures
