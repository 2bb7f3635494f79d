use Rattle.std.proofs.Common.{sym, ◌∙◌, ap}
use Rattle.mkv_schema.specs.declared.ids.TheConstants.{BLOCK_GROUP}
use Rattle.mkv_schema.specs.Value.{is_known_value}
use Rattle.block_reader.proofs.GroupLemmas.{block-value, integer-value}
use Rattle.block_reader.proofs.gathered.is_child_value.Goals as goal

-- A Block may have any bytes.
pub returns-in-161 : goal.returns-in-161
returns-in-161 c = sym (ap (λ id. is_known_value BLOCK_GROUP id c.args.value.now) c.in-161.is ∙ block-value c.args.value.now)

-- An integer has at most eight bytes.
pub returns-in-155 : goal.returns-in-155
returns-in-155 c = sym (integer-value c.args.id c.args.value.now c.in-155.is)
