use Rattle.mkv_schema.proofs.SchemaLemmas.{is_written_id-kind_of}
use Rattle.mkv_schema.proofs.laws.ids_may_be_written.Goals as goal

pub returns : goal.returns
returns c = is_written_id-kind_of
