use Rattle.std.proofs.Common.{rules, ◌≡◌}
use Rattle.std.specs.Option.{option_map}
use Rattle.mkv_schema.specs.declared.kind.Row.{Row}
use Rattle.mkv_schema.specs.Schema.{entry_of}
use Rattle.mkv_schema.specs.Table.{Entry}
use Rattle.mkv_schema.proofs.SchemaLemmas.{IfSome-same_id}
use Rattle.mkv_schema.proofs.schema.row.Goals as goal

pub returns-clause-id : goal.returns-clause-id
returns-clause-id c =
    let same : option_map (λ (r : Row). r.id) c.map.result ≡ option_map (λ (e : Entry). e.id) (entry_of c.args.id) = search rules in
    IfSome-same_id (λ (r : Row). r.id) c.map.result c.args.id same
