-- The entries of the code's table as entries of the definition's.
use Rattle.std.specs.Prelude.{Option}
use Rattle.std.specs.Option.{option_map}
use denote.Ref.{Bor}
use Rattle.mkv_schema.specs.declared.table.Entry.{Entry as CodeEntry}
use Rattle.mkv_schema.specs.declared.table.DefaultValue.{DefaultValue}
use Rattle.mkv_schema.specs.declared.table.DefaultValue.TheVariants.{Number, Text}
use Rattle.mkv_schema.specs.Table.{Entry, Default, number_value, text_value}

-- a default of the code's table as a default of the definition's. `shown` uses it.
abbrev pub shown_default : DefaultValue → Default
shown_default (Number n) = number_value n
shown_default (Text t) = text_value t.now

-- an entry of the code's table as a row of the definition's. The contract of `first_of` compares them.
abbrev pub shown : CodeEntry → Entry
shown e = record { name = e.row.name.now; id = e.row.id; kind = e.row.kind; parents = e.parents; default = option_map shown_default e.default }

-- the entry of the definition that a reference to a code's entry shows, or None without one. The contract of `look_up` uses it.
abbrev pub seen : Option (Bor CodeEntry) → Option Entry
seen found = option_map (λ (e : Bor CodeEntry). shown e.now) found
