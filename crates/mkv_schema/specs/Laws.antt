-- Laws on the IDs of the table: RFC 8794, section 5 (Element ID).
use Rattle.std.specs.Prelude.{ℕ, IsSome, IsTrue}
use Rattle.ebml_numbers.specs.Number.{is_written_id}
use Rattle.mkv_schema.specs.Schema.{kind_of}

-- Each ID in the table may be written: it is a valid one, or ChapterDisplay's. It is the law `ids_may_be_written`.
abbrev pub IdsMayBeWritten : Type 0
IdsMayBeWritten = (id : ℕ) → IsSome (kind_of id) → IsTrue (is_written_id id)
