-- The records of a file that its identification needs: RFC 9559, section 5.1 (Segment Element).
use Rattle.std.specs.Prelude.{◌≡◌, ⊤, List, ℕ, Option, Result, Ok, Err}
use Rattle.mkv_io.specs.declared.damage.Damage.{Damage}
use Rattle.mkv_schema.specs.Outline.{Outlined, outline_of}
use Rattle.mkv_io.specs.Results.{and_then}
use Rattle.element_reader.specs.declared.outline_end.OutlineEnd.{OutlineEnd}
use Rattle.element_reader.specs.declared.outline_end.OutlineEnd.TheVariants as outline_end
use Rattle.meta_records.specs.Records.{FileRecords, described_by, file_records}
use Rattle.mkv_info.specs.declared.reading.FileRead.{FileRead}

-- The records that describe a file, and its first damage at level 1, if any. The JSON of `merge -J` is made of them.
pub record Described : Type 0 where
  pub records : FileRecords
  pub damage : Option Damage

-- the data `r` that the code has read of a file, in the form of the definitions, for the contracts of `merge -J`
abbrev pub read_in : FileRead → Described
read_in r = record { records = described_by r.records; damage = r.damage }

-- the records and damage of a file with the content `bytes`, or its refusal, first for its outline, and then for its records. The contract of
-- `read_file` promises them.
abbrev pub read_of : List ℕ → Result Described Damage
read_of bytes =
    and_then (outline_of 0 bytes) (λ (o : Outlined).
    and_then (file_records bytes o.segment) (λ (r : FileRecords). Ok (record { records = r; damage = o.damage })))

-- The result has `found`, the records and damage of a file or its refusal; or a read failed, or memory ran out. The contract of `read_file` promises
-- it.
abbrev pub ReadsFile : Result Described Damage → Result FileRead OutlineEnd → Type 0
ReadsFile found (Ok r) = found ≡ Ok (read_in r)
ReadsFile found (Err (outline_end.Refused d)) = found ≡ Err d
ReadsFile found (Err outline_end.ReadFault) = ⊤
ReadsFile found (Err outline_end.Memory) = ⊤
