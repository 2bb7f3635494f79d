-- Failures to read a file, as failures to read attached files.
use Rattle.mkv_io.specs.declared.outside.ReadEnd.{ReadEnd}
use Rattle.mkv_io.specs.declared.outside.ReadEnd.TheVariants as read_end
use Rattle.meta_records.specs.declared.end.MetaEnd.{MetaEnd}
use Rattle.meta_records.specs.declared.end.MetaEnd.TheVariants as attachments_end

-- the end of reading attached files, by the end of a call that reads the file. The conversion from `ReadEnd` states it.
abbrev pub end_of : ReadEnd → MetaEnd
end_of read_end.ReadFault = attachments_end.ReadFault
end_of read_end.Memory = attachments_end.Memory
