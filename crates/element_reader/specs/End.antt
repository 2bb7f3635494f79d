-- Failures of a call that reads a file, as failures of a call that reads its outline.
use Rattle.mkv_io.specs.declared.outside.ReadEnd.{ReadEnd}
use Rattle.mkv_io.specs.declared.outside.ReadEnd.TheVariants as read_end
use Rattle.element_reader.specs.declared.outline_end.OutlineEnd.{OutlineEnd}
use Rattle.element_reader.specs.declared.outline_end.OutlineEnd.TheVariants as outline_end

-- the failure of a read or of memory while an outline is read, as the same failure to read the outline
abbrev pub end_of : ReadEnd → OutlineEnd
end_of read_end.ReadFault = outline_end.ReadFault
end_of read_end.Memory = outline_end.Memory
