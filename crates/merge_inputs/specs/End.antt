-- Failures to read an input.
use Rattle.std.specs.Prelude.{Bool, true, false}
use Rattle.element_reader.specs.declared.outline_end.OutlineEnd.{OutlineEnd}
use Rattle.element_reader.specs.declared.outline_end.OutlineEnd.TheVariants as outline_end
use Rattle.input_files.specs.declared.refusal.TextFileEnd.{TextFileEnd}
use Rattle.input_files.specs.declared.refusal.TextFileEnd.TheVariants as text_end
use Rattle.merge_inputs.specs.declared.input.InputEnd.{InputEnd}
use Rattle.merge_inputs.specs.declared.input.InputEnd.TheVariants as input_end
use Rattle.merge_inputs.specs.declared.input.InputRefusal.TheVariants.{Damaged, Text}

-- the end of reading an input of `merge`, by the end of reading the outline or the records of its file
abbrev pub end_of : OutlineEnd → InputEnd
end_of (outline_end.Refused d) = input_end.Refused (Damaged d)
end_of outline_end.ReadFault = input_end.ReadFault
end_of outline_end.Memory = input_end.Memory

-- the end of reading an input of `merge`, by the end of reading its SubRip text
abbrev pub text_end_of : TextFileEnd → InputEnd
text_end_of (text_end.Refused why) = input_end.Refused (Text why)
text_end_of text_end.ReadFault = input_end.ReadFault
text_end_of text_end.Memory = input_end.Memory

-- The given end of reading an input of `merge` is a failed read, and so a failure that is counted.
abbrev pub is_input_fault : InputEnd → Bool
is_input_fault (input_end.Refused why) = false
is_input_fault input_end.ReadFault = true
is_input_fault input_end.Memory = false
