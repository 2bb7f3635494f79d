-- A text file that is read whole. Its limits are this project's.
use Rattle.std.specs.Prelude.{◌≡◌, ⊤, ℕ, nat_lt, Bool, true, false, if◌then◌else◌, List, length, Result, Ok, Err}
use Rattle.tree_format.specs.Node.{Node}
use Rattle.mkv_io.specs.declared.entry.Entry.{Entry}
use Rattle.text_formats.specs.declared.end.TextEnd.{TextEnd}
use Rattle.text_formats.specs.declared.end.TextEnd.TheVariants as text_end
use Rattle.text_formats.specs.Srt.{srt}
use Rattle.srt_chapters.specs.Chapters.{simple_chapters}
use Rattle.input_files.specs.declared.limits.TheConstants.{MAX_CHAPTERS_LEN, MAX_SRT_LEN}
use Rattle.input_files.specs.declared.refusal.TextFileEnd.{TextFileEnd}
use Rattle.input_files.specs.declared.refusal.TextFileEnd.TheVariants.{Refused, ReadFault, Memory}
use Rattle.input_files.specs.declared.refusal.TextRefusal.{TextRefusal}
use Rattle.input_files.specs.declared.refusal.TextRefusal.TheVariants.{TooLarge, Bad}

-- ---- content of a file

-- the result of a grammar, with the number of its first bad line, from 1, as the refusal. For `text_file`, when `merge` reads a text file.
abbrev pub unless_bad : {A : Type 0} → Result A ℕ → Result A TextRefusal
unless_bad (Ok x) = Ok x
unless_bad (Err line) = Err (Bad line)

-- the value of a text file with the content `bytes`, or the refusal. `grammar` gives a value, or the number of the first bad line, counted from 1. A
-- file of more than `most` bytes is too large. For SubRip, chapter and timestamp files.
abbrev pub text_file : {A : Type 0} → ℕ → (List ℕ → Result A ℕ) → List ℕ → Result A TextRefusal
text_file most grammar bytes = if nat_lt most (length bytes) then Err TooLarge else unless_bad (grammar bytes)

-- the entries of a SubRip file with the content `bytes`, or the refusal. The contract of `read_entries` states it.
abbrev pub srt_text : List ℕ → Result (List Entry) TextRefusal
srt_text bytes = text_file MAX_SRT_LEN srt bytes

-- the Chapters of a file of OGM simple chapters with the content `bytes`, or the refusal. The contract of `read_chapters` states it.
abbrev pub chapter_text : List ℕ → Result Node TextRefusal
chapter_text bytes = text_file MAX_CHAPTERS_LEN simple_chapters bytes

-- ---- results of a reader

-- A call that reads a text file has the result `meant`, the value or the refusal by the definitions. Nothing is promised if a read failed or memory
-- ran out. The contracts of the readers of text files state it.
abbrev pub ReadsText : {A : Type 0} → Result A TextRefusal → Result A TextFileEnd → Type 0
ReadsText meant (Ok x) = meant ≡ Ok x
ReadsText meant (Err (Refused why)) = meant ≡ Err why
ReadsText meant (Err ReadFault) = ⊤
ReadsText meant (Err Memory) = ⊤

-- the error of reading a text file, given the error of parsing its bytes. The conversion from `TextEnd` states it.
abbrev pub end_of : TextEnd → TextFileEnd
end_of (text_end.Bad line) = Refused (Bad line)
end_of text_end.Memory = Memory

-- Reading a text file ended because a read failed. The count of failed reads rises exactly then: for the contracts of the readers. Used by
-- `read_whole`, `read_entries` and others.
abbrev pub is_text_fault : TextFileEnd → Bool
is_text_fault (Refused why) = false
is_text_fault ReadFault = true
is_text_fault Memory = false

-- the number of bytes that are read of a file of `size` bytes: all, or none if it has more than `most`. The contracts of the readers of text files
-- state it.
abbrev pub octets_within : ℕ → ℕ → ℕ
octets_within most size = if nat_lt most size then 0 else size

-- the error of reading a text file that is too large. For the contracts of the readers of text files.
abbrev pub too_large : TextFileEnd
too_large = Refused TooLarge
