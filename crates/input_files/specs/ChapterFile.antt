-- The chapter file of a merge (`--chapters`), and its Chapters. The rule is this project's.
use Rattle.std.specs.Prelude.{⊤, ℕ, List, length, Option, Some, None, Result, Ok, Err}
use Rattle.mkv_schema.specs.declared.ids.TheConstants.{CHAPTERS}
use Rattle.tree_format.specs.Node.{Node}
use Rattle.ebml_tree.specs.Building.{IsRead}
use Rattle.input_files.specs.TextFile.{chapter_text, octets_within}
use Rattle.input_files.specs.declared.limits.TheConstants.{MAX_CHAPTERS_LEN}
use Rattle.input_files.specs.declared.refusal.TextRefusal.{TextRefusal}
use Rattle.input_files.specs.declared.chapter_file.ChapterFile.{ChapterFile}
use Rattle.input_files.specs.declared.chapter_file.ChapterFile.TheVariants.{Absent, Missing, Refused, Read}

-- the result of reading a chapter file, given the Chapters that its text makes, or the refusal of its text. For `file_with`, when `merge` reads its
-- chapter file.
abbrev pub given_by : Result Node TextRefusal → ChapterFile
given_by (Ok chapters) = Read chapters
given_by (Err why) = Refused why

-- the result of reading a chapter file with the given content; without one (None) the file is missing. For `chapter_file`, when `merge` reads its
-- chapter file.
abbrev pub file_with : Option (List ℕ) → ChapterFile
file_with None = Missing
file_with (Some bytes) = given_by (chapter_text bytes)

-- the result of reading the chapter file of a merge, if one is named; `world` has the content of each name. The contract of `read_chapter_file`
-- states it.
abbrev pub chapter_file : (List ℕ → Option (List ℕ)) → Option (List ℕ) → ChapterFile
chapter_file world None = Absent
chapter_file world (Some name) = file_with (world name)

-- the number of bytes that are read of a chapter file with the given content. They are all, or none if it is missing or too long. For
-- `chapter_octets`, when `merge` reads its chapter file.
abbrev pub octets_with : Option (List ℕ) → ℕ
octets_with None = 0
octets_with (Some bytes) = octets_within MAX_CHAPTERS_LEN (length bytes)

-- the number of bytes that are read of the chapter file of a merge, if one is named; `world` has the content of each name. The contract of
-- `read_chapter_file` bounds its reading by it.
abbrev pub chapter_octets : (List ℕ → Option (List ℕ)) → Option (List ℕ) → ℕ
chapter_octets world None = 0
chapter_octets world (Some name) = octets_with (world name)

-- If the chapter file was read, its Chapters can be written. The contract of `read_chapter_file` states it, and `prepare` of `merge` requires it.
abbrev pub CanBeWritten : ChapterFile → Type 0
CanBeWritten (Read chapters) = IsRead CHAPTERS chapters
CanBeWritten _ = ⊤
