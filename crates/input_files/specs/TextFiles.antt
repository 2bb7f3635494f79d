-- The text files that the options of a merge name: its chapter file and its timestamp files. Their use is this project's.
use Rattle.std.specs.Prelude.{ℕ, ◌+◌, List, ◌++◌, Option, ◌≡◌, Result}
use Rattle.std.specs.Option.{option_to_list}
use Rattle.requests.specs.declared.merge.FileWords.{FileWords}
use Rattle.input_files.specs.ChapterFile.{chapter_file, chapter_octets}
use Rattle.input_files.specs.TimesFile.{times_files, times_named, times_names, times_octets}
use Rattle.input_files.specs.declared.text_files.TextFiles.{TextFiles}
use Rattle.mkv_io.specs.Bounds.{ReadsByNames}
use Rattle.mkv_io.specs.Writing.{IfByNames}
use Rattle.mkv_io.specs.declared.reads.Reads.{Ghosts}
use Rattle.mkv_io.specs.declared.files.Files as writing

-- the names of the chapter file `chapters`, if any, and of the timestamp files of the inputs `words`. `merge` opens them.
abbrev pub text_names : Option (List ℕ) → List FileWords → List (List ℕ)
text_names chapters words = option_to_list chapters ++ times_names (times_named words)

-- the results of reading the text files of a merge: the chapter file `chapters` and the timestamp files of the inputs `words`. `world` has the
-- content of each name. For `GivesTexts`, in the contract of `read_text_files`.
abbrev pub text_files : (List ℕ → Option (List ℕ)) → Option (List ℕ) → List FileWords → TextFiles
text_files world chapters words = record { chapters = chapter_file world chapters; times = times_files world words }

-- the number of bytes that are read of a merge's text files: the chapter file `chapters` and the timestamp files of the inputs `words`. `world` has
-- the content of each name. The bound on what `merge` reads has it.
abbrev pub text_octets : (List ℕ → Option (List ℕ)) → Option (List ℕ) → List FileWords → ℕ
text_octets world chapters words = chapter_octets world chapters + times_octets world words

-- `result` has the text files of a merge, with the chapter file `chapters` and the inputs `words`, as the definitions give them. It is promised if
-- the names are visible to the proof in the state `old`. The contract of `read_text_files` states it. `f` gives the proof's view of the files.
abbrev pub GivesTexts : {S E : Type 0} → writing.Ghosts S → Option (List ℕ) → List FileWords → S → Result TextFiles E → Type 0
GivesTexts f chapters words old result = IfByNames f old result (λ world texts. texts ≡ text_files world chapters words)

-- From the state `old` to `new`, at most the bytes of the text files of a merge were read. They are the chapter file `chapters` and the timestamp
-- files of the inputs `words`. It is promised if the names are visible to the proof. The contract of `read_text_files` states it. `r` and `f` give
-- the proof's view of the files.
abbrev pub ReadsTexts : {S : Type 0} → Ghosts S → writing.Ghosts S → Option (List ℕ) → List FileWords → S → S → Type 0
ReadsTexts r f chapters words old new = ReadsByNames r f old new (λ world. text_octets world chapters words)
