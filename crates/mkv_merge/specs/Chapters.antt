-- Chapters of a chapter file, which replace the inputs' own. RFC 9559, section 5.1.7 (Chapters Element), defines the Element; the choice is this
-- project's.
use Rattle.std.specs.Prelude.{Bool, not, List, [], ◌∷◌, map, Option, Some, None, Result}
use Rattle.tree_format.specs.Node.{Node}
use Rattle.input_files.specs.declared.chapter_file.ChapterFile.{ChapterFile}
use Rattle.input_files.specs.declared.chapter_file.ChapterFile.TheVariants as file
use Rattle.merge_inputs.specs.Input.{InputRead}
use Rattle.merge_inputs.specs.Select.{kept_one}
use Rattle.merge_inputs.specs.declared.input.Input.{Input}
use Rattle.mkv_io.specs.Results.{unless}
use Rattle.mkv_merge.specs.declared.refusal.Refusal.{Refusal}
use Rattle.mkv_merge.specs.declared.refusal.Refusal.TheVariants.{MissingChapters, Chapters}

-- ---- refusals

-- the refusal of a merge because its chapter file doesn't exist, if that is so. For `missing_text`, which `merge` checks before it reads an input.
abbrev pub missing_chapters : ChapterFile → Option Refusal
missing_chapters file.Absent = None
missing_chapters file.Missing = Some MissingChapters
missing_chapters (file.Refused why) = None
missing_chapters (file.Read chapters) = None

-- the refusal of a merge because the content of its chapter file is refused, if that is so. For `refusals_read`, which `merge` checks after it has
-- read the inputs.
abbrev pub chapters_refusal : ChapterFile → Option Refusal
chapters_refusal file.Absent = None
chapters_refusal file.Missing = None
chapters_refusal (file.Refused why) = Some (Chapters why)
chapters_refusal (file.Read chapters) = None

-- ---- Chapters of the file

-- the input `i`, as the code has it opened, with `chapters` instead of its own Chapters. The contract of `with_file` uses it for `set`.
abbrev pub with_tree : Option Node → Input → Input
with_tree chapters i = record i { chapters = chapters }

-- the input `i`, as it was read by the definitions, with `chapters` instead of its own Chapters. `chaptered` uses it for `set`.
abbrev pub with_chapters : Option Node → InputRead → InputRead
with_chapters chapters i = record i { chapters = chapters }

-- the inputs with `chapters` in the first one and no Chapters in the others; `set` puts Chapters into an input. For `chaptered`, when `merge` applies
-- its chapter file.
abbrev pub first_with : {A : Type 0} → (Option Node → A → A) → Option Node → List A → List A
first_with set chapters [] = []
first_with set chapters (i ∷ is) = set chapters i ∷ map (set None) is

-- the inputs `inputs` with the Chapters of the chapter file, if it was read. The first input gets them, and all others none; with `webm`, for a WebM
-- output, no input has Chapters then. `set` puts Chapters into an input. `merge` applies the file so.
abbrev pub chaptered : {A : Type 0} → (Option Node → A → A) → Bool → ChapterFile → List A → List A
chaptered set webm file.Absent inputs = inputs
chaptered set webm file.Missing inputs = inputs
chaptered set webm (file.Refused why) inputs = inputs
chaptered set webm (file.Read chapters) inputs = first_with set (kept_one (not webm) (Some chapters)) inputs

-- the inputs with the Chapters of the chapter file `file` as in `chaptered`, or the refusal if its content is refused. `set` puts Chapters into an
-- input. The contract of the function of the same name states it. With `webm` Chapters are left out of the `inputs`.
abbrev pub with_file : {A : Type 0} → (Option Node → A → A) → Bool → ChapterFile → List A → Result (List A) Refusal
with_file set webm file inputs = unless (chapters_refusal file) (chaptered set webm file inputs)
