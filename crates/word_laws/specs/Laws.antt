-- Laws on command lines: a canonical one is read back, and a title that is read is a text.
use Rattle.std.specs.Prelude.{◌≡◌, ℕ, List, [], ◌∷◌, codes, Some, None, IfSome, Ok}
use Rattle.word_values.specs.Values.{text}
use Rattle.requests.specs.Plain.{plain_file, plain_words}
use Rattle.requests.specs.declared.merge.MergeWords.{MergeWords}
use Rattle.mkv_args.specs.declared.command.Command.{Command}
use Rattle.mkv_args.specs.declared.command.Command.TheVariants.{Merge}
use Rattle.mkv_args.specs.Sound.{IsSound}
use Rattle.mkv_args.specs.Words.{command}
use Rattle.word_laws.specs.Names.{IsInputName}
use Rattle.word_laws.specs.Spelled.{spelled}
use Rattle.word_laws.specs.Spellable.{IsSpellable}

-- The canonical command line of the command `c` is read as `c`, if `c` keeps its limits and has such a command line. The law `spelled_words_are_read`
-- states it.
abbrev pub SpelledIsRead : Type 0
SpelledIsRead = (c : Command) → IsSound c → IsSpellable c → command (spelled c) ≡ Ok c

-- The title that a command line `line` gives to a merge is a text without a zero byte. The law `titles_are_texts` states it.
abbrev pub TitlesAreTexts : Type 0
TitlesAreTexts =
    (line : List (List ℕ)) (words : MergeWords) → command line ≡ Ok (Merge words) → IfSome words.title (λ (title : List ℕ). text title ≡ Some title)

-- `merge -o OUT ..` is read as `merge --output OUT ..`, for the output `output` and any arguments `rest` after it. The law `short_output_is_read`
-- states it.
abbrev pub ShortOutputIsRead : Type 0
ShortOutputIsRead =
    (output : List ℕ) (rest : List (List ℕ))
    → command (codes "merge" ∷ codes "-o" ∷ output ∷ rest) ≡ command (codes "merge" ∷ codes "--output" ∷ output ∷ rest)

-- `merge -o OUT FILE` asks for a merge of the file `name` to `output` without options. FILE must be a name that an input can have. The law
-- `plain_merge_is_read` states it.
abbrev pub PlainMergeIsRead : Type 0
PlainMergeIsRead =
    (output name : List ℕ) → IsInputName name
    → command (codes "merge" ∷ codes "-o" ∷ output ∷ name ∷ []) ≡ Ok (Merge (plain_words output None (plain_file name ∷ [])))
