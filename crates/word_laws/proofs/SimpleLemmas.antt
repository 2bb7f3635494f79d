-- Commands of one to three arguments are read back.
use Rattle.std.proofs.Common.{◌≡◌, ℕ, true, false, List, [], ◌∷◌, codes, Option, Some, None, IsSome, Result, Ok, refl, ap, subst, ◌∙◌, arith, le-leb, lt-ltb}
use Rattle.std.proofs.lemmas.Bool.{and_right}
use Rattle.std.specs.Str.{bytes_eq}
use Rattle.std.specs.Fmt.{decimal}
use Rattle.word_values.specs.Answers.{◌>>=◌}
use Rattle.word_values.specs.Place.{is_option}
use Rattle.word_values.specs.declared.usage.Usage.{Usage}
use Rattle.merge_words.specs.Items.{read_value}
use Rattle.requests.specs.Sound.{IsWithin}
use Rattle.mkv_args.specs.declared.command.Command.{Command}
use Rattle.mkv_args.specs.declared.command.Command.TheVariants as commands
use Rattle.mkv_args.specs.declared.commands.Verb.{Verb}
use Rattle.mkv_args.specs.declared.commands.Verb.TheVariants as verb
use Rattle.mkv_args.specs.Entry.{meant}
use Rattle.mkv_args.specs.Commands.{commands as verbs}
use Rattle.mkv_args.specs.Explain.{explain, page_of, word_topics, refusal_topics, edit_topics, damage_topics, warning_topics, result_topics, general_topics}
use Rattle.mkv_args.specs.Merge.{identify, merge}
use Rattle.mkv_args.specs.Words.{alone, blocks_at, command, command_named, first_command, generate, helped, info, is_short_help, only_file, recover, reindex}
use Rattle.word_laws.specs.Spelled.{verb_word}
use Rattle.word_laws.specs.Names.{IsFileName, IsInputName}
use Rattle.word_laws.specs.Spellable.{HasHelp}
use Rattle.word_laws.proofs.NumberLemmas.{number_read}
pub use Rattle.lemmas.proofs.PlainLemmas.{bytes_eq-differ as other_word}

-- ---- arguments that differ from an option

-- The name of a file isn't an option.
pub no_option : (name option : List ℕ) → IsFileName name → is_option option ≡ true → bytes_eq name option ≡ false
no_option name option file is = other_word name option (λ same. let e : is_option name ≡ true = ap is_option same ∙ is in cc)

-- ---- the command that the first word names
first_word : (v : Verb) (rest : List (List ℕ)) → (meant verbs (verb_word v) ≡ Some v) × (is_short_help (verb_word v ∷ rest) ≡ false)
unfolding verbs
first_word verb.Info rest = (refl, refl)
first_word verb.Merge rest = (refl, refl)
first_word verb.Extract rest = (refl, refl)
first_word verb.Propedit rest = (refl, refl)
first_word verb.Recover rest = (refl, refl)
first_word verb.Reindex rest = (refl, refl)
first_word verb.Generate rest = (refl, refl)
first_word verb.Explain rest = (refl, refl)
first_word verb.Help rest = (refl, refl)
first_word verb.Version rest = (refl, refl)

pub by_verb : (v : Verb) (rest : List (List ℕ)) → helped (verb_word v ∷ rest) ≡ None → command (verb_word v ∷ rest) ≡ command_named (Some v) (verb_word v ∷ rest)
unfolding command first_command
by_verb v rest none = let first = first_word v rest in rw first.1 (rw none (rw first.0 refl))

-- No help is asked for if there is a file, or if there are more than two arguments.
file_helps_none : (first file : List ℕ) → IsFileName file → helped (first ∷ file ∷ []) ≡ None
file_helps_none first file plain = rw (no_option file (codes "--help") plain refl) refl

pub more_help_none : (first second third : List ℕ) (rest : List (List ℕ)) → helped (first ∷ second ∷ third ∷ rest) ≡ None
more_help_none first second third rest = rw (and_right (bytes_eq second (codes "--help")) false refl) refl

-- ---- commands of one file
only_file_read : (first file : List ℕ) → IsFileName file → only_file (first ∷ file ∷ []) ≡ Ok file
unfolding only_file
only_file_read first file plain = rw plain refl

pub info_read : (file : List ℕ) → IsFileName file → command (codes "info" ∷ file ∷ []) ≡ Ok (commands.Info file)
unfolding command_named info
info_read file plain = by_verb verb.Info (file ∷ []) (file_helps_none (codes "info") file plain) ∙ rw (only_file_read (codes "info") file plain) refl

pub recover_read : (file : List ℕ) → IsFileName file → command (codes "recover" ∷ file ∷ []) ≡ Ok (commands.Recover file)
unfolding command_named recover
recover_read file plain = by_verb verb.Recover (file ∷ []) (file_helps_none (codes "recover") file plain) ∙ rw (only_file_read (codes "recover") file plain) refl

pub reindex_read : (file : List ℕ) → IsFileName file → command (codes "reindex" ∷ file ∷ []) ≡ Ok (commands.Reindex file)
unfolding command_named reindex
reindex_read file plain = by_verb verb.Reindex (file ∷ []) (file_helps_none (codes "reindex") file plain) ∙ rw (only_file_read (codes "reindex") file plain) refl

-- ---- merge -J, generate and help
pub identify_read : (file : List ℕ) → IsInputName file → command (codes "merge" ∷ codes "-J" ∷ file ∷ []) ≡ Ok (commands.Identify file)
unfolding command_named merge identify
identify_read file input = by_verb verb.Merge (codes "-J" ∷ file ∷ []) (more_help_none (codes "merge") (codes "-J") file []) ∙ rw (other_word file (codes "+") input.joins) (rw input.file refl)

pub generate_read : (n : ℕ) (prefix : List ℕ) → IsWithin 1 100000 n → command (codes "generate" ∷ decimal n ∷ prefix ∷ []) ≡ Ok (commands.Generate n prefix)
unfolding command_named generate blocks_at
generate_read n prefix within =
    by_verb verb.Generate (decimal n ∷ prefix ∷ []) (more_help_none (codes "generate") (decimal n) prefix [])
    ∙ rw (number_read n (omega arith)) (rw (le-leb 1 n within.least) (rw (lt-ltb n 100001 (omega arith)) refl))

pub help_read : (v : Verb) → HasHelp v → command (verb_word v ∷ codes "--help" ∷ []) ≡ Ok (commands.Help (Some v))
unfolding command verbs
help_read verb.Info has = refl
help_read verb.Merge has = refl
help_read verb.Extract has = refl
help_read verb.Propedit has = refl
help_read verb.Recover has = refl
help_read verb.Reindex has = refl
help_read verb.Generate has = refl
help_read verb.Explain has = refl
help_read verb.Help has = absurd has
help_read verb.Version has = absurd has

pub all_help_read : command (codes "--help" ∷ []) ≡ Ok (commands.Help None)
unfolding command first_command command_named verbs alone
all_help_read = refl

pub version_read : command (codes "--version" ∷ []) ≡ Ok commands.Version
unfolding command first_command command_named verbs alone
version_read = refl

-- ---- explain
pub list_read : command (codes "explain" ∷ []) ≡ Ok (commands.Explain None)
unfolding command first_command command_named verbs explain
list_read = refl

-- A name that has a page isn't `--help`, so it asks for no help.
explain_helps_none : (name : List ℕ) → IsSome (page_of name) → helped (codes "explain" ∷ name ∷ []) ≡ None
unfolding word_topics refusal_topics edit_topics damage_topics warning_topics result_topics general_topics
explain_helps_none name has = rw (other_word name (codes "--help") (λ same. let page : false ≡ true = subst (λ (n : List ℕ). IsSome (page_of n)) same has in cc)) refl

-- A value that is present is read.
some_read : (value : Option (List (List ℕ))) (rest : Result Command Usage) → IsSome value → (read_value 1 value >>= (λ _. rest)) ≡ rest
some_read None rest is = absurd (cc)
some_read (Some value) rest is = refl

pub explain_read : (name : List ℕ) → IsSome (page_of name) → command (codes "explain" ∷ name ∷ []) ≡ Ok (commands.Explain (Some name))
unfolding command_named explain
explain_read name has = by_verb verb.Explain (name ∷ []) (explain_helps_none name has) ∙ some_read (page_of name) (Ok (commands.Explain (Some name))) has
