-- `explain`: the words of messages, with their meaning, cause and remedy. The texts are this project's.
use Rattle.std.specs.Prelude.{ℕ, Bool, List, [], ◌++◌, map, slice_get, Option, Some, None, option_map, unwrap_or, Result, Ok}
use Rattle.std.specs.Borrow.{Bor}
use Rattle.std.specs.Char.{to_ascii_lowercase}
use Rattle.std.specs.List.{find}
use Rattle.std.specs.Str.{bytes_eq}
use Rattle.word_values.specs.declared.usage.Usage.{Usage}
use Rattle.word_values.specs.Answers.{◌>>=◌}
use Rattle.word_values.specs.Place.{end_at}
use Rattle.merge_words.specs.Items.{read_value}
use Rattle.mkv_args.specs.declared.topics.TheConstants.{TOPIC_LIST, WORD_TOPICS, REFUSAL_TOPICS, EDIT_TOPICS, DAMAGE_TOPICS, WARNING_TOPICS, RESULT_TOPICS, GENERAL_TOPICS}
use Rattle.mkv_args.specs.declared.command.Command.{Command}
use Rattle.mkv_args.specs.declared.command.Command.TheVariants as commands

-- a word of a message that has a page in `explain`, and the lines of its page
pub record Topic : Type 0 where
  pub name : List ℕ
  pub lines : List (List ℕ)

-- the lines of `page`, a page of `explain` in the code, as values
abbrev pub lines_of : Bor (List (Bor (List ℕ))) → List (List ℕ)
lines_of page = map (λ (line : Bor (List ℕ)). line.now) page.now

-- the topic `t` of `explain` in the code, as a value
abbrev pub shown : Bor (List ℕ) × Bor (List (Bor (List ℕ))) → Topic
shown t = record { name = t.0.now; lines = lines_of t.1 }

-- the topics of `explain` of the group 'command line': reasons why arguments are refused. Each group has a constant of its own, since the prover
-- refuses a single table: its limit is 50 million steps for a task.
unfoldable pub word_topics : List Topic
word_topics = map (λ t. record { name = t.0.now; lines = map (λ line. line.now) t.1.now }) WORD_TOPICS

-- the topics of `explain` of the group 'refused': reasons why a run ends before it writes an output
unfoldable pub refusal_topics : List Topic
refusal_topics = map (λ t. record { name = t.0.now; lines = map (λ line. line.now) t.1.now }) REFUSAL_TOPICS

-- the topics of `explain` of the group 'edits': reasons why an edit in place or a new index is refused
unfoldable pub edit_topics : List Topic
edit_topics = map (λ t. record { name = t.0.now; lines = map (λ line. line.now) t.1.now }) EDIT_TOPICS

-- the topics of `explain` of the group 'in a file': kinds of damage
unfoldable pub damage_topics : List Topic
damage_topics = map (λ t. record { name = t.0.now; lines = map (λ line. line.now) t.1.now }) DAMAGE_TOPICS

-- the topics of `explain` of the group 'warnings': words of warnings and of notes to a message
unfoldable pub warning_topics : List Topic
warning_topics = map (λ t. record { name = t.0.now; lines = map (λ line. line.now) t.1.now }) WARNING_TOPICS

-- the topics of `explain` of the group 'results': words of the messages about what a run has done
unfoldable pub result_topics : List Topic
result_topics = map (λ t. record { name = t.0.now; lines = map (λ line. line.now) t.1.now }) RESULT_TOPICS

-- the topics of `explain` of the group 'general': words that begin messages, and the exit status
unfoldable pub general_topics : List Topic
general_topics = map (λ t. record { name = t.0.now; lines = map (λ line. line.now) t.1.now }) GENERAL_TOPICS

-- the topics of `explain` of all groups; a name is looked up in this order
abbrev pub topics : List Topic
topics = word_topics ++ refusal_topics ++ edit_topics ++ damage_topics ++ warning_topics ++ result_topics ++ general_topics

-- the lines of the list of all names, as `explain` without a name prints it
unfoldable pub topic_list : List (List ℕ)
topic_list = map (λ line. line.now) TOPIC_LIST

-- The names of topics `a` and `b` are equal, except for the case of ASCII letters. Used by `NamesDiffer` and `page_among`.
abbrev pub is_same_name : List ℕ → List ℕ → Bool
is_same_name a b = bytes_eq (map to_ascii_lowercase a) (map to_ascii_lowercase b)

-- the page of the first of `topics` with the name `name`, in upper or lower case, or None if there is none; for `page_of`
abbrev pub page_among : List Topic → List ℕ → Option (List (List ℕ))
page_among topics name = option_map (λ (t : Topic). t.lines) (find (λ (t : Topic). is_same_name t.name name) topics)

-- the page that `explain` has for the word `name`, in upper or lower case, or None if it has none
abbrev pub page_of : List ℕ → Option (List (List ℕ))
page_of name = page_among topics name

-- the lines that the command `explain` prints: the page of the given word, or the list of all words that have a page for None
abbrev pub explained : Option (List ℕ) → List (List ℕ)
explained None = topic_list
explained (Some name) = unwrap_or (page_of name) []

-- the command `explain` for the given argument 1 of `words`: None, or a word that must have a page. Otherwise the refusal.
abbrev pub explain_named : Option (List ℕ) → List (List ℕ) → Result Command Usage
explain_named None words = Ok (commands.Explain None)
explain_named (Some word) words = do
  _ ← read_value 1 (page_of word)
  _ ← end_at words 2
  Ok (commands.Explain (Some word))

-- the command that the command line `words` asks for, or its refusal; argument 0 is `explain`, and argument 1, if present, the word to explain
unfoldable pub explain : List (List ℕ) → Result Command Usage
explain words = explain_named (slice_get words 1) words
