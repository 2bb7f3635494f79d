-- The commands that have a canonical command line: their names and numbers are ones that a command line can give.
use Rattle.std.specs.Prelude.{◌≡◌, ◌⊎◌, ⊤, ℕ, true, List, [], All, IsSome, Some, None}
use Rattle.requests.specs.declared.job.Job.{Job}
use Rattle.requests.specs.declared.job.Job.TheVariants as jobs
use Rattle.requests.specs.declared.job.Target.{Target}
use Rattle.requests.specs.declared.edit.Edit.{Edit}
use Rattle.requests.specs.declared.edit.Change.{Change}
use Rattle.requests.specs.declared.edit.Change.TheVariants as change
use Rattle.requests.specs.declared.edit.Selector.{Selector}
use Rattle.requests.specs.declared.edit.Selector.TheVariants as selector
use Rattle.mkv_args.specs.declared.command.Command.{Command}
use Rattle.mkv_args.specs.declared.command.Command.TheVariants as command
use Rattle.mkv_args.specs.declared.commands.Verb.{Verb}
use Rattle.mkv_args.specs.declared.commands.Verb.TheVariants as verb
use Rattle.mkv_args.specs.declared.propedit.TheConstants.{VIDEO_TRACK, AUDIO_TRACK, SUBTITLE_TRACK}
use Rattle.mkv_args.specs.Explain.{page_of}
use Rattle.mkv_io.specs.Characters.{EQUALS}
use Rattle.mkv_io.specs.Octets.{lacks}
use Rattle.word_laws.specs.Values.{HasFewDigits}
use Rattle.word_laws.specs.Names.{IsFileName, IsInputName}
use Rattle.word_laws.specs.SpellableMerge.{IsSpellableMerge}

-- The command has a help page of its own: `COMMAND --help`. For `IsSpellable`, in the laws on canonical command lines.
abbrev pub HasHelp : Verb → Type 0
HasHelp verb.Help = ⊥
HasHelp verb.Version = ⊥
HasHelp _ = ⊤

-- ---- extract

-- The number of each target in `list` has at most 18 digits, as a command line can give it. For `IsJob`, in the laws on canonical command lines.
abbrev pub HaveFewDigits : List Target → Type 0
HaveFewDigits list = All (λ (t : Target). HasFewDigits t.id) list

-- The job of `extract` can be given on a command line: each track or attached file has a number of at most 18 digits. For `IsSpellable`.
abbrev pub IsJob : Job → Type 0
IsJob (jobs.Tracks form list) = HaveFewDigits list
IsJob (jobs.Cues list) = HaveFewDigits list
IsJob (jobs.Attachments list) = HaveFewDigits list
IsJob (jobs.Chapters name) = ⊤

-- ---- propedit

-- The TrackType `kind` is video, audio or subtitle, which have a letter on the command line. For `IsSection`, in the laws on canonical command lines.
abbrev pub IsNamedType : ℕ → Type 0
IsNamedType kind = (kind ≡ VIDEO_TRACK) ⊎ ((kind ≡ AUDIO_TRACK) ⊎ (kind ≡ SUBTITLE_TRACK))

-- The selector of `propedit` can be given on a command line: its number has at most 18 digits, and its type is one of three. For `IsSpellableEdit`.
abbrev pub IsSection : Selector → Type 0
IsSection selector.Info = ⊤
IsSection (selector.Nth n) = HasFewDigits n
IsSection (selector.Typed kind n) = IsNamedType kind × HasFewDigits n
IsSection (selector.Uid uid) = HasFewDigits uid
IsSection (selector.Number number) = HasFewDigits number

-- The change of the property `name` to `value` can be given on a command line. Its name has no `=`, and a deletion has no value. For
-- `IsSpellableEdit`, in the laws on canonical command lines.
abbrev pub IsProperty : Change → List ℕ → List ℕ → Type 0
IsProperty change.Set name value = lacks EQUALS name ≡ true
IsProperty change.Add name value = lacks EQUALS name ≡ true
IsProperty change.Delete name value = value ≡ []

-- The edit `e` of `propedit` can be given on a command line. For `IsSpellable`.
pub record IsSpellableEdit (e : Edit) : Type 0 where
  pub place : IsSection e.place
  pub property : IsProperty e.change e.name e.value

-- ---- all commands

-- The command has a canonical command line, which `spelled` gives. A condition of the law `spelled_words_are_read`.
abbrev pub IsSpellable : Command → Type 0
IsSpellable (command.Help None) = ⊤
IsSpellable (command.Help (Some verb)) = HasHelp verb
IsSpellable command.Version = ⊤
IsSpellable (command.Explain None) = ⊤
IsSpellable (command.Explain (Some name)) = IsSome (page_of name)
IsSpellable (command.Info file) = IsFileName file
IsSpellable (command.Identify file) = IsInputName file
IsSpellable (command.Recover file) = IsFileName file
IsSpellable (command.Reindex file) = IsFileName file
IsSpellable (command.Generate n prefix) = ⊤
IsSpellable (command.Extract file job) = IsFileName file × IsJob job
IsSpellable (command.Propedit file edits) = IsFileName file × All IsSpellableEdit edits
IsSpellable (command.Merge words) = IsSpellableMerge words
