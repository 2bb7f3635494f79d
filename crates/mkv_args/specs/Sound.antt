-- Limits of every command that is read from a command line: numbers are within their limits, and the outputs of an extraction have different
-- names.
use Rattle.std.specs.Prelude.{◌<◌, ◌≤◌, ⊤, ℕ, List, length, map, All}
use Rattle.mkv_io.specs.Names.{AreApart}
use Rattle.requests.specs.declared.job.Job.{Job}
use Rattle.requests.specs.declared.job.Job.TheVariants as jobs
use Rattle.requests.specs.declared.job.Target.{Target}
use Rattle.requests.specs.declared.edit.Edit.{Edit}
use Rattle.requests.specs.declared.edit.Selector.{Selector}
use Rattle.requests.specs.declared.edit.Selector.TheVariants as selector
use Rattle.requests.specs.Sound.{IsWithin}
use Rattle.requests.specs.Sound.{IsSoundMerge}
use Rattle.mkv_args.specs.declared.command.Command.{Command}
use Rattle.mkv_args.specs.declared.command.Command.TheVariants as command

-- the names of the outputs of `targets` of `extract`, in their order
abbrev pub names_of : List Target → List (List ℕ)
names_of targets = map (λ (t : Target). t.name) targets

-- There are one or more `targets` of `extract`, with IDs of at least `least`, and their outputs have different names. It is a condition of a parsed
-- command.
pub record AreTargets (least : ℕ) (targets : List Target) : Type 0 where
  pub some : 0 < length targets
  pub apart : AreApart (names_of targets)
  pub from : All (λ (t : Target). least ≤ t.id) targets

-- The targets of the given job of `extract` are valid: attached files count from 1, and tracks from 0. It is a condition of a parsed command.
abbrev pub IsSoundJob : Job → Type 0
IsSoundJob (jobs.Tracks form list) = AreTargets 0 list
IsSoundJob (jobs.Cues list) = AreTargets 0 list
IsSoundJob (jobs.Attachments list) = AreTargets 1 list
IsSoundJob (jobs.Chapters name) = ⊤

-- A position among TrackEntries in the given selector of `propedit` is counted from 1, and so isn't 0. It is a condition of a parsed command.
abbrev pub IsSoundPlace : Selector → Type 0
IsSoundPlace selector.Info = ⊤
IsSoundPlace (selector.Nth n) = 1 ≤ n
IsSoundPlace (selector.Typed kind n) = 1 ≤ n
IsSoundPlace (selector.Uid uid) = ⊤
IsSoundPlace (selector.Number number) = ⊤

-- There are one or more `edits` of `propedit`, and positions of tracks in them are counted from 1. It is a condition of a parsed command.
pub record AreEdits (edits : List Edit) : Type 0 where
  pub some : 0 < length edits
  pub each : All (λ (e : Edit). IsSoundPlace e.place) edits

-- The numbers and lists of the given command are within the limits that a parsed command line keeps; `read_words` promises it, and each command
-- requires it.
abbrev pub IsSound : Command → Type 0
IsSound (command.Help about) = ⊤
IsSound command.Version = ⊤
IsSound (command.Info file) = ⊤
IsSound (command.Identify file) = ⊤
IsSound (command.Recover file) = ⊤
IsSound (command.Reindex file) = ⊤
IsSound (command.Generate n prefix) = IsWithin 1 100000 n
IsSound (command.Explain name) = ⊤
IsSound (command.Extract file job) = IsSoundJob job
IsSound (command.Propedit file edits) = AreEdits edits
IsSound (command.Merge words) = IsSoundMerge words
