-- The names of the commands. They are this project's.
use Rattle.std.specs.Prelude.{List, [], ◌∷◌, codes}
use Rattle.mkv_args.specs.declared.commands.Verb.{Verb}
use Rattle.mkv_args.specs.declared.commands.Verb.TheVariants as verb
use Rattle.mkv_args.specs.Entry.{Entry, entry}

-- the table of the commands with their names, which argument 0 of a command line is looked up in. Used by `verb_of`, `explain_named` and others.
unfoldable pub commands : List (Entry Verb)
commands =
    entry (codes "") (codes "info") verb.Info ∷
    entry (codes "") (codes "merge") verb.Merge ∷
    entry (codes "") (codes "extract") verb.Extract ∷
    entry (codes "") (codes "propedit") verb.Propedit ∷
    entry (codes "") (codes "recover") verb.Recover ∷
    entry (codes "") (codes "reindex") verb.Reindex ∷
    entry (codes "") (codes "generate") verb.Generate ∷
    entry (codes "") (codes "explain") verb.Explain ∷
    entry (codes "") (codes "--help") verb.Help ∷
    entry (codes "") (codes "--version") verb.Version ∷ []
