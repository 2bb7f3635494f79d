-- The lines of `--help` and `--version`. The texts are this project's.
use Rattle.std.specs.Prelude.{ℕ, List, map, codes, Option, Some}
use Rattle.mkv_args.specs.declared.pages.TheConstants.{OVERVIEW, INFO_PAGE, MERGE_PAGE, EXTRACT_PAGE, PROPEDIT_PAGE, RECOVER_PAGE, REINDEX_PAGE, GENERATE_PAGE, EXPLAIN_PAGE}
use Rattle.mkv_args.specs.declared.commands.Verb.{Verb}
use Rattle.mkv_args.specs.declared.commands.Verb.TheVariants as verb

-- the lines that `--help` prints: the page of the given command, or the overview of all commands for None
unfoldable pub usage_lines : Option Verb → List (List ℕ)
usage_lines (Some verb.Info) = map (λ line. line.now) INFO_PAGE
usage_lines (Some verb.Merge) = map (λ line. line.now) MERGE_PAGE
usage_lines (Some verb.Extract) = map (λ line. line.now) EXTRACT_PAGE
usage_lines (Some verb.Propedit) = map (λ line. line.now) PROPEDIT_PAGE
usage_lines (Some verb.Recover) = map (λ line. line.now) RECOVER_PAGE
usage_lines (Some verb.Reindex) = map (λ line. line.now) REINDEX_PAGE
usage_lines (Some verb.Generate) = map (λ line. line.now) GENERATE_PAGE
usage_lines (Some verb.Explain) = map (λ line. line.now) EXPLAIN_PAGE
usage_lines _ = map (λ line. line.now) OVERVIEW

-- the line that `--version` prints: the name of the program and its version; for `verdict_of`
abbrev pub version_line : List ℕ
version_line = codes "mkvsuite 0.1.0"
