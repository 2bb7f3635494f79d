-- The sources of a merge with default options: RFC 9559, section 5.1.4 (Tracks Element), and RFC 8794, section 7.5 (UTF-8 Element). The default
-- options are this project's.
use Rattle.std.specs.Prelude.{◌≡◌, ℕ, List, All, Option, Ok}
use Rattle.std.specs.Str.{IsUtf8}
use Rattle.requests.specs.declared.merge.MergeWords.{MergeWords}
use Rattle.mkv_args.specs.Words.{command}
use Rattle.mkv_args.specs.declared.command.Command.TheVariants.{Merge}
use Rattle.merge_plan.specs.Plan.{Source}
use Rattle.mkv_merge.specs.Merge.{sources_of}
use Rattle.merge_laws.specs.Sources.{HoldsOctets}
use Rattle.remerge_laws.specs.Repeat.{ArePlainSources, IsDefault}

-- The sources that a merge reads for a command line `line` with default options are plain, if the contents of files in `world` are bytes. `world` has
-- the content of each name, and `words` is the command line as it is understood. The law `sources_are_plain` states it.
abbrev pub SourcesArePlain : Type 0
SourcesArePlain =
    (world : List ℕ → Option (List ℕ)) (line : List (List ℕ)) (words : MergeWords) (sources : List Source) → HoldsOctets world → All IsUtf8 line
    → command line ≡ Ok (Merge words) → IsDefault words → sources_of world words ≡ Ok sources → ArePlainSources words sources
