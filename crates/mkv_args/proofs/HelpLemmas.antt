-- The lines of `--help`, computed.
use Rattle.std.proofs.Common.{ℕ, Bool, List, length, Option, Some, None, refl}
use Rattle.std.specs.Prelude.{nat_le}
use Rattle.std.specs.List.{AllPass}
use Rattle.std.proofs.lemmas.List.Sums.{AllPass-from_list_all}
use Rattle.mkv_args.specs.declared.commands.Verb.{Verb}
use Rattle.mkv_args.specs.declared.commands.Verb.TheVariants as verb
use Rattle.mkv_args.specs.Help.{usage_lines}

abbrev is_narrow : List ℕ → Bool
is_narrow line = nat_le (length line) 79

-- No line is longer than 79 characters.
pub lines_narrow : (about : Option Verb) → AllPass (λ (line : List ℕ). nat_le (length line) 79) (usage_lines about)
unfolding usage_lines
lines_narrow None = AllPass-from_list_all is_narrow (usage_lines None) refl
lines_narrow (Some verb.Info) = AllPass-from_list_all is_narrow (usage_lines (Some verb.Info)) refl
lines_narrow (Some verb.Merge) = AllPass-from_list_all is_narrow (usage_lines (Some verb.Merge)) refl
lines_narrow (Some verb.Extract) = AllPass-from_list_all is_narrow (usage_lines (Some verb.Extract)) refl
lines_narrow (Some verb.Propedit) = AllPass-from_list_all is_narrow (usage_lines (Some verb.Propedit)) refl
lines_narrow (Some verb.Recover) = AllPass-from_list_all is_narrow (usage_lines (Some verb.Recover)) refl
lines_narrow (Some verb.Reindex) = AllPass-from_list_all is_narrow (usage_lines (Some verb.Reindex)) refl
lines_narrow (Some verb.Generate) = AllPass-from_list_all is_narrow (usage_lines (Some verb.Generate)) refl
lines_narrow (Some verb.Explain) = AllPass-from_list_all is_narrow (usage_lines (Some verb.Explain)) refl
lines_narrow (Some verb.Help) = AllPass-from_list_all is_narrow (usage_lines (Some verb.Help)) refl
lines_narrow (Some verb.Version) = AllPass-from_list_all is_narrow (usage_lines (Some verb.Version)) refl
