-- Commands that have a canonical command line are read back, for each kind.
use Rattle.std.proofs.Common.{Some, None}
use Rattle.mkv_args.specs.declared.command.Command.TheVariants as command
use Rattle.word_laws.specs.Laws.{SpelledIsRead}
use Rattle.word_laws.proofs.SimpleLemmas.{info_read, recover_read, reindex_read, identify_read, generate_read, help_read, all_help_read, version_read, list_read, explain_read}
use Rattle.word_laws.proofs.ExtractLemmas.{extract_read}
use Rattle.word_laws.proofs.PropeditLemmas.{propedit_read}
use Rattle.word_laws.proofs.MergedLemmas.{merge_read}

pub spelled_read : SpelledIsRead
spelled_read (command.Help None) sound is = all_help_read
spelled_read (command.Help (Some verb)) sound is = help_read verb is
spelled_read command.Version sound is = version_read
spelled_read (command.Explain None) sound is = list_read
spelled_read (command.Explain (Some name)) sound is = explain_read name is
spelled_read (command.Info file) sound is = info_read file is
spelled_read (command.Identify file) sound is = identify_read file is
spelled_read (command.Recover file) sound is = recover_read file is
spelled_read (command.Reindex file) sound is = reindex_read file is
spelled_read (command.Generate n prefix) sound is = generate_read n prefix sound
spelled_read (command.Extract file job) sound is = extract_read file job is.0 sound is.1
spelled_read (command.Propedit file edits) sound is = propedit_read file edits is.0 sound is.1
spelled_read (command.Merge words) sound is = merge_read words sound is
