use Rattle.std.proofs.Common.{◌≡◌, Option, IfOk, ap, subst}
use Rattle.std.specs.Option.{option_and_then}
use Rattle.input_files.specs.declared.times_file.TimesFile.{TimesFile}
use Rattle.mkv_merge.specs.Texts.{missing_by}
use Rattle.mkv_merge.specs.declared.refusal.Refusal.{Refusal}
use Rattle.mkv_merge.proofs.texts.missing_times.Goals as goal

pub returns-in-Some : goal.returns-in-Some
returns-in-Some c = subst (λ (first : Option TimesFile). IfOk c.missing_by.result (λ (why : Option Refusal). why ≡ option_and_then missing_by first)) c.in-Some.ensures c.missing_by.ensures

pub returns-in-None : goal.returns-in-None
returns-in-None c = ap (option_and_then missing_by) c.in-None.ensures
