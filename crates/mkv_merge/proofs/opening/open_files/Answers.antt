use Rattle.std.proofs.Common.{◌≡◌, Some, sym, ◌∙◌, ap}
use Rattle.mkv_merge.specs.Opened.{opened_names}
use Rattle.input_files.specs.Inputs.{first_missing}
use Rattle.mkv_merge.proofs.MergingLemmas.{missing-found}
use Rattle.mkv_merge.proofs.opening.open_files.Goals as goal

-- A file is missing.
pub returns-in-Err-Missing-clause-found : goal.returns-in-Err-Missing-clause-found
returns-in-Err-Missing-clause-found g c = λ world shown.
    let names : c.as_slice.result.now ≡ opened_names c.args.words.now = c.as_slice.ensures ∙ c.in_ok-names.ensures in
    missing-found world c.args.words.now c.args.texts.now c.in-Err-Missing.input
    (ap (first_missing world) (sym names) ∙ rw c.in-Err-Missing.field-0-is at (c.in-Err-Missing.ensures.missing world shown))
    ∙ ap Some (sym c.in_ok-why-in-Err-Missing.ensures)
