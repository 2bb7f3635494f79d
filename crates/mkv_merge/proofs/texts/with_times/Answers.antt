use Rattle.std.proofs.Common.{List, sym, ◌∙◌, ap}
use Rattle.mkv_merge.specs.Prepared.{reads_in}
use Rattle.mkv_merge.specs.Texts.{times_refusal}
use Rattle.mkv_merge.specs.Timed.{shared_from}
use Rattle.mkv_merge.specs.declared.texts.SharedTimes.{SharedTimes}
use Rattle.mkv_merge.proofs.TextsLemmas.{times-given, times-refused}
use Rattle.mkv_merge.proofs.texts.with_times.Goals as goal

-- One of the files is refused.
pub returns-in-Some-clause-exact : goal.returns-in-Some-clause-exact
returns-in-Some-clause-exact c =
    times-refused c.args.files (reads_in c.args.inputs) c.in-Some.why (ap times_refusal (sym c.as_slice.ensures) ∙ sym c.in_ok-why.ensures ∙ c.in-Some.is)

-- No file is refused.
pub returns-clause-exact : goal.returns-clause-exact
returns-clause-exact c =
    times-given c.args.files c.in_ok-shared.shared c.args.inputs c.in_ok-timed.field-0 (ap times_refusal (sym c.as_slice.ensures) ∙ sym c.in_ok-why.ensures ∙ c.in_default.is) c.in_ok-shared.ensures
    (c.in_ok-timed.ensures.exact ∙ ap (λ (list : List SharedTimes). shared_from list 0 (reads_in c.args.inputs)) c.as_slice-2.ensures)
