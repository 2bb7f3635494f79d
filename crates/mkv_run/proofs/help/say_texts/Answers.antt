use Rattle.std.proofs.Common.{ℕ, ◌+◌, List, ◌∷◌, [], drop, get_or, rules}
use Rattle.std.proofs.lemmas.Result.{err_from_is_err_and}
use Rattle.std.specs.Borrow.{Bor}
use Rattle.mkv_lines.proofs.SaidLemmas.{SaysUpTo-more, SaysUpTo-stops}
use Rattle.mkv_run.proofs.SayLemmas.{shown, texts-next}
use Rattle.mkv_run.proofs.help.say_texts.Goals as goal

-- A text couldn't be printed.
pub returns-in_err-say_text-clause-said : goal.returns-in_err-say_text-clause-said
returns-in_err-say_text-clause-said g c =
    let k = c.loop-text.text-index in let texts = c.args.texts.now in
    let lines = g.R.Report.lines in
    let nothing : Bor (List ℕ) = record { ref_ptr = (0, 0); now = [] } in
    let next = texts-next (lines c.args.report.now) (lines c.loop-text.report) (shown texts) k texts nothing c.loop-text-test.true c.loop-text.invariant.way in
    rw (err_from_is_err_and c.from_residual.result c.from_residual.ensures.1).1
    (SaysUpTo-stops (lines c.args.report.now) (lines c.loop-text.report) (lines c.say_text.new.report) (shown texts) ((get_or texts k nothing).now ∷ []) (shown (drop (k + 1) texts)) next c.in_err-say_text.ensures.said)

-- Another text was printed.
pub loop-text-preserved : goal.loop-text-preserved
loop-text-preserved g c = record {
  report = search rules;
  way =
      let k = c.loop-text.text-index in let texts = c.args.texts.now in
      let lines = g.R.Report.lines in
      let nothing : Bor (List ℕ) = record { ref_ptr = (0, 0); now = [] } in
      let next = texts-next (lines c.args.report.now) (lines c.loop-text.report) (shown texts) k texts nothing c.loop-text-test.true c.loop-text.invariant.way in
      SaysUpTo-more (lines c.args.report.now) (lines c.loop-text.report) (lines c.say_text.new.report) (shown texts) ((get_or texts k nothing).now ∷ []) (shown (drop (k + 1) texts)) next c.in_ok-say_text.ensures.said;
}
