use Rattle.std.proofs.Common.{◌≡◌, ◌+◌, ◌<◌, ◌≤◌, ℕ, List, length, ◌++◌, flat_map, get_or, refl, ◌∙◌, ap, subst, rules, arith}
use Rattle.std.specs.List.{enumerate_from}
use Rattle.std.proofs.lemmas.Result.{err_from_is_err_and}
use Rattle.requests.specs.declared.merge.FileWords.{FileWords}
use Rattle.mkv_io.specs.Lines.{with_lines}
use Rattle.mkv_lines.specs.Said.{SaysPart}
use Rattle.mkv_lines.proofs.SaidLemmas.{SaysUpTo-more, SaysUpTo-stops}
use Rattle.mkv_merge.specs.Merge.{lines_absent, lines_absent_in, lines_absent_of, lines_before}
use Rattle.merge_inputs.specs.declared.input.Input.{Input}
use Rattle.mkv_merge.specs.Prepared.{reads_in}
use Rattle.mkv_merge.proofs.TellingLemmas.{absent-begins, absent-ends, absent-next, files_left}
use Rattle.mkv_merge.proofs.telling.say_absent.Goals as goal

-- No line was printed yet.
pub loop-k-init : goal.loop-k-init
loop-k-init g c = record {
  report = refl;
  way = absent-begins (g.P.Report.lines c.args.report.now) c.args.words.now c.args.inputs.now;
}

-- A line for a track that the file's own options name couldn't be printed.
pub returns-in_err-say_absent_of-clause-said : goal.returns-in_err-say_absent_of-clause-said
returns-in_err-say_absent_of-clause-said g c =
    let words = c.args.words.now in
    let files = words.files in
    let inputs = c.args.inputs.now in
    let k = c.loop-k.k in
    let file = c.file-item.result in
    let input : Input = get_or inputs k c.index-inputs-k.result in
    let has : input ≡ get_or inputs k input = ap (λ (i : Input). get_or inputs k i) c.index-inputs-k.is in
    let all = lines_before words (reads_in inputs) in
    let here : k < length files = omega (arith, ap length c.as_slice-file-items.ensures) in
    let there : k < length inputs = omega (arith, c.requires) in
    let is : file ≡ get_or files k file = c.file-item.is ∙ ap (λ (list : List FileWords). get_or list k file) c.as_slice-file-items.ensures in
    let p = err_from_is_err_and c.from_residual.result c.from_residual.ensures.1 in
    rw p.1
    (SaysUpTo-stops (g.P.Report.lines c.args.report.now) (g.P.Report.lines c.loop-k.report) (g.P.Report.lines c.say_absent_of.new.report) all (lines_absent_of file input.count) (lines_absent_in words.order k file input.count ++ flat_map (lines_absent words) (enumerate_from (k + 1) (files_left files inputs (k + 1))))
    (absent-next words files inputs k file input here there is has (g.P.Report.lines c.args.report.now) (g.P.Report.lines c.loop-k.report) all c.loop-k.invariant.way)
    c.in_err-say_absent_of.ensures.said)

-- A line for a track that `--track-order` names couldn't be printed.
pub returns-in_err-say_absent_in-clause-said : goal.returns-in_err-say_absent_in-clause-said
returns-in_err-say_absent_in-clause-said g c =
    let words = c.args.words.now in
    let files = words.files in
    let inputs = c.args.inputs.now in
    let k = c.loop-k.k in
    let file = c.file-item.result in
    let input : Input = get_or inputs k c.index-inputs-k.result in
    let has : input ≡ get_or inputs k input = ap (λ (i : Input). get_or inputs k i) c.index-inputs-k.is in
    let all = lines_before words (reads_in inputs) in
    let here : k < length files = omega (arith, ap length c.as_slice-file-items.ensures) in
    let there : k < length inputs = omega (arith, c.requires) in
    let is : file ≡ get_or files k file = c.file-item.is ∙ ap (λ (list : List FileWords). get_or list k file) c.as_slice-file-items.ensures in
    let p = err_from_is_err_and c.from_residual-in_err-say_absent_in.result c.from_residual-in_err-say_absent_in.ensures.1 in
    rw p.1
    (SaysUpTo-stops (g.P.Report.lines c.args.report.now) (g.P.Report.lines c.say_absent_of.new.report) (g.P.Report.lines c.say_absent_in.new.report) all (lines_absent_in words.order k file input.count) (flat_map (lines_absent words) (enumerate_from (k + 1) (files_left files inputs (k + 1))))
    (SaysUpTo-more (g.P.Report.lines c.args.report.now) (g.P.Report.lines c.loop-k.report) (g.P.Report.lines c.say_absent_of.new.report) all (lines_absent_of file input.count) (lines_absent_in words.order k file input.count ++ flat_map (lines_absent words) (enumerate_from (k + 1) (files_left files inputs (k + 1))))
    (absent-next words files inputs k file input here there is has (g.P.Report.lines c.args.report.now) (g.P.Report.lines c.loop-k.report) all c.loop-k.invariant.way)
    c.in_ok-say_absent_of.ensures.said)
    (subst (λ (order : List (ℕ × ℕ)). SaysPart (g.P.Report.lines c.say_absent_of.new.report) (g.P.Report.lines c.say_absent_in.new.report) (lines_absent_in order k file input.count)) c.as_slice-order.ensures c.in_err-say_absent_in.ensures.said))

-- The lines of one more file were printed.
pub loop-k-preserved : goal.loop-k-preserved
loop-k-preserved g c = record {
  report = search rules;
  way =
      let words = c.args.words.now in
      let files = words.files in
      let inputs = c.args.inputs.now in
      let k = c.loop-k.k in
      let file = c.file-item.result in
      let input : Input = get_or inputs k c.index-inputs-k.result in
      let has : input ≡ get_or inputs k input = ap (λ (i : Input). get_or inputs k i) c.index-inputs-k.is in
      let all = lines_before words (reads_in inputs) in
      let here : k < length files = omega (arith, ap length c.as_slice-file-items.ensures) in
      let there : k < length inputs = omega (arith, c.requires) in
      let is : file ≡ get_or files k file = c.file-item.is ∙ ap (λ (list : List FileWords). get_or list k file) c.as_slice-file-items.ensures in
      SaysUpTo-more (g.P.Report.lines c.args.report.now) (g.P.Report.lines c.say_absent_of.new.report) (g.P.Report.lines c.say_absent_in.new.report) all (lines_absent_in words.order k file input.count) (flat_map (lines_absent words) (enumerate_from (k + 1) (files_left files inputs (k + 1))))
      (SaysUpTo-more (g.P.Report.lines c.args.report.now) (g.P.Report.lines c.loop-k.report) (g.P.Report.lines c.say_absent_of.new.report) all (lines_absent_of file input.count) (lines_absent_in words.order k file input.count ++ flat_map (lines_absent words) (enumerate_from (k + 1) (files_left files inputs (k + 1))))
      (absent-next words files inputs k file input here there is has (g.P.Report.lines c.args.report.now) (g.P.Report.lines c.loop-k.report) all c.loop-k.invariant.way)
      c.in_ok-say_absent_of.ensures.said)
      (c.in_ok-say_absent_in.ensures.said ∙ ap (λ (order : List (ℕ × ℕ)). with_lines (g.P.Report.lines c.say_absent_of.new.report) (lines_absent_in order k file input.count)) c.as_slice-order.ensures);
}

-- All lines were printed.
pub returns-clause-said : goal.returns-clause-said
returns-clause-said g c =
    let past : length c.args.words.now.files ≤ c.loop-k.k = omega (arith, ap length c.as_slice-file-items.ensures) in
    absent-ends c.args.words.now (g.P.Report.lines c.args.report.now) (g.P.Report.lines c.loop-k.report) (lines_before c.args.words.now (reads_in c.args.inputs.now)) c.args.words.now.files c.args.inputs.now c.loop-k.k past c.loop-k.invariant.way
