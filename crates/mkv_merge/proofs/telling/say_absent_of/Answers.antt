use Rattle.std.proofs.Common.{◌≡◌, ℕ, ◌<◌, nat_le, true, List, [], ◌∷◌, length, get_or, map, ◌∙◌, ap, subst, rules, arith}
use Rattle.std.proofs.lemmas.Bool.Decides.{nat_tests}
use Rattle.std.proofs.lemmas.List.{get_or_default}
use Rattle.std.proofs.lemmas.Result.{err_from_is_err_and}
use Rattle.mkv_io.specs.Lines.{with_lines}
use Rattle.mkv_lines.specs.Line.{no_track_line}
use Rattle.mkv_lines.specs.Said.{SaysPart}
use Rattle.mkv_merge.specs.Merge.{absent_of}
use Rattle.mkv_merge.proofs.TellingLemmas.{kept-said, kept-stops}
use Rattle.mkv_merge.proofs.telling.say_absent_of.Goals as goal

-- A line couldn't be printed.
pub returns-in_err-say-clause-said : goal.returns-in_err-say-clause-said
returns-in_err-say-clause-said g c =
    let xs = c.args.file.now.named in
    let k = c.loop-number.number-index in
    let n : ℕ = get_or c.as_slice-number-items.result.now k 0 in
    let below : k < length xs = omega (arith, ap length c.as_slice-number-items.ensures) in
    let is : n ≡ get_or xs k n = ap (λ (list : List ℕ). get_or list k 0) c.as_slice-number-items.ensures ∙ get_or_default xs k 0 n below in
    let past : nat_le c.args.count n ≡ true = grind (arith, nat_tests, c.if-number-count.false) in
    let p = err_from_is_err_and c.from_residual.result c.from_residual.ensures.1 in
    rw p.1
    (kept-stops (no_track_line c.args.file.now.name) (λ m. nat_le c.args.count m) (g.P.Report.lines c.args.report.now) (g.P.Report.lines c.loop-number.report) (g.P.Report.lines c.say.new.report) (map (no_track_line c.args.file.now.name) (absent_of c.args.file.now c.args.count)) xs k n below is past c.loop-number.invariant.way
    (subst (λ (name : List ℕ). SaysPart (g.P.Report.lines c.loop-number.report) (g.P.Report.lines c.say.new.report) (no_track_line name n ∷ [])) c.as_str-name.ensures.same c.in_err-say.ensures.said))

-- One more line was printed.
pub loop-number-preserved : goal.loop-number-preserved
loop-number-preserved g c = record {
  report = search rules;
  way =
      let xs = c.args.file.now.named in
      let k = c.loop-number.number-index in
      let n : ℕ = get_or c.as_slice-number-items.result.now k 0 in
      let below : k < length xs = omega (arith, ap length c.as_slice-number-items.ensures) in
      let is : n ≡ get_or xs k n = ap (λ (list : List ℕ). get_or list k 0) c.as_slice-number-items.ensures ∙ get_or_default xs k 0 n below in
      let past : nat_le c.args.count n ≡ true = grind (arith, nat_tests, c.if-number-count.false) in
      kept-said (no_track_line c.args.file.now.name) (λ m. nat_le c.args.count m) (g.P.Report.lines c.args.report.now) (g.P.Report.lines c.loop-number.report) (g.P.Report.lines c.say.new.report) (map (no_track_line c.args.file.now.name) (absent_of c.args.file.now c.args.count)) xs k n below is past c.loop-number.invariant.way
      (c.in_ok-say.ensures.said ∙ ap (λ (name : List ℕ). with_lines (g.P.Report.lines c.loop-number.report) (no_track_line name n ∷ [])) c.as_str-name.ensures.same);
}
