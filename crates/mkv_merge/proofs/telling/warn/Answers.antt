use Rattle.std.proofs.Common.{◌≡◌, ◌+◌, ◌<◌, ◌≤◌, List, ◌++◌, length, drop, get_or, map, refl, ◌∙◌, ap, rules, arith}
use Rattle.std.proofs.lemmas.Result.{err_from_is_err_and}
use Rattle.requests.specs.declared.merge.FileWords.{FileWords}
use Rattle.mkv_lines.specs.Line.{more_damages_line, warning_line}
use Rattle.mkv_lines.proofs.SaidLemmas.{SaysUpTo-more, SaysUpTo-stops}
use Rattle.remux_plan.specs.declared.summary.InputDamage.{InputDamage}
use Rattle.remux_plan.specs.declared.summary.MoreDamage.{MoreDamage}
use Rattle.mkv_merge.specs.Told.{damages_at, more_at, warnings_from}
use Rattle.mkv_merge.proofs.TellingLemmas.{warnings-end, warnings-next}
use Rattle.mkv_merge.proofs.telling.warn.Goals as goal

-- A damaged place couldn't be printed.
pub returns-in_err-warn_of-clause-said : goal.returns-in_err-warn_of-clause-said
returns-in_err-warn_of-clause-said g c =
    let files = c.args.words.now.files in
    let k = c.loop-input.input in
    let more : List MoreDamage = c.args.summary.now.more in
    let below : k < length files = omega (arith, ap length c.as_slice-file-items.ensures) in
    let is : c.file-item.result ≡ get_or files k c.file-item.result = c.file-item.is ∙ ap (λ (list : List FileWords). get_or list k c.file-item.result) c.as_slice-file-items.ensures in
    let p = err_from_is_err_and c.from_residual.result c.from_residual.ensures.1 in
    rw p.1
    (SaysUpTo-stops (g.P.Report.lines c.args.report.now) (g.P.Report.lines c.loop-input.report) (g.P.Report.lines c.warn_of.new.report) (warnings_from c.args.summary.now 0 files) (map (λ (d : InputDamage). warning_line c.as_str-name.result.now d.damage) (damages_at k c.as_slice.result.now)) ((map (λ (m : MoreDamage). more_damages_line c.as_str-name.result.now m.count) (more_at k more)) ++ (warnings_from c.args.summary.now (k + 1) (drop (k + 1) files)))
    (warnings-next (g.P.Report.lines c.args.report.now) (g.P.Report.lines c.loop-input.report) (warnings_from c.args.summary.now 0 files) c.args.summary.now files k c.file-item.result c.as_str-name.result.now c.as_slice.result.now more below is c.as_str-name.ensures.same c.as_slice.ensures refl c.loop-input.invariant.way)
    c.in_err-warn_of.ensures.said)

-- The number of the other damaged places couldn't be printed.
pub returns-in_err-warn_more-clause-said : goal.returns-in_err-warn_more-clause-said
returns-in_err-warn_more-clause-said g c =
    let files = c.args.words.now.files in
    let k = c.loop-input.input in
    let more : List MoreDamage = c.as_slice-in-loop-input.result.now in
    let below : k < length files = omega (arith, ap length c.as_slice-file-items.ensures) in
    let is : c.file-item.result ≡ get_or files k c.file-item.result = c.file-item.is ∙ ap (λ (list : List FileWords). get_or list k c.file-item.result) c.as_slice-file-items.ensures in
    let p = err_from_is_err_and c.from_residual-in_err-warn_more.result c.from_residual-in_err-warn_more.ensures.1 in
    rw p.1
    (SaysUpTo-stops (g.P.Report.lines c.args.report.now) (g.P.Report.lines c.warn_of.new.report) (g.P.Report.lines c.warn_more.new.report) (warnings_from c.args.summary.now 0 files) (map (λ (m : MoreDamage). more_damages_line c.as_str-name.result.now m.count) (more_at k more)) (warnings_from c.args.summary.now (k + 1) (drop (k + 1) files))
    (SaysUpTo-more (g.P.Report.lines c.args.report.now) (g.P.Report.lines c.loop-input.report) (g.P.Report.lines c.warn_of.new.report) (warnings_from c.args.summary.now 0 files) (map (λ (d : InputDamage). warning_line c.as_str-name.result.now d.damage) (damages_at k c.as_slice.result.now)) ((map (λ (m : MoreDamage). more_damages_line c.as_str-name.result.now m.count) (more_at k more)) ++ (warnings_from c.args.summary.now (k + 1) (drop (k + 1) files)))
    (warnings-next (g.P.Report.lines c.args.report.now) (g.P.Report.lines c.loop-input.report) (warnings_from c.args.summary.now 0 files) c.args.summary.now files k c.file-item.result c.as_str-name.result.now c.as_slice.result.now more below is c.as_str-name.ensures.same c.as_slice.ensures c.as_slice-in-loop-input.ensures c.loop-input.invariant.way)
    c.in_ok-warn_of.ensures.said)
    c.in_err-warn_more.ensures.said)

-- The warnings of one more input were printed.
pub loop-input-preserved : goal.loop-input-preserved
loop-input-preserved g c = record {
  report = search rules;
  way =
      let files = c.args.words.now.files in
      let k = c.loop-input.input in
      let more : List MoreDamage = c.as_slice-in-loop-input.result.now in
      let below : k < length files = omega (arith, ap length c.as_slice-file-items.ensures) in
      let is : c.file-item.result ≡ get_or files k c.file-item.result = c.file-item.is ∙ ap (λ (list : List FileWords). get_or list k c.file-item.result) c.as_slice-file-items.ensures in
      SaysUpTo-more (g.P.Report.lines c.args.report.now) (g.P.Report.lines c.warn_of.new.report) (g.P.Report.lines c.warn_more.new.report) (warnings_from c.args.summary.now 0 files) (map (λ (m : MoreDamage). more_damages_line c.as_str-name.result.now m.count) (more_at k more)) (warnings_from c.args.summary.now (k + 1) (drop (k + 1) files))
      (SaysUpTo-more (g.P.Report.lines c.args.report.now) (g.P.Report.lines c.loop-input.report) (g.P.Report.lines c.warn_of.new.report) (warnings_from c.args.summary.now 0 files) (map (λ (d : InputDamage). warning_line c.as_str-name.result.now d.damage) (damages_at k c.as_slice.result.now)) ((map (λ (m : MoreDamage). more_damages_line c.as_str-name.result.now m.count) (more_at k more)) ++ (warnings_from c.args.summary.now (k + 1) (drop (k + 1) files)))
      (warnings-next (g.P.Report.lines c.args.report.now) (g.P.Report.lines c.loop-input.report) (warnings_from c.args.summary.now 0 files) c.args.summary.now files k c.file-item.result c.as_str-name.result.now c.as_slice.result.now more below is c.as_str-name.ensures.same c.as_slice.ensures c.as_slice-in-loop-input.ensures c.loop-input.invariant.way)
      c.in_ok-warn_of.ensures.said)
      c.in_ok-warn_more.ensures.said;
}

-- All warnings were printed.
pub returns-clause-said : goal.returns-clause-said
returns-clause-said g c =
    let past : length c.args.words.now.files ≤ c.loop-input.input = omega (arith, ap length c.as_slice-file-items.ensures) in
    warnings-end (g.P.Report.lines c.args.report.now) (g.P.Report.lines c.loop-input.report) (warnings_from c.args.summary.now 0 c.args.words.now.files) c.args.summary.now c.args.words.now.files c.loop-input.input past c.loop-input.invariant.way
