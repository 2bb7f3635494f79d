use Rattle.std.proofs.Common.{◌≤◌, List, [], length, refl, sym, ◌∙◌, ap, subst}
use Rattle.std.specs.List.{zip}
use Rattle.std.proofs.lemmas.Result.{err_from_is_err_and}
use Rattle.mkv_io.specs.Lines.{with_lines}
use Rattle.mkv_io.specs.Sources.{live_files}
use Rattle.merge_inputs.specs.declared.input.Input.{Input}
use Rattle.mkv_lines.specs.Said.{SaysPart}
use Rattle.mkv_lines.specs.Seen.{seen}
use Rattle.mkv_merge.specs.Merge.{has_absent, lines_before}
use Rattle.mkv_merge.specs.Prepared.{reads_in}
use Rattle.mkv_merge.proofs.VerdictLemmas.{merge-begun, merge-left, merge-told, outputs-short}
use Rattle.mkv_merge.proofs.WritingLemmas.{many-inputs, merge-is, plan-good, plan-reads, plan-told}
use Rattle.mkv_merge.proofs.AskedLemmas.{merge-asks-made, merge-asks-none}
use Rattle.mkv_merge.proofs.writing.write.Goals as goal

-- The warning of an absent track couldn't be printed.
pub returns-in_err-say_absent-clause-verdict : goal.returns-in_err-say_absent-clause-verdict
returns-in_err-say_absent-clause-verdict g c = λ contents told.
    let p = err_from_is_err_and c.from_residual.result c.from_residual.ensures.1 in
    let words = c.args.words.now in
    let prepared = c.args.prepared in
    let old = c.args.files.now in
    let f = live_files g.F.Reads old in
    let was = seen g.F.Reads g.F.Files.writing_faults g.F.Files.names g.P.Report old c.args.report.now in
    let now = seen g.F.Reads g.F.Files.writing_faults g.F.Files.names g.P.Report old c.say_absent.new.report in
    let part = subst (λ (inputs : List Input). SaysPart (g.P.Report.lines c.args.report.now) (g.P.Report.lines c.say_absent.new.report) (lines_before words (reads_in inputs))) c.as_slice.ensures c.in_err-say_absent.ensures.said in
    rw p.1
    (merge-begun was now p.0 f words prepared.inputs prepared.plan (zip contents (reads_in prepared.inputs)) (merge-is f words c.args.ids.now contents prepared c.requires.prepared told) part refl)

-- There is an input for each file that the command line names.
pub say_absent-requires : goal.say_absent-requires
say_absent-requires g c =
    subst (λ (inputs : List Input). length c.args.words.now.files ≤ length inputs) (sym c.as_slice.ensures)
    (many-inputs c.args.words.now c.args.prepared.inputs c.requires.prepared.both)

pub has_absent-absent-requires : goal.has_absent-absent-requires
has_absent-absent-requires g c =
    subst (λ (inputs : List Input). length c.args.words.now.files ≤ length inputs) (sym c.as_slice-2.ensures)
    (many-inputs c.args.words.now c.args.prepared.inputs c.requires.prepared.both)

pub remux-requires : goal.remux-requires
remux-requires g c = plan-good g.F.Reads g.F.Files c.args.files.now c.args.words.now c.args.ids.now c.args.prepared c.requires.words c.requires.inputs c.requires.prepared

-- An output couldn't be written.
pub returns-in-Err-clause-verdict : goal.returns-in-Err-clause-verdict
returns-in-Err-clause-verdict g c = λ contents told.
    let words = c.args.words.now in
    let prepared = c.args.prepared in
    let old = c.args.files.now in
    let f = live_files g.F.Reads old in
    let was = seen g.F.Reads g.F.Files.writing_faults g.F.Files.names g.P.Report old c.args.report.now in
    let now = seen g.F.Reads g.F.Files.writing_faults g.F.Files.names g.P.Report c.remux.new.files c.say_absent.new.report in
    let said = c.in_ok-say_absent.ensures.said ∙ ap (λ (inputs : List Input). with_lines (g.P.Report.lines c.args.report.now) (lines_before words (reads_in inputs))) c.as_slice.ensures in
    merge-left was now c.stop_of.result f words prepared.inputs prepared.plan (zip contents (reads_in prepared.inputs)) (merge-is f words c.args.ids.now contents prepared c.requires.prepared told) said
    (c.in-Err.ensures.output (plan-told f words c.args.ids.now contents prepared c.requires.prepared told))

-- The outputs are complete, and the remaining lines are printed.
pub returns-clause-verdict : goal.returns-clause-verdict
returns-clause-verdict g c = λ contents told.
    let words = c.args.words.now in
    let prepared = c.args.prepared in
    let old = c.args.files.now in
    let f = live_files g.F.Reads old in
    let was = seen g.F.Reads g.F.Files.writing_faults g.F.Files.names g.P.Report old c.args.report.now in
    let now = seen g.F.Reads g.F.Files.writing_faults g.F.Files.names g.P.Report c.remux.new.files c.tell.new.report in
    let said = c.in_ok-say_absent.ensures.said ∙ ap (λ (inputs : List Input). with_lines (g.P.Report.lines c.args.report.now) (lines_before words (reads_in inputs))) c.as_slice.ensures in
    let missing = c.has_absent-absent.ensures ∙ ap (λ (inputs : List Input). has_absent words (reads_in inputs)) c.as_slice-2.ensures in
    let planned = plan-told f words c.args.ids.now contents prepared c.requires.prepared told in
    merge-told was now (g.P.Report.lines c.say_absent.new.report) c.tell.result f words prepared.inputs prepared.plan (zip contents (reads_in prepared.inputs)) c.in-Ok.summary c.has_absent-absent.result
    (merge-is f words c.args.ids.now contents prepared c.requires.prepared told)
    (c.in-Ok.ensures.summary planned) missing said c.tell.ensures.said c.tell.ensures.status (c.in-Ok.ensures.output planned)

-- No output is longer than a file may be.
pub returns-clause-short : goal.returns-clause-short
returns-clause-short g c = λ world is contents told.
    let words = c.args.words.now in
    let prepared = c.args.prepared in
    let f = live_files g.F.Reads c.args.files.now in
    outputs-short (g.F.Files.names c.args.files.now) (g.F.Files.names c.remux.new.files) world c.tell.result f words prepared.inputs prepared.plan (zip contents (reads_in prepared.inputs))
    (merge-is f words c.args.ids.now contents prepared c.requires.prepared told) is (c.in-Ok.ensures.output (plan-told f words c.args.ids.now contents prepared c.requires.prepared told))

-- ---- bytes read

pub returns-in-Err-clause-octets : goal.returns-in-Err-clause-octets
returns-in-Err-clause-octets g c =
    plan-reads (live_files g.F.Reads c.args.files.now) c.args.words.now c.args.ids.now c.args.prepared (g.F.Reads.octets_read c.args.files.now) (g.F.Reads.octets_read c.remux.new.files) c.requires.prepared c.remux.ensures.octets

pub returns-clause-octets : goal.returns-clause-octets
returns-clause-octets g c =
    plan-reads (live_files g.F.Reads c.args.files.now) c.args.words.now c.args.ids.now c.args.prepared (g.F.Reads.octets_read c.args.files.now) (g.F.Reads.octets_read c.remux.new.files) c.requires.prepared c.remux.ensures.octets

-- ---- calls for files

-- The outputs are made.
pub returns-clause-asks : goal.returns-clause-asks
returns-clause-asks g c = merge-asks-made g.F.Reads g.F.Files c.args.words.now c.args.prepared.inputs c.args.prepared.plan c.args.files.now c.remux.new.files c.requires.prepared.plan c.remux.ensures.kept

pub returns-in-Err-clause-asks : goal.returns-in-Err-clause-asks
returns-in-Err-clause-asks g c = merge-asks-made g.F.Reads g.F.Files c.args.words.now c.args.prepared.inputs c.args.prepared.plan c.args.files.now c.remux.new.files c.requires.prepared.plan c.remux.ensures.kept

pub returns-in_err-say_absent-clause-asks : goal.returns-in_err-say_absent-clause-asks
returns-in_err-say_absent-clause-asks g c = merge-asks-none [] c.args.words.now (g.F.Files.asked c.args.files.now) (g.F.Files.asked c.args.files.now) refl
