use Rattle.std.proofs.Common.{◌≡◌, ℕ, ◌+◌, ◌<◌, List, ◌∷◌, [], length, drop, get_or, ◌∙◌, ap, subst, rules}
use Rattle.std.proofs.lemmas.Result.{err_from_is_err_and}
use Rattle.mkv_io.specs.Lines.{with_lines}
use Rattle.mkv_lines.specs.Said.{SaysPart}
use Rattle.mkv_lines.proofs.SaidLemmas.{SaysUpTo-more, SaysUpTo-stops}
use Rattle.track_records.specs.declared.track.Track.{Track}
use Rattle.mkv_info.specs.Tracks.{shown_track, track_lines}
use Rattle.mkv_info.proofs.TracksLemmas.{track_lines-next}
use Rattle.mkv_info.proofs.tracks.say_tracks.Goals as goal

-- A line couldn't be printed.
pub returns-in_err-say-clause-said : goal.returns-in_err-say-clause-said
returns-in_err-say-clause-said g c =
    let items = c.as_slice-track-items.ensures in
    let k = c.loop-index.index in
    let t = c.track-item.result in
    let below = subst (λ (l : List Track). k < length l) items c.loop-index-test.true in
    let is = subst (λ (l : List Track). t ≡ get_or l k t) items c.track-item.is in
    let p = err_from_is_err_and c.from_residual.result c.from_residual.ensures.1 in
    rw p.1
    (SaysUpTo-stops (g.P.Report.lines c.args.report.now) (g.P.Report.lines c.loop-index.report) (g.P.Report.lines c.say.new.report) (track_lines 0 c.args.tracks.now) (shown_track k t ∷ []) (track_lines (k + 1) (drop (k + 1) c.args.tracks.now))
    (track_lines-next (g.P.Report.lines c.args.report.now) (g.P.Report.lines c.loop-index.report) (track_lines 0 c.args.tracks.now) k c.args.tracks.now t below is c.loop-index.invariant.way)
    (subst (λ (line : List ℕ). SaysPart (g.P.Report.lines c.loop-index.report) (g.P.Report.lines c.say.new.report) (line ∷ [])) c.shown.ensures c.in_err-say.ensures.said))

-- Another line was printed.
pub loop-index-preserved : goal.loop-index-preserved
loop-index-preserved g c = record {
  report = search rules;
  way =
      let items = c.as_slice-track-items.ensures in
      let k = c.loop-index.index in
      let t = c.track-item.result in
      let below = subst (λ (l : List Track). k < length l) items c.loop-index-test.true in
      let is = subst (λ (l : List Track). t ≡ get_or l k t) items c.track-item.is in
      SaysUpTo-more (g.P.Report.lines c.args.report.now) (g.P.Report.lines c.loop-index.report) (g.P.Report.lines c.say.new.report) (track_lines 0 c.args.tracks.now) (shown_track k t ∷ []) (track_lines (k + 1) (drop (k + 1) c.args.tracks.now))
      (track_lines-next (g.P.Report.lines c.args.report.now) (g.P.Report.lines c.loop-index.report) (track_lines 0 c.args.tracks.now) k c.args.tracks.now t below is c.loop-index.invariant.way)
      (c.in_ok-say.ensures.said ∙ ap (λ (line : List ℕ). with_lines (g.P.Report.lines c.loop-index.report) (line ∷ [])) c.shown.ensures);
}
