use Rattle.std.proofs.Common.{◌≡◌, length, sym, ◌∙◌, ap, subst, arith}
use Rattle.std.specs.Prelude.{List, IfOk}
use Rattle.mkv_io.specs.declared.outside.FileId.{FileId}
use Rattle.mkv_io.specs.Sources.{live_files}
use Rattle.block_format.specs.Elements.{with_limits}
use Rattle.block_format.specs.Events.{events_of}
use Rattle.cluster_reader.specs.Reading.{left_of}
use Rattle.merge_model.specs.FileLinks.{IsOpenLink, IsToldLink, octets_in, track_events}
use Rattle.merge_model.specs.declared.link.Link.{Link}
use Rattle.lanes.specs.Ends.{texts_end}
use Rattle.lanes.specs.Survey.{IsSurvey, first_track, length_of}
use Rattle.lanes.specs.Walked.{IsWalked}
use Rattle.lanes.proofs.SurveyLemmas.{answer-map, first-all, survey-texts, survey-walked}
use Rattle.lanes.proofs.file_survey.survey.Goals as goal

-- ---- without a track

pub returns-in_default-clause-value : goal.returns-in_default-clause-value
returns-in_default-clause-value g c = λ told.
    survey-texts (live_files g.R.Reads c.args.src.now) c.args.links.now c.texts_end.result
    (ap first_track (sym c.as_slice-links.ensures) ∙ sym c.in_default.ensures)
    (c.texts_end.ensures.exact ∙ ap texts_end c.as_slice-links.ensures)

-- ---- the file of the first track

pub start-requires : goal.start-requires
start-requires g c =
    let first = ap first_track (sym c.as_slice-links.ensures) ∙ sym c.in-Some.ensures in
    (first-all (IsOpenLink (live_files g.R.Reads c.args.src.now)) c.args.links.now c.in-Some.track.now first c.requires.open).scale

pub walk-requires-clause-ready : goal.walk-requires-clause-ready
walk-requires-clause-ready g c =
    let f = live_files g.R.Reads c.args.src.now in
    let first = ap first_track (sym c.as_slice-links.ensures) ∙ sym c.in-Some.ensures in
    let opened = first-all (IsOpenLink f) c.args.links.now c.in-Some.track.now first c.requires.open in
    c.in_ok-cursor.ensures.stands f opened.live (opened.size ∙ ap (λ o. o.total) (sym c.deref.ensures))

pub returns-clause-value : goal.returns-clause-value
returns-clause-value g c = λ told.
    let f = live_files g.R.Reads c.args.src.now in
    let t = c.in-Some.track.now in
    let first = ap first_track (sym c.as_slice-links.ensures) ∙ sym c.in-Some.ensures in
    let opened = first-all (IsOpenLink f) c.args.links.now t first c.requires.open in
    let content = first-all (IsToldLink f) c.args.links.now t first told in
    let total : f.size t.file.n ≡ c.deref.result.now.total = opened.size ∙ ap (λ o. o.total) (sym c.deref.ensures) in
    let whole : c.deref.result.now.total ≡ length (octets_in f t.file.n) = sym total ∙ sym (g.met.R.Reads.told_size (g.R.Reads.standing c.args.src.now) t.file.n (octets_in f t.file.n) content) in
    let begins : left_of (octets_in f t.file.n) c.in_ok-cursor.cursor ≡ track_events f t =
    c.in_ok-cursor.ensures.left (octets_in f t.file.n) whole ∙ ap (λ o. events_of (with_limits t.scale) (octets_in f t.file.n) o.segment) c.deref.ensures in
    let here = ap (λ (each : FileId). f.content each.n) c.in_ok-cursor.ensures.begins.file ∙ content in
    let links : List Link = c.args.links.now in
    answer-map (IsWalked (left_of (octets_in f t.file.n) c.in_ok-cursor.cursor) links) (IsSurvey f links) c.walk.result
    (λ s walked. survey-walked f links t s (left_of (octets_in f t.file.n) c.in_ok-cursor.cursor) first c.requires.one begins walked)
    (subst (λ (ls : List Link). IfOk c.walk.result (IsWalked (left_of (octets_in f t.file.n) c.in_ok-cursor.cursor) ls)) c.as_slice-links.ensures (c.walk.ensures.value (octets_in f t.file.n) here))

pub returns-clause-octets : goal.returns-clause-octets
returns-clause-octets g c =
    let f = live_files g.R.Reads c.args.src.now in
    let t = c.in-Some.track.now in
    let first = ap first_track (sym c.as_slice-links.ensures) ∙ sym c.in-Some.ensures in
    let length_is : length_of f (first_track c.args.links.now) ≡ f.size t.file.n = ap (length_of f) first in
    let size : f.size c.in_ok-cursor.cursor.file.n ≡ f.size t.file.n = ap (λ (each : FileId). f.size each.n) c.in_ok-cursor.ensures.begins.file in
    omega (arith, c.walk.ensures.octets, length_is, size)
