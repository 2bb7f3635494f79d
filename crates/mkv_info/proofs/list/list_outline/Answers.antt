use Rattle.std.proofs.Common.{◌∙◌, ap}
use Rattle.std.proofs.lemmas.Result.{err_from_is_err_and}
use Rattle.mkv_info.proofs.ListedLemmas.{reaches-part, reaches-second, reaches-refused, reaches-warned}
use Rattle.mkv_info.proofs.list.list_outline.Goals as goal

-- The Elements couldn't be printed.
pub returns-in_err-say_elements-in-Ok-clause-verdict : goal.returns-in_err-say_elements-in-Ok-clause-verdict
returns-in_err-say_elements-in-Ok-clause-verdict g c = λ bytes told outline.
    let p = err_from_is_err_and c.from_residual-in_err-say_elements-in-Ok.result c.from_residual-in_err-say_elements-in-Ok.ensures.1 in
    let now = ap (λ s. (g.R.Reads.files s).content c.args.file.n) c.tracks_of.ensures.standing ∙ told in
    rw p.1
    (reaches-part (g.P.Report.lines c.args.report.now) (g.P.Report.lines c.say_elements.new.report) c.args.name.now bytes c.args.outline.now c.in_ok-tracks.field-0 c.in-Ok.tracks p.0
    outline (c.in_ok-tracks.ensures.ok bytes told outline) c.in-Ok.is (c.in_err-say_elements-in-Ok.ensures.said bytes now))

-- The tracks couldn't be printed.
pub returns-in_err-say_tracks-in-Ok-clause-verdict : goal.returns-in_err-say_tracks-in-Ok-clause-verdict
returns-in_err-say_tracks-in-Ok-clause-verdict g c = λ bytes told outline.
    let p = err_from_is_err_and c.from_residual-in_err-say_tracks-in-Ok.result c.from_residual-in_err-say_tracks-in-Ok.ensures.1 in
    let now = ap (λ s. (g.R.Reads.files s).content c.args.file.n) c.tracks_of.ensures.standing ∙ told in
    rw p.1
    (reaches-second (g.P.Report.lines c.args.report.now) (g.P.Report.lines c.say_elements.new.report) (g.P.Report.lines c.say_tracks.new.report) c.args.name.now bytes c.args.outline.now c.in_ok-tracks.field-0 c.in-Ok.tracks p.0
    outline (c.in_ok-tracks.ensures.ok bytes told outline) c.in-Ok.is (c.in_ok-say_elements-in-Ok.ensures.said bytes now) c.in_err-say_tracks-in-Ok.ensures.said)

-- All lines were printed.
pub returns-in_ok-say_tracks-in-Ok-clause-verdict : goal.returns-in_ok-say_tracks-in-Ok-clause-verdict
returns-in_ok-say_tracks-in-Ok-clause-verdict g c = λ bytes told outline.
    let now = ap (λ s. (g.R.Reads.files s).content c.args.file.n) c.tracks_of.ensures.standing ∙ told in
    reaches-warned (g.P.Report.lines c.args.report.now) (g.P.Report.lines c.say_elements.new.report) (g.P.Report.lines c.say_tracks.new.report) (g.P.Report.lines c.warn.new.report) c.args.name.now bytes c.args.outline.now c.in_ok-tracks.field-0 c.in-Ok.tracks c.damage.result c.warn.result
    outline (c.in_ok-tracks.ensures.ok bytes told outline) c.in-Ok.is c.damage.ensures (c.in_ok-say_elements-in-Ok.ensures.said bytes now) c.in_ok-say_tracks-in-Ok.ensures.said c.warn.ensures.said c.warn.ensures.status

-- The tracks refuse the file.
pub returns-in-Err-clause-verdict : goal.returns-in-Err-clause-verdict
returns-in-Err-clause-verdict g c = λ bytes told outline.
    reaches-refused (g.P.Report.lines c.args.report.now) (g.P.Report.lines c.refuse.new.report) c.args.name.now bytes c.args.outline.now c.in_ok-tracks.field-0 c.in-Err.damage c.refuse.result
    outline (c.in_ok-tracks.ensures.ok bytes told outline) c.in-Err.is c.refuse.ensures.verdict
