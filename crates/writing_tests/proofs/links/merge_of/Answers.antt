use Rattle.std.proofs.Common.{sym, subst, ◌∙◌, ap}
use Rattle.std.specs.List.{All}
use Rattle.std.proofs.lemmas.List.Elements.{All-nil, All-push}
use Rattle.mkv_io.specs.Sources.{live_files}
use Rattle.lanes.specs.Lane.{IsReady}
use Rattle.writing_tests.proofs.links.merge_of.Goals as goal

pub returns : goal.returns
returns g c =
    let f = live_files g.R.Reads c.start.new._src in
    let first = c.in_ok-lane_of.field-0 in
    let second = c.in_ok-lane_of-2.field-0 in
    let idle = c.in_ok-start.ensures.idle in
    let ready_first : IsReady f first = subst (λ s. IsReady (g.R.Reads.files s) first) (sym (ap g.R.Reads.standing idle ∙ c.in_ok-lane_of-2.ensures.standing)) c.in_ok-lane_of.ensures.ready in
    let ready_second : IsReady f second = subst (λ src. IsReady (live_files g.R.Reads src) second) (sym idle) c.in_ok-lane_of-2.ensures.ready in
    let one : All (IsReady f) c.push.new.self = subst (All (IsReady f)) (sym c.in_ok-push.ensures.ok) (All-push (IsReady f) c.new-lanes.result first (subst (All (IsReady f)) (sym c.new-lanes.ensures) (All-nil (IsReady f))) ready_first) in
    (c.in_ok-start.ensures.starts f).ready (subst (All (IsReady f)) (sym c.in_ok-push-2.ensures.ok) (All-push (IsReady f) c.push.new.self second one ready_second))
