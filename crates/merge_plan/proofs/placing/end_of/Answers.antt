-- The links of an input are walked over.
use Rattle.std.proofs.Common.{ℕ, ◌+◌, ◌∙◌, ap, arith}
use Rattle.mkv_io.specs.Sources.{live_files}
use Rattle.merge_model.specs.Ends.{file_end}
use Rattle.merge_inputs.specs.Input.{read_in}
use Rattle.merge_plan.specs.Plan.{append_offset}
use Rattle.merge_plan.proofs.PlanLemmas.{input-taken}
use Rattle.merge_plan.proofs.LinkLemmas.{links-given, links-length, links-one, links-open, links-timed, links-told}
use Rattle.merge_plan.proofs.placing.end_of.Goals as goal

pub links_of-requires : goal.links_of-requires
links_of-requires g c = input-taken (live_files g.R.Reads c.args.src.now) c.args.input.now c.requires.input

pub survey-requires-clause-open : goal.survey-requires-clause-open
survey-requires-clause-open g c =
    let f = live_files g.R.Reads c.args.src.now in
    links-open c.args.input.now c.in_ok-links.links c.in_ok-links.ensures (input-taken f c.args.input.now c.requires.input) f c.requires.input

pub survey-requires-clause-timed : goal.survey-requires-clause-timed
survey-requires-clause-timed g c =
    links-timed c.args.input.now c.in_ok-links.links c.in_ok-links.ensures (input-taken (live_files g.R.Reads c.args.src.now) c.args.input.now c.requires.input) c.requires.place

pub survey-requires-clause-one : goal.survey-requires-clause-one
survey-requires-clause-one g c = links-one c.args.input.now c.in_ok-links.links c.in_ok-links.ensures (input-taken (live_files g.R.Reads c.args.src.now) c.args.input.now c.requires.input)

pub returns-clause-exact : goal.returns-clause-exact
returns-clause-exact g c = λ told.
    let f = live_files g.R.Reads c.args.src.now in
    let i = c.args.input.now in
    let links = c.in_ok-links.links in
    let are = c.in_ok-links.ensures in
    ap (λ (n : ℕ). n + c.in_ok-found.found.end) c.unwrap_or.ensures
    ∙ ap (λ (n : ℕ). append_offset (read_in i) + n) ((c.in_ok-found.ensures.value (links-told i links are (input-taken f i c.requires.input) f told)).end ∙ ap file_end (links-given i links are (input-taken f i c.requires.input) f))

pub returns-clause-octets : goal.returns-clause-octets
returns-clause-octets g c =
    let f = live_files g.R.Reads c.args.src.now in
    omega (arith, c.survey.ensures.octets, links-length c.args.input.now c.in_ok-links.links c.in_ok-links.ensures (input-taken f c.args.input.now c.requires.input) f)

pub returns-in_err-found-clause-octets : goal.returns-in_err-found-clause-octets
returns-in_err-found-clause-octets g c =
    let f = live_files g.R.Reads c.args.src.now in
    omega (arith, c.survey.ensures.octets, links-length c.args.input.now c.in_ok-links.links c.in_ok-links.ensures (input-taken f c.args.input.now c.requires.input) f)
