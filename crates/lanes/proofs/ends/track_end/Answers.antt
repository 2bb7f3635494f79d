use Rattle.std.proofs.Common.{◌≡◌, sym, ◌∙◌, ap, arith, rules, to_z, of_z, w64}
use Rattle.std.proofs.lemmas.Int.{ints}
use Rattle.std.specs.Prelude.{◌+ℤ◌, ℤ}
use Rattle.merge_model.specs.FileLinks.{listing_of}
use Rattle.merge_model.specs.Timed.{time_for}
use Rattle.block_reader.specs.declared.head.BlockHead.{BlockHead}
use Rattle.output_model.specs.Ticks.{since_start}
use Rattle.lanes.specs.Ends.{lasting_for}
use Rattle.lanes.proofs.EndLemmas.{end-taken}
use Rattle.lanes.proofs.ends.track_end.Goals as goal

pub returns-clause-exact : goal.returns-clause-exact
returns-clause-exact c =
    let t = c.args.track.now in
    let b = c.args.cursor.now.block in
    let time = c.time_of-time.result in
    let sum : to_z w64 (of_z w64 time) +ℤ to_z w64 (of_z w64 t.delay) ≡ time +ℤ t.delay = omega (arith, ints, c.time_of-time.ensures.small, c.requires.moves.near) in
    let own : to_z w64 (of_z w64 c.head-block.result.now.time) ≡ c.head-block.result.now.time = omega (arith, ints, c.head-block.ensures.small.time) in
    sym (end-taken t c.args.before b c.in-Some.t c.lasting.result c.frames.result (search rules)
    (sym (c.in-Some.ensures.exact ∙ ap since_start sum ∙ ap (λ (z : ℤ). since_start (z +ℤ t.delay))
    (c.time_of-time.ensures.exact ∙ ap (time_for (listing_of t) c.args.before) own ∙ ap (λ (h : BlockHead). time_for (listing_of t) c.args.before h.time) c.head-block.ensures.exact)))
    (c.lasting.ensures.exact ∙ ap (λ (h : BlockHead). lasting_for h.duration t.default_duration c.frames.result) c.head-block.ensures.exact)
    c.frames.ensures.exact)
