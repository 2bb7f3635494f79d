use Rattle.std.proofs.Common.{◌≡◌, pos, get_or, SFits, to_z, of_z, w64, ◌∙◌, ap, rules}
use Rattle.std.proofs.lemmas.Int.{to_z-of_z}
use Rattle.std.proofs.Math.ListN.{set}
use Rattle.std.specs.Int.{w128}
use Rattle.block_reader.specs.Time.{scaled}
use Rattle.block_reader.proofs.TimeLemmas.{scaled-some, scale-more, fits-more}
use Rattle.block_reader.proofs.time.scale_all.Goals as goal

-- One more time is scaled.
pub loop-time-preserved : goal.loop-time-preserved
loop-time-preserved c =
    let xs = c.args.times.now in
    let ys = c.loop-time.times in
    let i = c.loop-time.time-index in
    let n = c.in-Some.nanoseconds in
    let narrow : SFits w64 (get_or ys i (pos 0)) = search rules in
    let wide : SFits w128 c.from.result = search rules in
    let back : SFits w64 n = search rules in
    let read : to_z w128 (of_z w128 c.from.result) ≡ get_or ys i (pos 0) = to_z-of_z w128 c.from.result wide ∙ c.from.ensures ∙ to_z-of_z w64 (get_or ys i (pos 0)) narrow in
    let found = scaled-some c.args.scale (get_or ys i (pos 0)) n (c.in-Some.ensures ∙ ap (scaled c.args.scale) read) in
    record {
      done = ap (set ys i) (to_z-of_z w64 n back) ∙ scale-more c.args.scale xs ys i n (pos 0) c.loop-time-test.true c.loop-time.invariant.done found.0;
      fits = fits-more c.args.scale xs ys i (pos 0) c.loop-time-test.true c.loop-time.invariant.done c.loop-time.invariant.fits found.1;
    }
