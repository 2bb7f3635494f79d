use Rattle.std.proofs.Common.{◌≡◌, ◌<◌, length, drop, take, true, false, arith, codes}
use Rattle.std.proofs.lemmas.Grind.{common_steps}
use Rattle.std.specs.Str.{bytes_eq}
use Rattle.text_formats.proofs.SrtLemmas.{arrow_at, arrow_later, arrow_end}
use Rattle.text_formats.proofs.reading.has_arrow.Goals as goal

pub returns-then-starts_with : goal.returns-then-starts_with
returns-then-starts_with c =
    let l = c.args.line.now in let i = c.loop-at.at in
    let within : i < length l = omega arith in
    let here : bytes_eq (take 3 (drop i l)) (codes "-->") ≡ true = grind (arith, common_steps) in
    cc (arrow_at l i within here, c.loop-at.invariant)

pub loop-at-preserved : goal.loop-at-preserved
loop-at-preserved c =
    let l = c.args.line.now in let i = c.loop-at.at in
    let within : i < length l = omega arith in
    let here : bytes_eq (take 3 (drop i l)) (codes "-->") ≡ false = grind (arith, common_steps) in
    cc (arrow_later l i within here, c.loop-at.invariant)

pub returns : goal.returns
returns c =
    let l = c.args.line.now in let i = c.loop-at.at in
    cc (arrow_end l i (omega arith), c.loop-at.invariant)
