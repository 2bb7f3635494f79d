use Rattle.std.proofs.Common.{◌∷◌, [], append_assoc}
use Rattle.text_formats.specs.Reading.{breaks}
use Rattle.text_formats.proofs.SrtLemmas.{breaks_one}
use Rattle.text_formats.proofs.reading.add_line.Goals as goal

pub loop-preserved : goal.loop-preserved
loop-preserved c =
    let t = c.args.text.now in let k = c.loop.counter in
    let joined = append_assoc t (breaks k) (10 ∷ []) in
    cc (c.loop.invariant, c.in_ok-append.ensures.ok, breaks_one k, joined)
