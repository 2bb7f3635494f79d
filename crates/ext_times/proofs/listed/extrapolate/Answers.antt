use Rattle.std.proofs.Common.{◌<◌, ◌^◌, pos, ◌+ℤ◌, ◌-ℤ◌, ◌*ℤ◌, arith}
use Rattle.std.proofs.lemmas.Int.{to_z-of_z}
use Rattle.ext_times.proofs.TimesLemmas.{fits, widened, along_is}
use Rattle.ext_times.proofs.listed.extrapolate.Goals as goal
use mir.Syntax.{w128}

pub overflow_add-result : goal.overflow_add-result
overflow_add-result c =
    let before = c.args.before in let last = c.args.last in let frames = c.args.frames in
    let few : frames < 2 ^ 64 = omega arith in
    let is = along_is before last frames c.from.result c.from-2.result c.from-3.result c.from-4.result c.requires.before c.requires.last few
    (widened last c.from.result c.requires.last c.from.ensures) (widened before c.from-2.result c.requires.before c.from-2.ensures)
    (widened last c.from-3.result c.requires.last c.from-3.ensures) c.from-4.ensures in
    let fit = fits before last frames c.requires.before c.requires.last few in
    rw is fit.sum

pub returns : goal.returns
returns c =
    let before = c.args.before in let last = c.args.last in let frames = c.args.frames in
    let few : frames < 2 ^ 64 = omega arith in
    let is = along_is before last frames c.from.result c.from-2.result c.from-3.result c.from-4.result c.requires.before c.requires.last few
    (widened last c.from.result c.requires.last c.from.ensures) (widened before c.from-2.result c.requires.before c.from-2.ensures)
    (widened last c.from-3.result c.requires.last c.from-3.ensures) c.from-4.ensures in
    let fit = fits before last frames c.requires.before c.requires.last few in
    rw is (to_z-of_z w128 (last +ℤ ((last -ℤ before) *ℤ pos frames)) fit.sum)
