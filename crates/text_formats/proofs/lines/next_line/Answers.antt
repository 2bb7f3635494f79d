use Rattle.std.proofs.Common.{arith, ◌≡◌, ◌<◌, ◌-◌, ◌+◌, length, take, drop, sym, Some, None}
use Rattle.std.proofs.lemmas.Grind.{common_steps}
use Rattle.std.specs.List.{position}
use Rattle.text_formats.proofs.LinesLemmas.{is_lf, lines_first, lines_last, drop_all}
use Rattle.text_formats.proofs.lines.next_line.Goals as goal

pub returns-in-Some-clause-first : goal.returns-in-Some-clause-first
returns-in-Some-clause-first c =
    let w = c.args.rest.now in let i = c.in-Some.end in
    let e : position is_lf w ≡ Some i = sym c.in-Some.ensures in
    let all : take (length w - (i + 1)) (drop (i + 1) w) ≡ drop (i + 1) w = grind (arith, common_steps) in
    cc (lines_first w i e, c.without_return.ensures, all)

pub returns-else-is_empty-clause-first : goal.returns-else-is_empty-clause-first
returns-else-is_empty-clause-first c =
    let w = c.args.rest.now in
    let e : position is_lf w ≡ None = sym c.in-None.ensures in
    let some : 0 < length w = grind (arith, common_steps) in
    let all : take (length w - length w) (drop (length w) w) ≡ drop (length w) w = grind (arith, common_steps) in
    cc (lines_last w e some, drop_all w, all)
