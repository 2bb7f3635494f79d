use Rattle.std.proofs.Common.{◌≡◌, ◌+◌, length, arith, append-nil, sym}
use Rattle.std.proofs.lemmas.Grind.{common_steps}
use Rattle.std.specs.Str.Lines.{lines}
use Rattle.text_formats.specs.Turn.{timed_in}
use Rattle.text_formats.proofs.PairsLemmas.{pairs_empty, pairs_end, pairs_missing, bad_whole, simple_is}
use Rattle.text_formats.proofs.chapter_reading.read_pairs.Goals as goal

pub returns-in-Err : goal.returns-in-Err
returns-in-Err c =
    let same = rw c.in-Some.ensures.first at c.loop-line.invariant.same in
    record { exact = rw (simple_is c.args.bytes.now) (bad_whole c.in-Err.end c.loop-line.list _ _ same (c.in-Err.ensures (lines c.in-Some.after.now))) }

pub loop-line-preserved : goal.loop-line-preserved
loop-line-preserved c =
    let l = c.in-Some.line.now in let ls = lines c.in-Some.after.now in
    let empty : length l ≡ 0 = grind (arith, common_steps) in
    let same = rw c.in-Some.ensures.first at c.loop-line.invariant.same in
    let less = c.in-Some.ensures.less in let room = c.loop-line.invariant.room in
    record { room = omega arith; same = cc (same, pairs_empty l ls (c.loop-line.number + 1) (timed_in c.loop-line.due) empty) }

pub returns-in-None : goal.returns-in-None
returns-in-None c =
    record { exact = rw (simple_is c.args.bytes.now) (sym (rw (c.in_default.ensures.first, c.in-None.is, pairs_end (c.loop-line.number + 1), append-nil c.loop-line.list) at c.loop-line.invariant.same)) }

pub returns-in-Some-due : goal.returns-in-Some-due
returns-in-Some-due c =
    record { exact = rw (simple_is c.args.bytes.now) (sym (rw (c.in_default.ensures.first, c.in-Some-due.is, pairs_missing) at c.loop-line.invariant.same)) }
