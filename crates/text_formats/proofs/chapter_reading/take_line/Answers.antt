use Rattle.std.proofs.Common.{◌≡◌, Some, sym, ap}
use Rattle.text_formats.specs.Pairs.{first_line, second_line}
use Rattle.text_formats.specs.Turn.{in_front_of, timed_of}
use Rattle.text_formats.proofs.PairsLemmas.{first_good, first_bad, second_bad, second_joined}
use Rattle.text_formats.proofs.chapter_reading.take_line.Goals as goal

pub returns-in-Some-first_line : goal.returns-in-Some-first_line
returns-in-Some-first_line c = λ ls.
    let first = timed_of c.in-Some-first_line.first in
    let read : first_line c.args.line.now ≡ Some first = sym c.in-Some-first_line.ensures in
    let whole = first_good c.args.line.now ls c.args.number first c.requires read in
    rw c.in_default.is (ap (in_front_of c.args.list.now) whole)

pub returns-in-None : goal.returns-in-None
returns-in-None c = λ ls. rw c.in_default.is (first_bad c.args.line.now ls c.args.number c.requires (sym c.in-None.ensures))

pub returns-in_default-second_line : goal.returns-in_default-second_line
returns-in_default-second_line c = λ ls.
    rw c.in-Some.is (second_bad c.args.line.now ls c.args.number (timed_of c.in-Some.due) c.requires (sym c.in_default-second_line.ensures))

pub returns : goal.returns
returns c = λ ls.
    let due = timed_of c.in-Some.due in
    let read : second_line due.number c.args.line.now ≡ Some c.in-Some-second_line.words.now = sym c.in-Some-second_line.ensures in
    let whole = second_joined c.args.list.now c.args.line.now ls c.args.number due c.in-Some-second_line.words.now c.requires read in
    let pushed = rw c.in_ok-chapter.ensures at c.in_ok-push.ensures.ok in
    rw (c.in-Some.is, pushed) whole
