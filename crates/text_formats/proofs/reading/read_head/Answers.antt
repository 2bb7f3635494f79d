use Rattle.std.proofs.Common.{◌≡◌, ◌≤◌, ◌<◌, ◌+◌, true, false, arith, sym, Some, None, []}
use Rattle.std.proofs.lemmas.Grind.{common_steps}
use Rattle.std.specs.Str.{is_utf8}
use Rattle.std.specs.Str.Lines.{lines}
use Rattle.text_formats.specs.Times.{is_number, times}
use Rattle.text_formats.proofs.SrtLemmas.{head_other, head_alone, head_is, entries_head, second_no_text, second_late, second_good}
use Rattle.text_formats.proofs.reading.read_head.Goals as goal

pub returns-then-not-is_number-clause-is : goal.returns-then-not-is_number-clause-is
returns-then-not-is_number-clause-is c =
    let other : is_number c.args.line.now ≡ false = grind (arith, common_steps) in
    head_other c.args.line.now (lines c.args.after.now) other

pub returns-in_default-clause-is : goal.returns-in_default-clause-is
returns-in_default-clause-is c =
    let none : lines c.args.after.now ≡ [] = c.in_default.ensures.first in
    cc (head_alone c.args.line.now, none)

pub returns-in_default-times_of-clause-is : goal.returns-in_default-times_of-clause-is
returns-in_default-times_of-clause-is c =
    let is : is_number c.args.line.now ≡ true = grind (arith, common_steps) in
    let none : times c.in-Some.second.now ≡ None = grind (arith, common_steps) in
    cc (head_is c.args.line.now c.in-Some.second.now (lines c.in-Some.rest.now) is, c.in-Some.ensures.first, none)

pub returns-in_default-text-clause-is : goal.returns-in_default-text-clause-is
returns-in_default-text-clause-is c =
    let l = c.args.line.now in let t = c.in-Some.second.now in let ls = lines c.in-Some.rest.now in let x = c.in-Some-times_of.times in
    let is : is_number l ≡ true = grind (arith, common_steps) in
    let e : times t ≡ Some x = sym c.in-Some-times_of.ensures.same in
    let bad : is_utf8 t ≡ false = grind (arith, common_steps) in
    (x, cc (head_is l t ls is, c.in-Some.ensures.first, e), cc (second_no_text (c.args.number + 1) t ls x bad, c.in-Some.ensures.first))

pub returns-then-times-clause-is : goal.returns-then-times-clause-is
returns-then-times-clause-is c =
    let l = c.args.line.now in let t = c.in-Some.second.now in let ls = lines c.in-Some.rest.now in let x = c.in-Some-times_of.times in
    let is : is_number l ≡ true = grind (arith, common_steps) in
    let e : times t ≡ Some x = sym c.in-Some-times_of.ensures.same in
    let late : x.end < x.start = omega arith in
    (x, cc (head_is l t ls is, c.in-Some.ensures.first, e), cc (second_late (c.args.number + 1) t ls x late, c.in-Some.ensures.first))

pub returns-clause-is : goal.returns-clause-is
returns-clause-is c =
    let l = c.args.line.now in let t = c.in-Some.second.now in let ls = lines c.in-Some.rest.now in let x = c.in-Some-times_of.times in
    let is : is_number l ≡ true = grind (arith, common_steps) in
    let e : times t ≡ Some x = sym c.in-Some-times_of.ensures.same in
    let text : is_utf8 t ≡ true = grind (arith, common_steps) in
    let right : x.start ≤ x.end = omega arith in
    let h = c.in-Some.ensures.first in
    (cc (head_is l t ls is, h, e), cc (entries_head l t ls x is e, h), cc (second_good (c.args.number + 1) t ls x e text right, h))
