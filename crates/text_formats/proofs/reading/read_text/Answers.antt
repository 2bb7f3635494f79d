use Rattle.std.proofs.Common.{◌≡◌, ◌∷◌, ◌<◌, ◌+◌, true, false, arith, refl, subst, ℕ, Option, Some, None, Ok, [], ◌++◌, List, append_assoc, length}
use Rattle.text_formats.specs.declared.reading.Head.{Head}
use Rattle.text_formats.specs.Ends.{Blames}
use Rattle.text_formats.specs.Reading.{HeadRead, IsWithin, breaks}
use Rattle.std.proofs.lemmas.Grind.{common_steps}
use Rattle.std.specs.Str.Lines.{lines}
use Rattle.text_formats.specs.Srt.{before_head, head}
use Rattle.text_formats.specs.Walk.{bad_from, is_bad_at, Behind, Second}
use Rattle.text_formats.proofs.SrtLemmas.{entries_other, entries_end, bad_end, bad_here, bad_head, bad_other, before_other, before_at, before_end, adds_text, adds_empty, adds_some, adds}
use Rattle.text_formats.proofs.reading.read_text.Goals as goal

pub loop-line-init : goal.loop-line-init
loop-line-init c =
    let ls = before_head (lines c.args.from.now) in
    record {
      room = omega arith;
      less = omega arith;
      few = omega arith;
      text = cc (c.new-text.ensures, adds_text ls);
      same = refl;
      bad = refl;
    }

pub returns-in_default-plain-clause-err : goal.returns-in_default-plain-clause-err
returns-in_default-plain-clause-err c =
    let l = c.in-Some.line.now in let ls = lines c.in-Some.after.now in let n = c.loop-line.number + 1 in
    let bad : is_bad_at Behind false l ≡ true = c.in_default-plain.ensures in
    cc (c.loop-line.invariant.bad, c.in-Some.ensures.first, bad_here Behind n l ls bad)

pub returns-in-Err-clause-err : goal.returns-in-Err-clause-err
returns-in-Err-clause-err c =
    let l = c.in-Some.line.now in let ls = lines c.in-Some.after.now in let n = c.loop-line.number + 1 in
    let good : is_bad_at Behind true l ≡ false = c.in-Some-plain.ensures.0 in
    let read = c.in-Err.ensures.is in
    let same : bad_from (Second read.0) (n + 1) ls ≡ bad_from Behind (c.args.before + 1) (lines c.args.from.now) =
    cc (c.loop-line.invariant.bad, c.in-Some.ensures.first, bad_head Behind n l ls read.0 read.1 good) in
    subst (λ (bad : Option ℕ). Blames c.in-Err.end bad) same read.2

no_more : (text : List ℕ) → text ++ [] ≡ text
no_more text = grind (arith, common_steps)

pub returns-in-Ok-Some-clause-text : goal.returns-in-Ok-Some-clause-text
returns-in-Ok-Some-clause-text c =
    let l = c.in-Some.line.now in let ls = lines c.in-Some.after.now in let n = c.loop-line.number + 1 in
    let read : HeadRead l ls n (Ok (Some c.in-Ok-Some.head)) = subst (λ (o : Option Head). HeadRead l ls n (Ok o)) c.in-Ok-Some.field-0-is c.in-Ok-Some.ensures.is in
    let h = c.in-Some.ensures.first in
    let none : before_head (lines c.loop-line.rest.now) ≡ [] = cc (h, before_at l ls c.in-Ok-Some.head.times read.0) in
    let text = rw none at c.loop-line.invariant.text in
    cc (no_more c.loop-line.text, text)

pub returns-in-Ok-Some-clause-ok : goal.returns-in-Ok-Some-clause-ok
returns-in-Ok-Some-clause-ok c =
    let l = c.in-Some.line.now in let ls = lines c.in-Some.after.now in let n = c.loop-line.number + 1 in
    let good : is_bad_at Behind true l ≡ false = c.in-Some-plain.ensures.0 in
    let read : HeadRead l ls n (Ok (Some c.in-Ok-Some.head)) = subst (λ (o : Option Head). HeadRead l ls n (Ok o)) c.in-Ok-Some.field-0-is c.in-Ok-Some.ensures.is in
    let h = c.in-Some.ensures.first in
    (cc (c.loop-line.invariant.same, h, read.1), cc (c.loop-line.invariant.bad, h, bad_head Behind n l ls c.in-Ok-Some.head.times read.0 good, read.2))

pub returns-in-Ok-Some-clause-within : goal.returns-in-Ok-Some-clause-within
returns-in-Ok-Some-clause-within c =
    let n = c.loop-line.number + 1 in
    let read : IsWithin n c.in-Some.after.now (Some c.in-Ok-Some.head) = subst (IsWithin n c.in-Some.after.now) c.in-Ok-Some.field-0-is c.in-Ok-Some.ensures.within in
    let room = c.loop-line.invariant.room in let less = c.in-Some.ensures.less in let past = c.loop-line.invariant.less in
    let a = read.0 in let b = read.1 in
    (omega arith, omega arith, read.2, read.3)

pub overflow_add-count : goal.overflow_add-count
overflow_add-count c =
    let room = c.loop-line.invariant.room in let less = c.in-Some.ensures.less in let few = c.loop-line.invariant.few in
    omega arith

pub loop-line-preserved-then-is_empty : goal.loop-line-preserved-then-is_empty
loop-line-preserved-then-is_empty c =
    let l = c.in-Some.line.now in let ls = lines c.in-Some.after.now in let n = c.loop-line.number + 1 in let k = c.loop-line.count in
    let good : is_bad_at Behind false l ≡ false = c.in-Some-plain.ensures.0 in
    let none : head (l ∷ ls) ≡ None = subst (λ (o : Option Head). HeadRead l ls n (Ok o)) c.in-Ok-None.field-0-is c.in-Ok-None.ensures.is in
    let empty : length l ≡ 0 = grind (arith, common_steps) in
    let h = c.in-Some.ensures.first in
    record {
      room = omega (arith, c.in-Some.ensures.less);
      less = omega (arith, c.in-Some.ensures.less);
      few = omega arith;
      text = cc (c.loop-line.invariant.text, h, before_other l ls none, adds_empty k l (before_head ls) empty);
      same = cc (c.loop-line.invariant.same, h, entries_other l ls none);
      bad = cc (c.loop-line.invariant.bad, h, bad_other Behind n l ls none good);
    }

pub loop-line-preserved : goal.loop-line-preserved
loop-line-preserved c =
    let l = c.in-Some.line.now in let ls = lines c.in-Some.after.now in let n = c.loop-line.number + 1 in let k = c.loop-line.count in
    let good : is_bad_at Behind false l ≡ false = c.in-Some-plain.ensures.0 in
    let none : head (l ∷ ls) ≡ None = subst (λ (o : Option Head). HeadRead l ls n (Ok o)) c.in-Ok-None.field-0-is c.in-Ok-None.ensures.is in
    let some : 0 < length l = grind (arith, common_steps) in
    let h = c.in-Some.ensures.first in
    let t = c.loop-line.text in let more = adds 1 (before_head ls) in
    let outer = append_assoc t (breaks k ++ l) more in
    let inner = append_assoc (breaks k) l more in
    record {
      room = omega (arith, c.in-Some.ensures.less);
      less = omega (arith, c.in-Some.ensures.less);
      few = omega arith;
      text = cc (c.loop-line.invariant.text, h, before_other l ls none, adds_some k l (before_head ls) some, c.in_ok-add_line.ensures, c.in-Some-plain.ensures.1, outer, inner);
      same = cc (c.loop-line.invariant.same, h, entries_other l ls none);
      bad = cc (c.loop-line.invariant.bad, h, bad_other Behind n l ls none good);
    }

pub returns-clause-text : goal.returns-clause-text
returns-clause-text c =
    let none : lines c.loop-line.rest.now ≡ [] = c.in_default.ensures.first in
    let gone : before_head (lines c.loop-line.rest.now) ≡ [] = rw none before_end in
    let text = rw gone at c.loop-line.invariant.text in
    cc (no_more c.loop-line.text, text)

pub returns-clause-ok : goal.returns-clause-ok
returns-clause-ok c =
    let none : lines c.loop-line.rest.now ≡ [] = c.in_default.ensures.first in
    (cc (c.loop-line.invariant.same, none, entries_end), cc (c.loop-line.invariant.bad, none, bad_end Behind (c.loop-line.number + 1)))
