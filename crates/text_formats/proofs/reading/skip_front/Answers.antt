use Rattle.std.proofs.Common.{◌≡◌, ◌∷◌, ◌<◌, ◌+◌, true, false, arith, subst, ℕ, Option, Some, None, Ok, [], length, refl}
use Rattle.text_formats.specs.declared.reading.Head.{Head}
use Rattle.text_formats.specs.Ends.{Blames}
use Rattle.text_formats.specs.Reading.{HeadRead}
use Rattle.std.proofs.lemmas.Grind.{common_steps}
use Rattle.std.specs.Str.Lines.{lines}
use Rattle.std.specs.Option.{is_some}
use Rattle.text_formats.specs.Srt.{head, first_bad}
use Rattle.text_formats.specs.Walk.{bad_from, is_bad_at, Front, Behind, Second}
use Rattle.text_formats.proofs.SrtLemmas.{entries_other, entries_end, bad_end, bad_here, bad_head, bad_other, bad_front, good_head, good_empty, bad_some}
use Rattle.text_formats.proofs.WalkLemmas.{bad_is}
use Rattle.text_formats.proofs.reading.skip_front.Goals as goal

pub loop-line-init : goal.loop-line-init
loop-line-init c = record { room = omega arith; same = refl; bad = bad_is (lines c.args.text.now) }

pub returns-in_default-plain-clause-err : goal.returns-in_default-plain-clause-err
returns-in_default-plain-clause-err c =
    let l = c.in-Some.line.now in let ls = lines c.in-Some.after.now in let n = c.loop-line.number + 1 in
    let bad : is_bad_at Behind false l ≡ true = c.in_default-plain.ensures in
    cc (c.loop-line.invariant.bad, c.in-Some.ensures.first, bad_here Front n l ls (bad_front l (is_some (head (l ∷ ls))) bad))

pub returns-in-Err-clause-err : goal.returns-in-Err-clause-err
returns-in-Err-clause-err c =
    let l = c.in-Some.line.now in let ls = lines c.in-Some.after.now in let n = c.loop-line.number + 1 in
    let good : is_bad_at Behind false l ≡ false = c.in-Some-plain.ensures.0 in
    let read = c.in-Err.ensures.is in
    let same : bad_from (Second read.0) (n + 1) ls ≡ first_bad (lines c.args.text.now) =
    cc (c.loop-line.invariant.bad, c.in-Some.ensures.first, bad_head Front n l ls read.0 read.1 (good_head l good)) in
    subst (λ (bad : Option ℕ). Blames c.in-Err.end bad) same read.2

pub returns-in-Ok-Some-clause-ok : goal.returns-in-Ok-Some-clause-ok
returns-in-Ok-Some-clause-ok c =
    let l = c.in-Some.line.now in let ls = lines c.in-Some.after.now in let n = c.loop-line.number + 1 in
    let good : is_bad_at Behind false l ≡ false = c.in-Some-plain.ensures.0 in
    let x = c.in-Ok-Some.head.times in
    let read : HeadRead l ls n (Ok (Some c.in-Ok-Some.head)) = subst (λ (o : Option Head). HeadRead l ls n (Ok o)) c.in-Ok-Some.field-0-is c.in-Ok-Some.ensures.is in
    let h = c.in-Some.ensures.first in
    (cc (c.loop-line.invariant.same, h, read.1), cc (c.loop-line.invariant.bad, h, bad_head Front n l ls x read.0 (good_head l good), read.2))

pub returns-then-not-is_empty-clause-err : goal.returns-then-not-is_empty-clause-err
returns-then-not-is_empty-clause-err c =
    let l = c.in-Some.line.now in let ls = lines c.in-Some.after.now in let n = c.loop-line.number + 1 in
    let none : head (l ∷ ls) ≡ None = subst (λ (o : Option Head). HeadRead l ls n (Ok o)) c.in-Ok-None.field-0-is c.in-Ok-None.ensures.is in
    let some : 0 < length l = grind (arith, common_steps) in
    let bad : is_bad_at Front (is_some (head (l ∷ ls))) l ≡ true = rw none (bad_some l some) in
    cc (c.loop-line.invariant.bad, c.in-Some.ensures.first, bad_here Front n l ls bad)

pub loop-line-preserved : goal.loop-line-preserved
loop-line-preserved c =
    let l = c.in-Some.line.now in let ls = lines c.in-Some.after.now in let n = c.loop-line.number + 1 in
    let good : is_bad_at Behind false l ≡ false = c.in-Some-plain.ensures.0 in
    let none : head (l ∷ ls) ≡ None = subst (λ (o : Option Head). HeadRead l ls n (Ok o)) c.in-Ok-None.field-0-is c.in-Ok-None.ensures.is in
    let empty : length l ≡ 0 = grind (arith, common_steps) in
    let h = c.in-Some.ensures.first in
    record {
      room = omega (arith, c.in-Some.ensures.less);
      same = cc (c.loop-line.invariant.same, h, entries_other l ls none);
      bad = cc (c.loop-line.invariant.bad, h, bad_other Front n l ls none (good_empty l empty good));
    }

pub returns-clause-ok : goal.returns-clause-ok
returns-clause-ok c =
    let none : lines c.loop-line.rest.now ≡ [] = c.in_default.ensures.first in
    (cc (c.loop-line.invariant.same, none, entries_end), cc (c.loop-line.invariant.bad, none, bad_end Front (c.loop-line.number + 1)))
