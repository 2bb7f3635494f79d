use Rattle.std.proofs.Common.{rules, ◌≡◌, Some, None, sym, arith}
use Rattle.std.proofs.lemmas.Grind.{common_steps}
use Rattle.mkv_io.specs.Octets.{cut}
use Rattle.merge_words.proofs.AttachedLemmas.{behind_more, behind_none, behind_shorter, behind_next, behind_done}
use Rattle.merge_words.proofs.attached.behind_last.Goals as goal

-- There is no mark.
pub returns-in_default : goal.returns-in_default
returns-in_default c =
    let e : cut c.args.mark c.args.word.now ≡ None = grind (arith, common_steps) in
    sym (behind_none c.args.mark c.args.word.now e)

-- The first mark is found.
pub loop-after-init : goal.loop-after-init
loop-after-init c =
    let e : cut c.args.mark c.args.word.now ≡ Some (c.in-Some.field-0-0.now, c.in-Some.rest.now) = sym c.in-Some.ensures in
    record { text = search rules; left = sym (behind_more c.args.mark c.args.word.now c.in-Some.field-0-0.now c.in-Some.rest.now e) }

pub loop-after-smaller : goal.loop-after-smaller
loop-after-smaller c =
    behind_shorter c.args.mark c.loop-after.rest.now c.in-Some-cut_text.field-0-0.now c.in-Some-cut_text.after.now (sym c.in-Some-cut_text.ensures)

-- Another mark is found.
pub loop-after-preserved : goal.loop-after-preserved
loop-after-preserved c = record {
  text = search rules;
  left = behind_next c.args.mark c.args.word.now c.loop-after.rest.now c.in-Some-cut_text.field-0-0.now c.in-Some-cut_text.after.now (sym c.in-Some-cut_text.ensures) c.loop-after.invariant.left;
}

-- There is no further mark.
pub returns : goal.returns
returns c =
    let e : cut c.args.mark c.loop-after.rest.now ≡ None = grind (arith, common_steps) in
    behind_done c.args.mark c.args.word.now c.loop-after.rest.now e c.loop-after.invariant.left
