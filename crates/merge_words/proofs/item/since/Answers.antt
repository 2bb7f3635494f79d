use Rattle.std.proofs.Common.{◌≡◌, suc, ◌-◌, [], false, true, length, take, drop, sym, ap, ◌∙◌, arith}
use Rattle.std.proofs.lemmas.Grind.{common_steps}
use Rattle.merge_words.specs.declared.item.Item.{Item}
use Rattle.merge_words.proofs.ItemsLemmas.{is_of, latest, since_latest, latest_back, latest_found}
use Rattle.merge_words.proofs.item.since.Goals as goal

-- An item with another subject joins those after it.
pub loop-start-preserved : goal.loop-start-preserved
loop-start-preserved c =
    let items = c.args.items.now in let l = c.loop-start in let i = c.index-items-start.result in
    let next : suc (l.start - 1) ≡ l.start = omega arith in
    let other : is_of c.args.subject i ≡ false = ap (λ (j : Item). is_of c.args.subject j) c.index-items-start.is ∙ (sym c.is.ensures ∙ c.if-is.false) in
    record {
      within = omega arith;
      left = latest_back c.args.subject items l.start (l.start - 1) i next (omega arith) c.index-items-start.is other ∙ l.invariant.left;
    }

-- The last item with the subject is right before.
pub returns-then-is : goal.returns-then-is
returns-then-is c =
    let items = c.args.items.now in let l = c.loop-start in let i = c.index-items-start.result in
    let next : suc (l.start - 1) ≡ l.start = omega arith in
    let file : is_of c.args.subject i ≡ true = ap (λ (j : Item). is_of c.args.subject j) c.index-items-start.is ∙ (sym c.is.ensures ∙ c.if-is.true) in
    let rest : latest c.args.subject [] items ≡ drop l.start items = sym l.invariant.left ∙ latest_found c.args.subject items l.start (l.start - 1) i next (omega arith) c.index-items-start.is file in
    let all : take (length items - l.start) (drop l.start items) ≡ drop l.start items = grind (arith, common_steps) in
    all ∙ (sym rest ∙ sym (since_latest c.args.subject items))
