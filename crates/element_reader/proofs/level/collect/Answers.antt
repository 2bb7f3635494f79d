use Rattle.std.proofs.Common.{◌≡◌, ◌≤◌, ℕ, List, length, sym, ◌∙◌, ap, subst, arith, rules}
use Rattle.std.specs.List.{All}
use Rattle.mkv_schema.specs.declared.element.Header.{Header}
use Rattle.mkv_schema.specs.Elements.{level_1, breaks_at}
use Rattle.elements.specs.Window.{HasNotPassed, MovesTo}
use Rattle.elements.specs.declared.level_one.Level1Step.TheVariants.{Element}
use Rattle.element_reader.specs.Collected.{IsInFile}
use Rattle.element_reader.specs.declared.collected.Collected.{Collected}
use Rattle.element_reader.proofs.CollectedLemmas.{IsInFile-more}
use Rattle.element_reader.proofs.LevelLemmas.{IsOnWay-more, none_where}
use Rattle.element_reader.proofs.level.collect.Goals as goal

-- A damage ends the Elements after the last.
pub returns-in-Err-clause-ok : goal.returns-in-Err-clause-ok
returns-in-Err-clause-ok g c = λ bytes told.
    let now = ap (λ s. (g.R.Reads.files s).content c.args.file.n) c.loop-kept.invariant.same.standing ∙ told in
    let total : c.args.total ≡ length bytes = c.requires.whole ∙ sym (g.met.R.Reads.told_size (g.R.Reads.standing c.args.src.now) c.args.file.n bytes told) in
    let step = c.in-Element.is ∙ ap (Element c.in-Element.header) c.in-Err.is in
    let steps = rw step at (c.in_ok-next_of_segment.ensures.ok bytes now) in
    let none = none_where c.in_ok-damage-in-Element.field-0 c.in_default.not-Some in
    c.ended-in-Err.ensures.level c.args.held bytes total
    (IsOnWay-more c.args.held _ _ (breaks_at c.loop-kept.at c.in-Err.damage) c.loop-kept.kept c.add.new.self c.in-Element.header c.in_ok-damage-in-Element.field-0
    (c.loop-kept.invariant.way bytes told) steps
    (c.in_ok-damage-in-Element.ensures.refusal c.args.held) none (c.in_ok-damage-in-Element.ensures.kept none c.args.held))

-- The last Element is kept too.
pub returns-in-Err-clause-whole : goal.returns-in-Err-clause-whole
returns-in-Err-clause-whole g c =
    let step = c.in-Element.is ∙ ap (Element c.in-Element.header) c.in-Err.is in
    let none = none_where c.in_ok-damage-in-Element.field-0 c.in_default.not-Some in
    let kept = ap (λ (k : Collected). k.others.items) c.ended-in-Err.ensures.kept in
    let more = IsInFile-more c.args.total c.segment_bound-bound.result c.loop-kept.kept.others.items c.in-Element.header c.loop-kept.invariant.within c.loop-kept.invariant.whole (rw step at c.in_ok-next_of_segment.ensures.step.whole) in
    subst (λ (l : List Header). All (IsInFile c.args.total) l) (sym (kept ∙ c.in_ok-damage-in-Element.ensures.others none)) more

-- An Element is kept, and the next one follows.
pub loop-kept-preserved : goal.loop-kept-preserved
loop-kept-preserved g c =
    let step = c.in-Element.is ∙ ap (Element c.in-Element.header) c.in-Ok.is in
    let further = rw step at c.in_ok-next_of_segment.ensures.step.further in
    let none = none_where c.in_ok-damage-in-Element.field-0 c.in_default.not-Some in
    let on : c.loop-kept.at ≤ c.in-Ok.behind = omega (arith, further) in
    record {
      begin = omega (arith, on, c.loop-kept.invariant.begin);
      whole = subst (λ (l : List Header). All (IsInFile c.args.total) l) (sym (c.in_ok-damage-in-Element.ensures.others none)) (IsInFile-more c.args.total c.segment_bound-bound.result c.loop-kept.kept.others.items c.in-Element.header c.loop-kept.invariant.within c.loop-kept.invariant.whole (rw step at c.in_ok-next_of_segment.ensures.step.whole));
      place = omega (arith, further);
      within = c.loop-kept.invariant.within;
      same = search rules;
      faults = search rules;
      holds = search rules;
      way = λ bytes told.
          let now = ap (λ s. (g.R.Reads.files s).content c.args.file.n) c.loop-kept.invariant.same.standing ∙ told in
          let steps = rw step at (c.in_ok-next_of_segment.ensures.ok bytes now) in
          IsOnWay-more c.args.held _ _ (level_1 bytes c.args.segment.now.size c.in-Ok.behind c.segment_bound-bound.result) c.loop-kept.kept c.add.new.self c.in-Element.header c.in_ok-damage-in-Element.field-0
          (c.loop-kept.invariant.way bytes told) steps
          (c.in_ok-damage-in-Element.ensures.refusal c.args.held) none (c.in_ok-damage-in-Element.ensures.kept none c.args.held);
      moves = λ before.
          let P = λ (n : ℕ). HasNotPassed c.loop-kept.window c.loop-kept.at n → MovesTo n c.in-Ok.behind c.loop-kept.window c.next_of_segment.new.window (g.R.Reads.octets_read c.loop-kept.src) (g.R.Reads.octets_read c.next_of_segment.new.src) in
          let size = ap (λ s. (g.R.Reads.files s).size c.args.file.n) c.loop-kept.invariant.same.standing ∙ sym c.requires.whole in
          let moved = rw step at c.in_ok-next_of_segment.ensures.goes in
          let next = subst P size moved in
          let first = c.loop-kept.invariant.moves before in
          record {
            place = (next first.place).place;
            pays = omega (arith, first.pays, (next first.place).pays);
          };
    }
