use Rattle.std.proofs.Common.{◌≡◌, ◌<◌, ◌≤◌, ◌∷◌, [], ℕ, List, Result, Ok, Err, map, ◌∙◌, ap, subst, arith, rules}
use Rattle.std.specs.Result.{result_unwrap_or}
use Rattle.std.proofs.lemmas.Result.{err_from_is_err_and}
use Rattle.mkv_io.specs.declared.damage.Damage.{Damage}
use Rattle.mkv_schema.specs.declared.element.Header.{Header}
use Rattle.mkv_schema.specs.Elements.{level_1}
use Rattle.mkv_schema.specs.Outline.{segment_run}
use Rattle.elements.specs.Steps.{IsFurther}
use Rattle.elements.specs.declared.level_one.Level1Step.TheVariants.{Element}
use Rattle.elements.specs.Walk.{place_or}
use Rattle.elements.specs.Window.{HasNotPassed, MovesTo}
use Rattle.element_reader.proofs.LevelOneLemmas.{left-behind}
use Rattle.mkv_lines.specs.Line.{level_1_line}
use Rattle.mkv_lines.specs.Said.{ReportLines, SaysUpTo}
use Rattle.mkv_lines.proofs.SaidLemmas.{SaysUpTo-more, SaysUpTo-stops}
use Rattle.mkv_info.proofs.WalkLemmas.{MovesTo-next, walked-most}
use Rattle.mkv_info.proofs.list.say_level_1.Goals as goal

-- The next Element's line is the first of the rest.
next_line : (old now : ReportLines) (all : List (List ℕ)) (h : Header) (here rest : List Header) → SaysUpTo old now all (map level_1_line here) → here ≡ h ∷ rest → SaysUpTo old now all (level_1_line h ∷ map level_1_line rest)
next_line old now all h here rest way gives = subst (λ (lines : List (List ℕ)). SaysUpTo old now all lines) (ap (map level_1_line) gives) way

-- The offset after an Element is after its own, up to the end.
further : (h : Header) (next : Result ℕ Damage) (at end : ℕ) → IsFurther (Element h next) at end → (at < result_unwrap_or next end) × (result_unwrap_or next end ≤ end)
further h (Ok q) at end f = f
further h (Err d) at end f = (f, omega arith)

-- Another line was printed.
pub loop-header-preserved : goal.loop-header-preserved
loop-header-preserved g c =
    let header = c.in-Ok-Element.header in
    let next = c.in-Ok-Element.next in
    let at = c.loop-header.at in
    let end = c.segment_bound-end.result in
    let size = c.segment-segment.result.size in
    let read = g.R.Reads.octets_read c.loop-header.src in
    let Moves = λ (n : ℕ). HasNotPassed c.loop-header.window at n → MovesTo n (place_or end next) c.loop-header.window c.next_of_segment.new.window read (g.R.Reads.octets_read c.next_of_segment.new.src) in
    let size_of = ap (λ s. (g.R.Reads.files s).size c.args.file.n) c.loop-header.invariant.standing in
    let step = rw c.in-Ok-Element.field-0-is at c.in-Ok-Element.ensures.goes in
    let walked = subst Moves size_of step c.loop-header.invariant.stands in
    let whole = (g.R.Reads.files (g.R.Reads.standing c.args.src.now)).size c.args.file.n in
    let moved = MovesTo-next whole end next c.loop-header.window c.next_of_segment.new.window read (g.R.Reads.octets_read c.next_of_segment.new.src) walked in
    let goes = further header next at end (rw c.in-Ok-Element.field-0-is at c.in-Ok-Element.ensures.step.further) in
    record {
      place = rw c.unwrap_or-at.ensures goes.1;
      standing = search rules;
      reading = search rules;
      report = search rules;
      holds = search rules;
      stands = rw c.unwrap_or-at.ensures moved.place;
      pays = omega (arith, c.loop-header.invariant.pays, moved.pays);
      way = λ bytes told.
          let now = ap (λ s. (g.R.Reads.files s).content c.args.file.n) c.loop-header.invariant.standing ∙ told in
          let steps = (rw c.in-Ok-Element.field-0-is at c.in-Ok-Element.ensures.ok) bytes now in
          let gives = left-behind bytes size at end header next steps in
          let all = map level_1_line (segment_run bytes c.args.outline.now.segment).list in
          let rest = (level_1 bytes size (result_unwrap_or next end) end).list in
          rw c.unwrap_or-at.ensures (
          SaysUpTo-more (g.P.Report.lines c.args.report.now) (g.P.Report.lines c.loop-header.report) (g.P.Report.lines c.say.new.report) all (level_1_line header ∷ []) (map level_1_line rest)
          (next_line (g.P.Report.lines c.args.report.now) (g.P.Report.lines c.loop-header.report) all header (level_1 bytes size at end).list rest (c.loop-header.invariant.way bytes told) gives)
          c.in_ok-say-in-Ok-Element.ensures.said);
    }

-- A line couldn't be printed.
pub returns-in_err-say-in-Ok-Element-clause-said : goal.returns-in_err-say-in-Ok-Element-clause-said
returns-in_err-say-in-Ok-Element-clause-said g c = λ bytes told.
    let header = c.in-Ok-Element.header in
    let next = c.in-Ok-Element.next in
    let at = c.loop-header.at in
    let end = c.segment_bound-end.result in
    let size = c.segment-segment.result.size in
    let now = ap (λ s. (g.R.Reads.files s).content c.args.file.n) c.loop-header.invariant.standing ∙ told in
    let steps = (rw c.in-Ok-Element.field-0-is at c.in-Ok-Element.ensures.ok) bytes now in
    let gives = left-behind bytes size at end header next steps in
    let all = map level_1_line (segment_run bytes c.args.outline.now.segment).list in
    let rest = (level_1 bytes size (result_unwrap_or next end) end).list in
    let p = err_from_is_err_and c.from_residual.result c.from_residual.ensures.1 in
    rw p.1
    (SaysUpTo-stops (g.P.Report.lines c.args.report.now) (g.P.Report.lines c.loop-header.report) (g.P.Report.lines c.say.new.report) all (level_1_line header ∷ []) (map level_1_line rest)
    (next_line (g.P.Report.lines c.args.report.now) (g.P.Report.lines c.loop-header.report) all header (level_1 bytes size at end).list rest (c.loop-header.invariant.way bytes told) gives)
    c.in_err-say-in-Ok-Element.ensures.said)

-- No more was read than the walk allows.
pub returns-in_err-say-in-Ok-Element-clause-octets : goal.returns-in_err-say-in-Ok-Element-clause-octets
returns-in_err-say-in-Ok-Element-clause-octets g c =
    let next = c.in-Ok-Element.next in
    let at = c.loop-header.at in
    let end = c.segment_bound-end.result in
    let whole = (g.R.Reads.files (g.R.Reads.standing c.args.src.now)).size c.args.file.n in
    let read = g.R.Reads.octets_read c.loop-header.src in
    let now = g.R.Reads.octets_read c.next_of_segment.new.src in
    let Moves = λ (n : ℕ). HasNotPassed c.loop-header.window at n → MovesTo n (place_or end next) c.loop-header.window c.next_of_segment.new.window read now in
    let size_of = ap (λ s. (g.R.Reads.files s).size c.args.file.n) c.loop-header.invariant.standing in
    let step = rw c.in-Ok-Element.field-0-is at c.in-Ok-Element.ensures.goes in
    let moved = subst Moves size_of step c.loop-header.invariant.stands in
    walked-most whole (place_or end next) (g.R.Reads.octets_read c.args.src.now) now c.next_of_segment.new.window moved.place (omega (arith, c.loop-header.invariant.pays, moved.pays))
