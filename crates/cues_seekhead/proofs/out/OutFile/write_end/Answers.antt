use Rattle.std.proofs.Common.{◌≡◌, ◌++◌, ℕ, List, ap, subst, ◌∙◌, arith}
use Rattle.std.proofs.lemmas.Result.{err_from_is_err_and}
use Rattle.ebml_numbers.specs.Number.{size_octets}
use Rattle.output_model.specs.declared.places.CuePoint.{CuePoint}
use Rattle.output_model.specs.Document.{back_with}
use Rattle.cues_seekhead.specs.Front.{body_start}
use Rattle.mkv_outputs.specs.Drafts.{Draft}
use Rattle.cues_seekhead.specs.Draft.{StandsDrafted, patches_with}
use Rattle.cues_seekhead.specs.Ending.{IsEnding}
use Rattle.cues_seekhead.specs.OpenOutput.{OpenOutput}
use Rattle.cues_seekhead.proofs.FinishLemmas.{ending-draft, finished, so_far, so_far-long, unfinished}
use Rattle.cues_seekhead.proofs.out.OutFile.write_end.Goals as goal

-- Nothing was written.
pub returns-in_err-ending-clause-finishes : goal.returns-in_err-ending-clause-finishes
returns-in_err-ending-clause-finishes g c =
    let p = err_from_is_err_and c.from_residual.result c.from_residual.ensures.1 in
    rw p.1 (λ before d ready. unfinished g.F.Reads g.F.Files before d c.args.files.now c.args.self c.args.end c.args.chapters.now c.args.tags.now ready)

-- The last writes failed.
pub returns-in_err-write-clause-finishes : goal.returns-in_err-write-clause-finishes
returns-in_err-write-clause-finishes g c =
    let p = err_from_is_err_and c.from_residual-in_err-write.result c.from_residual-in_err-write.ensures.1 in
    let o : OpenOutput = record { file = c.self.inside.file; webm = c.self.inside.webm; len = c.self.inside.len; place = c.self.inside.place; seeks = c.self.inside.seeks.items; cues = c.self.inside.cues.items } in
    let e = c.in_ok-ending.ending in
    let P : List CuePoint → Type 0 = λ cs. IsEnding c.self.inside.len c.self.inside.seeks.items (back_with cs c.args.chapters.now c.args.tags.now) e in
    let ending = subst P c.as_slice.ensures.value c.in_ok-ending.ensures in
    rw (p.1, ← c.self.view_is) (λ before d ready.
    let name = g.F.Files.holder c.args.files.now c.self.inside.file.n in
    let long = so_far-long d in
    let drafted = c.in_err-write.ensures.drafts before (so_far d) (omega (arith, long, c.body_start-start.ensures, ap body_start ready.stands.known.webm)) ready.stands.names in
    let Q : Draft → Type 0 = λ x. StandsDrafted before (g.F.Files.names c.write.new.files) x in
    let at_start : ℕ → Draft = λ start. record { name = name; appended = so_far d ++ e.back; patches = patches_with start c.self.inside.place c.args.end e.area (size_octets e.total 8) } in
    subst Q (ap at_start c.body_start-start.ensures ∙ ending-draft g.F.Reads g.F.Files before d c.args.files.now o c.args.end c.args.chapters.now c.args.tags.now name e ready ending) drafted)

-- All was written.
pub returns-clause-finishes : goal.returns-clause-finishes
returns-clause-finishes g c =
    let o : OpenOutput = record { file = c.self.inside.file; webm = c.self.inside.webm; len = c.self.inside.len; place = c.self.inside.place; seeks = c.self.inside.seeks.items; cues = c.self.inside.cues.items } in
    let e = c.in_ok-ending.ending in
    let P : List CuePoint → Type 0 = λ cs. IsEnding c.self.inside.len c.self.inside.seeks.items (back_with cs c.args.chapters.now c.args.tags.now) e in
    let ending = subst P c.as_slice.ensures.value c.in_ok-ending.ensures in
    rw (← c.self.view_is, c.body_start-start.ensures) (λ before d ready.
    let name = g.F.Files.holder c.args.files.now c.self.inside.file.n in
    let long = so_far-long d in
    let start : body_start c.self.inside.webm ≡ body_start d.front.webm = ap body_start ready.stands.known.webm in
    let drafts = rw c.body_start-start.ensures at c.in_ok-write.ensures.drafts in
    finished g.F.Reads g.F.Files before (g.F.Files.names c.write.new.files) d c.args.files.now o c.args.end c.args.chapters.now c.args.tags.now name e ready ending
    (drafts before (so_far d) (omega (arith, long, start)) ready.stands.names))
