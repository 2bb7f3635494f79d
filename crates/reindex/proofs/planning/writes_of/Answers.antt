-- The part is the Cues with the points, and the outline is a file's.
use Rattle.std.proofs.Common.{◌≡◌, ◌≤◌, true, List, length, map, None, Result, sym, ◌∙◌, ap, subst, arith}
use Rattle.mkv_io.specs.declared.outside.TheConstants.{LONGEST_FILE}
use Rattle.mkv_schema.specs.Value.{first_of}
use Rattle.mkv_schema.specs.declared.ids.TheConstants.{CUES}
use Rattle.sidecar_edit.specs.Writes as disk
use Rattle.edit_changes.specs.Plan.{twin_of, writes_of_parts}
use Rattle.edit_changes.specs.declared.refusal.Refusal.{Refusal}
use Rattle.edit_plan.specs.Answer.{Answers}
use Rattle.edit_plan.specs.Shown.{shown}
use Rattle.edit_plan.proofs.EndsLemmas.{CanMove-shown}
use Rattle.reindex.specs.Plan.{cues_parts, index_ids, new_cues}
use Rattle.reindex.specs.Reading.{cues_of}
use Rattle.reindex.specs.declared.point.Point.{Point}
use Rattle.reindex.proofs.IndexLemmas.{index-sought, writes-parts}
use Rattle.reindex.proofs.planning.writes_of.Goals as goal

pub parts_writes-requires-clause-sought : goal.parts_writes-requires-clause-sought
parts_writes-requires-clause-sought g c = index-sought

pub returns-clause-exact : goal.returns-clause-exact
returns-clause-exact g c = λ bytes told outline.
    let o = c.args.found.now.outline in
    let size = g.met.R.Reads.told_size (g.R.Reads.standing c.args.src.now) c.args.file.n bytes told in
    let most = g.met.R.Reads.short c.args.src.now c.args.file.n c.requires.live in
    let short : length bytes ≤ LONGEST_FILE = omega (arith, size, most) in
    let can = CanMove-shown 0 bytes o outline short in
    let one : None ≡ twin_of o.others CUES = c.in_default.ensures in
    let parts = ap (map shown) c.as_slice-2.ensures.value ∙ c.in_ok-parts.ensures
    ∙ ap (λ (ps : List Point). cues_parts o.others (first_of CUES o.others) (new_cues (cues_of ps))) c.as_slice.ensures in
    let P : Result (List disk.Write) Refusal → Type 0 = λ found. Answers found c.parts_writes.result in
    subst P (sym (writes-parts bytes o (cues_of c.args.found.now.points) one ∙ ap (writes_of_parts index_ids true bytes o) (sym parts))) (c.parts_writes.ensures.exact can bytes told)
