use Rattle.std.proofs.Common.{◌≡◌, ◌+◌, length, sym, ◌∙◌, ap, arith}
use Rattle.std.proofs.lemmas.Result.{err_from_is_err_and}
use Rattle.mkv_schema.specs.Outline.{described, segment_run}
use Rattle.element_reader.specs.Segment.{segment_from}
use Rattle.element_reader.proofs.OutlineLemmas.{outline_in-ebml, outline_in-segment, outline_in-limit, outline_in-found}
use Rattle.element_reader.proofs.outline.Outline.read_after.Goals as goal

-- The EBML header refuses the file.
pub returns-in_err-ebml-clause-exact : goal.returns-in_err-ebml-clause-exact
returns-in_err-ebml-clause-exact g c = λ bytes told.
    let p = err_from_is_err_and c.from_residual-in_err-ebml.result c.from_residual-in_err-ebml.ensures.1 in
    rw (p.1, p.2) (outline_in-ebml c.args.held bytes c.in_err-ebml.field-0.0 (sym (c.in_ok-ebml_header.ensures.ok bytes told) ∙ c.in_err-ebml.was))

-- There is no Segment.
pub returns-in_err-segment-clause-exact : goal.returns-in_err-segment-clause-exact
returns-in_err-segment-clause-exact g c = λ bytes told.
    let p = err_from_is_err_and c.from_residual-in_err-segment.result c.from_residual-in_err-segment.ensures.1 in
    let ebml = sym (c.in_ok-ebml_header.ensures.ok bytes told) ∙ c.in_ok-ebml.was in
    let now = ap (λ s. (g.R.Reads.files s).content c.args.file.n) c.ebml_header.ensures.same.standing ∙ told in
    let from = ap (λ n. segment_from bytes (c.in_ok-ebml.ebml.body + n)) (sym c.known.ensures) in
    rw (p.1, p.2) (outline_in-segment c.args.held bytes c.in_ok-ebml.ebml c.in_err-segment.field-0.0 ebml (from ∙ sym (c.in_ok-find_segment.ensures.ok bytes now) ∙ c.in_err-segment.was))

-- An Element of level 1 passes a limit.
pub returns-in_err-level-clause-exact : goal.returns-in_err-level-clause-exact
returns-in_err-level-clause-exact g c = λ bytes told.
    let p = err_from_is_err_and c.from_residual-in_err-level.result c.from_residual-in_err-level.ensures.1 in
    let ebml = sym (c.in_ok-ebml_header.ensures.ok bytes told) ∙ c.in_ok-ebml.was in
    let now = ap (λ s. (g.R.Reads.files s).content c.args.file.n) c.ebml_header.ensures.same.standing ∙ told in
    let later = ap (λ s. (g.R.Reads.files s).content c.args.file.n) c.find_segment.ensures.same.standing ∙ now in
    let from = ap (λ n. segment_from bytes (c.in_ok-ebml.ebml.body + n)) (sym c.known.ensures) in
    let segment = from ∙ sym (c.in_ok-find_segment.ensures.ok bytes now) ∙ c.in_ok-segment.was in
    let limit = rw c.in_err-level.was at (c.in_ok-collect.ensures.ok bytes later) in
    rw (p.1, p.2) (outline_in-limit c.args.held bytes c.in_ok-ebml.ebml c.in_ok-segment.segment c.in_err-level.field-0.0 ebml segment limit)

-- Nothing refuses the file.
pub returns-clause-exact : goal.returns-clause-exact
returns-clause-exact g c = λ bytes told.
    let ebml = sym (c.in_ok-ebml_header.ensures.ok bytes told) ∙ c.in_ok-ebml.was in
    let now = ap (λ s. (g.R.Reads.files s).content c.args.file.n) c.ebml_header.ensures.same.standing ∙ told in
    let later = ap (λ s. (g.R.Reads.files s).content c.args.file.n) c.find_segment.ensures.same.standing ∙ now in
    let from = ap (λ n. segment_from bytes (c.in_ok-ebml.ebml.body + n)) (sym c.known.ensures) in
    let segment = from ∙ sym (c.in_ok-find_segment.ensures.ok bytes now) ∙ c.in_ok-segment.was in
    let level = rw c.in_ok-level.was at (c.in_ok-collect.ensures.ok bytes later) in
    let total : c.size-total.result ≡ length bytes = c.size-total.ensures.exact ∙ sym (g.met.R.Reads.told_size (g.R.Reads.standing c.args.src.now) c.args.file.n bytes told) in
    let octets = level.kept.octets in
    let own : c.saturating_sub-held.result ≡ described (segment_run bytes c.in_ok-segment.segment).list = omega (arith, octets, c.saturating_sub-held.ensures) in
    outline_in-found c.args.held bytes c.in_ok-ebml.ebml c.in_ok-segment.segment c.in_ok-level.level c.size-total.result c.saturating_sub-held.result ebml segment level total own
