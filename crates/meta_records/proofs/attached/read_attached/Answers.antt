-- The children decide.
use Rattle.std.proofs.lemmas.Result.{err_from_is_err_and}
use Rattle.meta_records.specs.Attachments.{at_part, children_of, met_in}
use Rattle.meta_records.specs.declared.attached.Attached.{Attached}
use Rattle.meta_records.specs.declared.attached.Parts.{Parts}
use Rattle.meta_records.proofs.MetLemmas.{Meets-passed}
use Rattle.meta_records.proofs.attached.read_attached.Goals as goal

pub returns-in_err-parts-clause-meets : goal.returns-in_err-parts-clause-meets
returns-in_err-parts-clause-meets g c = λ bytes told.
    let p = err_from_is_err_and c.from_residual.result c.from_residual.ensures.1 in
    rw (p.1, p.2) (Meets-passed Parts Attached (met_in (at_part bytes) (children_of bytes c.args.attached.now)) c.args.counts.now c.read_parts.new.counts c.in_err-parts.field-0.0 (c.in_err-parts.ensures.meets bytes told))
