-- The bytes that were read are enough for a header.
use Rattle.std.proofs.Common.{◌≡◌, length, sym, ◌∙◌, ap, arith}
use Rattle.std.proofs.lemmas.Grind.{common_steps}
use Rattle.std.proofs.lemmas.Result.{err_from_is_err_and}
use Rattle.meta_records.proofs.HeaderLemmas.{header-read}
use Rattle.meta_records.proofs.header.child_header.Goals as goal

pub returns-clause-exact : goal.returns-clause-exact
returns-clause-exact g c = λ bytes told.
    let total : c.size-total.result ≡ length bytes =
    c.size-total.ensures.exact ∙ ap (λ s. (g.R.Reads.files s).size c.args.file.n) c.read_at.ensures.standing
    ∙ sym (g.met.R.Reads.told_size (g.R.Reads.standing c.args.src.now) c.args.file.n bytes told) in
    sym (sym c.in_ok-header.ensures.ok
    ∙ header-read bytes c.read_at.new.into c.size-total.result c.args.at c.args.end c.min-len.result _ (c.in_ok-read_at.ensures.ok bytes told) (grind (arith, common_steps)) total c.requires.place c.min-len.ensures)

pub returns-in_err-header-clause-exact : goal.returns-in_err-header-clause-exact
returns-in_err-header-clause-exact g c = λ bytes told.
    let total : c.size-total.result ≡ length bytes =
    c.size-total.ensures.exact ∙ ap (λ s. (g.R.Reads.files s).size c.args.file.n) c.read_at.ensures.standing
    ∙ sym (g.met.R.Reads.told_size (g.R.Reads.standing c.args.src.now) c.args.file.n bytes told) in
    let p = err_from_is_err_and c.from_residual-in_err-header.result c.from_residual-in_err-header.ensures.1 in
    rw (p.1, p.2) (sym (sym c.in_err-header.ensures.err
    ∙ header-read bytes c.read_at.new.into c.size-total.result c.args.at c.args.end c.min-len.result _ (c.in_ok-read_at.ensures.ok bytes told) (grind (arith, common_steps)) total c.requires.place c.min-len.ensures))

pub returns-in_err-read_at-clause-exact : goal.returns-in_err-read_at-clause-exact
returns-in_err-read_at-clause-exact g c = λ bytes told.
    let p = err_from_is_err_and c.from_residual.result c.from_residual.ensures.1 in
    rw (p.1, p.2) tt
