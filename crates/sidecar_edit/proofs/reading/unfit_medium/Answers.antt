use Rattle.std.proofs.Common.{◌≡◌, ◌∙◌, ap, sym, List, ℕ, length, take}
use Rattle.sidecar_edit.specs.declared.place.TheConstants.{KEPT}
use Rattle.sidecar_edit.specs.Recovery.{unfit}
use Rattle.sidecar_edit.proofs.reading.unfit_medium.Goals as goal

-- The refusal depends only on the first bytes and the length.
pub returns-clause-ok : goal.returns-clause-ok
returns-clause-ok g c = λ bytes told.
    let head = c.args.head.now in
    let size = g.met.R.Reads.told_size (g.R.Reads.standing c.args.src.now) 0 bytes told in
    let len : c.size.result ≡ length bytes = c.size.ensures.exact ∙ ap (λ s. (g.R.Reads.files s).size 0) c.in_ok-count.ensures.only.standing ∙ sym size in
    c.unfit.ensures.exact ∙ ap (λ (m : List ℕ). unfit head c.size.result m) (c.in_ok-count.ensures.ok bytes told) ∙ ap (λ n. unfit head n (take KEPT bytes)) len
