use Rattle.std.proofs.Common.{◌≡◌, ◌∙◌, ap, sym, List, ℕ, length}
use Rattle.sidecar_edit.specs.Fields.{head_of}
use Rattle.sidecar_edit.specs.Gate.{gate_of}
use Rattle.sidecar_edit.proofs.reading.state.Goals as goal

-- The state depends only on the first bytes that were read.
pub returns-clause-ok : goal.returns-clause-ok
returns-clause-ok g c = λ bytes told.
    let size = g.met.R.Reads.told_size (g.R.Reads.standing c.args.src.now) c.args.file.n bytes told in
    let len : c.size.result ≡ length bytes = c.size.ensures.exact ∙ ap (λ s. (g.R.Reads.files s).size c.args.file.n) c.in_ok-count.ensures.only.standing ∙ sym size in
    c.gate_of.ensures.exact ∙ ap (λ (h : List ℕ). gate_of h c.size.result) (c.in_ok-count.ensures.ok bytes told) ∙ ap (λ n. gate_of (head_of bytes) n) len
