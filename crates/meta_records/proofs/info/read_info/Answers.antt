-- A valid scale is the file's, and not 0.
use Rattle.std.proofs.Common.{sym, ◌∙◌, ◌<◌, ℕ, subst}
use Rattle.file_format.proofs.InfoLemmas.{scale-some, file_scale-some}
use Rattle.meta_records.proofs.info.read_info.Goals as goal

pub returns-in-None-clause-some : goal.returns-in-None-clause-some
returns-in-None-clause-some c =
    let P : ℕ → Type 0 = λ n. 0 < n in
    subst P (sym c.scale_of.ensures) (scale-some c.args.info.now (sym c.refusal_of.ensures ∙ c.in-None.is))

pub returns-in-None-clause-file : goal.returns-in-None-clause-file
returns-in-None-clause-file c = λ bytes segment h first tree. c.scale_of.ensures ∙ sym (file_scale-some bytes segment h c.args.info.now first tree)
