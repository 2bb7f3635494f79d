use Rattle.std.proofs.Common.{◌≡◌, Option, IfOk, sym, ◌∙◌, ap, subst}
use Rattle.std.specs.Option.{option_or}
use Rattle.mkv_merge.specs.Read.{pending_of}
use Rattle.mkv_merge.specs.declared.refusal.Refusal.{Refusal}
use Rattle.mkv_merge.proofs.pending.begun_refusal.Goals as goal

-- A text file is missing.
pub returns-in-Some-clause-exact : goal.returns-in-Some-clause-exact
returns-in-Some-clause-exact g c = λ world told.
    ap (λ (missing : Option Refusal). option_or missing (pending_of world c.args.words.now)) (sym c.in-Some.is ∙ c.in_ok-why.ensures)

-- An edit may be pending.
pub returns-in-None-clause-exact : goal.returns-in-None-clause-exact
returns-in-None-clause-exact g c = λ world told.
    subst (λ (missing : Option Refusal). IfOk c.pending_of.result (λ (why : Option Refusal). why ≡ option_or missing (pending_of world c.args.words.now)))
    (sym c.in-None.is ∙ c.in_ok-why.ensures) (c.pending_of.ensures.exact world told)
