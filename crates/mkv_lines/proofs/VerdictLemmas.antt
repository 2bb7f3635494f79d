-- The state that a command or a run with a given result leaves.
use Rattle.std.proofs.Common.{◌≡◌, ℕ, List, [], ◌++◌, Result, Ok, Err, IfOk, inl, inr, refl, sym, ◌∙◌, ap, subst}
use Rattle.mkv_io.specs.Lines.{with_lines}
use Rattle.mkv_io.specs.Names.{Names}
use Rattle.mkv_outputs.specs.Outputs.{with_outputs}
use Rattle.mkv_lines.specs.Said.{ReportLines, Says, SaysPart}
use Rattle.mkv_lines.specs.Seen.{Seen}
use Rattle.mkv_lines.specs.Verdict.{IsStopped, Leaves, WrittenOutputs, Reaches, SaysVerdict, Verdict, at_once, in_turn, list_of, nothing}
use Rattle.mkv_lines.specs.declared.status.Status.{Status}
use Rattle.mkv_lines.specs.declared.status.CommandEnd.{CommandEnd}
use Rattle.mkv_lines.proofs.SaidLemmas.{SaysPart-behind, SaysPart-none, Says-then}

-- Nothing is written yet.
pub Leaves-before : (names : Names) (outputs : WrittenOutputs) → Leaves names names outputs
Leaves-before names (at_once all) = record { stand = []; begun = tt; names = refl }
Leaves-before names (in_turn all) = record { stand = []; drafted = tt; names = refl }

-- Equal names hold the same outputs.
pub Leaves-same : (old new : Names) (outputs : WrittenOutputs) → new ≡ old → Leaves old new outputs
Leaves-same old new outputs same = subst (λ (names : Names). Leaves old names outputs) (sym same) (Leaves-before old outputs)

-- A command that was stopped before its first line has stopped early.
pub IsStopped-before : (old new : Seen) (v : Verdict) → new.lines ≡ old.lines → new.names ≡ old.names → IsStopped old new v
IsStopped-before old new v lines names = inl (
  subst (λ (now : ReportLines). SaysPart old.lines now v.before) (sym lines) (SaysPart-none old.lines v.before),
  Leaves-same old.names new.names v.outputs names,
)

-- A command whose outputs are complete, and that prints the lines after them, has its result or stops there.
pub Reaches-behind : (old new : Seen) (mid : ReportLines) (r : Result Status CommandEnd) (v : Verdict) (behind : List (List ℕ)) → v.lines ≡ v.before ++ behind → mid ≡ with_lines old.lines v.before → Says mid new.lines behind r → IfOk r (λ s. s ≡ v.status) → new.names ≡ with_outputs old.names (list_of v.outputs) → Reaches old new r v
Reaches-behind old new mid (Ok s) v behind whole said says status names = (
  status,
  record { lines = Says-then old.lines mid new.lines v.before behind (Ok s) said says ∙ ap (with_lines old.lines) (sym whole); names = names },
)
Reaches-behind old new mid (Err why) v behind whole said says status names =
    inr (subst (SaysPart old.lines new.lines) (sym whole) (SaysPart-behind old.lines mid new.lines v.before behind said says), names)

-- A command that has printed its lines and writes nothing has its result.
pub Reaches-lines : (old new : Seen) (r : Result Status CommandEnd) (v : Verdict) → SaysVerdict old.lines new.lines r v → v.outputs ≡ nothing → new.names ≡ old.names → Reaches old new r v
Reaches-lines old new (Ok s) v says none same =
    (says.0, record { lines = says.1; names = same ∙ sym (ap (λ (outputs : WrittenOutputs). with_outputs old.names (list_of outputs)) none) })
Reaches-lines old new (Err e) v says none same =
    inr (says, same ∙ sym (ap (λ (outputs : WrittenOutputs). with_outputs old.names (list_of outputs)) none))
