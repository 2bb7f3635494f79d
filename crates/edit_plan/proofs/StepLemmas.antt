-- The writes of edits, step by step.
use Rattle.std.proofs.Common.{◌≡◌, ℕ, false, List, Option, Some, None, Result, Ok, Err, refl, sym, ap, ◌∙◌}
use Rattle.mkv_io.specs.declared.damage.Damage.{Damage}
use Rattle.requests.specs.declared.edit.Edit.{Edit}
use Rattle.mkv_io.specs.Results.{and_then, unless, and_then as edits_then}
use Rattle.element_reader.specs.Outline.{FileOutline, outline_in}
use Rattle.sidecar_edit.specs.Writes.{Write}
use Rattle.edit_changes.specs.declared.refusal.Refusal.{Refusal}
use Rattle.edit_changes.specs.declared.refusal.Refusal.TheVariants.{Damaged}
use Rattle.edit_changes.specs.declared.trees.Trees.{Trees}
use Rattle.edit_changes.specs.Change.{edited_trees}
use Rattle.edit_changes.specs.Records.{EditableFile, trees_of}
use Rattle.edit_changes.specs.Plan.{edit_ids, if_editable, parts, plan_of, writes_of_parts}
use Rattle.edit_plan.specs.Answer.{Answers, Gives}
use Rattle.edit_plan.specs.Opening.{opening}
use Rattle.edit_plan.specs.declared.plan_end.PlanEnd.{PlanEnd}
use Rattle.edit_plan.specs.declared.plan_end.PlanEnd.TheVariants.{Memory, ReadFault, Refused}

-- ---- the outline

pub open-refused : (bytes : List ℕ) (d : Damage) → outline_in 0 bytes ≡ Err d → if_editable (opening bytes) ≡ Err (Damaged d)
open-refused bytes d is = ap (λ x. if_editable (and_then x (λ (o : FileOutline). unless o.damage o))) is

pub open-damaged : (bytes : List ℕ) (o : FileOutline) (d : Damage) → outline_in 0 bytes ≡ Ok o → Some d ≡ o.damage → if_editable (opening bytes) ≡ Err (Damaged d)
open-damaged bytes o d is damaged = ap (λ x. if_editable (and_then x (λ (v : FileOutline). unless v.damage v))) is ∙ ap (λ x. if_editable (unless x o)) (sym damaged)

pub open-whole : (bytes : List ℕ) (o : FileOutline) → outline_in 0 bytes ≡ Ok o → None ≡ o.damage → if_editable (opening bytes) ≡ Ok o
open-whole bytes o is whole = ap (λ x. if_editable (and_then x (λ (v : FileOutline). unless v.damage v))) is ∙ ap (λ x. if_editable (unless x o)) (sym whole)

-- ---- the editable parts

pub trees-refused : (bytes : List ℕ) (o : FileOutline) (d : Damage) → trees_of bytes o.segment ≡ Err d → if_editable (trees_of bytes o.segment) ≡ Err (Damaged d)
trees-refused bytes o d is = ap if_editable is

pub trees-whole : (bytes : List ℕ) (o : FileOutline) (t : Trees) → trees_of bytes o.segment ≡ Ok t → if_editable (trees_of bytes o.segment) ≡ Ok t
trees-whole bytes o t is = ap if_editable is

pub ruleset opens = (open-refused, open-damaged, open-whole, trees-refused, trees-whole)

-- ---- the plan

-- the writes of the edited trees
abbrev pub behind_edits : List ℕ → List Edit → FileOutline → Trees → Result (List Write) Refusal
behind_edits bytes edits o t = writes_of_parts edit_ids false bytes o (parts o.others edits t)

abbrev pub behind_trees : List ℕ → List Edit → FileOutline → Trees → Result (List Write) Refusal
behind_trees bytes edits o t = edits_then (edited_trees edits t) (behind_edits bytes edits o)

abbrev pub behind_outline : List ℕ → List Edit → FileOutline → Result (List Write) Refusal
behind_outline bytes edits o = edits_then (if_editable (trees_of bytes o.segment)) (behind_trees bytes edits o)

pub plan-steps : (bytes : List ℕ) (edits : List Edit) → plan_of bytes edits ≡ edits_then (if_editable (opening bytes)) (behind_outline bytes edits)
unfolding plan_of
plan-steps bytes edits = outline (outline_in 0 bytes)
  where
    trees : (o : FileOutline) (read : Result Trees Damage)
        → edits_then (if_editable (and_then read (λ t. Ok (record { outline = o; trees = t })))) (λ (f : EditableFile). edits_then (edited_trees edits f.trees) (λ t. writes_of_parts edit_ids false bytes f.outline (parts f.outline.others edits t)))
        ≡ edits_then (if_editable read) (behind_trees bytes edits o)
    trees o (Ok t) = refl
    trees o (Err d) = refl

    damaged : (o : FileOutline) (damage : Option Damage)
        → edits_then (if_editable (and_then (unless damage o) (λ (v : FileOutline). and_then (trees_of bytes v.segment) (λ t. Ok (record { outline = v; trees = t })))))
        (λ (f : EditableFile). edits_then (edited_trees edits f.trees) (λ t. writes_of_parts edit_ids false bytes f.outline (parts f.outline.others edits t)))
        ≡ edits_then (if_editable (unless damage o)) (behind_outline bytes edits)
    damaged o None = trees o (trees_of bytes o.segment)
    damaged o (Some d) = refl

    outline : (found : Result FileOutline Damage)
        → edits_then (if_editable (and_then found (λ (o : FileOutline). and_then (unless o.damage o) (λ (v : FileOutline). and_then (trees_of bytes v.segment) (λ t. Ok (record { outline = v; trees = t }))))))
        (λ (f : EditableFile). edits_then (edited_trees edits f.trees) (λ t. writes_of_parts edit_ids false bytes f.outline (parts f.outline.others edits t)))
        ≡ edits_then (if_editable (and_then found (λ (o : FileOutline). unless o.damage o))) (behind_outline bytes edits)
    outline (Ok o) = damaged o o.damage
    outline (Err d) = refl

-- The outline is refused.
pub plan-outline_refused : (bytes : List ℕ) (edits : List Edit) (r : Refusal) → if_editable (opening bytes) ≡ Err r → plan_of bytes edits ≡ Err r
plan-outline_refused bytes edits r is = plan-steps bytes edits ∙ ap (λ x. edits_then x (behind_outline bytes edits)) is

plan-outline : (bytes : List ℕ) (edits : List Edit) (o : FileOutline) → if_editable (opening bytes) ≡ Ok o → plan_of bytes edits ≡ behind_outline bytes edits o
plan-outline bytes edits o is = plan-steps bytes edits ∙ ap (λ x. edits_then x (behind_outline bytes edits)) is

pub plan-trees_refused : (bytes : List ℕ) (edits : List Edit) (o : FileOutline) (r : Refusal) → if_editable (opening bytes) ≡ Ok o → if_editable (trees_of bytes o.segment) ≡ Err r → plan_of bytes edits ≡ Err r
plan-trees_refused bytes edits o r is refused = plan-outline bytes edits o is ∙ ap (λ x. edits_then x (behind_trees bytes edits o)) refused

plan-trees : (bytes : List ℕ) (edits : List Edit) (o : FileOutline) (t : Trees) → if_editable (opening bytes) ≡ Ok o → if_editable (trees_of bytes o.segment) ≡ Ok t → plan_of bytes edits ≡ behind_trees bytes edits o t
plan-trees bytes edits o t is read = plan-outline bytes edits o is ∙ ap (λ x. edits_then x (behind_trees bytes edits o)) read

pub plan-edits_refused : (bytes : List ℕ) (edits : List Edit) (o : FileOutline) (t : Trees) (r : Refusal) → if_editable (opening bytes) ≡ Ok o → if_editable (trees_of bytes o.segment) ≡ Ok t → edited_trees edits t ≡ Err r → plan_of bytes edits ≡ Err r
plan-edits_refused bytes edits o t r is read refused = plan-trees bytes edits o t is read ∙ ap (λ x. edits_then x (behind_edits bytes edits o)) refused

pub plan-edits : (bytes : List ℕ) (edits : List Edit) (o : FileOutline) (t u : Trees) → if_editable (opening bytes) ≡ Ok o → if_editable (trees_of bytes o.segment) ≡ Ok t → edited_trees edits t ≡ Ok u → plan_of bytes edits ≡ writes_of_parts edit_ids false bytes o (parts o.others edits u)
plan-edits bytes edits o t u is read done = plan-trees bytes edits o t is read ∙ ap (λ x. edits_then x (behind_edits bytes edits o)) done

-- The outline that was read is the file's.
pub opening-outline : (bytes : List ℕ) (o : FileOutline) → if_editable (opening bytes) ≡ Ok o → outline_in 0 bytes ≡ Ok o
opening-outline bytes o is = outline (outline_in 0 bytes) is
  where
    damaged : (v : FileOutline) (damage : Option Damage) → if_editable (unless damage v) ≡ Ok o → v ≡ o
    damaged v None is = cc
    damaged v (Some d) is = absurd (cc)

    outline : (found : Result FileOutline Damage) → if_editable (and_then found (λ (v : FileOutline). unless v.damage v)) ≡ Ok o → found ≡ Ok o
    outline (Ok v) is = ap (λ (x : FileOutline). Ok x) (damaged v v.damage is)
    outline (Err d) is = absurd (cc)

-- ---- refusals

pub outline-answers : (bytes : List ℕ) (edits : List Edit) (e : PlanEnd) → Gives (if_editable (opening bytes)) (Err e) → Answers (plan_of bytes edits) (Err e)
outline-answers bytes edits (Refused r) is = plan-outline_refused bytes edits r is
outline-answers bytes edits ReadFault is = tt
outline-answers bytes edits Memory is = tt

pub trees-answer : (bytes : List ℕ) (edits : List Edit) (o : FileOutline) (e : PlanEnd) → if_editable (opening bytes) ≡ Ok o → Gives (if_editable (trees_of bytes o.segment)) (Err e) → Answers (plan_of bytes edits) (Err e)
trees-answer bytes edits o (Refused r) is refused = plan-trees_refused bytes edits o r is refused
trees-answer bytes edits o ReadFault is refused = tt
trees-answer bytes edits o Memory is refused = tt

pub edits-answer : (bytes : List ℕ) (edits : List Edit) (o : FileOutline) (t : Trees) (e : PlanEnd) → if_editable (opening bytes) ≡ Ok o → if_editable (trees_of bytes o.segment) ≡ Ok t
    → Gives (edited_trees edits t) (Err e) → Answers (plan_of bytes edits) (Err e)
edits-answer bytes edits o t (Refused r) is read refused = plan-edits_refused bytes edits o t r is read refused
edits-answer bytes edits o t ReadFault is read refused = tt
edits-answer bytes edits o t Memory is read refused = tt
