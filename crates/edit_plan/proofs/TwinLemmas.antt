-- Elements that move, in sequence.
use Rattle.std.proofs.Common.{◌≡◌, ℕ, ◌+◌, ◌<◌, Bool, true, false, if◌then◌else◌, List, ◌∷◌, length, get_or, drop, map, Some, None, refl, sym, ap, ◌∙◌, add-one}
use Rattle.std.specs.Option.{option_or}
use Rattle.std.proofs.Math.Seq.{drop-cons}
use Rattle.mkv_schema.specs.declared.element.Header.{Header}
use Rattle.edit_changes.specs.declared.refusal.Refusal.{Refusal}
use Rattle.edit_changes.specs.Plan.{moves, moving, twin_of, twin_refusal}
use Rattle.edit_plan.specs.Shown.{shown}
use Rattle.edit_plan.specs.declared.part.Part.{Part}

next-is : (i : ℕ) (ps : List Part) (p : Part) → i < length ps → p ≡ get_or ps i p → drop i ps ≡ p ∷ drop (i + 1) ps
next-is i ps p inside is = drop-cons ps i p inside ∙ rw (add-one, ← is) refl

moving-next : (i : ℕ) (ps : List Part) (p : Part) (b : Bool) → i < length ps → p ≡ get_or ps i p → moves (shown p) ≡ b
    → moving (map shown (drop i ps)) ≡ (if b then shown p ∷ moving (map shown (drop (i + 1) ps)) else moving (map shown (drop (i + 1) ps)))
moving-next i ps p b inside is test =
    ap (λ l. moving (map shown l)) (next-is i ps p inside is)
    ∙ ap (λ (x : Bool). if x then shown p ∷ moving (map shown (drop (i + 1) ps)) else moving (map shown (drop (i + 1) ps))) test

pub twin-found : (list : List Header) (i : ℕ) (ps : List Part) (p : Part) (r : Refusal) → i < length ps → p ≡ get_or ps i p → moves (shown p) ≡ true → Some r ≡ twin_of list p.id
    → Some r ≡ twin_refusal list (moving (map shown (drop i ps)))
twin-found list i ps p r inside is test found =
    ap (λ x. option_or x (twin_refusal list (moving (map shown (drop (i + 1) ps))))) found
    ∙ sym (ap (twin_refusal list) (moving-next i ps p true inside is test))

pub twin-passed : (list : List Header) (i : ℕ) (ps : List Part) (p : Part) → i < length ps → p ≡ get_or ps i p → moves (shown p) ≡ true → None ≡ twin_of list p.id
    → twin_refusal list (moving (map shown (drop i ps))) ≡ twin_refusal list (moving (map shown (drop (i + 1) ps)))
twin-passed list i ps p inside is test found =
    ap (twin_refusal list) (moving-next i ps p true inside is test)
    ∙ sym (ap (λ x. option_or x (twin_refusal list (moving (map shown (drop (i + 1) ps))))) found)

pub twin-stays : (list : List Header) (i : ℕ) (ps : List Part) (p : Part) → i < length ps → p ≡ get_or ps i p → moves (shown p) ≡ false
    → twin_refusal list (moving (map shown (drop i ps))) ≡ twin_refusal list (moving (map shown (drop (i + 1) ps)))
twin-stays list i ps p inside is test = ap (twin_refusal list) (moving-next i ps p false inside is test)
