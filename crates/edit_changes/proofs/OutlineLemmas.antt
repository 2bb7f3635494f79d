-- The Elements of level 1 in sequence.
use Rattle.std.proofs.Common.{◌≡◌, ℕ, zero, suc, ◌+◌, ◌==◌, Bool, true, false, ◌&&◌, if◌then◌else◌, List, [], ◌∷◌, drop, Some, slice_get, refl, sym, ◌∙◌, ap, add-one}
use Rattle.std.proofs.lemmas.List.Sums.{sum_by-cons}
use Rattle.mkv_schema.specs.declared.ids.TheConstants.{VOID}
use Rattle.mkv_schema.specs.declared.element.Header.{Header}
use Rattle.mkv_schema.specs.Element.{stated_end}
use Rattle.edit_changes.specs.Plan.{number_of}
use Rattle.edit_changes.specs.Span.{behind_voids}
use Rattle.edit_changes.specs.Written.{behind_void}

drop-suc : (list : List Header) (k : ℕ) (h : Header) → slice_get list k ≡ Some h → drop k list ≡ h ∷ drop (suc k) list
drop-suc [] k h at = absurd (cc at)
drop-suc (g ∷ gs) zero h at = ap (λ x. x ∷ gs) (cc at)
drop-suc (g ∷ gs) (suc k) h at = drop-suc gs k h at

drop-at : (list : List Header) (k : ℕ) (h : Header) → slice_get list k ≡ Some h → drop k list ≡ h ∷ drop (k + 1) list
drop-at list k h at =
    let next : drop (k + 1) list ≡ drop (suc k) list = rw add-one refl in
    drop-suc list k h at ∙ ap (λ l. h ∷ l) (sym next)

-- A Void at the current offset advances it.
pub void-step : (p k : ℕ) (list : List Header) (h : Header) → slice_get list k ≡ Some h
    → behind_voids p (drop k list) ≡ behind_voids (behind_void p h) (drop (k + 1) list)
void-step p k list h at = ap (behind_voids p) (drop-at list k h at) ∙ split (h.id == VOID && h.offset == p)
  where
    split : (b : Bool) → (if b then behind_voids (stated_end h) (drop (k + 1) list) else behind_voids p (drop (k + 1) list))
        ≡ behind_voids (if b then stated_end h else p) (drop (k + 1) list)
    split true = refl
    split false = refl

pub ruleset spans = void-step

-- The count grows by one for an Element with this ID.
pub number-step : (id k : ℕ) (list : List Header) (h : Header) → slice_get list k ≡ Some h
    → number_of id (drop k list) ≡ (if h.id == id then 1 else 0) + number_of id (drop (k + 1) list)
number-step id k list h at =
    ap (number_of id) (drop-at list k h at) ∙ sum_by-cons (λ (g : Header). if g.id == id then 1 else 0) h (drop (k + 1) list)

pub ruleset numbers = number-step
