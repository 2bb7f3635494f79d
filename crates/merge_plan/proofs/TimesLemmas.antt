-- The timestamps of a track among the timestamp files of an input.
use Rattle.std.proofs.Common.{◌≡◌, ◌<◌, ℕ, ◌+◌, Bool, false, if◌then◌else◌, List, ◌∷◌, length, drop, get_or, Some, sym, ◌∙◌, ap, ap₂, add-one, drop-cons, ne_eqb}
use Rattle.std.specs.Prelude.{◌==◌}
use Rattle.merge_inputs.specs.Input.{listings_in}
use Rattle.merge_inputs.specs.Taken.{value_for}
use Rattle.merge_inputs.specs.declared.input.TrackTimes.{TrackTimes}

-- The list from an index on begins with its element.
from-one : (times : List TrackTimes) (k : ℕ) (t : TrackTimes) → k < length times → t ≡ get_or times k t → drop k times ≡ t ∷ drop (k + 1) times
from-one times k t inside is = drop-cons times k t inside ∙ ap₂ (λ (first : TrackTimes) (n : ℕ). first ∷ drop n times) (sym is) (sym (add-one k))

first-value : (id : ℕ) (t : TrackTimes) (ts : List TrackTimes) (is : Bool) → (t.id == id) ≡ is → value_for id (listings_in (t ∷ ts)) ≡ (if is then Some t.times.value else value_for id (listings_in ts))
first-value id t ts is same = ap (λ (b : Bool). if b then Some t.times.value else value_for id (listings_in ts)) same

-- The timestamps are another track's.
pub times-passed : (id : ℕ) (times : List TrackTimes) (k : ℕ) (t : TrackTimes) → k < length times → t ≡ get_or times k t → (t.id ≡ id → ⊥) → value_for id (listings_in (drop (k + 1) times)) ≡ value_for id (listings_in (drop k times))
times-passed id times k t inside is other =
    sym (ap (λ (ts : List TrackTimes). value_for id (listings_in ts)) (from-one times k t inside is) ∙ first-value id t (drop (k + 1) times) false (ne_eqb t.id id other))
