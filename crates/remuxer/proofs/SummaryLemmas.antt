-- The damaged places of a plan's inputs, from the reports of its output tracks.
use Rattle.std.proofs.Common.{◌≡◌, ◌≤◌, ◌<◌, ℕ, zero, suc, ◌+◌, ◌-◌, Bool, true, false, not, if◌then◌else◌, List, [], ◌∷◌, ◌++◌, All, length, map, Option, Some, None, option_map, refl, sym, ◌∙◌, ap, ap₂, arith}
use Rattle.std.specs.Prelude.{◌==◌, find, nat_lt}
use Rattle.std.specs.List.{flat_map, position, position_or_len, range_with_len, slice_get, zip}
use Rattle.std.specs.Option.{option_and_then, option_map_or, option_or, unwrap_or}
use Rattle.std.proofs.lemmas.Bool.{ltb-false}
use Rattle.std.proofs.lemmas.Bool.Decides.{nat_tests}
use Rattle.std.proofs.lemmas.List.{length-map}
use Rattle.std.proofs.lemmas.List.Elements.{All-head, All-tail}
use Rattle.std.proofs.lemmas.List.Folds.{find-append}
use Rattle.std.proofs.lemmas.Option.{slice_get-map, slice_get_past}
use Rattle.mkv_io.specs.declared.damage.Damage.{Damage}
use Rattle.mkv_io.specs.LiveFiles.{LiveFiles}
use Rattle.cluster_reader.specs.ToldDamages.{ToldDamages, told_damages}
use Rattle.merge_model.specs.Lanes.{lane_damages}
use Rattle.merge_model.specs.FileLinks.{given_in}
use Rattle.lanes.proofs.StartLemmas.{length-damages}
use Rattle.remux_plan.specs.Summary.{count_to, damages_of, linked_inputs, link_damages}
use Rattle.remux_plan.specs.declared.TheConstants.{MAX_INPUTS}
use Rattle.remux_plan.specs.declared.plan.PlannedLane.{PlannedLane}
use Rattle.remuxer.specs.Started.{numbers_of}
use Rattle.remuxer.specs.Told.{damages_told, told_at, told_of}

-- ---- the first link of an input

-- in one output track
at-find : {X : Type 0} (input : ℕ) (numbers : List ℕ) (xs : List X) → length numbers ≡ length xs → slice_get xs (position_or_len (λ number. number == input) numbers) ≡ option_map (λ (link : ℕ × X). link.1) (find (λ (link : ℕ × X). link.0 == input) (zip numbers xs))
at-find input [] [] same = refl
at-find input [] (x ∷ xs) same = absurd (omega arith)
at-find input (n ∷ ns) [] same = absurd (omega arith)
at-find input (n ∷ ns) (x ∷ xs) same = split (n == input) (at-find input ns xs (omega arith))
  where
    split : (is : Bool) → slice_get xs (position_or_len (λ number. number == input) ns) ≡ option_map (λ link. link.1) (find (λ link. link.0 == input) (zip ns xs))
        → slice_get (x ∷ xs) (if not is then 1 + position_or_len (λ number. number == input) ns else 0) ≡ option_map (λ link. link.1) (if is then Some (n, x) else find (λ link. link.0 == input) (zip ns xs))
    split true later = refl
    split false later = ap (slice_get (x ∷ xs)) (let place = position_or_len (λ number. number == input) ns in let one : 1 + place ≡ suc place = omega arith in one) ∙ later

placed : {X : Type 0} (input : ℕ) (numbers : List ℕ) (xs : List X) → length numbers ≡ length xs → option_and_then (slice_get xs) (position (λ number. number == input) numbers) ≡ slice_get xs (position_or_len (λ number. number == input) numbers)
placed input numbers xs same = split (nat_lt place (length numbers)) refl
  where
    place : ℕ
    place = position_or_len (λ number. number == input) numbers

    split : (inside : Bool) → nat_lt place (length numbers) ≡ inside → option_and_then (slice_get xs) (if inside then Some place else None) ≡ slice_get xs place
    split true is = refl
    split false is = let past : length numbers ≤ place = ltb-false place (length numbers) is in sym (slice_get_past xs place (omega arith))

told-at : (input : ℕ) (numbers : List ℕ) (dss : List (List Damage)) → length numbers ≡ length dss → told_at numbers (map told_damages dss) input ≡ option_map told_damages (option_map (λ (link : ℕ × List Damage). link.1) (find (λ (link : ℕ × List Damage). link.0 == input) (zip numbers dss)))
told-at input numbers dss same =
    placed input numbers (map told_damages dss) (same ∙ sym (length-map dss told_damages))
    ∙ slice_get-map told_damages dss (position_or_len (λ number. number == input) numbers)
    ∙ ap (option_map told_damages) (at-find input numbers dss same)

map-or : {A B : Type 0} (g : A → B) (o p : Option A) → option_map g (option_or o p) ≡ option_or (option_map g o) (option_map g p)
map-or g None p = refl
map-or g (Some x) p = refl

-- in all output tracks
module _ (f : LiveFiles) (input : ℕ) where
  told-of : (lanes : List PlannedLane) → All (λ (l : PlannedLane). length l.inputs ≡ length l.spec.links) lanes
      → told_of (numbers_of lanes) (map (λ (l : PlannedLane). map told_damages (lane_damages (map (given_in f) l.spec.links))) lanes) input ≡ option_map told_damages (option_map (λ (link : ℕ × List Damage). link.1) (find (λ (link : ℕ × List Damage). link.0 == input) (flat_map (link_damages f) lanes)))
  told-of [] numbered = refl
  told-of (l ∷ ls) numbered =
      let dss = lane_damages (map (given_in f) l.spec.links) in
      let here = find (λ (link : ℕ × List Damage). link.0 == input) (zip l.inputs dss) in
      let later = find (λ (link : ℕ × List Damage). link.0 == input) (flat_map (link_damages f) ls) in
      let long : length l.inputs ≡ length dss =
      All-head (λ (each : PlannedLane). length each.inputs ≡ length each.spec.links) l ls numbered ∙ sym (length-damages (map (given_in f) l.spec.links) ∙ length-map l.spec.links (given_in f)) in
      ap₂ (λ (o p : Option ToldDamages). option_or o p) (told-at input l.inputs dss long) (told-of ls (All-tail (λ (each : PlannedLane). length each.inputs ≡ length each.spec.links) l ls numbered))
      ∙ sym (map-or told_damages (option_map (λ (link : ℕ × List Damage). link.1) here) (option_map (λ (link : ℕ × List Damage). link.1) later))
      ∙ ap (option_map told_damages) (sym (map-or (λ (link : ℕ × List Damage). link.1) here later))
      ∙ ap (λ o. option_map told_damages (option_map (λ (link : ℕ × List Damage). link.1) o)) (sym (find-append (λ (link : ℕ × List Damage). link.0 == input) (zip l.inputs dss) (flat_map (link_damages f) ls)))

  or-none : (o : Option (ℕ × List Damage)) → unwrap_or (option_map told_damages (option_map (λ (link : ℕ × List Damage). link.1) o)) (told_damages []) ≡ told_damages (option_map_or (λ (link : ℕ × List Damage). link.1) o [])
  or-none None = refl
  or-none (Some link) = refl

  pub told-is : (lanes : List PlannedLane) → All (λ (l : PlannedLane). length l.inputs ≡ length l.spec.links) lanes
      → damages_told (numbers_of lanes) (map (λ (l : PlannedLane). map told_damages (lane_damages (map (given_in f) l.spec.links))) lanes) input ≡ told_damages (damages_of f lanes input)
  told-is lanes numbered = ap (λ o. unwrap_or o (told_damages [])) (told-of lanes numbered) ∙ or-none (find (λ (link : ℕ × List Damage). link.0 == input) (flat_map (link_damages f) lanes))

-- ---- inputs without a link

differs : (n input : ℕ) → (n == input) ≡ true → n < input → ⊥
differs n input is less = grind (arith, nat_tests)

none-in : {X : Type 0} (input : ℕ) (numbers : List ℕ) (xs : List X) → count_to numbers ≤ input → find (λ (link : ℕ × X). link.0 == input) (zip numbers xs) ≡ None
none-in input [] xs few = refl
none-in input (n ∷ ns) [] few = refl
none-in input (n ∷ ns) (x ∷ xs) few = split (n == input) refl (none-in input ns xs (omega (arith, few)))
  where
    split : (is : Bool) → (n == input) ≡ is → find (λ link. link.0 == input) (zip ns xs) ≡ None → (if is then Some (n, x) else find (λ link. link.0 == input) (zip ns xs)) ≡ None
    split true is later = absurd (differs n input is (omega (arith, few)))
    split false is later = later

count-left : (xs ys : List ℕ) → count_to xs ≤ count_to (xs ++ ys)
count-left [] ys = omega arith
count-left (x ∷ xs) ys = let rest = count-left xs ys in omega arith

count-right : (xs ys : List ℕ) → count_to ys ≤ count_to (xs ++ ys)
count-right [] ys = omega arith
count-right (x ∷ xs) ys = let rest = count-right xs ys in omega arith

none-of : (f : LiveFiles) (input : ℕ) (lanes : List PlannedLane) → count_to (flat_map (λ (l : PlannedLane). l.inputs) lanes) ≤ input → find (λ (link : ℕ × List Damage). link.0 == input) (flat_map (link_damages f) lanes) ≡ None
none-of f input [] few = refl
none-of f input (l ∷ ls) few =
    let rest = flat_map (λ (each : PlannedLane). each.inputs) ls in
    let left = count-left l.inputs rest in
    let right = count-right l.inputs rest in
    let dss = lane_damages (map (given_in f) l.spec.links) in
    find-append (λ (link : ℕ × List Damage). link.0 == input) (zip l.inputs dss) (flat_map (link_damages f) ls)
    ∙ ap₂ (λ (o p : Option (ℕ × List Damage)). option_or o p) (none-in input l.inputs dss (omega (arith, left, few))) (none-of f input ls (omega (arith, right, few)))

pub no-damages : (f : LiveFiles) (input : ℕ) (lanes : List PlannedLane) → count_to (flat_map (λ (l : PlannedLane). l.inputs) lanes) ≤ input → damages_of f lanes input ≡ []
no-damages f input lanes few = ap (λ o. option_map_or (λ (link : ℕ × List Damage). link.1) o []) (none-of f input lanes few)

-- ---- all possible inputs

count-below : (most : ℕ) (numbers : List ℕ) → All (λ n. n < most) numbers → count_to numbers ≤ most
count-below most [] all = omega arith
count-below most (n ∷ ns) all =
    let here : n < most = All-head (λ m. m < most) n ns all in
    let rest = count-below most ns (All-tail (λ m. m < most) n ns all) in
    omega arith

count-joined : (xs ys : List ℕ) (most : ℕ) → count_to xs ≤ most → count_to ys ≤ most → count_to (xs ++ ys) ≤ most
count-joined [] ys most first next = next
count-joined (x ∷ xs) ys most first next = let rest = count-joined xs ys most (omega (arith, first)) next in omega (arith, first, rest)

pub count-all : (most : ℕ) (lanes : List PlannedLane) → All (λ (l : PlannedLane). All (λ n. n < most) l.inputs) lanes → count_to (flat_map (λ (l : PlannedLane). l.inputs) lanes) ≤ most
count-all most [] all = omega arith
count-all most (l ∷ ls) all =
    count-joined l.inputs (flat_map (λ (each : PlannedLane). each.inputs) ls) most
    (count-below most l.inputs (All-head (λ (each : PlannedLane). All (λ n. n < most) each.inputs) l ls all))
    (count-all most ls (All-tail (λ (each : PlannedLane). All (λ n. n < most) each.inputs) l ls all))

-- Inputs without damaged places add nothing.
empty-range : {A : Type 0} (g : ℕ → List A) (n from : ℕ) → ((k : ℕ) → from ≤ k → g k ≡ []) → flat_map g (range_with_len from n) ≡ []
empty-range g zero from none = refl
empty-range g (suc n) from none = ap₂ (λ xs ys. xs ++ ys) (none from (omega arith)) (empty-range g n (from + 1) (λ k high. none k (omega arith)))

pub short-range : {A : Type 0} (g : ℕ → List A) (n m from : ℕ) → ((k : ℕ) → from + n ≤ k → g k ≡ []) → flat_map g (range_with_len from (n + m)) ≡ flat_map g (range_with_len from n)
short-range g zero m from none = ap (λ k. flat_map g (range_with_len from k)) (let same : 0 + m ≡ m = omega arith in same) ∙ empty-range g m from (λ k high. none k (omega arith))
short-range g (suc n) m from none =
    ap (λ k. flat_map g (range_with_len from k)) (let same : suc n + m ≡ suc (n + m) = omega arith in same)
    ∙ ap (λ xs. g from ++ xs) (short-range g n m (from + 1) (λ k high. none k (omega arith)))

-- ---- the damaged places of a plan

module _ {A : Type 0} (f : LiveFiles) (lanes : List PlannedLane) (of : ℕ → ToldDamages → List A) (none : (input : ℕ) → of input (told_damages []) ≡ [])
    (numbered : All (λ (l : PlannedLane). length l.inputs ≡ length l.spec.links) lanes) (inputs : All (λ (l : PlannedLane). All (λ n. n < MAX_INPUTS) l.inputs) lanes) where
  pub plan-damages :
      flat_map (λ input. of input (damages_told (numbers_of lanes) (map (λ (l : PlannedLane). map told_damages (lane_damages (map (given_in f) l.spec.links))) lanes) input)) (range_with_len 0 MAX_INPUTS)
      ≡ flat_map (λ input. of input (told_damages (damages_of f lanes input))) (linked_inputs lanes)
  plan-damages =
      let count = count_to (flat_map (λ (l : PlannedLane). l.inputs) lanes) in
      let few : count ≤ MAX_INPUTS = count-all MAX_INPUTS lanes inputs in
      let all : MAX_INPUTS ≡ count + (MAX_INPUTS - count) = omega arith in
      ap (λ (g : ℕ → List A). flat_map g (range_with_len 0 MAX_INPUTS)) (λ i input. of input (told-is f input lanes numbered i))
      ∙ ap (λ n. flat_map (λ input. of input (told_damages (damages_of f lanes input))) (range_with_len 0 n)) all
      ∙ short-range (λ input. of input (told_damages (damages_of f lanes input))) count (MAX_INPUTS - count) 0
      (λ k high. ap (λ ds. of k (told_damages ds)) (no-damages f k lanes (omega arith)) ∙ none k)
