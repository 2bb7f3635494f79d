-- Damaged places that were reached and the rest, one turn at a time.
use Rattle.std.proofs.Common.{◌≡◌, ℕ, suc, ◌+◌, ◌-◌, ◌<◌, ◌≤◌, Bool, true, false, if◌then◌else◌, List, [], ◌∷◌, ◌++◌, length, map, take, drop, Some, option_map, refl, sym, ◌∙◌, ap, add-one, append-nil, append_assoc, arith}
use Rattle.std.proofs.Math.ListN.{set}
use Rattle.std.proofs.lemmas.List.{take-set, drop-set, take_all, length-map}
use Rattle.std.proofs.lemmas.Option.{slice_get-map}
use Rattle.std.proofs.Math.Seq.{drop-length}
use Rattle.std.specs.List.{slice_get}
use Rattle.mkv_io.specs.declared.damage.Damage.{Damage}
use Rattle.mkv_io.specs.LiveFiles.{LiveFiles}
use Rattle.cluster_reader.specs.ToldDamages.{ToldDamages, with_damage}
use Rattle.merge_model.specs.Links.{Given}
use Rattle.merge_model.specs.Lanes.{lane_damages}
use Rattle.merge_model.specs.declared.link.Link.{Link}
use Rattle.lanes.specs.Told.{damages_from, of_link, with_all, with_damages}
use Rattle.lanes.specs.Walks.{links_left, told_in_all}
use Rattle.lanes.specs.declared.walk.Walk.{Walk}
use Rattle.lanes.proofs.ListLemmas.{drop-at, get-behind, get-front, take-at, take-drop}
use Rattle.lanes.proofs.WalkLemmas.{Stays, Leaves, behind, later, links_left-behind}

-- the report from the reached places, the current link and the rest
abbrev told_by : List ToldDamages → ℕ → List Given → List ToldDamages
told_by ts k gs = take k ts ++ with_all (drop k ts) (lane_damages gs)

-- the report of the next links
abbrev told_behind : Bool → List ToldDamages → List Given → List ToldDamages
told_behind st ts rest = with_all ts (if st then map (λ _. []) rest else lane_damages rest)

-- ---- a turn that stays at its link

-- No damaged place is reached.
pub told-passes : (f : LiveFiles) (links : List Link) (old new : Walk) (g h : Given) → Stays f links old new g h → g.damages ≡ h.damages → new.told ≡ old.told → told_in_all f links new ≡ told_in_all f links old
told-passes f links old new g h is same told =
    ap (λ (k : ℕ). told_by new.told.items k (links_left f links new)) is.at
    ∙ ap (λ ts. told_by ts.items old.at (links_left f links new)) told
    ∙ ap (told_by old.told.items old.at) is.now
    ∙ ap (λ (ds : List Damage). take old.at old.told.items ++ with_all (drop old.at old.told.items) (ds ∷ (if h.stops then map (λ _. []) is.rest else lane_damages is.rest))) (sym same)
    ∙ ap (λ (st : Bool). take old.at old.told.items ++ with_all (drop old.at old.told.items) (g.damages ∷ (if st then map (λ _. []) is.rest else lane_damages is.rest))) (sym is.stops)
    ∙ ap (told_by old.told.items old.at) (sym is.was)

-- One damaged place is reached.
pub told-damage : (f : LiveFiles) (links : List Link) (old new : Walk) (g h : Given) (d : Damage) (r : ToldDamages) → Stays f links old new g h → g.damages ≡ d ∷ h.damages → slice_get old.told.items old.at ≡ Some r → old.at < length old.told.items → new.told.items ≡ set old.told.items old.at (with_damage r d) → told_in_all f links new ≡ told_in_all f links old
told-damage f links old new g h d r is more here inside told =
    ap (λ (k : ℕ). told_by new.told.items k (links_left f links new)) is.at
    ∙ ap (λ (ts : List ToldDamages). told_by ts old.at (links_left f links new)) told
    ∙ ap (told_by (set old.told.items old.at (with_damage r d)) old.at) is.now
    ∙ ap (λ (ts : List ToldDamages). ts ++ with_all (drop old.at (set old.told.items old.at (with_damage r d))) (h.damages ∷ (if h.stops then map (λ _. []) is.rest else lane_damages is.rest))) (take-set old.told.items old.at (with_damage r d))
    ∙ ap (λ (ts : List ToldDamages). take old.at old.told.items ++ with_all ts (h.damages ∷ (if h.stops then map (λ _. []) is.rest else lane_damages is.rest)))
    (drop-set old.told.items old.at (with_damage r d) inside ∙ ap (λ (k : ℕ). with_damage r d ∷ drop k old.told.items) (add-one old.at))
    ∙ ap (λ (ds : List Damage). take old.at old.told.items ++ (with_damages r ds ∷ told_behind h.stops (drop (suc old.at) old.told.items) is.rest)) (sym more)
    ∙ ap (λ (st : Bool). take old.at old.told.items ++ (with_damages r g.damages ∷ told_behind st (drop (suc old.at) old.told.items) is.rest)) (sym is.stops)
    ∙ ap (λ (ts : List ToldDamages). take old.at old.told.items ++ with_all ts (lane_damages (g ∷ is.rest))) (sym (drop-at old.told.items old.at r here))
    ∙ ap (told_by old.told.items old.at) (sym is.was)

-- ---- a turn that leaves its link

-- Links that don't count have no damaged places.
with_all-none : (ts : List ToldDamages) (gs : List Given) → with_all ts (map (λ _. []) gs) ≡ ts
with_all-none [] gs = refl
with_all-none (t ∷ ts) [] = refl
with_all-none (t ∷ ts) (g ∷ gs) = ap (λ each. t ∷ each) (with_all-none ts gs)

pub told-leaves : (f : LiveFiles) (links : List Link) (old new : Walk) (g : Given) (r : ToldDamages) → Leaves f links old new g → g.damages ≡ [] → slice_get old.told.items old.at ≡ Some r → length old.told.items ≡ length links → told_in_all f links new ≡ told_in_all f links old
told-leaves f links old new g r is none here long = sym (
    ap (told_by ts old.at) is.was
    ∙ ap (λ (ds : List Damage). take old.at ts ++ with_all (drop old.at ts) (ds ∷ (if g.stops then map (λ _. []) rest else lane_damages rest))) none
    ∙ ap (λ (st : Bool). take old.at ts ++ with_all (drop old.at ts) ([] ∷ (if st then map (λ _. []) rest else lane_damages rest))) is.stops
    ∙ ap (λ (each : List ToldDamages). take old.at ts ++ with_all each ([] ∷ (if old.stopped then map (λ _. []) rest else lane_damages rest))) (drop-at ts old.at r here)
    ∙ step old.stopped
    ∙ ap (λ (k : ℕ). told_by ts k (if old.stopped then [] else rest)) (sym is.left.at)
    ∙ ap (told_by ts new.at) (sym (links_left-behind f links old new is.left))
    ∙ ap (λ each. told_by each.items new.at (links_left f links new)) (sym is.left.told))
  where
    ts : List ToldDamages
    ts = old.told.items

    rest : List Given
    rest = later f links old.at

    step : (st : Bool) → take old.at old.told.items ++ (r ∷ told_behind st (drop (suc old.at) old.told.items) (later f links old.at)) ≡ told_by old.told.items (behind st (length links) old.at) (if st then [] else later f links old.at)
    step true =
        ap (λ (each : List ToldDamages). take old.at old.told.items ++ (r ∷ each)) (with_all-none (drop (suc old.at) old.told.items) (later f links old.at))
        ∙ ap (λ (each : List ToldDamages). take old.at old.told.items ++ each) (sym (drop-at old.told.items old.at r here))
        ∙ take-drop old.at old.told.items
        ∙ sym (ap (λ (k : ℕ). told_by old.told.items k []) (sym long)
        ∙ ap (λ (each : List ToldDamages). take (length old.told.items) old.told.items ++ with_all each []) (drop-length old.told.items)
        ∙ append-nil (take (length old.told.items) old.told.items)
        ∙ take_all (length old.told.items) old.told.items (omega arith))
    step false =
        sym (ap (λ (k : ℕ). told_by old.told.items k (later f links old.at)) (add-one old.at)
        ∙ ap (λ (each : List ToldDamages). each ++ with_all (drop (suc old.at) old.told.items) (lane_damages (later f links old.at))) (take-at old.told.items old.at r here)
        ∙ append_assoc (take old.at old.told.items) (r ∷ []) (with_all (drop (suc old.at) old.told.items) (lane_damages (later f links old.at))))

-- ---- damaged places that are reported one by one

pub damage-here : (told : List ToldDamages) (number k : ℕ) (t : ToldDamages) (d : Damage) → slice_get told number ≡ Some t → slice_get t.first k ≡ Some d → slice_get (damages_from number (drop number told)) k ≡ Some (of_link number d)
damage-here told number k t d here is =
    ap (λ ts. slice_get (damages_from number ts) k) (drop-at told number t here)
    ∙ get-front (map (of_link number) t.first) (damages_from (suc number) (drop (suc number) told)) k (of_link number d) (slice_get-map (of_link number) t.first k ∙ ap (option_map (of_link number)) is)

pub damage-behind : (told : List ToldDamages) (number k : ℕ) (t : ToldDamages) → slice_get told number ≡ Some t → length t.first ≤ k → slice_get (damages_from (number + 1) (drop (number + 1) told)) (k - length t.first) ≡ slice_get (damages_from number (drop number told)) k
damage-behind told number k t here past = sym (
    ap (λ ts. slice_get (damages_from number ts) k) (drop-at told number t here)
    ∙ get-behind (map (of_link number) t.first) (damages_from (suc number) (drop (suc number) told)) k long
    ∙ ap (λ (n : ℕ). slice_get (damages_from (suc number) (drop (suc number) told)) (k - n)) (length-map t.first (of_link number))
    ∙ ap (λ (n : ℕ). slice_get (damages_from n (drop n told)) (k - length t.first)) (sym (add-one number)))
  where
    long : length (map (of_link number) t.first) ≤ k
    long = let same : length (map (of_link number) t.first) ≡ length t.first = length-map t.first (of_link number) in omega arith
