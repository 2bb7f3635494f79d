-- Output tracks of selected tracks.
use Rattle.std.proofs.Common.{◌≡◌, ◌<◌, ℕ, zero, suc, ◌+◌, Bool, true, false, if◌then◌else◌, List, [], ◌∷◌, ◌++◌, length, take, drop, map, get_or, Option, None, sym, ap, ap₂, subst, ◌∙◌, refl, arith, append-nil, append_assoc}
use Rattle.std.specs.List.{All, AllZip, enumerate_from, range_with_len, slice_get, take_while}
use Rattle.std.specs.Option.{option_map, option_to_list}
use Rattle.std.proofs.lemmas.Grind.{flat_map-append}
use Rattle.std.proofs.lemmas.List.{get_or-map, length-map, map-append, map_push}
use Rattle.std.proofs.lemmas.List.Elements.{All-drop, All-take}
use Rattle.std.proofs.Math.ListN.{length-take}
use Rattle.merge_model.specs.declared.link.Link.{Link}
use Rattle.merge_inputs.specs.Input.{read_in}
use Rattle.merge_inputs.specs.Taken.{IsTaken}
use Rattle.merge_inputs.specs.declared.input.Input.{Input}
use Rattle.merge_inputs.specs.declared.taken.TakenTrack.{TakenTrack}
use Rattle.splitter.specs.Split.{is_driver}
use Rattle.remux_plan.specs.Parts.{drivers_of}
use Rattle.remux_plan.specs.declared.plan.PlannedLane.{PlannedLane}
use Rattle.merge_plan.specs.Chains.{at_place, columns_from}
use Rattle.merge_plan.specs.Records.{tracks_begun}
use Rattle.merge_plan.specs.TakenTracks.{GoesOn, HasTaken, IsLaneOf, IsLink, IsLinkAt, Spot, driven_from, goes_on, spot, spots_at, spots_behind, spots_from, spots_in}
use Rattle.merge_plan.proofs.ChainLemmas.{enumerate-push, while-enumerate}
use Rattle.merge_plan.proofs.RecordLemmas.{begun-taken}
use Rattle.merge_plan.proofs.ListLemmas.{drop-next, take-next}

zip-append : {A B : Type 0} (R : A → B → Type 0) (xs : List A) (ys : List B) (ws : List A) (zs : List B) → AllZip R xs ys → AllZip R ws zs → AllZip R (xs ++ ws) (ys ++ zs)
zip-append R [] [] ws zs all more = more
zip-append R [] (y ∷ ys) ws zs all more = absurd all
zip-append R (x ∷ xs) [] ws zs all more = absurd all
zip-append R (x ∷ xs) (y ∷ ys) ws zs all more = (all.0, zip-append R xs ys ws zs all.1 more)

-- ---- links

-- One more track of an input is a link.
pub link-more : (b : Bool) (i : Input) (taken : List TakenTrack) (k : ℕ) (t : TakenTrack) (link : Link) (old new : List Link) → k < length taken → t ≡ get_or taken k t → AllZip (IsLink b i) (take k taken) old → IsLink b i t link → new ≡ old ++ link ∷ [] → AllZip (IsLink b i) (take (k + 1) taken) new
link-more b i taken k t link old new inside at are is put =
    let more : AllZip (IsLink b i) (take k taken ++ t ∷ []) (old ++ link ∷ []) = zip-append (IsLink b i) (take k taken) old (t ∷ []) (link ∷ []) are (is, tt) in
    subst (AllZip (IsLink b i) (take (k + 1) taken)) (sym put) (subst (λ (ts : List TakenTrack). AllZip (IsLink b i) ts (old ++ link ∷ [])) (sym (take-next taken k t inside at)) more)

-- ---- one output track

-- It is continued.
pub lane-more : (b : Bool) (first : Spot) (spots more : List Spot) (old new : PlannedLane) → IsLaneOf b (first ∷ spots) old → GoesOn b more old new → IsLaneOf b (first ∷ (spots ++ more)) new
lane-more b first spots more old new is goes =
    record {
      links = subst (AllZip (IsLinkAt b) (first ∷ (spots ++ more))) (sym goes.links) (zip-append (IsLinkAt b) (first ∷ spots) old.spec.links more goes.more is.links goes.are);
      inputs = goes.inputs ∙ ap (λ l. l ++ map (λ (s : Spot). s.number) more) is.inputs ∙ sym (map-append (λ (s : Spot). s.number) (first ∷ spots) more);
      rule = goes.rule ∙ is.rule;
    }

-- The track of an input at an index is the only one.
pub spots-one : (place number : ℕ) (i : Input) (o : Option TakenTrack) → slice_get i.taken place ≡ o → spots_at place (number, i) ≡ option_to_list (option_map (spot number i) o)
spots-one place number i o is = ap option_to_list (of place i.taken ∙ ap (option_map (spot number i)) is)
  where
    of : (place : ℕ) (ts : List TakenTrack) → slice_get (map (spot number i) ts) place ≡ option_map (spot number i) (slice_get ts place)
    of place [] = refl
    of zero (t ∷ ts) = refl
    of (suc place) (t ∷ ts) = of place ts

-- An input without a track at this index leaves the output track as it is.
pub stays : (b : Bool) (place number : ℕ) (i : Input) (old new : PlannedLane) → slice_get i.taken place ≡ None → new ≡ old → GoesOn b (spots_at place (number, i)) old new
stays b place number i old new none same =
    subst (λ (spots : List Spot). GoesOn b spots old new) (sym (spots-one place number i None none))
    (record {
      more = [];
      links = ap (λ (l : PlannedLane). l.spec.links) same ∙ sym (append-nil old.spec.links);
      are = tt;
      inputs = ap (λ (l : PlannedLane). l.inputs) same ∙ sym (append-nil old.inputs);
      rule = ap (λ (l : PlannedLane). l.cues) same;
    })

-- One more input continues the output track.
pub behind-more : (place number : ℕ) (inputs : List Input) (k : ℕ) (i : Input) → k < length inputs → i ≡ get_or inputs k i
    → spots_behind place number (take (k + 1) inputs) ≡ spots_behind place number (take k inputs) ++ spots_at place (number + k, i)
behind-more place number inputs k i inside is =
    let as_many : number + length (take k inputs) ≡ number + k = simp length-take (omega arith) in
    ap (λ l. at_place place (map spots_in l))
    (ap (enumerate_from number) (take-next inputs k i inside is) ∙ enumerate-push number (take k inputs) i ∙ ap (λ m. enumerate_from number (take k inputs) ++ (m, i) ∷ []) as_many)
    ∙ ap (at_place place) (map_push spots_in (enumerate_from number (take k inputs)) (number + k, i))
    ∙ flat_map-append (λ (row : List Spot). option_to_list (slice_get row place)) (map spots_in (enumerate_from number (take k inputs))) (spots_in (number + k, i) ∷ [])
    ∙ ap (λ l. spots_behind place number (take k inputs) ++ l) (append-nil (spots_at place (number + k, i)))

-- ---- output tracks in sequence

-- The output tracks `lanes`, followed by output tracks of `left`, are the output tracks of `all`. If `b`, damage doesn't end them.
abbrev pub GoOn : Bool → List (List Spot) → List PlannedLane → List (List Spot) → Type 0
GoOn b left lanes all = (rest : List PlannedLane) → AllZip (IsLaneOf b) left rest → AllZip (IsLaneOf b) all (lanes ++ rest)

pub lane-next : (b : Bool) (spots : List Spot) (left all : List (List Spot)) (lanes new : List PlannedLane) (lane : PlannedLane) → GoOn b (spots ∷ left) lanes all → IsLaneOf b spots lane → new ≡ lanes ++ lane ∷ [] → GoOn b left new all
lane-next b spots left all lanes new lane so_far one put = λ rest are.
    subst (λ (l : List PlannedLane). AllZip (IsLaneOf b) all l) (sym (ap (λ l. l ++ rest) put ∙ append_assoc lanes (lane ∷ []) rest)) (so_far (lane ∷ rest) (one, are))

pub lanes-done : (b : Bool) (all : List (List Spot)) (lanes : List PlannedLane) → GoOn b [] lanes all → AllZip (IsLaneOf b) all lanes
lanes-done b all lanes so_far = subst (AllZip (IsLaneOf b) all) (append-nil lanes) (so_far [] tt)

pub left-same : (b : Bool) (left other all : List (List Spot)) (lanes : List PlannedLane) → left ≡ other → GoOn b left lanes all → GoOn b other lanes all
left-same b left other all lanes same so_far = subst (λ (l : List (List Spot)). GoOn b l lanes all) same so_far

-- ---- the output tracks of an input

-- the output tracks that an input begins from index `place` on, and the ones of the inputs after it
abbrev pub left_at : List Input → ℕ → Input → List TakenTrack → List Input → ℕ → List (List Spot)
left_at inputs number i taken behind place =
    columns_from place (drop place (map (spot number i) taken)) (map spots_in (enumerate_from (number + 1) behind)) ++ spots_from (number + 1) (drop (number + 1) inputs)

-- This is the first of them.
pub place-next : (inputs : List Input) (number : ℕ) (i : Input) (taken : List TakenTrack) (behind : List Input) (place : ℕ) (t : TakenTrack) → place < length taken → t ≡ get_or taken place t
    → left_at inputs number i taken behind place ≡ (spot number i t ∷ spots_behind place (number + 1) behind) ∷ left_at inputs number i taken behind (place + 1)
place-next inputs number i taken behind place t inside is =
    let long : length (map (spot number i) taken) ≡ length taken = length-map taken (spot number i) in
    let at : spot number i t ≡ get_or (map (spot number i) taken) place (spot number i t) = ap (spot number i) is ∙ sym (get_or-map (spot number i) taken place t (spot number i t) inside) in
    ap (λ row. columns_from place row (map spots_in (enumerate_from (number + 1) behind)) ++ spots_from (number + 1) (drop (number + 1) inputs))
    (drop-next (map (spot number i) taken) place (spot number i t) (omega arith) at)

-- An input that isn't appended begins output tracks.
pub input-next : (inputs : List Input) (number : ℕ) (i : Input) (taken : List TakenTrack) (behind : List Input) → number < length inputs → i ≡ get_or inputs number i → taken ≡ tracks_begun (read_in i)
    → behind ≡ take_while goes_on (drop (number + 1) inputs) → spots_from number (drop number inputs) ≡ left_at inputs number i taken behind 0
input-next inputs number i taken behind inside is begun are =
    ap (spots_from number) (drop-next inputs number i inside is)
    ∙ ap (λ l. l ++ spots_from (number + 1) rest) (of (goes_on i))
    ∙ ap₂ (λ ts bs. columns_from 0 (map (spot number i) ts) (map spots_in (enumerate_from (number + 1) bs)) ++ spots_from (number + 1) rest) (sym begun) (sym are)
  where
    rest : List Input
    rest = drop (number + 1) inputs

    of : (b : Bool) → (if b then [] else columns_from 0 (spots_in (number, i)) (map spots_in (take_while (λ (each : ℕ × Input). goes_on each.1) (enumerate_from (number + 1) rest))))
        ≡ columns_from 0 (map (spot number i) (if b then [] else i.taken)) (map spots_in (enumerate_from (number + 1) (take_while goes_on rest)))
    of true = refl
    of false = ap (λ l. columns_from 0 (spots_in (number, i)) (map spots_in l)) (while-enumerate goes_on (number + 1) rest)

-- ---- the tracks of an input

pub item-taken : (inputs : List Input) (number : ℕ) (i : Input) (taken : List TakenTrack) (k : ℕ) (t : TakenTrack) → All HasTaken inputs → number < length inputs → i ≡ get_or inputs number i → taken ≡ tracks_begun (read_in i) → k < length taken → t ≡ get_or taken k t → IsTaken t
item-taken inputs number i taken k t all inside is are within at =
    let one : HasTaken i = subst HasTaken (sym is) (all number i inside) in
    let each : All IsTaken taken = subst (All IsTaken) (sym are) (begun-taken i one) in
    subst IsTaken (sym at) (each k t within)

-- The tracks of the appended inputs after it can be taken, too.
pub behind-taken : (inputs behind : List Input) (n : ℕ) → All HasTaken inputs → behind ≡ take_while goes_on (drop n inputs) → All HasTaken behind
behind-taken inputs behind n all are = subst (All HasTaken) (sym are) (All-take HasTaken _ (drop n inputs) (All-drop HasTaken n inputs all))

-- ---- drivers

-- The statement whether keyframes allow a cut changes no other part of an output track.
pub lanes-driven : (b : Bool) (videos : List Bool) (k : ℕ) (spots : List (List Spot)) (lanes : List PlannedLane) → AllZip (IsLaneOf b) spots lanes → AllZip (IsLaneOf b) spots (driven_from videos k lanes)
lanes-driven b videos k [] [] are = tt
lanes-driven b videos k [] (lane ∷ lanes) are = absurd are
lanes-driven b videos k (spots ∷ rest) [] are = absurd are
lanes-driven b videos k (spots ∷ rest) (lane ∷ lanes) are = (record { links = are.0.links; inputs = are.0.inputs; rule = are.0.rule }, lanes-driven b videos (k + 1) rest lanes are.1)

pub driven-drives : (videos : List Bool) (k : ℕ) (lanes : List PlannedLane) → drivers_of (driven_from videos k lanes) ≡ map (is_driver videos) (range_with_len k (length lanes))
driven-drives videos k [] = refl
driven-drives videos k (lane ∷ lanes) = ap (λ l. is_driver videos k ∷ l) (driven-drives videos (k + 1) lanes)

pub driven-length : (videos : List Bool) (k : ℕ) (lanes : List PlannedLane) → length (driven_from videos k lanes) ≡ length lanes
driven-length videos k [] = refl
driven-length videos k (lane ∷ lanes) = ap suc (driven-length videos (k + 1) lanes)
