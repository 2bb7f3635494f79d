-- The damaged places of inputs, as the output tracks of a merge have reported them.
use Rattle.std.proofs.Common.{◌≡◌, ◌<◌, ℕ, ◌+◌, List, [], ◌∷◌, length, drop, get_or, Option, Some, None, Bor, ◌++◌, is_some, true, false, option_map, refl, sym, ◌∙◌, ap, ap₂, append-nil, arith}
use Rattle.std.specs.List.{flat_map, range_with_len, slice_get}
use Rattle.std.specs.Option.{option_copied, option_or, unwrap_or}
use Rattle.std.proofs.lemmas.List.{drop_more, map-id}
use Rattle.std.proofs.lemmas.List.Concat.{flat_map-append}
use Rattle.std.proofs.lemmas.List.FromFn.{map-range_with_len_more}
use Rattle.std.proofs.lemmas.Option.{get_or_from_slice_get, slice_get-map, slice_get_within}
use Rattle.cluster_reader.specs.ToldDamages.{ToldDamages, told_damages}
use Rattle.remux_plan.specs.Summary.{first_damages, more_damages}
use Rattle.remux_plan.specs.declared.summary.Summary.{Summary}
use Rattle.lanes.specs.Lane.{LaneSeen}
use Rattle.time_merge.specs.Merge.{MergeSeen}
use Rattle.time_merge.specs.declared.queue.Queue.{Queue}
use Rattle.remuxer.specs.Taking.{told_by}
use Rattle.remuxer.specs.Told.{AddsDamages, HasDamages, damages_told, told_at, told_of}

-- ---- output tracks in sequence

map-twice : {A B C : Type 0} (g : B → C) (h : A → B) (o : Option A) → option_map g (option_map h o) ≡ option_map (λ x. g (h x)) o
map-twice g h None = refl
map-twice g h (Some x) = refl

-- The report of the output track `k` is at this index.
told-here : (m : MergeSeen) (k : ℕ) (l : LaneSeen) → option_map (λ (q : Queue). q.lane) (slice_get m.queues k) ≡ Some l → slice_get (told_by m) k ≡ Some l.walk.told.items
told-here m k l is =
    slice_get-map (λ (q : Queue). q.lane.walk.told.items) m.queues k
    ∙ sym (map-twice (λ (each : LaneSeen). each.walk.told.items) (λ (q : Queue). q.lane) (slice_get m.queues k))
    ∙ ap (option_map (λ (each : LaneSeen). each.walk.told.items)) is

-- The output tracks from `k` on begin with this one.
pub told-step : (inputs : List (List ℕ)) (m : MergeSeen) (k input : ℕ) (numbers : List ℕ) (l : LaneSeen) → k < length inputs → numbers ≡ get_or inputs k numbers → option_map (λ (q : Queue). q.lane) (slice_get m.queues k) ≡ Some l
    → told_of (drop k inputs) (drop k (told_by m)) input ≡ option_or (told_at numbers l.walk.told.items input) (told_of (drop (k + 1) inputs) (drop (k + 1) (told_by m)) input)
told-step inputs m k input numbers l inside here lane =
    let told = l.walk.told.items in
    let at = told-here m k l lane in
    ap₂ (λ (is : List (List ℕ)) (ts : List (List ToldDamages)). told_of is ts input)
    (drop_more inputs k numbers inside ∙ ap (λ (x : List ℕ). x ∷ drop (k + 1) inputs) (sym here))
    (drop_more (told_by m) k told (slice_get_within (told_by m) k told at) ∙ ap (λ (x : List ToldDamages). x ∷ drop (k + 1) (told_by m)) (get_or_from_slice_get (told_by m) k told told at))

-- The output track has a report of the input.
pub first-found : {T : Type 0} (o : Option (Bor T)) (p rest : Option T) → is_some o ≡ true → option_copied o ≡ p → option_copied o ≡ option_or p rest
first-found None p rest found is = absurd (cc)
first-found (Some x) p rest found is = ap (λ each. option_or each rest) is

-- The output track has no report of the input.
pub none-found : {T : Type 0} (o : Option (Bor T)) (p rest : Option T) → is_some o ≡ false → option_copied o ≡ p → option_or p rest ≡ rest
none-found None p rest none is = ap (λ each. option_or each rest) (sym is)
none-found (Some x) p rest none is = absurd (cc)

-- ---- the damaged places of one more input

range-next : {A : Type 0} (g : ℕ → List A) (n : ℕ) → flat_map g (range_with_len 0 n) ++ g n ≡ flat_map g (range_with_len 0 (n + 1))
range-next g n =
    let step : range_with_len 0 (n + 1) ≡ range_with_len 0 n ++ n ∷ [] = sym (map-id (range_with_len 0 (n + 1))) ∙ map-range_with_len_more (λ k. k) 0 n n (omega arith) ∙ ap (λ ns. ns ++ n ∷ []) (map-id (range_with_len 0 n)) in
    sym (ap (flat_map g) step ∙ flat_map-append g (range_with_len 0 n) (n ∷ []) ∙ ap (λ ys. flat_map g (range_with_len 0 n) ++ ys) (append-nil (g n)))

module _ (lanes : List (List ℕ)) (tolds : List (List ToldDamages)) (input : ℕ) (old new : Summary) (before : HasDamages lanes tolds (range_with_len 0 input) old) where
  pub damages-next : (told : ToldDamages) → told_of lanes tolds input ≡ Some told → AddsDamages input told old new → HasDamages lanes tolds (range_with_len 0 (input + 1)) new
  damages-next told is adds = record {
    damages = adds.damages ∙ ap (λ ds. ds ++ first_damages input told) before.damages
        ∙ ap (λ t. flat_map (λ n. first_damages n (damages_told lanes tolds n)) (range_with_len 0 input) ++ first_damages input t) (sym (ap (λ o. unwrap_or o (told_damages [])) is))
        ∙ range-next (λ n. first_damages n (damages_told lanes tolds n)) input;
    more = adds.more ∙ ap (λ ds. ds ++ more_damages input told) before.more
        ∙ ap (λ t. flat_map (λ n. more_damages n (damages_told lanes tolds n)) (range_with_len 0 input) ++ more_damages input t) (sym (ap (λ o. unwrap_or o (told_damages [])) is))
        ∙ range-next (λ n. more_damages n (damages_told lanes tolds n)) input;
  }

  pub damages-none : told_of lanes tolds input ≡ None → new ≡ old → HasDamages lanes tolds (range_with_len 0 (input + 1)) new
  damages-none none same = record {
    damages = ap (λ (s : Summary). s.damages) same ∙ before.damages ∙ sym (append-nil (flat_map (λ n. first_damages n (damages_told lanes tolds n)) (range_with_len 0 input)))
        ∙ ap (λ t. flat_map (λ n. first_damages n (damages_told lanes tolds n)) (range_with_len 0 input) ++ first_damages input t) (sym (ap (λ o. unwrap_or o (told_damages [])) none))
        ∙ range-next (λ n. first_damages n (damages_told lanes tolds n)) input;
    more = ap (λ (s : Summary). s.more) same ∙ before.more ∙ sym (append-nil (flat_map (λ n. more_damages n (damages_told lanes tolds n)) (range_with_len 0 input)))
        ∙ ap (λ t. flat_map (λ n. more_damages n (damages_told lanes tolds n)) (range_with_len 0 input) ++ more_damages input t) (sym (ap (λ o. unwrap_or o (told_damages [])) none))
        ∙ range-next (λ n. more_damages n (damages_told lanes tolds n)) input;
  }
