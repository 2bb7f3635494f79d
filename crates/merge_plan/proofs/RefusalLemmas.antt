-- Refusals of tracks.
use Rattle.std.proofs.Common.{◌≡◌, ◌≤◌, ◌<◌, ℕ, ◌+◌, ◌==◌, nat_lt, Bool, true, false, List, ◌∷◌, length, drop, get_or, Some, None, if◌then◌else◌, refl, sym, ap, ◌∙◌, arith}
use Rattle.std.specs.Option.{option_or}
use Rattle.std.proofs.lemmas.Bool.Decides.{nat_tests}
use Rattle.std.proofs.lemmas.List.{drop_all}
use denote.Ref.{Bor}
use Rattle.output_model.specs.declared.TheConstants.{MAX_LANES}
use Rattle.merge_inputs.specs.declared.taken.TakenTrack.{TakenTrack}
use Rattle.merge_plan.specs.Lent.{lent}
use Rattle.merge_plan.specs.Refusal.{count_refusal, is_webm_track, lanes_refusal, not_webm, other_codec, too_many_lanes, where_so}
use Rattle.merge_plan.specs.declared.refusal.PlanRefusal.{PlanRefusal}
use Rattle.merge_plan.specs.declared.refusal.PlanRefusal.TheVariants.{NoLane, TooManyLanes}
use Rattle.merge_plan.proofs.ListLemmas.{length-lent, lent-next}

-- ---- codecs

codec-first : (t : TakenTrack) (ts : List TakenTrack) (b : Bool) → is_webm_track t ≡ b → other_codec (t ∷ ts) ≡ (if b then other_codec ts else Some t.track.codec)
codec-first t ts true is = rw is refl
codec-first t ts false is = rw is refl

module _ (refs : List (Bor TakenTrack)) (k : ℕ) (r : Bor TakenTrack) (inside : k < length refs) (is : r ≡ get_or refs k r) where
  codec-next : (b : Bool) → is_webm_track r.now ≡ b → other_codec (drop k (lent refs)) ≡ (if b then other_codec (drop (k + 1) (lent refs)) else Some r.now.track.codec)
  codec-next b tells = ap other_codec (lent-next refs k r inside is) ∙ codec-first r.now (drop (k + 1) (lent refs)) b tells

  pub codec-found : is_webm_track r.now ≡ false → other_codec (drop k (lent refs)) ≡ Some r.now.track.codec
  codec-found other = codec-next false other

  pub codec-passed : is_webm_track r.now ≡ true → other_codec (drop k (lent refs)) ≡ other_codec (drop (k + 1) (lent refs))
  codec-passed own = codec-next true own

pub codec-none : (refs : List (Bor TakenTrack)) (k : ℕ) → length refs ≤ k → other_codec (drop k (lent refs)) ≡ None
codec-none refs k past = let long = length-lent refs in ap other_codec (drop_all k (lent refs) (omega arith))

-- ---- tracks as output tracks

module _ (taken : List TakenTrack) where
  pub refused-none : (length taken == 0) ≡ true → count_refusal taken ≡ Some NoLane
  refused-none none = ap (λ b. option_or (where_so b NoLane) (too_many_lanes taken)) none

  module _ (some : (length taken == 0) ≡ false) where
    past-none : count_refusal taken ≡ too_many_lanes taken
    past-none = ap (λ b. option_or (where_so b NoLane) (too_many_lanes taken)) some

    pub refused-many : MAX_LANES < length taken → count_refusal taken ≡ Some TooManyLanes
    refused-many many =
        let is : nat_lt MAX_LANES (length taken) ≡ true = grind (arith, nat_tests) in
        past-none ∙ ap (λ b. where_so b TooManyLanes) is

-- Without a refusal there are some output tracks, and not too many.
pub unrefused-few : (webm : Bool) (taken sorted : List TakenTrack) → lanes_refusal webm taken sorted ≡ None → length taken ≤ MAX_LANES
unrefused-few webm taken sorted none = of (length taken == 0) refl (nat_lt MAX_LANES (length taken)) refl
  where
    refused : (why : PlanRefusal) → count_refusal taken ≡ Some why → ⊥
    refused why is = let never = sym (ap (λ o. option_or o (not_webm webm sorted)) is) ∙ none in absurd (cc)

    of : (b : Bool) → (length taken == 0) ≡ b → (m : Bool) → nat_lt MAX_LANES (length taken) ≡ m → length taken ≤ MAX_LANES
    of true is m many = absurd (refused NoLane (refused-none taken is))
    of false is true many = absurd (refused TooManyLanes (refused-many taken is (grind (arith, nat_tests))))
    of false is false many = grind (arith, nat_tests)
