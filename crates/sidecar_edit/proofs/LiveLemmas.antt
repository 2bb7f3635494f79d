-- The fields of a pending journal's first bytes, by its rules.
use Rattle.std.proofs.Common.{◌≡◌, ℕ, zero, suc, ◌+◌, ◌<◌, ◌≤◌, ◌^◌, min, max, Bool, true, false, ◌&&◌, ◌||◌, ◌==◌, nat_le, List, [], ◌∷◌, length, take, drop, get_or, slice_index, refl, ap, subst, arith, Option, None, Some}
use Rattle.std.proofs.lemmas.Bool.{and_parts, cond-false, cond-true, and_from, eqb-true, le-leb, leb-true, ne_eqb}
use Rattle.std.proofs.lemmas.List.{get_or-drop}
use Rattle.byteorder.specs.Numbers.{big_from-lt}
use Rattle.sidecar_edit.specs.declared.place.Place.{Place}
use Rattle.sidecar_edit.specs.declared.place.TheConstants.{HEAD, HEAD_1, MAX_OCTETS}
use Rattle.sidecar_edit.specs.declared.held.Gate.TheVariants.{Live}
use Rattle.sidecar_edit.specs.Fields.{count_in, head_len, last_end, new_len_in, no_place, number_at, old_len_in, place_in, places_in, sum_of, total_in, used_in, version_in}
use Rattle.sidecar_edit.specs.Gate.{IsLiveHead, gate_of, is_joined, is_new_len, old_len_of, place_rules}
use Rattle.sidecar_edit.proofs.FitLemmas.{IsLive, live-is}
use Rattle.sidecar_edit.proofs.ReadingLemmas.{place-is}
use Rattle.sidecar_edit.proofs.RecordLemmas.{AreKept}

-- The used places end in order.
ends_grow : (old : Option ℕ) (octet n from : ℕ) (ps : List Place) → AreKept (place_rules old octet n from ps) → from ≤ last_end from (take n ps)
ends_grow old octet zero from ps kept = omega arith
ends_grow old octet (suc n) from [] kept = omega arith
ends_grow old octet (suc n) from (p ∷ ps) kept =
    let both = and_parts (nat_le 1 p.len && nat_le from p.at) (is_joined old from p) kept.0 in
    let low = leb-true from p.at (and_parts (nat_le 1 p.len) (nat_le from p.at) both.0).1 in
    let more = ends_grow old (octet + 16) n (p.at + p.len) ps kept.1 in
    omega arith

ends_within : (old : Option ℕ) (octet n from k : ℕ) (ps : List Place) (d : Place) → AreKept (place_rules old octet n from ps) → k < n → k < length ps → (get_or ps k d).at + (get_or ps k d).len ≤ last_end from (take n ps)
ends_within old octet zero from k ps d kept used inside = absurd (omega arith)
ends_within old octet (suc n) from k [] d kept used inside = absurd (omega arith)
ends_within old octet (suc n) from zero (p ∷ ps) d kept used inside = ends_grow old (octet + 16) n (p.at + p.len) ps kept.1
ends_within old octet (suc n) from (suc k) (p ∷ ps) d kept used inside = ends_within old (octet + 16) n (p.at + p.len) k ps d kept.1 (omega arith) (omega arith)

-- A number of eight bytes is below 2^64.
number_below : (s : List ℕ) (at : ℕ) → ((k : ℕ) → slice_index s k < 256) → number_at s at < 2 ^ 64
unfolding number_at
number_below s at octets =
    let below = big_from-lt 0 8 (drop at s) (λ k. let is = get_or-drop at s k 0 in let octet = octets (at + k) in omega (arith, is, octet)) in
    omega (arith, below)

module _ (h : List ℕ) (n : ℕ) (octets : (k : ℕ) → slice_index h k < 256) (is : length h ≡ min HEAD n) (live : IsLive h n) where
  few : count_in h ≤ 8
  few = leb-true (count_in h) 8 (and_parts (nat_le 1 (count_in h)) (nat_le (count_in h) 8) live.count).1

  sums : (nat_le (sum_of (used_in h)) MAX_OCTETS ≡ true) × ((total_in h == head_len (version_in h) + sum_of (used_in h)) ≡ true)
  sums = and_parts (nat_le (sum_of (used_in h)) MAX_OCTETS) (total_in h == head_len (version_in h) + sum_of (used_in h)) live.total

  room : head_len (version_in h) + sum_of (used_in h) ≤ n
  room = let total = eqb-true (total_in h) (head_len (version_in h) + sum_of (used_in h)) sums.1 in let whole = live.whole in omega arith

  whole : (version_in h == 1) ≡ false → length h ≡ HEAD
  whole second = let len : head_len (version_in h) ≡ HEAD = cond-false (version_in h == 1) HEAD_1 HEAD second in let fits = room in omega arith

  -- The last write ends at the new length or before.
  end-within : (b : Bool) → (version_in h == 1) ≡ b → last_end 0 (used_in h) ≤ new_len_in h
  end-within true first = by_old (old_len_of h) live.new_len
    where
      by_old : (old : Option ℕ) → is_new_len (version_in h) old (new_len_in h) (last_end 0 (used_in h)) ≡ true → last_end 0 (used_in h) ≤ new_len_in h
      by_old None kept =
          leb-true (last_end 0 (used_in h)) (new_len_in h) (subst (λ v. ((v == 2) || nat_le (last_end 0 (used_in h)) (new_len_in h)) ≡ true) (eqb-true (version_in h) 1 first) kept)
      by_old (Some old) kept = let same = eqb-true (new_len_in h) (max old (last_end 0 (used_in h))) kept in omega arith
  end-within false second =
      let size = whole second in
      let version : (version_in h == 2) ≡ true = second_true (version_in h == 1) (version_in h == 2) second live.version in
      let old : old_len_of h ≡ Some (old_len_in h) = cond-true ((version_in h == 2) && nat_le 168 (length h)) (Some (old_len_in h)) None (and_from (version_in h == 2) (nat_le 168 (length h)) version (le-leb 168 (length h) (omega arith))) in
      let same = eqb-true (new_len_in h) (max (old_len_in h) (last_end 0 (used_in h))) (subst (λ (o : Option ℕ). is_new_len (version_in h) o (new_len_in h) (last_end 0 (used_in h)) ≡ true) old live.new_len) in
      omega arith
    where
      second_true : (a b : Bool) → a ≡ false → (a || b) ≡ true → b ≡ true
      second_true true b isnt either = let bad : true ≡ false = isnt in cc
      second_true false b isnt either = either

  ends : (k : ℕ) → k < count_in h → (place_in h k).at + (place_in h k).len < 2 ^ 64
  ends k used =
      let most = few in
      let here = ends_within (old_len_of h) 32 (count_in h) 0 k (places_in h) no_place live.places used (omega arith) in
      let same = ap (λ (p : Place). p.at + p.len) (place-is h k no_place (omega arith)) in
      let end = end-within (version_in h == 1) refl in
      let below = number_below h 16 octets in
      omega arith

  pub head-of_live : IsLiveHead h n
  head-of_live = record {
    long = let long = live.long in omega arith;
    whole = λ isnt. whole (ne_eqb (version_in h) 1 isnt);
    few = few;
    small = leb-true (sum_of (used_in h)) MAX_OCTETS sums.0;
    room = room;
    ends = ends;
  }

pub live-head : (h : List ℕ) (n : ℕ) → ((k : ℕ) → slice_index h k < 256) → length h ≡ min HEAD n → gate_of h n ≡ Live → IsLiveHead h n
live-head h n octets is live = head-of_live h n octets is (live-is h n live)
