-- The Targets of Tags in a merge whose `--track-order` names the tracks as they are.
use Rattle.std.proofs.Common.{◌≡◌, ◌<◌, ℕ, ◌+◌, ◌==◌, Bool, true, false, if◌then◌else◌, List, [], ◌∷◌, ◌++◌, length, map, take, Option, None, Some, refl, sym, ap, ap₂, subst, ◌∙◌, arith, append_assoc, append-nil, is_some, eqb-true}
use Rattle.std.specs.List.{All, zip}
use Rattle.std.specs.Option.{option_map, option_or}
use Rattle.std.proofs.lemmas.Bool.Decides.{nat_tests}
use Rattle.std.proofs.lemmas.List.{length-map}
use Rattle.std.proofs.lemmas.List.Elements.{All-append, All-cons, All-head, All-nil, All-tail, All-weaker}
use Rattle.mkv_schema.specs.declared.ids.TheConstants.{TRACK_ENTRY}
use Rattle.requests.specs.declared.merge.AttachedWords.{AttachedWords}
use Rattle.merge_inputs.specs.Input.{InputRead}
use Rattle.merge_inputs.specs.declared.taken.TakenTrack.{TakenTrack}
use Rattle.output_records.specs.declared.inputs.InputRecords.{InputRecords}
use Rattle.merge_plan.specs.Appending.{difference_at, differing, differs_at, differs_from, first_differing, lane_tracks}
use Rattle.merge_plan.specs.Attached.{attached_sources}
use Rattle.merge_plan.specs.Front.{reads_of}
use Rattle.merge_plan.specs.Order.{picked}
use Rattle.merge_plan.specs.Places.{begun_at, end_of, in_place_from}
use Rattle.merge_plan.specs.Plan.{Source}
use Rattle.merge_plan.specs.Records.{LaneUids, is_appended, is_begun_by, kept_anywhere, key_of, keys_from, lanes_with, owner_at, own_keys, records_from, records_in, track_uids_at, tracks_begun, uid_of, uids_at}
use Rattle.merge_laws.proofs.FrontLemmas.{AreApart, Keys, in_order-front, in_order-some}
use Rattle.merge_laws.proofs.OrderLemmas.{IsFrom, keys-from}

-- ---- the keys of one input's tracks

picked-append : (test : ℕ × ℕ → Bool) (ks ls : Keys) → picked test (ks ++ ls) (ks ++ ls) ≡ picked test ks ks ++ picked test ls ls
picked-append test [] ls = refl
picked-append test (k ∷ ks) ls = of (test k) (picked-append test ks ls)
  where
    of : (b : Bool) → picked test (ks ++ ls) (ks ++ ls) ≡ picked test ks ks ++ picked test ls ls
        → (if b then k ∷ picked test (ks ++ ls) (ks ++ ls) else picked test (ks ++ ls) (ks ++ ls)) ≡ (if b then k ∷ picked test ks ks else picked test ks ks) ++ picked test ls ls
    of true rest = ap (λ (l : Keys). k ∷ l) rest
    of false rest = rest

-- No key of the list is one of the input number `owner`.
abbrev IsOther : ℕ → ℕ × ℕ → Type 0
IsOther owner key = (key.0 == owner) ≡ false

picked-others : (owner : ℕ) (keys : Keys) → All (IsOther owner) keys → picked (is_begun_by owner) keys keys ≡ []
picked-others owner [] other = refl
picked-others owner (k ∷ ks) other =
    ap (λ (b : Bool). if b then k ∷ picked (is_begun_by owner) ks ks else picked (is_begun_by owner) ks ks) (All-head (IsOther owner) k ks other)
    ∙ picked-others owner ks (All-tail (IsOther owner) k ks other)

picked-own : (owner : ℕ) (ts : List TakenTrack) → picked (is_begun_by owner) (map (key_of owner) ts) (map (key_of owner) ts) ≡ map (key_of owner) ts
picked-own owner [] = refl
picked-own owner (t ∷ ts) =
    let same : (owner == owner) ≡ true = grind (arith, nat_tests) in
    ap (λ (b : Bool). if b then key_of owner t ∷ picked (is_begun_by owner) (map (key_of owner) ts) (map (key_of owner) ts) else picked (is_begun_by owner) (map (key_of owner) ts) (map (key_of owner) ts)) same
    ∙ ap (λ (l : Keys). key_of owner t ∷ l) (picked-own owner ts)

-- The key is one of an input before the number `number`.
abbrev pub IsBelow : ℕ → ℕ × ℕ → Type 0
IsBelow number key = key.0 < number

below-others : (number : ℕ) (keys : Keys) → All (IsBelow number) keys → All (IsOther number) keys
below-others number keys below = All-weaker (IsBelow number) (IsOther number) (λ key less. grind (arith, nat_tests)) keys below

from-others : (owner number : ℕ) (keys : Keys) → owner < number → All (IsFrom number) keys → All (IsOther owner) keys
from-others owner number keys less from = All-weaker (IsFrom number) (IsOther owner) (λ key later. grind (arith, nat_tests)) keys from

-- An input has as many keys as it begins output tracks.
own-count : (number : ℕ) (done : Keys) (i : InputRead) (is : List InputRead) → All (IsBelow number) done
    → length (picked (is_begun_by number) (done ++ keys_from number (i ∷ is)) (done ++ keys_from number (i ∷ is))) ≡ length (tracks_begun i)
own-count number done i is below =
    let own : Keys = map (key_of number) (tracks_begun i) in
    let rest : Keys = keys_from (number + 1) is in
    ap length
    (picked-append (is_begun_by number) done (own ++ rest)
    ∙ ap₂ (λ (a b : Keys). a ++ b) (picked-others number done (below-others number done below))
    (picked-append (is_begun_by number) own rest ∙ ap₂ (λ (a b : Keys). a ++ b) (picked-own number (tracks_begun i)) (picked-others number rest (from-others number (number + 1) rest (omega arith) (keys-from (number + 1) is)))
    ∙ append-nil own))
    ∙ length-map (tracks_begun i) (key_of number)

-- ---- appended inputs have as many tracks

-- Each appended input of the list has as many selected tracks as the input that it continues; the one before the list has `tracks`.
abbrev pub AreChained : ℕ → List InputRead → Type 0
AreChained tracks [] = Unit {0}
AreChained tracks (i ∷ is) = (is_appended i ≡ true → tracks ≡ length i.taken) × AreChained (if is_appended i then tracks else length i.taken) is

pub either : {A : Type 0} (a b : Option A) → option_or a b ≡ None → (a ≡ None) × (b ≡ None)
either None b none = (refl, none)
either (Some x) b none = absurd (cc)

pub unmapped : {A B : Type 0} (f : A → B) (o : Option A) → option_map f o ≡ None → o ≡ None
unmapped f None none = refl
unmapped f (Some x) none = absurd (cc)

pub chained : (before : List TakenTrack) (n : ℕ) (reads : List InputRead) → differs_from before n reads ≡ None → AreChained (length before) reads
chained before n [] none = tt
chained before n (i ∷ is) none =
    let parts = either (option_map (differs_at n) (difference_at before i)) (differs_from (lane_tracks before i) (n + 1) is) none in
    let here : difference_at before i ≡ None = unmapped (differs_at n) (difference_at before i) parts.0 in
    let rest = chained (lane_tracks before i) (n + 1) is parts.1 in
    (λ appended. many (ap (λ (b : Bool). if b then differing before i.taken else None) (sym appended) ∙ here), subst (λ (k : ℕ). AreChained k is) (lanes (is_appended i)) rest)
  where
    many : differing before i.taken ≡ None → length before ≡ length i.taken
    many same = of (length before == length i.taken) refl same
      where
        of : (b : Bool) → (length before == length i.taken) ≡ b → (if b then first_differing before i.taken else Some TRACK_ENTRY) ≡ None → length before ≡ length i.taken
        of true equal same = eqb-true (length before) (length i.taken) equal
        of false equal same = absurd (cc)

    lanes : (b : Bool) → length (if b then before else i.taken) ≡ (if b then length before else length i.taken)
    lanes true = refl
    lanes false = refl

-- The sources of a merge are so, if its inputs are.
same-appended : (time : ℕ) (i : InputRead) → is_some (option_map (λ (t : ℕ). time) i.shift) ≡ is_some i.shift
same-appended time i = of i.shift
  where
    of : (o : Option ℕ) → is_some (option_map (λ (t : ℕ). time) o) ≡ is_some o
    of None = refl
    of (Some t) = refl

placed-chained : (tracks time : ℕ) (contents : List (List ℕ)) (reads : List InputRead) → AreChained tracks reads → AreChained tracks (reads_of (in_place_from time (zip contents reads)))
placed-chained tracks time [] reads are = tt
placed-chained tracks time (c ∷ cs) [] are = tt
placed-chained tracks time (c ∷ cs) (i ∷ is) are =
    subst (λ (b : Bool). (b ≡ true → tracks ≡ length i.taken) × AreChained (if b then tracks else length i.taken) (reads_of (in_place_from (end_of (begun_at time (c, i))) (zip cs is)))) (sym (same-appended time i))
    (are.0, placed-chained (if is_appended i then tracks else length i.taken) (end_of (begun_at time (c, i))) cs is are.1)

-- Files that the merge attaches aren't appended.
attached-chained : (tracks : ℕ) (webm : Bool) (attached : List AttachedWords) (contents : List (List ℕ)) → AreChained tracks (reads_of (attached_sources webm attached contents))
attached-chained tracks webm [] contents = tt
attached-chained tracks webm (w ∷ ws) [] = tt
attached-chained tracks webm (w ∷ ws) (c ∷ cs) = (λ appended. absurd (cc), attached-chained 0 webm ws cs)

append-chained : (tracks : ℕ) (own more : List Source) → AreChained tracks (reads_of own) → ((k : ℕ) → AreChained k (reads_of more)) → AreChained tracks (reads_of (own ++ more))
append-chained tracks [] more are rest = rest tracks
append-chained tracks (s ∷ ss) more are rest = (are.0, append-chained (if is_appended s.1 then tracks else length s.1.taken) ss more are.1 rest)

pub sources-chained : (tracks : ℕ) (contents : List (List ℕ)) (reads : List InputRead) (webm : Bool) (attached : List AttachedWords) (bytes : List (List ℕ)) → AreChained tracks reads
    → AreChained tracks (reads_of (in_place_from 0 (zip contents reads) ++ attached_sources webm attached bytes))
sources-chained tracks contents reads webm attached bytes are =
    append-chained tracks (in_place_from 0 (zip contents reads)) (attached_sources webm attached bytes) (placed-chained tracks 0 contents reads are) (λ k. attached-chained k webm attached bytes)

-- ---- the records of inputs

-- The first input of the list is appended.
abbrev pub BeginsAppended : List InputRead → Type 0
BeginsAppended [] = ⊥
BeginsAppended (i ∷ is) = is_appended i ≡ true

-- It begins no output track, so nor does input number 0.
pub none-begun : (reads : List InputRead) → BeginsAppended reads → length (picked (is_begun_by 0) (keys_from 0 reads) (keys_from 0 reads)) ≡ 0
none-begun [] appended = absurd appended
none-begun (i ∷ is) appended = own-count 0 [] i is (All-nil (IsBelow 0)) ∙ ap (λ (b : Bool). length (if b then [] else i.taken)) appended

module _ (keys : Keys) (n : ℕ) (apart : AreApart keys) (uids : List ℕ) where
  -- the output tracks in the order of the command line; below, in their own order
  abbrev pub ordered_lanes : LaneUids
  ordered_lanes = lanes_with (take n keys) keys uids

  abbrev pub own_lanes : LaneUids
  own_lanes = lanes_with [] keys uids

  same-record : (i : InputRead) (owner : ℕ) → length (own_keys own_lanes owner) ≡ length i.taken
      → records_in (track_uids_at ordered_lanes owner i) (uids_at ordered_lanes owner) (kept_anywhere i) ≡ records_in (track_uids_at own_lanes owner i) (uids_at own_lanes owner) (kept_anywhere i)
  same-record i owner many =
      ap₂ (λ (own numbers : List ℕ). records_in own numbers (kept_anywhere i))
      (in_order-some n (is_begun_by owner) keys (map uid_of i.taken) apart (many ∙ sym (length-map i.taken uid_of)))
      (ap (λ (ks : Keys). picked (is_begun_by owner) ks uids) (in_order-front n keys keys apart refl))

  pub records-same : (done : Keys) (before number tracks : ℕ) (reads : List InputRead) → keys ≡ done ++ keys_from number reads → All (IsBelow number) done
      → (BeginsAppended reads → length (own_keys own_lanes before) ≡ tracks) → AreChained tracks reads
      → records_from ordered_lanes before number (map kept_anywhere reads) ≡ records_from own_lanes before number (map kept_anywhere reads)
  records-same done before number tracks [] are below first chain = refl
  records-same done before number tracks (i ∷ is) are below first chain =
      let owner : ℕ = owner_at before number i in
      let begun : Keys = map (key_of number) (tracks_begun i) in
      let own : length (own_keys own_lanes number) ≡ length (tracks_begun i) = ap (λ (ks : Keys). length (picked (is_begun_by number) ks ks)) are ∙ own-count number done i is below in
      let both = each (is_appended i) refl own in
      ap₂ (λ (r : InputRecords) (rs : List InputRecords). r ∷ rs) (same-record i owner both.0)
      (records-same (done ++ begun) owner (number + 1) (if is_appended i then tracks else length i.taken) is
      (are ∙ sym (append_assoc done begun (keys_from (number + 1) is)))
      (All-append (IsBelow (number + 1)) done begun (All-weaker (IsBelow number) (IsBelow (number + 1)) (λ key less. omega arith) done below) (begun-below (tracks_begun i)))
      (λ appended. both.1) chain.1)
    where
      each : (b : Bool) → is_appended i ≡ b → length (own_keys own_lanes number) ≡ length (if b then [] else i.taken)
          → (length (own_keys own_lanes (if b then before else number)) ≡ length i.taken) × (length (own_keys own_lanes (if b then before else number)) ≡ (if b then tracks else length i.taken))
      each true is own = (first is ∙ chain.0 is, first is)
      each false is own = (own, own)

      begun-below : (ts : List TakenTrack) → All (IsBelow (number + 1)) (map (key_of number) ts)
      begun-below [] = All-nil (IsBelow (number + 1))
      begun-below (t ∷ ts) = All-cons (IsBelow (number + 1)) (key_of number t) (map (key_of number) ts) (omega arith) (begun-below ts)
