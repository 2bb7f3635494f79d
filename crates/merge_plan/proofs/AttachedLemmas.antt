-- Sources without tracks after the others change no output track.
use Rattle.std.proofs.Common.{◌≡◌, ℕ, suc, ◌+◌, Bool, false, cond, if◌then◌else◌, List, [], ◌∷◌, ◌++◌, length, get_or, map, refl, sym, ◌∙◌, ap, ap₂, arith}
use Rattle.std.specs.List.{All, enumerate_from, take_while}
use Rattle.std.proofs.lemmas.List.Elements.{All-cons, All-head, All-nil, All-tail}
use Rattle.std.proofs.lemmas.List.Sums.{take_while-cons}
use Rattle.merge_inputs.specs.Input.{InputRead}
use Rattle.merge_inputs.specs.declared.taken.TakenTrack.{TakenTrack}
use Rattle.requests.specs.declared.merge.AttachedWords.{AttachedWords}
use Rattle.merge_plan.specs.Attached.{attached_read}
use Rattle.merge_plan.specs.Chains.{columns_from, lanes_by}
use Rattle.merge_plan.specs.Order.{in_order}
use Rattle.merge_plan.specs.Plan.{inputs_given, inputs_taken, numbers_of}
use Rattle.merge_plan.specs.Records.{is_appended, key_of, keys_from, tracks_begun}
use Rattle.merge_plan.proofs.ChainLemmas.{enumerate-all}

-- The item isn't appended, and its row is empty.
pub record IsBareFor {A B : Type 0} (appended : A → Bool) (row : A → List B) (x : A) : Type 0 where
  pub alone : appended x ≡ false
  pub empty : row x ≡ []

module _ {A B : Type 0} (appended : A → Bool) (row : A → List B) where
  -- The first items that are appended are the same.
  while-bare : (xs ys : List A) → All (IsBareFor appended row) ys → take_while appended (xs ++ ys) ≡ take_while appended xs
  while-bare [] [] bare = refl
  while-bare [] (y ∷ ys) bare =
      take_while-cons appended y ys ∙ ap (λ (b : Bool). cond b (y ∷ take_while appended ys) []) (All-head (IsBareFor appended row) y ys bare).alone
  while-bare (x ∷ xs) ys bare =
      take_while-cons appended x (xs ++ ys) ∙ ap (λ (l : List A). cond (appended x) (x ∷ l) []) (while-bare xs ys bare) ∙ sym (take_while-cons appended x xs)

  -- They begin no output track.
  none-begun : (ys : List A) → All (IsBareFor appended row) ys → lanes_by appended row ys ≡ []
  none-begun [] bare = refl
  none-begun (y ∷ ys) bare =
      let own = All-head (IsBareFor appended row) y ys bare in
      let rows : List (List B) = map row (take_while appended ys) in
      ap₂ (λ (first rest : List (List B)). first ++ rest)
      (ap (λ (b : Bool). if b then [] else columns_from 0 (row y) rows) own.alone ∙ ap (λ (l : List B). columns_from 0 l rows) own.empty)
      (none-begun ys (All-tail (IsBareFor appended row) y ys bare))

  -- The output tracks are the same with them.
  pub lanes-bare : (xs ys : List A) → All (IsBareFor appended row) ys → lanes_by appended row (xs ++ ys) ≡ lanes_by appended row xs
  lanes-bare [] ys bare = none-begun ys bare
  lanes-bare (x ∷ xs) ys bare =
      ap₂ (λ (behind : List A) (rest : List (List B)). (if appended x then [] else columns_from 0 (row x) (map row behind)) ++ rest) (while-bare xs ys bare) (lanes-bare xs ys bare)

-- ---- files that are attached

pub enumerate-append : {X : Type 0} (n : ℕ) (xs ys : List X) → enumerate_from n (xs ++ ys) ≡ enumerate_from n xs ++ enumerate_from (n + length xs) ys
enumerate-append n [] ys = let same : n ≡ n + 0 = omega arith in ap (λ m. enumerate_from m ys) same
enumerate-append n (x ∷ xs) ys =
    let same : n + 1 + length xs ≡ n + suc (length xs) = omega arith in
    ap (λ l. (n, x) ∷ l) (enumerate-append (n + 1) xs ys ∙ ap (λ m. enumerate_from (n + 1) xs ++ enumerate_from m ys) same)

-- The input isn't appended, and has no tracks.
pub record IsBare (i : InputRead) : Type 0 where
  pub alone : is_appended i ≡ false
  pub empty : i.taken ≡ []

-- Attached files are such inputs.
pub attached-bare : (webm : Bool) (pairs : List (AttachedWords × ℕ)) → All IsBare (map (λ (pair : AttachedWords × ℕ). attached_read pair.0 webm pair.1) pairs)
attached-bare webm [] = All-nil IsBare
attached-bare webm (pair ∷ pairs) =
    All-cons IsBare (attached_read pair.0 webm pair.1) (map (λ (each : AttachedWords × ℕ). attached_read each.0 webm each.1) pairs) (record { alone = refl; empty = refl }) (attached-bare webm pairs)

-- They are in no output track.
pub inputs-bare : (n : ℕ) (reads bare : List InputRead) → All IsBare bare → inputs_given n (reads ++ bare) ≡ inputs_given n reads
inputs-bare n reads bare all =
    let app : ℕ × InputRead → Bool = λ (each : ℕ × InputRead). is_appended each.1 in
    ap (lanes_by app numbers_of) (enumerate-append n reads bare)
    ∙ lanes-bare app numbers_of (enumerate_from n reads) (enumerate_from (n + length reads) bare)
    (λ k d below. one (get_or (enumerate_from (n + length reads) bare) k d) (enumerate-all IsBare (n + length reads) bare all k d below))
  where
    one : (e : ℕ × InputRead) → IsBare e.1 → IsBareFor (λ (each : ℕ × InputRead). is_appended each.1) numbers_of e
    one e is = record { alone = is.alone; empty = ap (λ (taken : List TakenTrack). map (λ (t : TakenTrack). e.0) taken) is.empty }

-- They have no keys.
no-keys : (n : ℕ) (bare : List InputRead) → All IsBare bare → keys_from n bare ≡ []
no-keys n [] all = refl
no-keys n (i ∷ is) all =
    ap₂ (λ (first rest : List (ℕ × ℕ)). first ++ rest) (ap (map (key_of n)) (none i (All-head IsBare i is all))) (no-keys (n + 1) is (All-tail IsBare i is all))
  where
    none : (j : InputRead) → IsBare j → tracks_begun j ≡ []
    none j own = ap (λ (b : Bool). if b then [] else j.taken) own.alone ∙ own.empty

keys-bare : (n : ℕ) (reads bare : List InputRead) → All IsBare bare → keys_from n (reads ++ bare) ≡ keys_from n reads
keys-bare n [] bare all = no-keys n bare all
keys-bare n (i ∷ is) bare all = ap (λ (rest : List (ℕ × ℕ)). map (key_of n) (tracks_begun i) ++ rest) (keys-bare (n + 1) is bare all)

-- They are in no output track in the order of the output either.
pub taken-bare : (order : List (ℕ × ℕ)) (reads bare : List InputRead) → All IsBare bare → inputs_taken order (reads ++ bare) ≡ inputs_taken order reads
taken-bare order reads bare all =
    ap₂ (λ (keys : List (ℕ × ℕ)) (numbers : List (List ℕ)). in_order order keys numbers) (keys-bare 0 reads bare all) (inputs-bare 0 reads bare all)
