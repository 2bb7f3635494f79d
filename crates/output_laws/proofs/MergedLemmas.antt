-- The tracks of a merged list are the output tracks that were merged.
use Rattle.std.proofs.Common.{◌≡◌, ℕ, suc, ◌+◌, ◌<◌, ◌≤◌, ◌==◌, nat_lt, max, Bool, true, false, cond, if◌then◌else◌, List, [], ◌∷◌, ◌++◌, length, map, filter, All, append-nil, append_assoc, refl, sym, ap, ap₂, ◌∙◌, arith}
use Rattle.std.specs.Prelude.{⊤}
use Rattle.std.proofs.lemmas.Bool.{cond-false, le-ltb, ltb-true, eq-eqb, ne_eqb}
use Rattle.std.proofs.lemmas.Bool.Decides.{nat_tests}
use Rattle.std.proofs.lemmas.List.Elements.{All-nil, All-cons, All-head, All-tail, All-append, All-weaker, filter-append}
use Rattle.output_model.specs.OutputBlock.{OutputBlock}
use Rattle.merge_model.specs.Merged.{Ordered, ordered_from, ordered, in_lane, ordered_in, numbered, lanes_joined, order_of, sorted, blocks_in, merged}
use Rattle.mkv_io.specs.Sorted.{insert_by}
use Rattle.output_laws.specs.Lanes.{lane_of, lanes_from, in_lanes}

-- ---- lists whose order numbers rise

-- No order number is below `m`.
abbrev pub AtLeast : ℕ → List Ordered → Type 0
AtLeast m [] = ⊤
AtLeast m (x ∷ xs) = (m ≤ x.order) × AtLeast m xs

abbrev pub Rises : List Ordered → Type 0
Rises [] = ⊤
Rises (x ∷ xs) = AtLeast x.order xs × Rises xs

pub at_least-less : (m n : ℕ) (xs : List Ordered) → m ≤ n → AtLeast n xs → AtLeast m xs
at_least-less m n [] less above = tt
at_least-less m n (x ∷ xs) less above = let here = above.0 in (omega arith, at_least-less m n xs less above.1)

-- A block that isn't above the others comes before them.
insert-front : (x : Ordered) (xs : List Ordered) → AtLeast x.order xs → insert_by order_of x xs ≡ x ∷ xs
insert-front x [] above = refl
insert-front x (y ∷ ys) above = cond-false (nat_lt y.order x.order) (y ∷ insert_by order_of x ys) (x ∷ (y ∷ ys)) (le-ltb _ _ above.0)

insert-at_least : (m : ℕ) (x : Ordered) (xs : List Ordered) → m ≤ x.order → AtLeast m xs → AtLeast m (insert_by order_of x xs)
insert-at_least m x [] own above = (own, tt)
insert-at_least m x (y ∷ ys) own above = split (insert-at_least m x ys own above.1) (nat_lt y.order x.order)
  where
    split : AtLeast m (insert_by order_of x ys) → (t : Bool) → AtLeast m (if t then y ∷ insert_by order_of x ys else x ∷ (y ∷ ys))
    split rest true = (above.0, rest)
    split rest false = (own, above)

insert-rises : (x : Ordered) (xs : List Ordered) → Rises xs → Rises (insert_by order_of x xs)
insert-rises x [] rises = (tt, tt)
insert-rises x (y ∷ ys) rises = split (insert-rises x ys rises.1) (nat_lt y.order x.order) refl
  where
    split : Rises (insert_by order_of x ys) → (t : Bool) → nat_lt y.order x.order ≡ t → Rises (if t then y ∷ insert_by order_of x ys else x ∷ (y ∷ ys))
    split rest true is =
        let less = ltb-true y.order x.order is in
        (insert-at_least y.order x ys (omega arith) rises.0, rest)
    split rest false is =
        let more : x.order ≤ y.order = grind (arith, nat_tests) in
        ((more, at_least-less x.order y.order ys more rises.0), rises)

pub sorted-rises : (xs : List Ordered) → Rises (sorted xs)
sorted-rises [] = tt
sorted-rises (x ∷ xs) = insert-rises x (sorted xs) (sorted-rises xs)

-- A list whose order numbers rise is sorted.
pub sorted-same : (xs : List Ordered) → Rises xs → sorted xs ≡ xs
sorted-same [] rises = refl
sorted-same (x ∷ xs) rises = ap (insert_by order_of x) (sorted-same xs rises.1) ∙ insert-front x xs rises.0

-- ---- a part of a sorted list

filter-at_least : (p : Ordered → Bool) (m : ℕ) (xs : List Ordered) → AtLeast m xs → AtLeast m (filter p xs)
filter-at_least p m [] above = tt
filter-at_least p m (x ∷ xs) above = split (filter-at_least p m xs above.1) (p x)
  where
    split : AtLeast m (filter p xs) → (t : Bool) → AtLeast m (cond t (x ∷ filter p xs) (filter p xs))
    split rest true = (above.0, rest)
    split rest false = rest

filter-insert : (p : Ordered → Bool) (x : Ordered) (xs : List Ordered) → Rises xs → filter p (insert_by order_of x xs) ≡ cond (p x) (insert_by order_of x (filter p xs)) (filter p xs)
filter-insert p x [] rises = refl
filter-insert p x (y ∷ ys) rises = split (filter-insert p x ys rises.1) (nat_lt y.order x.order) refl
  where
    behind : (t : Bool) → nat_lt y.order x.order ≡ true → (q : Bool)
        → cond q (y ∷ cond t (insert_by order_of x (filter p ys)) (filter p ys)) (cond t (insert_by order_of x (filter p ys)) (filter p ys)) ≡ cond t (insert_by order_of x (cond q (y ∷ filter p ys) (filter p ys))) (cond q (y ∷ filter p ys) (filter p ys))
    behind true is true = sym (ap (λ (b : Bool). if b then y ∷ insert_by order_of x (filter p ys) else x ∷ (y ∷ filter p ys)) is)
    behind true is false = refl
    behind false is true = refl
    behind false is false = refl

    in_front : (t : Bool) → AtLeast x.order (y ∷ ys) → cond t (x ∷ filter p (y ∷ ys)) (filter p (y ∷ ys)) ≡ cond t (insert_by order_of x (filter p (y ∷ ys))) (filter p (y ∷ ys))
    in_front true above = sym (insert-front x (filter p (y ∷ ys)) (filter-at_least p x.order (y ∷ ys) above))
    in_front false above = refl

    split : filter p (insert_by order_of x ys) ≡ cond (p x) (insert_by order_of x (filter p ys)) (filter p ys)
        → (t : Bool) → nat_lt y.order x.order ≡ t → filter p (if t then y ∷ insert_by order_of x ys else x ∷ (y ∷ ys)) ≡ cond (p x) (insert_by order_of x (filter p (y ∷ ys))) (filter p (y ∷ ys))
    split rest true is = ap (λ (fs : List Ordered). cond (p y) (y ∷ fs) fs) rest ∙ behind (p x) is (p y)
    split rest false is =
        let more : x.order ≤ y.order = grind (arith, nat_tests) in
        in_front (p x) (more, at_least-less x.order y.order ys more rises.0)

-- A selected part of a sorted list is the sorted part.
pub filter-sorted : (p : Ordered → Bool) (xs : List Ordered) → filter p (sorted xs) ≡ sorted (filter p xs)
filter-sorted p [] = refl
filter-sorted p (x ∷ xs) =
    filter-insert p x (sorted xs) (sorted-rises xs) ∙ ap (λ (fs : List Ordered). cond (p x) (insert_by order_of x fs) fs) (filter-sorted p xs) ∙ split (p x)
  where
    split : (t : Bool) → cond t (insert_by order_of x (sorted (filter p xs))) (sorted (filter p xs)) ≡ sorted (cond t (x ∷ filter p xs) (filter p xs))
    split true = refl
    split false = refl

pub filter-blocks : (p : OutputBlock → Bool) (xs : List Ordered) → filter p (blocks_in xs) ≡ blocks_in (filter (λ (x : Ordered). p x.block) xs)
filter-blocks p [] = refl
filter-blocks p (x ∷ xs) = ap (λ (bs : List OutputBlock). cond (p x.block) (x.block ∷ bs) bs) (filter-blocks p xs) ∙ split (p x.block)
  where
    split : (t : Bool) → cond t (x.block ∷ blocks_in (filter (λ (y : Ordered). p y.block) xs)) (blocks_in (filter (λ (y : Ordered). p y.block) xs))
        ≡ blocks_in (cond t (x ∷ filter (λ (y : Ordered). p y.block) xs) (filter (λ (y : Ordered). p y.block) xs))
    split true = refl
    split false = refl

pub filter-all : (p : Ordered → Bool) (xs : List Ordered) → All (λ (x : Ordered). p x ≡ true) xs → filter p xs ≡ xs
filter-all p [] pass = refl
filter-all p (x ∷ xs) pass =
    ap (λ (b : Bool). cond b (x ∷ filter p xs) (filter p xs)) (All-head (λ (y : Ordered). p y ≡ true) x xs pass)
    ∙ ap (λ ys. x ∷ ys) (filter-all p xs (All-tail (λ (y : Ordered). p y ≡ true) x xs pass))

pub filter-none : (p : Ordered → Bool) (xs : List Ordered) → All (λ (x : Ordered). p x ≡ false) xs → filter p xs ≡ []
filter-none p [] pass = refl
filter-none p (x ∷ xs) pass =
    ap (λ (b : Bool). cond b (x ∷ filter p xs) (filter p xs)) (All-head (λ (y : Ordered). p y ≡ false) x xs pass)
    ∙ filter-none p xs (All-tail (λ (y : Ordered). p y ≡ false) x xs pass)

-- ---- one output track

-- an output track with its order numbers and its number
abbrev pub in_order : ℕ → List OutputBlock → List Ordered
in_order n bs = map (ordered_in n) (ordered bs)

in_order-at_least : (n k m : ℕ) (bs : List OutputBlock) → k ≤ m → AtLeast k (map (ordered_in n) (ordered_from m bs))
in_order-at_least n k m [] less = tt
in_order-at_least n k m (b ∷ bs) less = (omega arith, in_order-at_least n k (max m b.tick) bs (omega arith))

pub in_order-rises : (n m : ℕ) (bs : List OutputBlock) → Rises (map (ordered_in n) (ordered_from m bs))
in_order-rises n m [] = tt
in_order-rises n m (b ∷ bs) = (in_order-at_least n (max m b.tick) (max m b.tick) bs (omega arith), in_order-rises n (max m b.tick) bs)

in_order-blocks : (n m : ℕ) (bs : List OutputBlock) → blocks_in (map (ordered_in n) (ordered_from m bs)) ≡ map (in_lane n) bs
in_order-blocks n m [] = refl
in_order-blocks n m (b ∷ bs) = ap (λ xs. in_lane n b ∷ xs) (in_order-blocks n (max m b.tick) bs)

pub in_order-lane : (n : ℕ) (xs : List Ordered) → All (λ (x : Ordered). x.block.lane ≡ n) (map (ordered_in n) xs)
in_order-lane n [] = All-nil (λ (x : Ordered). x.block.lane ≡ n)
in_order-lane n (x ∷ xs) = All-cons (λ (y : Ordered). y.block.lane ≡ n) (ordered_in n x) (map (ordered_in n) xs) refl (in_order-lane n xs)

-- ---- all output tracks

-- all output tracks in sequence, numbered from this number on
abbrev pub all_in_order : ℕ → List (List OutputBlock) → List Ordered
all_in_order n lanes = lanes_joined (numbered n (map ordered lanes))

pub all-above : (n : ℕ) (lanes : List (List OutputBlock)) → All (λ (x : Ordered). n ≤ x.block.lane) (all_in_order n lanes)
all-above n [] = All-nil (λ (x : Ordered). n ≤ x.block.lane)
all-above n (lane ∷ lanes) =
    All-append (λ (x : Ordered). n ≤ x.block.lane) (in_order n lane) (all_in_order (suc n) lanes)
    (All-weaker (λ (x : Ordered). x.block.lane ≡ n) (λ (x : Ordered). n ≤ x.block.lane) (λ x is. omega arith) (in_order n lane) (in_order-lane n (ordered lane)))
    (All-weaker (λ (x : Ordered). suc n ≤ x.block.lane) (λ (x : Ordered). n ≤ x.block.lane) (λ x is. omega arith) (all_in_order (suc n) lanes) (all-above (suc n) lanes))

lanes-kept_behind : (n : ℕ) (lanes : List (List OutputBlock)) (front : List Ordered) → All (λ (x : Ordered). x.block.lane < n) front
    → lanes_from n (length lanes) (blocks_in (sorted (front ++ all_in_order n lanes))) ≡ in_lanes n lanes
lanes-kept_behind n [] front lower = refl
lanes-kept_behind n (lane ∷ lanes) front lower =
    let own : List Ordered = in_order n lane in
    let behind : List Ordered = all_in_order (suc n) lanes in
    let rest : List Ordered = own ++ behind in
    let none : filter (λ (x : Ordered). x.block.lane == n) front ≡ [] =
    filter-none (λ (x : Ordered). x.block.lane == n) front (All-weaker (λ (x : Ordered). x.block.lane < n) (λ (x : Ordered). (x.block.lane == n) ≡ false) (λ x less. ne_eqb x.block.lane n (λ same. absurd (omega arith))) front lower) in
    let all : filter (λ (x : Ordered). x.block.lane == n) own ≡ own =
    filter-all (λ (x : Ordered). x.block.lane == n) own (All-weaker (λ (x : Ordered). x.block.lane ≡ n) (λ (x : Ordered). (x.block.lane == n) ≡ true) (λ x is. eq-eqb x.block.lane n is) own (in_order-lane n (ordered lane))) in
    let others : filter (λ (x : Ordered). x.block.lane == n) behind ≡ [] =
    filter-none (λ (x : Ordered). x.block.lane == n) behind (All-weaker (λ (x : Ordered). suc n ≤ x.block.lane) (λ (x : Ordered). (x.block.lane == n) ≡ false) (λ x more. ne_eqb x.block.lane n (λ same. absurd (omega arith))) behind (all-above (suc n) lanes)) in
    let part : filter (λ (x : Ordered). x.block.lane == n) (front ++ rest) ≡ own =
    filter-append (λ (x : Ordered). x.block.lane == n) front rest ∙ ap₂ (λ a b. a ++ b) none (filter-append (λ (x : Ordered). x.block.lane == n) own behind ∙ ap₂ (λ a b. a ++ b) all others ∙ append-nil own) in
    let here : lane_of n (blocks_in (sorted (front ++ rest))) ≡ map (in_lane n) lane =
    filter-blocks (λ (b : OutputBlock). b.lane == n) (sorted (front ++ rest))
    ∙ ap blocks_in (filter-sorted (λ (x : Ordered). x.block.lane == n) (front ++ rest) ∙ ap sorted part ∙ sorted-same own (in_order-rises n 0 lane))
    ∙ in_order-blocks n 0 lane in
    let later : lanes_from (suc n) (length lanes) (blocks_in (sorted (front ++ rest))) ≡ in_lanes (suc n) lanes =
    ap (λ (l : List Ordered). lanes_from (suc n) (length lanes) (blocks_in (sorted l))) (sym (append_assoc front own behind))
    ∙ lanes-kept_behind (suc n) lanes (front ++ own)
    (All-append (λ (x : Ordered). x.block.lane < suc n) front own
    (All-weaker (λ (x : Ordered). x.block.lane < n) (λ (x : Ordered). x.block.lane < suc n) (λ x less. omega arith) front lower)
    (All-weaker (λ (x : Ordered). x.block.lane ≡ n) (λ (x : Ordered). x.block.lane < suc n) (λ x is. omega arith) own (in_order-lane n (ordered lane)))) in
    ap₂ (λ l ls. l ∷ ls) here later

-- The tracks of a merged list are the output tracks that were merged.
pub lanes-kept : (lanes : List (List OutputBlock)) → lanes_from 1 (length lanes) (merged lanes) ≡ in_lanes 1 lanes
lanes-kept lanes = lanes-kept_behind 1 lanes [] (All-nil (λ (x : Ordered). x.block.lane < 1))

-- ---- a fact about each block of each output track holds for each block of the merged list

pub insert-all : (P : Ordered → Type 0) (x : Ordered) (xs : List Ordered) → P x → All P xs → All P (insert_by order_of x xs)
insert-all P x [] own are = All-cons P x [] own (All-nil P)
insert-all P x (y ∷ ys) own are = split (nat_lt y.order x.order) (insert-all P x ys own (All-tail P y ys are))
  where
    split : (t : Bool) → All P (insert_by order_of x ys) → All P (if t then y ∷ insert_by order_of x ys else x ∷ (y ∷ ys))
    split true rest = All-cons P y (insert_by order_of x ys) (All-head P y ys are) rest
    split false rest = All-cons P x (y ∷ ys) own are

pub sorted-all : (P : Ordered → Type 0) (xs : List Ordered) → All P xs → All P (sorted xs)
sorted-all P [] are = All-nil P
sorted-all P (x ∷ xs) are = insert-all P x (sorted xs) (All-head P x xs are) (sorted-all P xs (All-tail P x xs are))

blocks-all : (P : OutputBlock → Type 0) (xs : List Ordered) → All (λ (x : Ordered). P x.block) xs → All P (blocks_in xs)
blocks-all P [] are = All-nil P
blocks-all P (x ∷ xs) are = All-cons P x.block (blocks_in xs) (All-head (λ (y : Ordered). P y.block) x xs are) (blocks-all P xs (All-tail (λ (y : Ordered). P y.block) x xs are))

in_order-all : (P : OutputBlock → Type 0) (n m : ℕ) (bs : List OutputBlock) → ((b : OutputBlock) → P b → P (in_lane n b)) → All P bs → All (λ (x : Ordered). P x.block) (map (ordered_in n) (ordered_from m bs))
in_order-all P n m [] keeps are = All-nil (λ (x : Ordered). P x.block)
in_order-all P n m (b ∷ bs) keeps are =
    All-cons (λ (x : Ordered). P x.block) (record { order = max m b.tick; block = in_lane n b }) (map (ordered_in n) (ordered_from (max m b.tick) bs)) (keeps b (All-head P b bs are))
    (in_order-all P n (max m b.tick) bs keeps (All-tail P b bs are))

-- The property holds for a block on any of these output tracks, with the track's number.
pub record IsIn (P : OutputBlock → Type 0) (n k : ℕ) (b : OutputBlock) : Type 0 where
  pub holds : P b
  pub some : n ≤ b.lane
  pub most : b.lane < k

all-hold : (P : OutputBlock → Type 0) (n k : ℕ) (lanes : List (List OutputBlock)) → ((j : ℕ) (b : OutputBlock) → P b → P (in_lane j b)) → n + length lanes ≤ k → All (All P) lanes
    → All (λ (x : Ordered). IsIn P n k x.block) (all_in_order n lanes)
all-hold P n k [] keeps few are = All-nil (λ (x : Ordered). IsIn P n k x.block)
all-hold P n k (lane ∷ lanes) keeps few are =
    All-append (λ (x : Ordered). IsIn P n k x.block) (in_order n lane) (all_in_order (suc n) lanes)
    (first (ordered lane) (in_order-all P n 0 lane (keeps n) (All-head (All P) lane lanes are)))
    (All-weaker (λ (x : Ordered). IsIn P (suc n) k x.block) (λ (x : Ordered). IsIn P n k x.block) (λ x is. let some = is.some in record { holds = is.holds; some = omega arith; most = is.most }) (all_in_order (suc n) lanes)
    (all-hold P (suc n) k lanes keeps (omega arith) (All-tail (All P) lane lanes are)))
  where
    first : (xs : List Ordered) → All (λ (x : Ordered). P x.block) (map (ordered_in n) xs) → All (λ (x : Ordered). IsIn P n k x.block) (map (ordered_in n) xs)
    first [] hold = All-nil (λ (x : Ordered). IsIn P n k x.block)
    first (x ∷ xs) hold =
        All-cons (λ (y : Ordered). IsIn P n k y.block) (ordered_in n x) (map (ordered_in n) xs)
        (record { holds = All-head (λ (y : Ordered). P y.block) (ordered_in n x) (map (ordered_in n) xs) hold; some = omega arith; most = omega arith })
        (first xs (All-tail (λ (y : Ordered). P y.block) (ordered_in n x) (map (ordered_in n) xs) hold))

pub merged-hold : (P : OutputBlock → Type 0) (lanes : List (List OutputBlock)) → ((j : ℕ) (b : OutputBlock) → P b → P (in_lane j b)) → All (All P) lanes → All (IsIn P 1 (length lanes + 1)) (merged lanes)
merged-hold P lanes keeps are =
    blocks-all (IsIn P 1 (length lanes + 1)) (sorted (all_in_order 1 lanes))
    (sorted-all (λ (x : Ordered). IsIn P 1 (length lanes + 1) x.block) (all_in_order 1 lanes) (all-hold P 1 (length lanes + 1) lanes keeps (omega arith) are))
