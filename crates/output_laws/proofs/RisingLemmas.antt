-- A merged list is in order.
use Rattle.std.proofs.Common.{◌≡◌, ℕ, suc, ◌+◌, ◌<◌, ◌≤◌, ◌==◌, nat_lt, max, Bool, true, false, cond, if◌then◌else◌, ◌⊎◌, inl, inr, List, [], ◌∷◌, ◌++◌, length, map, filter, All, append-nil, append_assoc, length-append, refl, sym, subst, ap, ap₂, ◌∙◌, arith}
use Rattle.std.specs.Prelude.{⊤}
use Rattle.std.proofs.lemmas.Bool.{ltb-true, eq-eqb, ne_eqb}
use Rattle.std.proofs.lemmas.Bool.Decides.{nat_tests}
use Rattle.std.proofs.lemmas.List.{map-append}
use Rattle.std.proofs.lemmas.List.Elements.{All-nil, All-cons, All-head, All-tail, All-append, All-weaker, filter-append}
use Rattle.output_model.specs.OutputBlock.{OutputBlock}
use Rattle.merge_model.specs.Merged.{Ordered, ordered_from, ordered, in_lane, ordered_in, order_of, sorted, blocks_in}
use Rattle.mkv_io.specs.Sorted.{insert_by}
use Rattle.output_laws.specs.Lanes.{lane_of}
use Rattle.output_laws.specs.WholeLists.{IsBefore, greatest_tick, rank}
use Rattle.output_laws.specs.Merges.{MergedIsInOrder}
use Rattle.output_laws.proofs.CutLemmas.{none-within}
use Rattle.output_laws.proofs.MergedLemmas.{AtLeast, Rises, all-above, all_in_order, at_least-less, filter-all, filter-blocks, filter-none, filter-sorted, in_order, in_order-lane, in_order-rises, insert-all, sorted-all, sorted-rises, sorted-same}

-- ---- by order number, and then by output track

-- The first one has a lower order number, or the same order number and at most the second one's track number.
abbrev IsLower : Ordered → Ordered → Type 0
IsLower x y = (x.order < y.order) ⊎ ((x.order ≡ y.order) × (x.block.lane ≤ y.block.lane))

-- The track number of the first one is at most the second one's.
abbrev IsUnder : Ordered → Ordered → Type 0
IsUnder x y = x.block.lane ≤ y.block.lane

-- Each item is lower than all later ones.
abbrev AllLower : List Ordered → Type 0
AllLower [] = ⊤
AllLower (x ∷ xs) = All (IsLower x) xs × AllLower xs

-- Each item has at most the track number of each later one.
abbrev AllUnder : List Ordered → Type 0
AllUnder [] = ⊤
AllUnder (x ∷ xs) = All (IsUnder x) xs × AllUnder xs

lower-of : (x y : Ordered) → x.order ≤ y.order → IsUnder x y → IsLower x y
lower-of x y order lane = split (nat_lt x.order y.order) refl
  where
    split : (t : Bool) → nat_lt x.order y.order ≡ t → IsLower x y
    split true is = inl (ltb-true x.order y.order is)
    split false is = inr (grind (arith, nat_tests), lane)

lower-all : (x : Ordered) (ys : List Ordered) → AtLeast x.order ys → All (IsUnder x) ys → All (IsLower x) ys
lower-all x [] above under = All-nil (IsLower x)
lower-all x (y ∷ ys) above under =
    All-cons (IsLower x) y ys (lower-of x y above.0 (All-head (IsUnder x) y ys under)) (lower-all x ys above.1 (All-tail (IsUnder x) y ys under))

insert-lower : (x : Ordered) (ys : List Ordered) → Rises ys → All (IsUnder x) ys → AllLower ys → AllLower (insert_by order_of x ys)
insert-lower x [] rises under lower = (All-nil (IsLower x), tt)
insert-lower x (y ∷ ys) rises under lower =
    split (insert-lower x ys rises.1 (All-tail (IsUnder x) y ys under) lower.1) (nat_lt y.order x.order) refl
  where
    split : AllLower (insert_by order_of x ys) → (t : Bool) → nat_lt y.order x.order ≡ t → AllLower (if t then y ∷ insert_by order_of x ys else x ∷ (y ∷ ys))
    split rest true is = (insert-all (IsLower y) x ys (inl (ltb-true y.order x.order is)) lower.0, rest)
    split rest false is =
        let more : x.order ≤ y.order = grind (arith, nat_tests) in
        (lower-all x (y ∷ ys) (more, at_least-less x.order y.order ys more rises.0) under, lower)

sorted-lower : (xs : List Ordered) → AllUnder xs → AllLower (sorted xs)
sorted-lower [] under = tt
sorted-lower (x ∷ xs) under = insert-lower x (sorted xs) (sorted-rises xs) (sorted-all (IsUnder x) xs under.0) (sorted-lower xs under.1)

-- An output track before tracks with greater numbers.
append-under : (n : ℕ) (xs ys : List Ordered) → All (λ (x : Ordered). x.block.lane ≡ n) xs → All (λ (y : Ordered). n ≤ y.block.lane) ys → AllUnder ys → AllUnder (xs ++ ys)
append-under n [] ys own above under = under
append-under n (x ∷ xs) ys own above under =
    let here : x.block.lane ≡ n = All-head (λ (z : Ordered). z.block.lane ≡ n) x xs own in
    let others : All (λ (z : Ordered). z.block.lane ≡ n) xs = All-tail (λ (z : Ordered). z.block.lane ≡ n) x xs own in (
      All-append (IsUnder x) xs ys
          (All-weaker (λ (z : Ordered). z.block.lane ≡ n) (IsUnder x) (λ z is. omega (arith, here, is)) xs others)
          (All-weaker (λ (z : Ordered). n ≤ z.block.lane) (IsUnder x) (λ z is. omega (arith, here, is)) ys above),
      append-under n xs ys others above under,
    )

all-under : (n : ℕ) (lanes : List (List OutputBlock)) → AllUnder (all_in_order n lanes)
all-under n [] = tt
all-under n (lane ∷ lanes) =
    append-under n (in_order n lane) (all_in_order (suc n) lanes) (in_order-lane n (ordered lane))
    (All-weaker (λ (x : Ordered). suc n ≤ x.block.lane) (λ (x : Ordered). n ≤ x.block.lane) (λ x is. omega (arith, is)) (all_in_order (suc n) lanes) (all-above (suc n) lanes))
    (all-under (suc n) lanes)

-- An item of a list, and a later one.
lower-at : (xs ys zs : List Ordered) (x y : Ordered) → AllLower (xs ++ x ∷ (ys ++ y ∷ zs)) → IsLower x y
lower-at [] ys zs x y lower = within ys lower.0
  where
    within : (ws : List Ordered) → All (IsLower x) (ws ++ y ∷ zs) → IsLower x y
    within [] all = All-head (IsLower x) y zs all
    within (w ∷ ws) all = within ws (All-tail (IsLower x) w (ws ++ y ∷ zs) all)
lower-at (w ∷ xs) ys zs x y lower = lower-at xs ys zs x y lower.1

-- ---- order numbers

-- The output track with this number, or nothing if there is none.
record IsLane (n k : ℕ) (lanes : List (List OutputBlock)) : Type 0 where
  lane : List OutputBlock
  is : filter (λ (x : Ordered). x.block.lane == n) (all_in_order k lanes) ≡ in_order n lane

none-of : (n k : ℕ) (xs : List Ordered) → All (λ (x : Ordered). x.block.lane ≡ k) xs → (k == n) ≡ false → filter (λ (x : Ordered). x.block.lane == n) xs ≡ []
none-of n k xs are other =
    filter-none (λ (x : Ordered). x.block.lane == n) xs
    (All-weaker (λ (x : Ordered). x.block.lane ≡ k) (λ (x : Ordered). (x.block.lane == n) ≡ false) (λ x is. ap (λ l. l == n) is ∙ other) xs are)

all-of : (n k : ℕ) (xs : List Ordered) → All (λ (x : Ordered). x.block.lane ≡ k) xs → (k == n) ≡ true → filter (λ (x : Ordered). x.block.lane == n) xs ≡ xs
all-of n k xs are same =
    filter-all (λ (x : Ordered). x.block.lane == n) xs
    (All-weaker (λ (x : Ordered). x.block.lane ≡ k) (λ (x : Ordered). (x.block.lane == n) ≡ true) (λ x is. ap (λ l. l == n) is ∙ same) xs are)

none-above : (n k : ℕ) (xs : List Ordered) → All (λ (x : Ordered). suc k ≤ x.block.lane) xs → k ≡ n → filter (λ (x : Ordered). x.block.lane == n) xs ≡ []
none-above n k xs above same =
    filter-none (λ (x : Ordered). x.block.lane == n) xs
    (All-weaker (λ (x : Ordered). suc k ≤ x.block.lane) (λ (x : Ordered). (x.block.lane == n) ≡ false) (λ x more. ne_eqb x.block.lane n (λ is. absurd (omega (arith, same, more, is)))) xs above)

lane-at : (n k : ℕ) (lanes : List (List OutputBlock)) → IsLane n k lanes
lane-at n k [] = record { lane = []; is = refl }
lane-at n k (l ∷ lanes) = split (lane-at n (suc k) lanes) (k == n) refl
  where
    both : filter (λ (x : Ordered). x.block.lane == n) (all_in_order k (l ∷ lanes)) ≡ filter (λ (x : Ordered). x.block.lane == n) (in_order k l) ++ filter (λ (x : Ordered). x.block.lane == n) (all_in_order (suc k) lanes)
    both = filter-append (λ (x : Ordered). x.block.lane == n) (in_order k l) (all_in_order (suc k) lanes)

    split : IsLane n (suc k) lanes → (t : Bool) → (k == n) ≡ t → IsLane n k (l ∷ lanes)
    split later true is =
        let same : k ≡ n = grind (arith, nat_tests) in
        record {
          lane = l;
          is = both ∙ ap₂ (λ a b. a ++ b) (all-of n k (in_order k l) (in_order-lane k (ordered l)) is) (none-above n k (all_in_order (suc k) lanes) (all-above (suc k) lanes) same)
              ∙ append-nil (in_order k l) ∙ ap (λ j. in_order j l) same;
        }
    split later false is = record {
      lane = later.lane;
      is = both ∙ ap₂ (λ a b. a ++ b) (none-of n k (in_order k l) (in_order-lane k (ordered l)) is) later.is;
    }

-- An item of an output track, from any order number on.
order-in : (n m : ℕ) (bs : List OutputBlock) (ys zs : List Ordered) (x : Ordered) → map (ordered_in n) (ordered_from m bs) ≡ ys ++ x ∷ zs
    → x.order ≡ max (max m (greatest_tick (blocks_in ys))) x.block.tick
order-in n m [] ys zs x is = absurd (none-within ys zs x is)
order-in n m (b ∷ bs) [] zs x is =
    let same : record { order = max m b.tick; block = in_lane n b } ≡ x = cc in
    let order : max m b.tick ≡ x.order = ap (λ (z : Ordered). z.order) same in
    let tick : b.tick ≡ x.block.tick = ap (λ (z : Ordered). z.block.tick) same in
    omega (arith, order, tick)
order-in n m (b ∷ bs) (y ∷ ys) zs x is =
    let same : record { order = max m b.tick; block = in_lane n b } ≡ y = cc in
    let rest : map (ordered_in n) (ordered_from (max m b.tick) bs) ≡ ys ++ x ∷ zs = cc in
    let tick : b.tick ≡ y.block.tick = ap (λ (z : Ordered). z.block.tick) same in
    let later : x.order ≡ max (max (max m b.tick) (greatest_tick (blocks_in ys))) x.block.tick = order-in n (max m b.tick) bs ys zs x rest in
    omega (arith, tick, later)

-- A selected part of a list that has a block.
filter-at : (p : Ordered → Bool) (xs ys : List Ordered) (x : Ordered) → p x ≡ true → filter p (xs ++ x ∷ ys) ≡ filter p xs ++ x ∷ filter p ys
filter-at p xs ys x is =
    filter-append p xs (x ∷ ys) ∙ ap (λ (t : Bool). filter p xs ++ cond t (x ∷ filter p ys) (filter p ys)) is

-- The order number of a block in the sorted list is the greatest tick of its output track up to it.
order-at : (lanes : List (List OutputBlock)) (xs ys : List Ordered) (x : Ordered) → sorted (all_in_order 1 lanes) ≡ xs ++ x ∷ ys
    → x.order ≡ max (greatest_tick (lane_of x.block.lane (blocks_in xs))) x.block.tick
order-at lanes xs ys x is =
    let n : ℕ = x.block.lane in
    let p : Ordered → Bool = λ (z : Ordered). z.block.lane == n in
    let l : IsLane n 1 lanes = lane-at n 1 lanes in
    let own : filter p (sorted (all_in_order 1 lanes)) ≡ in_order n l.lane =
    filter-sorted p (all_in_order 1 lanes) ∙ ap sorted l.is ∙ sorted-same (in_order n l.lane) (in_order-rises n 0 l.lane) in
    let part : in_order n l.lane ≡ filter p xs ++ x ∷ filter p ys =
    sym own ∙ ap (filter p) is ∙ filter-at p xs ys x (eq-eqb n n refl) in
    let order : x.order ≡ max (max 0 (greatest_tick (blocks_in (filter p xs)))) x.block.tick = order-in n 0 l.lane (filter p xs) (filter p ys) x part in
    let blocks : lane_of n (blocks_in xs) ≡ blocks_in (filter p xs) = filter-blocks (λ (b : OutputBlock). b.lane == n) xs in
    let ticks : greatest_tick (lane_of n (blocks_in xs)) ≡ greatest_tick (blocks_in (filter p xs)) = ap greatest_tick blocks in
    omega (arith, order, ticks)

-- ---- places

place-less : (bs cs : List OutputBlock) (b c : OutputBlock) → b.lane ≡ c.lane → length (lane_of b.lane bs) < length (lane_of c.lane (bs ++ b ∷ cs))
place-less bs cs b c same =
    let p : OutputBlock → Bool = λ (d : OutputBlock). d.lane == c.lane in
    let is : p b ≡ true = eq-eqb b.lane c.lane same in
    let whole : filter p (bs ++ b ∷ cs) ≡ filter p bs ++ b ∷ filter p cs =
    filter-append p bs (b ∷ cs) ∙ ap (λ (t : Bool). filter p bs ++ cond t (b ∷ filter p cs) (filter p cs)) is in
    let count : length (lane_of c.lane (bs ++ b ∷ cs)) ≡ length (lane_of c.lane bs) + suc (length (lane_of c.lane cs)) =
    ap (λ (ds : List OutputBlock). length ds) whole ∙ length-append (filter p bs) (b ∷ filter p cs) in
    let first : length (lane_of b.lane bs) ≡ length (lane_of c.lane bs) = ap (λ (n : ℕ). length (lane_of n bs)) same in
    omega (arith, count, first)

-- ---- the merged list

-- The rank is lower, and on the same output track its place is earlier.
before-of : (k l m n i j : ℕ) → (k < l) ⊎ ((k ≡ l) × (m ≤ n)) → (m ≡ n → i < j) → IsBefore (record { order = k; lane = m; place = i }) (record { order = l; lane = n; place = j })
before-of k l m n i j (inl less) place = inl less
before-of k l m n i j (inr same) place = inr (same.0, split (nat_lt m n) refl)
  where
    split : (t : Bool) → nat_lt m n ≡ t → (m < n) ⊎ ((m ≡ n) × (i < j))
    split true is = inl (ltb-true m n is)
    split false is =
        let le : m ≤ n = same.1 in
        let equal : m ≡ n = grind (arith, nat_tests) in
        inr (equal, place equal)

sorted-before : (lanes : List (List OutputBlock)) (xs ys zs : List Ordered) (x y : Ordered) → sorted (all_in_order 1 lanes) ≡ xs ++ x ∷ (ys ++ y ∷ zs)
    → IsBefore (rank (blocks_in xs) x.block) (rank (blocks_in xs ++ x.block ∷ blocks_in ys) y.block)
sorted-before lanes xs ys zs x y is =
    let lower : IsLower x y = lower-at xs ys zs x y (subst AllLower is (sorted-lower (all_in_order 1 lanes) (all-under 1 lanes))) in
    let first : x.order ≡ (rank (blocks_in xs) x.block).order = order-at lanes xs (ys ++ y ∷ zs) x is in
    let second : y.order ≡ (rank (blocks_in (xs ++ x ∷ ys)) y.block).order =
    order-at lanes (xs ++ x ∷ ys) zs y (is ∙ sym (append_assoc xs (x ∷ ys) (y ∷ zs))) in
    let apart : blocks_in (xs ++ x ∷ ys) ≡ blocks_in xs ++ x.block ∷ blocks_in ys = map-append (λ (z : Ordered). z.block) xs (x ∷ ys) in
    let third : y.order ≡ (rank (blocks_in xs ++ x.block ∷ blocks_in ys) y.block).order =
    second ∙ ap (λ (bs : List OutputBlock). (rank bs y.block).order) apart in
    before-of (rank (blocks_in xs) x.block).order (rank (blocks_in xs ++ x.block ∷ blocks_in ys) y.block).order x.block.lane y.block.lane
    (rank (blocks_in xs) x.block).place (rank (blocks_in xs ++ x.block ∷ blocks_in ys) y.block).place
    (subst (λ (k : ℕ). (k < (rank (blocks_in xs ++ x.block ∷ blocks_in ys) y.block).order) ⊎ ((k ≡ (rank (blocks_in xs ++ x.block ∷ blocks_in ys) y.block).order) × (x.block.lane ≤ y.block.lane))) first
    (subst (λ (k : ℕ). (x.order < k) ⊎ ((x.order ≡ k) × (x.block.lane ≤ y.block.lane))) third lower))
    (place-less (blocks_in xs) (blocks_in ys) x.block y.block)

-- The list `xs` has the blocks `before`, then `b`, then `behind`, with their order numbers.
record Divides (xs : List Ordered) (before : List OutputBlock) (b : OutputBlock) (behind : List OutputBlock) : Type 0 where
  front : List Ordered
  own : Ordered
  rest : List Ordered
  is : xs ≡ front ++ own ∷ rest
  front_is : blocks_in front ≡ before
  own_is : own.block ≡ b
  rest_is : blocks_in rest ≡ behind

divides : (xs : List Ordered) (before behind : List OutputBlock) (b : OutputBlock) → blocks_in xs ≡ before ++ b ∷ behind → Divides xs before b behind
divides [] before behind b is = absurd (none-within before behind b is)
divides (x ∷ xs) [] behind b is = record { front = []; own = x; rest = xs; is = refl; front_is = refl; own_is = cc; rest_is = cc }
divides (x ∷ xs) (d ∷ before) behind b is =
    let same : x.block ≡ d = cc in
    let next : blocks_in xs ≡ before ++ b ∷ behind = cc in
    let later : Divides xs before b behind = divides xs before behind b next in
    record {
      front = x ∷ later.front;
      own = later.own;
      rest = later.rest;
      is = ap (λ (l : List Ordered). x ∷ l) {y = later.front ++ later.own ∷ later.rest} later.is;
      front_is = ap₂ (λ e es. e ∷ es) same later.front_is;
      own_is = later.own_is;
      rest_is = later.rest_is;
    }

pub merged-rises : MergedIsInOrder
merged-rises lanes before between behind b c is =
    let one = divides (sorted (all_in_order 1 lanes)) before (between ++ c ∷ behind) b is in
    let other = divides one.rest between behind c one.rest_is in
    let whole : sorted (all_in_order 1 lanes) ≡ one.front ++ one.own ∷ (other.front ++ other.own ∷ other.rest) =
    one.is ∙ ap (λ (l : List Ordered). one.front ++ one.own ∷ l) other.is in
    let found = sorted-before lanes one.front other.front other.rest one.own other.own whole in
    subst (λ (d : OutputBlock). IsBefore (rank before b) (rank (before ++ b ∷ between) d)) other.own_is
    (subst (λ (ds : List OutputBlock). IsBefore (rank before b) (rank (before ++ b ∷ ds) other.own.block)) other.front_is
    (subst (λ (d : OutputBlock). IsBefore (rank before d) (rank (before ++ d ∷ blocks_in other.front) other.own.block)) one.own_is
    (subst (λ (ds : List OutputBlock). IsBefore (rank ds one.own.block) (rank (ds ++ one.own.block ∷ blocks_in other.front) other.own.block)) one.front_is found)))
