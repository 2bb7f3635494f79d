-- Merged lists: their lengths, a fact about each block, and the merge of one output track.
use Rattle.std.specs.List.{All}
use Rattle.std.proofs.Common.{◌≡◌, ℕ, suc, ◌+◌, ◌≤◌, max, nat_lt, Bool, true, false, if◌then◌else◌, List, [], ◌∷◌, ◌++◌, length, map, refl, ap, ◌∙◌, append-nil, length-append, arith}
use Rattle.std.proofs.lemmas.Bool.{cond-false, le-ltb}
use Rattle.std.proofs.lemmas.List.{length-map}
use Rattle.std.proofs.lemmas.List.Elements.{All-append, All-cons, All-head, All-nil, All-tail}
use Rattle.mkv_io.specs.Sorted.{insert_by}
use Rattle.output_model.specs.OutputBlock.{OutputBlock}
use Rattle.merge_model.specs.Merged.{Ordered, blocks_in, in_lane, lanes_joined, merged, numbered, order_of, ordered, ordered_from, ordered_in, sorted}

-- ---- the number of blocks

insert-count : (x : Ordered) (xs : List Ordered) → length (insert_by order_of x xs) ≡ suc (length xs)
insert-count x [] = refl
insert-count x (y ∷ ys) = of (nat_lt y.order x.order) (insert-count x ys)
  where
    of : (t : Bool) → length (insert_by order_of x ys) ≡ suc (length ys) → length (if t then y ∷ insert_by order_of x ys else x ∷ (y ∷ ys)) ≡ suc (suc (length ys))
    of true rest = ap suc rest
    of false rest = refl

sorted-count : (xs : List Ordered) → length (sorted xs) ≡ length xs
sorted-count [] = refl
sorted-count (x ∷ xs) = insert-count x (sorted xs) ∙ ap suc (sorted-count xs)

ordered-count : (m : ℕ) (bs : List OutputBlock) → length (ordered_from m bs) ≡ length bs
ordered-count m [] = refl
ordered-count m (b ∷ bs) = ap suc (ordered-count (max m b.tick) bs)

lane-count : (n : ℕ) (bs : List OutputBlock) → length (map (ordered_in n) (ordered bs)) ≡ length bs
lane-count n bs = length-map (ordered bs) (ordered_in n) ∙ ordered-count 0 bs

-- Two output tracks are merged to as many blocks as they have.
pub merged-count : (xs ys : List OutputBlock) → length (merged (xs ∷ ys ∷ [])) ≡ length xs + length ys
merged-count xs ys =
    let first : List Ordered = map (ordered_in 1) (ordered xs) in
    let second : List Ordered = map (ordered_in 2) (ordered ys) in
    length-map (sorted (first ++ (second ++ []))) (λ (x : Ordered). x.block)
    ∙ sorted-count (first ++ (second ++ []))
    ∙ omega (arith, length-append first (second ++ []), length-append second [], lane-count 1 xs, lane-count 2 ys)

-- ---- a fact about each block

insert-all : (P : OutputBlock → Type 0) (x : Ordered) (xs : List Ordered) → P x.block → All (λ (y : Ordered). P y.block) xs → All (λ (y : Ordered). P y.block) (insert_by order_of x xs)
insert-all P x [] own are = All-cons (λ (y : Ordered). P y.block) x [] own (All-nil (λ (y : Ordered). P y.block))
insert-all P x (y ∷ ys) own are = of (nat_lt y.order x.order) (insert-all P x ys own (All-tail (λ (z : Ordered). P z.block) y ys are))
  where
    of : (t : Bool) → All (λ (z : Ordered). P z.block) (insert_by order_of x ys) → All (λ (z : Ordered). P z.block) (if t then y ∷ insert_by order_of x ys else x ∷ (y ∷ ys))
    of true rest = All-cons (λ (z : Ordered). P z.block) y (insert_by order_of x ys) (All-head (λ (z : Ordered). P z.block) y ys are) rest
    of false rest = All-cons (λ (z : Ordered). P z.block) x (y ∷ ys) own are

sorted-all : (P : OutputBlock → Type 0) (xs : List Ordered) → All (λ (y : Ordered). P y.block) xs → All (λ (y : Ordered). P y.block) (sorted xs)
sorted-all P [] are = All-nil (λ (y : Ordered). P y.block)
sorted-all P (x ∷ xs) are =
    insert-all P x (sorted xs) (All-head (λ (y : Ordered). P y.block) x xs are) (sorted-all P xs (All-tail (λ (y : Ordered). P y.block) x xs are))

lane-all : (P : OutputBlock → Type 0) → ((n : ℕ) (b : OutputBlock) → P b → P (in_lane n b)) → (n m : ℕ) (bs : List OutputBlock) → All P bs
    → All (λ (y : Ordered). P y.block) (map (ordered_in n) (ordered_from m bs))
lane-all P keeps n m [] are = All-nil (λ (y : Ordered). P y.block)
lane-all P keeps n m (b ∷ bs) are =
    All-cons (λ (y : Ordered). P y.block) (record { order = max m b.tick; block = in_lane n b }) (map (ordered_in n) (ordered_from (max m b.tick) bs))
    (keeps n b (All-head P b bs are)) (lane-all P keeps n (max m b.tick) bs (All-tail P b bs are))

lanes-all : (P : OutputBlock → Type 0) → ((n : ℕ) (b : OutputBlock) → P b → P (in_lane n b)) → (n : ℕ) (lanes : List (List OutputBlock)) → All (All P) lanes
    → All (λ (y : Ordered). P y.block) (lanes_joined (numbered n (map ordered lanes)))
lanes-all P keeps n [] are = All-nil (λ (y : Ordered). P y.block)
lanes-all P keeps n (l ∷ ls) are =
    All-append (λ (y : Ordered). P y.block) (map (ordered_in n) (ordered l)) (lanes_joined (numbered (suc n) (map ordered ls)))
    (lane-all P keeps n 0 l (All-head (All P) l ls are)) (lanes-all P keeps (suc n) ls (All-tail (All P) l ls are))

blocks-all : (P : OutputBlock → Type 0) (xs : List Ordered) → All (λ (y : Ordered). P y.block) xs → All P (blocks_in xs)
blocks-all P [] are = All-nil P
blocks-all P (x ∷ xs) are = All-cons P x.block (blocks_in xs) (All-head (λ (y : Ordered). P y.block) x xs are) (blocks-all P xs (All-tail (λ (y : Ordered). P y.block) x xs are))

-- What holds for each block of each output track holds for each block of the merged list.
pub merged-all : (P : OutputBlock → Type 0) → ((n : ℕ) (b : OutputBlock) → P b → P (in_lane n b)) → (lanes : List (List OutputBlock)) → All (All P) lanes → All P (merged lanes)
merged-all P keeps lanes are = blocks-all P _ (sorted-all P _ (lanes-all P keeps 1 lanes are))

-- ---- one output track

insert-front : (n m : ℕ) (x : Ordered) (bs : List OutputBlock) → x.order ≤ m → insert_by order_of x (map (ordered_in n) (ordered_from m bs)) ≡ x ∷ map (ordered_in n) (ordered_from m bs)
insert-front n m x [] low = refl
insert-front n m x (b ∷ bs) low = cond-false (nat_lt (max m b.tick) x.order) _ _ (le-ltb _ _ (omega arith))

one-sorted : (n m : ℕ) (bs : List OutputBlock) → sorted (map (ordered_in n) (ordered_from m bs)) ≡ map (ordered_in n) (ordered_from m bs)
one-sorted n m [] = refl
one-sorted n m (b ∷ bs) =
    let x : Ordered = record { order = max m b.tick; block = in_lane n b } in
    ap (insert_by order_of x) (one-sorted n (max m b.tick) bs) ∙ insert-front n (max m b.tick) x bs (omega arith)

one-blocks : (n m : ℕ) (bs : List OutputBlock) → blocks_in (map (ordered_in n) (ordered_from m bs)) ≡ map (in_lane n) bs
one-blocks n m [] = refl
one-blocks n m (b ∷ bs) = ap (λ (more : List OutputBlock). in_lane n b ∷ more) (one-blocks n (max m b.tick) bs)

-- One output track is merged to its blocks.
pub merged-one : (bs : List OutputBlock) → merged (bs ∷ []) ≡ map (in_lane 1) bs
merged-one bs =
    ap (λ (xs : List Ordered). blocks_in (sorted xs)) (append-nil (map (ordered_in 1) (ordered bs)))
    ∙ ap blocks_in (one-sorted 1 0 bs) ∙ one-blocks 1 0 bs
