-- Laws on written lacing: it is the head of a lace.
use Rattle.std.proofs.Common.{◌≡◌, ℕ, suc, ◌+◌, ◌-◌, ◌*◌, ◌/◌, ◌%◌, ◌^◌, ◌<◌, ◌≤◌, nat_le, List, [], ◌∷◌, ◌++◌, length, take, drop, slice_index, sum, All, IfSome, replicate, append-nil, Option, None, Some, Ok, refl, sym, ap, ◌∙◌, subst, arith}
use Rattle.std.proofs.Math.Nat.{pow-suc}
use Rattle.std.proofs.lemmas.Bool.{le-leb, leb-true}
use Rattle.std.proofs.lemmas.List.{length-append, length-replicate, drop_more, drop_all}
use Rattle.std.proofs.lemmas.List.Elements.{All-nil, All-cons, All-head, All-tail, All-weaker}
use Rattle.std.proofs.lemmas.List.Sums.{sum_by-cons, sum_by_push}
use Rattle.std.proofs.lemmas.Nat.{pow_pos}
use Rattle.ebml_numbers.specs.declared.number.SizeRead.{SizeRead}
use Rattle.ebml_numbers.specs.declared.number.Size.{Size}
use Rattle.ebml_numbers.specs.declared.number.Size.TheVariants.{Known}
use Rattle.ebml_numbers.specs.Number.{vint_data, marker, all_ones, size_at, size_octets, least_size_width, IsLeastWidth}
use Rattle.ebml_numbers.proofs.WidthLemmas.{least_width-IsLeast, least_size_width-IsLeast}
use Rattle.ebml_numbers.proofs.NumberLemmas.{size_at-reads, size_at-octets, length-size_octets}
use Rattle.lacing.specs.declared.kind.Lace.{Lace}
use Rattle.lacing.specs.declared.kind.Lace.TheVariants as lace
use Rattle.lacing.specs.Lace.{IsFirstSize, bias, IsDifference, IsSpelling, Spells, explicit_sizes, IsLaceHead, IsLace}
use Rattle.lacing.specs.Reading.{data_of, lace_in}
use Rattle.lacing.specs.Writing.{distance, difference_width, difference_octets, ebml_octets, octets_of_size, octets_of_sizes, lace_head, CanLace}
use Rattle.lacing.proofs.LaceLemmas.{data_of-size, lace_in-again, last_of, explicit_sizes-split}

-- The kind encodes sizes in its head.
abbrev SpellsSizes : Lace → Type 0
SpellsSizes lace.None = ⊥
SpellsSizes lace.Xiph = Unit {0}
SpellsSizes lace.Fixed = ⊥
SpellsSizes lace.Ebml = Unit {0}

-- ---- one size

pub difference_width-IsLeast : (before size : ℕ) → before < 2 ^ 32 → size < 2 ^ 32 → IsLeastWidth (λ w. distance before size ≤ bias w) (difference_width before size)
unfolding difference_width
difference_width-IsLeast before size small low =
    least_width-IsLeast (λ w. nat_le (distance before size) (bias w)) (λ w. distance before size ≤ bias w)
    (λ k. leb-true (distance before size) (bias k)) (λ k. le-leb (distance before size) (bias k)) (omega arith)

-- The data of a difference aren't all 1.
pub difference-lt : (before size w : ℕ) → 1 ≤ w → distance before size ≤ bias w → (before ≤ size + bias w) × (size + bias w - before < all_ones w)
difference-lt before size w some fits =
    let digits : 7 * w ≡ suc (7 * w - 1) = omega arith in
    let twice : marker w ≡ 2 ^ (7 * w - 1) * 2 = ap (λ (x : ℕ). 2 ^ x) digits ∙ pow-suc 2 (7 * w - 1) in
    let some_power = pow_pos (7 * w - 1) in
    (omega arith, omega arith)

IsFirstSize-octets : (size : ℕ) → size < 2 ^ 32 → IsFirstSize size (ebml_octets None size)
IsFirstSize-octets size small =
    let w = least_size_width size in
    let least = least_size_width-IsLeast size (omega arith) in
    let read = size_at-octets size w [] least.some least.most least.fits in
    let alone : size_at (size_octets size w) ≡ Ok (record { size = Known size; len = w }) = ap size_at (sym (append-nil (size_octets size w))) ∙ read in
    rw (length-size_octets size w) alone

IsDifference-octets : (before size : ℕ) → before < 2 ^ 32 → size < 2 ^ 32 → IsDifference before size (difference_octets before size)
IsDifference-octets before size small low =
    let w = difference_width before size in
    let least = difference_width-IsLeast before size small low in
    let value = difference-lt before size w least.some least.fits in
    let v = size + bias w - before in
    let o = size_octets v w in
    let read : SizeRead = record { size = Known v; len = w } in
    let alone : size_at o ≡ Ok read = ap size_at (sym (append-nil o)) ∙ size_at-octets v w [] least.some least.most value.1 in
    let reads = size_at-reads o read alone in
    let len = length-size_octets v w in
    let is_data : vint_data w o ≡ v = sym (data_of-size w (vint_data w o)) ∙ ap (λ (s : Size). data_of s w) reads.size in
    record {
      whole = reads.announced ∙ sym len;
      few = omega (arith, least.most, len);
      sum = rw (len, is_data) (omega (arith, value.0));
    }

-- The bytes of each size encode it.
IsSpelling-octets : (kind : Lace) (before : Option ℕ) (size : ℕ) → SpellsSizes kind → IfSome before (λ b. b < 2 ^ 32) → size < 2 ^ 32 → IsSpelling kind before size (octets_of_size kind before size)
IsSpelling-octets lace.None before size spells small low = absurd spells
IsSpelling-octets lace.Xiph before size spells small low = refl
IsSpelling-octets lace.Fixed before size spells small low = absurd spells
IsSpelling-octets lace.Ebml None size spells small low = IsFirstSize-octets size low
IsSpelling-octets lace.Ebml (Some before) size spells small low = IsDifference-octets before size small low

-- ---- a head

-- The bytes of sizes in sequence encode them.
Spells-octets : (kind : Lace) (before : Option ℕ) (sizes : List ℕ) → SpellsSizes kind → IfSome before (λ b. b < 2 ^ 32) → All (λ s. s < 2 ^ 32) sizes → Spells kind before sizes (octets_of_sizes kind before sizes)
unfolding octets_of_sizes
Spells-octets kind before [] spells small low = refl
Spells-octets kind before (size ∷ sizes) spells small low =
    let here = All-head (λ s. s < 2 ^ 32) size sizes low in (
      octets_of_size kind before size,
      octets_of_sizes kind (Some size) sizes,
      refl,
      IsSpelling-octets kind before size spells small here,
      Spells-octets kind (Some size) sizes spells here (All-tail (λ s. s < 2 ^ 32) size sizes low),
    )

-- A kind that encodes no sizes has an empty head.
octets_of_sizes-none : (kind : Lace) (before : Option ℕ) (sizes : List ℕ) → ((b : Option ℕ) (size : ℕ) → octets_of_size kind b size ≡ []) → octets_of_sizes kind before sizes ≡ []
unfolding octets_of_sizes
octets_of_sizes-none kind before [] none = refl
octets_of_sizes-none kind before (size ∷ sizes) none = rw (none before size) (octets_of_sizes-none kind (Some size) sizes none)

All-explicit_sizes : (P : ℕ → Type 0) (sizes : List ℕ) → All P sizes → All P (explicit_sizes sizes)
All-explicit_sizes P [] all = all
All-explicit_sizes P (size ∷ []) all = All-nil P
All-explicit_sizes P (size ∷ (next ∷ sizes)) all = All-cons P size (explicit_sizes (next ∷ sizes)) (All-head P size (next ∷ sizes) all) (All-explicit_sizes P (next ∷ sizes) (All-tail P size (next ∷ sizes) all))

-- Sizes with a small sum are small.
All-sum : (sizes : List ℕ) (n : ℕ) → sum sizes ≤ n → All (λ s. s ≤ n) sizes
All-sum [] n small = All-nil (λ s. s ≤ n)
All-sum (size ∷ sizes) n small =
    let total = sum_by-cons (λ (x : ℕ). x) size sizes in
    All-cons (λ s. s ≤ n) size sizes (omega arith) (All-sum sizes n (omega arith))

pub IsLaceHead-octets : (kind : Lace) (sizes : List ℕ) → CanLace kind sizes → IsLaceHead kind (lace_head kind sizes) sizes
IsLaceHead-octets lace.None sizes can = (can.fits, octets_of_sizes-none lace.None None (explicit_sizes sizes) (λ b size. refl))
IsLaceHead-octets lace.Xiph sizes can =
    Spells-octets lace.Xiph None (explicit_sizes sizes) tt tt (All-explicit_sizes (λ s. s < 2 ^ 32) sizes (All-weaker (λ s. s ≤ 2 ^ 26) (λ s. s < 2 ^ 32) (λ s h. omega arith) sizes (All-sum sizes (2 ^ 26) can.total)))
IsLaceHead-octets lace.Fixed sizes can = (can.fits, octets_of_sizes-none lace.Fixed None (explicit_sizes sizes) (λ b size. refl))
IsLaceHead-octets lace.Ebml sizes can =
    Spells-octets lace.Ebml None (explicit_sizes sizes) tt tt (All-explicit_sizes (λ s. s < 2 ^ 32) sizes (All-weaker (λ s. s ≤ 2 ^ 26) (λ s. s < 2 ^ 32) (λ s h. omega arith) sizes (All-sum sizes (2 ^ 26) can.total)))

-- The written bytes are the head of a lace.
pub IsLace-octets : (kind : Lace) (sizes : List ℕ) → CanLace kind sizes → IsLace kind (lace_head kind sizes) sizes (length (lace_head kind sizes) + sum sizes)
IsLace-octets kind sizes can = record { some = can.some; most = can.most; spelled = IsLaceHead-octets kind sizes can; whole = refl }

-- With its frames after it, the head is read as the same sizes.
pub lace_in-octets : (kind : Lace) (sizes frames : List ℕ) → CanLace kind sizes → length frames ≡ sum sizes → lace_in kind (length sizes) (lace_head kind sizes ++ frames) ≡ Some (sizes, length (lace_head kind sizes))
lace_in-octets kind sizes frames can fits =
    let whole : length (lace_head kind sizes) + sum sizes ≡ length (lace_head kind sizes ++ frames) = omega (arith, length-append (lace_head kind sizes) frames) in
    let P : ℕ → Type 0 = λ n. IsLace kind (lace_head kind sizes) sizes n in
    lace_in-again kind (lace_head kind sizes) sizes frames (subst P whole (IsLace-octets kind sizes can))

-- ---- lengths

-- A size takes a byte for each 255 of its value, and at most 8 bytes more. The lemma counts 255 times the bytes.
length-octets_of_size : (kind : Lace) (before : Option ℕ) (size : ℕ) → IfSome before (λ b. b < 2 ^ 32) → size < 2 ^ 32 → 255 * length (octets_of_size kind before size) ≤ size + 2040
length-octets_of_size lace.None before size small low = omega arith
length-octets_of_size lace.Xiph before size small low =
    let len = length-append (replicate (size / 255) 255) (size % 255 ∷ []) in
    let run = length-replicate {A = ℕ} (size / 255) 255 in
    omega arith
length-octets_of_size lace.Fixed before size small low = omega arith
length-octets_of_size lace.Ebml None size small low =
    let least = least_size_width-IsLeast size (omega arith) in
    omega (arith, length-size_octets size (least_size_width size), least.most)
length-octets_of_size lace.Ebml (Some before) size small low =
    let w = difference_width before size in
    let least = difference_width-IsLeast before size small low in
    omega (arith, length-size_octets (size + bias w - before) w, least.most)

length-octets_of_sizes : (kind : Lace) (before : Option ℕ) (sizes : List ℕ) → IfSome before (λ b. b < 2 ^ 32) → All (λ s. s < 2 ^ 32) sizes → 255 * length (octets_of_sizes kind before sizes) ≤ sum sizes + 2040 * length sizes
unfolding octets_of_sizes
length-octets_of_sizes kind before [] small low = omega arith
length-octets_of_sizes kind before (size ∷ sizes) small low =
    let here = All-head (λ s. s < 2 ^ 32) size sizes low in
    let first = length-octets_of_size kind before size small here in
    let others = length-octets_of_sizes kind (Some size) sizes here (All-tail (λ s. s < 2 ^ 32) size sizes low) in
    let joined = length-append (octets_of_size kind before size) (octets_of_sizes kind (Some size) sizes) in
    let total = sum_by-cons (λ (x : ℕ). x) size sizes in
    omega arith

-- ---- writing in steps

pub explicit_sizes-take : (sizes : List ℕ) → 1 ≤ length sizes → take (length sizes - 1) sizes ≡ explicit_sizes sizes
explicit_sizes-take [] some = absurd (omega arith)
explicit_sizes-take (size ∷ []) some = refl
explicit_sizes-take (size ∷ (next ∷ sizes)) some =
    let count : length (size ∷ (next ∷ sizes)) - 1 ≡ suc (length (next ∷ sizes) - 1) = omega arith in
    rw count (ap (λ (x : List ℕ). size ∷ x) (explicit_sizes-take (next ∷ sizes) (omega arith)))

-- The bytes from one size on are its own bytes, then the bytes from the next size on.
pub octets_of_sizes-more : (kind : Lace) (before : Option ℕ) (sizes : List ℕ) (i size : ℕ) → i < length sizes → size ≡ slice_index sizes i
    → octets_of_sizes kind before (drop i sizes) ≡ octets_of_size kind before size ++ octets_of_sizes kind (Some size) (drop (i + 1) sizes)
unfolding octets_of_sizes
octets_of_sizes-more kind before sizes i size inside is = rw (drop_more sizes i 0 inside, is) refl

pub octets_of_sizes-end : (kind : Lace) (before : Option ℕ) (sizes : List ℕ) (i : ℕ) → length sizes ≤ i → octets_of_sizes kind before (drop i sizes) ≡ []
unfolding octets_of_sizes
octets_of_sizes-end kind before sizes i outside = rw (drop_all i sizes outside) refl

-- The head of a lace has at most 2^19 bytes.
pub length-lace_head : (kind : Lace) (sizes : List ℕ) → CanLace kind sizes → length (octets_of_sizes kind None (explicit_sizes sizes)) ≤ 2 ^ 19
length-lace_head kind sizes can =
    let low = All-explicit_sizes (λ s. s < 2 ^ 32) sizes (All-weaker (λ s. s ≤ 2 ^ 26) (λ s. s < 2 ^ 32) (λ s h. omega arith) sizes (All-sum sizes (2 ^ 26) can.total)) in
    let most = length-octets_of_sizes kind None (explicit_sizes sizes) tt low in
    let split = explicit_sizes-split sizes can.some in
    let count : length sizes ≡ length (explicit_sizes sizes) + 1 = ap length split ∙ length-append (explicit_sizes sizes) (last_of sizes ∷ []) in
    let total : sum sizes ≡ sum (explicit_sizes sizes) + last_of sizes = ap sum split ∙ sum_by_push (λ (x : ℕ). x) (explicit_sizes sizes) (last_of sizes) in
    omega (arith, can.most, can.total)
