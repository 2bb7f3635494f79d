-- Laws on laces that their first bytes settle: they are laces whatever follows.
use Rattle.std.proofs.Common.{◌≡◌, ◌⊎◌, ℕ, zero, suc, ◌+◌, ◌-◌, ◌/◌, ◌%◌, ◌==◌, ◌<◌, ◌≤◌, nat_le, inl, inr, Bool, true, false, if◌then◌else◌, List, [], ◌∷◌, ◌++◌, append_assoc, length, take, drop, sum, replicate, slice_index, Option, None, Some, refl, sym, ap, ◌∙◌, subst, arith}
use Rattle.std.proofs.lemmas.List.{length-append, take-append-drop, take-append-le, drop-append-le, length-take-le, length-drop, length-replicate}
use Rattle.std.proofs.lemmas.List.Sums.{sum_by-cons}
use Rattle.std.proofs.lemmas.Bool.{cases_lt, cond-true, le-leb, lt-leb, leb-true}
use Rattle.ebml_numbers.specs.Number.{AreOctets}
use Rattle.ebml_numbers.proofs.SpelledLemmas.{AreOctets-drop}
use Rattle.lacing.specs.declared.kind.Lace.{Lace}
use Rattle.lacing.specs.declared.kind.Lace.TheVariants as lace
use Rattle.lacing.specs.Lace.{IsLace, FindsLace}
use Rattle.lacing.specs.Reading.{any_size, fitting, size_in, with_size, sizes_in, with_last, frame_sizes_in, is_frame_count, lace_in}
use Rattle.lacing.specs.Settled.{with_zeros, has_head_within, is_settled, HasLace}
use Rattle.lacing.proofs.LaceLemmas.{any_size-again, any_size-found, fitting-found, lace_in-found, lace_in-finds, lace_in-frames, lace_in-uncounted}

-- ---- zeros after the first bytes

AreOctets-cons : (x : ℕ) (xs : List ℕ) → x < 256 → AreOctets xs → AreOctets (x ∷ xs)
AreOctets-cons x xs first rest = at
  where
    at : (i : ℕ) → slice_index (x ∷ xs) i < 256
    at zero = first
    at (suc i) = rest i

AreOctets-append : (xs ys : List ℕ) → AreOctets xs → AreOctets ys → AreOctets (xs ++ ys)
AreOctets-append [] ys first rest = rest
AreOctets-append (x ∷ xs) ys first rest = AreOctets-cons x (xs ++ ys) (first 0) (AreOctets-append xs ys (λ i. first (suc i)) rest)

AreOctets-zeros : (n : ℕ) → AreOctets (replicate n 0)
AreOctets-zeros zero = none
  where
    none : (i : ℕ) → slice_index [] i < 256
    none zero = omega arith
    none (suc i) = omega arith
AreOctets-zeros (suc n) = AreOctets-cons 0 (replicate n 0) (omega arith) (AreOctets-zeros n)

pub AreOctets-with_zeros : (front : List ℕ) (len : ℕ) → AreOctets front → AreOctets (with_zeros front len)
AreOctets-with_zeros front len octets = AreOctets-append front (replicate (len - length front) 0) octets (AreOctets-zeros (len - length front))

pub length-with_zeros : (front : List ℕ) (len : ℕ) → length front ≤ len → length (with_zeros front len) ≡ len
length-with_zeros front len inside =
    let whole = length-append front (replicate (len - length front) 0) in
    let zeros = length-replicate {A = ℕ} (len - length front) 0 in
    omega arith

-- ---- a settled lace is a lace

settled-found : (front : List ℕ) (found : Option (List ℕ × ℕ)) → has_head_within front found ≡ true → (sizes : List ℕ) × (head : ℕ) × (found ≡ Some (sizes, head)) × (head ≤ length front)
settled-found front None is = absurd (cc)
settled-found front (Some (sizes, head)) is = (sizes, head, refl, leb-true head (length front) is)

-- A lace with its head in the first bytes stays one if other bytes of the same number follow.
FindsLace-front : (kind : Lace) (count : ℕ) (a b sizes : List ℕ) (head : ℕ) → take head a ≡ take head b → length a ≡ length b → FindsLace kind count a sizes head → FindsLace kind count b sizes head
FindsLace-front kind count a b sizes head same long finds =
    let P : List ℕ → ℕ → Type 0 = λ front len. IsLace kind front sizes len in
    record {
      count = finds.count;
      inside = omega (arith, finds.inside);
      lace = subst (λ (n : ℕ). P (take head b) n) long (subst (λ (o : List ℕ). P o (length a)) same finds.lace);
    }

-- Bytes whose first bytes settle that they are a lace are one.
pub HasLace-settled : (kind : Lace) (count : ℕ) (front octets : List ℕ) → AreOctets front → front ≡ take (length front) octets → is_settled kind count front (length octets) ≡ true → HasLace kind count front octets
HasLace-settled kind count front octets are is settled =
    let found = settled-found front (lace_in kind count (with_zeros front (length octets))) settled in
    let sizes = found.0 in
    let head = found.1 in
    let whole = with_zeros front (length octets) in
    let rest = drop (length front) octets in
    let joined : front ++ rest ≡ octets = ap (λ (o : List ℕ). o ++ rest) is ∙ take-append-drop (length front) octets in
    let inside : length front ≤ length octets = omega (arith, ap length joined, length-append front rest) in
    let own : take head whole ≡ take head front = take-append-le head front (replicate (length octets - length front) 0) found.3 in
    let other : take head octets ≡ take head front = ap (take head) (sym joined) ∙ take-append-le head front rest found.3 in
    let first = lace_in-found kind count whole sizes head (AreOctets-with_zeros front (length octets) are) found.2 in
    let finds = FindsLace-front kind count whole octets sizes head (own ∙ sym other) (length-with_zeros front (length octets) inside) first in
    record { sizes = sizes; head = head; inside = found.3; finds = finds; read = lace_in-finds kind count octets sizes head finds }

-- ---- one size in the first bytes

-- A size that is read from the first bytes is read whatever follows them.
any_size-whole : (kind : Lace) (before : Option ℕ) (o rest : List ℕ) (size len : ℕ) → AreOctets o → any_size kind before o ≡ Some (size, len) → (len ≤ length o) × (any_size kind before (o ++ rest) ≡ Some (size, len))
any_size-whole kind before o rest size len octets is =
    let found = any_size-found kind before o size len octets is in
    let split : take len o ++ (drop len o ++ rest) ≡ o ++ rest = sym (append_assoc (take len o) (drop len o) rest) ∙ ap (λ (x : List ℕ). x ++ rest) (take-append-drop len o) in
    let again = any_size-again kind before size (take len o) (drop len o ++ rest) found.1 in
    let own = length-take-le len o found.0 in
    (found.0, ap (any_size kind before) (sym split) ∙ again ∙ ap (λ (n : ℕ). Some (size, n)) own)

-- A size that lies in the first bytes is read from them.
any_size-front : (kind : Lace) (before : Option ℕ) (o rest : List ℕ) (size len : ℕ) → AreOctets (o ++ rest) → any_size kind before (o ++ rest) ≡ Some (size, len) → len ≤ length o → any_size kind before o ≡ Some (size, len)
any_size-front kind before o rest size len octets is inside =
    let found = any_size-found kind before (o ++ rest) size len octets is in
    let front = take-append-le len o rest inside in
    let again = any_size-again kind before size (take len (o ++ rest)) (drop len o) found.1 in
    let split : take len (o ++ rest) ++ drop len o ≡ o = ap (λ (x : List ℕ). x ++ drop len o) front ∙ take-append-drop len o in
    let own : length (take len (o ++ rest)) ≡ len = ap length front ∙ length-take-le len o inside in
    ap (any_size kind before) (sym split) ∙ again ∙ ap (λ (n : ℕ). Some (size, n)) own

-- The bytes from the offset `head` on are the rest of the first bytes, then zeros.
behind : (front : List ℕ) (len head : ℕ) → head ≤ length front → drop head (with_zeros front len) ≡ drop head front ++ replicate (len - length front) 0
behind front len head inside = drop-append-le head front (replicate (len - length front) 0) inside

room : (front : List ℕ) (len head : ℕ) → length front ≤ len → length (drop head (with_zeros front len)) ≡ len - head
room front len head within = length-drop head (with_zeros front len) ∙ ap (λ (n : ℕ). n - head) (length-with_zeros front len within)

-- A size that is read from the first bytes is a size of the whole.
pub size_in-settled : (kind : Lace) (before : Option ℕ) (front : List ℕ) (len head size octets : ℕ) → AreOctets front → length front ≤ len → head ≤ length front → fitting (len - head) (any_size kind before (drop head front)) ≡ Some (size, octets)
    → (size_in kind before (drop head (with_zeros front len)) ≡ Some (size, octets)) × (head + octets ≤ length front) × (head + octets + size ≤ len)
unfolding size_in
size_in-settled kind before front len head size octets are within inside is =
    let found = fitting-found (len - head) (any_size kind before (drop head front)) size octets is in
    let rest : List ℕ = replicate (len - length front) 0 in
    let whole = any_size-whole kind before (drop head front) rest size octets (AreOctets-drop head front are) found.0 in
    let left = length-drop head front in
    let stands : any_size kind before (drop head (with_zeros front len)) ≡ Some (size, octets) = ap (any_size kind before) (behind front len head inside) ∙ whole.1 in
    let fits : size + octets ≤ length (drop head (with_zeros front len)) = omega (arith, found.1, room front len head within) in (
      ap (fitting (length (drop head (with_zeros front len)))) stands ∙ cond-true (nat_le (size + octets) (length (drop head (with_zeros front len)))) _ _ (le-leb _ _ fits),
      omega (arith, whole.0),
      omega (arith, found.1, whole.0),
    )

-- If none is read, a size of the whole ends after the first bytes.
pub size_in-unsettled : (kind : Lace) (before : Option ℕ) (front : List ℕ) (len head size octets : ℕ) → AreOctets front → length front ≤ len → head ≤ length front → fitting (len - head) (any_size kind before (drop head front)) ≡ None
    → size_in kind before (drop head (with_zeros front len)) ≡ Some (size, octets) → length front < head + octets
unfolding size_in
size_in-unsettled kind before front len head size octets are within inside none stands =
    elim (cases_lt (length front) (head + octets)) [
      | inl past ↦ past
      | inr short ↦ (
          let found = fitting-found (length (drop head (with_zeros front len))) (any_size kind before (drop head (with_zeros front len))) size octets stands in
          let rest : List ℕ = replicate (len - length front) 0 in
          let left = length-drop head front in
          let all : AreOctets (drop head front ++ rest) = subst AreOctets (behind front len head inside) (AreOctets-drop head (with_zeros front len) (AreOctets-with_zeros front len are)) in
          let joined : any_size kind before (drop head front ++ rest) ≡ Some (size, octets) = ap (any_size kind before) (sym (behind front len head inside)) ∙ found.0 in
          let alone = any_size-front kind before (drop head front) rest size octets all joined (omega arith) in
          let fits : size + octets ≤ len - head = omega (arith, found.1, room front len head within) in
          let some : fitting (len - head) (any_size kind before (drop head front)) ≡ Some (size, octets) = ap (fitting (len - head)) alone ∙ cond-true (nat_le (size + octets) (len - head)) _ _ (le-leb _ _ fits) in
          absurd (cc))
    ]

-- ---- sizes in sequence

-- After `head` bytes, which encode sizes with the sum `total`, the other sizes lie in the first bytes and leave room.
abbrev pub settles_rest : List ℕ → ℕ → ℕ → ℕ → Option (List ℕ × ℕ) → Bool
settles_rest front len head total None = false
settles_rest front len head total (Some (sizes, more)) = if nat_le (head + more + (total + sum sizes)) len then nat_le (head + more) (length front) else false

-- At first all sizes are unread.
pub settles_rest-all : (front : List ℕ) (len : ℕ) (found : Option (List ℕ × ℕ)) → settles_rest front len 0 0 found ≡ has_head_within front (with_last len found)
settles_rest-all front len None = refl
settles_rest-all front len (Some (sizes, head)) =
    let place : 0 + head ≡ head = omega arith in
    let all : 0 + sum sizes ≡ sum sizes = omega arith in
    ap (λ (p : ℕ). if nat_le (p + (0 + sum sizes)) len then nat_le p (length front) else false) place
    ∙ ap (λ (t : ℕ). if nat_le (head + t) len then nat_le head (length front) else false) all
    ∙ choose (nat_le (head + sum sizes) len)
  where
    choose : (b : Bool) → (if b then nat_le head (length front) else false) ≡ has_head_within front (if b then Some (sizes ++ (len - head - sum sizes) ∷ [], head) else None)
    choose true = refl
    choose false = refl

-- One step reads a size.
pub settles_rest-more : (kind : Lace) (front : List ℕ) (len head total m n : ℕ) (before : Option ℕ) (rest : List ℕ) (size octets : ℕ) → n ≡ suc m → size_in kind before rest ≡ Some (size, octets)
    → settles_rest front len head total (sizes_in kind n before rest) ≡ settles_rest front len (head + octets) (total + size) (sizes_in kind m (Some size) (drop octets rest))
unfolding sizes_in
settles_rest-more kind front len head total m n before rest size octets count first =
    rw (count, first) (go (sizes_in kind m (Some size) (drop octets rest)))
  where
    go : (found : Option (List ℕ × ℕ)) → settles_rest front len head total (with_size size octets found) ≡ settles_rest front len (head + octets) (total + size) found
    go None = refl
    go (Some (sizes, more)) =
        let joined = sum_by-cons (λ (x : ℕ). x) size sizes in
        let place : head + (octets + more) ≡ head + octets + more = omega arith in
        let all : total + sum (size ∷ sizes) ≡ total + size + sum sizes = omega arith in
        ap (λ (p : ℕ). if nat_le (p + (total + sum (size ∷ sizes))) len then nat_le p (length front) else false) place
        ∙ ap (λ (t : ℕ). if nat_le (head + octets + more + t) len then nat_le (head + octets + more) (length front) else false) all

-- If the next size doesn't lie in the first bytes, the lace isn't settled.
pub settles_rest-stop : (kind : Lace) (front : List ℕ) (len head total n : ℕ) (before : Option ℕ) (rest : List ℕ) → 1 ≤ n → ((size octets : ℕ) → size_in kind before rest ≡ Some (size, octets) → length front < head + octets)
    → settles_rest front len head total (sizes_in kind n before rest) ≡ false
unfolding sizes_in
settles_rest-stop kind front len head total zero before rest some past = absurd (omega arith)
settles_rest-stop kind front len head total (suc m) before rest some past = first (size_in kind before rest) refl
  where
    never : (b : Bool) → (if b then false else false) ≡ false
    never true = refl
    never false = refl

    others : (size octets : ℕ) (found : Option (List ℕ × ℕ)) → length front < head + octets → settles_rest front len head total (with_size size octets found) ≡ false
    others size octets None beyond = refl
    others size octets (Some (sizes, more)) beyond =
        let outside : nat_le (head + (octets + more)) (length front) ≡ false = lt-leb _ _ (omega arith) in
        ap (λ (b : Bool). if nat_le (head + (octets + more) + (total + sum (size ∷ sizes))) len then b else false) outside ∙ never (nat_le (head + (octets + more) + (total + sum (size ∷ sizes))) len)

    first : (found : Option (ℕ × ℕ)) → size_in kind before rest ≡ found → settles_rest front len head total (sizes_in kind (suc m) before rest) ≡ false
    first None is = rw is refl
    first (Some (size, octets)) is = rw is (others size octets (sizes_in kind m (Some size) (drop octets rest)) (past size octets is))

-- If no size is left, the last one gets the bytes that remain.
pub settles_rest-end : (kind : Lace) (front : List ℕ) (len head total n : ℕ) (before : Option ℕ) (rest : List ℕ) → n ≡ 0 → head ≤ length front → settles_rest front len head total (sizes_in kind n before rest) ≡ nat_le (head + total) len
unfolding sizes_in
settles_rest-end kind front len head total n before rest none inside =
    let place : head + 0 ≡ head = omega arith in
    let all : total + 0 ≡ total = omega arith in
    rw none
    (ap (λ (p : ℕ). if nat_le (p + (total + 0)) len then nat_le p (length front) else false) place
    ∙ ap (λ (t : ℕ). if nat_le (head + t) len then nat_le head (length front) else false) all
    ∙ ap (λ (b : Bool). if nat_le (head + total) len then b else false) (le-leb head (length front) inside)
    ∙ same (nat_le (head + total) len))
  where
    same : (b : Bool) → (if b then true else false) ≡ b
    same true = refl
    same false = refl

-- ---- the kinds

pub is_settled-uncounted : (kind : Lace) (count : ℕ) (front : List ℕ) (len : ℕ) → is_frame_count count ≡ false → is_settled kind count front len ≡ false
is_settled-uncounted kind count front len outside = ap (has_head_within front) (lace_in-uncounted kind count (with_zeros front len) outside)

pub is_settled-counted : (kind : Lace) (count : ℕ) (front : List ℕ) (len : ℕ) → is_frame_count count ≡ true → is_settled kind count front len ≡ has_head_within front (frame_sizes_in kind count (with_zeros front len))
is_settled-counted kind count front len inside = ap (has_head_within front) (lace_in-frames kind count (with_zeros front len) inside)

-- A lace without a head is settled if there is one.
headless : (front sizes : List ℕ) (b : Bool) → has_head_within front (if b then Some (sizes, 0) else None) ≡ b
headless front sizes true = le-leb 0 (length front) (omega arith)
headless front sizes false = refl

pub is_settled-none : (count : ℕ) (front : List ℕ) (len : ℕ) → is_frame_count count ≡ true → is_settled lace.None count front len ≡ (count == 1)
is_settled-none count front len inside = is_settled-counted lace.None count front len inside ∙ headless front (length (with_zeros front len) ∷ []) (count == 1)

pub is_settled-fixed : (count : ℕ) (front : List ℕ) (len : ℕ) → is_frame_count count ≡ true → length front ≤ len → is_settled lace.Fixed count front len ≡ (len % count == 0)
is_settled-fixed count front len inside within =
    is_settled-counted lace.Fixed count front len inside
    ∙ headless front (replicate count (length (with_zeros front len) / count)) (length (with_zeros front len) % count == 0)
    ∙ ap (λ (n : ℕ). n % count == 0) (length-with_zeros front len within)

-- A lace with encoded sizes is settled by them.
pub is_settled-spelled : (kind : Lace) (count : ℕ) (front : List ℕ) (len : ℕ) → (kind ≡ lace.Xiph) ⊎ (kind ≡ lace.Ebml) → is_frame_count count ≡ true → length front ≤ len
    → is_settled kind count front len ≡ has_head_within front (with_last len (sizes_in kind (count - 1) None (with_zeros front len)))
is_settled-spelled kind count front len is inside within =
    is_settled-counted kind count front len inside ∙ ap (has_head_within front) (spelled is)
    ∙ ap (λ (n : ℕ). has_head_within front (with_last n (sizes_in kind (count - 1) None (with_zeros front len)))) (length-with_zeros front len within)
  where
    spelled : (kind ≡ lace.Xiph) ⊎ (kind ≡ lace.Ebml) → frame_sizes_in kind count (with_zeros front len) ≡ with_last (length (with_zeros front len)) (sizes_in kind (count - 1) None (with_zeros front len))
    spelled (inl xiph) = rw xiph refl
    spelled (inr ebml) = rw ebml refl
