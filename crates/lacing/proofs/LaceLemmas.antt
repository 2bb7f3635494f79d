-- Laws on lacing: a lace is read as its sizes, and sizes that are read are the sizes of a lace.
use Rattle.std.proofs.Common.{◌≡◌, ◌≢◌, ℕ, zero, suc, ◌+◌, ◌-◌, ◌*◌, ◌/◌, ◌%◌, ◌<◌, ◌≤◌, Bool, true, false, cond, not, ◌==◌, nat_le, nat_lt, List, [], ◌∷◌, ◌++◌, length, take, drop, sum, replicate, slice_index, append-nil, append_assoc, Option, None, Some, Result, Ok, Err, inl, inr, refl, sym, ap, ◌∙◌, subst, arith}
use Rattle.std.specs.List.{prefix_len, All}
use Rattle.std.specs.Option.{option_map}
use Rattle.std.proofs.Math.Nat.{suc-mul, mul-mod_right, mul-div_cancel_left, mod-lt, div-add-mod}
use Rattle.std.proofs.lemmas.List.{length-append, take-append-drop, length-take-le, length-drop, length-replicate, take-append-le, drop_at}
use Rattle.std.proofs.Math.Seq.{take-nil}
use Rattle.std.proofs.lemmas.List.Elements.{All-head, All-tail, All-replicate}
use Rattle.std.proofs.lemmas.List.Sums.{sum_by-cons, sum_by_push}
use Rattle.std.proofs.lemmas.Nat.{div-mul-add, mod-mul-add}
use Rattle.std.proofs.lemmas.Bool.{cases_lt, cases_eq, cond-true, cond-false, lt-ltb, le-ltb, le-leb, leb-true, eq-eqb, eqb-true, ne_eqb}
use Rattle.std.proofs.lemmas.Bool.Decides.{nat_tests}
use Rattle.ebml_numbers.specs.declared.number.SizeRead.{SizeRead}
use Rattle.ebml_numbers.specs.declared.number.Size.{Size}
use Rattle.ebml_numbers.specs.declared.number.Size.TheVariants.{Known, Unknown}
use Rattle.ebml_numbers.specs.declared.number.NumFault.{NumFault}
use Rattle.ebml_numbers.specs.Number.{AreOctets, announced, vint_data, all_ones, size_at, size_of_data}
use Rattle.ebml_numbers.proofs.NumberLemmas.{size_at-reads, size_at-read, size_at-front, size_at-alone}
use Rattle.lacing.specs.declared.kind.Lace.{Lace}
use Rattle.lacing.specs.declared.kind.Lace.TheVariants as lace
use Rattle.lacing.specs.Lace.{xiph_octets, IsFirstSize, bias, IsDifference, IsSpelling, Spells, explicit_sizes, AreEqual, IsLaceHead, IsLace, FindsLace, HasNoLace}
use Rattle.lacing.specs.Reading.{xiph_size, known_size, first_size, data_of, next_size, any_size, fitting, size_in, with_size, size_then, sizes_in, with_last, frame_sizes_in, is_frame_count, lace_in}
use Rattle.ebml_numbers.proofs.SpelledLemmas.{AreOctets-drop}

-- A conditional pair is a pair only if its condition is true.
if_some : {T : Type 0} (b : Bool) (x y : T) (m n : ℕ) → cond {A = Option (T × ℕ)} b (Some (x, m)) None ≡ Some (y, n) → (b ≡ true) × (x ≡ y) × (m ≡ n)
if_some {T} true x y m n is = let pair : (x, m) ≡ (y, n) = cc in (refl, ap (λ (p : T × ℕ). p.0) pair, ap (λ (p : T × ℕ). p.1) pair)
if_some false x y m n is = absurd (cc)

-- ---- one size: Xiph

-- the number of bytes 255 before the first other byte
abbrev run_of : List ℕ → ℕ
run_of octets = prefix_len (λ octet. not (not (octet == 255))) octets

run_of-replicate : (run octet : ℕ) (rest : List ℕ) → octet < 255 → run_of (replicate run 255 ++ octet ∷ rest) ≡ run
run_of-replicate zero octet rest below =
    let other : (octet == 255) ≡ false = ne_eqb octet 255 (λ same. absurd (omega arith)) in
    cond-false (not (not (octet == 255))) _ _ (rw other refl)
run_of-replicate (suc run) octet rest below = let more = run_of-replicate run octet rest below in omega arith

slice_index-replicate : (run octet : ℕ) (rest : List ℕ) → slice_index (replicate run 255 ++ octet ∷ rest) run ≡ octet
slice_index-replicate zero octet rest = refl
slice_index-replicate (suc run) octet rest = slice_index-replicate run octet rest

run_of-255 : (octet : ℕ) (o : List ℕ) → octet ≡ 255 → run_of (octet ∷ o) ≡ suc (run_of o)
run_of-255 octet o same = rw same (omega arith)

run_of-other : (octet : ℕ) (o : List ℕ) → octet ≢ 255 → run_of (octet ∷ o) ≡ 0
run_of-other octet o other = let e : (octet == 255) ≡ false = ne_eqb octet 255 other in cond-false (not (not (octet == 255))) _ _ (rw e refl)

-- A sequence of bytes 255 and the byte after it, if there is one.
run_of-split : (n : ℕ) (o : List ℕ) → run_of o ≡ n → n < length o → (take (suc n) o ≡ replicate n 255 ++ slice_index o n ∷ []) × (slice_index o n ≢ 255)
run_of-split n [] is inside = absurd (omega arith)
run_of-split zero (octet ∷ o) is inside = (refl, λ same. let more = run_of-255 octet o same in absurd (omega arith))
run_of-split (suc n) (octet ∷ o) is inside =
    elim (cases_eq octet 255) [
      | inl same ↦ (
          let more = run_of-255 octet o same in
          let rest = run_of-split n o (omega arith) (omega arith) in
          (rw same (ap (λ (x : List ℕ). 255 ∷ x) rest.0), rest.1))
      | inr other ↦ (let none = run_of-other octet o other in absurd (omega arith))
    ]

xiph_size-at : (o : List ℕ) → run_of o < length o → xiph_size o ≡ Some (255 * run_of o + slice_index o (run_of o), run_of o + 1)
xiph_size-at o inside =
    ap (option_map (λ run. (255 * run + slice_index o run, run + 1))) (cond-true (nat_lt (run_of o) (length o)) _ _ (lt-ltb _ _ inside))

xiph_size-none : (o : List ℕ) → length o ≤ run_of o → xiph_size o ≡ None
xiph_size-none o outside =
    ap (option_map (λ run. (255 * run + slice_index o run, run + 1))) (cond-false (nat_lt (run_of o) (length o)) _ _ (le-ltb _ _ outside))

-- A size that is written is read back, whatever follows it.
xiph_size-again : (size : ℕ) (rest : List ℕ) → xiph_size (xiph_octets size ++ rest) ≡ Some (size, length (xiph_octets size))
xiph_size-again size rest =
    let run = size / 255 in
    let below : size % 255 < 255 = mod-lt size (omega arith) in
    let joined : xiph_octets size ++ rest ≡ replicate run 255 ++ (size % 255 ∷ rest) = append_assoc (replicate run 255) (size % 255 ∷ []) rest in
    let len : length (xiph_octets size) ≡ run + 1 = length-append (replicate run 255) (size % 255 ∷ []) ∙ ap (λ (x : ℕ). x + 1) (length-replicate run 255) in
    let whole = length-append (replicate run 255) (size % 255 ∷ rest) in
    let runs = length-replicate {A = ℕ} run 255 in
    let is : run_of (replicate run 255 ++ (size % 255 ∷ rest)) ≡ run = run_of-replicate run (size % 255) rest below in
    let value = div-add-mod size 255 in
    rw (joined, len) (xiph_size-at (replicate run 255 ++ (size % 255 ∷ rest)) (omega arith) ∙ rw (is, slice_index-replicate run (size % 255) rest, value) refl)

-- The bytes of a size that was read encode it.
xiph_size-found : (o : List ℕ) (size len : ℕ) → AreOctets o → xiph_size o ≡ Some (size, len) → (len ≤ length o) × (take len o ≡ xiph_octets size)
xiph_size-found o size len octets is =
    elim (cases_lt (run_of o) (length o)) [
      | inr outside ↦ (let none = xiph_size-none o outside in absurd (cc))
      | inl inside ↦ (
          let some = xiph_size-at o inside in
          let read : ℕ × ℕ = (255 * run_of o + slice_index o (run_of o), run_of o + 1) in
          let given : ℕ × ℕ = (size, len) in
          let same : Some read ≡ Some given = sym some ∙ is in
          let pair : read ≡ given = cc in
          let is_size : 255 * run_of o + slice_index o (run_of o) ≡ size = ap (λ (x : ℕ × ℕ). x.0) pair in
          let is_len : suc (run_of o) ≡ len = omega (arith, ap (λ (x : ℕ × ℕ). x.1) pair) in
          let split = run_of-split (run_of o) o refl inside in
          let octet = octets (run_of o) in
          let below : slice_index o (run_of o) < 255 = omega (arith, octet, split.1) in
          let turned : run_of o * 255 + slice_index o (run_of o) ≡ size = omega arith in
          let run : size / 255 ≡ run_of o = rw (← turned) (div-mul-add (run_of o) 255 (slice_index o (run_of o)) below) in
          let last : size % 255 ≡ slice_index o (run_of o) = rw (← turned) (mod-mul-add (run_of o) 255 (slice_index o (run_of o)) below) in
          (omega arith, rw (← is_len, run, last) split.0))
    ]

-- ---- one size: EBML

-- Data that were read as a size are returned.
pub data_of-size : (w v : ℕ) → data_of (size_of_data w v) w ≡ v
data_of-size w v =
    let P : Size → Type 0 = λ size. data_of size w ≡ v in
    elim (cases_eq v (all_ones w)) [
      | inl same ↦ subst P (sym (cond-true (v == all_ones w) Unknown (Known v) (eq-eqb v (all_ones w) same))) (sym same)
      | inr other ↦ subst P (sym (cond-false (v == all_ones w) Unknown (Known v) (ne_eqb v (all_ones w) other))) refl
    ]

-- A complete variable-size integer is read as a size, whatever follows it.
vint-again : (one rest : List ℕ) → announced one ≡ length one → length one ≤ 8 → size_at (one ++ rest) ≡ Ok (record { size = size_of_data (length one) (vint_data (length one) one); len = length one })
vint-again one rest whole few =
    let read : SizeRead = record { size = size_of_data (length one) (vint_data (length one) one); len = length one } in
    let alone : size_at one ≡ Ok read = size_at-read one read (record { announced = whole; few = few; inside = omega arith; size = refl }) in
    size_at-front one (one ++ rest) read alone (take-append-le (length one) one rest (omega arith))

next_size-again : (before size : ℕ) (one rest : List ℕ) → IsDifference before size one → next_size before (size_at (one ++ rest)) ≡ Some (size, length one)
next_size-again before size one rest is =
    let n = length one in
    let value = data_of-size n (vint_data n one) in
    let sum = is.sum in
    rw (vint-again one rest is.whole is.few, value, sum)
    (cond-true (nat_le (bias n) (size + bias n)) _ _ (le-leb _ _ (omega arith)) ∙ ap (λ (x : ℕ). Some (x, n)) (omega arith))

first_size-again : (size : ℕ) (one rest : List ℕ) → IsFirstSize size one → first_size (size_at (one ++ rest)) ≡ Some (size, length one)
first_size-again size one rest is =
    let joined = size_at-front one (one ++ rest) (record { size = Known size; len = length one }) is (take-append-le (length one) one rest (omega arith)) in
    rw joined refl

-- The bytes of a size that was read encode it.
known_size-is : (s : Size) (l size len : ℕ) → known_size s l ≡ Some (size, len) → (s ≡ Known size) × (l ≡ len)
known_size-is (Known s) l size len is =
    let pair : (s, l) ≡ (size, len) = cc in
    (ap (λ (x : ℕ × ℕ). Known x.0) pair, ap (λ (x : ℕ × ℕ). x.1) pair)
known_size-is Unknown l size len is = absurd (cc)

first_size-found : (o : List ℕ) (size len : ℕ) → first_size (size_at o) ≡ Some (size, len) → (len ≤ length o) × IsFirstSize size (take len o)
first_size-found o size len is = go (size_at o) refl is
  where
    go : (r : Result SizeRead NumFault) → size_at o ≡ r → first_size r ≡ Some (size, len) → (len ≤ length o) × IsFirstSize size (take len o)
    go (Err fault) read e = absurd (cc)
    go (Ok r) read e =
        let known = known_size-is r.size r.len size len e in
        let same : r ≡ record { size = Known size; len = len } = rw (← known.0, ← known.1) refl in
        let inside : len ≤ length o = omega (arith, (size_at-reads o r read).inside, known.1) in
        let taken : length (take len o) ≡ len = length-take-le len o inside in
        let alone : size_at (take len o) ≡ Ok (record { size = Known size; len = len }) = rw (← same, ← known.1) (size_at-alone o r read) in
        (inside, rw taken alone)

next_size-found : (before : ℕ) (o : List ℕ) (size len : ℕ) → next_size before (size_at o) ≡ Some (size, len) → (len ≤ length o) × IsDifference before size (take len o)
next_size-found before o size len is = go (size_at o) refl is
  where
    go : (r : Result SizeRead NumFault) → size_at o ≡ r → next_size before r ≡ Some (size, len) → (len ≤ length o) × IsDifference before size (take len o)
    go (Err fault) read e = absurd (cc)
    go (Ok r) read e =
        let some = if_some (nat_le (bias r.len) (before + data_of r.size r.len)) (before + data_of r.size r.len - bias r.len) size r.len len e in
        let more = leb-true _ _ some.0 in
        let inside : len ≤ length o = omega (arith, (size_at-reads o r read).inside, some.2) in
        let own = size_at-reads (take r.len o) r (size_at-alone o r read) in
        let data_is : data_of r.size r.len ≡ vint_data r.len (take r.len o) = ap (λ x. data_of x r.len) (sym own.size) ∙ data_of-size r.len (vint_data r.len (take r.len o)) in
        let taken : length (take r.len o) ≡ r.len = length-take-le r.len o (omega (arith, some.2)) in
        let is_difference : IsDifference before size (take r.len o) = record {
          whole = own.announced ∙ sym taken;
          few = omega (arith, own.few);
          sum = rw taken (rw data_is at (let e : before + data_of r.size r.len ≡ size + bias r.len = omega (arith, some.1) in e));
        } in
        let P : ℕ → Type 0 = λ n. IsDifference before size (take n o) in
        (inside, subst P some.2 is_difference)

-- ---- one size of any kind, whose frame fits

pub any_size-again : (kind : Lace) (before : Option ℕ) (size : ℕ) (one rest : List ℕ) → IsSpelling kind before size one → any_size kind before (one ++ rest) ≡ Some (size, length one)
any_size-again lace.None before size one rest is = absurd is
any_size-again lace.Xiph before size one rest is =
    let P : List ℕ → Type 0 = λ o. xiph_size (o ++ rest) ≡ Some (size, length o) in
    subst P (sym is) (xiph_size-again size rest)
any_size-again lace.Fixed before size one rest is = absurd is
any_size-again lace.Ebml None size one rest is = first_size-again size one rest is
any_size-again lace.Ebml (Some before) size one rest is = next_size-again before size one rest is

pub any_size-found : (kind : Lace) (before : Option ℕ) (o : List ℕ) (size len : ℕ) → AreOctets o → any_size kind before o ≡ Some (size, len) → (len ≤ length o) × IsSpelling kind before size (take len o)
any_size-found lace.None before o size len octets is = absurd (cc)
any_size-found lace.Xiph before o size len octets is = xiph_size-found o size len octets is
any_size-found lace.Fixed before o size len octets is = absurd (cc)
any_size-found lace.Ebml None o size len octets is = first_size-found o size len is
any_size-found lace.Ebml (Some before) o size len octets is = next_size-found before o size len is

size_in-again : (kind : Lace) (before : Option ℕ) (size : ℕ) (one rest : List ℕ) → IsSpelling kind before size one → size ≤ length rest → size_in kind before (one ++ rest) ≡ Some (size, length one)
unfolding size_in
size_in-again kind before size one rest is fits =
    let whole = length-append one rest in
    ap (fitting (length (one ++ rest))) (any_size-again kind before size one rest is)
    ∙ cond-true (nat_le (size + length one) (length (one ++ rest))) _ _ (le-leb _ _ (omega arith))

pub fitting-found : (total : ℕ) (o : Option (ℕ × ℕ)) (size len : ℕ) → fitting total o ≡ Some (size, len) → (o ≡ Some (size, len)) × (size + len ≤ total)
fitting-found total None size len is = absurd (cc)
fitting-found total (Some (s, l)) size len is =
    let some = if_some (nat_le (s + l) total) s size l len is in
    (ap (λ (x : ℕ). Some (x, l)) some.1 ∙ ap (λ (x : ℕ). Some (size, x)) some.2, omega (arith, leb-true _ _ some.0, some.1, some.2))

size_in-found : (kind : Lace) (before : Option ℕ) (o : List ℕ) (size len : ℕ) → AreOctets o → size_in kind before o ≡ Some (size, len) → (size + len ≤ length o) × IsSpelling kind before size (take len o)
unfolding size_in
size_in-found kind before o size len octets is =
    let found = fitting-found (length o) (any_size kind before o) size len is in
    (found.1, (any_size-found kind before o size len octets found.0).1)

-- ---- sizes in sequence

-- Sizes that are written are read back, whatever follows them, if their frames fit.
sizes_in-again : (kind : Lace) (before : Option ℕ) (sizes head rest : List ℕ) → Spells kind before sizes head → sum sizes ≤ length rest → sizes_in kind (length sizes) before (head ++ rest) ≡ Some (sizes, length head)
unfolding sizes_in
sizes_in-again kind before [] head rest spells fits = rw spells refl
sizes_in-again kind before (size ∷ sizes) head rest spells fits =
    let one = spells.0 in
    let more = spells.1 in
    let joined : head ++ rest ≡ one ++ (more ++ rest) = ap (λ (x : List ℕ). x ++ rest) spells.2 ∙ append_assoc one more rest in
    let len : length head ≡ length one + length more = ap length spells.2 ∙ length-append one more in
    let behind = length-append more rest in
    let total = sum_by-cons (λ (x : ℕ). x) size sizes in
    let first = size_in-again kind before size one (more ++ rest) spells.3 (omega arith) in
    let left : drop (length one) (one ++ (more ++ rest)) ≡ more ++ rest = drop_at one (more ++ rest) (length one) refl in
    let others = sizes_in-again kind (Some size) sizes more rest spells.4 (omega arith) in
    rw (joined, len) (ap (λ x. size_then x (λ s l. sizes_in kind (length sizes) (Some s) (drop l (one ++ (more ++ rest))))) first ∙ rw (left, others) refl)

-- The list is a size that was read, and the sizes after it.
record IsSizeThen (first : Option (ℕ × ℕ)) (others : ℕ → ℕ → Option (List ℕ × ℕ)) (sizes : List ℕ) (head : ℕ) : Type 0 where
  size : ℕ
  len : ℕ
  more : List ℕ
  rest : ℕ
  first_is : first ≡ Some (size, len)
  others_are : others size len ≡ Some (more, rest)
  sizes_are : size ∷ more ≡ sizes
  head_is : len + rest ≡ head

size_then-found : (first : Option (ℕ × ℕ)) (others : ℕ → ℕ → Option (List ℕ × ℕ)) (sizes : List ℕ) (head : ℕ) → size_then first others ≡ Some (sizes, head) → IsSizeThen first others sizes head
size_then-found None others sizes head is = absurd (cc)
size_then-found (Some (s, l)) others sizes head is = go (others s l) refl is
  where
    go : (o : Option (List ℕ × ℕ)) → others s l ≡ o → with_size s l o ≡ Some (sizes, head) → IsSizeThen (Some (s, l)) others sizes head
    go None there e = absurd (cc)
    go (Some (m, r)) there e =
        let joined : List ℕ × ℕ = (s ∷ m, l + r) in
        let given : List ℕ × ℕ = (sizes, head) in
        let pair : joined ≡ given = cc in
        record {
          size = s;
          len = l;
          more = m;
          rest = r;
          first_is = refl;
          others_are = there;
          sizes_are = ap (λ (x : List ℕ × ℕ). x.0) pair;
          head_is = ap (λ (x : List ℕ × ℕ). x.1) pair;
        }

take-add : (m n : ℕ) (o : List ℕ) → take (m + n) o ≡ take m o ++ take n (drop m o)
take-add zero n o = ap (λ (x : ℕ). take x o) (omega arith)
take-add (suc m) n [] = let e : suc m + n ≡ suc (m + n) = omega arith in rw e (sym (take-nil n))
take-add (suc m) n (x ∷ o) = let e : suc m + n ≡ suc (m + n) = omega arith in rw e (ap (λ (y : List ℕ). x ∷ y) (take-add m n o))

-- The bytes of sizes that were read encode them, and their frames fit after them.
sizes_in-found : (kind : Lace) (n : ℕ) (before : Option ℕ) (o sizes : List ℕ) (head : ℕ) → AreOctets o → sizes_in kind n before o ≡ Some (sizes, head)
    → (length sizes ≡ n) × (head ≤ length o) × Spells kind before sizes (take head o)
unfolding sizes_in
sizes_in-found kind zero before o sizes head octets is =
    let none : List ℕ × ℕ = ([], 0) in
    let given : List ℕ × ℕ = (sizes, head) in
    let pair : none ≡ given = cc in
    let P : List ℕ × ℕ → Type 0 = λ x. (length x.0 ≡ 0) × (x.1 ≤ length o) × Spells kind before x.0 (take x.1 o) in
    subst P pair (refl, omega arith, refl)
sizes_in-found kind (suc n) before o sizes head octets is =
    let found = size_then-found (size_in kind before o) (λ size len. sizes_in kind n (Some size) (drop len o)) sizes head is in
    let size = found.size in
    let len = found.len in
    let first = size_in-found kind before o size len octets found.first_is in
    let others = sizes_in-found kind n (Some size) (drop len o) found.more found.rest (AreOctets-drop len o octets) found.others_are in
    let left = length-drop len o in
    let P : List ℕ → ℕ → Type 0 = λ ss h. (length ss ≡ suc n) × (h ≤ length o) × Spells kind before ss (take h o) in
    let joined : P (size ∷ found.more) (len + found.rest) = (
      omega (arith, others.0),
      omega (arith, others.1, first.0),
      (take len o, take found.rest (drop len o), take-add len found.rest o, first.1, others.2),
    ) in
    subst (λ (h : ℕ). P sizes h) found.head_is (subst (λ (ss : List ℕ). P ss (len + found.rest)) found.sizes_are joined)

-- ---- whole laces

-- A list is all sizes except the last, then the last.
explicit_sizes-push : (sizes : List ℕ) (last : ℕ) → explicit_sizes (sizes ++ last ∷ []) ≡ sizes
explicit_sizes-push [] last = refl
explicit_sizes-push (size ∷ []) last = refl
explicit_sizes-push (size ∷ (next ∷ sizes)) last = ap (λ (x : List ℕ). size ∷ x) (explicit_sizes-push (next ∷ sizes) last)

pub last_of : List ℕ → ℕ
last_of [] = 0
last_of (size ∷ []) = size
last_of (size ∷ (next ∷ sizes)) = last_of (next ∷ sizes)

pub explicit_sizes-split : (sizes : List ℕ) → 1 ≤ length sizes → sizes ≡ explicit_sizes sizes ++ last_of sizes ∷ []
unfolding last_of
explicit_sizes-split [] some = absurd (omega arith)
explicit_sizes-split (size ∷ []) some = refl
explicit_sizes-split (size ∷ (next ∷ sizes)) some = ap (λ (x : List ℕ). size ∷ x) (explicit_sizes-split (next ∷ sizes) (omega arith))

-- Equal sizes are repetitions of the first.
AreEqual-replicate : (size : ℕ) (sizes : List ℕ) → All (λ other. other ≡ size) sizes → sizes ≡ replicate (length sizes) size
AreEqual-replicate size [] equal = refl
AreEqual-replicate size (s ∷ sizes) equal =
    let here : s ≡ size = All-head (λ other. other ≡ size) s sizes equal in
    let there = AreEqual-replicate size sizes (All-tail (λ other. other ≡ size) s sizes equal) in
    ap (λ (x : ℕ). x ∷ sizes) here ∙ ap (λ (x : List ℕ). size ∷ x) there

replicate-AreEqual : (n size : ℕ) → AreEqual (replicate n size)
replicate-AreEqual zero size = tt
replicate-AreEqual (suc n) size = All-replicate (λ other. other ≡ size) n size refl

sum-replicate : (n size : ℕ) → sum (replicate n size) ≡ n * size
sum-replicate zero size = omega arith
sum-replicate (suc n) size = sum_by-cons (λ (x : ℕ). x) size (replicate n size) ∙ ap (λ (x : ℕ). size + x) (sum-replicate n size) ∙ (let more = suc-mul n size in omega arith)

-- The sizes of a written lace are read back.
spelled-again : (kind : Lace) (head sizes rest : List ℕ) → 1 ≤ length sizes → Spells kind None (explicit_sizes sizes) head → sum sizes ≡ length rest
    → with_last (length (head ++ rest)) (sizes_in kind (length sizes - 1) None (head ++ rest)) ≡ Some (sizes, length head)
spelled-again kind head sizes rest some spells fits =
    let split = explicit_sizes-split sizes some in
    let count : length sizes ≡ length (explicit_sizes sizes) + 1 = ap length split ∙ length-append (explicit_sizes sizes) (last_of sizes ∷ []) in
    let total : sum sizes ≡ sum (explicit_sizes sizes) + last_of sizes = ap sum split ∙ sum_by_push (λ (x : ℕ). x) (explicit_sizes sizes) (last_of sizes) in
    let whole = length-append head rest in
    let fewer : length sizes - 1 ≡ length (explicit_sizes sizes) = omega arith in
    let read = sizes_in-again kind None (explicit_sizes sizes) head rest spells (omega arith) in
    let last : length (head ++ rest) - length head - sum (explicit_sizes sizes) ≡ last_of sizes = omega arith in
    let joined : explicit_sizes sizes ++ (length (head ++ rest) - length head - sum (explicit_sizes sizes)) ∷ [] ≡ sizes = rw last (sym split) in
    rw (fewer, read) (cond-true (nat_le (length head + sum (explicit_sizes sizes)) (length (head ++ rest))) _ _ (le-leb _ _ (omega arith))
    ∙ ap (λ (ss : List ℕ). Some (ss, length head)) joined)

-- Sizes that were read are the sizes of a lace.
spelled-found : (kind : Lace) (n : ℕ) (o sizes : List ℕ) (head : ℕ) → AreOctets o → 1 ≤ n → with_last (length o) (sizes_in kind (n - 1) None o) ≡ Some (sizes, head)
    → (length sizes ≡ n) × (head ≤ length o) × Spells kind None (explicit_sizes sizes) (take head o) × (head + sum sizes ≡ length o)
spelled-found kind n o sizes head octets some is = go (sizes_in kind (n - 1) None o) refl is
  where
    go : (found : Option (List ℕ × ℕ)) → sizes_in kind (n - 1) None o ≡ found → with_last (length o) found ≡ Some (sizes, head)
        → (length sizes ≡ n) × (head ≤ length o) × Spells kind None (explicit_sizes sizes) (take head o) × (head + sum sizes ≡ length o)
    go None there e = absurd (cc)
    go (Some (ss, h)) there e =
        let last = length o - h - sum ss in
        let both = if_some (nat_le (h + sum ss) (length o)) (ss ++ last ∷ []) sizes h head e in
        let fits = leb-true _ _ both.0 in
        let found = sizes_in-found kind (n - 1) None o ss h octets there in
        let count = length-append ss (last ∷ []) in
        let total = sum_by_push (λ (x : ℕ). x) ss last in
        let P : List ℕ → ℕ → Type 0 = λ all x. (length all ≡ n) × (x ≤ length o) × Spells kind None (explicit_sizes all) (take x o) × (x + sum all ≡ length o) in
        let whole : P (ss ++ last ∷ []) h = (omega (arith, found.0), found.1, rw (explicit_sizes-push ss last) found.2, omega arith) in
        subst (λ (x : ℕ). P sizes x) both.2 (subst (λ (all : List ℕ). P all h) both.1 whole)

-- ---- all kinds

is_frame_count-true : (n : ℕ) → 1 ≤ n → n ≤ 256 → is_frame_count n ≡ true
is_frame_count-true n some most = grind (arith, nat_tests)

is_frame_count-range : (n : ℕ) → is_frame_count n ≡ true → (1 ≤ n) × (n ≤ 256)
is_frame_count-range n is = grind (arith, nat_tests)

one_size : (sizes : List ℕ) (total : ℕ) → length sizes ≡ 1 → sum sizes ≡ total → sizes ≡ total ∷ []
one_size [] total one whole = absurd (omega arith)
one_size (size ∷ []) total one whole = let s = sum_by-cons (λ (x : ℕ). x) size [] in ap (λ (x : ℕ). x ∷ []) (omega arith)
one_size (size ∷ (next ∷ sizes)) total one whole = absurd (omega arith)

equal_sizes : (sizes : List ℕ) (total : ℕ) → 1 ≤ length sizes → AreEqual sizes → sum sizes ≡ total → (total % length sizes ≡ 0) × (sizes ≡ replicate (length sizes) (total / length sizes))
equal_sizes [] total some equal whole = absurd (omega arith)
equal_sizes (size ∷ sizes) total some equal whole =
    let n = length (size ∷ sizes) in
    let repeated : size ∷ sizes ≡ replicate n size = ap (λ (x : List ℕ). size ∷ x) (AreEqual-replicate size sizes equal) in
    let product : n * size ≡ total = sym (sum-replicate n size) ∙ ap sum (sym repeated) ∙ whole in
    let quotient : total / n ≡ size = ap (λ (x : ℕ). x / n) (sym product) ∙ mul-div_cancel_left size some in
    let even : total % n ≡ 0 = ap (λ (x : ℕ). x % n) (sym product) ∙ mul-mod_right n size in
    (even, rw quotient repeated)

frame_sizes_in-again : (kind : Lace) (head sizes rest : List ℕ) → 1 ≤ length sizes → IsLaceHead kind head sizes → sum sizes ≡ length rest → frame_sizes_in kind (length sizes) (head ++ rest) ≡ Some (sizes, length head)
frame_sizes_in-again lace.None head sizes rest some is fits =
    let none = is.1 in
    rw none (cond-true (length sizes == 1) _ _ (eq-eqb _ _ is.0) ∙ ap (λ (ss : List ℕ). Some (ss, 0)) (sym (one_size sizes (length rest) is.0 fits)))
frame_sizes_in-again lace.Xiph head sizes rest some is fits = spelled-again lace.Xiph head sizes rest some is fits
frame_sizes_in-again lace.Fixed head sizes rest some is fits =
    let none = is.1 in
    let equal = equal_sizes sizes (length rest) some is.0 fits in
    rw none (cond-true (length rest % length sizes == 0) _ _ (eq-eqb _ _ equal.0) ∙ ap (λ (ss : List ℕ). Some (ss, 0)) (sym equal.1))
frame_sizes_in-again lace.Ebml head sizes rest some is fits = spelled-again lace.Ebml head sizes rest some is fits

-- A lace is read as its sizes.
pub lace_in-again : (kind : Lace) (head sizes rest : List ℕ) → IsLace kind head sizes (length (head ++ rest)) → lace_in kind (length sizes) (head ++ rest) ≡ Some (sizes, length head)
unfolding lace_in
lace_in-again kind head sizes rest is =
    let whole = length-append head rest in
    cond-true (is_frame_count (length sizes)) _ _ (is_frame_count-true (length sizes) is.some is.most)
    ∙ frame_sizes_in-again kind head sizes rest is.some is.spelled (omega (arith, is.whole))

frame_sizes_in-found : (kind : Lace) (n : ℕ) (o sizes : List ℕ) (head : ℕ) → AreOctets o → 1 ≤ n → frame_sizes_in kind n o ≡ Some (sizes, head)
    → (length sizes ≡ n) × (head ≤ length o) × IsLaceHead kind (take head o) sizes × (head + sum sizes ≡ length o)
frame_sizes_in-found lace.None n o sizes head octets some is =
    let found = if_some (n == 1) (length o ∷ []) sizes 0 head is in
    let one = eqb-true n 1 found.0 in
    let P : List ℕ → ℕ → Type 0 = λ ss h. (length ss ≡ n) × (h ≤ length o) × IsLaceHead lace.None (take h o) ss × (h + sum ss ≡ length o) in
    let total = sum_by-cons (λ (x : ℕ). x) (length o) [] in
    let whole : P (length o ∷ []) 0 = (omega arith, omega arith, (omega arith, refl), omega arith) in
    subst (λ (h : ℕ). P sizes h) found.2 (subst (λ (ss : List ℕ). P ss 0) found.1 whole)
frame_sizes_in-found lace.Xiph n o sizes head octets some is = spelled-found lace.Xiph n o sizes head octets some is
frame_sizes_in-found lace.Fixed n o sizes head octets some is =
    let size = length o / n in
    let found = if_some (length o % n == 0) (replicate n size) sizes 0 head is in
    let even = eqb-true (length o % n) 0 found.0 in
    let P : List ℕ → ℕ → Type 0 = λ ss h. (length ss ≡ n) × (h ≤ length o) × IsLaceHead lace.Fixed (take h o) ss × (h + sum ss ≡ length o) in
    let count = length-replicate {A = ℕ} n size in
    let total = sum-replicate n size in
    let split = div-add-mod (length o) n in
    let whole : P (replicate n size) 0 = (count, omega arith, (replicate-AreEqual n size, refl), omega arith) in
    subst (λ (h : ℕ). P sizes h) found.2 (subst (λ (ss : List ℕ). P ss 0) found.1 whole)
frame_sizes_in-found lace.Ebml n o sizes head octets some is = spelled-found lace.Ebml n o sizes head octets some is

-- Sizes that were read are the sizes of a lace.
pub lace_in-found : (kind : Lace) (n : ℕ) (o sizes : List ℕ) (head : ℕ) → AreOctets o → lace_in kind n o ≡ Some (sizes, head) → FindsLace kind n o sizes head
unfolding lace_in
lace_in-found kind n o sizes head octets is = go (is_frame_count n) refl is
  where
    go : (b : Bool) → is_frame_count n ≡ b → cond {A = Option (List ℕ × ℕ)} b (frame_sizes_in kind n o) None ≡ Some (sizes, head) → FindsLace kind n o sizes head
    go false test e = absurd (cc)
    go true test e =
        let range = is_frame_count-range n test in
        let found = frame_sizes_in-found kind n o sizes head octets range.0 e in
        let own = length-take-le head o found.1 in
        record {
          count = found.0;
          inside = found.1;
          lace = record { some = omega (arith, found.0, range.0); most = omega (arith, found.0, range.1); spelled = found.2; whole = omega (arith, found.3) };
        }

-- A lace at the start of the bytes is read.
pub lace_in-finds : (kind : Lace) (n : ℕ) (o sizes : List ℕ) (head : ℕ) → FindsLace kind n o sizes head → lace_in kind n o ≡ Some (sizes, head)
lace_in-finds kind n o sizes head finds =
    let split : take head o ++ drop head o ≡ o = take-append-drop head o in
    let lace : IsLace kind (take head o) sizes (length (take head o ++ drop head o)) = subst (λ (x : List ℕ). IsLace kind (take head o) sizes (length x)) (sym split) finds.lace in
    let own = length-take-le head o finds.inside in
    sym (ap (λ (m : ℕ). lace_in kind m o) finds.count) ∙ sym (ap (lace_in kind (length sizes)) split)
    ∙ lace_in-again kind (take head o) sizes (drop head o) lace ∙ ap (λ (m : ℕ). Some (sizes, m)) own

-- If nothing is read, no prefix of the bytes is the head of a lace.
pub lace_in-none : (kind : Lace) (n : ℕ) (o : List ℕ) → lace_in kind n o ≡ None → HasNoLace kind n o
lace_in-none kind n o none = λ head rest sizes split count is.
    let P : List ℕ → Type 0 = λ x. IsLace kind head sizes (length x) in
    let again = lace_in-again kind head sizes rest (subst P split is) in
    let there : lace_in kind (length sizes) (head ++ rest) ≡ None = rw (← split, count) none in
    let L : ℕ → List ℕ → Option (List ℕ × ℕ) = lace_in kind in
    absurd (cc)

-- Lists of the same number of sizes, with the same kind, head and total, are equal.
pub IsLace-unique : (kind : Lace) (head a b : List ℕ) (total : ℕ) → length a ≡ length b → IsLace kind head a total → IsLace kind head b total → a ≡ b
IsLace-unique kind head a b total count one other =
    let rest : List ℕ = replicate (sum a) 0 in
    let len = length-replicate {A = ℕ} (sum a) 0 in
    let whole : total ≡ length (head ++ rest) = omega (arith, one.whole, length-append head rest) in
    let P : List ℕ → ℕ → Type 0 = λ sizes n. IsLace kind head sizes n in
    let first = lace_in-again kind head a rest (subst (λ (n : ℕ). P a n) whole one) in
    let second = lace_in-again kind head b rest (subst (λ (n : ℕ). P b n) whole other) in
    let turned : lace_in kind (length a) (head ++ rest) ≡ Some (b, length head) = rw count second in
    let x : List ℕ × ℕ = (a, length head) in
    let y : List ℕ × ℕ = (b, length head) in
    let same : x ≡ y = cc in
    ap (λ (p : List ℕ × ℕ). p.0) same

-- ---- reading in steps

-- the sizes `front`, read from `octets` bytes, before others
abbrev pub with_front : List ℕ → ℕ → Option (List ℕ × ℕ) → Option (List ℕ × ℕ)
with_front front octets None = None
with_front front octets (Some (sizes, head)) = Some (front ++ sizes, octets + head)

pub lace_in-frames : (kind : Lace) (n : ℕ) (o : List ℕ) → is_frame_count n ≡ true → lace_in kind n o ≡ frame_sizes_in kind n o
unfolding lace_in
lace_in-frames kind n o inside = cond-true (is_frame_count n) _ _ inside

pub lace_in-uncounted : (kind : Lace) (n : ℕ) (o : List ℕ) → is_frame_count n ≡ false → lace_in kind n o ≡ None
unfolding lace_in
lace_in-uncounted kind n o outside = cond-false (is_frame_count n) _ _ outside

-- One step moves a size from the unread sizes to the read ones.
pub with_front-step : (kind : Lace) (items : List ℕ) (h m n : ℕ) (before : Option ℕ) (rest : List ℕ) (size len : ℕ) → n ≡ suc m → size_in kind before rest ≡ Some (size, len)
    → with_front items h (sizes_in kind n before rest) ≡ with_front (items ++ size ∷ []) (h + len) (sizes_in kind m (Some size) (drop len rest))
unfolding sizes_in
with_front-step kind items h m n before rest size len count first =
    rw (count, first) (go (sizes_in kind m (Some size) (drop len rest)))
  where
    go : (found : Option (List ℕ × ℕ)) → with_front items h (with_size size len found) ≡ with_front (items ++ size ∷ []) (h + len) found
    go None = refl
    go (Some (sizes, head)) =
        ap (λ (x : List ℕ). Some (x, h + (len + head))) (sym (append_assoc items (size ∷ []) sizes)) ∙ ap (λ (x : ℕ). Some ((items ++ size ∷ []) ++ sizes, x)) (omega arith)

-- If the next size isn't read, the lace isn't.
pub with_front-stop : (kind : Lace) (items : List ℕ) (h n : ℕ) (before : Option ℕ) (rest : List ℕ) → 1 ≤ n → size_in kind before rest ≡ None → with_front items h (sizes_in kind n before rest) ≡ None
unfolding sizes_in
with_front-stop kind items h zero before rest some none = absurd (omega arith)
with_front-stop kind items h (suc n) before rest some none = rw none refl

-- If no size is left, the read ones are all.
pub with_front-end : (kind : Lace) (items : List ℕ) (h n : ℕ) (before : Option ℕ) (rest : List ℕ) → n ≡ 0 → with_front items h (sizes_in kind n before rest) ≡ Some (items, h)
unfolding sizes_in
with_front-end kind items h n before rest none =
    rw none (ap (λ (x : List ℕ). Some (x, h + 0)) (append-nil items) ∙ ap (λ (x : ℕ). Some (items, x)) (omega arith))
