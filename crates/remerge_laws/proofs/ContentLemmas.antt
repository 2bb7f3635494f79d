-- Elements with one ID that are written alike have the same content.
use Rattle.std.proofs.Common.{◌≡◌, ◌≤◌, ◌<◌, ℕ, ◌+◌, nat_lt, false, Bool, List, [], ◌∷◌, ◌++◌, length, find, if◌then◌else◌, All, Option, None, refl, sym, ap, ◌∙◌, arith, unwrap_or, inl, inr}
use Rattle.std.proofs.lemmas.Bool.Decides.{nat_tests}
use Rattle.std.proofs.lemmas.List.{append_cancel_left}
use Rattle.std.proofs.lemmas.List.Elements.{All-from_recursion, All-head, All-tail}
use Rattle.std.proofs.lemmas.Bool.{cases_lt, cases_order}
use Rattle.ebml_numbers.specs.Number.{IsLeastWidth, all_ones, least_size_width, uint_width}
use Rattle.ebml_numbers.proofs.WidthLemmas.{least_size_width-IsLeast}
use Rattle.tree_format.specs.NormalForm.{element_octets, header_octets, is_filler, kept_octets, longest}
use Rattle.tree_format.proofs.WrittenLemmas.{length-kept_octets}

none-passes : (p : ℕ → Bool) (ks : List ℕ) → All (λ k. p k ≡ false) ks → find p ks ≡ None
none-passes p [] none = refl
none-passes p (k ∷ ks) none = rw (All-head (λ k. p k ≡ false) k ks none) (none-passes p ks (All-tail (λ k. p k ≡ false) k ks none))

-- A value that is too large for a size has a width of eight bytes.
wide : (v : ℕ) → all_ones 8 ≤ v → least_size_width v ≡ 8
unfolding least_size_width
wide v large =
    let p : ℕ → Bool = λ w. nat_lt v (all_ones w) in
    ap (λ (o : Option ℕ). unwrap_or o 8)
    (none-passes p (1 ∷ 2 ∷ 3 ∷ 4 ∷ 5 ∷ 6 ∷ 7 ∷ 8 ∷ [])
    (All-from_recursion (λ k. p k ≡ false) (1 ∷ 2 ∷ 3 ∷ 4 ∷ 5 ∷ 6 ∷ 7 ∷ 8 ∷ [])
    (grind (arith, nat_tests), (grind (arith, nat_tests), (grind (arith, nat_tests), (grind (arith, nat_tests), (grind (arith, nat_tests), (grind (arith, nat_tests), (grind (arith, nat_tests), (grind (arith, nat_tests), tt))))))))))

-- A longer body has at least the same width of size.
wider : (v w : ℕ) → v ≤ w → v ≤ longest → least_size_width v ≤ least_size_width w
wider v w more short = elim (cases_lt w (all_ones 8)) [
  | inl below ↦
      let other = least_size_width-IsLeast w below in
      let fits : w < all_ones (least_size_width w) = other.fits in
      least.least (least_size_width w) other.some (omega (arith, fits, more))
  | inr above ↦
      let full : least_size_width w ≡ 8 = wide w above in
      let most = least.most in
      omega (arith, full, most)
]
  where
    least : IsLeastWidth (λ k. v < all_ones k) (least_size_width v)
    least = least_size_width-IsLeast v (omega arith)

-- Equal written forms have equal bodies.
pub same-body : (id : ℕ) (a b : List ℕ) → is_filler id ≡ false → length a ≤ longest → kept_octets id a ≡ kept_octets id b → a ≡ b
same-body id a b keeps short same = elim (cases_order (length a) (length b)) [
  | inl equal ↦ append_cancel_left (header_octets id (length a)) a b (whole ∙ ap (λ (n : ℕ). header_octets id n ++ b) (sym equal))
  | inr (inl below) ↦ absurd (let w = wider (length a) (length b) (omega arith) short in omega (arith, long, w, below))
  | inr (inr below) ↦ absurd (let w = wider (length b) (length a) (omega arith) (omega arith) in omega (arith, long, w, below))
]
  where
    long : uint_width id + least_size_width (length a) + length a ≡ uint_width id + least_size_width (length b) + length b
    long = sym (length-kept_octets id a (length a) refl keeps) ∙ ap length same ∙ length-kept_octets id b (length b) refl keeps

    whole : header_octets id (length a) ++ a ≡ header_octets id (length b) ++ b
    whole = sym (ap (λ (t : Bool). if t then [] else element_octets id a) keeps) ∙ same ∙ ap (λ (t : Bool). if t then [] else element_octets id b) keeps
