-- Pieces between commas, read one by one.
use Rattle.std.proofs.Common.{◌≡◌, ℕ, ◌+◌, ◌<◌, ◌≤◌, Bool, true, false, cond, nat_lt, List, [], ◌∷◌, ◌++◌, length, take, drop, Option, Some, None, refl, sym, ap, arith, append_assoc, length-drop}
use Rattle.std.proofs.lemmas.Grind.{common_steps}
use Rattle.std.proofs.lemmas.Bool.Decides.{nat_tests}
use Rattle.std.specs.Prelude.{option_map, unwrap_or, ◌==◌}
use Rattle.std.specs.List.{slice_split, position_or_len}
use Rattle.mkv_io.specs.Octets.{cut}
use Rattle.word_values.specs.Lists.{pieces, each, onto}
use Rattle.requests.specs.Lists.{ascend}

-- the parts before and after the first byte that passes the test
module _ (p : ℕ → Bool) where
  abbrev parts_at : ℕ → List ℕ → List (List ℕ)
  parts_at i xs = take i xs ∷ slice_split p (drop (i + 1) xs)

  step_true : (x : ℕ) (xs : List ℕ) → p x ≡ true → slice_split p (x ∷ xs) ≡ parts_at (position_or_len p (x ∷ xs)) (x ∷ xs)
  step_true x xs is = rw is (grind (arith, common_steps))

  step_false : (x : ℕ) (xs : List ℕ) → p x ≡ false → slice_split p xs ≡ parts_at (position_or_len p xs) xs →
      slice_split p (x ∷ xs) ≡ parts_at (position_or_len p (x ∷ xs)) (x ∷ xs)
  step_false x xs is rest = rw (is, rest) (grind (arith, common_steps))

  later : (x : ℕ) (xs : List ℕ) → p x ≡ false → nat_lt (position_or_len p (x ∷ xs)) (length (x ∷ xs)) ≡ true → nat_lt (position_or_len p xs) (length xs) ≡ true
  later x xs is here = let h = rw is at here in grind (arith, nat_tests, h)

  split_cases : (x : ℕ) (xs : List ℕ) (b : Bool) → p x ≡ b → nat_lt (position_or_len p (x ∷ xs)) (length (x ∷ xs)) ≡ true →
      (nat_lt (position_or_len p xs) (length xs) ≡ true → slice_split p xs ≡ parts_at (position_or_len p xs) xs) →
      slice_split p (x ∷ xs) ≡ parts_at (position_or_len p (x ∷ xs)) (x ∷ xs)
  split_cases x xs true is here rest = step_true x xs is
  split_cases x xs false is here rest = step_false x xs is (rest (later x xs is here))

  split_first : (xs : List ℕ) → nat_lt (position_or_len p xs) (length xs) ≡ true → slice_split p xs ≡ parts_at (position_or_len p xs) xs
  split_first [] here = cc
  split_first (x ∷ xs) here = split_cases x xs (p x) refl here (λ inner. split_first xs inner)

  alone_cases : (x : ℕ) (xs : List ℕ) (b : Bool) → p x ≡ b → nat_lt (position_or_len p (x ∷ xs)) (length (x ∷ xs)) ≡ false →
      (nat_lt (position_or_len p xs) (length xs) ≡ false → slice_split p xs ≡ xs ∷ []) →
      slice_split p (x ∷ xs) ≡ (x ∷ xs) ∷ []
  alone_cases x xs true is none rest = let h = rw is at none in absurd (grind (arith, nat_tests, h))
  alone_cases x xs false is none rest =
      let h = rw is at none in
      let inner : nat_lt (position_or_len p xs) (length xs) ≡ false = grind (arith, nat_tests, h) in
      rw (is, rest inner)

  split_none : (xs : List ℕ) → nat_lt (position_or_len p xs) (length xs) ≡ false → slice_split p xs ≡ xs ∷ []
  split_none [] none = refl
  split_none (x ∷ xs) none = alone_cases x xs (p x) refl none (λ inner. split_none xs inner)

abbrev some_pair : List ℕ → ℕ → Option (List ℕ × List ℕ)
some_pair word k = Some (take k word, drop (k + 1) word)

-- If the word has a comma, its first piece is before it.
cut_cases : (word first rest : List ℕ) (b : Bool) → nat_lt (position_or_len (λ x. x == 44) word) (length word) ≡ b →
    option_map {U = List ℕ × List ℕ} (λ i. (take i word, drop (i + 1) word)) (cond b (Some (position_or_len (λ x. x == 44) word)) None) ≡ Some (first, rest) →
    pieces word ≡ first ∷ pieces rest
cut_cases word first rest true is e =
    let split = split_first (λ x. x == 44) word is in
    let k = position_or_len (λ x. x == 44) word in
    let pair : some_pair word k ≡ Some (first, rest) = e in
    let front : take k word ≡ first = ap (λ (o : Option (List ℕ × List ℕ)). let p : List ℕ × List ℕ = unwrap_or o ([], []) in p.0) pair in
    let back : drop (k + 1) word ≡ rest = ap (λ (o : Option (List ℕ × List ℕ)). let p : List ℕ × List ℕ = unwrap_or o ([], []) in p.1) pair in
    rw (split, front, back)
cut_cases word first rest false is e = cc

pub pieces_more : (word first rest : List ℕ) → cut 44 word ≡ Some (first, rest) → pieces word ≡ first ∷ pieces rest
unfolding cut
pieces_more word first rest e = cut_cases word first rest (nat_lt (position_or_len (λ x. x == 44) word) (length word)) refl e

last_cases : (word : List ℕ) (b : Bool) → nat_lt (position_or_len (λ x. x == 44) word) (length word) ≡ b →
    option_map {U = List ℕ × List ℕ} (λ i. (take i word, drop (i + 1) word)) (cond b (Some (position_or_len (λ x. x == 44) word)) None) ≡ None →
    pieces word ≡ word ∷ []
last_cases word true is e = cc
last_cases word false is e = split_none (λ x. x == 44) word is

-- Without a comma the word is the only piece.
pub pieces_last : (word : List ℕ) → cut 44 word ≡ None → pieces word ≡ word ∷ []
unfolding cut
pieces_last word e = last_cases word (nat_lt (position_or_len (λ x. x == 44) word) (length word)) refl e

-- the values that were read, and then the others
abbrev pub joined : {X : Type 0} → List X → Option (List X) → Option (List X)
joined xs None = None
joined xs (Some ys) = Some (xs ++ ys)

joined_onto : {X : Type 0} (xs : List X) (x : X) (o : Option (List X)) → joined xs (onto (Some x) o) ≡ joined (xs ++ x ∷ []) o
joined_onto xs x None = refl
joined_onto xs x (Some ys) = ap Some (sym (append_assoc xs (x ∷ []) ys))

-- A piece has the form.
pub joined_more : {X : Type 0} (read : List ℕ → Option X) (xs : List X) (x : X) (word first rest : List ℕ) →
    cut 44 word ≡ Some (first, rest) → read first ≡ Some x →
    joined xs (each read (pieces word)) ≡ joined (xs ++ x ∷ []) (each read (pieces rest))
joined_more read xs x word first rest e is = rw (pieces_more word first rest e, is) (joined_onto xs x (each read (pieces rest)))

-- A piece doesn't have the form.
pub joined_bad : {X : Type 0} (read : List ℕ → Option X) (xs : List X) (word first rest : List ℕ) →
    cut 44 word ≡ Some (first, rest) → read first ≡ None → joined xs (each read (pieces word)) ≡ None
joined_bad read xs word first rest e is = rw (pieces_more word first rest e, is)

-- The piece is the last.
pub joined_last : {X : Type 0} (read : List ℕ → Option X) (xs : List X) (x : X) (word : List ℕ) →
    cut 44 word ≡ None → read word ≡ Some x → joined xs (each read (pieces word)) ≡ Some (xs ++ x ∷ [])
joined_last read xs x word e is = rw (pieces_last word e, is)

pub joined_last_bad : {X : Type 0} (read : List ℕ → Option X) (xs : List X) (word : List ℕ) →
    cut 44 word ≡ None → read word ≡ None → joined xs (each read (pieces word)) ≡ None
joined_last_bad read xs word e is = rw (pieces_last word e, is)

pub joined_none : {X : Type 0} (o : Option (List X)) → joined [] o ≡ o
joined_none None = refl
joined_none (Some ys) = refl

shorter_cases : (word first rest : List ℕ) (b : Bool) → nat_lt (position_or_len (λ x. x == 44) word) (length word) ≡ b →
    option_map {U = List ℕ × List ℕ} (λ i. (take i word, drop (i + 1) word)) (cond b (Some (position_or_len (λ x. x == 44) word)) None) ≡ Some (first, rest) →
    length rest < length word
shorter_cases word first rest true is e =
    let k = position_or_len (λ x. x == 44) word in
    let pair : some_pair word k ≡ Some (first, rest) = e in
    let back : drop (k + 1) word ≡ rest = ap (λ (o : Option (List ℕ × List ℕ)). let p : List ℕ × List ℕ = unwrap_or o ([], []) in p.1) pair in
    let within : k < length word = grind (arith, nat_tests) in
    let len : length (drop (k + 1) word) ≡ length rest = ap length back in
    omega (arith, length-drop (k + 1) word, len)
shorter_cases word first rest false is e = cc

-- The part after a comma is shorter than the word.
pub cut_shorter : (word first rest : List ℕ) → cut 44 word ≡ Some (first, rest) → length rest < length word
unfolding cut
cut_shorter word first rest e = shorter_cases word first rest (nat_lt (position_or_len (λ x. x == 44) word) (length word)) refl e

-- The last time ascends.
pub ascend_last : (xs : List ℕ) (k : ℕ) → length xs ≤ k + 1 → ascend (drop k xs) ≡ true
ascend_last xs k past = short (drop k xs) (omega (arith, length-drop k xs)) where
  short : (ys : List ℕ) → length ys ≤ 1 → ascend ys ≡ true
  short [] h = refl
  short (y ∷ []) h = refl
  short (y ∷ z ∷ zs) h = absurd (omega arith)
