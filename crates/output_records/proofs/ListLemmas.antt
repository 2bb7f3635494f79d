-- Inputs in sequence.
use Rattle.std.proofs.Common.{◌≡◌, ◌≤◌, ◌<◌, ℕ, zero, suc, ◌+◌, List, [], ◌∷◌, ◌++◌, length, take, drop, flat_map, get_or, refl, sym, ap, subst, ◌∙◌, arith, add-one, drop-cons, append-nil, append_assoc, length-append}
use Rattle.std.specs.Prelude.{All}
use Rattle.std.proofs.lemmas.Grind.{flat_map-append}
use Rattle.std.proofs.lemmas.List.{take_more}
use Rattle.output_model.specs.declared.attachment.Attachment.{Attachment}
use Rattle.output_records.specs.declared.inputs.InputRecords.{InputRecords}
use Rattle.output_records.specs.Attachments.{files_of, with_uid, with_uids}

module _ {X : Type 0} (xs : List X) (i : ℕ) (x : X) (inside : i < length xs) (is : x ≡ get_or xs i x) where
  pub take-next : take (i + 1) xs ≡ take i xs ++ x ∷ []
  take-next = take_more xs i x inside ∙ ap (λ y. take i xs ++ y ∷ []) (sym is)

  pub drop-next : drop i xs ≡ x ∷ drop (i + 1) xs
  drop-next = drop-cons xs i x inside ∙ rw (add-one, ← is) refl

  pub flat-next : {Y : Type 0} (f : X → List Y) → flat_map f (take (i + 1) xs) ≡ flat_map f (take i xs) ++ f x
  flat-next f = ap (flat_map f) take-next ∙ flat_map-append f (take i xs) (x ∷ []) ∙ ap (λ l. flat_map f (take i xs) ++ l) (append-nil (f x))

  pub each-of : (P : X → Type 0) → All P xs → P x
  each-of P all = subst P (sym is) (all i x inside)

-- The lists of the first inputs and the next one fit in all lists.
pub flat-few : {X Y : Type 0} (f : X → List Y) (xs : List X) (i : ℕ) (x : X) → i < length xs → x ≡ get_or xs i x → length (flat_map f (take i xs)) + length (f x) ≤ length (flat_map f xs)
flat-few f [] i x inside is = absurd (omega arith)
flat-few f (y ∷ ys) zero x inside is = omega (arith, length-append (f y) (flat_map f ys), ap (λ z. length (f z)) is)
flat-few f (y ∷ ys) (suc i) x inside is =
    let rest = flat-few f ys i x (omega arith) is in
    omega (arith, length-append (f y) (flat_map f (take i ys)), length-append (f y) (flat_map f ys))

-- ---- attached files with their FileUIDs

pub length-uids : (uids : List ℕ) (files : List Attachment) → length files ≤ length uids → length (with_uids uids files) ≡ length files
length-uids [] [] few = refl
length-uids [] (a ∷ files) few = absurd (omega arith)
length-uids (uid ∷ uids) [] few = refl
length-uids (uid ∷ uids) (a ∷ files) few = ap suc (length-uids uids files (omega arith))

pub uids-none : (uids : List ℕ) → with_uids uids [] ≡ []
uids-none [] = refl
uids-none (uid ∷ uids) = refl

uids-more : (uids : List ℕ) (files : List Attachment) (a : Attachment) → length files < length uids → with_uids uids (files ++ a ∷ []) ≡ with_uids uids files ++ with_uid (get_or uids (length files) 0) a ∷ []
uids-more [] files a few = absurd (omega arith)
uids-more (uid ∷ uids) [] a few = ap (λ l. with_uid uid a ∷ l) (uids-none uids)
uids-more (uid ∷ uids) (b ∷ files) a few = ap (λ l. with_uid uid b ∷ l) (uids-more uids files a (omega arith))

take-few : {X : Type 0} (xs : List X) (i : ℕ) → i < length xs → length (take i xs) < length xs
take-few [] i inside = absurd (omega arith)
take-few (x ∷ xs) zero inside = omega arith
take-few (x ∷ xs) (suc i) inside = let rest = take-few xs i (omega arith) in omega arith

module _ (numbers : List ℕ) (inputs : List InputRecords) (i j : ℕ) (x : InputRecords) (items written : List Attachment) (inside : i < length inputs) (is : x ≡ get_or inputs i x) (are : items ≡ x.attachments)
    (more : j < length items) (enough : length (files_of inputs) ≤ length numbers) (exact : written ≡ with_uids numbers (files_of (take i inputs) ++ take j items)) where
  small : length (files_of (take i inputs) ++ take j items) < length numbers
  small =
      let few = flat-few (λ (k : InputRecords). k.attachments) inputs i x inside is in
      omega (arith, few, take-few items j more, length-append (files_of (take i inputs)) (take j items), ap length are)

  same : length written ≡ length (files_of (take i inputs) ++ take j items)
  same = let less = small in ap length exact ∙ length-uids numbers (files_of (take i inputs) ++ take j items) (omega arith)

  pub next-few : (n : ℕ) → n ≡ length written → n < length numbers
  next-few n at = let less = small in omega (arith, at, same)

  pub files-next : (n : ℕ) (a made : Attachment) (new : List Attachment) → n ≡ length written → a ≡ get_or items j a → new ≡ written ++ made ∷ [] → made ≡ with_uid (get_or numbers n 0) a
      → new ≡ with_uids numbers (files_of (take i inputs) ++ take (j + 1) items)
  files-next n a made new at item put one =
      let before : List Attachment = files_of (take i inputs) in
      put ∙ ap (λ l. l ++ made ∷ []) exact
      ∙ ap (λ y. with_uids numbers (before ++ take j items) ++ y ∷ []) (one ∙ ap (λ k. with_uid (get_or numbers k 0) a) (at ∙ same))
      ∙ sym (uids-more numbers (before ++ take j items) a small)
      ∙ ap (with_uids numbers) (append_assoc before (take j items) (a ∷ []) ∙ ap (λ l. before ++ l) (sym (take-next items j a more item)))
