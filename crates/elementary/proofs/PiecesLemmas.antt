-- Bytes cut into pieces, by a reader of the first piece.
use Rattle.std.proofs.Common.{◌≡◌, ℕ, zero, suc, ◌<◌, ◌≤◌, ◌==◌, List, [], ◌∷◌, ◌++◌, length, Option, None, Some, is_some, refl, sym, ap, ◌∙◌, arith}
use Rattle.std.specs.List.{All, flat_map}
use Rattle.std.specs.Option.{option_map}
use Rattle.std.proofs.lemmas.Bool.{ne_eqb}
use Rattle.std.proofs.lemmas.List.Elements.{All-nil, All-cons, All-head, All-tail}
use Rattle.elementary.specs.Pieces.{piece_then, pieces_within, pieces_of}

-- a reader of the first piece of bytes
abbrev pub Reader : Type 0
Reader = List ℕ → Option (List ℕ × List ℕ)

-- The bytes after the first piece are fewer.
abbrev pub Shortens : Reader → Type 0
Shortens first = (octets piece rest : List ℕ) → first octets ≡ Some (piece, rest) → length rest < length octets

-- ---- the pieces of bytes, one by one

-- Equal continuations of a piece have equal results.
piece_then-same : {T : Type 0} (front : Option (List ℕ × List ℕ)) (f g : List ℕ → List ℕ → Option T) → ((piece rest : List ℕ) → front ≡ Some (piece, rest) → f piece rest ≡ g piece rest) → piece_then front f ≡ piece_then front g
piece_then-same None f g same = refl
piece_then-same (Some (piece, rest)) f g same = same piece rest refl

-- More turns than bytes change nothing.
pieces_within-enough : (first : Reader) → Shortens first → (m n : ℕ) (octets : List ℕ) → length octets ≤ m → length octets ≤ n → pieces_within first m octets ≡ pieces_within first n octets
pieces_within-enough first fewer m n [] hm hn = refl
pieces_within-enough first fewer zero n (octet ∷ octets) hm hn = absurd (omega arith)
pieces_within-enough first fewer (suc m) zero (octet ∷ octets) hm hn = absurd (omega arith)
pieces_within-enough first fewer (suc m) (suc n) (octet ∷ octets) hm hn =
    piece_then-same (first (octet ∷ octets)) _ _
    (λ piece rest is.
    let less = fewer (octet ∷ octets) piece rest is in
    ap (option_map (λ pieces. piece ∷ pieces)) (pieces_within-enough first fewer m n rest (omega arith) (omega arith)))

-- The pieces of the bytes are the first piece and the pieces of the bytes after it.
pub pieces_of-step : (first : Reader) (octets piece rest : List ℕ) → Shortens first → first octets ≡ Some (piece, rest) → pieces_of first octets ≡ option_map (λ pieces. piece ∷ pieces) (pieces_of first rest)
pieces_of-step first [] piece rest fewer is = let less = fewer [] piece rest is in absurd (omega arith)
pieces_of-step first (octet ∷ octets) piece rest fewer is =
    let less = fewer (octet ∷ octets) piece rest is in
    rw is (ap (option_map (λ pieces. piece ∷ pieces)) (pieces_within-enough first fewer (length octets) (length rest) rest (omega arith) (omega arith)))

-- Bytes without a first piece are a join only if they are empty.
pub pieces_of-stop : (first : Reader) (octets : List ℕ) → 1 ≤ length octets → first octets ≡ None → pieces_of first octets ≡ None
pieces_of-stop first [] some is = absurd (omega arith)
pieces_of-stop first (octet ∷ octets) some is = rw is refl

-- ---- a loop over the pieces of a frame

is_some-map : {T U : Type 0} (o : Option T) (f : T → U) → is_some (option_map f o) ≡ is_some o
is_some-map None f = refl
is_some-map (Some x) f = refl

-- The bytes are a join exactly if the bytes after the first piece are.
pub is_pieces-step : (first : Reader) (octets piece rest : List ℕ) → Shortens first → first octets ≡ Some (piece, rest) → is_some (pieces_of first octets) ≡ is_some (pieces_of first rest)
is_pieces-step first octets piece rest fewer is =
    ap is_some (pieces_of-step first octets piece rest fewer is) ∙ is_some-map (pieces_of first rest) (λ pieces. piece ∷ pieces)

-- Without a first piece the bytes are a join exactly if they are empty.
pub is_pieces-stop : (first : Reader) (octets : List ℕ) → first octets ≡ None → (length octets == 0) ≡ is_some (pieces_of first octets)
is_pieces-stop first [] is = refl
is_pieces-stop first (octet ∷ octets) is =
    ne_eqb _ _ (λ same. absurd (omega arith)) ∙ ap is_some (sym (pieces_of-stop first (octet ∷ octets) (omega arith) is))

-- ---- written pieces are read, and pieces that are read were written

-- A join is read, if the form `spell` of a piece that is `P` is read, whatever follows it.
pub pieces_of-again : (first : Reader) (spell : List ℕ → List ℕ) (P : List ℕ → Type 0) → Shortens first → ((piece rest : List ℕ) → P piece → first (spell piece ++ rest) ≡ Some (piece, rest)) → (pieces : List (List ℕ)) → All P pieces → pieces_of first (flat_map spell pieces) ≡ Some pieces
pieces_of-again first spell P fewer again [] each = refl
pieces_of-again first spell P fewer again (piece ∷ pieces) each =
    pieces_of-step first (spell piece ++ flat_map spell pieces) piece (flat_map spell pieces) fewer (again piece (flat_map spell pieces) (All-head P piece pieces each))
    ∙ ap (option_map (λ ps. piece ∷ ps)) (pieces_of-again first spell P fewer again pieces (All-tail P piece pieces each))

-- The bytes `octets` begin with the form `spell` of `piece`, which is `P`, and the bytes `rest` after it are `A`.
pub record Begins (spell : List ℕ → List ℕ) (P A : List ℕ → Type 0) (octets piece rest : List ℕ) : Type 0 where
  pub front : octets ≡ spell piece ++ rest
  pub is : P piece
  pub behind : A rest

-- The bytes `octets` are a join of `pieces` in the form `spell`, and each piece is `P`.
pub record IsJoinOf (spell : List ℕ → List ℕ) (P : List ℕ → Type 0) (octets : List ℕ) (pieces : List (List ℕ)) : Type 0 where
  pub each : All P pieces
  pub join : octets ≡ flat_map spell pieces

-- The first piece and the pieces after it are a join.
first-joins : (spell : List ℕ → List ℕ) (P A : List ℕ → Type 0) (octets piece rest : List ℕ) (pieces : List (List ℕ)) (read : Option (List (List ℕ))) → Begins spell P A octets piece rest → ((ps : List (List ℕ)) → read ≡ Some ps → IsJoinOf spell P rest ps) → option_map (λ ps. piece ∷ ps) read ≡ Some pieces → IsJoinOf spell P octets pieces
first-joins spell P A octets piece rest pieces None begins more is = absurd (cc)
first-joins spell P A octets piece rest pieces (Some ps) begins more is =
    let behind = more ps refl in
    let all : piece ∷ ps ≡ pieces = cc in
    rw (← all) (record {
      each = All-cons P piece ps begins.is behind.each;
      join = begins.front ∙ ap (λ (x : List ℕ). spell piece ++ x) behind.join;
    })

-- If a first piece exists, the bytes are a join.
then-joins : (spell : List ℕ → List ℕ) (P A : List ℕ → Type 0) (octets : List ℕ) (pieces : List (List ℕ)) (front : Option (List ℕ × List ℕ)) (read : List ℕ → Option (List (List ℕ))) → ((piece rest : List ℕ) → front ≡ Some (piece, rest) → Begins spell P A octets piece rest) → ((piece rest : List ℕ) (ps : List (List ℕ)) → front ≡ Some (piece, rest) → read rest ≡ Some ps → IsJoinOf spell P rest ps) → piece_then front (λ piece rest. option_map (λ ps. piece ∷ ps) (read rest)) ≡ Some pieces → IsJoinOf spell P octets pieces
then-joins spell P A octets pieces None read begins more is = absurd (cc)
then-joins spell P A octets pieces (Some (piece, rest)) read begins more is =
    first-joins spell P A octets piece rest pieces (read rest) (begins piece rest refl) (λ ps found. more piece rest ps refl found) is

-- The first piece of bytes that are `A` is a part of them in the form `spell`.
abbrev pub Spells : Reader → (List ℕ → List ℕ) → (List ℕ → Type 0) → (List ℕ → Type 0) → Type 0
Spells first spell P A = (octets piece rest : List ℕ) → A octets → first octets ≡ Some (piece, rest) → Begins spell P A octets piece rest

-- The pieces that are read are a join.
within-joins : (first : Reader) (spell : List ℕ → List ℕ) (P A : List ℕ → Type 0) → Spells first spell P A → (n : ℕ) (octets : List ℕ) (pieces : List (List ℕ)) → A octets → pieces_within first n octets ≡ Some pieces → IsJoinOf spell P octets pieces
within-joins first spell P A spells n [] pieces are is =
    let none : [] ≡ pieces = cc in
    rw (← none) (record { each = All-nil P; join = refl })
within-joins first spell P A spells zero (octet ∷ octets) pieces are is = absurd (cc)
within-joins first spell P A spells (suc n) (octet ∷ octets) pieces are is =
    let begins = λ (piece rest : List ℕ) (found : first (octet ∷ octets) ≡ Some (piece, rest)). spells (octet ∷ octets) piece rest are found in
    then-joins spell P A (octet ∷ octets) pieces (first (octet ∷ octets)) (pieces_within first n) begins
    (λ piece rest ps found behind. within-joins first spell P A spells n rest ps (begins piece rest found).behind behind) is

pub pieces_of-joins : (first : Reader) (spell : List ℕ → List ℕ) (P A : List ℕ → Type 0) → Spells first spell P A → (octets : List ℕ) (pieces : List (List ℕ)) → A octets → pieces_of first octets ≡ Some pieces → IsJoinOf spell P octets pieces
pieces_of-joins first spell P A spells octets pieces are is = within-joins first spell P A spells (length octets) octets pieces are is
