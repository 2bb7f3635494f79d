-- Laws on bytes at an offset of a content.
use Rattle.std.proofs.Common.{◌≡◌, ℕ, ◌+◌, ◌-◌, ◌≤◌, min, List, ◌++◌, length, take, drop, length-append, sym, ap, ap₂, ◌∙◌, arith}
use Rattle.std.proofs.Math.Seq.{take-append_seam, drop-append_seam}
use Rattle.std.proofs.lemmas.List.{take-take, drop-drop, drop-take, take-append-drop}
use Rattle.mkv_schema.specs.Element.{octets_between}
use Rattle.mkv_schema.proofs.ElementLemmas.{length-octets_between}
use Rattle.output_model.specs.Element.{HoldsAt}

-- The first of the bytes between two offsets.
pub between-take : (bytes : List ℕ) (p n m : ℕ) → n ≤ m → octets_between bytes p (p + n) ≡ take n (octets_between bytes p (p + m))
between-take bytes p n m less =
    drop-take p n bytes ∙ sym (ap (take n) (drop-take p m bytes) ∙ take-take n m (drop p bytes) less)

-- The bytes between two offsets without the first ones.
pub between-drop : (bytes : List ℕ) (p n e : ℕ) → octets_between bytes (p + n) e ≡ drop n (octets_between bytes p e)
between-drop bytes p n e = sym (drop-drop n p (take e bytes))

-- A prefix is at the offset of the whole.
pub held-left : (bytes : List ℕ) (p : ℕ) (a b : List ℕ) → HoldsAt bytes p (a ++ b) → HoldsAt bytes p a
held-left bytes p a b stands =
    between-take bytes p (length a) (length (a ++ b)) (omega (arith, length-append a b)) ∙ ap (take (length a)) stands ∙ take-append_seam a b

-- The rest follows it.
pub held-right : (bytes : List ℕ) (p : ℕ) (a b : List ℕ) → HoldsAt bytes p (a ++ b) → HoldsAt bytes (p + length a) b
held-right bytes p a b stands =
    let end : p + length a + length b ≡ p + length (a ++ b) = omega (arith, length-append a b) in
    ap (octets_between bytes (p + length a)) end ∙ between-drop bytes p (length a) (p + length (a ++ b)) ∙ ap (drop (length a)) stands ∙ drop-append_seam a b

-- Bytes at an offset are the first of the bytes up to an end.
pub held-front : (bytes : List ℕ) (p e : ℕ) (octets : List ℕ) → HoldsAt bytes p octets → p + length octets ≤ e → octets_between bytes p e ≡ octets ++ octets_between bytes (p + length octets) e
held-front bytes p e octets stands before_end =
    let end : e ≡ p + (e - p) = omega arith in
    let first : take (length octets) (octets_between bytes p e) ≡ octets =
    ap (λ k. take (length octets) (octets_between bytes p k)) end ∙ sym (between-take bytes p (length octets) (e - p) (omega arith)) ∙ stands in
    sym (take-append-drop (length octets) (octets_between bytes p e)) ∙ ap₂ (λ a b. a ++ b) first (sym (between-drop bytes p (length octets) e))

-- They are in the content.
pub held-within : (bytes : List ℕ) (p : ℕ) (octets : List ℕ) → HoldsAt bytes p octets → 1 ≤ length octets → p + length octets ≤ length bytes
held-within bytes p octets stands some =
    let len : min (p + length octets) (length bytes) - p ≡ length octets = sym (length-octets_between bytes p (p + length octets)) ∙ ap length stands in
    omega arith

-- Bytes between others are at the end of the first ones.
pub held-between : (front octets tail : List ℕ) (p : ℕ) → length front ≡ p → HoldsAt (front ++ (octets ++ tail)) p octets
held-between front octets tail p is =
    drop-take p (length octets) (front ++ (octets ++ tail))
    ∙ ap (take (length octets)) (ap (λ n. drop n (front ++ (octets ++ tail))) (sym is) ∙ drop-append_seam front (octets ++ tail))
    ∙ take-append_seam octets tail

-- The bytes between two offsets, divided at an offset between them.
pub between-split : (bytes : List ℕ) (p q e : ℕ) → p ≤ q → q ≤ e → octets_between bytes p e ≡ octets_between bytes p q ++ octets_between bytes q e
between-split bytes p q e before after =
    let mid : q ≡ p + (q - p) = omega arith in
    let end : e ≡ p + (e - p) = omega arith in
    let first : take (q - p) (octets_between bytes p e) ≡ octets_between bytes p q =
    ap (λ k. take (q - p) (octets_between bytes p k)) end ∙ sym (between-take bytes p (q - p) (e - p) (omega arith)) ∙ ap (octets_between bytes p) (sym mid) in
    let second : drop (q - p) (octets_between bytes p e) ≡ octets_between bytes q e = sym (between-drop bytes p (q - p) e) ∙ ap (λ k. octets_between bytes k e) (sym mid) in
    sym (take-append-drop (q - p) (octets_between bytes p e)) ∙ ap₂ (λ a b. a ++ b) first second
