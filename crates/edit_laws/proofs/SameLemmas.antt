-- Contents with the same bytes between two places.
use Rattle.std.proofs.Common.{inl, inr, ◌≡◌, ◌⊎◌, ◌<◌, ◌≤◌, ℕ, ◌+◌, ◌-◌, max, List, [], ◌∷◌, length, take, drop, get_or, sym, ◌∙◌, ap, arith}
use Rattle.std.specs.Bool.{⊤}
use Rattle.std.proofs.lemmas.List.{ext_get_or, get_or-take, get_or-drop}
use Rattle.mkv_io.specs.Contents.{overwritten}
use Rattle.mkv_schema.specs.Element.{octets_between}
use Rattle.mkv_schema.proofs.ElementLemmas.{length-octets_between}
use Rattle.output_model.specs.Element.{HoldsAt}
use Rattle.output_model.proofs.HeldLemmas.{between-take, between-drop}
use Rattle.sidecar_edit.specs.Writes.{Write, end_of, applied, extent, Fits, WritesOctet}
use Rattle.sidecar_edit.proofs.RedoLemmas.{applied_elsewhere, length-applied, extent_grows, length-overwritten, overwritten_inside}
use Rattle.edit_laws.proofs.AmongLemmas.{IsAmong}

-- The contents have the same bytes from a place up to another.
abbrev pub AreSame : List ℕ → List ℕ → ℕ → ℕ → Type 0
AreSame a b p q = octets_between b p q ≡ octets_between a p q

-- Contents with the same bytes between two places have the same bytes between places inside.
pub same-part : (a b : List ℕ) (p q s t : ℕ) → p ≤ s → s ≤ t → t ≤ q → AreSame a b p q → AreSame a b s t
same-part a b p q s t from between to same = part b ∙ ap (λ l. take (t - s) (drop (s - p) l)) same ∙ sym (part a)
  where
    part : (bytes : List ℕ) → octets_between bytes s t ≡ take (t - s) (drop (s - p) (octets_between bytes p q))
    part bytes =
        let mid : s ≡ p + (s - p) = omega arith in
        let near : t ≡ s + (t - s) = omega arith in
        let far : q ≡ s + (q - s) = omega arith in
        ap (octets_between bytes s) near
        ∙ between-take bytes s (t - s) (q - s) (omega arith)
        ∙ ap (λ k. take (t - s) (octets_between bytes s k)) (sym far)
        ∙ ap (λ k. take (t - s) (octets_between bytes k q)) mid
        ∙ ap (take (t - s)) (between-drop bytes p (s - p) q)

-- A byte between two places.
octet-between : (bytes : List ℕ) (p q k : ℕ) → p + k < q → get_or (octets_between bytes p q) k 0 ≡ get_or bytes (p + k) 0
octet-between bytes p q k inside = get_or-drop p (take q bytes) k 0 ∙ get_or-take q bytes (p + k) 0 inside

-- Contents with the same bytes, one by one.
pub same-each : (a b : List ℕ) (p q : ℕ) → q ≤ length a → q ≤ length b → ((k : ℕ) → p ≤ k → k < q → get_or b k 0 ≡ get_or a k 0) → AreSame a b p q
same-each a b p q left right each =
    let one = length-octets_between b p q in
    let two = length-octets_between a p q in
    ext_get_or 0 (octets_between b p q) (octets_between a p q) (omega arith)
    (λ k inside. octet-between b p q k (omega arith) ∙ each (p + k) (omega arith) (omega arith) ∙ sym (octet-between a p q k (omega arith)))

-- ---- bytes that writes leave

-- No write reaches in between two places.
abbrev pub IsClear : List Write → ℕ → ℕ → Type 0
IsClear ws p q = (k : ℕ) → p ≤ k → k < q → WritesOctet ws k → ⊥

-- Bytes that no write reaches stay.
pub same-clear : (ws : List Write) (file : List ℕ) (p q : ℕ) → Fits (length file) ws → q ≤ length file → IsClear ws p q → AreSame file (applied file ws) p q
same-clear ws file p q fits inside clear =
    let size = length-applied file ws fits in
    let grows = extent_grows (length file) ws in
    same-each file (applied file ws) p q inside (omega arith)
    (λ k from to. applied_elsewhere ws file k fits (omega arith) (clear k from to))

-- ---- writes in order

-- Each write has bytes and begins at the previous one's end or later. None begins past the end of the file.
abbrev pub InOrder : ℕ → ℕ → List Write → Type 0
InOrder old from [] = ⊤
InOrder old from (w ∷ ws) = (1 ≤ length w.bytes) × (from ≤ w.at) × (w.at ≤ max old from) × InOrder old (end_of w) ws

-- No write reaches before the first one.
pub order-before : (old from k : ℕ) (ws : List Write) → InOrder old from ws → k < from → WritesOctet ws k → ⊥
order-before old from k [] order before touched = touched
order-before old from k (w ∷ ws) order before (inl here) = let begins = order.1 in let at = here.0 in omega arith
order-before old from k (w ∷ ws) order before (inr later) = let begins = order.1 in order-before old (end_of w) k ws order.3 (omega arith) later

pub order-fits : (old from n : ℕ) (ws : List Write) → old ≤ n → from ≤ n → InOrder old from ws → Fits n ws
order-fits old from n [] long begins order = tt
order-fits old from n (w ∷ ws) long begins order = let at = order.2 in (omega arith, order-fits old (end_of w) (max n (end_of w)) ws (omega arith) (omega arith) order.3)

order-octet : (old from : ℕ) (ws : List Write) (file : List ℕ) (w : Write) (k : ℕ) → old ≤ length file → from ≤ length file → InOrder old from ws → IsAmong ws w → w.at ≤ k → k < end_of w → get_or (applied file ws) k 0 ≡ get_or w.bytes (k - w.at) 0
order-octet old from [] file w k long starts order one begins ends = absurd one
order-octet old from (v ∷ vs) file w k long starts order one begins ends =
    of (λ later. order-octet old (end_of v) vs (overwritten file v.at v.bytes) w k (omega (arith, size)) (omega (arith, size)) order.3 later begins ends) one
  where
    at : v.at ≤ length file
    at = (let is = order.2 in omega arith)

    size : length (overwritten file v.at v.bytes) ≡ max (length file) (end_of v)
    size = length-overwritten file v.at v.bytes at

    of : (IsAmong vs w → get_or (applied (overwritten file v.at v.bytes) vs) k 0 ≡ get_or w.bytes (k - w.at) 0) → (v ≡ w) ⊎ IsAmong vs w → get_or (applied (overwritten file v.at v.bytes) vs) k 0 ≡ get_or w.bytes (k - w.at) 0
    of rest (inr later) = rest later
    of rest (inl same) =
        let from_is : v.at ≡ w.at = ap (λ (x : Write). x.at) same in
        let bytes_are : v.bytes ≡ w.bytes = ap (λ (x : Write). x.bytes) same in
        let len : length v.bytes ≡ length w.bytes = ap (λ (l : List ℕ). length l) bytes_are in
        applied_elsewhere vs (overwritten file v.at v.bytes) k (order-fits old (end_of v) (length (overwritten file v.at v.bytes)) vs (omega (arith, size)) (omega (arith, size)) order.3) (omega (arith, size)) (order-before old (end_of v) k vs order.3 (omega arith))
        ∙ overwritten_inside file v.at v.bytes k at (omega arith) (omega arith)
        ∙ ap (λ (x : Write). get_or x.bytes (k - x.at) 0) same

-- Written bytes are there afterwards.
pub order-held : (old : ℕ) (ws : List Write) (file : List ℕ) (w : Write) → old ≡ length file → InOrder old 0 ws → IsAmong ws w → end_of w ≤ length (applied file ws) → HoldsAt (applied file ws) w.at w.bytes
order-held old ws file w whole order one inside =
    let len = length-octets_between (applied file ws) w.at (end_of w) in
    ext_get_or 0 (octets_between (applied file ws) w.at (end_of w)) w.bytes (omega arith)
    (λ k below. octet-between (applied file ws) w.at (end_of w) k (omega arith)
    ∙ order-octet old 0 ws file w (w.at + k) (omega arith) (omega arith) order one (omega arith) (omega arith)
    ∙ ap (λ n. get_or w.bytes n 0) (let same : w.at + k - w.at ≡ k = omega arith in same))

-- A write ends within the new content.
pub order-end : (old from n : ℕ) (ws : List Write) (w : Write) → InOrder old from ws → IsAmong ws w → end_of w ≤ extent n ws
order-end old from n [] w order one = absurd one
order-end old from n (v ∷ vs) w order (inl same) =
    let end : end_of v ≡ end_of w = ap end_of same in
    let grows = extent_grows (max n (end_of v)) vs in
    omega arith
order-end old from n (v ∷ vs) w order (inr later) = order-end old (end_of v) (max n (end_of v)) vs w order.3 later
