-- Redoing the writes over any torn file gives the edited file.
use Rattle.std.proofs.Common.{◌≡◌, ◌⊎◌, inl, inr, ⊎_elim, ℕ, ◌+◌, ◌-◌, ◌<◌, ◌≤◌, max, List, [], ◌∷◌, length, get_or, refl, sym, ◌∙◌, ap, subst, arith, length-append, length-take, length-drop}
use Rattle.std.proofs.lemmas.Bool.{cases_lt}
use Rattle.std.proofs.lemmas.List.{places, ext_get_or}
use Rattle.mkv_io.specs.Contents.{overwritten}
use Rattle.sidecar_edit.specs.Writes.{Write, end_of, applied, extent, Fits, WritesOctet, Torn}

pub length-overwritten : (old : List ℕ) (at : ℕ) (bytes : List ℕ) → at ≤ length old → length (overwritten old at bytes) ≡ max (length old) (at + length bytes)
length-overwritten old at bytes le = grind (arith, length-append, length-take, length-drop)

-- In the range there are the written bytes.
pub overwritten_inside : (old : List ℕ) (at : ℕ) (bytes : List ℕ) (k : ℕ) → at ≤ length old → at ≤ k → k < at + length bytes → get_or (overwritten old at bytes) k 0 ≡ get_or bytes (k - at) 0
overwritten_inside old at bytes k le low high = grind (arith, places)

-- Outside it the bytes stay.
pub overwritten_outside : (old : List ℕ) (at : ℕ) (bytes : List ℕ) (k : ℕ) → at ≤ length old → (k < at) ⊎ (at + length bytes ≤ k) → get_or (overwritten old at bytes) k 0 ≡ get_or old k 0
overwritten_outside old at bytes k le out = grind (arith, places)

-- Writes never make a file shorter.
pub extent_grows : (n : ℕ) (ws : List Write) → n ≤ extent n ws
extent_grows n [] = omega arith
extent_grows n (w ∷ ws) = omega (arith, extent_grows (max n (end_of w)) ws)

pub length-applied : (file : List ℕ) (ws : List Write) → Fits (length file) ws → length (applied file ws) ≡ extent (length file) ws
length-applied file [] fits = refl
length-applied file (w ∷ ws) fits =
    let size = length-overwritten file w.at w.bytes fits.0 in
    length-applied (overwritten file w.at w.bytes) ws (subst (λ n. Fits n ws) (sym size) fits.1) ∙ ap (λ n. extent n ws) size

-- One more write on both sides.
torn_rest : (w : Write) (ws : List Write) (file torn : List ℕ) → w.at ≤ length file → Torn (w ∷ ws) file torn → Torn ws (overwritten file w.at w.bytes) (overwritten torn w.at w.bytes)
torn_rest w ws file torn le was =
    let size = length-overwritten file w.at w.bytes le in
    let le_torn : w.at ≤ length torn = omega (arith, was.no_shorter) in
    let size_torn = length-overwritten torn w.at w.bytes le_torn in
    record {
      no_shorter = omega (arith, size, size_torn, was.no_shorter);
      no_longer = subst (λ n. length (overwritten torn w.at w.bytes) ≤ extent n ws) (sym size) (omega (arith, size_torn, was.no_longer, extent_grows (max (length file) (end_of w)) ws));
      elsewhere = λ k inside untouched. at_place k (omega (arith, size, inside)) untouched (cases_lt k w.at) (cases_lt k (end_of w));
    }
  where
    same_inside : (k : ℕ) → w.at ≤ k → k < end_of w → get_or (overwritten torn w.at w.bytes) k 0 ≡ get_or (overwritten file w.at w.bytes) k 0
    same_inside k low high = overwritten_inside torn w.at w.bytes k (omega (arith, was.no_shorter)) low high ∙ sym (overwritten_inside file w.at w.bytes k le low high)

    same_outside : (k : ℕ) → k < length file → (k < w.at) ⊎ (end_of w ≤ k) → (WritesOctet ws k → ⊥) → get_or (overwritten torn w.at w.bytes) k 0 ≡ get_or (overwritten file w.at w.bytes) k 0
    same_outside k inside out untouched =
        overwritten_outside torn w.at w.bytes k (omega (arith, was.no_shorter)) out
        ∙ was.elsewhere k inside (⊎_elim (λ (here : (w.at ≤ k) × (k < end_of w)). ⊎_elim (λ (lt : k < w.at). let no : ⊥ = omega (arith, here.0) in no) (λ (le : end_of w ≤ k). let no : ⊥ = omega (arith, here.1) in no) out) untouched)
        ∙ sym (overwritten_outside file w.at w.bytes k le out)

    at_place : (k : ℕ) → k < max (length file) (end_of w) → (WritesOctet ws k → ⊥) → (k < w.at) ⊎ (w.at ≤ k) → (k < end_of w) ⊎ (end_of w ≤ k) → get_or (overwritten torn w.at w.bytes) k 0 ≡ get_or (overwritten file w.at w.bytes) k 0
    at_place k inside untouched (inl below) end = same_outside k (omega arith) (inl below) untouched
    at_place k inside untouched (inr above) (inl before) = same_inside k above before
    at_place k inside untouched (inr above) (inr behind) = same_outside k (omega arith) (inr behind) untouched

-- The main lemma: redone over any torn file, the writes give the edited file.
pub redone : (ws : List Write) (file torn : List ℕ) → Fits (length file) ws → Torn ws file torn → applied torn ws ≡ applied file ws
redone [] file torn fits was =
    ext_get_or 0 torn file (omega (arith, was.no_shorter, was.no_longer)) (λ k inside. was.elsewhere k (omega (arith, was.no_longer)) (λ (none : ⊥). none))
redone (w ∷ ws) file torn fits was =
    let size = length-overwritten file w.at w.bytes fits.0 in
    redone ws (overwritten file w.at w.bytes) (overwritten torn w.at w.bytes) (subst (λ n. Fits n ws) (sym size) fits.1) (torn_rest w ws file torn fits.0 was)

-- Bytes that no write changes stay.
pub applied_elsewhere : (ws : List Write) (file : List ℕ) (k : ℕ) → Fits (length file) ws → k < length file → (WritesOctet ws k → ⊥) → get_or (applied file ws) k 0 ≡ get_or file k 0
applied_elsewhere [] file k fits inside untouched = refl
applied_elsewhere (w ∷ ws) file k fits inside untouched =
    let size = length-overwritten file w.at w.bytes fits.0 in
    applied_elsewhere ws (overwritten file w.at w.bytes) k (subst (λ n. Fits n ws) (sym size) fits.1) (omega (arith, size, inside)) (λ touched. untouched (inr touched))
    ∙ overwritten_outside file w.at w.bytes k fits.0 (outside (cases_lt k w.at) (cases_lt k (end_of w)))
  where
    outside : (k < w.at) ⊎ (w.at ≤ k) → (k < end_of w) ⊎ (end_of w ≤ k) → (k < w.at) ⊎ (end_of w ≤ k)
    outside (inl below) end = inl below
    outside (inr above) (inl before) = absurd (untouched (inl (above, before)))
    outside (inr above) (inr behind) = inr behind

-- The edited file is torn too, so that redoing the writes leaves it.
pub edited_is_torn : (ws : List Write) (file : List ℕ) → Fits (length file) ws → Torn ws file (applied file ws)
edited_is_torn ws file fits = record {
  no_shorter = omega (arith, length-applied file ws fits, extent_grows (length file) ws);
  no_longer = omega (arith, length-applied file ws fits);
  elsewhere = λ k inside untouched. applied_elsewhere ws file k fits inside untouched;
}
