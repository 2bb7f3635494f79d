-- Laws on the contents that a crash leaves while the gate is written, while the journal is truncated, and while a record is written.
use Rattle.std.proofs.Common.{◌≡◌, ◌⊎◌, inl, inr, ⊎_elim, ℕ, zero, suc, ◌+◌, ◌<◌, ◌≤◌, max, List, [], ◌∷◌, length, drop, get_or, slice_index, sym, ◌∙◌, ap, subst, arith, length-drop}
use Rattle.std.proofs.lemmas.List.{ext_get_or, get_or-drop}
use Rattle.std.proofs.lemmas.Bool.{cases_eq}
use Rattle.mkv_disk.specs.Image.{IsImage, clean, cut_to, written_at}
use Rattle.mkv_disk.specs.Pair.{Pair, IsPairImage, IsSynced, both, on}
use Rattle.mkv_disk.proofs.ImageLemmas.{clean_image}
use Rattle.sidecar_edit.specs.declared.place.TheConstants.{OPEN}
use Rattle.sidecar_edit.specs.Recovery.{IsClosed}
use Rattle.sidecar_edit.specs.Leaves.{IsGated}

not_empty : (s : List ℕ) → slice_index s 0 ≡ OPEN → 1 ≤ length s
not_empty [] is = absurd (omega (arith, is))
not_empty (octet ∷ s) is = omega arith

-- Only the first byte may change.
pub gate_image : (S s : List ℕ) (gate : ℕ) → IsImage (written_at 0 (gate ∷ []) (clean S)) s → IsGated S s
gate_image S s gate image = by_octet (cases_eq (slice_index s 0) OPEN)
  where
    elsewhere : (k : ℕ) → 1 ≤ k → k < length S → get_or s k 0 ≡ get_or S k 0
    elsewhere k low high = image.elsewhere k high (⊎_elim (λ (here : (0 ≤ k) × (k < 0 + 1)). let high = here.1 in absurd (omega arith)) (λ (none : ⊥). none))

    same : (i : ℕ) → i < length s → slice_index s 0 ≡ OPEN → get_or s i 0 ≡ get_or (OPEN ∷ drop 1 S) i 0
    same zero inside is = is
    same (suc i) inside is =
        let longest : length s ≤ max (length S) 1 = image.no_longer in
        elsewhere (suc i) (omega arith) (omega arith) ∙ ap (λ k. get_or S k 0) (omega arith) ∙ sym (get_or-drop 1 S i 0)

    size : slice_index s 0 ≡ OPEN → length s ≡ length (OPEN ∷ drop 1 S)
    size is =
        let some = not_empty s is in let left = length-drop 1 S in
        let longest : length s ≤ max (length S) 1 = image.no_longer in
        let least : length S ≤ length s = image.no_shorter in
        omega arith

    by_octet : (slice_index s 0 ≡ OPEN) ⊎ (slice_index s 0 ≡ OPEN → ⊥) → IsGated S s
    by_octet (inl is) = inl (ext_get_or 0 s (OPEN ∷ drop 1 S) (size is) (λ i inside. same i inside is))
    by_octet (inr isnt) = inr isnt

-- A truncation leaves the first byte.
pub cut_image : (S s : List ℕ) (n : ℕ) → 1 ≤ length S → IsClosed S → 1 ≤ n → IsImage (cut_to n (clean S)) s → IsClosed s
cut_image S s n some closed one image is = closed (sym (image.elsewhere 0 (omega arith) (λ (none : ⊥). none)) ∙ is)

-- A write after a closed gate that is synced leaves it closed.
pub behind_image : (body s : List ℕ) → IsImage (written_at 1 body (clean (0 ∷ []))) s → IsClosed s
behind_image body s image is =
    let zero_is : slice_index s 0 ≡ 0 = image.elsewhere 0 (omega arith) (⊎_elim (λ (here : (1 ≤ 0) × (0 < 1 + length body)). let low = here.0 in absurd (omega arith)) (λ (none : ⊥). none)) in
    omega (arith, zero_is, is)

-- A crash leaves a pair without pending writes as it is read.

pub both_image : (p : Pair) (m s : List ℕ) → IsSynced p → IsPairImage p m s → (m ≡ p.media.reads) × (s ≡ p.sidecar.reads)
both_image p m s synced image =
    let at = subst (λ (q : Pair). IsPairImage q m s) synced image in
    (clean_image p.media.reads m at.media, clean_image p.sidecar.reads s at.sidecar)

pub gate_write_image : (p : Pair) (gate : ℕ) (m s : List ℕ) → IsSynced p → IsPairImage (on 1 (written_at 0 (gate ∷ [])) p) m s → (m ≡ p.media.reads) × IsGated p.sidecar.reads s
gate_write_image p gate m s synced image =
    let at = subst (λ (q : Pair). IsPairImage (on 1 (written_at 0 (gate ∷ [])) q) m s) synced image in
    (clean_image p.media.reads m at.media, gate_image p.sidecar.reads s gate at.sidecar)

pub cut_write_image : (p : Pair) (m s : List ℕ) → IsSynced p → 1 ≤ length p.sidecar.reads → IsClosed p.sidecar.reads → IsPairImage (on 1 (cut_to 1) p) m s → (m ≡ p.media.reads) × IsClosed s
cut_write_image p m s synced some closed image =
    let at = subst (λ (q : Pair). IsPairImage (on 1 (cut_to 1) q) m s) synced image in
    (clean_image p.media.reads m at.media, cut_image p.sidecar.reads s 1 some closed (omega arith) at.sidecar)

pub record_write_image : (p : Pair) (M body m s : List ℕ) → p ≡ both M (0 ∷ []) → IsPairImage (on 1 (written_at 1 body) p) m s → (m ≡ M) × IsClosed s
record_write_image p M body m s is image =
    let at = subst (λ (q : Pair). IsPairImage (on 1 (written_at 1 body) q) m s) is image in
    (clean_image M m at.media, behind_image body s at.sidecar)
