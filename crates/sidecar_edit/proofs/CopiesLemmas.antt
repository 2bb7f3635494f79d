-- Laws on bytes of the journal that are written over the file in pieces, and on the contents that a crash leaves.
use Rattle.std.proofs.Common.{◌≡◌, inl, inr, ⊎_elim, ℕ, ◌+◌, ◌<◌, ◌≤◌, List, [], ◌++◌, length, take, drop, slice_index, get_or, refl, sym, ◌∙◌, ap, subst, arith, append_assoc, length-append, length-drop}
use Rattle.std.proofs.Math.Seq.{take-add}
use Rattle.std.proofs.lemmas.List.{drop-drop, length-take-le, take-append-drop, take_at}
use Rattle.std.proofs.lemmas.Slice.{drop-append-drop}
use Rattle.mkv_io.specs.Contents.{octets_from, overwritten}
use Rattle.mkv_disk.specs.Image.{DiskFile, InRanges, IsImage, written_at}
use Rattle.mkv_disk.specs.Pair.{Pair, IsPairImage, on}
use Rattle.sidecar_edit.specs.declared.place.Place.{Place}
use Rattle.sidecar_edit.specs.Fields.{count_in, cut_up, head_len, place_in, sum_of, used_in, version_in}
use Rattle.sidecar_edit.specs.Writes.{Fits, Torn, Write}
use Rattle.sidecar_edit.proofs.ReadingLemmas.{length-used, used-is}
use Rattle.sidecar_edit.proofs.RedoLemmas.{length-overwritten}
use Rattle.sidecar_edit.specs.Copies.{IsCopied, with_copy}
use Rattle.sidecar_edit.specs.Partly.{IsPartly, IsWritten}
use Rattle.sidecar_edit.proofs.PartlyLemmas.{all_turns, sum_more, sum_within, turn_image, turn_reaches, turn_state}

-- A write of no bytes changes nothing.
overwritten-none : (xs : List ℕ) (at : ℕ) → overwritten xs at [] ≡ xs
overwritten-none xs at = ap (λ n. take at xs ++ drop n xs) (omega arith) ∙ take-append-drop at xs

-- Two writes in sequence are one write of both.
overwritten-overwritten : (xs b c : List ℕ) (at : ℕ) → at ≤ length xs → overwritten (overwritten xs at b) (at + length b) c ≡ overwritten xs at (b ++ c)
overwritten-overwritten xs b c at le =
    let A = take at xs ++ b in let D = drop (at + length b + length c) xs in
    let left = length-take-le at xs le in let both = length-append (take at xs) b in let sum = length-append b c in
    let size : length (take at xs ++ b) ≡ at + length b = omega arith in
    let same : overwritten xs at b ≡ A ++ drop (at + length b) xs = sym (append_assoc (take at xs) b (drop (at + length b) xs)) in
    ap (λ bytes. overwritten bytes (at + length b) c) same
    ∙ ap (λ first. first ++ (c ++ drop (at + length b + length c) (A ++ drop (at + length b) xs))) (take_at A (drop (at + length b) xs) (at + length b) size)
    ∙ ap (λ rest. A ++ (c ++ rest)) (drop-append-drop (at + length b) xs A (at + length b + length c) (omega arith) size)
    ∙ append_assoc (take at xs) b (c ++ D)
    ∙ ap (λ rest. take at xs ++ rest) (sym (append_assoc b c D))
    ∙ ap (λ n. take at xs ++ (b ++ c ++ drop n xs)) (omega arith)

-- The next bytes follow the first ones.
octets_from-add : (xs : List ℕ) (from done n : ℕ) → octets_from xs from (done + n) ≡ octets_from xs from done ++ octets_from xs (from + done) n
octets_from-add xs from done n = take-add done n (drop from xs) ∙ ap (λ rest. octets_from xs from done ++ take n rest) (drop-drop done from xs ∙ ap (λ k. drop k xs) (omega arith))

length-octets_from : (xs : List ℕ) (from n : ℕ) → from + n ≤ length xs → length (octets_from xs from n) ≡ n
length-octets_from xs from n le = let left = length-drop from xs in length-take-le n (drop from xs) (omega arith)

module _ (from at : ℕ) (old : Pair) where
  abbrev pub Copied : ℕ → Pair → Type 0
  Copied n new = IsWritten at (octets_from old.sidecar.reads from n) old new

  pub copied-none : Copied 0 old
  copied-none = record {
    sidecar = refl;
    reads = sym (overwritten-none old.media.reads at);
    synced = refl;
    least = refl;
    greatest = omega arith;
    within = λ k written. inr written;
  }

  -- A crash leaves no more than it may leave of one write of the copied bytes and more.
  pub copied_image : (n len : ℕ) (mid : Pair) (m s : List ℕ) → n ≤ len → from + len ≤ length old.sidecar.reads → Copied n mid → IsPairImage mid m s → IsPairImage (with_copy old from at len) m s
  copied_image n len mid m s le room was image =
      let some = length-octets_from old.sidecar.reads from n (omega arith) in
      let all = length-octets_from old.sidecar.reads from len room in
      let least = was.least in let greatest = was.greatest in let low = image.media.no_shorter in let high = image.media.no_longer in
      record {
        media = record {
          no_shorter = omega arith;
          no_longer = omega arith;
          elsewhere = λ k inside outside. image.media.elsewhere k (omega arith)
              (λ (written : InRanges mid.media.written k). outside (⊎_elim (λ (here : (at ≤ k) × (k < at + length (octets_from old.sidecar.reads from n))). let lt = here.1 in inl (here.0, omega arith)) (λ there. inr there) (was.within k written)))
              ∙ ap (λ bytes. slice_index bytes k) was.synced;
        };
        sidecar = subst (λ (f : DiskFile). IsImage f s) was.sidecar image.sidecar;
      }

  module _ (n more : ℕ) (mid : Pair) (inside : at ≤ length old.media.reads) (room : from + n + more ≤ length old.sidecar.reads) (was : Copied n mid) where
    -- The next bytes are written.
    pub copied-more : Copied (n + more) (with_copy mid (from + n) (at + n) more)
    copied-more =
        let some = length-octets_from old.sidecar.reads from n (omega arith) in
        let next : octets_from mid.sidecar.reads (from + n) more ≡ octets_from old.sidecar.reads (from + n) more = ap (λ (f : DiskFile). octets_from f.reads (from + n) more) was.sidecar in
        let rest = length-octets_from old.sidecar.reads (from + n) more room in
        let rest_mid = ap length next in
        let all = length-octets_from old.sidecar.reads from (n + more) (omega arith) in
        let greatest = was.greatest in
        record {
          sidecar = was.sidecar;
          reads = ap (λ bytes. overwritten bytes (at + n) (octets_from mid.sidecar.reads (from + n) more)) was.reads
              ∙ ap (λ bytes. overwritten (overwritten old.media.reads at (octets_from old.sidecar.reads from n)) (at + n) bytes) next
              ∙ ap (λ place. overwritten (overwritten old.media.reads at (octets_from old.sidecar.reads from n)) place (octets_from old.sidecar.reads (from + n) more)) (omega arith)
              ∙ overwritten-overwritten old.media.reads (octets_from old.sidecar.reads from n) (octets_from old.sidecar.reads (from + n) more) at inside
              ∙ ap (overwritten old.media.reads at) (sym (octets_from-add old.sidecar.reads from n more));
          synced = was.synced;
          least = was.least;
          greatest = omega arith;
          within = λ k written. ⊎_elim
              (λ (here : (at + n ≤ k) × (k < at + n + length (octets_from mid.sidecar.reads (from + n) more))). let low = here.0 in let high = here.1 in inl (omega arith, omega arith))
              (λ (there : InRanges mid.media.written k). ⊎_elim (λ (here : (at ≤ k) × (k < at + length (octets_from old.sidecar.reads from n))). let high = here.1 in inl (here.0, omega arith)) (λ earlier. inr earlier) (was.within k there))
              written;
        }

    -- They begin in the content.
    pub copied_reaches : at + n ≤ length mid.media.reads
    copied_reaches =
        let some = length-octets_from old.sidecar.reads from n (omega arith) in
        let size = ap length was.reads ∙ length-overwritten old.media.reads at (octets_from old.sidecar.reads from n) inside in
        omega arith

    -- A crash while they are written leaves no more than one write of all.
    pub piece_image : (len : ℕ) (m s : List ℕ) → n + more ≤ len → from + len ≤ length old.sidecar.reads → IsPairImage (with_copy mid (from + n) (at + n) more) m s → IsPairImage (with_copy old from at len) m s
    piece_image len m s le all image = copied_image (n + more) len (with_copy mid (from + n) (at + n) more) m s le all copied-more image

-- ---- the writes of a journal in sequence

-- the writes by the journal's first bytes
abbrev pub writes_by : List ℕ → List ℕ → List Write
writes_by head S = cut_up (used_in head) (drop (head_len (version_in head)) S)

module _ (head : List ℕ) (k from : ℕ) (place : Place) (few : count_in head ≤ 8) (used : k < count_in head) (is : place ≡ place_in head k) (start : from ≡ head_len (version_in head) + sum_of (take k (used_in head))) where
  inside : k < length (used_in head)
  inside = let size = length-used head few in omega arith

  place_is : place ≡ get_or (used_in head) k place
  place_is = is ∙ sym (used-is head k place few used)

  pub next_from : from + place.len ≡ head_len (version_in head) + sum_of (take (k + 1) (used_in head))
  next_from = let more = sum_more (used_in head) k place inside in let len = ap (λ (q : Place). q.len) place_is in omega arith

  pub next_within : from + place.len ≤ head_len (version_in head) + sum_of (used_in head)
  next_within = let more = sum_within (used_in head) k place inside in let len = ap (λ (q : Place). q.len) place_is in omega arith

  module _ (M S : List ℕ) (p : Pair) (was : IsPartly (writes_by head S) k M S p) where
    bytes_are : octets_from p.sidecar.reads from place.len ≡ take place.len (drop (sum_of (take k (used_in head))) (drop (head_len (version_in head)) S))
    bytes_are =
        ap (λ (f : DiskFile). octets_from f.reads from place.len) was.sidecar
        ∙ ap (λ n. octets_from S n place.len) start
        ∙ ap (take place.len) (sym (drop-drop (sum_of (take k (used_in head))) (head_len (version_in head)) S ∙ ap (λ n. drop n S) (omega arith)))

    pub redone_image : (m s : List ℕ) → IsPairImage (with_copy p from place.at place.len) m s → Torn (writes_by head S) M m × (s ≡ S)
    redone_image m s image =
        turn_image (used_in head) (drop (head_len (version_in head)) S) M S p k place inside place_is m s was
        (subst (λ bytes. IsPairImage (on 0 (written_at place.at bytes) p) m s) bytes_are image)

    pub redone_more : (q : Pair) → IsCopied from place p q → IsPartly (writes_by head S) (k + 1) M S q
    redone_more q now =
        turn_state (used_in head) (drop (head_len (version_in head)) S) M S p k place inside place_is q was
        (subst (λ bytes. IsWritten place.at bytes p q) bytes_are now)

    pub redone_reaches : Fits (length M) (writes_by head S) → place.at ≤ length p.media.reads
    redone_reaches fits = turn_reaches (used_in head) (drop (head_len (version_in head)) S) M S p k place inside place_is was fits

-- All of them are made.
pub redone_all : (head S : List ℕ) (k : ℕ) → count_in head ≤ 8 → count_in head ≤ k → length (writes_by head S) ≤ k
redone_all head S k few past = let size = length-used head few in all_turns (used_in head) (drop (head_len (version_in head)) S) k (omega arith)
