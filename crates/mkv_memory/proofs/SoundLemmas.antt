-- The contents that a crash may leave of a file after a change, and the chosen images.
use Rattle.std.proofs.Common.{◌≡◌, ◌⊎◌, inl, inr, ℕ, zero, suc, ◌+◌, ◌<◌, ◌≤◌, ◌==◌, ◌%◌, ◌&&◌, ◌||◌, min, Bool, true, false, nat_le, nat_lt, if◌then◌else◌, List, [], ◌∷◌, length, take, get_or, slice_index, refl, sym, ◌∙◌, ap, subst, arith, length-take}
use Rattle.std.specs.List.{enumerate_from, zip}
use Rattle.std.proofs.lemmas.Bool.{and_parts, cases_lt, cond-false, leb-true, ltb-false, ltb-true}
use Rattle.std.proofs.lemmas.List.{get_or-map, get_or-take, length-map, length-take-le}
use Rattle.std.proofs.lemmas.List.FromFn.{get_or-enumerate_from, length-enumerate_from}
use Rattle.mkv_io.specs.declared.outside.TheConstants.{LONGEST_FILE}
use Rattle.mkv_disk.specs.Image.{DiskFile, InRanges, IsImage, Range, all_synced, clean}
use Rattle.mkv_disk.specs.Pair.{Pair, IsPairImage, file_of, on}
use Rattle.mkv_disk.proofs.ImageLemmas.{clean_image, length-overwritten, overwritten_outside}
use Rattle.mkv_memory.specs.Changes.{BeginsWithin, CanChange, Change, changed_by, cut, synced, written}
use Rattle.mkv_memory.specs.Images.{blotted, image_of, is_written, mixed}
use Rattle.mkv_memory.specs.SeenDisk.{is_too_long}
use Rattle.mkv_memory.specs.Sound.{IsSound}
use Rattle.mkv_memory.specs.declared.pending.CrashImage.{CrashImage}
use Rattle.mkv_memory.specs.declared.pending.CrashImage.TheVariants.{AsRead, AsSynced, Blotted, Mixed}

-- ---- files stay valid

pub can-within : (c : Change) (reads : List ℕ) → BeginsWithin c reads → is_too_long c ≡ false → CanChange c reads
can-within (written at bytes) reads within short = (within, ltb-false LONGEST_FILE (at + length bytes) short)
can-within (cut len) reads within short = within
can-within synced reads within short = tt

pub sound-clean : (bytes : List ℕ) → length bytes ≤ LONGEST_FILE → IsSound (clean bytes)
sound-clean bytes short =
    let image : IsImage (clean bytes) bytes = record { no_shorter = omega arith; no_longer = omega arith; elsewhere = λ k inside outside. refl } in
    record { reads = image; synced = image; short = short; short_synced = short }

pub sound-changed : (c : Change) (f : DiskFile) → IsSound f → CanChange c f.reads → IsSound (changed_by c f)
sound-changed (written at bytes) f sound can =
    let size = length-overwritten f.reads at bytes can.0 in
    let low = sound.reads.no_shorter in let high = sound.reads.no_longer in let least = sound.synced.no_shorter in let greatest = sound.synced.no_longer in
    let short = sound.short in let fits = can.1 in
    record {
      reads = record {
        no_shorter = omega arith;
        no_longer = omega arith;
        elsewhere = λ k inside outside.
            overwritten_outside f.reads at bytes k can.0 (out k outside (cases_lt k at) (cases_lt k (at + length bytes)))
            ∙ sound.reads.elsewhere k inside (λ there. outside (inr there));
      };
      synced = record { no_shorter = least; no_longer = omega arith; elsewhere = λ k inside outside. refl };
      short = omega arith;
      short_synced = sound.short_synced;
    }
  where
    out : (k : ℕ) → (InRanges (record { from = at; to = at + length bytes } ∷ f.written) k → ⊥) → (k < at) ⊎ (at ≤ k) → (k < at + length bytes) ⊎ (at + length bytes ≤ k) → (k < at) ⊎ (at + length bytes ≤ k)
    out k outside (inl below) end = inl below
    out k outside (inr above) (inl before) = absurd (outside (inl (above, before)))
    out k outside (inr above) (inr behind) = inr behind
sound-changed (cut len) f sound can =
    let size = length-take len f.reads in
    let low = sound.reads.no_shorter in let high = sound.reads.no_longer in let least = sound.synced.no_shorter in
    let short = sound.short in
    record {
      reads = record {
        no_shorter = omega arith;
        no_longer = omega arith;
        elsewhere = λ k inside outside. get_or-take len f.reads k 0 (omega arith) ∙ sound.reads.elsewhere k (omega arith) outside;
      };
      synced = record { no_shorter = omega arith; no_longer = sound.synced.no_longer; elsewhere = λ k inside outside. refl };
      short = omega arith;
      short_synced = sound.short_synced;
    }
sound-changed synced f sound can = sound-clean f.reads sound.short

pub sound-media : (n : ℕ) (c : Change) (p : Pair) → IsSound p.media → CanChange c (file_of n p).reads → IsSound (on n (changed_by c) p).media
sound-media zero c p sound can = sound-changed c p.media sound can
sound-media (suc n) c p sound can = sound

pub sound-sidecar : (n : ℕ) (c : Change) (p : Pair) → IsSound p.sidecar → CanChange c (file_of n p).reads → IsSound (on n (changed_by c) p).sidecar
sound-sidecar zero c p sound can = sound
sound-sidecar (suc n) c p sound can = sound-changed c p.sidecar sound can

-- ---- the contents that a crash may leave before and after a change

-- Until the next sync, a write or a truncation removes none of them.
pub grown : (c : Change) (f : DiskFile) (image : List ℕ) → (c ≡ synced → ⊥) → IsImage f image → IsImage (changed_by c f) image
grown (written at bytes) f image isnt was =
    let high = was.no_longer in
    record { no_shorter = was.no_shorter; no_longer = omega arith; elsewhere = λ k inside outside. was.elsewhere k inside (λ there. outside (inr there)) }
grown (cut len) f image isnt was =
    let low = was.no_shorter in
    record { no_shorter = omega arith; no_longer = was.no_longer; elsewhere = λ k inside outside. was.elsewhere k (omega arith) outside }
grown synced f image isnt was = absurd (isnt refl)

pub grown-pair : (n : ℕ) (c : Change) (p : Pair) (m s : List ℕ) → (c ≡ synced → ⊥) → IsPairImage p m s → IsPairImage (on n (changed_by c) p) m s
grown-pair zero c p m s isnt was = record { media = grown c p.media m isnt was.media; sidecar = was.sidecar }
grown-pair (suc n) c p m s isnt was = record { media = was.media; sidecar = grown c p.sidecar s isnt was.sidecar }

-- A sync leaves only contents that were possible before.
pub shrunk : (f : DiskFile) (image : List ℕ) → IsSound f → IsImage (all_synced f) image → IsImage f image
shrunk f image sound now = subst (IsImage f) (sym (clean_image f.reads image now)) sound.reads

pub shrunk-pair : (n : ℕ) (p : Pair) (m s : List ℕ) → IsSound p.media → IsSound p.sidecar → IsPairImage (on n all_synced p) m s → IsPairImage p m s
shrunk-pair zero p m s media sidecar now = record { media = shrunk p.media m media now.media; sidecar = now.sidecar }
shrunk-pair (suc n) p m s media sidecar now = record { media = now.media; sidecar = shrunk p.sidecar s sidecar now.sidecar }

-- ---- chosen images

written-in : (ranges : List Range) (k : ℕ) → is_written ranges k ≡ true → InRanges ranges k
written-in [] k is = let no : false ≡ true = is in cc
written-in (r ∷ ranges) k is = by_test (written-in ranges k) (nat_le r.from k && nat_lt k r.to) refl is
  where
    by_test : (is_written ranges k ≡ true → InRanges ranges k) → (b : Bool) → (nat_le r.from k && nat_lt k r.to) ≡ b → (b || is_written ranges k) ≡ true → InRanges (r ∷ ranges) k
    by_test more true here any = let both = and_parts (nat_le r.from k) (nat_lt k r.to) here in inl (leb-true r.from k both.0, ltb-true k r.to both.1)
    by_test more false here any = inr (more any)

unwritten : (ranges : List Range) (k : ℕ) → (InRanges ranges k → ⊥) → is_written ranges k ≡ false
unwritten ranges k outside = by_test (is_written ranges k) refl
  where
    by_test : (b : Bool) → is_written ranges k ≡ b → is_written ranges k ≡ false
    by_test true is = absurd (outside (written-in ranges k is))
    by_test false is = is

length-zip : (xs ys : List ℕ) → length (zip xs ys) ≡ min (length xs) (length ys)
length-zip [] ys = omega arith
length-zip (x ∷ xs) [] = omega arith
length-zip (x ∷ xs) (y ∷ ys) = let more = length-zip xs ys in omega arith

get_or-zip : (xs ys : List ℕ) (k : ℕ) (d : ℕ × ℕ) → k < length xs → k < length ys → get_or (zip xs ys) k d ≡ (get_or xs k 0, get_or ys k 0)
get_or-zip [] ys k d first second = absurd (omega arith)
get_or-zip (x ∷ xs) [] k d first second = absurd (omega arith)
get_or-zip (x ∷ xs) (y ∷ ys) zero d first second = refl
get_or-zip (x ∷ xs) (y ∷ ys) (suc k) d first second = get_or-zip xs ys k d (omega arith) (omega arith)

length-blotted : (f : DiskFile) → length (blotted f) ≡ length f.reads
length-blotted f = length-map (enumerate_from 0 f.reads) (λ (p : ℕ × ℕ). if is_written f.written p.0 then 255 else p.1) ∙ length-enumerate_from 0 f.reads

blotted-at : (f : DiskFile) (k : ℕ) → k < length f.reads → slice_index (blotted f) k ≡ (if is_written f.written k then 255 else slice_index f.reads k)
blotted-at f k inside =
    let size = length-enumerate_from 0 f.reads in
    get_or-map (λ (p : ℕ × ℕ). if is_written f.written p.0 then 255 else p.1) (enumerate_from 0 f.reads) k (0, 0) 0 (omega arith)
    ∙ ap (λ (p : ℕ × ℕ). if is_written f.written p.0 then 255 else p.1) (get_or-enumerate_from 0 f.reads k (0, 0) inside ∙ ap (λ n. (n, get_or f.reads k 0)) (omega arith))

length-mixed : (f : DiskFile) → f.least ≤ length f.reads → f.least ≤ length f.synced → length (mixed f) ≡ f.least
length-mixed f low least =
    let both = length-zip f.reads f.synced in
    length-map (enumerate_from 0 (take f.least (zip f.reads f.synced))) (λ (p : ℕ × (ℕ × ℕ)). if p.0 % 2 == 1 then p.1.1 else p.1.0)
    ∙ length-enumerate_from 0 (take f.least (zip f.reads f.synced))
    ∙ length-take-le f.least (zip f.reads f.synced) (omega arith)

mixed-at : (f : DiskFile) (k : ℕ) → f.least ≤ length f.reads → f.least ≤ length f.synced → k < f.least → slice_index (mixed f) k ≡ (if k % 2 == 1 then slice_index f.synced k else slice_index f.reads k)
mixed-at f k low least inside =
    let both = length-zip f.reads f.synced in
    let size = length-take-le f.least (zip f.reads f.synced) (omega arith) in
    let all = length-enumerate_from 0 (take f.least (zip f.reads f.synced)) in
    get_or-map (λ (p : ℕ × (ℕ × ℕ)). if p.0 % 2 == 1 then p.1.1 else p.1.0) (enumerate_from 0 (take f.least (zip f.reads f.synced))) k (0, (0, 0)) 0 (omega arith)
    ∙ ap (λ (p : ℕ × (ℕ × ℕ)). if p.0 % 2 == 1 then p.1.1 else p.1.0)
    (get_or-enumerate_from 0 (take f.least (zip f.reads f.synced)) k (0, (0, 0)) (omega arith)
    ∙ ap (λ n. (n, get_or (take f.least (zip f.reads f.synced)) k (0, 0))) (omega arith)
    ∙ ap (λ (q : ℕ × ℕ). (k, q)) (get_or-take f.least (zip f.reads f.synced) k (0, 0) inside ∙ get_or-zip f.reads f.synced k (0, 0) (omega arith) (omega arith)))

-- Each of the images is possible after a crash.
pub picked : (left : CrashImage) (f : DiskFile) → IsSound f → IsImage f (image_of left f)
picked AsRead f sound = sound.reads
picked AsSynced f sound = sound.synced
picked Blotted f sound =
    let size = length-blotted f in let low = sound.reads.no_shorter in let high = sound.reads.no_longer in
    record {
      no_shorter = omega arith;
      no_longer = omega arith;
      elsewhere = λ k inside outside.
          blotted-at f k (omega arith) ∙ cond-false (is_written f.written k) 255 (slice_index f.reads k) (unwritten f.written k outside)
          ∙ sound.reads.elsewhere k inside outside;
    }
picked Mixed f sound =
    let low = sound.reads.no_shorter in let least = sound.synced.no_shorter in let greatest = sound.synced.no_longer in
    let size = length-mixed f low least in
    record {
      no_shorter = omega arith;
      no_longer = omega arith;
      elsewhere = λ k inside outside. mixed-at f k low least inside ∙ by_place k (k % 2 == 1) (sound.reads.elsewhere k inside outside);
    }
  where
    by_place : (k : ℕ) (odd : Bool) → slice_index f.reads k ≡ slice_index f.synced k → (if odd then slice_index f.synced k else slice_index f.reads k) ≡ slice_index f.synced k
    by_place k true same = refl
    by_place k false same = same

-- None is longer than the limit.
pub picked-short : (left : CrashImage) (f : DiskFile) → IsSound f → length (image_of left f) ≤ LONGEST_FILE
picked-short AsRead f sound = sound.short
picked-short AsSynced f sound = sound.short_synced
picked-short Blotted f sound = let size = length-blotted f in let short = sound.short in omega arith
picked-short Mixed f sound =
    let low = sound.reads.no_shorter in let least = sound.synced.no_shorter in let size = length-mixed f low least in let short = sound.short in
    omega arith
