-- Laws on the state of a disk in memory after each call.
use Rattle.std.proofs.Common.{◌≡◌, ◌≢◌, ◌⊎◌, inl, inr, ℕ, zero, suc, ◌+◌, ◌<◌, ◌≤◌, true, List, [], ◌∷◌, length, take, refl, sym, ◌∙◌, ap, subst, arith, length-append, Option, Some, None, unwrap_or, Result, Ok, Err}
use Rattle.std.specs.Prelude.{OnOk}
use Rattle.std.proofs.lemmas.Bool.{cases_lt, false≢true}
use Rattle.std.proofs.lemmas.List.{take-append-le, take_all}
use Rattle.mkv_io.specs.declared.outside.Failed.{Failed}
use Rattle.mkv_disk.specs.Image.{DiskFile}
use Rattle.mkv_disk.specs.Moments.{ChangesOne, LeavesOnly}
use Rattle.mkv_disk.specs.Pair.{Pair, IsPairImage, file_of, on}
use Rattle.mkv_memory.specs.Changes.{Change, History, LeftSince, Made, changed_by, first_pair, pair_of, reads_by, replay, synced, with_change}
use Rattle.mkv_memory.specs.SeenDisk.{MakesChange, SeenDisk, content_in, is_live, live_in, pair_in}
use Rattle.mkv_memory.specs.Sound.{IsSound}
use Rattle.mkv_memory.proofs.LogLemmas.{reads-changed_by, replay-append}
use Rattle.mkv_memory.proofs.SoundLemmas.{grown-pair, shrunk-pair}
pub use Rattle.lemmas.proofs.PlainLemmas.{IfOk-map as if_ok}

-- ---- histories

pub pair-changed : (h : History) (file : ℕ) (c : Change) → pair_of (with_change h file c) ≡ on file (changed_by c) (pair_of h)
pair-changed h file c = replay-append h.made (record { file = file; change = c }) (first_pair h)

module _ (h : History) (file : ℕ) (c : Change) where
  abbrev now : History
  now = with_change h file c

  longer : length now.made ≡ length h.made + 1
  longer = length-append h.made (record { file = file; change = c } ∷ [])

  earlier : (k : ℕ) → k ≤ length h.made → take k now.made ≡ take k h.made
  earlier k le = take-append-le k h.made (record { file = file; change = c } ∷ []) le

  -- The images since an earlier moment were possible before, or are possible now.
  parted : (t : ℕ) (m s : List ℕ) → LeftSince now t m s → (t ≤ length h.made → LeftSince h t m s ⊎ IsPairImage (pair_of now) m s)
  parted t m s left le = by_count (cases_lt (length h.made) left.0)
    where
      by_count : (length h.made < left.0) ⊎ (left.0 ≤ length h.made) → LeftSince h t m s ⊎ IsPairImage (pair_of now) m s
      by_count (inl last) =
          let all : take left.0 now.made ≡ now.made = take_all left.0 now.made (let size = longer in omega arith) in
          inr (subst (λ (ms : List Made). IsPairImage (replay ms (first_pair h)) m s) all left.3)
      by_count (inr before) =
          inl (left.0, left.1, before, subst (λ (ms : List Made). IsPairImage (replay ms (first_pair h)) m s) (earlier left.0 before) left.3)

  pub leaves-changed : (P : List ℕ → List ℕ → Type 0) → ((m s : List ℕ) → IsPairImage (pair_of h) m s → P m s) → ((m s : List ℕ) → IsPairImage (pair_of now) m s → P m s)
      → LeavesOnly (λ (x : History). length x.made) LeftSince h now P
  leaves-changed P before after = record {
    later = let size = longer in omega arith;
    each = λ m s left. of_parts m s (parted (length h.made) m s left (omega arith));
    before = λ t m s le left. elim (parted t m s left le) [ inl was ↦ inl was | inr image ↦ inr (after m s image) ];
    keeps = λ t m s le left. (
      left.0,
      left.1,
      let size = longer in let most = left.2 in omega arith,
      subst (λ (ms : List Made). IsPairImage (replay ms (first_pair h)) m s) (sym (earlier left.0 left.2)) left.3,
    );
  }
    where
      of_parts : (m s : List ℕ) → LeftSince h (length h.made) m s ⊎ IsPairImage (pair_of now) m s → P m s
      of_parts m s (inl was) =
          before m s (subst (λ (ms : List Made). IsPairImage (replay ms (first_pair h)) m s) (take_all was.0 h.made was.1) was.3)
      of_parts m s (inr image) = after m s image

pub leaves-same : (h : History) (P : List ℕ → List ℕ → Type 0) → ((m s : List ℕ) → IsPairImage (pair_of h) m s → P m s) → LeavesOnly (λ (x : History). length x.made) LeftSince h h P
leaves-same h P so = record {
  later = omega arith;
  each = λ m s left. so m s (subst (λ (ms : List Made). IsPairImage (replay ms (first_pair h)) m s) (take_all left.0 h.made left.1) left.3);
  before = λ t m s le left. inl left;
  keeps = λ t m s le left. left;
}

-- ---- the live files

none-live : (opened : Option (List ℕ)) (n : ℕ) → is_live opened (suc (suc n)) ≡ true → ⊥
none-live None n live = false≢true live
none-live (Some name) n live = false≢true live

other-content : (opened : Option (List ℕ)) (c : Change) (n file : ℕ) (p : Pair) → n ≢ file → is_live opened file ≡ true → content_in (on file (changed_by c) p) n ≡ content_in p n
other-content opened c zero zero p isnt live = absurd (isnt refl)
other-content opened c zero (suc file) p isnt live = refl
other-content opened c (suc zero) zero p isnt live = refl
other-content opened c (suc zero) (suc zero) p isnt live = absurd (isnt refl)
other-content opened c (suc zero) (suc (suc file)) p isnt live = absurd (none-live opened file live)
other-content opened c (suc (suc n)) file p isnt live = refl

pub live-content : (opened : Option (List ℕ)) (n : ℕ) (p : Pair) → is_live opened n ≡ true → content_in p n ≡ Some (file_of n p).reads
live-content opened zero p live = refl
live-content opened (suc zero) p live = refl
live-content opened (suc (suc n)) p live = absurd (none-live opened n live)

pub live-size : (opened : Option (List ℕ)) (n : ℕ) (p : Pair) → is_live opened n ≡ true → length (unwrap_or (content_in p n) []) ≡ length (file_of n p).reads
live-size opened n p live = ap (λ (content : Option (List ℕ)). length (unwrap_or content [])) (live-content opened n p live)

file_of-on : (n : ℕ) (change : DiskFile → DiskFile) (p : Pair) → file_of n (on n change p) ≡ change (file_of n p)
file_of-on zero change p = refl
file_of-on (suc n) change p = refl

-- ---- a change, or its failure

module _ {T : Type 0} (old new : SeenDisk) (file : ℕ) (c : Change) where
  pub makes-ok : (r : Result T Failed) → MakesChange old file c r new → OnOk r (pair_in new ≡ on file (changed_by c) (pair_in old))
  makes-ok (Ok x) is = ap (λ (d : SeenDisk). pair_in d) is.1 ∙ pair-changed old.logged.history file c
  makes-ok (Err e) is = tt

  pub makes-moment : (r : Result T Failed) → MakesChange old file c r new → (P : List ℕ → List ℕ → Type 0) → ((m s : List ℕ) → IsPairImage (pair_in old) m s → P m s)
      → ((m s : List ℕ) → IsPairImage (on file (changed_by c) (pair_in old)) m s → P m s) → LeavesOnly (λ (x : History). length x.made) LeftSince old.logged.history new.logged.history P
  makes-moment (Ok x) is P before after =
      subst (λ (h : History). LeavesOnly (λ (x : History). length x.made) LeftSince old.logged.history h P) (sym (ap (λ (d : SeenDisk). d.logged.history) is.1))
      (leaves-changed old.logged.history file c P before (λ m s image. after m s (subst (λ (p : Pair). IsPairImage p m s) (pair-changed old.logged.history file c) image)))
  makes-moment (Err e) is P before after =
      subst (λ (h : History). LeavesOnly (λ (x : History). length x.made) LeftSince old.logged.history h P) (sym (ap (λ (d : SeenDisk). d.logged.history) is.1))
      (leaves-same old.logged.history P before)

  -- A write or a truncation.
  pub makes-grown : (r : Result T Failed) → (c ≡ synced → ⊥) → MakesChange old file c r new → LeavesOnly (λ (x : History). length x.made) LeftSince old.logged.history new.logged.history (IsPairImage (on file (changed_by c) (pair_in old)))
  makes-grown r isnt is = makes-moment r is (IsPairImage (on file (changed_by c) (pair_in old))) (λ m s image. grown-pair file c (pair_in old) m s isnt image) (λ m s image. image)

  -- The same files are open under the same name, and no other is changed.
  pub makes-opened : (r : Result T Failed) → MakesChange old file c r new → new.opened ≡ old.opened
  makes-opened (Ok x) is = ap (λ (d : SeenDisk). d.opened) is.1
  makes-opened (Err e) is = ap (λ (d : SeenDisk). d.opened) is.1

  pub makes-reading : (r : Result T Failed) → MakesChange old file c r new → new.reading_faults ≡ old.reading_faults
  makes-reading (Ok x) is = ap (λ (d : SeenDisk). d.reading_faults) is.1
  makes-reading (Err e) is = ap (λ (d : SeenDisk). d.reading_faults) is.1

  pub makes-octets : (r : Result T Failed) → MakesChange old file c r new → new.octets_read ≡ old.octets_read
  makes-octets (Ok x) is = ap (λ (d : SeenDisk). d.octets_read) is.1
  makes-octets (Err e) is = ap (λ (d : SeenDisk). d.octets_read) is.1

  pub makes-others : (r : Result T Failed) → is_live old.opened file ≡ true → MakesChange old file c r new → ChangesOne (live_in old.opened (pair_in old)) (live_in new.opened (pair_in new)) file
  makes-others r live is = record {
    live = λ n. ap (λ (o : Option (List ℕ)). is_live o n) (makes-opened r is);
    size = λ n isnt. ap (λ (content : Option (List ℕ)). length (unwrap_or content [])) (content r is n isnt);
  }
    where
      content : (r : Result T Failed) → MakesChange old file c r new → (n : ℕ) → n ≢ file → content_in (pair_in new) n ≡ content_in (pair_in old) n
      content (Ok x) is n isnt = ap (λ (p : Pair). content_in p n) (makes-ok (Ok x) is) ∙ other-content old.opened c n file (pair_in old) isnt live
      content (Err e) is n isnt = ap (λ (d : SeenDisk). content_in (pair_in d) n) is.1

  pub makes-size : (r : Result T Failed) → is_live old.opened file ≡ true → MakesChange old file c r new → OnOk r ((live_in new.opened (pair_in new)).size file ≡ length (reads_by c (file_of file (pair_in old)).reads))
  makes-size (Ok x) live is =
      ap (λ (p : Pair). length (unwrap_or (content_in p file) [])) (makes-ok (Ok x) is)
      ∙ live-size old.opened file (on file (changed_by c) (pair_in old)) live
      ∙ ap (λ (f : DiskFile). length f.reads) (file_of-on file (changed_by c) (pair_in old))
      ∙ ap length (reads-changed_by c (file_of file (pair_in old)))
  makes-size (Err e) live is = tt

-- ---- a sync, and lengths

module _ {T : Type 0} (old new : SeenDisk) (file : ℕ) where
  pub makes-synced : (r : Result T Failed) → IsSound (pair_in old).media → IsSound (pair_in old).sidecar → MakesChange old file synced r new
      → LeavesOnly (λ (x : History). length x.made) LeftSince old.logged.history new.logged.history (IsPairImage (pair_in old))
  makes-synced r media sidecar is = makes-moment old new file synced r is (IsPairImage (pair_in old)) (λ m s image. image) (λ m s image. shrunk-pair file (pair_in old) m s media sidecar image)

pub on_ok : {T E : Type 0} (P Q : Type 0) (r : Result T E) → (P → Q) → OnOk r P → OnOk r Q
on_ok P Q (Ok x) so has = so has
on_ok P Q (Err e) so has = tt
