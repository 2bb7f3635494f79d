-- The data of an input's attached files are within its content.
use Rattle.std.proofs.Common.{◌≡◌, ◌<◌, ◌≤◌, ℕ, zero, suc, ◌-◌, ◌==◌, nat_lt, Bool, true, false, if◌then◌else◌, cond, List, [], ◌∷◌, length, find, filter, map, Option, Some, None, Result, Ok, Err, eqb-true, refl, ap, subst, arith}
use Rattle.std.specs.List.{All, sum_by}
use Rattle.std.specs.Option.{option_map_or}
use Rattle.std.proofs.lemmas.List.Elements.{All-nil, All-cons, All-head, All-tail}
use Rattle.std.proofs.lemmas.List.Sums.{sum_by-cons}
use Rattle.mkv_io.specs.declared.damage.Damage.{Damage}
use Rattle.mkv_schema.specs.declared.element.Header.{Header}
use Rattle.mkv_schema.specs.declared.ids.TheConstants.{ATTACHMENTS, FILE_DATA}
use Rattle.mkv_schema.specs.Element.{Setting, in_master, in_segment, element_at, end_in, is_unknown, known, octets_between, stated_end}
use Rattle.mkv_schema.specs.Elements.{Next, Run, behind, behind_in_segment, children_in, elements, elements_within, ends_at, ends_segment, id_of, never, step}
use Rattle.mkv_schema.specs.Outline.{first_damage, segment_bound, segment_run}
use Rattle.mkv_schema.specs.Placed.{IsWhole}
use Rattle.mkv_schema.specs.Value.{first_of}
use Rattle.mkv_schema.proofs.ElementLemmas.{element_at-placed, element_in-whole}
use Rattle.mkv_schema.proofs.FindLemmas.{find-passes}
use Rattle.mkv_schema.proofs.OutlineLemmas.{unless-ok}
use Rattle.meta_records.specs.Attached.{AttachedFile, file_at, files_at, first_attached}
use Rattle.meta_records.specs.Attachments.{attachments_causes, attached_in, children_of, data_in, is_attached}

-- ---- disjoint Elements

-- Each Element `h` in sequence has a weight, `w h`, of at most its size.
module _ (bytes : List ℕ) (e : ℕ) (w : Header → ℕ) (small : (h : Header) → w h ≤ known h.size) where
  -- the Elements from the offset `p` on, but at most `n`
  abbrev children_within : ℕ → ℕ → Run
  children_within n p = elements_within n in_master never (λ h. Ok (end_in e h)) bytes p e

  found-weight : (n p : ℕ) (found : Result Header Damage) → p < e → element_at in_master bytes p e ≡ found → ((q : ℕ) → sum_by w (children_within n q).list ≤ e - q)
      → sum_by w (step p (λ h. Ok (end_in e h)) found (children_within n)).list ≤ e - p
  found-weight n p (Err d) inside is further = omega arith
  found-weight n p (Ok h) inside is further =
      let placed = element_at-placed in_master bytes p e h (omega arith) is in
      let whole = element_in-whole in_master (octets_between bytes p e) (length bytes) p e h is in
      let later = placed.later in
      let ends = whole.inside refl in
      let own = small h in
      let left = further (end_in e h) in
      rw (sum_by-cons w h (children_within n (end_in e h)).list) (omega arith)

  weight-within : (n p : ℕ) → sum_by w (children_within n p).list ≤ e - p
  unfolding elements_within
  weight-within zero p = omega arith
  weight-within (suc n) p = of (weight-within n) (nat_lt p e) refl
    where
      of : ((q : ℕ) → sum_by w (children_within n q).list ≤ e - q) → (inside : Bool) → nat_lt p e ≡ inside
          → sum_by w (if inside then step p (λ h. Ok (end_in e h)) (element_at in_master bytes p e) (children_within n) else ends_at p).list ≤ e - p
      of further true is = found-weight n p (element_at in_master bytes p e) (grind arith) refl further
      of further false is = omega arith

  -- The children of a master are disjoint, so their weights together are at most the length of its body.
  pub children-weight : (p : ℕ) → sum_by w (children_in in_master bytes p e).list ≤ e - p
  unfolding elements
  children-weight p = weight-within (e - p) p

-- ---- Elements within their parent

module _ (s : Setting) (stops : ℕ → Bool) (next : Next) (bytes : List ℕ) (e : ℕ) where
  -- the Elements from the offset `p` on, but at most `n`
  abbrev run_within : ℕ → ℕ → Run
  run_within n p = elements_within n s stops next bytes p e

  behind-whole : (n p : ℕ) (h : Header) (q : Result ℕ Damage) → IsWhole s e h → ((k : ℕ) → All (IsWhole s e) (run_within n k).list) → All (IsWhole s e) (behind p h q (run_within n)).list
  behind-whole n p h (Ok k) whole further = All-cons (IsWhole s e) h (run_within n k).list whole (further k)
  behind-whole n p h (Err d) whole further = All-cons (IsWhole s e) h [] whole (All-nil (IsWhole s e))

  found-whole : (n p : ℕ) (found : Result Header Damage) → element_at s bytes p e ≡ found → ((k : ℕ) → All (IsWhole s e) (run_within n k).list) → All (IsWhole s e) (step p next found (run_within n)).list
  found-whole n p (Err d) is further = All-nil (IsWhole s e)
  found-whole n p (Ok h) is further = behind-whole n p h (next h) (element_in-whole s (octets_between bytes p e) (length bytes) p e h is) further

  within-whole : (n p : ℕ) → All (IsWhole s e) (run_within n p).list
  unfolding elements_within
  within-whole zero p = All-nil (IsWhole s e)
  within-whole (suc n) p = of (within-whole n) (nat_lt p e) (stops (id_of (element_at s bytes p e)))
    where
      of : ((q : ℕ) → All (IsWhole s e) (run_within n q).list) → (inside stop : Bool)
          → All (IsWhole s e) (if inside then (if stop then ends_at p else step p next (element_at s bytes p e) (run_within n)) else ends_at p).list
      of further false stop = All-nil (IsWhole s e)
      of further true true = All-nil (IsWhole s e)
      of further true false = found-whole n p (element_at s bytes p e) refl further

  -- Each Element of a run ends at its parent's end or before, unless it may be open.
  pub elements-whole : (p : ℕ) → All (IsWhole s e) (elements s stops next bytes p e).list
  unfolding elements
  elements-whole p = within-whole (e - p) p

-- A fact about all items holds for the one that is found.
found-all : {A : Type 0} (P : A → Type 0) (t : A → Bool) (xs : List A) (x : A) → All P xs → find t xs ≡ Some x → P x
found-all P t [] x all found = absurd (cc)
found-all P t (y ∷ ys) x all found = of (t y) found (found-all P t ys x (All-tail P y ys all))
  where
    of : (passes : Bool) → cond passes (Some y) (find t ys) ≡ Some x → (find t ys ≡ Some x → P x) → P x
    of true is rest = let same : y ≡ x = cc in subst P same (All-head P y ys all)
    of false is rest = rest is

-- A Segment reaches at most to the end of the content.
bound-total : (bytes : List ℕ) (segment : Header) → segment_bound bytes segment ≤ length bytes
bound-total bytes segment = of (is_unknown segment.size)
  where
    of : (unknown : Bool) → (if unknown then length bytes else end_in (length bytes) segment) ≤ length bytes
    of true = omega arith
    of false = omega arith

-- The first Attachments is within the content.
attachments-inside : (bytes : List ℕ) (segment h : Header) → first_of ATTACHMENTS (segment_run bytes segment).list ≡ Some h → known h.size ≤ length bytes
attachments-inside bytes segment h found =
    let e = segment_bound bytes segment in
    let whole = found-all (IsWhole in_segment e) (λ (c : Header). c.id == ATTACHMENTS) (segment_run bytes segment).list h
    (elements-whole in_segment (ends_segment segment.size) (behind_in_segment bytes e) bytes e segment.body) found in
    let id : h.id ≡ ATTACHMENTS = eqb-true h.id ATTACHMENTS (find-passes (λ (c : Header). c.id == ATTACHMENTS) (segment_run bytes segment).list h found) in
    let ends = whole.inside (ap in_segment.may_open id) in
    let bound = bound-total bytes segment in
    omega arith

-- ---- attached files

-- the number of bytes of the data of an AttachedFile
abbrev data_size : List ℕ → Header → ℕ
data_size bytes h = option_map_or (λ (d : Header). known d.size) (data_in bytes h) 0

-- A number of the item that is found is at most the sum over all items.
found-most : {A : Type 0} (w : A → ℕ) (t : A → Bool) (xs : List A) → option_map_or w (find t xs) 0 ≤ sum_by w xs
found-most w t [] = omega arith
found-most w t (x ∷ xs) = of (t x) (found-most w t xs)
  where
    of : (passes : Bool) → option_map_or w (find t xs) 0 ≤ sum_by w xs → option_map_or w (cond passes (Some x) (find t xs)) 0 ≤ sum_by w (x ∷ xs)
    of true rest = rw (sum_by-cons w x xs) (omega arith)
    of false rest = rw (sum_by-cons w x xs) (omega arith)

-- The data of an AttachedFile are within it.
data-inside : (bytes : List ℕ) (h : Header) → data_size bytes h ≤ known h.size
data-inside bytes h =
    let sum = children-weight bytes (stated_end h) (λ (c : Header). known c.size) (λ c. omega arith) h.body in
    let most = found-most (λ (c : Header). known c.size) (λ (c : Header). c.id == FILE_DATA) (children_of bytes h).list in
    omega arith

-- the number of bytes of the data of attached files
abbrev pub data_sum : List AttachedFile → ℕ
data_sum files = sum_by (λ (a : AttachedFile). a.len) files

-- The sum over the AttachedFiles is at most the sum over all children.
kept-most : (bytes : List ℕ) (hs : List Header) → data_sum (map (file_at bytes) (filter is_attached hs)) ≤ sum_by (data_size bytes) hs
kept-most bytes [] = omega arith
kept-most bytes (h ∷ hs) = of (is_attached h) (kept-most bytes hs)
  where
    of : (kept : Bool) → data_sum (map (file_at bytes) (filter is_attached hs)) ≤ sum_by (data_size bytes) hs
        → data_sum (map (file_at bytes) (cond kept (h ∷ filter is_attached hs) (filter is_attached hs))) ≤ sum_by (data_size bytes) (h ∷ hs)
    of true rest =
        rw (sum_by-cons (data_size bytes) h hs)
        (rw (sum_by-cons (λ (a : AttachedFile). a.len) (file_at bytes h) (map (file_at bytes) (filter is_attached hs))) (omega arith))
    of false rest = rw (sum_by-cons (data_size bytes) h hs) (omega arith)

-- The data of the attached files of an Attachments are within it.
files-inside : (bytes : List ℕ) (h : Header) → data_sum (map (file_at bytes) (attached_in bytes h)) ≤ known h.size
files-inside bytes h =
    let sum = children-weight bytes (stated_end h) (data_size bytes) (data-inside bytes) h.body in
    let most = kept-most bytes (children_of bytes h).list in
    omega arith

-- The data of the attached files of a content are within it.
pub attached-inside : (bytes : List ℕ) (segment : Header) (files : List AttachedFile) → first_attached bytes segment ≡ Ok files → data_sum files ≤ length bytes
attached-inside bytes segment files = of (first_of ATTACHMENTS (segment_run bytes segment).list) refl
  where
    of : (o : Option Header) → first_of ATTACHMENTS (segment_run bytes segment).list ≡ o → files_at bytes o ≡ Ok files → data_sum files ≤ length bytes
    of None none is = let same : [] ≡ files = cc in subst (λ (l : List AttachedFile). data_sum l ≤ length bytes) same (omega arith)
    of (Some h) some is =
        let good = unless-ok (first_damage (attachments_causes bytes h)) (map (file_at bytes) (attached_in bytes h)) files is in
        let inside = files-inside bytes h in
        let total = attachments-inside bytes segment h some in
        subst (λ (l : List AttachedFile). data_sum l ≤ length bytes) good.1 (omega arith)
