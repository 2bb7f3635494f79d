-- The writes of a pending record fit the file that it belongs to, and every file that they have torn.
use Rattle.std.proofs.Common.{◌≡◌, ◌⊎◌, inl, inr, ℕ, zero, suc, ◌+◌, ◌<◌, ◌≤◌, max, Bool, true, false, not, ◌&&◌, ◌||◌, ◌==◌, nat_le, nat_lt, List, [], ◌∷◌, ◌++◌, length, take, drop, slice_index, refl, sym, ◌∙◌, ap, subst, arith, length-take, length-drop, Option, None, Some, IfSome, Ok, if◌then◌else◌}
use Rattle.std.proofs.lemmas.Bool.{le-leb, le-ltb, lt-ltb, leb-true, ltb-false, eqb-true, and_from, and_parts, and_left, and_right, or_left, or_right, or_from, ltb-true, not_from_true, cond-true, cond-false, cases_lt, true≢false, false≢true}
use Rattle.std.proofs.lemmas.List.{get_or-take}
use Rattle.sidecar_edit.specs.declared.place.Place.{Place}
use Rattle.sidecar_edit.specs.declared.place.TheConstants.{HEAD, HEAD_1, KEPT, MAX_OCTETS}
use Rattle.sidecar_edit.specs.declared.held.Gate.{Gate}
use Rattle.sidecar_edit.specs.declared.held.Gate.TheVariants.{Live, Quiet, Bad}
use Rattle.sidecar_edit.specs.declared.outcome.Recovered.TheVariants.{Applied}
use Rattle.sidecar_edit.specs.declared.outcome.RecoverEnd.{RecoverEnd}
use Rattle.sidecar_edit.specs.Writes.{Fits, Torn, WritesOctet, extent}
use Rattle.sidecar_edit.specs.Fields.{AreInOrder, cut_up, head_len, head_of, last_end, count_in, new_len_in, old_len_in, places_in, sum_of, total_in, used_in, version_in, writes_in}
use Rattle.sidecar_edit.specs.Gate.{Rule, first_breach, gate_of, is_count, is_new_len, is_quiet, is_total, is_version, old_len_of, place_rules, rules_of, state, unless_broken}
use Rattle.sidecar_edit.specs.Recovery.{differs, first_place, foreign_of, gap_of, if_live, is_disk_fault, is_touched, octet_mark, recovery, unfit, applied_unless}
use Rattle.sidecar_edit.proofs.RecordLemmas.{AreKept}

-- ---- writes at places in order

-- The bytes of a place are as long as the place, if there are enough.
length-piece : (n : ℕ) (bytes : List ℕ) → n ≤ length bytes → length (take n bytes) ≡ n
length-piece n bytes le = let size = length-take n bytes in omega arith

pub fits-in_order : (old from n : ℕ) (ps : List Place) (bytes : List ℕ) → AreInOrder old from ps → max old from ≤ n → sum_of ps ≤ length bytes → Fits n (cut_up ps bytes)
fits-in_order old from n [] bytes order le room = tt
fits-in_order old from n (p ∷ ps) bytes order le room =
    let at : p.at ≤ max old from = order.2 in
    let size = length-piece p.len bytes (omega arith) in
    let left = length-drop p.len bytes in
    (omega arith, fits-in_order old (p.at + p.len) (max n (p.at + length (take p.len bytes))) ps (drop p.len bytes) order.3 (omega arith) (omega arith))

pub extent-in_order : (old from n : ℕ) (ps : List Place) (bytes : List ℕ) → AreInOrder old from ps → max old from ≤ n → sum_of ps ≤ length bytes → extent n (cut_up ps bytes) ≤ max n (last_end from ps)
extent-in_order old from n [] bytes order le room = omega arith
extent-in_order old from n (p ∷ ps) bytes order le room =
    let at : p.at ≤ max old from = order.2 in
    let size = length-piece p.len bytes (omega arith) in
    let left = length-drop p.len bytes in
    let more : extent (max n (p.at + length (take p.len bytes))) (cut_up ps (drop p.len bytes)) ≤ max (max n (p.at + length (take p.len bytes))) (last_end (p.at + p.len) ps)
    = extent-in_order old (p.at + p.len) (max n (p.at + length (take p.len bytes))) ps (drop p.len bytes) order.3 (omega arith) (omega arith) in
    let grows = end_grows old (p.at + p.len) ps order.3 in
    omega arith
  where
    end_grows : (old from : ℕ) (ps : List Place) → AreInOrder old from ps → from ≤ last_end from ps
    end_grows old from [] order = omega arith
    end_grows old from (p ∷ ps) order = let more = end_grows old (p.at + p.len) ps order.3 in let low = order.1 in omega arith

-- A byte that is in no place isn't written.
pub touched-is : (ps : List Place) (bytes : List ℕ) (k : ℕ) → WritesOctet (cut_up ps bytes) k → is_touched ps k ≡ true
touched-is [] bytes k touched = absurd touched
touched-is (p ∷ ps) bytes k (inl here) =
    let size = length-take p.len bytes in let low = here.0 in let high = here.1 in
    or_left (nat_le p.at k && nat_lt k (p.at + p.len)) (is_touched ps k) (and_from (nat_le p.at k) (nat_lt k (p.at + p.len)) (le-leb p.at k low) (lt-ltb k (p.at + p.len) (omega arith)))
touched-is (p ∷ ps) bytes k (inr there) = or_right (nat_le p.at k && nat_lt k (p.at + p.len)) (is_touched ps k) (touched-is ps (drop p.len bytes) k there)

-- ---- rules that are kept

pub all_kept : (rs : List Rule) → first_breach rs ≡ None → AreKept rs
all_kept [] none = tt
all_kept (r ∷ rs) none = by_test (all_kept rs) r.kept refl
  where
    by_test : (first_breach rs ≡ None → AreKept rs) → (b : Bool) → r.kept ≡ b → AreKept (r ∷ rs)
    by_test more true is = (is, more (sym (cond-true r.kept (first_breach rs) (Some r.octet) is) ∙ none))
    by_test more false is = let no : Some r.octet ≡ None = sym (cond-false r.kept (first_breach rs) (Some r.octet) is) ∙ none in cc

kept-left : (rs qs : List Rule) → AreKept (rs ++ qs) → AreKept rs
kept-left [] qs kept = tt
kept-left (r ∷ rs) qs kept = (kept.0, kept-left rs qs kept.1)

order-of_kept : (old octet n from : ℕ) (ps : List Place) → AreKept (place_rules (Some old) octet n from ps) → AreInOrder old from (take n ps)
order-of_kept old octet zero from ps kept = tt
order-of_kept old octet (suc n) from [] kept = tt
order-of_kept old octet (suc n) from (p ∷ ps) kept =
    let both = and_parts (nat_le 1 p.len && nat_le from p.at) (nat_le p.at (max old from)) kept.0 in
    let two = and_parts (nat_le 1 p.len) (nat_le from p.at) both.0 in
    (leb-true 1 p.len two.0, leb-true from p.at two.1, leb-true p.at (max old from) both.1, order-of_kept old (octet + 16) n (p.at + p.len) ps kept.1)

-- ---- pending records

-- the properties of a pending record, by a journal's first bytes and its length
pub record IsLive (h : List ℕ) (n : ℕ) : Type 0 where
  pub long : HEAD_1 ≤ n
  pub version : is_version (version_in h) ≡ true
  pub count : is_count (count_in h) ≡ true
  pub total : is_total h ≡ true
  pub new_len : is_new_len (version_in h) (old_len_of h) (new_len_in h) (last_end 0 (used_in h)) ≡ true
  pub places : AreKept (place_rules (old_len_of h) 32 (count_in h) 0 (places_in h))
  pub whole : total_in h ≤ n

module _ (h : List ℕ) (n : ℕ) where
  abbrev rest : Gate
  rest = unless_broken (first_breach (rules_of h)) (total_in h) n

  abbrev right : Bool
  right = is_version (version_in h) && is_count (count_in h)

  of_kept : HEAD_1 ≤ n → AreKept (rules_of h) → total_in h ≤ n → (b : Bool) → right ≡ b → IsLive h n
  of_kept long kept whole true is =
      let more = subst AreKept (cond-true right _ _ is) kept.1 in
      let both = and_parts (is_version (version_in h)) (is_count (count_in h)) is in
      record { long = long; version = both.0; count = both.1; total = more.0; new_len = more.1.0; places = kept-left (place_rules (old_len_of h) 32 (count_in h) 0 (places_in h)) _ more.1.1.1; whole = whole }
  of_kept long kept whole false is =
      let more = subst AreKept (cond-false right _ _ is) kept.1 in
      absurd (false≢true (sym is ∙ and_from (is_version (version_in h)) (is_count (count_in h)) more.0 more.1.0))

  by_whole : HEAD_1 ≤ n → (breach : Option ℕ) → first_breach (rules_of h) ≡ breach → (b : Bool) → nat_lt n (total_in h) ≡ b → unless_broken breach (total_in h) n ≡ Live → IsLive h n
  by_whole long (Some octet) is b test live = cc
  by_whole long None is true test live = let no : Bad n ≡ Live = sym (cond-true (nat_lt n (total_in h)) (Bad n) Live test) ∙ live in cc
  by_whole long None is false test live = of_kept long (all_kept (rules_of h) is) (ltb-false n (total_in h) test) right refl

  by_long : (b : Bool) → nat_lt n HEAD_1 ≡ b → (if nat_lt n HEAD_1 then Bad n else rest) ≡ Live → IsLive h n
  by_long true is live = let no : Bad n ≡ Live = sym (cond-true (nat_lt n HEAD_1) (Bad n) rest is) ∙ live in cc
  by_long false is live = by_whole (ltb-false n HEAD_1 is) (first_breach (rules_of h)) refl (nat_lt n (total_in h)) refl (sym (cond-false (nat_lt n HEAD_1) (Bad n) rest is) ∙ live)

  by_quiet : (b : Bool) → is_quiet h n ≡ b → gate_of h n ≡ Live → IsLive h n
  by_quiet true is live = let no : Quiet ≡ Live = sym (cond-true (is_quiet h n) Quiet (if nat_lt n HEAD_1 then Bad n else rest) is) ∙ live in cc
  by_quiet false is live = by_long (nat_lt n HEAD_1) refl (sym (cond-false (is_quiet h n) Quiet (if nat_lt n HEAD_1 then Bad n else rest) is) ∙ live)

  pub live-is : gate_of h n ≡ Live → IsLive h n
  live-is live = by_quiet (is_quiet h n) refl live

-- ---- writes that fit

-- For a list of places, as a test.
pub gap_monotone : (octet m n : ℕ) (ps : List Place) → m ≤ n → gap_of octet m ps ≡ None → gap_of octet n ps ≡ None
gap_monotone octet m n [] le none = refl
gap_monotone octet m n (p ∷ ps) le none =
    by_test (gap_monotone (octet + 16) (max m (p.at + p.len)) (max n (p.at + p.len)) ps (omega arith)) (nat_le p.at m) refl
  where
    by_test : (gap_of (octet + 16) (max m (p.at + p.len)) ps ≡ None → gap_of (octet + 16) (max n (p.at + p.len)) ps ≡ None) → (b : Bool) → nat_le p.at m ≡ b → gap_of octet n (p ∷ ps) ≡ None
    by_test more true is =
        let low = leb-true p.at m is in
        cond-true (nat_le p.at n) _ _ (le-leb p.at n (omega arith))
        ∙ more (sym (cond-true (nat_le p.at m) _ _ is) ∙ none)
    by_test more false is = let no = sym (cond-false (nat_le p.at m) _ _ is) ∙ none in cc

pub fits-of_gap : (octet n : ℕ) (ps : List Place) (bytes : List ℕ) → sum_of ps ≤ length bytes → gap_of octet n ps ≡ None → Fits n (cut_up ps bytes)
fits-of_gap octet n [] bytes room none = tt
fits-of_gap octet n (p ∷ ps) bytes room none =
    let left = length-drop p.len bytes in
    by_test (fits-of_gap (octet + 16) (max n (p.at + p.len)) ps (drop p.len bytes) (omega arith)) (nat_le p.at n) refl
  where
    by_test : (gap_of (octet + 16) (max n (p.at + p.len)) ps ≡ None → Fits (max n (p.at + p.len)) (cut_up ps (drop p.len bytes))) → (b : Bool) → nat_le p.at n ≡ b → Fits n (cut_up (p ∷ ps) bytes)
    by_test more true is =
        let low = leb-true p.at n is in
        let size = length-piece p.len bytes (omega arith) in
        (low, subst (λ len. Fits (max n (p.at + len)) (cut_up ps (drop p.len bytes))) (sym size) (more (sym (cond-true (nat_le p.at n) _ _ is) ∙ none)))
    by_test more false is = let no = sym (cond-false (nat_le p.at n) _ _ is) ∙ none in cc

-- None of `n` offsets passes the test.
pub none_passes : (test : ℕ → Bool) (at n k : ℕ) → first_place test at n ≡ None → at ≤ k → k < at + n → test k ≡ false
none_passes test at zero k none low high = absurd (omega arith)
none_passes test at (suc n) k none low high = by_test (λ none low. none_passes test (at + 1) n k none low (omega arith)) (test at) refl
  where
    by_place : (first_place test (at + 1) n ≡ None → at + 1 ≤ k → test k ≡ false) → (at < k) ⊎ (k ≤ at) → test at ≡ false → test k ≡ false
    by_place more (inl behind) is = more (sym (cond-false (test at) _ _ is) ∙ none) (omega arith)
    by_place more (inr here) is = let same : k ≡ at = omega arith in ap test same ∙ is

    by_test : (first_place test (at + 1) n ≡ None → at + 1 ≤ k → test k ≡ false) → (b : Bool) → test at ≡ b → test k ≡ false
    by_test more true is = let no = sym (cond-true (test at) _ _ is) ∙ none in cc
    by_test more false is = by_place more (cases_lt at k) is

pub if_none_passes : (test : ℕ → Bool) (at n : ℕ) → ((k : ℕ) → at ≤ k → k < at + n → test k ≡ false) → first_place test at n ≡ None
if_none_passes test at zero fails = refl
if_none_passes test at (suc n) fails =
    cond-false (test at) _ _ (fails at (omega arith) (omega arith))
    ∙ if_none_passes test (at + 1) n (λ k low high. fails k (omega arith) (omega arith))

-- ---- a pending record, and the file that it belongs to

-- The bytes of the writes are enough for their places.
pub room-of_live : (s : List ℕ) → IsLive (head_of s) (length s) → sum_of (used_in (head_of s)) ≤ length (drop (head_len (version_in (head_of s))) s)
room-of_live s live =
    let h = head_of s in
    let two = and_parts (nat_le (sum_of (used_in h)) MAX_OCTETS) (total_in h == head_len (version_in h) + sum_of (used_in h)) live.total in
    let total = eqb-true (total_in h) (head_len (version_in h) + sum_of (used_in h)) two.1 in
    let whole = live.whole in
    let left = length-drop (head_len (version_in h)) s in
    omega arith

-- the fields of a record of version 2 on the file before and after the edit
pub record IsSecond (h : List ℕ) : Type 0 where
  pub new_len : new_len_in h ≡ max (old_len_in h) (last_end 0 (used_in h))
  pub order : AreInOrder (old_len_in h) 0 (used_in h)

pub second-is : (s : List ℕ) → IsLive (head_of s) (length s) → (version_in (head_of s) == 1) ≡ false → IsSecond (head_of s)
second-is s live is =
    let h = head_of s in
    let second : (version_in h == 2) ≡ true = second_true (version_in h == 1) (version_in h == 2) is live.version in
    let len : head_len (version_in h) ≡ HEAD = cond-false (version_in h == 1) HEAD_1 HEAD is in
    let two = and_parts (nat_le (sum_of (used_in h)) MAX_OCTETS) (total_in h == head_len (version_in h) + sum_of (used_in h)) live.total in
    let total = eqb-true (total_in h) (head_len (version_in h) + sum_of (used_in h)) two.1 in
    let whole = live.whole in
    let size = length-take HEAD s in
    let old : old_len_of h ≡ Some (old_len_in h) = cond-true ((version_in h == 2) && nat_le 168 (length h)) (Some (old_len_in h)) None (and_from (version_in h == 2) (nat_le 168 (length h)) second (le-leb 168 (length h) (omega arith))) in
    record {
      new_len = eqb-true (new_len_in h) (max (old_len_in h) (last_end 0 (used_in h))) (subst (λ (o : Option ℕ). is_new_len (version_in h) o (new_len_in h) (last_end 0 (used_in h)) ≡ true) old live.new_len);
      order = order-of_kept (old_len_in h) 32 (count_in h) 0 (places_in h) (subst (λ (o : Option ℕ). AreKept (place_rules o 32 (count_in h) 0 (places_in h))) old live.places);
    }
  where
    second_true : (a b : Bool) → a ≡ false → (a || b) ≡ true → b ≡ true
    second_true true b isnt either = let bad : true ≡ false = isnt in cc
    second_true false b isnt either = either

-- The pending record of the journal `s` belongs to the file `m`.
pub record IsOwn (m s : List ℕ) : Type 0 where
  pub live : state s ≡ Live
  pub fit : unfit (head_of s) (length m) (take KEPT m) ≡ None

pub own-is : (m s : List ℕ) → recovery m s ≡ Ok Applied → IsOwn m s
own-is m s is = by_gate (state s) refl is
  where
    by_unfit : (u : Option RecoverEnd) → applied_unless u ≡ Ok Applied → u ≡ None
    by_unfit None is = refl
    by_unfit (Some end) is = cc

    by_gate : (g : Gate) → state s ≡ g → if_live g (head_of s) (length m) (take KEPT m) ≡ Ok Applied → IsOwn m s
    by_gate Quiet at is = cc
    by_gate (Bad offset) at is = cc
    by_gate Live at is = record { live = at; fit = by_unfit (unfit (head_of s) (length m) (take KEPT m)) is }

pub own-applies : (m s : List ℕ) → IsOwn m s → recovery m s ≡ Ok Applied
own-applies m s own = ap (λ g. if_live g (head_of s) (length m) (take KEPT m)) own.live ∙ ap applied_unless own.fit

module _ (m s : List ℕ) (own : IsOwn m s) where
  live : IsLive (head_of s) (length s)
  live = live-is (head_of s) (length s) own.live

  -- The file's length is possible during the edit.
  pub record IsKnown : Type 0 where
    pub old : old_len_in (head_of s) ≤ length m
    pub new : length m ≤ new_len_in (head_of s)
    pub same : first_place (differs (head_of s) (take KEPT m)) 0 KEPT ≡ None

  known-is : (version_in (head_of s) == 1) ≡ false → IsKnown
  known-is is =
      let h = head_of s in
      let none : foreign_of h (length m) (take KEPT m) ≡ None = sym (cond-false (version_in h == 1) (gap_of 32 (length m) (used_in h)) (foreign_of h (length m) (take KEPT m)) is) ∙ own.fit in
      by_length (nat_lt (length m) (old_len_in h)) (nat_lt (new_len_in h) (length m)) refl refl none
    where
      abbrev_none : (o : Option ℕ) → octet_mark (head_of s) (take KEPT m) o ≡ None → o ≡ None
      abbrev_none None is = refl
      abbrev_none (Some k) is = cc

      by_length : (a b : Bool) → nat_lt (length m) (old_len_in (head_of s)) ≡ a → nat_lt (new_len_in (head_of s)) (length m) ≡ b → foreign_of (head_of s) (length m) (take KEPT m) ≡ None → IsKnown
      by_length true b below above none =
          let no = sym (cond-true (nat_lt (length m) (old_len_in (head_of s)) || nat_lt (new_len_in (head_of s)) (length m)) _ _ (or_left _ _ below)) ∙ none in cc
      by_length false true below above none =
          let no = sym (cond-true (nat_lt (length m) (old_len_in (head_of s)) || nat_lt (new_len_in (head_of s)) (length m)) _ _ (or_right _ _ above)) ∙ none in cc
      by_length false false below above none =
          record {
            old = ltb-false (length m) (old_len_in (head_of s)) below;
            new = ltb-false (new_len_in (head_of s)) (length m) above;
            same = abbrev_none _ (sym (cond-false (nat_lt (length m) (old_len_in (head_of s)) || nat_lt (new_len_in (head_of s)) (length m)) _ _ (or_from _ _ below above)) ∙ none);
          }

  -- Its writes fit the file.
  pub fits-of_own : Fits (length m) (writes_in s)
  fits-of_own = by_version (version_in (head_of s) == 1) refl
    where
      by_version : (b : Bool) → (version_in (head_of s) == 1) ≡ b → Fits (length m) (writes_in s)
      by_version true is =
          let h = head_of s in
          fits-of_gap 32 (length m) (used_in h) (drop (head_len (version_in h)) s) (room-of_live s live) (sym (cond-true (version_in h == 1) (gap_of 32 (length m) (used_in h)) (foreign_of h (length m) (take KEPT m)) is) ∙ own.fit)
      by_version false is =
          let h = head_of s in
          let two = second-is s live is in
          let known = known-is is in
          let old = known.old in
          fits-in_order (old_len_in h) 0 (length m) (used_in h) (drop (head_len (version_in h)) s) two.order (omega arith) (room-of_live s live)

  -- It belongs to every file that the writes have torn, too.
  pub own-torn : (t : List ℕ) → Torn (writes_in s) m t → IsOwn t s
  own-torn t torn = record { live = own.live; fit = by_version (version_in (head_of s) == 1) refl }
    where
      same_octet : (k : ℕ) → k < KEPT → k < length m → (WritesOctet (writes_in s) k → ⊥) → slice_index (take KEPT t) k ≡ slice_index (take KEPT m) k
      same_octet k low inside untouched = get_or-take KEPT t k 0 low ∙ torn.elsewhere k inside untouched ∙ sym (get_or-take KEPT m k 0 low)

      by_octet : (k : ℕ) → k < KEPT → old_len_in (head_of s) ≤ length m → differs (head_of s) (take KEPT m) k ≡ false → (a b : Bool) → nat_lt k (old_len_in (head_of s)) ≡ a → is_touched (used_in (head_of s)) k ≡ b → differs (head_of s) (take KEPT t) k ≡ false
      by_octet k low old same false b before touched = and_left (nat_lt k (old_len_in (head_of s)) && not (is_touched (used_in (head_of s)) k)) _ (and_left (nat_lt k (old_len_in (head_of s))) _ before)
      by_octet k low old same true true before touched = and_left (nat_lt k (old_len_in (head_of s)) && not (is_touched (used_in (head_of s)) k)) _ (and_right (nat_lt k (old_len_in (head_of s))) (not (is_touched (used_in (head_of s)) k)) (not_from_true (is_touched (used_in (head_of s)) k) touched))
      by_octet k low old same true false before touched =
          let lt = ltb-true k (old_len_in (head_of s)) before in
          let none = λ (touches : WritesOctet (writes_in s) k). let no : true ≡ false = sym (touched-is (used_in (head_of s)) (drop (head_len (version_in (head_of s))) s) k touches) ∙ touched in true≢false no in
          ap (λ octet. nat_lt k (old_len_in (head_of s)) && not (is_touched (used_in (head_of s)) k) && not (octet == slice_index (head_of s) (168 + k))) (same_octet k low (omega arith) none) ∙ same

      by_version : (b : Bool) → (version_in (head_of s) == 1) ≡ b → unfit (head_of s) (length t) (take KEPT t) ≡ None
      by_version true is =
          let h = head_of s in
          cond-true (version_in h == 1) (gap_of 32 (length t) (used_in h)) (foreign_of h (length t) (take KEPT t)) is
          ∙ gap_monotone 32 (length m) (length t) (used_in h) torn.no_shorter (sym (cond-true (version_in h == 1) (gap_of 32 (length m) (used_in h)) (foreign_of h (length m) (take KEPT m)) is) ∙ own.fit)
      by_version false is =
          let h = head_of s in
          let two = second-is s live is in
          let known = known-is is in
          let old = known.old in let new = known.new in let new_len = two.new_len in let low = torn.no_shorter in let high = torn.no_longer in
          let ext = extent-in_order (old_len_in h) 0 (length m) (used_in h) (drop (head_len (version_in h)) s) two.order (omega arith) (room-of_live s live) in
          cond-false (version_in h == 1) (gap_of 32 (length t) (used_in h)) (foreign_of h (length t) (take KEPT t)) is
          ∙ cond-false (nat_lt (length t) (old_len_in h) || nat_lt (new_len_in h) (length t)) _ _ (or_from _ _ (le-ltb (length t) (old_len_in h) (omega arith)) (le-ltb (new_len_in h) (length t) (omega arith)))
          ∙ ap (octet_mark h (take KEPT t)) (if_none_passes (differs h (take KEPT t)) 0 KEPT
          (λ k low high. by_octet k (omega arith) old (none_passes (differs h (take KEPT m)) 0 KEPT k known.same low high) (nat_lt k (old_len_in h)) (is_touched (used_in h) k) refl refl))

-- A refusal of writes isn't a failure of the disk.
pub unfit-refused : (h : List ℕ) (n : ℕ) (m : List ℕ) → IfSome (unfit h n m) (λ end. is_disk_fault end ≡ false)
unfit-refused h n m = by_version (version_in h == 1) refl
  where
    gap-refused : (octet n : ℕ) (ps : List Place) → IfSome (gap_of octet n ps) (λ end. is_disk_fault end ≡ false)
    gap-refused octet n [] = tt
    gap-refused octet n (p ∷ ps) = by_test (gap-refused (octet + 16) (max n (p.at + p.len)) ps) (nat_le p.at n) refl
      where
        by_test : IfSome (gap_of (octet + 16) (max n (p.at + p.len)) ps) (λ end. is_disk_fault end ≡ false) → (b : Bool) → nat_le p.at n ≡ b → IfSome (gap_of octet n (p ∷ ps)) (λ end. is_disk_fault end ≡ false)
        by_test more true is = subst (λ (o : Option RecoverEnd). IfSome o (λ end. is_disk_fault end ≡ false)) (sym (cond-true (nat_le p.at n) _ _ is)) more
        by_test more false is = subst (λ (o : Option RecoverEnd). IfSome o (λ end. is_disk_fault end ≡ false)) (sym (cond-false (nat_le p.at n) _ _ is)) refl

    mark-refused : (o : Option ℕ) → IfSome (octet_mark h m o) (λ end. is_disk_fault end ≡ false)
    mark-refused None = tt
    mark-refused (Some k) = refl

    by_length : (b : Bool) → (nat_lt n (old_len_in h) || nat_lt (new_len_in h) n) ≡ b → IfSome (foreign_of h n m) (λ end. is_disk_fault end ≡ false)
    by_length true is = subst (λ (o : Option RecoverEnd). IfSome o (λ end. is_disk_fault end ≡ false)) (sym (cond-true (nat_lt n (old_len_in h) || nat_lt (new_len_in h) n) _ _ is)) refl
    by_length false is = subst (λ (o : Option RecoverEnd). IfSome o (λ end. is_disk_fault end ≡ false)) (sym (cond-false (nat_lt n (old_len_in h) || nat_lt (new_len_in h) n) _ _ is)) (mark-refused (first_place (differs h m) 0 KEPT))

    by_version : (b : Bool) → (version_in h == 1) ≡ b → IfSome (unfit h n m) (λ end. is_disk_fault end ≡ false)
    by_version true is = subst (λ (o : Option RecoverEnd). IfSome o (λ end. is_disk_fault end ≡ false)) (sym (cond-true (version_in h == 1) _ _ is)) (gap-refused 32 n (used_in h))
    by_version false is = subst (λ (o : Option RecoverEnd). IfSome o (λ end. is_disk_fault end ≡ false)) (sym (cond-false (version_in h == 1) _ _ is)) (by_length (nat_lt n (old_len_in h) || nat_lt (new_len_in h) n) refl)
