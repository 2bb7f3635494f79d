-- The last Cluster before an offset, as a walk over level 1 finds it.
use Rattle.std.proofs.Common.{◌≡◌, ◌==◌, ◌≤◌, ◌<◌, ℕ, ◌+◌, nat_lt, Bool, true, false, ◌&&◌, if◌then◌else◌, List, [], ◌∷◌, Option, Some, None, refl, sym, ◌∙◌, ap, subst, arith}
use Rattle.std.specs.Option.{option_or}
use Rattle.std.proofs.lemmas.Bool.Decides.{nat_tests}
use Rattle.mkv_schema.specs.declared.ids.TheConstants.{CLUSTER}
use Rattle.mkv_schema.specs.declared.element.Header.{Header}
use Rattle.mkv_schema.specs.Order.{AscendFrom}
use Rattle.mkv_schema.proofs.ElementsLemmas.{AscendFrom-later}
use Rattle.mkv_io.specs.LiveFiles.{LiveFiles}
use Rattle.elements.specs.Window.{ReadAhead, HasNotPassed, MovesTo}
use Rattle.element_reader.specs.LevelOne.{CanRead, Listing, left}
use Rattle.reindex.specs.Points.{cluster_before}
use Rattle.reindex.specs.Clusters.{HasComeTo, HasReached, IsReady, LooksAt, StaysReady, due, in_front}
use Rattle.reindex.specs.declared.clusters.Clusters.{Clusters}

-- ---- the Clusters before an offset

-- An Element at an offset or after it isn't before it.
pub before-none : (at p : ℕ) (list : List Header) → at ≤ p → AscendFrom p list → cluster_before at list ≡ None
before-none at p [] past ascends = refl
before-none at p (h ∷ hs) past ascends =
    let first = ascends.0 in
    let later : nat_lt h.offset at ≡ false = grind (arith, nat_tests) in
    rw (before-none at (h.offset + 1) hs (omega arith) ascends.1, later) (none (h.id == CLUSTER))
  where
    none : (is : Bool) → option_or None (if is && false then Some h else None) ≡ None
    none true = refl
    none false = refl

or-none : (c : Option Header) → option_or c None ≡ c
or-none None = refl
or-none (Some h) = refl

or-or : (a b c : Option Header) → option_or (option_or a b) c ≡ option_or a (option_or b c)
or-or None b c = refl
or-or (Some h) b c = refl

-- A Cluster that is passed is the one that is kept.
passed-kept : (h : Header) (last : Option Header) (is : Bool) → option_or (if is && true then Some h else None) last ≡ (if is then Some h else last)
passed-kept h last true = refl
passed-kept h last false = refl

-- ---- the walk

-- No Element is passed yet.
pub HasComeTo-begins : (bytes : List ℕ) (list : List Header) (p : ℕ) (c : Clusters) → AscendFrom p list → left bytes c.level ≡ list → c.next ≡ None → c.last ≡ None → HasComeTo bytes list c
HasComeTo-begins bytes list p c ascends all next last =
    let is : due bytes c ≡ list = ap (λ n. in_front n (left bytes c.level)) next ∙ all in
    record {
      ascends = let P : List Header → Type 0 = AscendFrom 0 in subst P (sym is) (AscendFrom-later 0 p list (omega arith) ascends);
      before = λ at on. rw (is, last) (sym (or-none (cluster_before at list)));
    }

-- The offset is increased.
pub HasComeTo-later : (bytes : List ℕ) (list : List Header) (old new : Clusters) → HasComeTo bytes list old → new.level ≡ old.level → new.next ≡ old.next → new.last ≡ old.last → old.reached ≤ new.reached → HasComeTo bytes list new
HasComeTo-later bytes list old new come level next last on =
    let is : due bytes new ≡ due bytes old = ap (λ n. in_front n (left bytes new.level)) next ∙ ap (λ l. in_front old.next (left bytes l)) level in
    record {
      ascends = let P : List Header → Type 0 = AscendFrom 0 in subst P (sym is) come.ascends;
      before = λ at behind. rw (is, last) (come.before at (omega arith));
    }

-- An Element was read.
pub HasComeTo-looks : (bytes : List ℕ) (list : List Header) (old new : Clusters) → HasComeTo bytes list old → due bytes new ≡ due bytes old → new.last ≡ old.last → new.reached ≡ old.reached → HasComeTo bytes list new
HasComeTo-looks bytes list old new come is last reached = record {
  ascends = let P : List Header → Type 0 = AscendFrom 0 in subst P (sym is) come.ascends;
  before = λ at behind. rw (is, last) (come.before at (omega arith));
}

-- An Element before the offset was passed.
pub HasComeTo-passes : (bytes : List ℕ) (list : List Header) (old new : Clusters) (h : Header) → HasComeTo bytes list old → old.next ≡ Some h → h.offset < old.reached → new ≡ record old { next = None; last = if h.id == CLUSTER then Some h else old.last } → HasComeTo bytes list new
HasComeTo-passes bytes list old new h come next inside is =
    let front : due bytes old ≡ h ∷ left bytes old.level = ap (λ n. in_front n (left bytes old.level)) next in
    let ascends : AscendFrom 0 (h ∷ left bytes old.level) = let P : List Header → Type 0 = AscendFrom 0 in subst P front come.ascends in
    let P : Clusters → Type 0 = HasComeTo bytes list in
    subst P (sym is) (record {
      ascends = AscendFrom-later 0 (h.offset + 1) (left bytes old.level) (omega arith) ascends.1;
      before = λ at behind.
          let past : nat_lt h.offset at ≡ true = grind (arith, nat_tests) in
          come.before at behind
          ∙ ap (λ hs. option_or (cluster_before at hs) old.last) front
          ∙ ap (λ t. option_or (option_or (cluster_before at (left bytes old.level)) (if h.id == CLUSTER && t then Some h else None)) old.last) past
          ∙ or-or (cluster_before at (left bytes old.level)) (if h.id == CLUSTER && true then Some h else None) old.last
          ∙ ap (option_or (cluster_before at (left bytes old.level))) (passed-kept h old.last (h.id == CLUSTER));
    })

-- No Element is left before the offset.
pub HasReached-end : (bytes : List ℕ) (list : List Header) (c : Clusters) → HasComeTo bytes list c → due bytes c ≡ [] → HasReached bytes list c
HasReached-end bytes list c come none = record {
  come = come;
  last = sym (come.before c.reached (omega arith) ∙ ap (λ hs. option_or (cluster_before c.reached hs) c.last) none);
}

-- The next Element is at the offset or after it.
pub HasReached-here : (bytes : List ℕ) (list : List Header) (c : Clusters) (h : Header) → HasComeTo bytes list c → c.next ≡ Some h → c.reached ≤ h.offset → HasReached bytes list c
HasReached-here bytes list c h come next past =
    let front : due bytes c ≡ h ∷ left bytes c.level = ap (λ n. in_front n (left bytes c.level)) next in
    let ascends : AscendFrom 0 (h ∷ left bytes c.level) = let P : List Header → Type 0 = AscendFrom 0 in subst P front come.ascends in
    record {
      come = come;
      last = sym (come.before c.reached (omega arith)
          ∙ ap (λ hs. option_or (cluster_before c.reached hs) c.last) front
          ∙ ap (λ found. option_or found c.last) (before-none c.reached h.offset (h ∷ left bytes c.level) past (omega arith, ascends.1)));
    }

-- Reading an Element doesn't change the Elements that aren't passed.
pub HasComeTo-looked : (bytes : List ℕ) (list : List Header) (old new : Clusters) (found : Option Header) → HasComeTo bytes list old → LooksAt bytes old new found → (new.last ≡ old.last) × (new.reached ≡ old.reached) → HasComeTo bytes list new
HasComeTo-looked bytes list old new found come looks kept = HasComeTo-looks bytes list old new come looks.same kept.0 kept.1

-- ---- the state of the walk

pub StaysReady-none : (files : LiveFiles) (c : Clusters) → IsReady files c → StaysReady files c c
StaysReady-none files c ready = record { file = refl; end = refl; forwards = omega arith; ready = ready }

-- The walk continues.
pub StaysReady-then : (before files : LiveFiles) (old mid new last : Clusters) → StaysReady before old mid → StaysReady files mid new → last.level ≡ new.level → StaysReady files old last
StaysReady-then before files old mid new last first next same =
    let on = first.forwards in
    let more = next.forwards in
    let P : Listing → Type 0 = λ l. (l.file ≡ old.level.file) × (l.end ≡ old.level.end) × (l.at ≤ l.end) × (old.level.at ≤ l.at) × CanRead files l in
    let there = subst P (sym same) (next.file ∙ first.file, next.end ∙ first.end, next.ready.inside, omega arith, next.ready.reads) in
    record { file = there.0; end = there.1; forwards = there.3; ready = record { inside = there.2; reads = there.4 } }

-- ---- the bytes that were read

-- The window advances.
pub MovesTo-then : (size here p q : ℕ) (old mid new : ReadAhead) (before between now : ℕ) → here ≡ size → MovesTo size p old mid before between → (HasNotPassed mid p here → MovesTo here q mid new between now) → MovesTo size q old new before now
MovesTo-then size here p q old mid new before between now same first next =
    let P : ℕ → Type 0 = λ n. HasNotPassed mid p n → MovesTo n q mid new between now in
    let second = subst P same next first.place in
    record { place = second.place; pays = omega (arith, first.pays, second.pays) }
