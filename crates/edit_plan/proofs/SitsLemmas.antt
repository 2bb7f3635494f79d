-- Writes into the rooms of Elements don't overlap.
use Rattle.std.proofs.Common.{inl, inr, ◌≡◌, ℕ, suc, ◌+◌, ◌≤◌, ◌==◌, Bool, true, false, if◌then◌else◌, List, [], ◌∷◌, ◌++◌, length, map, filter, Option, Some, None, refl, sym, ◌∙◌, ap, ap₂, subst, arith}
use Rattle.std.specs.Bool.{⊤}
use Rattle.std.specs.Prelude.{IfSome, sum_by}
use Rattle.std.specs.List.{All, AllPairs}
use Rattle.std.specs.Option.{option_and_then, option_map_or, unwrap_or}
use Rattle.std.proofs.lemmas.List.{length-map}
use Rattle.std.proofs.lemmas.List.Elements.{All-nil, All-cons, All-head, All-tail, All-weaker}
use Rattle.std.proofs.lemmas.List.Kept.{AllPairs-cons}
use Rattle.std.proofs.lemmas.List.Sums.{sum_by-cons}
use Rattle.ebml_numbers.specs.Number.{is_id, uint_width}
use Rattle.ebml_numbers.proofs.NumberLemmas.{is_id-bounds}
use Rattle.mkv_schema.specs.declared.ids.TheConstants.{INFO, TRACKS, SEEK_HEAD, VOID}
use Rattle.mkv_schema.specs.declared.element.Header.{Header}
use Rattle.mkv_schema.specs.Value.{first_of}
use Rattle.requests.specs.declared.edit.Edit.{Edit}
use Rattle.tree_format.specs.Node.{Node}
use Rattle.output_model.specs.Element.{Element, element, octets_of}
use Rattle.output_model.proofs.ReadLemmas.{length-header_of, length-octets_of}
use Rattle.sidecar_edit.specs.Writes.{Write, end_of}
use Rattle.edit_changes.specs.declared.trees.Trees.{Trees}
use Rattle.edit_changes.specs.Change.{are_of_info, are_of_tracks}
use Rattle.edit_changes.specs.Span.{fitted, span_of, void_header}
use Rattle.edit_changes.specs.Plan.{Part, info_nodes, part, part_of, part_writes, parts, overwrite_or_void, stands, write, length_in_place}
use Rattle.edit_plan.specs.Laws.{ArePartsOf, IsPartOf}
use Rattle.edit_plan.proofs.LevelLemmas.{Stand}
use Rattle.edit_plan.proofs.PartLemmas.{first-own, info-valid, tracks-valid}
use Rattle.edit_plan.proofs.VoidLemmas.{first-room, rooms-apart}
use Rattle.edit_plan.proofs.OrderLemmas.{IsApart, IsApartFrom, AreApart, bytes_in, bytes_in-cons}
use Rattle.edit_plan.proofs.FitLemmas.{Fills, fills-place, fills-void}

-- Write `w` is in the room of the first Element with this ID.
pub record SitsAt (list : List Header) (id : ℕ) (w : Write) : Type 0 where
  pub header : Header
  pub first : first_of id list ≡ Some header
  pub at : w.at ≡ header.offset
  pub some : 1 ≤ length w.bytes
  pub most : length w.bytes ≤ span_of header list

-- An Element has at least one byte.
octets-some : (e : Element) → 1 ≤ uint_width e.id → 1 ≤ length (octets_of e)
octets-some e some = let all = length-octets_of e in let head = length-header_of e in omega arith

pub element-some : (id : ℕ) (body : List ℕ) → 1 ≤ uint_width id → 1 ≤ length (octets_of (element id body))
element-some id body some = octets-some (element id body) some

module _ (q e : ℕ) (list : List Header) (stand : Stand q e list) where
  sits-apart : (a b : ℕ) (w v : Write) → SitsAt list a w → SitsAt list b v → (a == VOID) ≡ false → (b == VOID) ≡ false → (a == b) ≡ false → IsApart w v
  sits-apart a b w v one two a_other b_other other =
      let w_at = one.at in let v_at = two.at in let w_most = one.most in let v_most = two.most in
      elim (rooms-apart a b q e list one.header two.header stand one.first two.first a_other b_other other) [
        | inl before ↦ inl (omega arith)
        | inr behind ↦ inr (omega arith)
      ]

  -- The write is between the first Element and the end of the last.
  pub sits-begins : (a : ℕ) (w : Write) → SitsAt list a w → (q ≤ w.at) × (end_of w ≤ e)
  sits-begins a w one =
      let room = first-room a q e list one.header stand one.first in
      let from = room.from in let inside = room.inside in let at = one.at in let most = one.most in
      (omega arith, omega arith)

  -- The bytes that replace an old Element aren't longer than its room.
  place-fills : (id room : ℕ) (new : Option Element) → 1 ≤ uint_width id → 2 ≤ room → IfSome new (λ e. e.id ≡ id) → Fills room (unwrap_or (option_and_then (λ e. fitted e room) new) (void_header room))
  place-fills id room None valid least own = fills-void room least
  place-fills id room (Some e) valid least own = fills-place e room least (octets-some e (subst (λ n. 1 ≤ uint_width n) (sym own) valid))

  pub part-sits : (p : Part) → IsPartOf list p → stands p ≡ true → SitsAt list p.id (write p.place (overwrite_or_void p))
  part-sits p is stood =
      let old = is.old stood in
      let space = first-room p.id q e list old.header stand old.first in
      let same = old.room in
      let least : 2 ≤ p.room = omega (arith, space.least, same) in
      let fills = place-fills p.id p.room p.element (is_id-bounds p.id is.valid).0 least is.new in
      record { header = old.header; first = old.first; at = old.place; some = fills.some; most = omega (arith, fills.most, same) }

  apart-from : (a : ℕ) (w : Write) (ps : List Part) → SitsAt list a w → (a == VOID) ≡ false → All (IsPartOf list) ps → All (λ (p : Part). (a == p.id) ≡ false) ps → IsApartFrom w (part_writes ps)
  apart-from a w [] sits other are differ = tt
  apart-from a w (p ∷ ps) sits other are differ =
      of (stands p) refl (apart-from a w ps sits other (All-tail (IsPartOf list) p ps are) (All-tail (λ (r : Part). (a == r.id) ≡ false) p ps differ))
    where
      own : IsPartOf list p
      own = All-head (IsPartOf list) p ps are

      of : (stood : Bool) → stands p ≡ stood → IsApartFrom w (part_writes ps) → IsApartFrom w (map (λ (r : Part). write r.place (overwrite_or_void r)) (if stood then p ∷ filter stands ps else filter stands ps))
      of true test rest = (sits-apart a p.id w _ sits (part-sits p own test) other own.void (All-head (λ (r : Part). (a == r.id) ≡ false) p ps differ), rest)
      of false test rest = rest

  -- The writes of parts don't overlap.
  pub parts-apart : (ps : List Part) → q ≤ e → All (IsPartOf list) ps → AllPairs (λ p r. (p.id == r.id) ≡ false) ps → AreApart q e (part_writes ps)
  parts-apart [] before are distinct = before
  parts-apart (p ∷ ps) before are distinct =
      of (stands p) refl (parts-apart ps before (All-tail (IsPartOf list) p ps are) (λ i j d less below. distinct (suc i) (suc j) d (omega arith) (omega arith)))
    where
      own : IsPartOf list p
      own = All-head (IsPartOf list) p ps are

      differ : All (λ (r : Part). (p.id == r.id) ≡ false) ps
      differ = λ k d below. distinct 0 (suc k) d (omega arith) (omega arith)

      of : (stood : Bool) → stands p ≡ stood → AreApart q e (part_writes ps) → AreApart q e (map (λ (r : Part). write r.place (overwrite_or_void r)) (if stood then p ∷ filter stands ps else filter stands ps))
      of true test rest =
          let sits = part-sits p own test in
          let is = sits-begins p.id _ sits in
          (sits.some, is.0, is.1, apart-from p.id _ ps sits own.void (All-tail (IsPartOf list) p ps are) differ, rest)
      of false test rest = rest

  -- The write of the SeekHead doesn't overlap them.
  pub head-apart : (w : Write) (ps : List Part) → q ≤ e → SitsAt list SEEK_HEAD w → All (IsPartOf list) ps → AllPairs (λ p r. (p.id == r.id) ≡ false) ps → AreApart q e (w ∷ part_writes ps)
  head-apart w ps before head are distinct =
      let is = sits-begins SEEK_HEAD w head in
      let differ = All-weaker (IsPartOf list) (λ (p : Part). (SEEK_HEAD == p.id) ≡ false) (λ p own. own.seek_head) ps are in
      (head.some, is.0, is.1, apart-from SEEK_HEAD w ps head refl are differ, parts-apart ps before are distinct)

-- ---- Info and Tracks

module _ (list : List Header) where
  -- The first Element with an ID and new children is a part.
  part-is : (id : ℕ) (nodes : List Node) (h : Header) → is_id id ≡ true → (id == VOID) ≡ false → (SEEK_HEAD == id) ≡ false → first_of id list ≡ Some h → IsPartOf list (part list nodes h)
  part-is id nodes h valid void seek_head first =
      let own = first-own id list h first in
      record {
        valid = ap is_id own ∙ valid;
        void = ap (λ n. n == VOID) own ∙ void;
        seek_head = ap (λ n. SEEK_HEAD == n) own ∙ seek_head;
        new = refl;
        old = λ stood. record { header = h; first = ap (λ n. first_of n list) own ∙ first; place = refl; room = refl };
      }

  -- The list is empty or has one part, with this ID.
  abbrev MayBe : ℕ → List Part → Type 0
  MayBe id [] = ⊤
  MayBe id (p ∷ []) = IsPartOf list p × (p.id ≡ id)
  MayBe id (p ∷ r ∷ rs) = ⊥

  part-maybe : (written : Bool) (id : ℕ) (nodes : List Node) → is_id id ≡ true → (id == VOID) ≡ false → (SEEK_HEAD == id) ≡ false → MayBe id (part_of written id list nodes)
  part-maybe false id nodes valid void seek_head = tt
  part-maybe true id nodes valid void seek_head = of (first_of id list) refl
    where
      of : (first : Option Header) → first_of id list ≡ first → MayBe id (option_map_or (λ h. part list nodes h ∷ []) first [])
      of None is = tt
      of (Some h) is = (part-is id nodes h valid void seek_head is, first-own id list h is)

  abbrev Differ : Part → Part → Type 0
  Differ p r = (p.id == r.id) ≡ false

  both-are : (xs ys : List Part) → MayBe INFO xs → MayBe TRACKS ys → ArePartsOf list (xs ++ ys)
  both-are [] [] one two = record { few = omega arith; parts = All-nil (IsPartOf list); distinct = λ i j d less below. absurd (omega arith) }
  both-are [] (r ∷ []) one two = record { few = omega arith; parts = All-cons (IsPartOf list) r [] two.0 (All-nil (IsPartOf list)); distinct = λ i j d less below. absurd (omega arith) }
  both-are (p ∷ []) [] one two = record { few = omega arith; parts = All-cons (IsPartOf list) p [] one.0 (All-nil (IsPartOf list)); distinct = λ i j d less below. absurd (omega arith) }
  both-are (p ∷ []) (r ∷ []) one two = record {
    few = omega arith;
    parts = All-cons (IsPartOf list) p (r ∷ []) one.0 (All-cons (IsPartOf list) r [] two.0 (All-nil (IsPartOf list)));
    distinct = AllPairs-cons Differ p (r ∷ []) (All-cons (Differ p) r [] (ap₂ (λ m n. m == n) one.1 two.1) (All-nil (Differ p))) (λ i j d less below. absurd (omega arith));
  }
  both-are (p ∷ q ∷ xs) ys one two = absurd one
  both-are [] (p ∷ q ∷ ys) one two = absurd two
  both-are (r ∷ []) (p ∷ q ∷ ys) one two = absurd two

  pub edits-are : (edits : List Edit) (t : Trees) → ArePartsOf list (parts list edits t)
  edits-are edits t = both-are _ _
      (part-maybe (are_of_info edits) INFO (info_nodes t.info) info-valid refl refl)
      (part-maybe (are_of_tracks edits) TRACKS t.tracks tracks-valid refl refl)

-- ---- the number of parts and of their bytes

pub parts-bytes : (ps : List Part) → bytes_in (part_writes ps) ≡ length_in_place ps
parts-bytes ps = of (filter stands ps)
  where
    of : (rs : List Part) → bytes_in (map (λ (p : Part). write p.place (overwrite_or_void p)) rs) ≡ sum_by (λ (p : Part). length (overwrite_or_void p)) rs
    of [] = refl
    of (p ∷ rs) =
        bytes_in-cons (write p.place (overwrite_or_void p)) (map (λ (r : Part). write r.place (overwrite_or_void r)) rs)
        ∙ ap (λ n. length (overwrite_or_void p) + n) (of rs)
        ∙ sym (sum_by-cons (λ (r : Part). length (overwrite_or_void r)) p rs)

pub parts-few : (ps : List Part) → length (part_writes ps) ≤ length ps
parts-few ps = let some = kept ps in omega (arith, length-map (filter stands ps) (λ (p : Part). write p.place (overwrite_or_void p)))
  where
    kept : (rs : List Part) → length (filter stands rs) ≤ length rs
    kept [] = omega arith
    kept (p ∷ rs) = of (stands p) (kept rs)
      where
        of : (stood : Bool) → length (filter stands rs) ≤ length rs → length (if stood then p ∷ filter stands rs else filter stands rs) ≤ suc (length rs)
        of true less = omega arith
        of false less = omega arith
