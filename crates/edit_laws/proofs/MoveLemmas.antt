-- Edits that move an Element to the old end of the file, where the Segment ended.
use Rattle.std.proofs.Common.{◌≡◌, ◌⊎◌, ◌<◌, ◌≤◌, ℕ, ◌+◌, nat_le, not, min, Bool, true, false, ◌&&◌, List, ◌∷◌, append-nil, length, length-append, All, Ok, refl, sym, ◌∙◌, ap, arith}
use Rattle.std.proofs.lemmas.Bool.Decides.{nat_tests}
use Rattle.std.proofs.lemmas.List.Elements.{All-head}
use Rattle.ebml_numbers.specs.declared.number.Size.{Size}
use Rattle.mkv_io.specs.declared.outside.TheConstants.{LONGEST_FILE}
use Rattle.mkv_schema.specs.declared.element.Header.{Header}
use Rattle.mkv_schema.specs.Element.{in_segment, in_master, element_at, is_unknown, stated_end}
use Rattle.mkv_schema.specs.Elements.{Run, id_of, ends_segment, ends_cluster, ends_at, behind_in_segment}
use Rattle.mkv_schema.proofs.ElementsLemmas.{elements-end}
use Rattle.element_reader.specs.Collected.{others_of}
use Rattle.output_model.specs.Element.{Element, IsElement, HoldsAt, octets_of, joined, header_in_place, headers_in_place, all_in_front}
use Rattle.output_model.proofs.ReadLemmas.{element_at-read, elements-read, octets_of-some}
use Rattle.output_model.proofs.HeldLemmas.{held-left}
use Rattle.sidecar_edit.specs.Writes.{Write, applied, WritesOctet}
use Rattle.edit_laws.proofs.AmongLemmas.{IsAmong}
use Rattle.edit_laws.proofs.SameLemmas.{InOrder}
use Rattle.edit_laws.proofs.HeaderLemmas.{found-sound}
use Rattle.edit_laws.proofs.HeadLemmas.{sound-longer}
use Rattle.edit_laws.proofs.TileLemmas.{level, inner, run_of, advances-inner, Stands, whole, run-stops}
use Rattle.edit_laws.proofs.LevelLemmas.{Edit, Lists-level}
use Rattle.edit_laws.proofs.ItemLemmas.{AreDistinct, IsAnew, Item, IsItem, IsInside, CanKeep, anew, edit, write_of}
use Rattle.edit_laws.specs.Laws.{IsOutside}

module _ (bytes : List ℕ) (size now_size : Size) (start : ℕ) (list : List Header) (items : List Item) (ws : List Write) (first : Element) (more : List Element)
    (short : length bytes ≤ LONGEST_FILE)
    (run : run_of (level bytes size (length bytes)) start ≡ whole list (length bytes))
    (order : InOrder (length bytes) 0 ws) (are : All (IsItem (others_of list)) items) (one : All (λ (i : Item). IsAmong ws (write_of (others_of list) i)) items)
    (touch : (k : ℕ) → WritesOctet ws k → (k < start) ⊎ ((length bytes ≤ k) ⊎ IsInside (others_of list) items k))
    (stops : (id : ℕ) → ends_segment now_size id ≡ ends_segment size id)
    (ends : (h : Header) (m : ℕ) → Stands (level bytes size (length bytes)) h.offset h m → IsAmong list h → stated_end h ≤ length bytes)
    (blocks : (h : Header) → IsAmong list h → ends_cluster h.id ≡ false → IsOutside h)
    (long : length (applied bytes ws) ≡ length bytes + length (joined (first ∷ more)))
    (held : HoldsAt (applied bytes ws) (length bytes) (joined (first ∷ more))) (elements : All IsElement (first ∷ more))
    (go : All (λ (d : Element). ends_segment now_size d.id ≡ false) (first ∷ more)) (is_level : ends_cluster first.id ≡ true) where
  abbrev new : List ℕ
  new = applied bytes ws

  abbrev total : ℕ
  total = length bytes

  abbrev pub now_end : ℕ
  now_end = total + length (joined (first ∷ more))

  keep : (h : Header) (m : ℕ) → Stands (level bytes size total) h.offset h m → IsAmong list h → CanKeep bytes new total now_end h
  keep h m stands ahead =
      let end = ends h m stands ahead in
      record {
        sound = sound-longer ((in_segment).may_open) total (length new) total now_end h (found-sound ((in_segment).may_open) bytes h.offset total h stands.found) (omega arith) (omega (arith, long));
        ends = λ known. (let same : min (stated_end h) now_end ≡ min (stated_end h) total = omega arith in same);
        closed = of (is_unknown h.size) (nat_le (stated_end h) (length new)) (nat_le (stated_end h) total) (let one : nat_le (stated_end h) (length new) ≡ true = (let reach : stated_end h ≤ length new = omega (arith, long) in grind (arith, nat_tests)) in one) (let two : nat_le (stated_end h) total ≡ true = grind (arith, nat_tests) in two);
      }
    where
      of : (unknown now was : Bool) → now ≡ true → was ≡ true → (not unknown && now) ≡ (not unknown && was)
      of unknown now was one two = ap (λ b. not unknown && b) (one ∙ sym two)

  some : 1 ≤ length (octets_of first)
  some = octets_of-some first (All-head IsElement first more elements)

  lengths : length (joined (first ∷ more)) ≡ length (octets_of first) + length (joined more)
  lengths = length-append (octets_of first) (joined more)

  tail : run_of (level new now_size now_end) total ≡ whole (headers_in_place total (first ∷ more)) now_end
  tail =
      elements-read in_segment (ends_segment now_size) (behind_in_segment new now_end) new (first ∷ more) total now_end (Lists-level new now_size now_end) elements go held (omega arith)
      ∙ ap (all_in_front (headers_in_place total (first ∷ more))) (elements-end in_segment (ends_segment now_size) (behind_in_segment new now_end) new now_end now_end (omega arith))
      ∙ ap (λ l. whole l now_end) (append-nil (headers_in_place total (first ∷ more)))

  found : element_at in_master new total now_end ≡ Ok (header_in_place total first)
  found = element_at-read in_master new first total now_end refl (All-head IsElement first more elements) (held-left new total (octets_of first) (joined more) held) (omega (arith, lengths))

  closes : run_of (inner new now_end) total ≡ ends_at total
  closes = run-stops (inner new now_end) total (advances-inner new now_end) (omega (arith, some, lengths)) (ap (λ f. ends_cluster (id_of f)) found ∙ is_level)

  pub no-longer : total ≤ total
  no-longer = omega arith

  pub longer : total ≤ now_end
  longer = omega arith

  now-within : now_end ≤ length new
  now-within = omega (arith, long)

  abbrev pub moved : Edit
  moved = edit bytes size now_size start total now_end total list items ws (headers_in_place total (first ∷ more)) short no-longer longer no-longer run order are one touch

  pub moved-anew : AreDistinct items → IsAnew moved items
  moved-anew =
      anew bytes size now_size start total now_end total list items ws (headers_in_place total (first ∷ more)) short no-longer longer no-longer run order are one touch
      now-within stops keep blocks (tail ∙ sym (ap (λ n. whole (headers_in_place total (first ∷ more)) n) (ap (λ (r : Run). r.end) tail))) closes
