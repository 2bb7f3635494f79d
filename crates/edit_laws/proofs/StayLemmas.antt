-- Edits without an Element after the old end: the new content is as long as the old one, and its Segment ends at the same place.
use Rattle.std.proofs.Common.{inl, inr, ◌≡◌, ◌⊎◌, ◌<◌, ◌≤◌, ℕ, Bool, true, false, List, [], length, All, Ok, refl, sym, ◌∙◌, ap, ap₂, arith}
use Rattle.std.proofs.lemmas.Bool.{cases_lt, or_right}
use Rattle.ebml_numbers.specs.declared.number.Size.{Size}
use Rattle.ebml_numbers.specs.declared.number.Size.TheVariants.{Known, Unknown}
use Rattle.mkv_io.specs.declared.outside.TheConstants.{LONGEST_FILE}
use Rattle.mkv_schema.specs.declared.element.Header.{Header}
use Rattle.mkv_schema.specs.Schema.{is_level0, is_level1}
use Rattle.mkv_schema.specs.Element.{in_segment, in_master, body_damage, element_in, element_at, end_in}
use Rattle.mkv_schema.specs.Elements.{Run, ends_cluster, ends_at, ends_segment, id_of}
use Rattle.mkv_schema.proofs.ElementsLemmas.{elements-end}
use Rattle.element_reader.specs.Collected.{others_of}
use Rattle.block_format.specs.Events.{is_closed}
use Rattle.sidecar_edit.specs.Writes.{Write, applied, WritesOctet}
use Rattle.sidecar_edit.proofs.RedoLemmas.{length-applied}
use Rattle.edit_plan.proofs.LevelLemmas.{Stand}
use Rattle.edit_laws.proofs.AmongLemmas.{IsAmong}
use Rattle.edit_laws.proofs.SameLemmas.{AreSame, same-clear, InOrder, order-fits}
use Rattle.edit_laws.proofs.HeaderLemmas.{outside, found-sound, id-either}
use Rattle.edit_laws.proofs.TileLemmas.{level, inner, run_of, advances-level, advances-inner, Stands, Tiles, whole, tiled, end-same, end-stops, run-stops}
use Rattle.edit_laws.proofs.LevelLemmas.{Edit, level-within}
use Rattle.edit_laws.proofs.RoomLemmas.{tiles-stand}
use Rattle.edit_laws.proofs.ItemLemmas.{AreDistinct, IsAnew, Item, IsItem, IsInside, CanKeep, anew, edit, write_of}
use Rattle.edit_laws.proofs.WriteLemmas.{inside-room, extent-within}
use Rattle.edit_laws.specs.Laws.{IsOutside}

module _ (bytes : List ℕ) (size : Size) (start e last : ℕ) (list : List Header) (items : List Item) (ws : List Write)
    (short : length bytes ≤ LONGEST_FILE) (within : e ≤ length bytes) (begins : start ≤ e)
    (run : run_of (level bytes size e) start ≡ whole list last)
    (order : InOrder (length bytes) 0 ws) (are : All (IsItem (others_of list)) items) (one : All (λ (i : Item). IsAmong ws (write_of (others_of list) i)) items)
    (touch : (k : ℕ) → WritesOctet ws k → IsInside (others_of list) items k)
    (blocks : (h : Header) → IsAmong list h → ends_cluster h.id ≡ false → IsOutside h) where
  abbrev new : List ℕ
  new = applied bytes ws

  tiles : Tiles (level bytes size e) start list last
  tiles = (tiled (level bytes size e) start last list (advances-level bytes size e) run).tiles

  stand : Stand start last (others_of list)
  stand = tiles-stand bytes size e start last list tiles

  pub reaches : last ≤ e
  reaches = level-within bytes size e start last list tiles begins

  touched-inside : (k : ℕ) → WritesOctet ws k → (start ≤ k) × (k < last)
  touched-inside k touched = inside-room start last (others_of list) stand items k are (touch k touched)

  pub same-length : length new ≡ length bytes
  same-length =
      length-applied bytes ws (order-fits (length bytes) 0 (length bytes) ws (omega arith) (omega arith) order)
      ∙ extent-within (length bytes) 0 (length bytes) ws order (λ k touched. let is = touched-inside k touched in let before = is.1 in let most = reaches in omega arith)

  -- Outside the rooms nothing changes.
  pub same-outside : (p q : ℕ) → q ≤ length bytes → (q ≤ start) ⊎ (last ≤ p) → AreSame bytes new p q
  same-outside p q inside out =
      same-clear ws bytes p q (order-fits (length bytes) 0 (length bytes) ws (omega arith) (omega arith) order) inside
      (λ k from to touched. let is = touched-inside k touched in let left = is.0 in let right = is.1 in
      elim out [
        | inl before ↦ (let wrong : ⊥ = omega arith in wrong)
        | inr behind ↦ (let wrong : ⊥ = omega arith in wrong)
      ])

  keep : (h : Header) (m : ℕ) → Stands (level bytes size e) h.offset h m → IsAmong list h → CanKeep bytes new e e h
  keep h m stands ahead = record {
    sound = ap (λ n. body_damage in_segment n e h) same-length ∙ found-sound ((in_segment).may_open) bytes h.offset e h stands.found;
    ends = λ known. refl;
    closed = ap (λ n. is_closed n h) same-length;
  }

  -- The bytes after the list stay.
  behind-same : (may_open : ℕ → Bool) → element_at (outside may_open) new last e ≡ element_at (outside may_open) bytes last e
  behind-same may_open = ap₂ (λ o n. element_in (outside may_open) o n last e) (same-outside last e within (inr (omega arith))) same-length

  ended : run_of (level bytes size e) last ≡ ends_at last
  ended = (tiled (level bytes size e) start last list (advances-level bytes size e) run).ends

  tail : run_of (level new size e) last ≡ ends_at last
  tail = end-same (level bytes size e) (level new size e) last (advances-level bytes size e) (advances-level new size e) refl (behind-same ((in_segment).may_open)) (λ id. refl) ended

  -- The end of the list also ends a Cluster of unknown size: it is the end of the Segment, or an ID of level 0.
  stops-cluster : (z : Size) (id : ℕ) → ends_segment z id ≡ true → ends_cluster id ≡ true
  stops-cluster (Known n) id is = absurd (cc)
  stops-cluster Unknown id is = or_right (is_level1 id) (is_level0 id) is

  closes : run_of (inner new e) last ≡ ends_at last
  closes =
      elim (cases_lt last e) [
        | inl inside ↦
            run-stops (inner new e) last (advances-inner new e) inside
            (ap (λ f. ends_cluster (id_of f)) (behind-same (λ id. false))
            ∙ ap ends_cluster (id-either ((in_segment).may_open) (λ id. false) bytes last e)
            ∙ stops-cluster size (id_of (element_at in_segment bytes last e)) (end-stops (level bytes size e) last (advances-level bytes size e) ended inside))
        | inr past ↦ elements-end in_master ends_cluster (λ h. Ok (end_in e h)) new last e past
      ]

  pub touch-all : (k : ℕ) → WritesOctet ws k → (k < start) ⊎ ((length bytes ≤ k) ⊎ IsInside (others_of list) items k)
  touch-all k touched = inr (inr (touch k touched))

  pub no-longer : e ≤ e
  no-longer = omega arith

  now-within : e ≤ length new
  now-within = omega (arith, same-length)

  abbrev pub stays : Edit
  stays = edit bytes size size start e e last list items ws [] short within no-longer reaches run order are one touch-all

  pub stays-anew : AreDistinct items → IsAnew stays items
  stays-anew =
      anew bytes size size start e e last list items ws [] short within no-longer reaches run order are one touch-all
      now-within (λ id. refl) keep blocks (tail ∙ sym (ap (λ n. whole [] n) (ap (λ (r : Run). r.end) tail))) closes
