-- The writes of parts and of the SeekHead.
use Rattle.std.proofs.Common.{◌≡◌, ℕ, ◌+◌, ◌≤◌, Bool, true, false, if◌then◌else◌, List, [], ◌∷◌, ◌++◌, length, map, Option, Some, None, Ok, Err, sym, ◌∙◌, ap, arith}
use Rattle.std.specs.List.{list_any}
use Rattle.std.specs.Option.{unwrap_or}
use Rattle.ebml_numbers.proofs.NumberLemmas.{is_id-bounds}
use Rattle.mkv_schema.specs.declared.ids.TheConstants.{SEEK_HEAD}
use Rattle.output_model.specs.Element.{Element, element, octets_of}
use Rattle.element_reader.specs.Outline.{FileOutline}
use Rattle.sidecar_edit.specs.Writes as disk
use Rattle.edit_changes.specs.declared.refusal.Refusal.{Refusal}
use Rattle.edit_changes.specs.SeekHead.{SeekHeadAt}
use Rattle.edit_changes.specs.Span.{fitted}
use Rattle.edit_changes.specs.Plan.{Part, appended, ascending, first_refusal, length_moving, moves, moving_refusals, moving_writes, new_end, part_writes, place_of, room_of, seek_head, size_length, size_writes, write, writes_moving}
use Rattle.mkv_io.specs.Results.{unless}
use Rattle.edit_plan.specs.declared.prepared.Prepared.{Prepared}
use Rattle.edit_plan.specs.Moving.{IsPrepared, refused}
use Rattle.edit_plan.specs.Shown.{written}
use Rattle.edit_plan.proofs.FitLemmas.{fitted-same}
use Rattle.edit_plan.proofs.OrderLemmas.{bytes_in}
use Rattle.edit_plan.proofs.PartLemmas.{seek_head-valid}
use Rattle.edit_plan.proofs.SitsLemmas.{element-some, parts-bytes}

-- The bytes of the writes are counted, in the SeekHead, at the old places and at the end, and in the Segment's size. `body` is the body of the
-- new SeekHead.
pub record IsCounted (ids : List ℕ) (o : FileOutline) (ps : List Part) (head : Option SeekHeadAt) (body octets moved : List ℕ) (places : List disk.Write) (room size len : ℕ) : Type 0 where
  pub body_is : element SEEK_HEAD body ≡ seek_head ids o ps head
  pub room_is : room ≡ room_of head o.others
  pub octets_is : octets ≡ unwrap_or (fitted (element SEEK_HEAD body) room) (octets_of (element SEEK_HEAD body))
  pub places_is : places ≡ part_writes ps
  pub moved_is : moved ≡ appended ps
  pub size_is : size ≡ (if list_any moves ps then size_length o.segment else 0)
  pub len_is : len ≡ bytes_in places + length moved + length octets + size

module _ (ids : List ℕ) (o : FileOutline) (ps : List Part) (head : Option SeekHeadAt) where
  abbrev new : Element
  new = seek_head ids o ps head

  abbrev space : ℕ
  space = room_of head o.others

  module _ (body octets moved : List ℕ) (places : List disk.Write) (room size len : ℕ) (is : IsCounted ids o ps head body octets moved places room size len) where
    pub octets-are : octets ≡ unwrap_or (fitted new space) (octets_of new)
    octets-are = is.octets_is ∙ ap (λ (e : Element). unwrap_or (fitted e room) (octets_of e)) is.body_is ∙ ap (λ r. unwrap_or (fitted new r) (octets_of new)) is.room_is

    pub len-is : len ≡ length_moving o ps new space
    len-is =
        let one = ap bytes_in is.places_is ∙ parts-bytes ps in
        let two = ap length is.moved_is in
        let three = ap length octets-are in
        let four = is.size_is in
        let all = is.len_is in
        omega arith

  module _ (p : Prepared) (is : IsPrepared ids o ps head p) where
    refusals-are : refused o ps p.length (length p.moved.items) p.need p.room ≡ first_refusal (moving_refusals o ps new space)
    refusals-are =
        ap (λ n. refused o ps n (length p.moved.items) p.need p.room) is.all
        ∙ ap (λ n. refused o ps (length_moving o ps new space) n p.need p.room) (ap length is.moved)
        ∙ ap (λ n. refused o ps (length_moving o ps new space) (length (appended ps)) n p.room) is.need
        ∙ ap (λ n. refused o ps (length_moving o ps new space) (length (appended ps)) (length (octets_of new)) n) is.room

    unless-are : (r : Option Refusal) → r ≡ refused o ps p.length (length p.moved.items) p.need p.room → writes_moving ids o ps head ≡ unless r (moving_writes o ps new (place_of head) space)
    unless-are r found = ap (λ x. unless x (moving_writes o ps new (place_of head) space)) (sym refusals-are ∙ sym found)

    -- The writes are refused.
    pub prepared-refused : (r : Refusal) → Some r ≡ refused o ps p.length (length p.moved.items) p.need p.room → writes_moving ids o ps head ≡ Err r
    prepared-refused r found = unless-are (Some r) found

    module _ (found : None ≡ refused o ps p.length (length p.moved.items) p.need p.room) (reaches : p.need ≤ p.room) where
      middle-is : ascending (write (place_of head) p.head.items ∷ map written p.places.items) ≡ ascending (write (place_of head) (unwrap_or (fitted new space) []) ∷ part_writes ps)
      middle-is =
          let some = element-some SEEK_HEAD _ (is_id-bounds SEEK_HEAD seek_head-valid).0 in
          let need = is.need in let room = is.room in
          let less : length (octets_of new) ≤ space = omega arith in
          let whole : p.head.items ≡ unwrap_or (fitted new space) [] = is.head ∙ fitted-same new space (octets_of new) [] less some in
          ap (λ (w : List ℕ). ascending (write (place_of head) w ∷ map written p.places.items)) whole
          ∙ ap (λ (ws : List disk.Write). ascending (write (place_of head) (unwrap_or (fitted new space) []) ∷ ws)) is.places

      -- The writes are made, and nothing is appended.
      pub prepared-stays : list_any moves ps ≡ false → (all : List disk.Write) → all ≡ ascending (write (place_of head) p.head.items ∷ map written p.places.items) → writes_moving ids o ps head ≡ Ok all
      prepared-stays still all made =
          let others : List disk.Write = size_writes o.segment (new_end o ps) ++ ascending (write (place_of head) (unwrap_or (fitted new space) []) ∷ part_writes ps) ++ write o.total (appended ps) ∷ [] in
          unless-are None found
          ∙ ap (λ (b : Bool). Ok (if b then others else ascending (write (place_of head) (unwrap_or (fitted new space) []) ∷ part_writes ps))) still
          ∙ ap (λ (ws : List disk.Write). Ok ws) (sym (made ∙ middle-is))

      -- The writes are made, and something is appended.
      pub prepared-moves : list_any moves ps ≡ true → (all : List disk.Write)
          → all ≡ size_writes o.segment (o.total + length p.moved.items) ++ ascending (write (place_of head) p.head.items ∷ map written p.places.items) ++ write o.total p.moved.items ∷ []
          → writes_moving ids o ps head ≡ Ok all
      prepared-moves any all made =
          let inner : List disk.Write = ascending (write (place_of head) (unwrap_or (fitted new space) []) ∷ part_writes ps) in
          unless-are None found
          ∙ ap (λ (b : Bool). Ok (if b then size_writes o.segment (new_end o ps) ++ inner ++ write o.total (appended ps) ∷ [] else inner)) any
          ∙ ap (λ (ws : List disk.Write). Ok ws) (sym (
          made
          ∙ ap (λ (ws : List disk.Write). size_writes o.segment (o.total + length p.moved.items) ++ ws ++ write o.total p.moved.items ∷ []) middle-is
          ∙ ap (λ (m : List ℕ). size_writes o.segment (o.total + length m) ++ inner ++ write o.total m ∷ []) is.moved))
