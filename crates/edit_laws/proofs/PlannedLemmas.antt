-- The content that stays if parts are written with a SeekHead that has their places.
use Rattle.std.proofs.Common.{◌≡◌, ◌≤◌, ℕ, ◌+◌, ◌^◌, ◌==◌, Bool, true, false, if◌then◌else◌, List, [], ◌∷◌, ◌++◌, length, map, All, Option, Some, None, Result, Ok, Err, refl, sym, ◌∙◌, ap, ap₂, subst, arith}
use Rattle.std.specs.List.{list_any}
use Rattle.std.specs.Option.{option_and_then, unwrap_or}
use Rattle.std.proofs.lemmas.List.Elements.{All-cons, All-head}
use Rattle.ebml_numbers.specs.Number.{AreOctets}
use Rattle.ebml_numbers.proofs.NumberLemmas.{is_id-bounds}
use Rattle.mkv_schema.specs.declared.ids.TheConstants.{SEEK_HEAD}
use Rattle.mkv_io.specs.declared.outside.TheConstants.{LONGEST_FILE}
use Rattle.mkv_io.specs.declared.damage.Damage.{Damage}
use Rattle.mkv_schema.specs.declared.element.Header.{Header}
use Rattle.mkv_schema.specs.Outline.{segment_run}
use Rattle.mkv_io.specs.Results.{and_then}
use Rattle.mkv_schema.specs.Value.{body_of, first_of}
use Rattle.element_reader.specs.Collected.{others_of}
use Rattle.element_reader.specs.Outline.{FileOutline}
use Rattle.element_reader.proofs.OutlineLemmas.{first_in-others}
use Rattle.tree_format.specs.declared.limits.TheConstants.{MAX_NODES}
use Rattle.tree_format.specs.Node.{Node, children}
use Rattle.tree_format.specs.Reading.{tree_of}
use Rattle.meta_records.specs.Records.{first_tree, tree_at}
use Rattle.output_model.specs.Element.{Element, IsElement, joined, octets_of}
use Rattle.sidecar_edit.specs.Fields.{AreInOrder}
use Rattle.sidecar_edit.specs.Writes.{Write, applied}
use Rattle.edit_changes.specs.declared.refusal.Room.TheVariants as room
use Rattle.edit_changes.specs.declared.refusal.TheConstants.{MAX_WRITTEN}
use Rattle.edit_changes.specs.SeekHead.{SeekHeadAt, before_clusters, if_read, if_sound, seek_head_of}
use Rattle.edit_changes.specs.Span.{fitted, span_of, void_header}
use Rattle.edit_changes.specs.Plan.{Part, appended, ascending, elements_moving, first_refusal, lacks, length_moving, moves, moving, moving_refusals, moving_writes, new_end, part_writes, place, seek_head, size_refusal, size_writes, tail_refusal, too_large, twin_refusal, write, writes_moving}
use Rattle.edit_plan.proofs.FitLemmas.{fitted-same}
use Rattle.edit_plan.proofs.PartLemmas.{seek_head-valid}
use Rattle.edit_plan.proofs.PlanLemmas.{first-none, head-first, if-true, lacks-none, large-none, unless-none}
use Rattle.edit_plan.proofs.SitsLemmas.{element-some}
use Rattle.edit_laws.proofs.SameLemmas.{InOrder}
use Rattle.edit_laws.proofs.EndLemmas.{can-grow}
use Rattle.edit_laws.proofs.ItemLemmas.{AreDistinct, IsItem, IsName, Item, write_of, names}
use Rattle.edit_laws.proofs.OpenedLemmas.{IsOpened}
use Rattle.edit_laws.proofs.RestLemmas.{HoldsRest, rest-moves, rest-stays, small-item, stand}
use Rattle.edit_laws.proofs.WriteLemmas.{fitted-long, item-some, writes_of}
use Rattle.edit_laws.specs.Laws.{IsOutside}

-- ---- places of writes

-- The places of a record are the places of its writes.
pub in-order : (old from : ℕ) (ws : List Write) → AreInOrder old from (map place ws) → InOrder old from ws
in-order old from [] order = tt
in-order old from (w ∷ ws) order = (order.0, order.1, order.2, in-order old (w.at + length w.bytes) ws order.3)

-- ---- no refusal

-- Nothing refuses the parts `ps` and a SeekHead with Seeks of `ids`; `list` are the Elements of level 1.
pub record IsPlanned (o : FileOutline) (ids : List ℕ) (ps : List Part) (ws : List Write) (s : SeekHeadAt) (list : List Header) : Type 0 where
  pub head : first_of SEEK_HEAD list ≡ Some s.header
  pub large : too_large (length_moving o ps (seek_head ids o ps (Some s)) (span_of s.header list)) ps ≡ None
  pub tail : list_any moves ps ≡ true → tail_refusal o ≡ None
  pub twins : twin_refusal list (moving ps) ≡ None
  pub reaches : length (octets_of (seek_head ids o ps (Some s))) ≤ span_of s.header list
  pub size : list_any moves ps ≡ true → size_refusal o.segment (new_end o ps) ≡ None
  pub writes : moving_writes o ps (seek_head ids o ps (Some s)) s.header.offset (span_of s.header list) ≡ ws

pub writes-planned : (bytes : List ℕ) (o : FileOutline) (ids : List ℕ) (ps : List Part) (ws : List Write) → IsOpened bytes o → writes_moving ids o ps (seek_head_of bytes o) ≡ Ok ws
    → (s : SeekHeadAt) × (seek_head_of bytes o ≡ Some s) × IsPlanned o ids ps ws s (others_of (segment_run bytes o.segment).list)
writes-planned bytes o ids ps ws op made = of (seek_head_of bytes o) refl made
  where
    of : (head : Option SeekHeadAt) → seek_head_of bytes o ≡ head → writes_moving ids o ps head ≡ Ok ws → (s : SeekHeadAt) × (seek_head_of bytes o ≡ Some s) × IsPlanned o ids ps ws s (others_of (segment_run bytes o.segment).list)
    of None is made =
        let split = unless-none (first_refusal (moving_refusals o ps (seek_head ids o ps None) 0)) _ ws made in
        let large = first-none (too_large (length_moving o ps (seek_head ids o ps None) 0) ps) _ split.0 in
        let tail = first-none (if list_any moves ps then tail_refusal o else None) _ large.1 in
        let twin = first-none (twin_refusal o.others (moving ps)) _ tail.1 in
        let space = first-none (lacks room.SeekHead (length (octets_of (seek_head ids o ps None))) 0) _ twin.1 in
        let reaches : length (octets_of (seek_head ids o ps None)) ≤ 0 = lacks-none room.SeekHead (length (octets_of (seek_head ids o ps None))) 0 space.0 in
        let some : 1 ≤ length (octets_of (seek_head ids o ps None)) = element-some SEEK_HEAD (seek_head ids o ps None).body (is_id-bounds SEEK_HEAD seek_head-valid).0 in
        absurd (omega arith)
    of (Some s) is made =
        let seeks = seek_head ids o ps (Some s) in
        let space = span_of s.header o.others in
        let split = unless-none (first_refusal (moving_refusals o ps seeks space)) (moving_writes o ps seeks s.header.offset space) ws made in
        let large = first-none (too_large (length_moving o ps seeks space) ps) _ split.0 in
        let tail = first-none (if list_any moves ps then tail_refusal o else None) _ large.1 in
        let twin = first-none (twin_refusal o.others (moving ps)) _ tail.1 in
        let reaches = first-none (lacks room.SeekHead (length (octets_of seeks)) space) _ twin.1 in
        let size = first-none (if list_any moves ps then size_refusal o.segment (new_end o ps) else None) [] reaches.1 in
        let P : List Header → Type 0 = IsPlanned o ids ps ws s in (
          s,
          is,
          subst P op.others (record {
            head = head-first bytes o s is;
            large = large.0;
            tail = λ any. if-true (list_any moves ps) (tail_refusal o) None None any tail.0;
            twins = twin.0;
            reaches = lacks-none _ _ _ reaches.0;
            size = λ any. if-true (list_any moves ps) (size_refusal o.segment (new_end o ps)) None None any size.0;
            writes = split.1;
          }),
        )

-- ---- the old SeekHead

-- The children of a rewritten SeekHead are taken from the first SeekHead, as a tree.
pub record IsHead (bytes : List ℕ) (o : FileOutline) (s : SeekHeadAt) : Type 0 where
  pub tree : Node
  pub read : first_tree SEEK_HEAD bytes o.segment ≡ Ok (Some tree)
  pub seeks : s.seeks ≡ children tree

pub head-read : (bytes : List ℕ) (o : FileOutline) (s : SeekHeadAt) → IsOpened bytes o → seek_head_of bytes o ≡ Some s → IsHead bytes o s
head-read bytes o s op is = of (first_of SEEK_HEAD o.others) refl is
  where
    read : (h : Header) → first_of SEEK_HEAD o.others ≡ Some h → (tree : Result Node Damage) → tree_of h.id h.offset (body_of bytes h) h.body MAX_NODES ≡ tree → if_read h tree ≡ Some s → IsHead bytes o s
    read h first (Ok n) found is =
        let same : record { header = h; seeks = children n } ≡ s = cc in
        record {
          tree = n;
          read =
              ap (tree_at bytes) (sym (first_in-others SEEK_HEAD (segment_run bytes o.segment).list refl) ∙ sym (ap (first_of SEEK_HEAD) op.others) ∙ first)
              ∙ ap (λ (t : Result Node Damage). and_then t (λ tree. Ok (Some tree))) found;
          seeks = ap (λ (x : SeekHeadAt). x.seeks) (sym same);
        }
    read h first (Err d) found is = absurd (cc)

    sound : (h : Header) → first_of SEEK_HEAD o.others ≡ Some h → (large : Bool) → (if large then None else if_read h (tree_of h.id h.offset (body_of bytes h) h.body MAX_NODES)) ≡ Some s → IsHead bytes o s
    sound h first true is = absurd (cc)
    sound h first false is = read h first (tree_of h.id h.offset (body_of bytes h) h.body MAX_NODES) refl is

    before : (h : Header) → first_of SEEK_HEAD o.others ≡ Some h → (front : Bool) → option_and_then (if_sound bytes) (if front then Some h else None) ≡ Some s → IsHead bytes o s
    before h first true is = sound h first _ is
    before h first false is = absurd (cc)

    of : (first : Option Header) → first_of SEEK_HEAD o.others ≡ first → option_and_then (if_sound bytes) (option_and_then (before_clusters o.cluster) first) ≡ Some s → IsHead bytes o s
    of None none is = absurd (cc)
    of (Some h) first is = before h first _ is

-- ---- content that stays

module _ (bytes : List ℕ) (are_octets : AreOctets bytes) (short : length bytes ≤ LONGEST_FILE) (o : FileOutline) (ws : List Write) (op : IsOpened bytes o) (undamaged : o.damage ≡ None)
    (order : InOrder (length bytes) 0 ws) (outside_all : All IsOutside (segment_run bytes o.segment).list) (ids : List ℕ) (ps : List Part) (s : SeekHeadAt)
    (planned : IsPlanned o ids ps ws s (others_of (segment_run bytes o.segment).list)) (items : List Item) (are : All (IsItem (others_of (segment_run bytes o.segment).list)) items) (distinct : AreDistinct items)
    (other : All (λ (i : Item). (i.element.id == SEEK_HEAD) ≡ false) items) (writes_are : part_writes ps ≡ writes_of (others_of (segment_run bytes o.segment).list) items) where
  abbrev list : List Header
  list = (segment_run bytes o.segment).list

  abbrev others : List Header
  others = others_of list

  abbrev seeks : Element
  seeks = seek_head ids o ps (Some s)

  abbrev space : ℕ
  space = span_of s.header others

  abbrev pub head_item : Item
  head_item = record { header = s.header; element = seeks }

  small : length_moving o ps seeks space ≤ MAX_WRITTEN
  small = large-none (length_moving o ps seeks space) ps planned.large

  seeks-few : length (octets_of seeks) ≤ 2 ^ 24
  seeks-few = let most = small in let long = fitted-long seeks space (octets_of seeks) planned.reaches in omega arith

  all-are : All (IsItem others) (head_item ∷ items)
  all-are = All-cons (IsItem others) head_item items (small-item others SEEK_HEAD seeks.body s.header names.seek_head seek_head-valid planned.head seeks-few) are

  head-write : write s.header.offset (unwrap_or (fitted seeks space) []) ≡ write_of others head_item
  head-write =
      ap (write s.header.offset)
      (fitted-same seeks space [] (void_header space) planned.reaches
      (item-some o.segment.body (segment_run bytes o.segment).end others (stand bytes are_octets short o ws op undamaged order outside_all) head_item (All-head (IsItem others) head_item items all-are)))

  middle-is : ascending (write s.header.offset (unwrap_or (fitted seeks space) []) ∷ part_writes ps) ≡ ascending (writes_of others (head_item ∷ items))
  middle-is = ap₂ (λ w vs. ascending (w ∷ vs)) head-write writes_are

  -- Nothing follows the old end.
  pub rest-beside : list_any moves ps ≡ false → HoldsRest bytes (applied bytes ws) o list (head_item ∷ items) []
  rest-beside still =
      rest-stays bytes are_octets short o ws op undamaged order outside_all (head_item ∷ items) all-are (other, distinct)
      (sym middle-is
      ∙ sym (ap (λ (b : Bool). if b then size_writes o.segment (new_end o ps) ++ ascending (write s.header.offset (unwrap_or (fitted seeks space) []) ∷ part_writes ps) ++ write o.total (appended ps) ∷ []
      else ascending (write s.header.offset (unwrap_or (fitted seeks space) []) ∷ part_writes ps)) still)
      ∙ planned.writes)

  -- The moved Elements follow the old end.
  module _ (any : list_any moves ps ≡ true) (first : Element) (more : List Element) (moved : elements_moving ps ≡ first ∷ more)
      (elements : All IsElement (first ∷ more)) (names : All (λ (d : Element). IsName d.id) (first ∷ more)) where
    appended-is : appended ps ≡ joined (first ∷ more)
    appended-is = ap joined moved

    end-is : new_end o ps ≡ length bytes + length (joined (first ∷ more))
    end-is = ap₂ (λ m n. m + n) op.total (ap (λ (l : List ℕ). length l) appended-is)

    added-few : length (joined (first ∷ more)) ≤ 2 ^ 24
    added-few = (let most = small in let same : length (appended ps) ≡ length (joined (first ∷ more)) = ap (λ (l : List ℕ). length l) appended-is in omega arith)

    pub rest-behind : HoldsRest bytes (applied bytes ws) o list (head_item ∷ items) (first ∷ more)
    rest-behind =
        rest-moves bytes are_octets short o ws op undamaged order outside_all (head_item ∷ items) all-are (other, distinct) (can-grow o (planned.tail any)) first more elements names added-few
        (subst (λ n. size_refusal o.segment n ≡ None) end-is (planned.size any))
        (ap (λ n. size_writes o.segment n ++ ascending (writes_of others (head_item ∷ items)) ++ write (length bytes) (joined (first ∷ more)) ∷ []) (sym end-is)
        ∙ ap₂ (λ n l. size_writes o.segment (new_end o ps) ++ ascending (writes_of others (head_item ∷ items)) ++ write n l ∷ []) (sym op.total) (sym appended-is)
        ∙ ap (λ ms. size_writes o.segment (new_end o ps) ++ ms ++ write o.total (appended ps) ∷ []) (sym middle-is)
        ∙ if-true (list_any moves ps) _ _ ws any planned.writes)
