-- The Elements of level 1 in a content after some are rewritten.
use Rattle.std.proofs.Common.{◌≡◌, ℕ, ◌+◌, ◌==◌, Bool, true, false, if◌then◌else◌, List, [], ◌∷◌, length, map, flat_map, All, Option, Some, None, Result, Ok, refl, sym, ◌∙◌, ap, subst, arith}
use Rattle.std.specs.Option.{option_map}
use Rattle.std.proofs.lemmas.Bool.Decides.{nat_tests}
use Rattle.std.proofs.lemmas.List.Elements.{All-head, All-tail}
use Rattle.mkv_schema.specs.declared.ids.TheConstants.{ATTACHMENTS, CLUSTER}
use Rattle.mkv_io.specs.declared.damage.Damage.{Damage}
use Rattle.mkv_schema.specs.declared.element.Header.{Header}
use Rattle.mkv_schema.specs.Elements.{Run, ends_cluster}
use Rattle.mkv_schema.specs.Outline.{segment_bound, segment_run}
use Rattle.mkv_io.specs.Results.{and_then}
use Rattle.mkv_schema.specs.Value.{first_of}
use Rattle.output_model.specs.Element.{Element, HoldsAt, octets_of, joined, header_in_place, headers_in_place}
use Rattle.output_model.proofs.HeldLemmas.{held-left, held-right}
use Rattle.tree_format.specs.declared.limits.TheConstants.{MAX_NODES}
use Rattle.tree_format.specs.Node.{Node, master, nodes_of}
use Rattle.tree_format.specs.NormalForm.{octets}
use Rattle.tree_format.specs.Reading.{tree_of}
use Rattle.tree_format.specs.Standing.{placed_all}
use Rattle.block_format.specs.Elements.{Rules}
use Rattle.block_format.specs.Events.{blocks_of, damages_of, events_among, events_in_run, events_of}
use Rattle.meta_records.specs.Attached.{AttachedFile, files_at, first_attached}
use Rattle.meta_records.specs.Records.{first_tree, tree_at}
use Rattle.edit_laws.proofs.AmongLemmas.{IsAmong}
use Rattle.edit_laws.proofs.BlockLemmas.{IsHeld, shared-body}
use Rattle.edit_laws.proofs.AttachedLemmas.{data-stay, files-same}
use Rattle.edit_laws.proofs.TileLemmas.{run_of, whole}
use Rattle.edit_laws.proofs.LevelLemmas.{Spot, Edit, new_level, IsSpot, IsListed}
use Rattle.edit_laws.proofs.ResultLemmas.{blocks-stay, damages-stay, first-stays, held-stays, first-now}
use Rattle.edit_laws.specs.Laws.{attached_bytes, attached_data, normal_form}
use Rattle.edit_laws.proofs.AgainLemmas.{CanBeRead, again, again-tree}
use Rattle.edit_laws.proofs.ItemLemmas.{names}

-- The content `new` has an Element with the ID `id` and the body `body`, which is the first with its ID in `list`.
pub record IsWritten (new : List ℕ) (id : ℕ) (body : List ℕ) (list : List Header) : Type 0 where
  pub place : ℕ
  pub element : Element
  pub first : first_of id list ≡ Some (header_in_place place element)
  pub held : HoldsAt new place (octets_of element)
  pub own : element.id ≡ id
  pub spells : element.body ≡ body

-- The Element is also the first of its ID in each list with the same first Element of this ID.
pub written-first : (new : List ℕ) (id : ℕ) (body : List ℕ) (hs ns : List Header) → first_of id ns ≡ first_of id hs → IsWritten new id body hs → IsWritten new id body ns
written-first new id body hs ns same is = record { place = is.place; element = is.element; first = same ∙ is.first; held = is.held; own = is.own; spells = is.spells }

-- The first Element with an ID among Elements that are written in sequence.
pub first-written : (new : List ℕ) (id : ℕ) (body : List ℕ) (p : ℕ) (ds : List Element) → HoldsAt new p (joined ds) → All (λ (d : Element). d.id ≡ id → d.body ≡ body) ds → (g : Header) → first_of id (headers_in_place p ds) ≡ Some g → IsWritten new id body (headers_in_place p ds)
first-written new id body p [] held spells g found = absurd (cc)
first-written new id body p (d ∷ ds) held spells g found =
    of (first-written new id body (p + length (octets_of d)) ds (held-right new p (octets_of d) (joined ds) held) (All-tail (λ (d : Element). d.id ≡ id → d.body ≡ body) d ds spells) g) (d.id == id) refl found
  where
    of : (first_of id (headers_in_place (p + length (octets_of d)) ds) ≡ Some g → IsWritten new id body (headers_in_place (p + length (octets_of d)) ds)) → (test : Bool) → (d.id == id) ≡ test
        → (if test then Some (header_in_place p d) else first_of id (headers_in_place (p + length (octets_of d)) ds)) ≡ Some g → IsWritten new id body (headers_in_place p (d ∷ ds))
    of further true same is =
        let own : d.id ≡ id = grind (arith, nat_tests) in
        record {
          place = p;
          element = d;
          first = ap (λ (b : Bool). if b then Some (header_in_place p d) else first_of id (headers_in_place (p + length (octets_of d)) ds)) same;
          held = held-left new p (octets_of d) (joined ds) held;
          own = own;
          spells = All-head (λ (d : Element). d.id ≡ id → d.body ≡ body) d ds spells own;
        }
    of further false same is =
        written-first new id body (headers_in_place (p + length (octets_of d)) ds) (headers_in_place p (d ∷ ds))
        (ap (λ (b : Bool). if b then Some (header_in_place p d) else first_of id (headers_in_place (p + length (octets_of d)) ds)) same) (further is)

-- It is read as it was written.
pub written-again : (new : List ℕ) (now : Header) (list : List Header) (end : ℕ) → segment_run new now ≡ whole list end → (id : ℕ) (nodes : List Node) → CanBeRead id nodes → IsWritten new id (flat_map octets nodes) list
    → normal_form id new now ≡ Ok (Some (octets (master id 0 (nodes_of nodes))))
written-again new now list end run id nodes can is =
    ap (λ (o : Option Header). and_then (tree_at new o) (λ (n : Option Node). Ok (option_map octets n))) (ap (λ (r : Run). first_of id r.list) run ∙ is.first)
    ∙ again id nodes new is.place is.element can is.own is.spells is.held

pub tree-again : (new : List ℕ) (now : Header) (list : List Header) (end : ℕ) → segment_run new now ≡ whole list end → (id : ℕ) (nodes : List Node) → CanBeRead id nodes → (w : IsWritten new id (flat_map octets nodes) list)
    → first_tree id new now ≡ Ok (Some (master id w.place (placed_all (header_in_place w.place w.element).body (nodes_of nodes))))
tree-again new now list end run id nodes can is =
    ap (tree_at new) (ap (λ (r : Run). first_of id r.list) run ∙ is.first) ∙ again-tree id nodes new is.place is.element can is.own is.spells is.held

module _ (t : Edit) (listed : IsListed t t.list t.start) (was now : Header)
    (old_run : segment_run t.old was ≡ whole t.list t.last) (new_run : segment_run t.new now ≡ run_of (new_level t) t.start)
    (old_bound : segment_bound t.old was ≡ t.end) (new_bound : segment_bound t.new now ≡ t.now_end) where
  pub now-is : segment_run t.new now ≡ whole listed.list listed.end
  now-is = new_run ∙ listed.run

  -- ---- blocks

  pub same-blocks : (r : Rules) → events_among r t.new t.now_end t.behind None ≡ [] → All (λ (s : Spot). (s.header.id == CLUSTER) ≡ false) t.spots → blocks_of (events_of r t.new now) ≡ blocks_of (events_of r t.old was)
  unfolding events_of
  same-blocks r tail spots =
      ap (λ (x : Run). blocks_of (events_in_run r t.new (segment_bound t.new now) x)) now-is
      ∙ ap (λ e. blocks_of (events_among r t.new e listed.list None)) new_bound
      ∙ sym (blocks-stay t r tail spots t.list listed.list listed.becomes)
      ∙ sym (ap (λ (x : Run). blocks_of (events_in_run r t.old (segment_bound t.old was) x)) old_run ∙ ap (λ e. blocks_of (events_among r t.old e t.list None)) old_bound)

  pub same-undamaged : (r : Rules) → events_among r t.new t.now_end t.behind None ≡ [] → All (λ (s : Spot). (s.header.id == CLUSTER) ≡ false) t.spots → damages_of (events_of r t.old was) ≡ [] → damages_of (events_of r t.new now) ≡ []
  unfolding events_of
  same-undamaged r tail spots none =
      ap (λ (x : Run). damages_of (events_in_run r t.new (segment_bound t.new now) x)) now-is
      ∙ ap (λ e. damages_of (events_among r t.new e listed.list None)) new_bound
      ∙ damages-stay t r tail spots t.list listed.list listed.becomes
      (sym (ap (λ (x : Run). damages_of (events_in_run r t.old (segment_bound t.old was) x)) old_run ∙ ap (λ e. damages_of (events_among r t.old e t.list None)) old_bound) ∙ none)

  -- ---- Elements that aren't rewritten

  module _ (id : ℕ) (level : ends_cluster id ≡ true) (other : (id == CLUSTER) ≡ false) (spots : All (λ (s : Spot). (s.header.id == id) ≡ false) t.spots) (behind : first_of id t.behind ≡ None) where
    first-same : first_of id (segment_run t.new now).list ≡ first_of id (segment_run t.old was).list
    first-same =
        ap (λ (r : Run). first_of id r.list) now-is ∙ first-stays t id level spots behind t.list listed.list listed.becomes ∙ sym (ap (λ (r : Run). first_of id r.list) old_run)

    pub first-held : (h : Header) → first_of id (segment_run t.old was).list ≡ Some h → IsHeld t.old t.new h
    first-held h is = held-stays t id h level other spots t.list listed.list listed.becomes (sym (ap (λ (r : Run). first_of id r.list) old_run) ∙ is)

    tree-same : (first : Option Header) → first_of id (segment_run t.old was).list ≡ first → tree_at t.new first ≡ tree_at t.old first
    tree-same None is = refl
    tree-same (Some h) is =
        ap (λ (o : List ℕ). and_then (tree_of h.id h.offset o h.body MAX_NODES) (λ tree. Ok (Some tree))) (shared-body t.old t.new h (first-held h is).shared)

    pub first-tree : first_tree id t.new now ≡ first_tree id t.old was
    first-tree = ap (tree_at t.new) first-same ∙ tree-same (first_of id (segment_run t.old was).list) refl

  pub attached-same : (files : List AttachedFile) → All (λ (s : Spot). (s.header.id == ATTACHMENTS) ≡ false) t.spots → first_of ATTACHMENTS t.behind ≡ None → first_attached t.old was ≡ Ok files → first_attached t.new now ≡ Ok files
  attached-same files spots behind is =
      ap (files_at t.new) (first-same ATTACHMENTS names.attachments.level refl spots behind) ∙ of (first_of ATTACHMENTS (segment_run t.old was).list) refl is
    where
      of : (first : Option Header) → first_of ATTACHMENTS (segment_run t.old was).list ≡ first → files_at t.old first ≡ Ok files → files_at t.new first ≡ Ok files
      of None none is = is
      of (Some h) some is = files-same t.old t.new h files (first-held ATTACHMENTS names.attachments.level refl spots behind h some) is

  -- The data of attached files that were read.
  pub data-same : (files : List AttachedFile) → All (λ (s : Spot). (s.header.id == ATTACHMENTS) ≡ false) t.spots → first_of ATTACHMENTS t.behind ≡ None → first_attached t.old was ≡ Ok files → attached_data t.new now ≡ attached_data t.old was
  data-same files spots behind is =
      ap (λ (r : Result (List AttachedFile) Damage). and_then r (λ fs. Ok (map (attached_bytes t.new) fs))) (attached-same files spots behind is)
      ∙ ap (λ (ds : List (List ℕ)). Ok ds) (of (first_of ATTACHMENTS (segment_run t.old was).list) refl is)
      ∙ sym (ap (λ (r : Result (List AttachedFile) Damage). and_then r (λ fs. Ok (map (attached_bytes t.old) fs))) is)
    where
      of : (first : Option Header) → first_of ATTACHMENTS (segment_run t.old was).list ≡ first → files_at t.old first ≡ Ok files → map (attached_bytes t.new) files ≡ map (attached_bytes t.old) files
      of None none is = let same : [] ≡ files = cc in subst (λ fs. map (attached_bytes t.new) fs ≡ map (attached_bytes t.old) fs) same refl
      of (Some h) some is = data-stay t.old t.new h files (first-held ATTACHMENTS names.attachments.level refl spots behind h some) is

  -- ---- Elements that are rewritten

  module _ (s : Spot) (member : IsAmong t.spots s) (spot : IsSpot t s) (id : ℕ) (body : List ℕ) (own : s.header.id ≡ id) (level : ends_cluster id ≡ true) (single : All (λ (o : Spot). o.header ≡ s.header → o ≡ s) t.spots) (first : first_of id t.list ≡ Some s.header) where
    -- The Element is in its place.
    abbrev pub in-place : s.now.id ≡ id → s.now.body ≡ body → IsWritten t.new id body listed.list
    in-place same spells = record {
      place = s.header.offset;
      element = s.now;
      first = first-now t s member spot id own level single (same ∙ sym own) t.list listed.list listed.becomes first;
      held = held-left t.new s.header.offset (octets_of s.now) (joined s.voids) spot.held;
      own = same;
      spells = spells;
    }
