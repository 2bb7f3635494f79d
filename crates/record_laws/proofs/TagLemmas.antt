-- Tags whose targets keep their identifiers are written as they were.
use Rattle.std.proofs.Common.{◌≡◌, ◌<◌, ℕ, ◌+◌, ◌^◌, ◌==◌, Bool, true, false, not, if◌then◌else◌, List, [], ◌∷◌, ◌++◌, length, map, filter, flat_map, Option, None, Some, IfSome, refl, sym, ap, ap₂, subst, ◌∙◌, append-nil, inl, inr, eqb-true, ◌&&◌, ◌||◌, is_some, All, slice_index_or}
use Rattle.std.specs.List.{list_any}
use Rattle.std.proofs.lemmas.List.Concat.{flat_map-append, flat_map_single}
use Rattle.std.proofs.lemmas.List.Elements.{All-append, All-cons, All-head, All-nil, All-tail, All-map}
use Rattle.std.proofs.lemmas.Bool.{and_parts, cases_Bool}
use Rattle.ebml_numbers.specs.Number.{uint_octets}
use Rattle.mkv_schema.specs.declared.ids.TheConstants.{TAG, TARGETS, TAG_TRACK_UID}
use Rattle.tree_format.specs.Node.{Node, Nodes, leaf, master, nodes_of, list_of, id_of, children}
use Rattle.tree_format.specs.NormalForm.{is_filler, header_octets, kept_octets, octets, octets_all}
use Rattle.tree_format.specs.Standing.{placed, placed_all}
use Rattle.tree_format.specs.Values.{integer_of}
use Rattle.tree_format.proofs.NodeLemmas.{list-nodes, nodes-list, octets_all-flat}
use Rattle.tree_format.proofs.ValueLemmas.{uint_value-octets}
use Rattle.tree_format.specs.Children.{given, uint_leaf}
use Rattle.record_laws.specs.Again.{read_of}
use Rattle.record_laws.proofs.SameLemmas.{placed-id, placed-octets, integer-placed}
use Rattle.record_changes.specs.Tags.{aims_in, tag_targets_of, are_kept, is_target, number_of, targets_in, written_child, written_part, written_tag, written_target}
use Rattle.record_changes.specs.declared.uid_map.TagKeep.{TagKeep}
use Rattle.record_laws.specs.Tags.{AreSmall, KeepsTarget, TagsStay, keep_all}
use Rattle.record_laws.proofs.StayLemmas.{octets-filler}

-- ---- Elements in sequence, each of which is written as it was

-- A fact about Elements gives a fact about them after they are read.
module _ (P : Node → Type 0) (Q : Node → Type 0) (f : Node → List Node) (so : (n : Node) (q : ℕ) → P n → Q (placed q n) → flat_map octets (f (placed q n)) ≡ octets n) where
  -- The Elements that are made from each are written as they were.
  each-again : (ns : List Node) (q : ℕ) → All P ns → All Q (read_of q ns) → flat_map octets (flat_map f (read_of q ns)) ≡ flat_map octets ns
  each-again [] q all read = refl
  each-again (n ∷ ns) q all read = elim (cases_Bool (is_filler (id_of n))) [
    | inl filler ↦ rw (filler, octets-filler n filler) (each-again ns q (All-tail P n ns all) (rw filler at read))
    | inr kept ↦
        let behind : List Node = read_of (q + length (octets n)) ns in
        let all_read : All Q (placed q n ∷ behind) = rw kept at read in
        rw kept
        (flat_map-append octets (f (placed q n)) (flat_map f behind)
        ∙ ap₂ (λ (a b : List ℕ). a ++ b) (so n q (All-head P n ns all) (All-head Q (placed q n) behind all_read))
        (each-again ns (q + length (octets n)) (All-tail P n ns all) (All-tail Q (placed q n) behind all_read)))
  ]

-- ---- a child of Targets

-- The target has the fewest bytes.
abbrev IsShort : Node → Type 0
IsShort n = is_target n ≡ true → octets (uint_leaf (id_of n) (integer_of n)) ≡ octets n

-- The target keeps its identifier.
abbrev KeepsIf : (ℕ → ℕ → Option ℕ) → Node → Type 0
KeepsIf numbers n = is_target n ≡ true → KeepsTarget numbers n

target-placed : (n : Node) (q : ℕ) → is_target (placed q n) ≡ is_target n
target-placed (leaf id at body) q = refl
target-placed (master id at kids) q = refl

-- A written target has the fewest bytes.
written-short : (numbers : ℕ → ℕ → Option ℕ) (n : Node) → AreSmall numbers → All IsShort (written_target numbers n)
written-short numbers n small = elim (cases_Bool (is_target n)) [
  | inl is ↦ rw is (made (number_of numbers n) (small (id_of n) (integer_of n)))
  | inr is ↦ rw is (All-cons IsShort n [] (λ target. absurd (let never : true ≡ false = sym target ∙ is in cc)) (All-nil IsShort))
]
  where
    made : (o : Option ℕ) → IfSome o (λ m. m < 2 ^ 64) → All IsShort (given (uint_leaf (id_of n)) o)
    made None fits = All-nil IsShort
    made (Some m) fits = All-cons IsShort (uint_leaf (id_of n) m) [] (λ target. ap (λ (k : ℕ). octets (uint_leaf (id_of n) k)) (uint_value-octets (id_of n) m (uint_octets m) fits refl)) (All-nil IsShort)

pub all-made : (P : Node → Type 0) (f : Node → List Node) (ns : List Node) → ((n : Node) → All P (f n)) → All P (flat_map f ns)
all-made P f [] so = All-nil P
all-made P f (n ∷ ns) so = All-append P (f n) (flat_map f ns) (so n) (all-made P f ns so)

target-again : (again : ℕ → ℕ → Option ℕ) (n : Node) (q : ℕ) → IsShort n → KeepsIf again (placed q n) → flat_map octets (written_target again (placed q n)) ≡ octets n
target-again again n q short keeps = elim (cases_Bool (is_target (placed q n))) [
  | inl is ↦
      rw is
      (ap (λ (o : Option ℕ). flat_map octets (given (uint_leaf (id_of (placed q n))) o)) (keeps is)
      ∙ append-nil (octets (uint_leaf (id_of (placed q n)) (integer_of (placed q n))))
      ∙ ap₂ (λ (id m : ℕ). octets (uint_leaf id m)) (placed-id n q) (integer-placed n q)
      ∙ short (sym (target-placed n q) ∙ is))
  | inr is ↦ rw is (append-nil (octets (placed q n)) ∙ placed-octets n q)
]

keeps-if : (again : ℕ → ℕ → Option ℕ) (ns : List Node) → All (KeepsTarget again) (filter is_target ns) → All (KeepsIf again) ns
keeps-if again [] keep = All-nil (KeepsIf again)
keeps-if again (n ∷ ns) keep = elim (cases_Bool (is_target n)) [
  | inl is ↦
      let all : All (KeepsTarget again) (n ∷ filter is_target ns) = rw is at keep in
      All-cons (KeepsIf again) n ns (λ target. All-head (KeepsTarget again) n (filter is_target ns) all) (keeps-if again ns (All-tail (KeepsTarget again) n (filter is_target ns) all))
  | inr is ↦ All-cons (KeepsIf again) n ns (λ target. absurd (let never : true ≡ false = sym target ∙ is in cc)) (keeps-if again ns (rw is at keep))
]

-- ---- a child of a Tag

-- The targets in the child have the fewest bytes.
abbrev IsShortPart : Node → Type 0
IsShortPart n = (id_of n == TARGETS) ≡ true → All IsShort (children n)

part-short : (numbers : ℕ → ℕ → Option ℕ) (n : Node) → AreSmall numbers → IsShortPart (written_part numbers n)
part-short numbers (leaf id at body) small = elim (cases_Bool (id == TARGETS)) [ inl is ↦ rw is (λ targets. All-nil IsShort) | inr is ↦ rw is (λ targets. All-nil IsShort) ]
part-short numbers (master id at kids) small = elim (cases_Bool (id == TARGETS)) [
  | inl is ↦
      rw is (λ targets. subst (All IsShort) (sym (list-nodes (flat_map (written_target numbers) (list_of kids)))) (all-made IsShort (written_target numbers) (list_of kids) (λ n. written-short numbers n small)))
  | inr is ↦ rw is (λ targets. absurd (let never : true ≡ false = sym targets ∙ is in cc))
]

-- The targets in the child keep their identifiers.
abbrev KeepsPart : (ℕ → ℕ → Option ℕ) → Node → Type 0
KeepsPart again n = All (KeepsTarget again) (targets_in n)

part-again : (again : ℕ → ℕ → Option ℕ) (n : Node) (q : ℕ) → IsShortPart n → KeepsPart again (placed q n) → octets (written_part again (placed q n)) ≡ octets n
part-again again (leaf id at body) q short keeps = elim (cases_Bool (id == TARGETS)) [ inl is ↦ rw is refl | inr is ↦ rw is refl ]
part-again again (master id at kids) q short keeps = elim (cases_Bool (id == TARGETS)) [
  | inl is ↦
      let there : ℕ = q + length (header_octets id (length (octets_all kids))) in
      let same : read_of there (list_of kids) ≡ list_of (placed_all there kids) = ap (λ (ks : Nodes). list_of (placed_all there ks)) (nodes-list kids) in
      let keep : All (KeepsTarget again) (filter is_target (list_of (placed_all there kids))) = rw is at keeps in
      let all : All (KeepsIf again) (read_of there (list_of kids)) = subst (All (KeepsIf again)) (sym same) (keeps-if again (list_of (placed_all there kids)) keep) in
      rw is
      (ap (λ (l : List Node). kept_octets id (octets_all (nodes_of (flat_map (written_target again) l)))) (sym same)
      ∙ ap (kept_octets id)
      (octets_all-flat (flat_map (written_target again) (read_of there (list_of kids)))
      ∙ each-again IsShort (KeepsIf again) (written_target again) (target-again again) (list_of kids) there (short is) all
      ∙ sym (octets_all-flat (list_of kids)) ∙ ap octets_all (nodes-list kids)))
  | inr is ↦ rw is (placed-octets (master id at kids) q)
]

-- ---- a Tag

-- The targets in the Tag have the fewest bytes.
record IsShortTag (n : Node) : Type 0 where
  tag : id_of n ≡ TAG
  parts : All IsShortPart (children n)

tag-short : (numbers : ℕ → ℕ → Option ℕ) (n : Node) → AreSmall numbers → id_of n ≡ TAG → IsShortTag (written_tag numbers n)
tag-short numbers (leaf id at body) small is = record { tag = is; parts = All-nil IsShortPart }
tag-short numbers (master id at kids) small is = record {
  tag = is;
  parts = subst (All IsShortPart) (sym (list-nodes (map (written_part numbers) (list_of kids)))) (All-map IsShortPart (written_part numbers) (list_of kids) (λ k d less. part-short numbers (slice_index_or (list_of kids) k d) small));
}

All-front : (P : Node → Type 0) (xs ys : List Node) → All P (xs ++ ys) → All P xs
All-front P [] ys all = All-nil P
All-front P (x ∷ xs) ys all = All-cons P x xs (All-head P x (xs ++ ys) all) (All-front P xs ys (All-tail P x (xs ++ ys) all))

All-back : (P : Node → Type 0) (xs ys : List Node) → All P (xs ++ ys) → All P ys
All-back P [] ys all = all
All-back P (x ∷ xs) ys all = All-back P xs ys (All-tail P x (xs ++ ys) all)

-- The targets in the Tag keep their identifiers.
abbrev KeepsTag : (ℕ → ℕ → Option ℕ) → Node → Type 0
KeepsTag again n = All (KeepsTarget again) (flat_map targets_in (children n))

all-flat : (P : Node → Type 0) (f : Node → List Node) (ns : List Node) → All P (flat_map f ns) → All (λ (n : Node). All P (f n)) ns
all-flat P f [] all = All-nil (λ (n : Node). All P (f n))
all-flat P f (n ∷ ns) all = All-cons (λ (m : Node). All P (f m)) n ns (All-front P (f n) (flat_map f ns) all) (all-flat P f ns (All-back P (f n) (flat_map f ns) all))

tag-again : (again : ℕ → ℕ → Option ℕ) (n : Node) (q : ℕ) → IsShortTag n → KeepsTag again (placed q n) → octets (written_tag again (placed q n)) ≡ octets n
tag-again again (leaf id at body) q short keeps = refl
tag-again again (master id at kids) q short keeps =
    let there : ℕ = q + length (header_octets id (length (octets_all kids))) in
    let same : read_of there (list_of kids) ≡ list_of (placed_all there kids) = ap (λ (ks : Nodes). list_of (placed_all there ks)) (nodes-list kids) in
    let each : All (KeepsPart again) (read_of there (list_of kids)) = subst (All (KeepsPart again)) (sym same) (all-flat (KeepsTarget again) targets_in (list_of (placed_all there kids)) keeps) in
    ap (λ (l : List Node). kept_octets id (octets_all (nodes_of (map (written_part again) l)))) (sym same)
    ∙ ap (kept_octets id)
    (octets_all-flat (map (written_part again) (read_of there (list_of kids)))
    ∙ ap (flat_map octets) (sym (flat_map_single (written_part again) (read_of there (list_of kids))))
    ∙ each-again IsShortPart (KeepsPart again) (λ (m : Node). written_part again m ∷ []) (λ m p one keep. append-nil (octets (written_part again (placed p m))) ∙ part-again again m p one keep) (list_of kids) there short.parts each
    ∙ sym (octets_all-flat (list_of kids)) ∙ ap octets_all (nodes-list kids))

-- A Tag with specific targets names an Element that is written.
aims-written : (again : ℕ → ℕ → Option ℕ) (ns : List Node) → All (KeepsTarget again) ns → (not (list_any (λ (n : Node). true) ns) || list_any (λ (n : Node). is_some (number_of again n)) ns) ≡ true
aims-written again [] all = refl
aims-written again (n ∷ ns) all = ap (λ (o : Option ℕ). is_some o || list_any (λ (m : Node). is_some (number_of again m)) ns) (All-head (KeepsTarget again) n ns all)

pub kept-all : (again : ℕ → ℕ → Option ℕ) (ns : List Node) → All (KeepsTarget again) ns → are_kept keep_all (tag_targets_of again ns) ≡ true
kept-all again ns all =
    elim (cases_Bool (list_any (λ (n : Node). id_of n == TAG_TRACK_UID) ns)) [ inl is ↦ rw is (aims-written again ns all) | inr is ↦ rw is (aims-written again ns all) ]

child-again : (again : ℕ → ℕ → Option ℕ) (n : Node) (q : ℕ) → IsShortTag n → KeepsTag again (placed q n) → flat_map octets (written_child keep_all again (placed q n)) ≡ octets n
child-again again n q short keeps =
    ap (λ (b : Bool). flat_map octets (if b then written_tag again (placed q n) ∷ [] else []))
    (ap₂ (λ (id : ℕ) (b : Bool). (id == TAG) && b) (placed-id n q ∙ short.tag) (kept-all again (flat_map targets_in (children (placed q n))) keeps))
    ∙ append-nil (octets (written_tag again (placed q n)))
    ∙ tag-again again n q short keeps

-- ---- all Tags

child-short : (keep : TagKeep) (numbers : ℕ → ℕ → Option ℕ) (n : Node) → AreSmall numbers → All IsShortTag (written_child keep numbers n)
child-short keep numbers n small = elim (cases_Bool ((id_of n == TAG) && are_kept keep (aims_in numbers n))) [
  | inl is ↦
      let same : id_of n ≡ TAG = eqb-true (id_of n) TAG (and_parts (id_of n == TAG) (are_kept keep (aims_in numbers n)) is).0 in
      rw is (All-cons IsShortTag (written_tag numbers n) [] (tag-short numbers n small same) (All-nil IsShortTag))
  | inr is ↦ rw is (All-nil IsShortTag)
]

-- Tags that were written, whose targets keep their identifiers, stay.
pub tags-stay : TagsStay
tags-stay keep numbers again (leaf id at body) place small keeps = refl
tags-stay keep numbers again (master id at kids) place small keeps =
    let list : List Node = flat_map (written_child keep numbers) (list_of kids) in
    let q : ℕ = place + length (header_octets id (length (octets_all (nodes_of list)))) in
    ap (kept_octets id)
    (octets_all-flat (flat_map (written_child keep_all again) (read_of q list))
    ∙ each-again IsShortTag (KeepsTag again) (written_child keep_all again) (child-again again) list q
    (all-made IsShortTag (written_child keep numbers) (list_of kids) (λ n. child-short keep numbers n small)) (all-flat (KeepsTarget again) (λ (tag : Node). flat_map targets_in (children tag)) (read_of q list) keeps)
    ∙ sym (octets_all-flat list))
