-- Chapters and Tags that are changed stay valid.
use Rattle.std.proofs.Common.{◌≡◌, ℕ, ◌+◌, ◌<◌, ◌≤◌, ◌^◌, ◌==◌, Bool, true, ◌&&◌, List, [], ◌∷◌, ◌++◌, length, map, filter, flat_map, All, IfSome, Option, None, Some, refl, sym, ap, ◌∙◌, subst, arith, eqb-true, slice_index, inl, inr}
use Rattle.std.proofs.lemmas.List.Elements.{All-head, All-tail, filter_passes}
use Rattle.std.proofs.lemmas.Bool.{cases_Bool}
use Rattle.mkv_schema.specs.declared.ids.TheConstants.{CHAPTERS, CHAPTER_ATOM, CHAPTER_UID, EDITION_ENTRY, EDITION_UID, TAG, TARGETS}
use Rattle.tree_format.specs.Node.{Node, Nodes, leaf, master, none, node, nodes_of, list_of, id_of, children, depth, depth_all, IsMaster}
use Rattle.tree_format.specs.Changes.{with_child, part}
use Rattle.tree_format.specs.Children.{uint_leaf, given}
use Rattle.tree_format.specs.Standing.{StandsIn, AllStandIn}
use Rattle.tree_format.specs.Values.{integer_of}
use Rattle.tree_format.specs.NormalForm.{kept_octets, octets, octets_all}
use Rattle.tree_format.proofs.NodeLemmas.{list-nodes, nodes-list, depth_all-append}
use Rattle.tree_format.proofs.ChangeLemmas.{deep-with_child}
use Rattle.tree_format.proofs.StandingLemmas.{sound-set}
use Rattle.ebml_tree.specs.Leaves.{IsUintIn}
use Rattle.ebml_tree.proofs.LeafLemmas.{uint-stands}
use Rattle.record_changes.specs.Atoms.{atoms_at, atoms_inside, editions_of, value_in}
use Rattle.record_changes.specs.ChapterIdentifiers.{numbered, numbered_among, numbered_edition, numbered_editions, with_identifiers}
use Rattle.record_changes.specs.Tags.{aims_in, are_kept, is_target, number_of, written_child, written_part, written_tag, written_target}
use Rattle.record_changes.specs.declared.uid_map.TagKeep.{TagKeep}
use Rattle.record_changes.proofs.ChapterFacts.{chapter_uid, edition_uid}
use Rattle.record_changes.proofs.TargetLemmas.{target-id, target-is}
use Rattle.remerge_laws.specs.Changed.{ChaptersStand, ChildrenDecide, TagsStand}
use Rattle.record_laws.proofs.SettledLemmas.{small-at}

-- ---- lists of valid Elements

abbrev Stand : ℕ → List Node → Type 0
Stand parent ns = AllStandIn parent (nodes_of ns)

stand-append : (parent : ℕ) (ms ns : List Node) → Stand parent ms → Stand parent ns → Stand parent (ms ++ ns)
stand-append parent [] ns front behind = behind
stand-append parent (m ∷ ms) ns front behind = (front.0, stand-append parent ms ns front.1 behind)

stand-filter : (parent : ℕ) (p : Node → Bool) (ns : List Node) → Stand parent ns → Stand parent (filter p ns)
stand-filter parent p [] stand = tt
stand-filter parent p (n ∷ ns) stand =
    let rest = stand-filter parent p ns stand.1 in
    elim (cases_Bool (p n)) [ inl is ↦ rw is (stand.0, rest) | inr is ↦ rw is rest ]

deep-filter : (p : Node → Bool) (ns : List Node) → depth_all (nodes_of (filter p ns)) ≤ depth_all (nodes_of ns)
deep-filter p [] = omega arith
deep-filter p (n ∷ ns) =
    let rest = deep-filter p ns in
    elim (cases_Bool (p n)) [ inl is ↦ rw is (omega arith) | inr is ↦ rw is (omega arith) ]

stand-list : (parent : ℕ) (kids : Nodes) → AllStandIn parent kids → Stand parent (list_of kids)
stand-list parent kids stand = subst (AllStandIn parent) (sym (nodes-list kids)) stand

-- ---- a number that is set in a master

set-stands : (own at id value : ℕ) (ns : List Node) → IsUintIn own id → value < 2 ^ 64 → Stand own ns → Stand own (with_child (uint_leaf id value) (children (master own at (nodes_of ns))))
set-stands own at id value ns known small stand = sound-set (master own at (nodes_of ns)) (uint_leaf id value) refl stand (uint-stands own id value known small)

set-shallow : (id value : ℕ) (kids : Nodes) → depth_all (nodes_of (with_child (uint_leaf id value) (list_of kids))) ≤ depth_all kids
set-shallow id value kids =
    let same : depth_all (nodes_of (list_of kids)) ≡ depth_all kids = ap depth_all (nodes-list kids) in
    omega (arith, deep-with_child (uint_leaf id value) (list_of kids))

-- ---- atoms

module _ (uids : List ℕ) (small : All (λ n. n < 2 ^ 64) uids) where
  mutual
    atom-stands : (parent k : ℕ) (n : Node) → StandsIn parent n → StandsIn parent (numbered uids k n)
    atom-stands parent k (leaf id at body) stands = stands
    atom-stands parent k (master id at kids) stands =
        let inner = atoms-stand id (k + 1) kids stands.1 in
        elim (cases_Bool (id == CHAPTER_ATOM)) [
          | inl is ↦
              rw is
              (stands.0, set-stands id at CHAPTER_UID (slice_index uids k) (numbered_among uids (k + 1) kids) (subst (λ (i : ℕ). IsUintIn i CHAPTER_UID) (sym (eqb-true id CHAPTER_ATOM is)) chapter_uid) (small-at uids small k) inner)
          | inr is ↦ rw is stands
        ]

    atoms-stand : (parent k : ℕ) (ns : Nodes) → AllStandIn parent ns → Stand parent (numbered_among uids k ns)
    atoms-stand parent k none stand = tt
    atoms-stand parent k (node n ns) stand = (atom-stands parent k n stand.0, atoms-stand parent (k + length (atoms_at n)) ns stand.1)

  mutual
    atom-shallow : (k : ℕ) (n : Node) → depth (numbered uids k n) ≤ depth n
    atom-shallow k (leaf id at body) = omega arith
    atom-shallow k (master id at kids) =
        let inner = atoms-shallow (k + 1) kids in
        elim (cases_Bool (id == CHAPTER_ATOM)) [
          | inl is ↦ rw is (omega (arith, set-shallow CHAPTER_UID (slice_index uids k) (nodes_of (numbered_among uids (k + 1) kids))))
          | inr is ↦ rw is (omega arith)
        ]

    atoms-shallow : (k : ℕ) (ns : Nodes) → depth_all (nodes_of (numbered_among uids k ns)) ≤ depth_all ns
    atoms-shallow k none = omega arith
    atoms-shallow k (node n ns) =
        let one = atom-shallow k n in
        let rest = atoms-shallow (k + length (atoms_at n)) ns in
        omega arith

  -- ---- editions

  edition-stands : (uid k : ℕ) (n : Node) → uid < 2 ^ 64 → (id_of n == EDITION_ENTRY) ≡ true → StandsIn CHAPTERS n → StandsIn CHAPTERS (numbered_edition uid uids k n)
  edition-stands uid k (leaf id at body) fits is stands = stands
  edition-stands uid k (master id at kids) fits is stands =
      let inner : Stand id (numbered_among uids k (nodes_of (list_of kids))) = atoms-stand id k (nodes_of (list_of kids)) (stand-list id kids stands.1) in
      (stands.0, set-stands id at EDITION_UID uid (numbered_among uids k (nodes_of (list_of kids))) (subst (λ (i : ℕ). IsUintIn i EDITION_UID) (sym (eqb-true id EDITION_ENTRY is)) edition_uid) fits inner)

  edition-shallow : (uid k : ℕ) (n : Node) → depth (numbered_edition uid uids k n) ≤ depth n
  edition-shallow uid k (leaf id at body) = omega arith
  edition-shallow uid k (master id at kids) =
      let same : depth_all (nodes_of (list_of kids)) ≡ depth_all kids = ap depth_all (nodes-list kids) in
      omega (arith, set-shallow EDITION_UID uid (nodes_of (numbered_among uids k (nodes_of (list_of kids)))), atoms-shallow k (nodes_of (list_of kids)))

  module _ (editions : List ℕ) (fit : All (λ n. n < 2 ^ 64) editions) where
    editions-stand : (j k : ℕ) (ns : List Node) → All (λ (n : Node). (id_of n == EDITION_ENTRY) ≡ true) ns → Stand CHAPTERS ns → Stand CHAPTERS (numbered_editions editions uids j k ns)
    editions-stand j k [] are stand = tt
    editions-stand j k (n ∷ ns) are stand = (
      edition-stands (slice_index editions j) k n (small-at editions fit j) (All-head (λ (m : Node). (id_of m == EDITION_ENTRY) ≡ true) n ns are) stand.0,
      editions-stand (j + 1) (k + length (atoms_inside n)) ns (All-tail (λ (m : Node). (id_of m == EDITION_ENTRY) ≡ true) n ns are) stand.1,
    )

    editions-shallow : (j k : ℕ) (ns : List Node) → depth_all (nodes_of (numbered_editions editions uids j k ns)) ≤ depth_all (nodes_of ns)
    editions-shallow j k [] = omega arith
    editions-shallow j k (n ∷ ns) =
        let one = edition-shallow (slice_index editions j) k n in
        let rest = editions-shallow (j + 1) (k + length (atoms_inside n)) ns in
        omega arith

pub chapters-stand : ChaptersStand
chapters-stand editions uids (leaf id at body) is own sound fit small = absurd (cc)
chapters-stand editions uids (master id at kids) is own sound fit small =
    let ns : List Node = editions_of (master id at kids) in
    let stand : Stand CHAPTERS (list_of kids) = stand-list CHAPTERS kids (subst (λ (i : ℕ). AllStandIn i kids) own sound) in
    let inner : Stand CHAPTERS (numbered_editions editions uids 0 0 ns) =
    editions-stand uids small editions fit 0 0 ns (filter_passes (λ n. id_of n == EDITION_ENTRY) (list_of kids)) (stand-filter CHAPTERS (λ n. id_of n == EDITION_ENTRY) (list_of kids) stand) in
    let same : depth_all (nodes_of (list_of kids)) ≡ depth_all kids = ap depth_all (nodes-list kids) in
    record {
      id = refl;
      master = refl;
      sound = subst (λ (i : ℕ). AllStandIn i (nodes_of (numbered_editions editions uids 0 0 ns))) (sym own) inner;
      shallow = omega (arith, editions-shallow uids small editions fit 0 0 ns, deep-filter (λ n. id_of n == EDITION_ENTRY) (list_of kids));
    }

-- ---- Tags

module _ (numbers : ℕ → ℕ → Option ℕ) (small : (id uid : ℕ) → IfSome (numbers id uid) (λ n. n < 2 ^ 64)) where
  -- A target with its number, or nothing.
  target-stands : (n : Node) → StandsIn TARGETS n → Stand TARGETS (written_target numbers n)
  target-stands n stands = elim (cases_Bool (is_target n)) [
    | inl is ↦ rw is (made (number_of numbers n) (target-id (id_of n) (target-is n is)) (small (id_of n) (integer_of n)))
    | inr is ↦ rw is (stands, tt)
  ]
    where
      made : (o : Option ℕ) → IsUintIn TARGETS (id_of n) → IfSome o (λ m. m < 2 ^ 64) → Stand TARGETS (given (uint_leaf (id_of n)) o)
      made None known fits = tt
      made (Some m) known fits = (uint-stands TARGETS (id_of n) m known fits, tt)

  target-shallow : (n : Node) → depth_all (nodes_of (written_target numbers n)) ≤ depth n
  target-shallow n = elim (cases_Bool (is_target n)) [ inl is ↦ rw is (made (number_of numbers n)) | inr is ↦ rw is (omega arith) ]
    where
      made : (o : Option ℕ) → depth_all (nodes_of (given (uint_leaf (id_of n)) o)) ≤ depth n
      made None = omega arith
      made (Some m) = omega arith

  targets-stand : (ns : List Node) → Stand TARGETS ns → Stand TARGETS (flat_map (written_target numbers) ns)
  targets-stand [] stand = tt
  targets-stand (n ∷ ns) stand = stand-append TARGETS (written_target numbers n) (flat_map (written_target numbers) ns) (target-stands n stand.0) (targets-stand ns stand.1)

  targets-shallow : (ns : List Node) → depth_all (nodes_of (flat_map (written_target numbers) ns)) ≤ depth_all (nodes_of ns)
  targets-shallow [] = omega arith
  targets-shallow (n ∷ ns) =
      let rest = targets-shallow ns in
      omega (arith, target-shallow n, depth_all-append (written_target numbers n) (flat_map (written_target numbers) ns))

  -- A child of a Tag.
  part-stands : (parent : ℕ) (n : Node) → StandsIn parent n → StandsIn parent (written_part numbers n)
  part-stands parent (leaf id at body) stands = elim (cases_Bool (id == TARGETS)) [ inl is ↦ rw is stands | inr is ↦ rw is stands ]
  part-stands parent (master id at kids) stands = elim (cases_Bool (id == TARGETS)) [
    | inl is ↦
        let own : id ≡ TARGETS = eqb-true id TARGETS is in
        let inner : Stand TARGETS (flat_map (written_target numbers) (list_of kids)) = targets-stand (list_of kids) (stand-list TARGETS kids (subst (λ (i : ℕ). AllStandIn i kids) own stands.1)) in
        rw is (stands.0, subst (λ (i : ℕ). AllStandIn i (nodes_of (flat_map (written_target numbers) (list_of kids)))) (sym own) inner)
    | inr is ↦ rw is stands
  ]

  part-shallow : (n : Node) → depth (written_part numbers n) ≤ depth n
  part-shallow (leaf id at body) = elim (cases_Bool (id == TARGETS)) [ inl is ↦ rw is (omega arith) | inr is ↦ rw is (omega arith) ]
  part-shallow (master id at kids) =
      let same : depth_all (nodes_of (list_of kids)) ≡ depth_all kids = ap depth_all (nodes-list kids) in
      elim (cases_Bool (id == TARGETS)) [ inl is ↦ rw is (omega (arith, targets-shallow (list_of kids))) | inr is ↦ rw is (omega arith) ]

  parts-stand : (parent : ℕ) (ns : List Node) → Stand parent ns → Stand parent (map (written_part numbers) ns)
  parts-stand parent [] stand = tt
  parts-stand parent (n ∷ ns) stand = (part-stands parent n stand.0, parts-stand parent ns stand.1)

  parts-shallow : (ns : List Node) → depth_all (nodes_of (map (written_part numbers) ns)) ≤ depth_all (nodes_of ns)
  parts-shallow [] = omega arith
  parts-shallow (n ∷ ns) = let rest = parts-shallow ns in omega (arith, part-shallow n)

  -- A Tag.
  tag-stands : (parent : ℕ) (n : Node) → StandsIn parent n → StandsIn parent (written_tag numbers n)
  tag-stands parent (leaf id at body) stands = stands
  tag-stands parent (master id at kids) stands = (stands.0, parts-stand id (list_of kids) (stand-list id kids stands.1))

  tag-shallow : (n : Node) → depth (written_tag numbers n) ≤ depth n
  tag-shallow (leaf id at body) = omega arith
  tag-shallow (master id at kids) =
      let same : depth_all (nodes_of (list_of kids)) ≡ depth_all kids = ap depth_all (nodes-list kids) in
      omega (arith, parts-shallow (list_of kids))

  child-stands : (keep : TagKeep) (parent : ℕ) (n : Node) → StandsIn parent n → Stand parent (written_child keep numbers n)
  child-stands keep parent n stands =
      elim (cases_Bool (id_of n == TAG && are_kept keep (aims_in numbers n))) [ inl is ↦ rw is (tag-stands parent n stands, tt) | inr is ↦ rw is tt ]

  child-shallow : (keep : TagKeep) (n : Node) → depth_all (nodes_of (written_child keep numbers n)) ≤ depth n
  child-shallow keep n =
      elim (cases_Bool (id_of n == TAG && are_kept keep (aims_in numbers n))) [ inl is ↦ rw is (omega (arith, tag-shallow n)) | inr is ↦ rw is (omega arith) ]

  children-stand : (keep : TagKeep) (parent : ℕ) (ns : List Node) → Stand parent ns → Stand parent (flat_map (written_child keep numbers) ns)
  children-stand keep parent [] stand = tt
  children-stand keep parent (n ∷ ns) stand =
      stand-append parent (written_child keep numbers n) (flat_map (written_child keep numbers) ns) (child-stands keep parent n stand.0) (children-stand keep parent ns stand.1)

  children-shallow : (keep : TagKeep) (ns : List Node) → depth_all (nodes_of (flat_map (written_child keep numbers) ns)) ≤ depth_all (nodes_of ns)
  children-shallow keep [] = omega arith
  children-shallow keep (n ∷ ns) =
      let rest = children-shallow keep ns in
      omega (arith, child-shallow keep n, depth_all-append (written_child keep numbers n) (flat_map (written_child keep numbers) ns))

pub tags-stand : TagsStand
tags-stand keep numbers (leaf id at body) is own sound small = absurd (cc)
tags-stand keep numbers (master id at kids) is own sound small =
    let same : depth_all (nodes_of (list_of kids)) ≡ depth_all kids = ap depth_all (nodes-list kids) in
    record {
      id = refl;
      master = refl;
      sound = children-stand numbers small keep id (list_of kids) (stand-list id kids sound);
      shallow = omega (arith, children-shallow numbers small keep (list_of kids));
    }

-- ---- new Chapters

pub children-decide : ChildrenDecide
children-decide = record {
  editions = λ chapters. ap (λ (ns : List Node). map (value_in EDITION_UID) (part EDITION_ENTRY ns)) (list-nodes (children chapters));
  chapters = λ chapters. ap (λ (ns : List Node). map (value_in CHAPTER_UID) (flat_map atoms_inside (part EDITION_ENTRY ns))) (list-nodes (children chapters));
  same = λ editions uids chapters is own. same editions uids chapters is own;
}
  where
    same : (editions uids : List ℕ) (chapters : Node) → IsMaster chapters → id_of chapters ≡ CHAPTERS
        → octets (with_identifiers editions uids (master CHAPTERS 0 (nodes_of (children chapters)))) ≡ octets (with_identifiers editions uids chapters)
    same editions uids (leaf id at body) is own = absurd (cc)
    same editions uids (master id at kids) is own =
        ap (λ (ns : List Node). kept_octets CHAPTERS (octets_all (nodes_of (numbered_editions editions uids 0 0 (part EDITION_ENTRY ns))))) (list-nodes (list_of kids))
        ∙ ap (λ (i : ℕ). kept_octets i (octets_all (nodes_of (numbered_editions editions uids 0 0 (part EDITION_ENTRY (list_of kids)))))) (sym own)
