-- Editions with identifiers keep them, and are written as they were after they are read.
use Rattle.std.proofs.Common.{◌≡◌, ◌<◌, ℕ, ◌+◌, ◌^◌, ◌==◌, cond, List, [], ◌∷◌, ◌++◌, length, map, flat_map, refl, sym, ap, ap₂, ◌∙◌, length-append, All, slice_index}
use Rattle.std.proofs.lemmas.List.{length-map, map-append}
use Rattle.std.proofs.lemmas.List.Elements.{All-head, All-tail}
use Rattle.mkv_schema.specs.declared.ids.TheConstants.{CHAPTER_UID, EDITION_ENTRY, EDITION_UID}
use Rattle.tree_format.specs.Node.{IsMaster, Node, Nodes, leaf, master, nodes_of, id_of}
use Rattle.tree_format.specs.NormalForm.{is_filler, header_octets, kept_octets, octets, octets_all}
use Rattle.tree_format.specs.Changes.{part, with_child}
use Rattle.tree_format.specs.Standing.{placed, placed_all}
use Rattle.tree_format.proofs.NodeLemmas.{list-nodes, nodes-list, octets_all-flat}
use Rattle.tree_format.specs.Children.{set_in, uint_leaf}
use Rattle.record_laws.specs.Again.{read_of}
use Rattle.record_laws.proofs.SameLemmas.{placed-id, read-step}
use Rattle.record_changes.specs.Atoms.{atoms_among, atoms_inside, value_in}
use Rattle.record_changes.specs.ChapterIdentifiers.{numbered_among, numbered_edition, numbered_editions}
use Rattle.record_laws.proofs.AtomLemmas.{atoms-set, uids-placed_all, uids_among, value-placed}
use Rattle.record_laws.proofs.NumberLemmas.{numbers-join, numbers-long, numbers_at, uids-among, value-set}
use Rattle.record_laws.proofs.StayLemmas.{all-stay, master-again}

-- `n` is an edition, as a child of Chapters.
pub record IsEdition (n : Node) : Type 0 where
  pub id : id_of n ≡ EDITION_ENTRY
  pub master : IsMaster n

-- the children of an edition with identifiers
abbrev kids_of : ℕ → List ℕ → ℕ → Nodes → List Node
kids_of uid uids k kids = with_child (uint_leaf EDITION_UID uid) (numbered_among uids k kids)

edition-is : (uid : ℕ) (uids : List ℕ) (k id at : ℕ) (kids : Nodes) → numbered_edition uid uids k (master id at kids) ≡ master id at (nodes_of (kids_of uid uids k kids))
edition-is uid uids k id at kids =
    ap (λ (ks : Nodes). set_in (uint_leaf EDITION_UID uid) (master id at (nodes_of (numbered_among uids k ks)))) (nodes-list kids)
    ∙ ap (λ (l : List Node). master id at (nodes_of (with_child (uint_leaf EDITION_UID uid) l))) (list-nodes (numbered_among uids k kids))

edition-id : (uid : ℕ) (uids : List ℕ) (k : ℕ) (n : Node) → id_of (numbered_edition uid uids k n) ≡ id_of n
edition-id uid uids k (leaf id at body) = refl
edition-id uid uids k (master id at kids) = ap id_of (edition-is uid uids k id at kids)

-- the ChapterUIDs of an edition
abbrev inner : Node → List ℕ
inner n = map (value_in CHAPTER_UID) (atoms_inside n)

inner-master : (id at : ℕ) (kids : Nodes) → inner (master id at kids) ≡ uids_among kids
inner-master id at kids = ap uids_among (nodes-list kids)

count-inside : (n : Node) → length (atoms_inside n) ≡ length (inner n)
count-inside n = sym (length-map (atoms_inside n) (value_in CHAPTER_UID))

module _ (uids : List ℕ) (small : (k : ℕ) → slice_index uids k < 2 ^ 64) where
  -- ---- one edition

  edition-uid : (uid k p : ℕ) (n : Node) → IsMaster n → uid < 2 ^ 64 → value_in EDITION_UID (placed p (numbered_edition uid uids k n)) ≡ uid
  edition-uid uid k p (leaf id at body) is fits = absurd (cc)
  edition-uid uid k p (master id at kids) is fits =
      value-placed EDITION_UID (numbered_edition uid uids k (master id at kids)) p refl
      ∙ ap (value_in EDITION_UID) (edition-is uid uids k id at kids)
      ∙ value-set EDITION_UID uid at id (numbered_among uids k kids) fits

  edition-inner : (uid k p : ℕ) (n : Node) → IsMaster n → inner (placed p (numbered_edition uid uids k n)) ≡ numbers_at uids k (length (atoms_inside n))
  edition-inner uid k p (leaf id at body) is = absurd (cc)
  edition-inner uid k p (master id at kids) is =
      let all : List Node = kids_of uid uids k kids in
      let q : ℕ = p + length (header_octets id (length (octets_all (nodes_of all)))) in
      ap (λ (n : Node). inner (placed p n)) (edition-is uid uids k id at kids)
      ∙ inner-master id p (placed_all q (nodes_of all))
      ∙ uids-placed_all (nodes_of all) q
      ∙ ap (map (value_in CHAPTER_UID)) (atoms-set (uint_leaf EDITION_UID uid) (numbered_among uids k kids) refl)
      ∙ uids-among uids small kids k
      ∙ ap (λ (ks : Nodes). numbers_at uids k (length (atoms_among ks))) (sym (nodes-list kids))

  -- The number of atoms is the same.
  edition-count : (uid k p : ℕ) (n : Node) → IsMaster n → length (atoms_inside (placed p (numbered_edition uid uids k n))) ≡ length (atoms_inside n)
  edition-count uid k p n is = count-inside (placed p (numbered_edition uid uids k n)) ∙ ap length (edition-inner uid k p n is) ∙ numbers-long uids k (length (atoms_inside n))

  edition-again : (uid k p : ℕ) (n : Node) → IsMaster n → octets (numbered_edition uid uids k (placed p (numbered_edition uid uids k n))) ≡ octets (numbered_edition uid uids k n)
  edition-again uid k p (leaf id at body) is = absurd (cc)
  edition-again uid k p (master id at kids) is =
      let ns : List Node = numbered_among uids k kids in
      let all : List Node = kids_of uid uids k kids in
      let q : ℕ = p + length (header_octets id (length (octets_all (nodes_of all)))) in
      let again : List Node = kids_of uid uids k (placed_all q (nodes_of all)) in
      ap (λ (n : Node). octets (numbered_edition uid uids k (placed p n))) (edition-is uid uids k id at kids)
      ∙ ap octets (edition-is uid uids k id p (placed_all q (nodes_of all)))
      ∙ ap (kept_octets id) (octets_all-flat again ∙ master-again uids k EDITION_UID uid ns q refl refl (all-stay uids small kids k) ∙ sym (octets_all-flat all))
      ∙ sym (ap octets (edition-is uid uids k id at kids))

  -- ---- editions in sequence

  module _ (own : List ℕ) (fits : (j : ℕ) → slice_index own j < 2 ^ 64) where
    -- The first edition is read, and then the others.
    read-first : (j k p : ℕ) (e : Node) (es : List Node) → IsEdition e
        → read_of p (numbered_editions own uids j k (e ∷ es)) ≡ placed p (numbered_edition (slice_index own j) uids k e) ∷ read_of (p + length (octets (numbered_edition (slice_index own j) uids k e))) (numbered_editions own uids (j + 1) (k + length (atoms_inside e)) es)
    read-first j k p e es is =
        read-step p (numbered_edition (slice_index own j) uids k e) (numbered_editions own uids (j + 1) (k + length (atoms_inside e)) es)
        (ap is_filler (edition-id (slice_index own j) uids k e ∙ is.id))

    -- All of them are editions.
    pub editions-part : (j k p : ℕ) (es : List Node) → All IsEdition es → part EDITION_ENTRY (read_of p (numbered_editions own uids j k es)) ≡ read_of p (numbered_editions own uids j k es)
    editions-part j k p [] are = refl
    editions-part j k p (e ∷ es) are =
        let is = All-head IsEdition e es are in
        let one : Node = placed p (numbered_edition (slice_index own j) uids k e) in
        let behind : List Node = read_of (p + length (octets (numbered_edition (slice_index own j) uids k e))) (numbered_editions own uids (j + 1) (k + length (atoms_inside e)) es) in
        let id : id_of one ≡ EDITION_ENTRY = placed-id (numbered_edition (slice_index own j) uids k e) p ∙ edition-id (slice_index own j) uids k e ∙ is.id in
        ap (part EDITION_ENTRY) (read-first j k p e es is)
        ∙ ap (λ (i : ℕ). cond (i == EDITION_ENTRY) (one ∷ part EDITION_ENTRY behind) (part EDITION_ENTRY behind)) id
        ∙ ap (λ (l : List Node). one ∷ l) (editions-part (j + 1) (k + length (atoms_inside e)) (p + length (octets (numbered_edition (slice_index own j) uids k e))) es (All-tail IsEdition e es are))
        ∙ sym (read-first j k p e es is)

    -- They have the EditionUIDs that were given.
    pub editions-own : (j k p : ℕ) (es : List Node) → All IsEdition es → map (value_in EDITION_UID) (read_of p (numbered_editions own uids j k es)) ≡ numbers_at own j (length es)
    editions-own j k p [] are = refl
    editions-own j k p (e ∷ es) are =
        let is = All-head IsEdition e es are in
        ap (map (value_in EDITION_UID)) (read-first j k p e es is)
        ∙ ap₂ (λ u (us : List ℕ). u ∷ us) (edition-uid (slice_index own j) k p e is.master (fits j))
        (editions-own (j + 1) (k + length (atoms_inside e)) (p + length (octets (numbered_edition (slice_index own j) uids k e))) es (All-tail IsEdition e es are))

    -- Their atoms have the ChapterUIDs.
    pub editions-inner : (j k p : ℕ) (es : List Node) → All IsEdition es → map (value_in CHAPTER_UID) (flat_map atoms_inside (read_of p (numbered_editions own uids j k es))) ≡ numbers_at uids k (length (flat_map atoms_inside es))
    editions-inner j k p [] are = refl
    editions-inner j k p (e ∷ es) are =
        let is = All-head IsEdition e es are in
        let one : Node = placed p (numbered_edition (slice_index own j) uids k e) in
        let behind : List Node = read_of (p + length (octets (numbered_edition (slice_index own j) uids k e))) (numbered_editions own uids (j + 1) (k + length (atoms_inside e)) es) in
        ap (λ (l : List Node). map (value_in CHAPTER_UID) (flat_map atoms_inside l)) (read-first j k p e es is)
        ∙ map-append (value_in CHAPTER_UID) (atoms_inside one) (flat_map atoms_inside behind)
        ∙ ap₂ (λ (a b : List ℕ). a ++ b) (edition-inner (slice_index own j) k p e is.master)
        (editions-inner (j + 1) (k + length (atoms_inside e)) (p + length (octets (numbered_edition (slice_index own j) uids k e))) es (All-tail IsEdition e es are))
        ∙ sym (numbers-join uids k (length (atoms_inside e)) (length (flat_map atoms_inside es)))
        ∙ ap (numbers_at uids k) (sym (length-append (atoms_inside e) (flat_map atoms_inside es)))

    -- With these they are written as they were.
    pub editions-again : (j k p : ℕ) (es : List Node) → All IsEdition es → flat_map octets (numbered_editions own uids j k (read_of p (numbered_editions own uids j k es))) ≡ flat_map octets (numbered_editions own uids j k es)
    editions-again j k p [] are = refl
    editions-again j k p (e ∷ es) are =
        let is = All-head IsEdition e es are in
        let uid : ℕ = slice_index own j in
        let one : Node = placed p (numbered_edition uid uids k e) in
        let behind : List Node = read_of (p + length (octets (numbered_edition uid uids k e))) (numbered_editions own uids (j + 1) (k + length (atoms_inside e)) es) in
        ap (λ (l : List Node). flat_map octets (numbered_editions own uids j k l)) (read-first j k p e es is)
        ∙ ap (λ (m : ℕ). octets (numbered_edition uid uids k one) ++ flat_map octets (numbered_editions own uids (j + 1) (k + m) behind)) (edition-count uid k p e is.master)
        ∙ ap₂ (λ (a b : List ℕ). a ++ b) (edition-again uid k p e is.master)
        (editions-again (j + 1) (k + length (atoms_inside e)) (p + length (octets (numbered_edition uid uids k e))) es (All-tail IsEdition e es are))
