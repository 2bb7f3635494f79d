-- Chapters with identifiers are settled.
use Rattle.std.proofs.Common.{◌≡◌, ◌<◌, ℕ, zero, suc, ◌+◌, ◌^◌, ◌==◌, List, [], ◌∷◌, length, map, flat_map, sym, ap, ap₂, ◌∙◌, arith, inl, inr, eqb-true, All, slice_index}
use Rattle.std.proofs.lemmas.List.{length-map}
use Rattle.std.proofs.lemmas.List.Elements.{All-cons, All-head, All-nil, All-tail}
use Rattle.std.proofs.lemmas.Bool.{cases_Bool}
use Rattle.mkv_schema.specs.declared.ids.TheConstants.{CHAPTER_UID, EDITION_ENTRY, EDITION_UID}
use Rattle.tree_format.specs.Node.{IsMaster, Node, Nodes, leaf, master, nodes_of, list_of, id_of}
use Rattle.tree_format.specs.NormalForm.{header_octets, kept_octets, octets, octets_all}
use Rattle.tree_format.specs.Changes.{part}
use Rattle.tree_format.specs.Standing.{placed}
use Rattle.tree_format.proofs.NodeLemmas.{octets_all-flat}
use Rattle.record_laws.specs.Again.{read_of}
use Rattle.record_changes.specs.Identifiers.{renumbered}
use Rattle.record_changes.proofs.GivenLemmas.{numbers-settle}
use Rattle.record_changes.specs.Atoms.{atoms_inside, atoms_of, chapter_uids, edition_uids, editions_of, value_in}
use Rattle.record_changes.specs.ChapterIdentifiers.{numbered_editions, with_identifiers}
use Rattle.record_laws.specs.Chapters.{AreChapters, ChaptersStay, chapter_numbers, edition_numbers, settled}
use Rattle.record_laws.proofs.EditionLemmas.{IsEdition, editions-again, editions-inner, editions-own, editions-part}
use Rattle.record_laws.proofs.NumberLemmas.{numbers-all, numbers_at}

-- If each number is small, the one at any place is.
pub small-at : (ns : List ℕ) → All (λ n. n < 2 ^ 64) ns → (k : ℕ) → slice_index ns k < 2 ^ 64
small-at [] small k = omega arith
small-at (n ∷ ns) small zero = All-head (λ m. m < 2 ^ 64) n ns small
small-at (n ∷ ns) small (suc k) = small-at ns (All-tail (λ m. m < 2 ^ 64) n ns small) k

-- The editions among some Elements, if they are masters.
editions-are : (ns : List Node) → All IsMaster (part EDITION_ENTRY ns) → All IsEdition (part EDITION_ENTRY ns)
editions-are [] masters = All-nil IsEdition
editions-are (n ∷ ns) masters = elim (cases_Bool (id_of n == EDITION_ENTRY)) [
  | inl is ↦
      let all : All IsMaster (n ∷ part EDITION_ENTRY ns) = rw is at masters in
      rw is (All-cons IsEdition n (part EDITION_ENTRY ns) (record { id = eqb-true (id_of n) EDITION_ENTRY is; master = All-head IsMaster n (part EDITION_ENTRY ns) all })
      (editions-are ns (All-tail IsMaster n (part EDITION_ENTRY ns) all)))
  | inr is ↦ rw is (editions-are ns (rw is at masters))
]

-- ---- one Chapters

-- its editions with identifiers
abbrev list_in : Node → List Node
list_in chapters = numbered_editions (edition_numbers chapters) (chapter_numbers chapters) 0 0 (editions_of chapters)

-- the place of its editions if the Element is at a place
abbrev inside_of : ℕ → ℕ → Node → ℕ
inside_of id place chapters = place + length (header_octets id (length (octets_all (nodes_of (list_in chapters)))))

-- There is a number for each.
all-numbers : (f : Node → ℕ) (ns : List Node) → numbers_at (renumbered (map f ns)) 0 (length ns) ≡ renumbered (map f ns)
all-numbers f ns = ap (numbers_at (renumbered (map f ns)) 0) (sym (numbers-settle.each (map f ns) ∙ length-map ns f)) ∙ numbers-all (renumbered (map f ns))

module _ (id at place : ℕ) (kids : Nodes) (are : AreChapters (master id at kids)) where
  editions-read : editions_of (placed place (settled (master id at kids))) ≡ read_of (inside_of id place (master id at kids)) (list_in (master id at kids))
  editions-read =
      let c : Node = master id at kids in
      editions-part (chapter_numbers c) (small-at (chapter_numbers c) are.chapter_numbers) (edition_numbers c) (small-at (edition_numbers c) are.edition_numbers) 0 0 (inside_of id place c) (editions_of c) (editions-are (list_of kids) are.editions)

  editions-keep : edition_uids (placed place (settled (master id at kids))) ≡ edition_numbers (master id at kids)
  editions-keep =
      let c : Node = master id at kids in
      ap (map (value_in EDITION_UID)) editions-read
      ∙ editions-own (chapter_numbers c) (small-at (chapter_numbers c) are.chapter_numbers) (edition_numbers c) (small-at (edition_numbers c) are.edition_numbers) 0 0 (inside_of id place c) (editions_of c) (editions-are (list_of kids) are.editions)
      ∙ all-numbers (value_in EDITION_UID) (editions_of c)

  chapters-keep : chapter_uids (placed place (settled (master id at kids))) ≡ chapter_numbers (master id at kids)
  chapters-keep =
      let c : Node = master id at kids in
      ap (λ (es : List Node). map (value_in CHAPTER_UID) (flat_map atoms_inside es)) editions-read
      ∙ editions-inner (chapter_numbers c) (small-at (chapter_numbers c) are.chapter_numbers) (edition_numbers c) (small-at (edition_numbers c) are.edition_numbers) 0 0 (inside_of id place c) (editions_of c) (editions-are (list_of kids) are.editions)
      ∙ all-numbers (value_in CHAPTER_UID) (atoms_of c)

  -- Renumbering again changes none.
  editions-still : edition_numbers (placed place (settled (master id at kids))) ≡ edition_numbers (master id at kids)
  editions-still = ap renumbered editions-keep ∙ numbers-settle.stays (edition_numbers (master id at kids)) (numbers-settle.settled (edition_uids (master id at kids)))

  chapters-still : chapter_numbers (placed place (settled (master id at kids))) ≡ chapter_numbers (master id at kids)
  chapters-still = ap renumbered chapters-keep ∙ numbers-settle.stays (chapter_numbers (master id at kids)) (numbers-settle.settled (chapter_uids (master id at kids)))

  same-again : octets (settled (placed place (settled (master id at kids)))) ≡ octets (settled (master id at kids))
  same-again =
      let c : Node = master id at kids in
      let own : List ℕ = edition_numbers c in
      let uids : List ℕ = chapter_numbers c in
      let read : List Node = read_of (inside_of id place c) (list_in c) in
      let there : Node = placed place (settled c) in
      ap₂ (λ (a b : List ℕ). octets (with_identifiers a b there)) editions-still chapters-still
      ∙ ap (λ (es : List Node). kept_octets id (octets_all (nodes_of (numbered_editions own uids 0 0 es)))) editions-read
      ∙ ap (kept_octets id)
      (octets_all-flat (numbered_editions own uids 0 0 read)
      ∙ editions-again uids (small-at uids are.chapter_numbers) own (small-at own are.edition_numbers) 0 0 (inside_of id place c) (editions_of c) (editions-are (list_of kids) are.editions)
      ∙ sym (octets_all-flat (list_in c)))

-- Chapters with identifiers keep them, and stay.
pub chapters-stay : ChaptersStay
chapters-stay = record {
  editions = λ chapters place are. (all chapters place are).0;
  chapters = λ chapters place are. (all chapters place are).1;
  same = λ chapters place are. (all chapters place are).2;
}
  where
    all : (chapters : Node) (place : ℕ) → AreChapters chapters
        → (edition_uids (placed place (settled chapters)) ≡ edition_numbers chapters) × (chapter_uids (placed place (settled chapters)) ≡ chapter_numbers chapters)
        × (octets (settled (placed place (settled chapters))) ≡ octets (settled chapters))
    all (leaf id at body) place are = absurd (let never = are.master in cc)
    all (master id at kids) place are = (editions-keep id at place kids are, chapters-keep id at place kids are, same-again id at place kids are)
