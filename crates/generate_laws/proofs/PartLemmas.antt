-- The parts of a merged list have no more blocks than the list, and facts about these.
use Rattle.std.specs.List.{All}
use Rattle.std.proofs.Common.{ℕ, ◌+◌, ◌-◌, ◌≤◌, Bool, true, false, if◌then◌else◌, List, [], ◌∷◌, length, flat_map, sym, ap, subst, length-append, arith}
use Rattle.std.proofs.lemmas.List.{get_or-append-add, get_or_append_left, length-map}
use Rattle.std.proofs.lemmas.List.Elements.{All-cons, All-head, All-map, All-nil, All-tail, All-weaker}
use Rattle.output_model.specs.OutputBlock.{OutputBlock, in_output}
use Rattle.splitter.specs.Sections.{Part, Section, Split, in_part, is_written, next_start, part_of, parts, parts_in, sections}
use Rattle.splitter.proofs.SectionLemmas.{sections-cut}

-- ---- a fact about each section holds for each part

module _ (P : Section → Type 0) (Q : Part → Type 0) (holds : (x : Section) (end : List Section) → P x → Q (part_of x (next_start end))) where
  each-part : (s : Split) (xs : List Section) → All P xs → All Q (parts_in s xs)
  each-part s [] are = All-nil Q
  each-part s (x ∷ xs) are = of (is_written s x) (each-part s xs (All-tail P x xs are))
    where
      of : (written : Bool) → All Q (parts_in s xs) → All Q (if written then part_of x (next_start xs) ∷ parts_in s xs else parts_in s xs)
      of true rest = All-cons Q (part_of x (next_start xs)) (parts_in s xs) (holds x xs (All-head P x xs are)) rest
      of false rest = rest

-- ---- the blocks

module _ (P : OutputBlock → Type 0) (keeps : (tick : ℕ) (b : OutputBlock) → tick ≤ b.tick → P b → P (in_output b.lane tick b)) where
  each-section : (xs : List Section) → All P (flat_map (λ (x : Section). x.blocks) xs) → All (λ (x : Section). All P x.blocks) xs
  each-section [] are = All-nil (λ (x : Section). All P x.blocks)
  each-section (x ∷ xs) are =
      let rest : List OutputBlock = flat_map (λ (y : Section). y.blocks) xs in
      let long = length-append x.blocks rest in
      All-cons (λ (y : Section). All P y.blocks) x xs
      (λ k d inside. subst P (get_or_append_left x.blocks rest d k inside) (are k d (omega arith)))
      (each-section xs (λ k d inside. subst P (get_or-append-add x.blocks rest k d) (are (length x.blocks + k) d (omega arith))))

  -- What holds for each block, and for an earlier one, holds for each block of each part.
  pub parts-each : (s : Split) (bs : List OutputBlock) → All P bs → All (λ (p : Part). All P p.blocks) (parts s bs)
  parts-each s bs are =
      each-part (λ (x : Section). All P x.blocks) (λ (p : Part). All P p.blocks)
      (λ x end own. All-map P (in_part x.start) x.blocks (All-weaker P (λ (b : OutputBlock). P (in_part x.start b)) (λ b is. keeps (b.tick - x.start) b (omega arith) is) x.blocks own))
      s (sections s bs) (each-section (sections s bs) (subst (All P) (sym (sections-cut s bs).whole) are))

-- ---- their number

few-sections : (most : ℕ) (xs : List Section) → length (flat_map (λ (x : Section). x.blocks) xs) ≤ most → All (λ (x : Section). length x.blocks ≤ most) xs
few-sections most [] few = All-nil (λ (x : Section). length x.blocks ≤ most)
few-sections most (x ∷ xs) few =
    let long = length-append x.blocks (flat_map (λ (y : Section). y.blocks) xs) in
    All-cons (λ (y : Section). length y.blocks ≤ most) x xs (omega arith) (few-sections most xs (omega arith))

-- No part has more blocks than the list.
pub parts-few : (s : Split) (bs : List OutputBlock) → All (λ (p : Part). length p.blocks ≤ length bs) (parts s bs)
parts-few s bs =
    each-part (λ (x : Section). length x.blocks ≤ length bs) (λ (p : Part). length p.blocks ≤ length bs)
    (λ x end few. omega (arith, length-map x.blocks (in_part x.start)))
    s (sections s bs) (few-sections (length bs) (sections s bs) (omega (arith, ap length (sections-cut s bs).whole)))
