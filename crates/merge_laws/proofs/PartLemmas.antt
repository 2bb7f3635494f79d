-- The parts of a merged list are its written sections. Their blocks are valid if the blocks of the list are.
use Rattle.std.proofs.Common.{◌≡◌, ap, refl, ℕ, ◌+◌, ◌-◌, Bool, true, false, if◌then◌else◌, List, [], ◌∷◌, length, map, flat_map, length-append, sym, subst, arith}
use Rattle.std.specs.List.{All, filter}
use Rattle.std.proofs.lemmas.List.{get_or-append-add, get_or_append_left}
use Rattle.std.proofs.lemmas.List.Elements.{All-nil, All-cons, All-head, All-map, All-tail, All-weaker}
use Rattle.output_model.specs.OutputBlock.{OutputBlock}
use Rattle.output_laws.proofs.MergedClusterLemmas.{IsOf, earlier-of}
use Rattle.splitter.specs.Sections.{Part, Section, Split, in_part, is_written, next_start, part_of, parts, parts_in, sections}
use Rattle.splitter.proofs.SectionLemmas.{sections-cut}
use Rattle.merge_laws.specs.Merge.{ArePartsOf, blocks_in_part}

-- ---- the parts together

-- the blocks of parts, one list for each part
abbrev pub blocks_by_part : List Part → List (List OutputBlock)
blocks_by_part ps = map (λ (p : Part). p.blocks) ps

parts-written : (s : Split) (xs : List Section) → blocks_by_part (parts_in s xs) ≡ map blocks_in_part (filter (is_written s) xs)
parts-written s [] = refl
parts-written s (x ∷ xs) = of (is_written s x) (parts-written s xs)
  where
    of : (written : Bool) → blocks_by_part (parts_in s xs) ≡ map blocks_in_part (filter (is_written s) xs)
        → blocks_by_part (if written then part_of x (next_start xs) ∷ parts_in s xs else parts_in s xs) ≡ map blocks_in_part (if written then x ∷ filter (is_written s) xs else filter (is_written s) xs)
    of true rest = ap (λ (more : List (List OutputBlock)). blocks_in_part x ∷ more) rest
    of false rest = rest

pub parts-cut : (s : Split) (blocks : List OutputBlock) → ArePartsOf s blocks (blocks_by_part (parts s blocks))
parts-cut s blocks = record { sections = sections s blocks; are = sections-cut s blocks; written = parts-written s (sections s blocks) }

-- ---- facts about each block

module _ (lanes : ℕ) where
  -- valid blocks, each on one of the output tracks
  abbrev AreOf : List OutputBlock → Type 0
  AreOf bs = All (IsOf lanes) bs

  -- If the blocks of a list of sections are valid, the blocks of each section are.
  each-of : (xs : List Section) → AreOf (flat_map (λ (x : Section). x.blocks) xs) → All (λ (x : Section). AreOf x.blocks) xs
  each-of [] are = All-nil (λ (x : Section). AreOf x.blocks)
  each-of (x ∷ xs) are =
      let rest : List OutputBlock = flat_map (λ (y : Section). y.blocks) xs in
      let long = length-append x.blocks rest in
      All-cons (λ (y : Section). AreOf y.blocks) x xs
      (λ k d inside. subst (IsOf lanes) (get_or_append_left x.blocks rest d k inside) (are k d (omega arith)))
      (each-of xs (λ k d inside. subst (IsOf lanes) (get_or-append-add x.blocks rest k d) (are (length x.blocks + k) d (omega arith))))

  part-sound : (x : Section) → AreOf x.blocks → AreOf (map (in_part x.start) x.blocks)
  part-sound x are =
      All-map (IsOf lanes) (in_part x.start) x.blocks
      (All-weaker (IsOf lanes) (λ (b : OutputBlock). IsOf lanes (in_part x.start b)) (λ b is. earlier-of lanes (b.tick - x.start) b (omega arith) is) x.blocks are)

  each-part : (s : Split) (xs : List Section) → All (λ (x : Section). AreOf x.blocks) xs → All (λ (p : Part). AreOf p.blocks) (parts_in s xs)
  each-part s [] are = All-nil (λ (p : Part). AreOf p.blocks)
  each-part s (x ∷ xs) are = of (is_written s x) (each-part s xs (All-tail (λ (y : Section). AreOf y.blocks) x xs are))
    where
      of : (written : Bool) → All (λ (p : Part). AreOf p.blocks) (parts_in s xs) → All (λ (p : Part). AreOf p.blocks) (if written then part_of x (next_start xs) ∷ parts_in s xs else parts_in s xs)
      of true rest =
          All-cons (λ (p : Part). AreOf p.blocks) (part_of x (next_start xs)) (parts_in s xs) (part-sound x (All-head (λ (y : Section). AreOf y.blocks) x xs are)) rest
      of false rest = rest

  -- The blocks of each part are valid, too.
  pub parts-sound : (s : Split) (blocks : List OutputBlock) → All (IsOf lanes) blocks → All (λ (p : Part). All (IsOf lanes) p.blocks) (parts s blocks)
  parts-sound s blocks are = each-part s (sections s blocks) (each-of (sections s blocks) (subst AreOf (sym (sections-cut s blocks).whole) are))
