-- Laws about cutting an output into parts.
use Rattle.std.specs.Prelude.{◌≡◌, ⊤, ℕ, ◌<◌, ◌^◌, true, false, List, [], ◌∷◌, ◌++◌, filter, flat_map, take, Some, None, IfSome}
use Rattle.std.specs.List.{slice_get}
use Rattle.output_model.specs.OutputBlock.{OutputBlock}
use Rattle.cluster_writer.specs.Lengths.{octets_taken}
use Rattle.splitter.specs.declared.cuts.Place.{Place}
use Rattle.splitter.specs.declared.cuts.Place.TheVariants.{Same, Next, Out}
use Rattle.splitter.specs.declared.spec.SplitSpec.TheVariants.{Whole}
use Rattle.splitter.specs.Names.{is_part_name, part_name}
use Rattle.splitter.specs.Load.{load}
use Rattle.splitter.specs.Sections.{Section, Split, begun, beyond, cut_from, cuts, from_nought, is_written, may_cut, parts, sections, sections_at, start_with, with_block, within}
use Rattle.splitter.specs.Steps.{CutsSeen, new_cuts, place_of, stepped}

-- ---- step by step

-- the sections of a merged list with the block `b` added to the last one. For `placed`, in the laws on `merge --split`.
abbrev pub with_last : List Section → OutputBlock → List Section
with_last [] b = []
with_last (x ∷ []) b = with_block x b ∷ []
with_last (x ∷ (y ∷ ys)) b = x ∷ with_last (y ∷ ys) b

-- the written sections `xs` after the block `b` was added at its place. It begins a section, is added to the last one, or is left out. For
-- `all_placed`, in the laws on `merge --split`.
abbrev pub placed : List Section → Place → OutputBlock → List Section
placed xs (Next start) b = xs ++ begun start b ∷ []
placed xs Same b = with_last xs b
placed xs Out b = xs

-- the written sections `xs` after a list of blocks was added, each at its place. `s` has the rule for cuts, and `c` the state before the first of the
-- blocks. For `StepsJoin`, in the laws on `merge --split`.
abbrev pub all_placed : Split → CutsSeen → List Section → List OutputBlock → List Section
all_placed s c xs [] = xs
all_placed s c xs (b ∷ bs) = all_placed s (stepped c (may_cut s b) b.tick (octets_taken b)) (placed xs (place_of c (may_cut s b) b.tick) b) bs

-- The places of all blocks of a merged list, decided one by one, give its written sections. The size of parts, if any, has 64 bits. `s` is the rule
-- for cuts. The law `steps_join` states it.
abbrev pub StepsJoin : Type 0
StepsJoin =
    (s : Split) → IfSome s.size (λ limit. limit < 2 ^ 64) → (b : OutputBlock) (bs : List OutputBlock)
    → all_placed s (new_cuts s.spec s.size s.scale) [] (b ∷ bs) ≡ filter (is_written s) (sections s (b ∷ bs))

-- ---- for the whole list

-- By the rule `s` no cut is before a block of the section `x`, except its first block. For `AreCutApart`, in the laws on `merge --split`.
abbrev pub IsUncut : Split → Section → Type 0
IsUncut s x = (k : ℕ) (b : OutputBlock) → 0 < k → slice_get x.blocks k ≡ Some b → cuts s (record { start = x.start; blocks = take k x.blocks }) b ≡ false

-- The section `y` is after the section `x`. It begins with a block that the rule `s` has a cut before, and starts at its tick. For `AreCutApart`, in
-- the laws on `merge --split`.
pub record IsCutOff (s : Split) (x y : Section) : Type 0 where
  pub first : OutputBlock
  pub rest : List OutputBlock
  pub blocks : y.blocks ≡ first ∷ rest
  pub start : y.start ≡ first.tick
  pub cut : cuts s x first ≡ true

-- By the rule `s` cuts are exactly between the sections of the list. For `AreSections`, in the laws on `merge --split`.
abbrev pub AreCutApart : Split → List Section → Type 0
AreCutApart s [] = ⊤
AreCutApart s (x ∷ []) = IsUncut s x
AreCutApart s (x ∷ (y ∷ ys)) = IsUncut s x × IsCutOff s x y × AreCutApart s (y ∷ ys)

-- The first of the sections `xs` begins with the block `b`. It starts at the block's tick if the rule `s` has a cut before it, and otherwise at tick
-- 0. For `AreBegun`, in the laws on `merge --split`.
pub record BeginWith (s : Split) (b : OutputBlock) (xs : List Section) : Type 0 where
  pub first : Section
  pub others : List Section
  pub rest : List OutputBlock
  pub are : xs ≡ first ∷ others
  pub blocks : first.blocks ≡ b ∷ rest
  pub start : first.start ≡ start_with s from_nought b

-- The sections `xs` begin with the first of the blocks; a cut before it leaves no section before it. Without a block there is one empty section at
-- tick 0. `s` is the rule for cuts. For `AreSections`, in the laws on `merge --split`.
abbrev pub AreBegun : Split → List OutputBlock → List Section → Type 0
AreBegun s [] xs = xs ≡ from_nought ∷ []
AreBegun s (b ∷ bs) xs = BeginWith s b xs

-- The sections `xs` in sequence make the list `blocks`, and by the rule `s` cuts are exactly between them. For `SectionsAreCut`, in the laws on
-- `merge --split`.
pub record AreSections (s : Split) (blocks : List OutputBlock) (xs : List Section) : Type 0 where
  pub begins : AreBegun s blocks xs
  pub whole : flat_map (λ (x : Section). x.blocks) xs ≡ blocks
  pub cut : AreCutApart s xs

-- The sections of the merged list `blocks`, by the rule `s`, make the whole list, and cuts are exactly between them. The law `sections_are_cut`
-- states it.
abbrev pub SectionsAreCut : Type 0
SectionsAreCut = (s : Split) (blocks : List OutputBlock) → AreSections s blocks (sections s blocks)

-- A section `x`, continued with the list `bs`, has the blocks up to the next cut of the rule `s`. The next sections have the blocks after it. The law
-- `sections_go_on` states it.
abbrev pub SectionsGoOn : Type 0
SectionsGoOn = (s : Split) (x : Section) (bs : List OutputBlock) → cut_from s x bs ≡ record { start = x.start; blocks = x.blocks ++ within s x.start (load x.blocks) bs } ∷ sections_at s (beyond s x.start (load x.blocks) bs)

-- An output with the blocks `blocks` and a rule `s` without cuts is one part with all blocks unchanged. The law `whole_is_one_part` states it.
abbrev pub WholeIsOnePart : Type 0
WholeIsOnePart = (s : Split) (blocks : List OutputBlock) → s.spec ≡ Whole → s.size ≡ None → parts s blocks ≡ record { start = 0; end = None; blocks = blocks } ∷ []

-- ---- names

-- The name of the part `number` of the output `output` has the form of part names, for numbers below 2^64. The law `part_names_are` states it.
abbrev pub PartNamesAre : Type 0
PartNamesAre = (output : List ℕ) (number : ℕ) → number < 2 ^ 64 → is_part_name output (part_name output number) ≡ true

-- Parts of the output `output` with different numbers have different names, for numbers below 2^64. The law `part_names_differ` states it.
abbrev pub PartNamesDiffer : Type 0
PartNamesDiffer = (output : List ℕ) (m n : ℕ) → m < 2 ^ 64 → n < 2 ^ 64 → part_name output m ≡ part_name output n → m ≡ n
