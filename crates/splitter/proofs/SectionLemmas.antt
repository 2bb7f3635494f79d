-- Sections, and the steps that make them.
use Rattle.std.proofs.Common.{◌≡◌, ℕ, zero, suc, ◌+◌, ◌*◌, ◌^◌, ◌<◌, Bool, true, false, cond, ◌&&◌, ◌||◌, ◌⊎◌, inl, inr, List, [], ◌∷◌, ◌++◌, map, take, Option, Some, None, IfSome, refl, sym, subst, ◌∙◌, ap, ap₂, append_assoc, append-nil, arith}
use Rattle.std.specs.Prelude.{if◌then◌else◌, flat_map}
use Rattle.std.specs.List.{filter, slice_get}
use Rattle.std.proofs.Math.Nat.{sub-zero}
use Rattle.std.proofs.lemmas.Bool.Decides.{nat_tests}
use Rattle.std.proofs.lemmas.List.Sums.{sum_by_push}
use Rattle.output_model.specs.OutputBlock.{OutputBlock, in_output}
use Rattle.cluster_writer.specs.Lengths.{octets_taken}
use Rattle.splitter.specs.declared.cuts.Place.{Place}
use Rattle.splitter.specs.declared.spec.SplitSpec.{SplitSpec}
use Rattle.splitter.specs.declared.spec.SplitSpec.TheVariants.{Whole}
use Rattle.splitter.specs.Load.{is_full, load}
use Rattle.splitter.specs.Split.{is_over, keeps}
use Rattle.splitter.specs.Sections.{Section, Split, begun, beyond, cut_from, cuts, cuts_at, from_nought, in_part, is_written, may_cut, part_of, parts_in, sections, sections_at, start_with, with_block, within}
use Rattle.splitter.specs.Steps.{CutsSeen, counted, is_cut, place_at, place_of, stepped}
use Rattle.splitter.specs.Laws.{AreCutApart, IsUncut, SectionsAreCut, SectionsGoOn, StepsJoin, WholeIsOnePart, all_placed, placed, with_last}

-- ---- load

-- One more block adds its length.
pub load-more : (xs : List OutputBlock) (b : OutputBlock) → load (xs ++ b ∷ []) ≡ load xs + octets_taken b
load-more xs b = sum_by_push octets_taken xs b

-- The counted load reaches a 64-bit limit exactly if the load does.
pub full-counted : (size : Option ℕ) (n : ℕ) → IfSome size (λ limit. limit < 2 ^ 64) → is_full size (counted size n) ≡ is_full size n
full-counted None n fits = refl
full-counted (Some limit) n fits = grind (arith, nat_tests)

-- Counting more bytes is the same as counting the sum.
counted-more : (size : Option ℕ) (n k : ℕ) → counted size (counted size n + k) ≡ counted size (n + k)
counted-more None n k = refl
counted-more (Some limit) n k = omega arith

counted-twice : (size : Option ℕ) (n : ℕ) → counted size (counted size n) ≡ counted size n
counted-twice None n = refl
counted-twice (Some limit) n = omega arith

like-more : (size : Option ℕ) (n m k : ℕ) → counted size n ≡ counted size m → counted size (n + k) ≡ counted size (m + k)
like-more size n m k same = sym (counted-more size n k) ∙ ap (λ c. counted size (c + k)) same ∙ counted-more size m k

-- ---- step by step

-- the state after a section's last block, with this load
abbrev pub at_start : Split → ℕ → ℕ → CutsSeen
at_start s start octets = record { spec = s.spec; size = s.size; scale = s.scale; start = Some start; load = counted s.size octets }

-- the state after the section `x`
abbrev pub at_section : Split → Section → CutsSeen
at_section s x = at_start s x.start (load x.blocks)

-- the section if it is written
abbrev standing : Split → Section → List Section
standing s x = cond (is_written s x) (x ∷ []) []

last-more : (xs : List Section) (x : Section) (b : OutputBlock) → with_last (xs ++ x ∷ []) b ≡ xs ++ with_block x b ∷ []
last-more [] x b = refl
last-more (y ∷ []) x b = refl
last-more (y ∷ (z ∷ zs)) x b = ap (λ xs. y ∷ xs) (last-more (z ∷ zs) x b)

in-same : (done : List Section) (x : Section) (b : OutputBlock) (start : ℕ) (w : Bool) → placed (done ++ cond w (x ∷ []) []) (place_at w false start) b ≡ done ++ cond w (with_block x b ∷ []) []
in-same done x b start true = last-more done x b
in-same done x b start false = refl

in-next : (done : List Section) (b : OutputBlock) (start : ℕ) (w : Bool) → placed done (place_at w true start) b ≡ done ++ cond w (begun start b ∷ []) []
in-next done b start true = refl
in-next done b start false = sym (append-nil done)

filter-first : (x : Section) (xs : List Section) (w : Bool) → cond w (x ∷ []) [] ++ xs ≡ cond w (x ∷ xs) xs
filter-first x xs true = refl
filter-first x xs false = refl

-- the state after a block, with or without a cut before it
abbrev stepped_if : Split → Section → OutputBlock → Bool → CutsSeen
stepped_if s x b q = record {
  spec = s.spec;
  size = s.size;
  scale = s.scale;
  start = Some (if q then b.tick else x.start);
  load = counted s.size ((if q then 0 else counted s.size (load x.blocks)) + octets_taken b);
}

abbrev place_if : Split → Section → OutputBlock → Bool → Place
place_if s x b q = place_at (keeps s.spec ((if q then b.tick else x.start) * s.scale)) (q || false) (if q then b.tick else x.start)

-- the section with the block
abbrev section_if : Section → OutputBlock → Bool → Section
section_if x b q = if q then begun b.tick b else with_block x b

stepped-if : (s : Split) (x : Section) (b : OutputBlock) (q : Bool) → stepped_if s x b q ≡ at_section s (section_if x b q)
stepped-if s x b true = refl
stepped-if s x b false =
    ap (λ n. let c : CutsSeen = record { spec = s.spec; size = s.size; scale = s.scale; start = Some x.start; load = n } in c)
    (counted-more s.size (load x.blocks) (octets_taken b) ∙ ap (counted s.size) (sym (load-more x.blocks b)))

module _ (s : Split) (fits : IfSome s.size (λ limit. limit < 2 ^ 64)) where
  -- The state decides the cut before a block.
  pub cut-seen : (x : Section) (b : OutputBlock) → is_cut (at_section s x) (may_cut s b) b.tick ≡ cuts s x b
  cut-seen x b = ap (λ full. may_cut s b && (full || is_over s.spec (x.start * s.scale) (b.tick * s.scale))) (full-counted s.size (load x.blocks) fits)

  pub stepped-seen : (x : Section) (b : OutputBlock) → stepped (at_section s x) (may_cut s b) b.tick (octets_taken b) ≡ at_section s (section_if x b (cuts s x b))
  stepped-seen x b = ap (stepped_if s x b) (cut-seen x b) ∙ stepped-if s x b (cuts s x b)

  pub place-seen : (x : Section) (b : OutputBlock) → place_of (at_section s x) (may_cut s b) b.tick ≡ place_if s x b (cuts s x b)
  place-seen x b = ap (place_if s x b) (cut-seen x b)

  -- The steps over these blocks, from any section on, make the written sections.
  abbrev Joins : List OutputBlock → Type 0
  Joins bs = (x : Section) (done : List Section) → all_placed s (at_section s x) (done ++ standing s x) bs ≡ done ++ filter (is_written s) (cut_from s x bs)

  joins-next : (b : OutputBlock) (bs : List OutputBlock) (x : Section) (done : List Section) → Joins bs → (q : Bool)
      → all_placed s (at_section s (section_if x b q)) (placed (done ++ standing s x) (place_if s x b q) b) bs
      ≡ done ++ filter (is_written s) (if q then x ∷ cut_from s (begun b.tick b) bs else cut_from s (with_block x b) bs)
  joins-next b bs x done others true =
      ap (λ xs. all_placed s (at_section s (begun b.tick b)) xs bs) (in-next (done ++ standing s x) b b.tick (is_written s (begun b.tick b)))
      ∙ (others (begun b.tick b) (done ++ standing s x)
      ∙ (append_assoc done (standing s x) (filter (is_written s) (cut_from s (begun b.tick b) bs))
      ∙ ap (λ xs. done ++ xs) (filter-first x (filter (is_written s) (cut_from s (begun b.tick b) bs)) (is_written s x))))
  joins-next b bs x done others false =
      ap (λ xs. all_placed s (at_section s (with_block x b)) xs bs) (in-same done x b x.start (is_written s x)) ∙ others (with_block x b) done

  joins : (bs : List OutputBlock) → Joins bs
  joins [] x done = refl
  joins (b ∷ bs) x done =
      ap₂ (λ (c : CutsSeen) (place : Place). all_placed s c (placed (done ++ standing s x) place b) bs) (stepped-seen x b) (place-seen x b)
      ∙ joins-next b bs x done (joins bs) (cuts s x b)

  joins-first : (b : OutputBlock) (bs : List OutputBlock) (start : ℕ)
      → all_placed s (at_section s (begun start b)) (placed [] (place_at (keeps s.spec (start * s.scale)) true start) b) bs ≡ filter (is_written s) (cut_from s (begun start b) bs)
  joins-first b bs start =
      ap (λ xs. all_placed s (at_section s (begun start b)) xs bs) (in-next [] b start (is_written s (begun start b))) ∙ joins bs (begun start b) []

  -- The first block begins a section, with or without a cut before it.
  begins-first : (b : OutputBlock) (bs : List OutputBlock) (start : ℕ) (q : Bool)
      → all_placed s (at_start s start ((if q then 0 else 0) + octets_taken b)) (placed [] (place_at (keeps s.spec (start * s.scale)) (q || true) start) b) bs
      ≡ filter (is_written s) (cut_from s (begun start b) bs)
  begins-first b bs start true = joins-first b bs start
  begins-first b bs start false = joins-first b bs start

pub steps-join : StepsJoin
steps-join s fits b bs = begins-first s fits b bs (if cuts s from_nought b then b.tick else 0) (cuts s from_nought b)

-- ---- for the whole list

whole-next : (s : Split) (b : OutputBlock) (bs : List OutputBlock) (x : Section) → ((y : Section) → flat_map (λ (z : Section). z.blocks) (cut_from s y bs) ≡ y.blocks ++ bs) → (q : Bool)
    → flat_map (λ (z : Section). z.blocks) (if q then x ∷ cut_from s (begun b.tick b) bs else cut_from s (with_block x b) bs) ≡ x.blocks ++ (b ∷ bs)
whole-next s b bs x others true = ap (λ more. x.blocks ++ more) (others (begun b.tick b))
whole-next s b bs x others false = others (with_block x b) ∙ append_assoc x.blocks (b ∷ []) bs

whole : (s : Split) (bs : List OutputBlock) (x : Section) → flat_map (λ (z : Section). z.blocks) (cut_from s x bs) ≡ x.blocks ++ bs
whole s [] x = refl
whole s (b ∷ bs) x = whole-next s b bs x (whole s bs) (cuts s x b)

-- The block is an earlier one, with the same blocks before it.
record IsOld (xs : List OutputBlock) (b c : OutputBlock) (k : ℕ) : Type 0 where
  here : slice_get xs k ≡ Some c
  before : take k (xs ++ b ∷ []) ≡ take k xs

record IsNew (xs : List OutputBlock) (b c : OutputBlock) (k : ℕ) : Type 0 where
  same : b ≡ c
  before : take k (xs ++ b ∷ []) ≡ xs

among-more : (xs : List OutputBlock) (b c : OutputBlock) (k : ℕ) → slice_get (xs ++ b ∷ []) k ≡ Some c → IsOld xs b c k ⊎ IsNew xs b c k
among-more [] b c zero here = inr (record { same = cc; before = refl })
among-more [] b c (suc k) here = absurd (cc)
among-more (x ∷ xs) b c zero here = inl (record { here = here; before = refl })
among-more (x ∷ xs) b c (suc k) here =
    elim (among-more xs b c k here) [
      | inl old ↦ inl (record { here = old.here; before = ap (λ ys. x ∷ ys) old.before })
      | inr new ↦ inr (record { same = new.same; before = ap (λ ys. x ∷ ys) new.before })
    ]

uncut-first : (s : Split) (start : ℕ) (b : OutputBlock) → IsUncut s (begun start b)
uncut-first s start b zero c some here = absurd (omega arith)
uncut-first s start b (suc k) c some here = absurd (cc)

uncut-more : (s : Split) (x : Section) (b : OutputBlock) → IsUncut s x → cuts s x b ≡ false → IsUncut s (with_block x b)
uncut-more s x b before uncut k c some here =
    elim (among-more x.blocks b c k here) [
      | inl old ↦ ap (λ ys. cuts s (record { start = x.start; blocks = ys }) c) old.before ∙ before k c some old.here
      | inr new ↦ ap (λ ys. cuts s (record { start = x.start; blocks = ys }) c) new.before ∙ ap (cuts s x) (sym new.same) ∙ uncut
    ]

-- The first section of `xs` continues `x`, and cuts are exactly between all of them.
record Continues (s : Split) (x : Section) (xs : List Section) : Type 0 where
  first : Section
  others : List Section
  rest : List OutputBlock
  is : xs ≡ first ∷ others
  start : first.start ≡ x.start
  blocks : first.blocks ≡ x.blocks ++ rest
  cut : AreCutApart s (first ∷ others)

-- The sections from any section on have cuts exactly between them.
abbrev AreCut : Split → List OutputBlock → Type 0
AreCut s bs = (x : Section) → IsUncut s x → Continues s x (cut_from s x bs)

cut-next : (s : Split) (b : OutputBlock) (bs : List OutputBlock) (x : Section) → AreCut s bs → IsUncut s x → (q : Bool) → cuts s x b ≡ q
    → Continues s x (if q then x ∷ cut_from s (begun b.tick b) bs else cut_from s (with_block x b) bs)
cut-next s b bs x more uncut true here =
    let next = more (begun b.tick b) (uncut-first s b.tick b) in
    record {
      first = x;
      others = next.first ∷ next.others;
      rest = [];
      is = ap (λ xs. x ∷ xs) next.is;
      start = refl;
      blocks = sym (append-nil x.blocks);
      cut = (uncut, (record { first = b; rest = next.rest; blocks = next.blocks; start = next.start; cut = here }), next.cut);
    }
cut-next s b bs x more uncut false here =
    let next = more (with_block x b) (uncut-more s x b uncut here) in
    record {
      first = next.first;
      others = next.others;
      rest = b ∷ next.rest;
      is = next.is;
      start = next.start;
      blocks = next.blocks ∙ append_assoc x.blocks (b ∷ []) next.rest;
      cut = next.cut;
    }

cut : (s : Split) (bs : List OutputBlock) → AreCut s bs
cut s [] x uncut = record { first = x; others = []; rest = []; is = refl; start = refl; blocks = sym (append-nil x.blocks); cut = uncut }
cut s (b ∷ bs) x uncut = cut-next s b bs x (cut s bs) uncut (cuts s x b) refl

pub sections-cut : SectionsAreCut
sections-cut s [] = record { begins = refl; whole = refl; cut = λ k b some here. absurd (cc) }
sections-cut s (b ∷ bs) =
    let start : ℕ = start_with s from_nought b in
    let all = cut s bs (begun start b) (uncut-first s start b) in
    record {
      begins = record { first = all.first; others = all.others; rest = all.rest; are = all.is; blocks = all.blocks; start = all.start };
      whole = whole s bs (begun start b);
      cut = subst (AreCutApart s) (sym all.is) all.cut;
    }

-- ---- up to the next cut

-- the sections from one on that started at `start` and has this load
abbrev goes_on_from : Split → ℕ → List OutputBlock → ℕ → List OutputBlock → List Section
goes_on_from s start blocks octets bs = record { start = start; blocks = blocks ++ within s start octets bs } ∷ sections_at s (beyond s start octets bs)

goes-on-next : (s : Split) (b : OutputBlock) (bs : List OutputBlock) (x : Section) → ((y : Section) → cut_from s y bs ≡ goes_on_from s y.start y.blocks (load y.blocks) bs) → (q : Bool)
    → (if q then x ∷ cut_from s (begun b.tick b) bs else cut_from s (with_block x b) bs)
    ≡ record { start = x.start; blocks = x.blocks ++ (if q then [] else b ∷ within s x.start (load x.blocks + octets_taken b) bs) } ∷ sections_at s (if q then b ∷ bs else beyond s x.start (load x.blocks + octets_taken b) bs)
goes-on-next s b bs x others true = ap (λ blocks. record { start = x.start; blocks = blocks } ∷ cut_from s (begun b.tick b) bs) (sym (append-nil x.blocks))
goes-on-next s b bs x others false =
    others (with_block x b)
    ∙ ap (λ n. goes_on_from s x.start (x.blocks ++ b ∷ []) n bs) (load-more x.blocks b)
    ∙ ap (λ blocks. record { start = x.start; blocks = blocks } ∷ sections_at s (beyond s x.start (load x.blocks + octets_taken b) bs)) (append_assoc x.blocks (b ∷ []) (within s x.start (load x.blocks + octets_taken b) bs))

pub goes-on : SectionsGoOn
goes-on s x [] = ap (λ blocks. record { start = x.start; blocks = blocks } ∷ []) (sym (append-nil x.blocks))
goes-on s x (b ∷ bs) = goes-on-next s b bs x (λ y. goes-on s y bs) (cuts s x b)

-- The counted load decides the same cuts.
module _ (s : Split) (fits : IfSome s.size (λ limit. limit < 2 ^ 64)) (start : ℕ) where
  pub cuts-counted : (n : ℕ) (b : OutputBlock) → cuts_at s start (counted s.size n) b ≡ cuts_at s start n b
  cuts-counted n b = ap (λ full. may_cut s b && (full || is_over s.spec (start * s.scale) (b.tick * s.scale))) (full-counted s.size n fits)

  -- Loads with equal counts have the same cuts.
  pub within-like : (bs : List OutputBlock) (n m : ℕ) → counted s.size n ≡ counted s.size m → within s start n bs ≡ within s start m bs
  within-like [] n m same = refl
  within-like (b ∷ bs) n m same =
      ap₂ (λ (q : Bool) (more : List OutputBlock). if q then [] else b ∷ more)
      (sym (cuts-counted n b) ∙ ap (λ k. cuts_at s start k b) same ∙ cuts-counted m b)
      (within-like bs (n + octets_taken b) (m + octets_taken b) (like-more s.size n m (octets_taken b) same))

  pub beyond-like : (bs : List OutputBlock) (n m : ℕ) → counted s.size n ≡ counted s.size m → beyond s start n bs ≡ beyond s start m bs
  beyond-like [] n m same = refl
  beyond-like (b ∷ bs) n m same =
      ap₂ (λ (q : Bool) (more : List OutputBlock). if q then b ∷ bs else more)
      (sym (cuts-counted n b) ∙ ap (λ k. cuts_at s start k b) same ∙ cuts-counted m b)
      (beyond-like bs (n + octets_taken b) (m + octets_taken b) (like-more s.size n m (octets_taken b) same))

  pub within-counted : (bs : List OutputBlock) (n : ℕ) → within s start (counted s.size n) bs ≡ within s start n bs
  within-counted bs n = within-like bs (counted s.size n) n (counted-twice s.size n)

  pub beyond-counted : (bs : List OutputBlock) (n : ℕ) → beyond s start (counted s.size n) bs ≡ beyond s start n bs
  beyond-counted bs n = beyond-like bs (counted s.size n) n (counted-twice s.size n)

-- ---- without a split

-- The split has neither times nor a load limit.
record IsWhole (s : Split) : Type 0 where
  spec : s.spec ≡ Whole
  size : s.size ≡ None

never-cut : (s : Split) (x : Section) (b : OutputBlock) → IsWhole s → cuts s x b ≡ false
never-cut s x b none =
    ap₂ (λ (spec : SplitSpec) (size : Option ℕ). may_cut s b && (is_full size (load x.blocks) || is_over spec (x.start * s.scale) (b.tick * s.scale))) none.spec none.size ∙ never (may_cut s b)
  where
    never : (may : Bool) → (may && false) ≡ false
    never true = refl
    never false = refl

one-section : (s : Split) (bs : List OutputBlock) (x : Section) → IsWhole s → cut_from s x bs ≡ record { start = x.start; blocks = x.blocks ++ bs } ∷ []
one-section s [] x none = ap (λ blocks. record { start = x.start; blocks = blocks } ∷ []) (sym (append-nil x.blocks))
one-section s (b ∷ bs) x none =
    ap (λ q. if q then x ∷ cut_from s (begun b.tick b) bs else cut_from s (with_block x b) bs) (never-cut s x b none)
    ∙ (one-section s bs (with_block x b) none ∙ ap (λ blocks. record { start = x.start; blocks = blocks } ∷ []) (append_assoc x.blocks (b ∷ []) bs))

-- From 0 on, blocks keep their ticks.
same-blocks : (bs : List OutputBlock) → map (in_part 0) bs ≡ bs
same-blocks [] = refl
same-blocks (b ∷ bs) = ap₂ (λ (tick : ℕ) (more : List OutputBlock). in_output b.lane tick b ∷ more) (sub-zero b.tick) (same-blocks bs)

one-part : (s : Split) (bs : List OutputBlock) → s.spec ≡ Whole → parts_in s (record { start = 0; blocks = bs } ∷ []) ≡ record { start = 0; end = None; blocks = bs } ∷ []
one-part s bs none =
    ap (λ spec. if keeps spec (0 * s.scale) then part_of (record { start = 0; blocks = bs }) None ∷ [] else []) none
    ∙ ap (λ blocks. record { start = 0; end = None; blocks = blocks } ∷ []) (same-blocks bs)

all-in-one : (s : Split) (bs : List OutputBlock) → IsWhole s → sections s bs ≡ record { start = 0; blocks = bs } ∷ []
all-in-one s [] none = refl
all-in-one s (b ∷ bs) none =
    ap (λ q. cut_from s (begun (if q then b.tick else 0) b) bs) (never-cut s from_nought b none) ∙ one-section s bs (begun 0 b) none

pub whole-part : WholeIsOnePart
whole-part s bs spec size = ap (parts_in s) (all-in-one s bs (record { spec = spec; size = size })) ∙ one-part s bs spec
