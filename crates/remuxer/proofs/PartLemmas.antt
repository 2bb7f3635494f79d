-- Blocks up to the next cut, and the parts that begin with them.
use Rattle.std.proofs.Common.{◌≡◌, ◌≤◌, ◌<◌, ℕ, ◌+◌, ◌*◌, ◌^◌, max, nat_le, Bool, true, false, List, [], ◌∷◌, ◌++◌, map, Option, Some, None, IfSome, refl, sym, ◌∙◌, ap, ap₂, zero-add, arith}
use Rattle.std.specs.Prelude.{if◌then◌else◌}
use Rattle.std.specs.Option.{option_map}
use Rattle.output_model.specs.OutputBlock.{OutputBlock}
use Rattle.cluster_writer.specs.Lengths.{octets_taken}
use Rattle.splitter.specs.declared.spec.SplitSpec.{SplitSpec}
use Rattle.splitter.specs.declared.spec.SplitSpec.TheVariants.{Whole}
use Rattle.splitter.specs.Split.{keeps}
use Rattle.splitter.specs.Sections.{Part, Section, Split, begun, beyond, cuts_at, in_part, next_start, part_of, parts_in, sections_at, within}
use Rattle.splitter.specs.Steps.{counted}
use Rattle.splitter.proofs.SectionLemmas.{beyond-counted, beyond-like, goes-on, within-counted}
use Rattle.remuxer.specs.Places.{IsEnd, IsLimit, first_tick, parts_from}

-- the part that begins with these blocks, up to the next cut
abbrev pub part_from : Split → ℕ → ℕ → List OutputBlock → List OutputBlock → Part
part_from s start octets first behind = record {
  start = start;
  end = option_map (max start) (first_tick (beyond s start octets behind));
  blocks = map (in_part start) (first ++ within s start octets behind);
}

-- the parts after it
abbrev pub parts_behind : Split → ℕ → ℕ → List OutputBlock → List Part
parts_behind s start octets behind = parts_in s (sections_at s (beyond s start octets behind))

-- A load limit has 64 bits.
pub fits-of : (size : Option ℕ) (spec : SplitSpec) → IfSome size (IsLimit spec) → IfSome size (λ limit. limit < 2 ^ 64)
fits-of None spec is = tt
fits-of (Some limit) spec is = is.fits

-- A load limit excludes times.
pub whole-of : (size : Option ℕ) (spec : SplitSpec) → IfSome size (IsLimit spec) → IfSome size (λ limit. spec ≡ Whole)
whole-of None spec is = tt
whole-of (Some limit) spec is = is.whole

-- With a load limit each section is written.
pub no-limit : (size : Option ℕ) (spec : SplitSpec) (time : ℕ) → IfSome size (IsLimit spec) → keeps spec time ≡ false → size ≡ None
no-limit None spec time is out = refl
no-limit (Some limit) spec time is out = absurd (let kept : keeps spec time ≡ true = ap (λ (each : SplitSpec). keeps each time) is.whole in cc)

module _ (s : Split) (fits : IfSome s.size (λ limit. limit < 2 ^ 64)) (start octets : ℕ) (b : OutputBlock) (bs : List OutputBlock) where
  -- No cut is before the block.
  pub within-next : cuts_at s start octets b ≡ false → within s start octets (b ∷ bs) ≡ b ∷ within s start (counted s.size (octets + octets_taken b)) bs
  within-next none =
      ap (λ (q : Bool). if q then [] else b ∷ within s start (octets + octets_taken b) bs) none
      ∙ ap (λ (more : List OutputBlock). b ∷ more) (sym (within-counted s fits start bs (octets + octets_taken b)))

  pub beyond-next : cuts_at s start octets b ≡ false → beyond s start octets (b ∷ bs) ≡ beyond s start (counted s.size (octets + octets_taken b)) bs
  beyond-next none =
      ap (λ (q : Bool). if q then b ∷ bs else beyond s start (octets + octets_taken b) bs) none ∙ sym (beyond-counted s fits start bs (octets + octets_taken b))

module _ (s : Split) (start octets : ℕ) (b : OutputBlock) (bs : List OutputBlock) where
  -- A cut is before the block.
  pub within-cut : cuts_at s start octets b ≡ true → within s start octets (b ∷ bs) ≡ []
  within-cut cut = ap (λ (q : Bool). if q then [] else b ∷ within s start (octets + octets_taken b) bs) cut

  pub beyond-cut : cuts_at s start octets b ≡ true → beyond s start octets (b ∷ bs) ≡ b ∷ bs
  beyond-cut cut = ap (λ (q : Bool). if q then b ∷ bs else beyond s start (octets + octets_taken b) bs) cut

-- ---- the parts from a block on

-- The first section after a cut starts at its first block.
start-at : (s : Split) (bs : List OutputBlock) → next_start (sections_at s bs) ≡ first_tick bs
start-at s [] = refl
start-at s (b ∷ bs) = ap next_start (goes-on s (begun b.tick b) bs)

module _ (s : Split) (start : ℕ) (b : OutputBlock) (bs : List OutputBlock) where
  -- The parts are the written sections, and the first one goes up to the next cut.
  first-sections : parts_from s start (b ∷ bs) ≡ parts_in s (record { start = start; blocks = b ∷ within s start (octets_taken b) bs } ∷ sections_at s (beyond s start (octets_taken b) bs))
  first-sections =
      ap (parts_in s) (goes-on s (begun start b) bs)
      ∙ ap (λ (n : ℕ). parts_in s (record { start = start; blocks = b ∷ within s start n bs } ∷ sections_at s (beyond s start n bs))) (zero-add (octets_taken b))

  -- The first section is written.
  parts-kept : keeps s.spec (start * s.scale) ≡ true → parts_from s start (b ∷ bs) ≡ part_from s start (octets_taken b) (b ∷ []) bs ∷ parts_behind s start (octets_taken b) bs
  parts-kept kept =
      first-sections
      ∙ ap (λ (q : Bool). if q then part_of x (next_start xs) ∷ parts_in s xs else parts_in s xs) kept
      ∙ ap (λ (end : Option ℕ). part_of x end ∷ parts_in s xs) (start-at s (beyond s start (octets_taken b) bs))
    where
      x : Section
      x = record { start = start; blocks = b ∷ within s start (octets_taken b) bs }

      xs : List Section
      xs = sections_at s (beyond s start (octets_taken b) bs)

  -- The first section isn't written.
  pub parts-passed : keeps s.spec (start * s.scale) ≡ false → parts_from s start (b ∷ bs) ≡ parts_behind s start (octets_taken b) bs
  parts-passed kept =
      first-sections
      ∙ ap (λ (q : Bool). if q then part_of x (next_start xs) ∷ parts_in s xs else parts_in s xs) kept
    where
      x : Section
      x = record { start = start; blocks = b ∷ within s start (octets_taken b) bs }

      xs : List Section
      xs = sections_at s (beyond s start (octets_taken b) bs)

-- The counted load decides the same parts.
pub parts-first : (s : Split) → IfSome s.size (λ limit. limit < 2 ^ 64) → (start n : ℕ) (b : OutputBlock) (bs : List OutputBlock) → n ≡ counted s.size (octets_taken b) → keeps s.spec (start * s.scale) ≡ true
    → parts_from s start (b ∷ bs) ≡ part_from s start n (b ∷ []) bs ∷ parts_behind s start n bs
parts-first s fits start n b bs is kept =
    parts-kept s start b bs kept
    ∙ ap₂ (λ (these behind : List OutputBlock). (let part : Part = record { start = start; end = option_map (max start) (first_tick behind); blocks = map (in_part start) (b ∷ these) } in part) ∷ parts_in s (sections_at s behind))
    (sym (within-counted s fits start bs (octets_taken b))) (sym (beyond-counted s fits start bs (octets_taken b)))
    ∙ ap (λ (k : ℕ). part_from s start k (b ∷ []) bs ∷ parts_behind s start k bs) (sym is)

-- The next block after a cut begins the next parts.
pub behind-cut : (s : Split) (start octets : ℕ) (b : OutputBlock) (bs : List OutputBlock) → cuts_at s start octets b ≡ true → parts_behind s start octets (b ∷ bs) ≡ parts_from s b.tick (b ∷ bs)
behind-cut s start octets b bs cut = ap (λ (behind : List OutputBlock). parts_in s (sections_at s behind)) (beyond-cut s start octets b bs cut)

behind-next : (s : Split) (start octets : ℕ) (b : OutputBlock) (bs : List OutputBlock) → cuts_at s start octets b ≡ false
    → parts_behind s start octets (b ∷ bs) ≡ parts_behind s start (octets + octets_taken b) bs
behind-next s start octets b bs none = ap (λ (behind : List OutputBlock). parts_in s (sections_at s behind)) (ap (λ (q : Bool). if q then b ∷ bs else beyond s start (octets + octets_taken b) bs) none)

-- For a split only by times, the load doesn't count.
pub without-load : (s : Split) → s.size ≡ None → (start n m : ℕ) (bs : List OutputBlock) → beyond s start n bs ≡ beyond s start m bs
without-load s times start n m bs = beyond-like s (none s.size times) start bs n m (same s.size times)
  where
    none : (size : Option ℕ) → size ≡ None → IfSome size (λ limit. limit < 2 ^ 64)
    none None is = tt
    none (Some limit) is = absurd (cc)

    same : (size : Option ℕ) → size ≡ None → counted size n ≡ counted size m
    same None is = refl
    same (Some limit) is = absurd (cc)

-- A section that isn't written goes on; only spans have such sections.
pub passed-next : (s : Split) → s.size ≡ None → (start octets : ℕ) (b : OutputBlock) (bs : List OutputBlock) → keeps s.spec (start * s.scale) ≡ false → (q : Bool) → cuts_at s start octets b ≡ q
    → parts_behind s start octets (b ∷ bs) ≡ parts_from s (if q then b.tick else start) (b ∷ bs)
passed-next s times start octets b bs kept true is = behind-cut s start octets b bs is
passed-next s times start octets b bs kept false is =
    behind-next s start octets b bs is
    ∙ ap (λ (behind : List OutputBlock). parts_in s (sections_at s behind)) (without-load s times start (octets + octets_taken b) (octets_taken b) bs)
    ∙ sym (parts-passed s start b bs kept)

-- ---- the end of a part

-- The end isn't before the start, for each tick after the cut.
pub is-end : (scale start tick : ℕ) → start * scale < 2 ^ 64 → tick * scale < 2 ^ 64 → IsEnd scale start (max start tick)
is-end scale start tick starts ends = record { behind = later (nat_le start tick) refl; early = short }
  where
    later : (q : Bool) → nat_le start tick ≡ q → start * scale ≤ max start tick * scale
    later q is = grind arith

    short : max start tick * scale < 2 ^ 64
    short = grind arith
