-- The timestamps of blocks are whole ticks: RFC 9559, section 11 (Timestamps).
use Rattle.std.proofs.Common.{◌≡◌, ◌≤◌, ℕ, zero, suc, ◌+◌, ◌-◌, ◌*◌, ◌/◌, List, Option, Some, None, Ok, ℤ, pos, negsuc, sym, ◌∙◌, ap, arith}
use Rattle.std.proofs.Math.Nat.{add-mul}
use Rattle.std.proofs.lemmas.Nat.{div-mul-add}
use Rattle.mkv_schema.specs.declared.ids.TheConstants.{BLOCK}
use Rattle.mkv_schema.specs.declared.element.Header.{Header}
use Rattle.mkv_io.specs.Results.{and_then, unless}
use Rattle.mkv_schema.specs.Value.{body_of, first_of}
use Rattle.mkv_schema.proofs.OutlineLemmas.{and_then-ok, unless-ok}
use Rattle.block_format.specs.Block.{Block, nanoseconds, simple_block_with}
use Rattle.block_format.specs.Content.{content_in}
use Rattle.block_format.specs.Elements.{Rules, timestamp_for, at_place, in_time, simple_block, group_children, block_or, too_many_references, group_with, group_among, block_group}
use Rattle.output_model.specs.Ticks.{since_start}
use Rattle.output_laws.proofs.WalkLemmas.{each-block}
use Rattle.edit_laws.specs.IndexLaws.{TimesAreTicks}

-- Ticks from the start on are a whole number of ticks in nanoseconds, without a remainder.
whole-ticks : (s : ℕ) (z : ℤ) (t : ℕ) → 1 ≤ s → since_start (nanoseconds s z) ≡ Some t → nanoseconds s z ≡ nanoseconds s (pos (t / s))
whole-ticks s (pos k) t some is =
    let same : k * s ≡ t = cc in
    let zero_more : k * s + 0 ≡ t = omega arith in
    let ticks : t / s ≡ k = ap (λ (n : ℕ). n / s) (sym zero_more) ∙ div-mul-add k s 0 (omega arith) in
    ap (λ (n : ℕ). nanoseconds s (pos n)) (sym ticks)
whole-ticks s (negsuc k) t some is =
    let more : suc k ≡ k + 1 = omega arith in
    let product : suc k * s ≡ suc (k * s + (s - 1)) = ap (λ (n : ℕ). n * s) more ∙ add-mul k 1 s ∙ omega arith in
    let none : None ≡ Some t = sym (ap (λ (n : ℕ). since_start (neg n)) product) ∙ is in
    absurd (cc none)
  where
    neg : ℕ → ℤ
    neg zero = pos zero
    neg (suc n) = negsuc n

-- The timestamp of the block `b` is whole ticks of `s` nanoseconds.
record HasTicks (s : ℕ) (b : Block) : Type 0 where
  ticks : ℤ
  is : b.time ≡ nanoseconds s ticks

simple-ticks : (r : Rules) (bytes : List ℕ) (ts : Option ℕ) (h : Header) (b : Block) → simple_block r bytes ts h ≡ Ok b → HasTicks r.scale b
unfolding simple_block
simple-ticks r bytes ts h b is =
    let time = and_then-ok (timestamp_for r ts h) (λ t. and_then (at_place h.id h.offset (content_in (body_of bytes h))) (λ c. in_time r h.id (simple_block_with r.scale t h.offset c))) b is in
    let content = and_then-ok (at_place h.id h.offset (content_in (body_of bytes h))) (λ c. in_time r h.id (simple_block_with r.scale time.0 h.offset c)) b time.1.1 in
    let same = (unless-ok _ (simple_block_with r.scale time.0 h.offset content.0) b content.1.1).1 in
    record { ticks = _; is = sym (ap (λ (x : Block). x.time) same) }

among-ticks : (r : Rules) (bytes : List ℕ) (t offset : ℕ) (kids : List Header) (h : Header) (b : Block) → group_among r bytes t offset kids h ≡ Ok b → HasTicks r.scale b
among-ticks r bytes t offset kids h b is =
    let content = and_then-ok (at_place BLOCK offset (content_in (body_of bytes h))) (λ c. and_then (unless (too_many_references r kids) c) (λ c. in_time r BLOCK (group_with r.scale bytes t offset kids c))) b is in
    let few = and_then-ok (unless (too_many_references r kids) content.0) (λ c. in_time r BLOCK (group_with r.scale bytes t offset kids c)) b content.1.1 in
    let same = (unless-ok _ (group_with r.scale bytes t offset kids few.0) b few.1.1).1 in
    record { ticks = _; is = sym (ap (λ (x : Block). x.time) same) }

group-ticks : (r : Rules) (bytes : List ℕ) (ts : Option ℕ) (h : Header) (b : Block) → block_group r bytes ts h ≡ Ok b → HasTicks r.scale b
unfolding block_group
group-ticks r bytes ts h b is =
    let time = and_then-ok (timestamp_for r ts h) (λ t. and_then (group_children bytes h) (λ cs. and_then (block_or h (first_of BLOCK cs)) (group_among r bytes t h.offset cs))) b is in
    let kids = and_then-ok (group_children bytes h) (λ cs. and_then (block_or h (first_of BLOCK cs)) (group_among r bytes time.0 h.offset cs)) b time.1.1 in
    let first = and_then-ok (block_or h (first_of BLOCK kids.0)) (group_among r bytes time.0 h.offset kids.0) b kids.1.1 in
    among-ticks r bytes time.0 h.offset kids.0 first.0 b first.1.1

HasTicks-whole : (s : ℕ) (b : Block) → 1 ≤ s → HasTicks s b → (t : ℕ) → since_start b.time ≡ Some t → b.time ≡ nanoseconds s (pos (t / s))
HasTicks-whole s b some ticks t is = ticks.is ∙ whole-ticks s ticks.ticks t some (sym (ap since_start ticks.is) ∙ is)

-- The timestamp of a block from the start on is a whole number of ticks.
pub times-ticks : TimesAreTicks
times-ticks r bytes segment some =
    each-block (λ (b : Block). (t : ℕ) → since_start b.time ≡ Some t → b.time ≡ nanoseconds r.scale (pos (t / r.scale))) r bytes
    (λ ts h b within is. HasTicks-whole r.scale b some (simple-ticks r bytes ts h b is))
    (λ ts h b within is. HasTicks-whole r.scale b some (group-ticks r bytes ts h b is))
    segment
