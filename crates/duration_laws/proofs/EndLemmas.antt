-- The end of blocks is the last end of one of them.
use Rattle.std.proofs.Common.{ℕ, suc, ◌<◌, ◌≤◌, max, List, [], ◌∷◌, length, All, IfSome, Option, Some, None, refl, inl, inr, ◌∙◌, arith}
use Rattle.std.proofs.lemmas.Bool.{cases_lt}
use Rattle.std.proofs.lemmas.List.Elements.{All-nil, All-cons, All-weaker}
use Rattle.mkv_io.specs.Faults.{counted}
use Rattle.output_model.specs.OutputBlock.{OutputBlock}
use Rattle.output_model.specs.declared.durations.Durations.{Durations}
use Rattle.output_model.specs.Duration.{ticks_shown, end_of_block, end_of_blocks}
use Rattle.duration_laws.specs.Ends.{EndsBy, IsLastEnd}

-- A block ends by a tick if its end is there or earlier.
by-end : (d : Durations) (end : ℕ) (b : OutputBlock) → end_of_block d b ≤ end → EndsBy d end b
by-end d end b before = record { begins = λ short. omega arith; ends = before; shown = shown b.duration before }
  where
    shown : (duration : Option ℕ) → counted b.tick (ticks_shown d b.lane (length b.frames) duration) ≤ end → IfSome duration (λ ticks. counted b.tick ticks ≤ end)
    shown None is = tt
    shown (Some ticks) is = is

later : (d : Durations) (first last : ℕ) (bs : List OutputBlock) → first ≤ last → All (EndsBy d first) bs → All (EndsBy d last) bs
later d first last bs before all = All-weaker (EndsBy d first) (EndsBy d last) (λ b is. let ends = is.ends in by-end d last b (omega arith)) bs all

-- Only without blocks there is no end above 0.
some-blocks : (d : Durations) (bs : List OutputBlock) → 0 < end_of_blocks d bs → 1 ≤ length bs
some-blocks d [] some = absurd (omega arith)
some-blocks d (b ∷ bs) some = omega arith

pub last-end : (d : Durations) (bs : List OutputBlock) → IsLastEnd d bs (end_of_blocks d bs)
last-end d [] = record { all = All-nil (EndsBy d 0); one = λ some. absurd (omega arith) }
last-end d (b ∷ bs) =
    let own : ℕ = end_of_block d b in
    let others : ℕ = end_of_blocks d bs in
    let end : ℕ = max own others in
    let rest = last-end d bs in
    record {
      all = All-cons (EndsBy d end) b bs (by-end d end b (omega arith)) (later d others end bs (omega arith) rest.all);
      one = λ some. elim (cases_lt own others) [
        | inl less ↦ (let last = rest.one (some-blocks d bs (omega arith)) in (suc last.0, last.1, omega (arith, last.2), last.3, last.4 ∙ omega arith))
        | inr more ↦ (0, b, omega arith, refl, omega arith)
      ];
    }
