use Rattle.std.proofs.Common.{◌≡◌, ℕ, ◌+◌, ◌-◌, ◌*◌, ◌/◌, ◌%◌, inl, inr, ap, ap₂, ◌∙◌, arith, rules}
use Rattle.std.proofs.lemmas.List.{get_or-set_same, get_or-set_other}
use Rattle.std.proofs.lemmas.Bool.{cases_lt}
use Rattle.crc32.specs.Tables.{shifts}
use Rattle.crc32.proofs.ShiftLemmas.{shifts-shifts}
use Rattle.crc32.proofs.tables.Tables.new.Goals as goal
use Rattle.crc32.proofs.tables.Tables.new.Goals.{then-place-lt-BYTES, else-place-lt-BYTES}

-- The word before its shifts is the byte itself, or the word of the same byte in the table before.
word_before : (c : goal.After-eight_shifts) → c.if-place-lt-BYTES.word ≡ shifts (8 * (c.places.place / 256)) (c.places.place % 256)
unfolding shifts
word_before c =
    elim c.if-place-lt-BYTES.branch [
      | then-place-lt-BYTES w ↦
          let first : 8 * (c.places.place / 256) ≡ 0 = omega arith in
          let byte : c.places.place % 256 ≡ c.places.place = omega arith in
          rw (first, byte) w.word-is
      | else-place-lt-BYTES w ↦
          let before : ℕ = c.places.place - 256 in
          let table : 8 * (before / 256 + 1) ≡ 8 * (c.places.place / 256) = omega arith in
          let byte : before % 256 ≡ c.places.place % 256 = omega arith in
          w.word-is ∙ c.places.invariant.1 before (omega arith) ∙ ap₂ shifts table byte
    ]

pub places-preserved : goal.places-preserved
places-preserved c =
    let place : ℕ = c.places.place in
    let count : 8 + 8 * (place / 256) ≡ 8 * (place / 256 + 1) = omega arith in
    let word : c.eight_shifts.result ≡ shifts (8 * (place / 256 + 1)) (place % 256) =
    c.eight_shifts.ensures ∙ ap (shifts 8) (word_before c) ∙ shifts-shifts 8 (8 * (place / 256)) (place % 256)
    ∙ ap (λ (k : ℕ). shifts k (place % 256)) count in (
      search rules,
      λ p low. elim (cases_lt p place) [
        | inl under ↦ get_or-set_other c.places.words place p c.eight_shifts.result 0 (omega arith) ∙ c.places.invariant.1 p under
        | inr over ↦
            let same : place ≡ p = omega arith in
            rw (← same) (get_or-set_same c.places.words place c.eight_shifts.result 0 (omega arith) ∙ word)
      ],
    )
