-- The first row with the ending is among the rows that are left.
use Rattle.std.proofs.Common.{◌≡◌, ℕ, List, map, drop}
use Rattle.std.specs.List.{find}
use Rattle.merge_words.specs.Attached.{is_same_ending, shown}
use Rattle.merge_words.proofs.attached.media_type_among.Given as goal

abbrev pub invariant-loop-row : goal.invariant-loop-row
invariant-loop-row l =
    find (λ (row : List ℕ × List ℕ). is_same_ending row.0 l.ending) (map shown l.rows) ≡ find (λ (row : List ℕ × List ℕ). is_same_ending row.0 l.ending) (map shown (drop l.row-index l.rows))
