-- The row is among the rest.
use Rattle.std.proofs.Common.{◌≡◌, map, drop}
use Rattle.std.specs.List.{find}
use Rattle.merge_words.specs.Options.{shown, spelled}
use Rattle.merge_words.proofs.options.meaning_among.Given as goal

abbrev pub invariant-loop-row : goal.invariant-loop-row
invariant-loop-row l = find (spelled l.word) (map shown l.rows) ≡ find (spelled l.word) (map shown (drop l.row-index l.rows))
