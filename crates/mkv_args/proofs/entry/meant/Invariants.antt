-- The first entry that has the word as a spelling is among the entries that are left.
use Rattle.std.proofs.Common.{◌≡◌, map, drop}
use Rattle.std.specs.List.{find}
use Rattle.mkv_args.specs.Entry.{shown, spelled}
use Rattle.mkv_args.proofs.entry.meant.Given as goal

abbrev pub invariant-loop-entry : goal.invariant-loop-entry
invariant-loop-entry g l = find (spelled l.word) (map shown l.entries) ≡ find (spelled l.word) (map shown (drop l.entry-index l.entries))
