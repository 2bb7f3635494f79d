-- The names among the previous parts were added.
use Rattle.std.proofs.Common.{map}
use Rattle.record_changes.specs.Statistics.{AddsNames, names_among}
use Rattle.record_changes.proofs.statistics.add_list.Given as goal

abbrev pub invariant-loop-part : goal.invariant-loop-part
invariant-loop-part l = AddsNames l.initial.names.keys l.names.keys (names_among (map (λ p. p.now) l.yielded))
