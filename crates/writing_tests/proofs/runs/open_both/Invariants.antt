use Rattle.std.specs.List.{All}
use Rattle.mkv_io.specs.Sources.{IsLive}
use Rattle.writing_tests.proofs.runs.open_both.Given as goal

abbrev pub invariant-loop-name : goal.invariant-loop-name
invariant-loop-name g l = All (λ file. IsLive g.F.Reads l.files file) l.opened.items
