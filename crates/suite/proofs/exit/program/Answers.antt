use Rattle.std.proofs.Common.{◌∙◌}
use Rattle.std.specs.Process.{exit_status}
use Rattle.suite.proofs.MergedLemmas.{code-merged}
use Rattle.suite.proofs.exit.program.Goals as goal

-- The exit status is the number of the run's status, and a successful run has written its merge.
pub returns-in-Ok-clause-merged : goal.returns-in-Ok-clause-merged
returns-in-Ok-clause-merged g c =
    rw c.in-Ok.is (λ below. code-merged _ _ _ c.run.result (exit_status c.from.result) (c.from.ensures ∙ c.code.ensures) below c.run.ensures.output_holds_the_merge)

-- The exit status is the number of the run's status.
pub returns-in-Ok-clause-ok : goal.returns-in-Ok-clause-ok
returns-in-Ok-clause-ok g c =
    rw c.in-Ok.is (record { status = c.run.result; number = c.from.ensures ∙ c.code.ensures; runs = c.run.ensures })

-- The words were read.
pub run-requires : goal.run-requires
run-requires g c = rw c.in-Ok.is at c.requires
