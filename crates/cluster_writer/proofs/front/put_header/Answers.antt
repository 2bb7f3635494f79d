use Rattle.std.proofs.Common.{◌∙◌, arith}
use Rattle.cluster_writer.specs.declared.front.TheConstants.{FRONT}
use Rattle.cluster_writer.proofs.front.put_header.Goals as goal

pub returns-clause-same : goal.returns-clause-same
returns-clause-same c =
    c.put_before.ensures.same FRONT (omega arith) ∙ c.put_before-at.ensures.same FRONT (omega arith) ∙ c.put_timestamp-at.ensures.same FRONT (omega arith)
