use Rattle.std.proofs.Common.{rules}
use Rattle.cluster_writer.proofs.BufferLemmas.{Holds-same}
use Rattle.cluster_writer.proofs.buffer.ClusterBuf.reserve.Goals as goal

pub returns-clause-holds : goal.returns-clause-holds
returns-clause-holds c = λ k holds. Holds-same k c.args.self.now _ (search rules) holds
