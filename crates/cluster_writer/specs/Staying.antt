-- The contents of the buffer for a Cluster while its bytes are borrowed.
use Rattle.std.specs.Prelude.{◌≡◌, ⊤}
use Rattle.std.specs.Borrow.{MutBor, Fml}
use mathlib.Core.Option.{none}
use denote.Follow.{follows_so}
use Rattle.cluster_writer.specs.contracts.buffer.ClusterBuf.{the_row}
use Rattle.cluster_writer.specs.Gathered.{Gathered}

-- The contents of the buffer `buffer` are the same after its bytes were borrowed, so that the caller can write them. The contract of
-- `ClusterBuf::octets` states it.
abbrev pub StaysAsItIs : MutBor Gathered → Fml
StaysAsItIs buffer = follows_so the_row the_row buffer.ghost_name none (λ _ _. ⊤) (λ after. after ≡ buffer.now)
