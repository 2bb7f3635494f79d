use Rattle.remerge_laws.proofs.MergedAgainLemmas.{written-again}
use Rattle.remerge_laws.proofs.merges.outputs_are_written_again.Goals as goal

pub returns : goal.returns
returns c =
    written-again c.sources_are_read.ensures c.sources_are_plain.ensures c.outputs_are_repeated.ensures c.outputs_are_sources.ensures c.merge_is_done.ensures
