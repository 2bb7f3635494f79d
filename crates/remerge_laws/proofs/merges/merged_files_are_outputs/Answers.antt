use Rattle.remerge_laws.proofs.MergedFileLemmas.{files-are-outputs}
use Rattle.remerge_laws.proofs.merges.merged_files_are_outputs.Goals as goal

pub returns : goal.returns
returns c = files-are-outputs c.whole_merges_have_one_document.ensures
