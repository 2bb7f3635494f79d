use Rattle.remerge_laws.proofs.OwnFileLemmas.{own-files}
use Rattle.remerge_laws.proofs.records.own_files_stay.Goals as goal

pub returns : goal.returns
returns c = own-files
