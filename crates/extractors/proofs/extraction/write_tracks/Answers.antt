use Rattle.mkv_outputs.proofs.FilesLemmas.{KeepsOthers-ended}
use Rattle.extractors.specs.Content.{names_in}
use Rattle.extractors.proofs.extraction.write_tracks.Goals as goal

-- The outputs were created and closed.
pub returns-clause-kept : goal.returns-clause-kept
returns-clause-kept g c =
    KeepsOthers-ended g.F.Reads g.F.Files (names_in c.args.list.now) c.args.files.now c.write_all-ended.new.files c.close.new.files c.write_all-ended.new.outputs
    (λ file live. g.met.F.Files.numbered c.args.files.now file live) c.write_all-ended.ensures.made c.close.ensures
