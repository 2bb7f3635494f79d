use Rattle.std.proofs.lemmas.Result.{err_from_is_err_and}
use Rattle.cues_seekhead.proofs.AppendingLemmas.{PassesSome-refused}
use Rattle.cues_seekhead.proofs.out.OutFile.cluster.Goals as goal

-- A prefix of the bytes was written.
pub returns-in_err-append-clause-appended : goal.returns-in_err-append-clause-appended
returns-in_err-append-clause-appended g c =
    let p = err_from_is_err_and c.from_residual.result c.from_residual.ensures.1 in
    rw (p.1, ← c.self.view_is) (PassesSome-refused c.in_err-append.field-0.0 _ _ _ _ c.self.inside.file.n _ c.args.bytes.now c.in_err-append.ensures.failed
    (λ is. g.met.F.Files.names_stand c.append.new.self c.args.files.now (c.in_err-append.ensures.memory is)))
