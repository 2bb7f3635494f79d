use Rattle.mkv_outputs.proofs.WrittenLemmas.{PassesOn-all, PassesSome-refused, Passes-err}
use Rattle.mkv_outputs.proofs.sink.flush.Goals as goal

-- The append failed.
pub returns-in_err-append-clause-passes : goal.returns-in_err-append-clause-passes
returns-in_err-append-clause-passes g c =
    Passes-err c.from_residual.result _ _ _ _ _ c.from_residual.ensures.0
    (rw c.as_slice.ensures at (PassesSome-refused c.in_err-append.field-0.0 _ _ _ _ c.args.sink.now.file.n _ c.as_slice.result.now c.in_err-append.ensures.failed
    (λ is. g.met.F.Files.names_stand c.append.new.self c.args.files.now (c.in_err-append.ensures.memory is))))

-- All waiting bytes were written.
pub returns-in_ok-append-clause-passes : goal.returns-in_ok-append-clause-passes
returns-in_ok-append-clause-passes g c = PassesOn-all _ _ _ c.args.sink.now.waiting _ c.clear.ensures (rw c.as_slice.ensures at c.in_ok-append.ensures.ok.names)
