use Rattle.std.proofs.Common.{ap, ◌∙◌}
use Rattle.mkv_io.specs.declared.outside.FileId.{FileId}
use Rattle.mkv_outputs.proofs.WrittenLemmas.{Passes-behind, Passes-err, PassesOn-none, PassesSome-more}
use Rattle.mkv_outputs.proofs.sink.write.Goals as goal

-- Memory ran out.
pub returns-in_err-append-clause-passes : goal.returns-in_err-append-clause-passes
returns-in_err-append-clause-passes g c =
    Passes-err c.from_residual.result _ _ _ _ _ c.from_residual.ensures.0 (record { left = _; passed = PassesOn-none _ _ _ })

-- The waiting bytes weren't written.
pub returns-in_err-flush-clause-passes : goal.returns-in_err-flush-clause-passes
returns-in_err-flush-clause-passes g c =
    Passes-err c.from_residual-in_err-flush.result _ _ _ _ _ c.from_residual-in_err-flush.ensures.0 (PassesSome-more _ _ _ _ c.args.bytes.now c.in_err-flush.ensures.passes)

-- The waiting bytes were written, then the new ones.
pub returns-clause-passes : goal.returns-clause-passes
returns-clause-passes g c =
    Passes-behind c.pass.result _ _ _ _ _ c.args.sink.now.waiting c.args.bytes.now _ _ c.in_ok-flush.ensures.ok
    (ap (λ (f : FileId). g.F.Files.holder c.flush.new.files f.n) c.flush.ensures.file ∙ c.flush.ensures.only.kept.holders c.args.sink.now.file.n c.requires.live)
    c.in_ok-flush.ensures.passes c.pass.ensures.passes
