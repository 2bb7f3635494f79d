use Rattle.mkv_outputs.proofs.FilesLemmas.{WritesOutputs-then}
use Rattle.extractors.proofs.FramesLemmas.{Gives-err, Gives-then, HasPart-first}
use Rattle.extractors.proofs.frames.give_behind.Goals as goal

-- The prefix was written in part.
pub returns-in_err-write-clause-gives : goal.returns-in_err-write-clause-gives
returns-in_err-write-clause-gives g c =
    Gives-err g.F.Files c.args.files.now c.write.new.files c.args.outputs.now c.write.new.self c.args.k _ c.from_residual.result c.from_residual.ensures.0
    (HasPart-first g.F.Files c.args.files.now c.write.new.files c.args.outputs.now c.args.k c.args.prefix.now c.args.octets.now c.in_err-write.ensures.gives)

-- The bytes follow the prefix.
pub returns-clause-gives : goal.returns-clause-gives
returns-clause-gives g c =
    Gives-then g.F.Files c.args.files.now c.write.new.files c.write-2.new.files c.args.outputs.now c.write.new.self c.write-2.new.self c.args.k c.args.prefix.now c.args.octets.now c.write-2.result c.in_ok-write.ensures.gives c.write-2.ensures.gives

-- Both were written.
pub returns-clause-only : goal.returns-clause-only
returns-clause-only g c =
    WritesOutputs-then g.F.Reads g.F.Files c.args.files.now c.write.new.files c.write-2.new.files c.args.outputs.now c.write.new.self c.write-2.new.self c.requires.open c.write.ensures.only c.write-2.ensures.only
