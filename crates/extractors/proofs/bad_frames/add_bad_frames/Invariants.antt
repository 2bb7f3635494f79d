-- The first frames are reported.
use Rattle.std.proofs.Common.{replicate}
use Rattle.block_reader.specs.Buffered.{block_of}
use Rattle.extractors.specs.BadFrames.{TellsMore, bad_frame}
use Rattle.extractors.proofs.bad_frames.add_bad_frames.Given as goal

abbrev pub invariant-loop : goal.invariant-loop
invariant-loop l = TellsMore l.initial.bad l.bad (replicate l.counter (bad_frame (block_of l.cursor.block)))
