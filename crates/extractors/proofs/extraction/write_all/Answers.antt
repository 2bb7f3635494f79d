use Rattle.std.proofs.Common.{[], sym, ◌∙◌}
use Rattle.block_format.specs.Events.{blocks_of}
use Rattle.cluster_reader.specs.Reading.{left_of}
use Rattle.mkv_outputs.proofs.GivenLemmas.{HaveBeenGiven-count}
use Rattle.mkv_outputs.proofs.StartsLemmas.{ArePrefixes-then}
use Rattle.extractors.specs.Content.{outputs_of}
use Rattle.extractors.proofs.ContentLemmas.{outputs_of-begun}
use Rattle.extractors.proofs.MakeLemmas.{AreWritten-err, length-outputs, made-input, made-walked}
use Rattle.extractors.proofs.WalkLemmas.{WritesAndReads-write}
use Rattle.extractors.proofs.extraction.write_all.Goals as goal

-- Some outputs weren't created.
pub returns-in_err-make_all-clause-writes : goal.returns-in_err-make_all-clause-writes
returns-in_err-make_all-clause-writes g c = λ bytes told.
    AreWritten-err (g.F.Files.names c.args.files.now) (g.F.Files.names c.make_all.new.files) (outputs_of c.args.list.now (blocks_of (left_of bytes c.args.cursor.now))) c.from_residual.result c.from_residual.ensures.0
    (ArePrefixes-then (g.F.Files.names c.args.files.now) (g.F.Files.names c.make_all.new.files) (outputs_of c.args.list.now []) (outputs_of c.args.list.now (blocks_of (left_of bytes c.args.cursor.now)))
    c.in_err-make_all.ensures.makes (outputs_of-begun c.args.list.now [] (blocks_of (left_of bytes c.args.cursor.now))))

-- All outputs were created.
pub write_blocks-requires-clause-count : goal.write_blocks-requires-clause-count
write_blocks-requires-clause-count g c =
    sym (length-outputs c.args.list.now [])
    ∙ HaveBeenGiven-count (g.F.Files.names c.args.files.now) (g.F.Files.names c.make_all.new.files) (g.F.Files.holder c.make_all.new.files) c.make_all.new.outputs (outputs_of c.args.list.now []) c.in_ok-make_all.ensures.makes

-- No output has the name of the file that is read.
pub write_blocks-requires-clause-other : goal.write_blocks-requires-clause-other
write_blocks-requires-clause-other g c =
    made-input (g.F.Files.names c.args.files.now) (g.F.Files.names c.make_all.new.files) (g.F.Files.holder c.args.files.now) (g.F.Files.holder c.make_all.new.files) c.make_all.new.outputs c.args.list.now c.args.cursor.now.file.n
    c.in_ok-make_all.ensures.makes (c.make_all.ensures.made.holders c.args.cursor.now.file.n c.requires.stands.live) c.requires.other

-- Only the outputs were written.
pub returns-in_err-extracted-clause-made : goal.returns-in_err-extracted-clause-made
returns-in_err-extracted-clause-made g c =
    made-walked g.F.Reads g.F.Files (g.F.Files.names c.args.files.now) c.args.files.now c.make_all.new.files c.write_blocks.new.files c.args.list.now c.make_all.new.outputs c.write_blocks.new.outputs
    (λ file live. g.met.F.Files.numbered c.args.files.now file live) c.in_ok-make_all.ensures.makes c.make_all.ensures.made c.write_blocks.ensures.walks

pub returns-in_err-flush-clause-made : goal.returns-in_err-flush-clause-made
returns-in_err-flush-clause-made g c =
    made-walked g.F.Reads g.F.Files (g.F.Files.names c.args.files.now) c.args.files.now c.make_all.new.files c.flush.new.files c.args.list.now c.make_all.new.outputs c.flush.new.self
    (λ file live. g.met.F.Files.numbered c.args.files.now file live) c.in_ok-make_all.ensures.makes c.make_all.ensures.made
    (WritesAndReads-write g.F.Reads g.F.Files c.make_all.new.files c.write_blocks.new.files c.flush.new.files c.make_all.new.outputs c.write_blocks.new.outputs c.flush.new.self c.make_all.ensures.open c.write_blocks.ensures.walks c.flush.ensures.only)

pub returns-clause-made : goal.returns-clause-made
returns-clause-made g c =
    made-walked g.F.Reads g.F.Files (g.F.Files.names c.args.files.now) c.args.files.now c.make_all.new.files c.flush.new.files c.args.list.now c.make_all.new.outputs c.flush.new.self
    (λ file live. g.met.F.Files.numbered c.args.files.now file live) c.in_ok-make_all.ensures.makes c.make_all.ensures.made
    (WritesAndReads-write g.F.Reads g.F.Files c.make_all.new.files c.write_blocks.new.files c.flush.new.files c.make_all.new.outputs c.write_blocks.new.outputs c.flush.new.self c.make_all.ensures.open c.write_blocks.ensures.walks c.flush.ensures.only)
