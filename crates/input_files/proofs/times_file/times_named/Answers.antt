use Rattle.std.proofs.Common.{◌++◌, map, ◌∙◌, ap}
use Rattle.input_files.specs.TimesFile.{named_of}
use Rattle.input_files.proofs.TimesLemmas.{named-all, named-more}
use Rattle.input_files.proofs.times_file.times_named.Goals as goal

-- The files of one more input.
pub loop-input-preserved : goal.loop-input-preserved
loop-input-preserved c =
    named-more c.args.words.now c.loop-input.input c.index-words-input.result c.loop-input.named c.add_named.new.named c.loop-input-test.true c.index-words-input.is c.loop-input.invariant
    (c.in_ok-add_named.ensures ∙ ap (λ times. c.loop-input.named ++ map (named_of c.loop-input.input) times) c.as_slice.ensures)

-- The files of all inputs.
pub returns : goal.returns
returns c = named-all c.args.words.now c.loop-input.input c.loop-input.named c.loop-input-test.false c.loop-input.invariant
