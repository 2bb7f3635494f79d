-- The first outputs have the block, and only the outputs were written.
use Rattle.std.proofs.Common.{◌≡◌, List, length, take}
use Rattle.mkv_io.specs.Names.{Names}
use Rattle.block_format.specs.Block.{Block}
use Rattle.mkv_outputs.specs.Sinks.{HaveBeenGiven, WritesOutputs}
use Rattle.extractors.specs.Takes.{IsEnoughForAll}
use Rattle.extractors.specs.Walks.{HaveBlocks, numbers_after}
use Rattle.extractors.proofs.BadFramesLemmas.{bad_of_first}
use Rattle.extractors.proofs.BlocksLemmas.{given_upto, numbers_upto}
use Rattle.extractors.proofs.blocks.give_block.Given as goal

abbrev pub invariant-loop-k : goal.invariant-loop-k
invariant-loop-k g l = record {
  has : (b : Block) → IsEnoughForAll l.list b l.cursor.block → (since : Names) (blocks : List Block) → HaveBlocks g.F.Files since l.list l.initial.files l.initial.outputs l.initial.numbers.items blocks → HaveBeenGiven since (g.F.Files.names l.files) (g.F.Files.holder l.files) l.outputs (given_upto l.k l.list blocks b);
  numbers : (b : Block) → IsEnoughForAll l.list b l.cursor.block → (blocks : List Block) → l.initial.numbers.items ≡ numbers_after l.list blocks → l.numbers.items ≡ numbers_upto l.k l.list blocks b;
  bad : (b : Block) → IsEnoughForAll l.list b l.cursor.block → l.bad ≡ bad_of_first (take l.k l.list) b;
  kept : length l.numbers.items ≡ length l.initial.numbers.items;
  count : length l.outputs ≡ length l.initial.outputs;
  wrote : WritesOutputs g.F.Reads g.F.Files l.initial.files l.files l.initial.outputs l.outputs;
  writing : g.F.Files.writing_faults l.files ≡ g.F.Files.writing_faults l.initial.files;
}
