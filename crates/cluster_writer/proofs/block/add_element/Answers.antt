use Rattle.std.proofs.Common.{ℕ, Bool, if◌then◌else◌, length, arith, ap, ◌∙◌}
use Rattle.cluster_writer.specs.Lengths.{group_len}
use Rattle.cluster_writer.proofs.BlockLemmas.{whole-alone, whole-grouped}
use Rattle.cluster_writer.proofs.block.add_element.Goals as goal

pub add_group-requires-clause-body : goal.add_group-requires-clause-body
add_group-requires-clause-body c =
    let b = c.args.block.now in
    let l = c.args.lengths in
    let P : Bool → ℕ = λ g. if g then group_len b.head.now l.block b.references.now (length b.kept.now) else l.block in
    c.requires.lengths.body ∙ ap P c.if-block.true

pub add_group-requires-clause-most : goal.add_group-requires-clause-most
add_group-requires-clause-most c =
    omega (arith, c.requires.lengths.most, whole-grouped c.args.block.now c.args.lengths c.requires.block.lent c.requires.lengths c.if-block.true)

pub add_group-requires-clause-room : goal.add_group-requires-clause-room
add_group-requires-clause-room c =
    omega (arith, c.requires.room, whole-grouped c.args.block.now c.args.lengths c.requires.block.lent c.requires.lengths c.if-block.true)

pub add_block_element-requires-clause-most : goal.add_block_element-requires-clause-most
add_block_element-requires-clause-most c =
    omega (arith, c.requires.lengths.most, whole-alone c.args.block.now c.args.lengths c.requires.block.lent c.requires.lengths c.if-block.false)

pub add_block_element-requires-clause-room : goal.add_block_element-requires-clause-room
add_block_element-requires-clause-room c =
    omega (arith, c.requires.room, whole-alone c.args.block.now c.args.lengths c.requires.block.lent c.requires.lengths c.if-block.false)
