use Rattle.std.proofs.Common.{◌≡◌, List, ℕ, ◌++◌, length, map, append_assoc, arith, sym, subst, ◌∙◌}
use Rattle.mkv_schema.specs.declared.ids.TheConstants.{BLOCK_GROUP, BLOCK}
use Rattle.tree_format.specs.NormalForm.{header_octets}
use Rattle.output_model.specs.Element.{element, octets_of, joined}
use Rattle.cluster_writer.specs.Room.{Adds}
use Rattle.cluster_writer.proofs.RoomLemmas.{Adds-two}
use Rattle.output_model.specs.Block.{block_octets, group_octets, duration_elements, reference_element}
use Rattle.cluster_writer.specs.Lent.{block_of}
use Rattle.cluster_writer.specs.Lengths.{behind_octets}
use Rattle.cluster_writer.proofs.LengthLemmas.{length-element, length-group}
use Rattle.cluster_writer.proofs.BlockLemmas.{length-put}
use Rattle.cluster_writer.proofs.block.add_group.Goals as goal

pub add_behind-requires : goal.add_behind-requires
add_behind-requires c =
    let b = c.args.block.now in
    let octets = block_octets c.args.timestamp (block_of b) in
    omega (
      arith,
      c.requires.room,
      c.requires.body,
      c.add_header.ensures.len,
      c.add_header.ensures.capacity,
      c.add_block_element.ensures.len,
      c.add_block_element.ensures.capacity,
      length-element BLOCK octets c.args.len (length-put c.args.timestamp b c.requires.block.put.lent ∙ sym c.requires.len),
    )

-- The group is its header, the Block's element and the children after it.
pub returns : goal.returns
returns c =
    let b = c.args.block.now in
    let o = block_of b in
    let octets = block_octets c.args.timestamp o in
    let counted : c.args.body ≡ length (group_octets c.args.timestamp o) =
    c.requires.body ∙ sym (length-group o octets c.args.len (length-put c.args.timestamp b c.requires.block.put.lent ∙ sym c.requires.len)) in
    let P : ℕ → Type 0 = λ n. Adds c.args.out.now c.add_behind.new.out (header_octets BLOCK_GROUP n ++ (octets_of (element BLOCK octets) ++ behind_octets o)) in
    let all = subst P counted (Adds-two _ _ _ _ _ c.add_header.ensures (Adds-two _ _ _ _ _ c.add_block_element.ensures c.add_behind.ensures)) in
    let Q : List ℕ → Type 0 = λ body. Adds c.args.out.now c.add_behind.new.out (header_octets BLOCK_GROUP (length (group_octets c.args.timestamp o)) ++ body) in
    subst Q (sym (append_assoc (octets_of (element BLOCK octets)) (joined (duration_elements o.duration ++ map reference_element o.references)) o.kept)) all
