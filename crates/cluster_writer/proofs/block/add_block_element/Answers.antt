use Rattle.std.proofs.Common.{List, ℕ, ◌++◌, append_assoc, arith, sym, subst, ◌∙◌}
use Rattle.std.proofs.lemmas.List.{length-append}
use Rattle.tree_format.specs.NormalForm.{header_octets}
use Rattle.cluster_writer.specs.Room.{Adds}
use Rattle.cluster_writer.proofs.RoomLemmas.{Adds-two}
use Rattle.output_model.specs.Block.{block_header, block_octets}
use Rattle.cluster_writer.specs.Lent.{lent_of, block_of}
use Rattle.cluster_writer.proofs.FramesLemmas.{can-prefixed}
use Rattle.cluster_writer.proofs.LengthLemmas.{length-header, length-frames}
use Rattle.cluster_writer.proofs.BlockLemmas.{block-parts, length-put}
use Rattle.cluster_writer.proofs.block.add_block_element.Goals as goal

pub add_lace-requires-clause-can : goal.add_lace-requires-clause-can
add_lace-requires-clause-can c = can-prefixed _ _ _ _ _ c.requires.block.put.lent.limits

pub add_lace-requires-clause-room : goal.add_lace-requires-clause-room
add_lace-requires-clause-room c =
    let b = c.args.block.now in
    omega (
      arith,
      c.requires.room,
      c.requires.len,
      c.add_headers.ensures.len,
      c.add_headers.ensures.capacity,
      length-append (header_octets c.args.id c.args.len) (block_header c.args.timestamp (block_of b)),
      length-header c.args.timestamp (block_of b),
    )

pub add_frames-requires-clause-room : goal.add_frames-requires-clause-room
add_frames-requires-clause-room c =
    let b = c.args.block.now in
    omega (
      arith,
      c.requires.room,
      c.requires.len,
      c.add_headers.ensures.len,
      c.add_headers.ensures.capacity,
      c.add_lace.ensures.len,
      c.add_lace.ensures.capacity,
      length-append (header_octets c.args.id c.args.len) (block_header c.args.timestamp (block_of b)),
      length-header c.args.timestamp (block_of b),
      length-frames (lent_of b) c.requires.block.put.lent,
    )

pub returns : goal.returns
returns c =
    let b = c.args.block.now in
    let octets = block_octets c.args.timestamp (block_of b) in
    let P : ℕ → Type 0 = λ n. Adds c.args.out.now c.add_frames.new.out (header_octets c.args.id n ++ octets) in
    let Q : List ℕ → Type 0 = λ body. Adds c.args.out.now c.add_frames.new.out (header_octets c.args.id c.args.len ++ body) in
    let R : List ℕ → Type 0 = λ all. Adds c.args.out.now c.add_frames.new.out all in
    let all = Adds-two _ _ _ _ _ c.add_headers.ensures (Adds-two _ _ _ _ _ c.add_lace.ensures c.add_frames.ensures) in
    subst P (c.requires.len ∙ sym (length-put c.args.timestamp b c.requires.block.put.lent))
    (subst Q (sym (block-parts c.args.timestamp b c.requires.block.put.lent))
    (subst R (append_assoc (header_octets c.args.id c.args.len) (block_header c.args.timestamp (block_of b)) _) all))
