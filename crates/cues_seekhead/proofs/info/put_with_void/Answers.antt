-- The header, the children before the Duration, the Void and the other children follow in sequence.
use Rattle.std.proofs.Common.{◌∙◌, arith}
use Rattle.cues_seekhead.proofs.DurationLemmas.{void-written}
use Rattle.cues_seekhead.proofs.info.put_with_void.Goals as goal

pub returns-clause-octets : goal.returns-clause-octets
returns-clause-octets c =
    let parts = c.split_at.result in
    (void-written c.args.info.now c.in_ok-len.len parts.0.now parts.1.now c.args.out.now c.put_header.new.out c.put_children.new.out c.put_void.new.out c.put_children-2.new.out c.requires
    (rw (c.duration_index.ensures.exact, c.children-children.ensures.exact) at c.split_at.ensures.front) (rw (c.duration_index.ensures.exact, c.children-children.ensures.exact) at c.split_at.ensures.back)
    (omega (arith, c.in_ok-len.ensures.0, c.in_ok-children_len.ensures.exact, c.in_ok-children_len-2.ensures.exact))
    c.in_ok-put_header.ensures.ok c.in_ok-put_children.ensures c.in_ok-put_void.ensures.ok c.in_ok-put_children-2.ensures).0

pub returns-clause-place : goal.returns-clause-place
returns-clause-place c =
    let parts = c.split_at.result in
    c.len-place.ensures.exact ∙ (void-written c.args.info.now c.in_ok-len.len parts.0.now parts.1.now c.args.out.now c.put_header.new.out c.put_children.new.out c.put_void.new.out c.put_children-2.new.out c.requires
    (rw (c.duration_index.ensures.exact, c.children-children.ensures.exact) at c.split_at.ensures.front) (rw (c.duration_index.ensures.exact, c.children-children.ensures.exact) at c.split_at.ensures.back)
    (omega (arith, c.in_ok-len.ensures.0, c.in_ok-children_len.ensures.exact, c.in_ok-children_len-2.ensures.exact))
    c.in_ok-put_header.ensures.ok c.in_ok-put_children.ensures c.in_ok-put_void.ensures.ok c.in_ok-put_children-2.ensures).1
