-- A turn moves the bytes of one size from the unwritten to the written ones.
use Rattle.std.proofs.Common.{◌≡◌, ◌+◌, ◌++◌, length, take, drop, slice_index, None, Some, append_assoc, append-nil, ◌∙◌, ap, sym, refl, arith}
use Rattle.std.proofs.lemmas.List.{length-append, length-take-le, take_all}
use Rattle.lacing.specs.Writing.{octets_of_size, octets_of_sizes}
use Rattle.lacing.proofs.WritingLemmas.{octets_of_sizes-more, octets_of_sizes-end}
use Rattle.lacing.proofs.writing.put_spelled.Goals as goal

pub put_spelling_at-at-requires : goal.put_spelling_at-at-requires
put_spelling_at-at-requires c =
    let left = c.loop-size in
    let size = slice_index c.args.sizes.now left.size-index in
    let one = octets_of_size c.args.kind left.before size in
    let rest = octets_of_sizes c.args.kind (Some size) (drop (left.size-index + 1) c.args.sizes.now) in
    let more = octets_of_sizes-more c.args.kind left.before c.args.sizes.now left.size-index size c.loop-size-test.true refl in
    let written = length-take-le left.at left.out left.invariant.inside in
    let all = length-append (take left.at left.out) (octets_of_sizes c.args.kind left.before (drop left.size-index c.args.sizes.now)) in
    omega (arith, ap length left.invariant.whole, ap length more, length-append one rest, left.auto.out, c.requires)

pub loop-size-preserved : goal.loop-size-preserved
loop-size-preserved c =
    let left = c.loop-size in
    let size = slice_index c.args.sizes.now left.size-index in
    let one = octets_of_size c.args.kind left.before size in
    let rest = octets_of_sizes c.args.kind (Some size) (drop (left.size-index + 1) c.args.sizes.now) in
    let more = octets_of_sizes-more c.args.kind left.before c.args.sizes.now left.size-index size c.loop-size-test.true refl in
    record {
      inside = c.put_spelling_at-at.ensures.inside;
      whole = rw c.put_spelling_at-at.ensures.written
          (append_assoc (take left.at left.out) one rest ∙ ap (λ x. take left.at left.out ++ x) (sym more) ∙ left.invariant.whole);
    }

pub returns : goal.returns
returns c =
    let left = c.loop-size in
    let end = octets_of_sizes-end c.args.kind left.before c.args.sizes.now left.size-index c.loop-size-test.false in
    let whole : take left.at left.out ≡ octets_of_sizes c.args.kind None c.args.sizes.now =
    sym (append-nil (take left.at left.out)) ∙ ap (λ x. take left.at left.out ++ x) (sym end) ∙ left.invariant.whole in
    let written = length-take-le left.at left.out left.invariant.inside in
    sym (take_all left.at left.out (omega (arith, ap length whole, left.auto.out, c.requires))) ∙ whole
