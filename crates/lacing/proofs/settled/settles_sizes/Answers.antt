-- Each turn takes one unread size; at the end the last one gets the bytes that remain.
use Rattle.std.proofs.Common.{◌≡◌, ◌+◌, ◌-◌, drop, None, Some, ◌∙◌, sym, ap, arith}
use Rattle.std.proofs.lemmas.List.{drop-drop, take_rest}
use Rattle.ebml_numbers.specs.Number.{AreOctets}
use Rattle.lacing.specs.Reading.{any_size, fitting, sizes_in}
use Rattle.lacing.specs.Settled.{with_zeros}
use Rattle.lacing.proofs.SettledLemmas.{settles_rest-all, settles_rest-more, settles_rest-stop, settles_rest-end, size_in-settled, size_in-unsettled}
use Rattle.lacing.proofs.settled.settles_sizes.Goals as goal

pub loop-left-init : goal.loop-left-init
loop-left-init c =
    let all = sizes_in c.args.kind (c.args.count - 1) None (with_zeros c.args.front.now c.args.len) in
    record {
      settles = settles_rest-all c.args.front.now c.args.len all;
      inside = omega arith;
      few = omega arith;
      small = omega arith;
    }

-- The next size doesn't lie in the first bytes.
pub returns-in_default : goal.returns-in_default
returns-in_default c =
    let left = c.loop-left in
    let front = c.args.front.now in
    let octets : AreOctets front = λ i. omega (arith, c.type_inv.front i) in
    let none : fitting (c.args.len - left.head) (any_size c.args.kind left.before (drop left.head front)) ≡ None =
    ap (λ o. fitting (c.args.len - left.head) (any_size c.args.kind left.before o)) (sym (take_rest front left.head)) ∙ sym c.fitting_size.ensures.read ∙ c.in_default.is in
    sym (settles_rest-stop c.args.kind front c.args.len left.head left.total left.left left.before (drop left.head (with_zeros front c.args.len)) (omega arith)
    (λ size len. size_in-unsettled c.args.kind left.before front c.args.len left.head size len octets c.requires.inside left.invariant.inside none))
    ∙ left.invariant.settles

pub loop-left-preserved : goal.loop-left-preserved
loop-left-preserved c =
    let left = c.loop-left in
    let front = c.args.front.now in
    let whole = with_zeros front c.args.len in
    let octets : AreOctets front = λ i. omega (arith, c.type_inv.front i) in
    let size = c.in-Some.size in
    let len = c.in-Some.octets in
    let read : fitting (c.args.len - left.head) (any_size c.args.kind left.before (drop left.head front)) ≡ Some (size, len) =
    ap (λ o. fitting (c.args.len - left.head) (any_size c.args.kind left.before o)) (sym (take_rest front left.head)) ∙ sym c.fitting_size.ensures.read ∙ c.in-Some.is in
    let found = size_in-settled c.args.kind left.before front c.args.len left.head size len octets c.requires.inside left.invariant.inside read in
    let more = settles_rest-more c.args.kind front c.args.len left.head left.total (left.left - 1) left.left left.before (drop left.head whole) size len (omega arith) found.0 in
    let behind : drop len (drop left.head whole) ≡ drop (left.head + len) whole = drop-drop len left.head whole in
    rw c.from-total.ensures (record {
      settles = rw (← behind) (sym more ∙ left.invariant.settles);
      inside = found.1;
      few = omega arith;
      small = omega (arith, found.2);
    })

pub returns : goal.returns
returns c =
    let left = c.loop-left in
    let front = c.args.front.now in
    sym (settles_rest-end c.args.kind front c.args.len left.head left.total left.left left.before (drop left.head (with_zeros front c.args.len)) (omega arith) left.invariant.inside)
    ∙ left.invariant.settles
