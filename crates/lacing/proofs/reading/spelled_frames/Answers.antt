-- Each turn moves one size from the unread sizes to the read ones; at the end the rest is the last size.
use Rattle.std.proofs.Common.{◌≡◌, ℕ, ◌-◌, ◌+◌, ◌<◌, ◌≤◌, nat_le, ◌∷◌, ◌++◌, [], List, drop, length, sum, Some, None, ◌∙◌, sym, ap, arith}
use Rattle.std.proofs.lemmas.Bool.{cond-true, cond-false, le-leb, lt-leb}
use Rattle.std.proofs.lemmas.List.{drop-drop, length-append}
use Rattle.std.proofs.lemmas.List.Sums.{sum_by_push}
use Rattle.lacing.specs.Reading.{size_in, with_last}
use Rattle.lacing.proofs.LaceLemmas.{with_front-step, with_front-stop, with_front-end}
use Rattle.lacing.proofs.reading.spelled_frames.Goals as goal

pub returns-in_err-size-clause-read : goal.returns-in_err-size-clause-read
returns-in_err-size-clause-read c =
    let left = c.loop-kind in
    let none : size_in c.args.kind left.before (drop left.head c.args.bytes.now) ≡ None = sym c.size_in.ensures.read ∙ c.in_err-size.was in
    let stop = with_front-stop c.args.kind left.sizes.items left.head (c.args.count - 1 - length left.sizes.items) left.before (drop left.head c.args.bytes.now) (omega arith) none in
    rw c.from_residual.ensures (ap (with_last (length c.args.bytes.now)) (sym left.invariant.read ∙ stop))

pub loop-kind-preserved : goal.loop-kind-preserved
loop-kind-preserved c =
    let left = c.loop-kind in
    let items = left.sizes.items in
    let size = c.in_ok-size.size in
    let len = c.in_ok-size.len in
    let more : length (items ++ size ∷ []) ≡ length items + 1 = length-append items (size ∷ []) in
    let total = sum_by_push (λ (x : ℕ). x) items size in
    let first : size_in c.args.kind left.before (drop left.head c.args.bytes.now) ≡ Some (size, len) = sym c.size_in.ensures.read ∙ c.in_ok-size.was in
    let step = with_front-step c.args.kind items left.head (c.args.count - 1 - length (items ++ size ∷ [])) (c.args.count - 1 - length items) left.before (drop left.head c.args.bytes.now) size len (omega arith) first in
    let behind : drop len (drop left.head c.args.bytes.now) ≡ drop (left.head + len) c.args.bytes.now = drop-drop len left.head c.args.bytes.now in
    rw c.push_reserved.ensures.items (record {
      read = rw (← behind) (sym step ∙ left.invariant.read);
      inside = omega (arith, c.in_ok-size.ensures.inside);
      few = omega arith;
      total = omega arith;
      small = omega (arith, c.in_ok-size.ensures.inside);
      kept = c.push_reserved.ensures.capacity ∙ left.invariant.kept;
    })

pub returns-in_err-last-clause-read : goal.returns-in_err-last-clause-read
returns-in_err-last-clause-read c =
    let left = c.loop-kind in
    let bytes = c.args.bytes.now in
    let all = with_front-end c.args.kind left.sizes.items left.head (c.args.count - 1 - length left.sizes.items) left.before (drop left.head bytes) (omega arith) in
    let none : left.total ≤ length bytes - left.head → ⊥ = c.in_err-last.ensures in
    let over : length bytes < left.head + sum left.sizes.items = omega (arith, none, left.invariant.total, left.invariant.inside) in
    rw c.from_residual-in_err-last.ensures
    (ap (with_last (length bytes)) (sym left.invariant.read ∙ all)
    ∙ cond-false (nat_le (left.head + sum left.sizes.items) (length bytes)) _ _ (lt-leb _ _ over))

pub returns-clause-read : goal.returns-clause-read
returns-clause-read c =
    let left = c.loop-kind in
    let items = left.sizes.items in
    let bytes = c.args.bytes.now in
    let all = with_front-end c.args.kind items left.head (c.args.count - 1 - length items) left.before (drop left.head bytes) (omega arith) in
    let total = left.invariant.total in
    let fits : left.head + sum items ≤ length bytes = omega (arith, total, left.invariant.inside, c.in_ok-last.ensures) in
    let last : length bytes - left.head - sum items ≡ c.in_ok-last.last = omega (arith, total, left.invariant.inside, c.in_ok-last.ensures) in
    let sizes : items ++ (length bytes - left.head - sum items) ∷ [] ≡ c.push_reserved-2.new.self.items = rw last (sym c.push_reserved-2.ensures.items) in
    ap (with_last (length bytes)) (sym left.invariant.read ∙ all)
    ∙ cond-true (nat_le (left.head + sum items) (length bytes)) _ _ (le-leb _ _ fits)
    ∙ ap (λ (x : List ℕ). Some (x, left.head)) sizes
