use Rattle.std.proofs.Common.{◌≡◌, ◌<◌, ◌+◌, ℕ, ◌++◌, length, take, drop, get_or, sym, ◌∙◌, ap, add-one, arith}
use Rattle.std.proofs.Math.ListN.{set}
use Rattle.lanes.specs.Frames.{by_head, counted_for}
use Rattle.lanes.proofs.EndLemmas.{count-all, count-one, left-one, set-few, value-left}
use Rattle.lanes.proofs.ends.count_frames.Goals as goal

-- A count is unchanged before its turn.
pub overflow_add-counts : goal.overflow_add-counts
overflow_add-counts c =
    let inside : c.loop-k.k < length c.loop-k.counts = omega arith in
    let there : c.loop-k.k < length c.args.counts.now = omega arith in
    let same : get_or c.loop-k.counts c.loop-k.k 0 ≡ get_or c.args.counts.now c.loop-k.k 0 = value-left c.loop-k.counts c.args.counts.now c.loop-k.k inside there c.loop-k.invariant.left in
    let room = c.requires.room c.loop-k.k 0 there in
    let few = c.link_frames.ensures.few in
    omega (arith, same, room, few)

-- One more count grows.
pub loop-k-preserved : goal.loop-k-preserved
loop-k-preserved c =
    let b = by_head c.args.cursor.now.block in
    let k = c.loop-k.k in
    let counts = c.loop-k.counts in
    let links = c.args.links.now in
    let v = get_or counts k 0 + c.link_frames.result in
    record {
      exact =
          ap (λ (n : ℕ). take n (set counts k v) ++ counted_for b (drop n (set counts k v)) (drop n links)) (add-one k)
          ∙ count-one b counts links k c.index-links-k.result v (omega arith) (omega arith) c.index-links-k.is (ap (λ (n : ℕ). get_or counts k 0 + n) c.link_frames.ensures.exact)
          ∙ c.loop-k.invariant.exact;
      left =
          ap (λ (n : ℕ). drop n (set counts k v)) (add-one k)
          ∙ left-one counts c.args.counts.now k v (omega arith) (omega arith) c.loop-k.invariant.left
          ∙ ap (λ (n : ℕ). drop n c.args.counts.now) (sym (add-one k));
      few = λ most all.
          let inside : k < length counts = omega arith in
          let there : k < length c.args.counts.now = omega arith in
          let same : get_or counts k 0 ≡ get_or c.args.counts.now k 0 = value-left counts c.args.counts.now k inside there c.loop-k.invariant.left in
          let old = all k 0 there in
          set-few counts k v (most + 256) (c.loop-k.invariant.few most all) (omega (arith, same, old, c.link_frames.ensures.few));
    }

-- All counts have grown.
pub returns : goal.returns
returns c = record { exact = sym (count-all (by_head c.args.cursor.now.block) c.loop-k.counts c.args.links.now c.loop-k.k (omega arith)) ∙ c.loop-k.invariant.exact; few = c.loop-k.invariant.few }
