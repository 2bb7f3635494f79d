use Rattle.std.proofs.Common.{◌+◌, ◌%◌, ℕ, ◌++◌, ◌∷◌, [], List, refl, sym, ◌∙◌, ap, arith}
use Rattle.std.proofs.lemmas.List.FromFn.{map-range_with_len_more}
use Rattle.mkv_generate.proofs.counting.counting.Goals as goal

-- One more byte is appended.
pub loop-k-preserved : goal.loop-k-preserved
loop-k-preserved c =
    let more = map-range_with_len_more (λ (n : ℕ). n % 256) c.args.first c.loop-k.k (c.args.first + c.loop-k.k) refl in
    let before = c.loop-k.invariant.octets in
    record {
      octets = c.push.ensures.items ∙ ap (λ (os : List ℕ). os ++ ((c.args.first + c.loop-k.k) % 256) ∷ []) before ∙ sym more;
      len = omega (arith, c.push.ensures.len, c.loop-k.invariant.len);
    }
