-- The first Element that is written, and the ones behind it.
use Rattle.std.proofs.Common.{◌+◌, ◌-◌, ◌∷◌, drop, length, length-drop, sym, ap₂, ◌∙◌, arith}
use Rattle.std.proofs.lemmas.List.{take_all}
use Rattle.track_records.specs.Same.{without_fillers}
use Rattle.track_records.proofs.SameLemmas.{written-first, written-none}
use Rattle.track_records.proofs.same.next_written.Goals as goal

pub returns-in_err-k : goal.returns-in_err-k
returns-in_err-k c = rw c.from_residual.ensures (written-none c.args.trees.now c.in_err-k.ensures.exact)

pub returns : goal.returns
returns c =
    let behind = drop (c.in_ok-k.k + 1) c.args.trees.now in
    written-first c.args.trees.now c.in_ok-k.k c.index-trees-k.result c.in_ok-k.ensures.exact
    ∙ ap₂ (λ n l. n ∷ without_fillers l) (sym c.index-trees-k.is) (sym (take_all (length c.args.trees.now - (c.in_ok-k.k + 1)) behind (omega (arith, length-drop (c.in_ok-k.k + 1) c.args.trees.now))))
