use Rattle.std.proofs.Common.{◌-◌, ◌∙◌, ap, take, length, arith}
use Rattle.std.proofs.lemmas.List.{drop-replicate, take-replicate}
use Rattle.sidecar_edit.specs.declared.place.TheConstants.{KEPT}
use Rattle.sidecar_edit.proofs.plan.zeros_behind.Goals as goal

pub returns : goal.returns
returns c =
    let n = KEPT - length c.args.first.now in
    ap (take n) (drop-replicate (length c.args.first.now) KEPT 0) ∙ take-replicate n n 0 (omega arith)
