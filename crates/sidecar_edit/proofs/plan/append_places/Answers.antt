use Rattle.std.proofs.Common.{◌++◌, ◌∙◌, ap, sym, append-nil, add-one}
use Rattle.sidecar_edit.specs.Fields.{slot, slots}
use Rattle.sidecar_edit.proofs.PlanLemmas.{more}
use Rattle.sidecar_edit.proofs.plan.append_places.Goals as goal

pub loop-k-init : goal.loop-k-init
loop-k-init c = sym (append-nil _)

pub loop-k-preserved : goal.loop-k-preserved
loop-k-preserved c =
    let was = c.args.octets.now in let ps = c.args.places.now in let k = c.loop-k.k in
    more c.loop-k.octets c.append_place.new.octets was (slots k ps) (slot ps k) c.loop-k.invariant c.in_ok-append_place.ensures
    ∙ ap (λ n. was ++ slots n ps) (sym (add-one k))
