use Rattle.std.proofs.Common.{◌≡◌, arith, sym}
use Rattle.std.proofs.lemmas.Grind.{common_steps}
use Rattle.sidecar_edit.specs.declared.held.Gate.TheVariants.{Live}
use Rattle.sidecar_edit.specs.Gate.{gate_of}
use Rattle.sidecar_edit.proofs.LiveLemmas.{live-head}
use Rattle.sidecar_edit.proofs.head.gate_of.Goals as goal

pub returns-in-None-2-clause-live : goal.returns-in-None-2-clause-live
returns-in-None-2-clause-live c = λ live.
    let is : Live ≡ gate_of c.args.head.now c.args.size = grind (arith, common_steps) in
    live-head c.args.head.now c.args.size (λ k. let octet = c.type_inv.head k in omega (arith, octet)) c.requires (sym is)
