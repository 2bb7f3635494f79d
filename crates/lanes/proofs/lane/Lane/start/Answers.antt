use Rattle.std.proofs.Common.{◌≡◌, ℕ, length, subst, rules}
use Rattle.std.specs.Prelude.{List}
use Rattle.merge_model.specs.declared.link.Link.{Link}
use Rattle.lanes.specs.Begun.{Begins}
use Rattle.lanes.specs.Lane.{LaneSeen, Starts}
use Rattle.lanes.proofs.StartLemmas.{starts}
use Rattle.lanes.proofs.lane.Lane.start.Goals as goal

pub returns-clause-starts : goal.returns-clause-starts
returns-clause-starts c = λ f.
    let links : List Link = c.into_vec-links.result.items in
    let l : LaneSeen = record { links = links; scale = c.args.scale; walk = c.in_ok-walk.walk; given = 0 } in
    let count : c.len.result ≡ length links = search rules in
    let begins : Begins (length links) c.in_ok-walk.walk = subst (λ (n : ℕ). Begins n c.in_ok-walk.walk) count c.in_ok-walk.ensures in
    subst (λ (chain : List Link). Starts f c.args.scale chain l) c.into_vec-links.ensures (starts f l begins)
