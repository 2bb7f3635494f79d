use Rattle.std.proofs.Common.{◌≡◌, ◌+◌, ◌*◌, ℕ, Option, drop}
use Rattle.sidecar_edit.specs.Fields.{count_in, places_in}
use Rattle.sidecar_edit.specs.Gate.{first_breach, place_rules}
use Rattle.sidecar_edit.proofs.head.unused_breach.Given as goal

abbrev pub invariant-loop-k : goal.invariant-loop-k
invariant-loop-k l = (old : Option ℕ) (from : ℕ) →
    first_breach (place_rules old (32 + 16 * count_in l.head) 0 from (drop (count_in l.head) (places_in l.head)))
    ≡ first_breach (place_rules old (32 + 16 * l.k) 0 from (drop l.k (places_in l.head)))
