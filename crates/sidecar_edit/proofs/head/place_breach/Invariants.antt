use Rattle.std.proofs.Common.{◌≡◌, ◌+◌, ◌-◌, ◌*◌, drop}
use Rattle.sidecar_edit.specs.Fields.{count_in, places_in}
use Rattle.sidecar_edit.specs.Gate.{first_breach, place_rules}
use Rattle.sidecar_edit.proofs.head.place_breach.Given as goal

-- The rules of the places from here on have the result of all rules.
abbrev pub invariant-loop-k : goal.invariant-loop-k
invariant-loop-k l =
    first_breach (place_rules l.old_len 32 (count_in l.head) 0 (places_in l.head))
    ≡ first_breach (place_rules l.old_len (32 + 16 * l.k) (count_in l.head - l.k) l.from (drop l.k (places_in l.head)))
