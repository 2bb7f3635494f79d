-- The pairs are inserted from the last to the first.
use Rattle.std.proofs.Common.{◌≡◌, ℕ, nat_eq, None, reverse, IfOk, rules}
use Rattle.std.specs.Map.{update_all}
use Rattle.indexmap.specs.IndexMap.{get}
use Rattle.output_records.proofs.UidLemmas.{latest-in}
use Rattle.output_records.proofs.uids.number_map.Goals as goal

pub returns : goal.returns
returns c =
    let made : IfOk c.collect.result (λ map. (uid : ℕ) → get nat_eq map uid ≡ update_all nat_eq (λ q. None) (reverse c.in_ok-pairs.pairs.items) uid) = search rules in
    latest-in (λ map uid. get nat_eq map uid) c.collect.result _ _ c.in_ok-pairs.ensures made
