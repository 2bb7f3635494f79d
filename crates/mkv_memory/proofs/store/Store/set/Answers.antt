use Rattle.std.proofs.Common.{Some, refl}
use Rattle.mkv_memory.specs.StoreIn.{stored_in}
use Rattle.mkv_memory.proofs.StoredLemmas.{IsSound-either, Stored-world}
use Rattle.mkv_memory.proofs.store.Store.set.Goals as goal

-- A short content is set, or none is.
pub invariant_of-self : goal.invariant_of-self
invariant_of-self c =
    let old = c.args.self.now in
    let sound = IsSound-either c.set.result (stored_in old).world _ c.args.name.now (λ _. Some c.args.content) (stored_in old).opened c.set.ensures.ok c.set.ensures.err (record { short = old.short; there = old.there }) c.requires (λ _. refl) in
    record { short = sound.short; few = old.few; there = sound.there }

pub returns-clause-ok : goal.returns-clause-ok
returns-clause-ok c = Stored-world (stored_in c.args.self.now).opened c.in_ok-set.ensures.ok
