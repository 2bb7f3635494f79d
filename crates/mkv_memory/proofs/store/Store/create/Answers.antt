use Rattle.std.proofs.Common.{◌≡◌, ◌++◌, ◌∷◌, [], Some, refl, arith, rules}
use Rattle.mkv_memory.specs.StoreIn.{stored_in}
use Rattle.mkv_memory.proofs.StoredLemmas.{IsSound-created, IsSound-same, Stored-both}
use Rattle.mkv_memory.proofs.store.Store.create.Goals as goal

-- Without memory for the name nothing has changed.
pub invariant_of-self-in-Break-branch-3 : goal.invariant_of-self-in-Break-branch-3
invariant_of-self-in-Break-branch-3 c =
    let old = c.args.self.now in
    let sound = IsSound-same (stored_in old).world _ (stored_in old).opened _ c.in_err-set.ensures.err c.reserve.ensures.items (record { short = old.short; there = old.there }) in
    record { short = sound.short; few = rw c.reserve.ensures.items old.few; there = sound.there }

-- Otherwise the name has an empty content, and a file is opened under it.
pub invariant_of-self-2 : goal.invariant_of-self-2
invariant_of-self-2 c =
    let old = c.args.self.now in
    let changed = rw c.new-empty.ensures at c.in_ok-set.ensures.ok in
    let pushed : c.push.new.self.items ≡ (stored_in old).opened ++ Some c.args.name.now ∷ [] = search rules in
    let sound = IsSound-same _ _ _ _ refl pushed (IsSound-created (stored_in old).world _ c.args.name.now (stored_in old).opened changed (record { short = old.short; there = old.there })) in
    record { short = sound.short; few = grind arith; there = sound.there }

pub returns-clause-ok : goal.returns-clause-ok
returns-clause-ok c =
    let pushed : c.push.new.self.items ≡ (stored_in c.args.self.now).opened ++ Some c.args.name.now ∷ [] = search rules in
    Stored-both (rw c.new-empty.ensures at c.in_ok-set.ensures.ok) pushed
