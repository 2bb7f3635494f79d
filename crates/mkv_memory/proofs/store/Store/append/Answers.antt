use Rattle.mkv_io.specs.Contents.{with_appended}
use Rattle.mkv_memory.specs.StoreIn.{stored_in}
use Rattle.mkv_memory.proofs.StoredLemmas.{IsSound-appended, Stored-changed}
use Rattle.mkv_memory.proofs.store.Store.append.Goals as goal

-- Within the limit contents stay short, and each live file's name keeps one.
pub invariant_of-self : goal.invariant_of-self
invariant_of-self c =
    let old = c.args.self.now in
    let sound = IsSound-appended c.grow.result (stored_in old) _ c.args.file.n c.holder-name.result.now c.args.more.now c.holder-name.ensures c.grow.ensures.ok c.grow.ensures.err (record { short = old.short; there = old.there }) c.requires.room in
    record { short = sound.short; few = old.few; there = sound.there }

pub returns-clause-ok : goal.returns-clause-ok
returns-clause-ok c = Stored-changed (stored_in c.args.self.now) c.args.file.n (with_appended c.args.more.now) c.holder-name.ensures c.in_ok-grow.ensures.ok
