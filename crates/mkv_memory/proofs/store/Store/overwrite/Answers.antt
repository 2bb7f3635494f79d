use Rattle.mkv_io.specs.Contents.{with_overwritten}
use Rattle.mkv_memory.specs.StoreIn.{stored_in}
use Rattle.mkv_memory.proofs.StoredLemmas.{IsSound-overwritten, Stored-changed}
use Rattle.mkv_memory.proofs.store.Store.overwrite.Goals as goal

-- Contents keep their lengths, and each live file's name keeps one.
pub invariant_of-self : goal.invariant_of-self
invariant_of-self c =
    let old = c.args.self.now in
    let sound = IsSound-overwritten (stored_in old) _ c.args.file.n c.holder-name.result.now c.args.at c.args.bytes.now c.holder-name.ensures c.write_over.ensures (record { short = old.short; there = old.there }) c.requires.range in
    record { short = sound.short; few = old.few; there = sound.there }

pub returns : goal.returns
returns c = Stored-changed (stored_in c.args.self.now) c.args.file.n (with_overwritten c.args.at c.args.bytes.now) c.holder-name.ensures c.write_over.ensures
