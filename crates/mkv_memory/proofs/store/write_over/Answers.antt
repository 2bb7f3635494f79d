use Rattle.std.proofs.Common.{sym, rules}
use Rattle.mkv_io.specs.Contents.{with_overwritten}
use Rattle.mkv_memory.proofs.NamesLemmas.{changed_at-set}
use Rattle.mkv_memory.proofs.store.write_over.Goals as goal

-- The name's content, written back, changes only this name.
pub returns-in-Some : goal.returns-in-Some
returns-in-Some c =
    let now = c.overwrite.new.self in
    changed_at-set c.args.name.now c.in-Some.content.now now c.args.contents.now (c.get_mut.follows.lender now) (with_overwritten c.args.at c.args.bytes.now)
    (sym c.in-Some.ensures.value) (search rules) ((c.get_mut.follows.holds now).3 (search rules))
