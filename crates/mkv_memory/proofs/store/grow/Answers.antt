use Rattle.std.proofs.Common.{sym, rules}
use Rattle.mkv_io.specs.Contents.{with_appended}
use Rattle.mkv_memory.proofs.NamesLemmas.{changed_at-set, same-set, OnErr-always}
use Rattle.mkv_memory.proofs.store.grow.Goals as goal

-- The name's content, written back, changes only this name.
pub returns-in_ok-append-in-Some-clause-ok : goal.returns-in_ok-append-in-Some-clause-ok
returns-in_ok-append-in-Some-clause-ok c =
    let now = c.append.new.self in
    changed_at-set c.args.name.now c.in-Some.content.now now c.args.contents.now (c.get_mut.follows.lender now) (with_appended c.args.more.now)
    (sym c.in-Some.ensures.value) (search rules) ((c.get_mut.follows.holds now).3 (search rules))

-- If nothing was appended, the content is written back as it was.
pub returns-in_err-append-in-Some-clause-err : goal.returns-in_err-append-in-Some-clause-err
returns-in_err-append-in-Some-clause-err c =
    let now = c.append.new.self in
    OnErr-always c.from_residual.result
    (same-set c.args.name.now c.in-Some.content.now now c.args.contents.now (c.get_mut.follows.lender now)
    (sym c.in-Some.ensures.value) c.in_err-append-in-Some.ensures.err ((c.get_mut.follows.holds now).3 (search rules)))
