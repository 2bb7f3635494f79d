use Rattle.mkv_propedit.proofs.ReindexLemmas.{index-record, index-told}
use Rattle.mkv_propedit.proofs.change.plan_change.Goals as goal

-- The plan of a new index is the record of its writes, and its message has the number of points.
pub returns-in_ok-indexed-in-Index-clause-exact : goal.returns-in_ok-indexed-in-Index-clause-exact
returns-in_ok-indexed-in-Index-clause-exact g c = λ tells.
    let M = (g.D.Disk.pair c.args.disk.now).media.reads in
    let indexed = c.in_ok-indexed-in-Index.indexed in
    let is = c.in_ok-indexed-in-Index.ensures.exact tells in
    rw c.in-Index.is (index-record M indexed is, index-told M c.args.name.now indexed is)
