-- The bytes that were read are the mark of the file.
use Rattle.std.proofs.Common.{◌∙◌, ap, sym, take, map}
use Rattle.edit_plan.specs.Shown.{written}
use Rattle.reindex.proofs.IndexLemmas.{recorded-is}
use Rattle.reindex.proofs.planning.plan_of.Goals as goal

pub returns-clause-exact : goal.returns-clause-exact
returns-clause-exact g c = λ told.
    let a = c.args.disk.now in
    let M = (g.D.Disk.pair a).media.reads in
    let content = (g.met.D.Disk.contents a told).0 in
    let size = g.met.D.Reads.told_size (g.D.Reads.standing a) 0 M content in
    let len = c.size-old_len.ensures.exact ∙ ap (λ s. (g.D.Reads.files s).size 0) c.read_first.ensures.only.standing ∙ sym size in
    recorded-is M (map written c.args.writes.now) c.size-old_len.result (take c.in_ok-count.count c.read_first.new.first) c.in_ok-plan.plan
    len (c.in_ok-count.ensures.ok M content) c.in_ok-plan.ensures.exact
