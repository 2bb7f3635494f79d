-- The record is made of the file that was read.
use Rattle.std.proofs.Common.{◌∙◌, List, ap, sym, take, map}
use Rattle.std.proofs.lemmas.Result.{err_from_is_err_and}
use Rattle.edit_plan.specs.Record.{record_over}
use Rattle.edit_plan.specs.Shown.{written}
use Rattle.edit_plan.specs.declared.write.Write.{Write}
use Rattle.edit_plan.proofs.RecordLemmas.{record_of-ends, record_of-is}
use Rattle.edit_plan.proofs.record.plan.Goals as goal

pub returns-in_err-writes-clause-exact : goal.returns-in_err-writes-clause-exact
returns-in_err-writes-clause-exact g c = λ told.
    let a = c.args.disk.now in
    let M = (g.D.Disk.pair a).media.reads in
    let p = err_from_is_err_and c.from_residual.result c.from_residual.ensures.1 in
    rw (p.1, p.2) (record_of-ends M c.args.edits.now c.in_err-writes.field-0.0 (c.in_err-writes.ensures.exact M (g.met.D.Disk.contents a told).0))

pub returns-clause-exact : goal.returns-clause-exact
returns-clause-exact g c = λ told.
    let a = c.args.disk.now in
    let M = (g.D.Disk.pair a).media.reads in
    let content = (g.met.D.Disk.contents a told).0 in
    let mid = c.edit_writes.ensures.standing in
    let same = ap (λ s. (g.D.Reads.files s).content 0) mid ∙ content in
    let size = g.met.D.Reads.told_size (g.D.Reads.standing a) 0 M content in
    let stands = c.read_first.ensures.only.standing ∙ mid in
    let len = c.size-old_len.ensures.exact ∙ ap (λ s. (g.D.Reads.files s).size 0) stands ∙ sym size in
    record_of-is M c.args.edits.now (map written c.in_ok-writes.writes.items) c.size-old_len.result (take c.in_ok-count.count c.read_first.new.first) c.in_ok-plan.plan
    (c.in_ok-writes.ensures.exact M content) len (c.in_ok-count.ensures.ok M same)
    (c.in_ok-plan.ensures.exact ∙ ap (λ (ws : List Write). record_over c.size-old_len.result (take c.in_ok-count.count c.read_first.new.first) (map written ws)) c.as_slice.ensures.value)
