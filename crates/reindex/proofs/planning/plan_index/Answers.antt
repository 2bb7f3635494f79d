-- The result is the index of the file that was read.
use Rattle.std.proofs.Common.{◌∙◌, Err, List, ap, map, subst, sym}
use Rattle.std.proofs.lemmas.List.{length-map}
use Rattle.std.proofs.lemmas.Result.{err_from_is_err_and}
use Rattle.mkv_disk.specs.Pair.{Pair}
use Rattle.edit_changes.specs.Plan.{recorded}
use Rattle.edit_plan.specs.Answer.{Gives}
use Rattle.edit_plan.specs.Shown.{written}
use Rattle.edit_plan.specs.declared.plan_end.PlanEnd.{PlanEnd}
use Rattle.edit_plan.specs.declared.write.Write.{Write}
use Rattle.reindex.specs.Found.{shown}
use Rattle.reindex.specs.Plan.{indexed_of}
use Rattle.reindex.specs.Reading.{cue_of}
use Rattle.reindex.proofs.IndexLemmas.{indexed-is, indexed-refused, indexed-unread, pointed-outline, recorded-was}
use Rattle.reindex.proofs.planning.plan_index.Goals as goal

pub returns-in-Err-clause-exact : goal.returns-in-Err-clause-exact
returns-in-Err-clause-exact g c = λ told.
    let a = c.args.disk.now in
    let M = (g.D.Disk.pair a).media.reads in
    let unread = indexed-unread M c.in-Err.end (c.in-Err.ensures.exact M (g.met.D.Disk.contents a told).0) in
    subst (λ (e : PlanEnd). Gives (indexed_of M) (Err e)) (sym c.plan_end.ensures.exact) unread

pub returns-in_err-writes-clause-exact : goal.returns-in_err-writes-clause-exact
returns-in_err-writes-clause-exact g c = λ told.
    let a = c.args.disk.now in
    let M = (g.D.Disk.pair a).media.reads in
    let content = (g.met.D.Disk.contents a told).0 in
    let file = shown c.in-Ok.found in
    let found = c.in-Ok.ensures.exact M content in
    let same = ap (λ s. (g.D.Reads.files s).content 0) c.find.ensures.standing ∙ content in
    let p = err_from_is_err_and c.from_residual.result c.from_residual.ensures.1 in
    rw (p.1, p.2) (indexed-refused M file c.in_err-writes.field-0.0 found (c.in_err-writes.ensures.exact M same (pointed-outline M file found)))

pub returns-clause-exact : goal.returns-clause-exact
returns-clause-exact g c = λ told.
    let a = c.args.disk.now in
    let b = c.writes_of.new.src in
    let M = (g.D.Disk.pair a).media.reads in
    let content = (g.met.D.Disk.contents a told).0 in
    let file = shown c.in-Ok.found in
    let found = c.in-Ok.ensures.exact M content in
    let same = ap (λ s. (g.D.Reads.files s).content 0) c.find.ensures.standing ∙ content in
    let stands = g.met.D.Disk.pair_stands b a (c.writes_of.ensures.standing ∙ c.find.ensures.standing) in
    let vs = c.as_slice.result.now in
    let made = recorded-was (g.D.Disk.pair b).media.reads (map written vs) c.in_ok-plan.plan (c.in_ok-plan.ensures.exact told)
    ∙ ap (λ (q : Pair). recorded q.media.reads (map written vs)) stands
    ∙ ap (λ (ws : List Write). recorded M (map written ws)) c.as_slice.ensures.value in
    let count = c.len.ensures ∙ sym (length-map c.in-Ok.found.points cue_of) in
    indexed-is M file (map written c.in_ok-writes.writes.items) c.in_ok-plan.plan c.len.result found (c.in_ok-writes.ensures.exact M same (pointed-outline M file found)) made count
