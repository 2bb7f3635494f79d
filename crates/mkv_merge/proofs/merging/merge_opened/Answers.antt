use Rattle.std.proofs.Common.{◌≡◌, ℕ, ◌+◌, ◌*◌, ◌≤◌, List, [], ◌++◌, Result, Ok, Err, length, take, drop, sym, ◌∙◌, ap, ap₂, subst, arith}
use Rattle.std.proofs.lemmas.List.{take-append-drop}
use Rattle.std.proofs.lemmas.List.Sums.{sum_by-take-le}
use Rattle.std.proofs.lemmas.Result.{err_from_is_err_and}
use Rattle.mkv_io.specs.Asked.{AsksOnly}
use Rattle.mkv_io.specs.LiveFiles.{LiveFiles}
use Rattle.mkv_io.specs.Sources.{live_files}
use Rattle.mkv_io.specs.declared.asked.Asked.{Asked}
use Rattle.mkv_io.specs.declared.outside.FileId.{FileId}
use Rattle.mkv_outputs.specs.Sinks.{AreLive}
use Rattle.mkv_outputs.proofs.FilesLemmas.{AreLive-on}
use Rattle.merge_plan.specs.Plan.{Source}
use Rattle.remuxer.specs.Plan.{data_length}
use Rattle.mkv_lines.specs.Code.{read_stop}
use Rattle.mkv_lines.specs.declared.status.Status.{Status}
use Rattle.mkv_merge.specs.Asked.{AsksToMerge, sidecars_of}
use Rattle.mkv_merge.specs.Attached.{attached_ids, own_ids}
use Rattle.mkv_merge.specs.Bound.{files_size, files_walked, most_looked, most_of}
use Rattle.mkv_merge.specs.Ends.{HasReadCause}
use Rattle.mkv_merge.specs.Opened.{opened_names}
use Rattle.mkv_merge.specs.Prepared.{AreTold, IsPrepared, ReadsAs, sources_from}
use Rattle.mkv_merge.specs.declared.preparing.Prepared.{Prepared}
use Rattle.mkv_merge.specs.Merge.{sources_unless}
use Rattle.mkv_merge.specs.Stages.{refusals_begun}
use Rattle.mkv_merge.specs.declared.refusal.MergeEnd.TheVariants.{Refused, Stopped}
use Rattle.mkv_merge.specs.declared.refusal.Refusal.{Refusal}
use Rattle.mkv_merge.proofs.MergingLemmas.{as-sources, begun-past, begun-refused, contents-kept, ended-early, ended-written, inputs-kept, inputs-stand, joined-told, lengths-kept, merges-early, merges-written, opened-parts, reads-both, seen-kept, texts-cause}
use Rattle.mkv_merge.proofs.WritingLemmas.{data-counted, lanes-count, merge-is, records-are}
use Rattle.mkv_merge.proofs.AskedLemmas.{merge-asks-both, merge-asks-looks, merge-asks-more}
use Rattle.mkv_merge.proofs.merging.merge_opened.Goals as goal

-- Looking at journals and reading leave the inputs unchanged.
pub write-requires-clause-inputs : goal.write-requires-clause-inputs
write-requires-clause-inputs g c =
    let names = opened_names c.args.words.now in
    let mid = c.begun_refusal.new.files in
    let standing = c.in_ok-prepared.ensures.reading.standing in
    inputs-kept g.F.Reads g.F.Files names mid c.prepare.new.src c.args.ids.now
    (inputs-stand g.F.Reads g.F.Files names (sidecars_of c.args.words.now) [] c.args.files.now mid c.args.ids.now c.requires.inputs c.begun_refusal.ensures.looks.kept)
    standing (g.met.F.Files.holders_stand c.prepare.new.src mid standing)

-- A journal couldn't be looked at.
pub returns-in_err-why-clause-merges : goal.returns-in_err-why-clause-merges
returns-in_err-why-clause-merges g c = λ world told contents held attached other.
    let p = err_from_is_err_and c.from_residual.result c.from_residual.ensures.1 in
    let words = c.args.words.now in
    let found = sources_unless (refusals_begun world words c.args.texts) words c.args.texts contents attached in
    let old = live_files g.F.Reads c.args.files.now in
    let most = most_of found (files_size old c.args.ids.now) (files_walked old words.files (own_ids words c.args.ids.now)) + most_looked words in
    rw (p.1, p.2) (merges-early g.F.Reads g.F.Files g.P.Report c.args.files.now c.begun_refusal.new.files c.args.report.now words found most (Stopped (read_stop c.in_err-why.field-0.0)) tt
    c.begun_refusal.ensures.looks.names (omega (arith, c.begun_refusal.ensures.octets)))

-- A text file is missing, or an edit is pending.
pub returns-in-Some-clause-merges : goal.returns-in-Some-clause-merges
returns-in-Some-clause-merges g c = λ world told contents held attached other.
    let words = c.args.words.now in
    let found = sources_unless (refusals_begun world words c.args.texts) words c.args.texts contents attached in
    let old = live_files g.F.Reads c.args.files.now in
    let most = most_of found (files_size old c.args.ids.now) (files_walked old words.files (own_ids words c.args.ids.now)) + most_looked words in
    merges-early g.F.Reads g.F.Files g.P.Report c.args.files.now c.begun_refusal.new.files c.args.report.now words found most (Refused c.in-Some.why)
    (begun-refused world words c.args.texts contents attached c.in-Some.why (sym (c.in_ok-why.ensures.exact world told) ∙ c.in-Some.is))
    c.begun_refusal.ensures.looks.names (omega (arith, c.begun_refusal.ensures.octets))

-- The files are live after journals were looked at.
pub prepare-requires-clause-ready : goal.prepare-requires-clause-ready
prepare-requires-clause-ready g c =
    let words = c.args.words.now in
    let ids = c.args.ids.now in
    let old = live_files g.F.Reads c.args.files.now in
    let mid = live_files g.F.Reads c.begun_refusal.new.files in
    let parts = opened-parts g.F.Reads g.F.Files c.args.files.now words ids c.requires.inputs in
    let own-is : c.split_at.result.0.now ≡ own_ids words ids = c.split_at.ensures.front ∙ ap (λ (n : ℕ). take n ids) c.len.ensures in
    record {
      sound = c.requires.words.sound;
      live = subst (AreLive mid.live) (sym own-is) (AreLive-on old.live mid.live (own_ids words ids) parts.own c.begun_refusal.ensures.looks.kept.live);
      each = ap (λ (l : List FileId). length l) own-is ∙ parts.own_each;
    }

pub prepare-requires-clause-attached : goal.prepare-requires-clause-attached
prepare-requires-clause-attached g c =
    let words = c.args.words.now in
    let ids = c.args.ids.now in
    let old = live_files g.F.Reads c.args.files.now in
    let mid = live_files g.F.Reads c.begun_refusal.new.files in
    let parts = opened-parts g.F.Reads g.F.Files c.args.files.now words ids c.requires.inputs in
    let other-is : c.split_at.result.1.now ≡ attached_ids words ids = c.split_at.ensures.back ∙ ap (λ (n : ℕ). drop n ids) c.len.ensures in
    record {
      live = subst (AreLive mid.live) (sym other-is) (AreLive-on old.live mid.live (attached_ids words ids) parts.other c.begun_refusal.ensures.looks.kept.live);
      each = ap (λ (l : List FileId). length l) other-is ∙ parts.other_each;
    }

pub write-requires-clause-prepared : goal.write-requires-clause-prepared
write-requires-clause-prepared g c =
    let words = c.args.words.now in
    let ids = c.args.ids.now in
    let whole : c.split_at.result.0.now ++ c.split_at.result.1.now ≡ ids = ap₂ (λ (a b : List FileId). a ++ b) c.split_at.ensures.front c.split_at.ensures.back ∙ take-append-drop c.len.result ids in
    subst (λ (l : List FileId). IsPrepared (live_files g.F.Reads c.prepare.new.src) words l c.in_ok-prepared.prepared) whole c.in_ok-prepared.ensures.prepared

-- An input couldn't be read, or reading found a refusal.
pub returns-in_err-prepared-clause-merges : goal.returns-in_err-prepared-clause-merges
returns-in_err-prepared-clause-merges g c = λ world told contents held attached other.
    let p = err_from_is_err_and c.from_residual-in_err-prepared.result c.from_residual-in_err-prepared.ensures.1 in
    let words = c.args.words.now in
    let ids = c.args.ids.now in
    let own = own_ids words ids in
    let old = live_files g.F.Reads c.args.files.now in
    let mid = live_files g.F.Reads c.begun_refusal.new.files in
    let kept = c.begun_refusal.ensures.looks.kept in
    let parts = opened-parts g.F.Reads g.F.Files c.args.files.now words ids c.requires.inputs in
    let own-is : c.split_at.result.0.now ≡ own = c.split_at.ensures.front ∙ ap (λ (n : ℕ). take n ids) c.len.ensures in
    let other-is : c.split_at.result.1.now ≡ attached_ids words ids = c.split_at.ensures.back ∙ ap (λ (n : ℕ). drop n ids) c.len.ensures in
    let found = sources_unless (refusals_begun world words c.args.texts) words c.args.texts contents attached in
    let lengths = lengths-kept old mid words.files own (λ file. kept.others file tt) parts.own in
    let own-told : AreTold mid c.split_at.result.0.now contents = subst (λ (l : List FileId). AreTold mid l contents) (sym own-is) (contents-kept old.live old.content mid.content own (λ file live. (kept.others file tt).content live) parts.own ∙ held) in
    let other-told : AreTold mid c.split_at.result.1.now attached =
    subst (λ (l : List FileId). AreTold mid l attached) (sym other-is) (contents-kept old.live old.content mid.content (attached_ids words ids) (λ file live. (kept.others file tt).content live) parts.other ∙ other) in
    let past = begun-past world words c.args.texts contents attached (sym (c.in_ok-why.ensures.exact world told) ∙ c.in_default.is) in
    let most : files_size old own ≤ files_size old ids = omega (arith, sum_by-take-le (λ (file : FileId). old.size file.n) ids (length words.files)) in
    rw (p.1, p.2) (merges-early g.F.Reads g.F.Files g.P.Report c.args.files.now c.prepare.new.src c.args.report.now words found (most_of found (files_size old ids) (files_walked old words.files own) + most_looked words) c.in_err-prepared.field-0.0
    (subst (λ (o : Result (List Source) Refusal). ReadsAs {B = List Source} (λ (s : List Source). s) o (Err c.in_err-prepared.field-0.0)) (sym past)
    (as-sources {A = Prepared} (λ (q : Prepared). sources_from (contents ++ attached) q.inputs) c.in_err-prepared.field-0.0 _ (c.in_err-prepared.ensures.exact contents own-told attached other-told)))
    (g.met.F.Files.names_stand c.prepare.new.src c.begun_refusal.new.files c.in_err-prepared.ensures.reading.standing ∙ c.begun_refusal.ensures.looks.names)
    (omega (arith, c.begun_refusal.ensures.octets, subst (λ (l : List FileId). g.F.Reads.octets_read c.prepare.new.src ≤ g.F.Reads.octets_read c.begun_refusal.new.files + (25 * files_size mid l + 2 * files_walked mid words.files l)) own-is c.prepare.ensures.octets, lengths.0, lengths.1, most)))

-- The prepared outputs are written, or their writing was stopped.
pub returns-clause-merges : goal.returns-clause-merges
returns-clause-merges g c = λ world told contents held attached other.
    let words = c.args.words.now in
    let ids = c.args.ids.now in
    let own = own_ids words ids in
    let prepared = c.in_ok-prepared.prepared in
    let old = live_files g.F.Reads c.args.files.now in
    let mid = live_files g.F.Reads c.begun_refusal.new.files in
    let now = live_files g.F.Reads c.prepare.new.src in
    let looks = c.begun_refusal.ensures.looks in
    let standing = c.in_ok-prepared.ensures.reading.standing in
    let parts = opened-parts g.F.Reads g.F.Files c.args.files.now words ids c.requires.inputs in
    let own-is : c.split_at.result.0.now ≡ own = c.split_at.ensures.front ∙ ap (λ (n : ℕ). take n ids) c.len.ensures in
    let other-is : c.split_at.result.1.now ≡ attached_ids words ids = c.split_at.ensures.back ∙ ap (λ (n : ℕ). drop n ids) c.len.ensures in
    let whole : c.split_at.result.0.now ++ c.split_at.result.1.now ≡ ids = ap₂ (λ (a b : List FileId). a ++ b) c.split_at.ensures.front c.split_at.ensures.back ∙ take-append-drop c.len.result ids in
    let ready = subst (λ (l : List FileId). IsPrepared now words l prepared) whole c.in_ok-prepared.ensures.prepared in
    let found = sources_unless (refusals_begun world words c.args.texts) words c.args.texts contents attached in
    let all = contents ++ attached in
    let size = lengths-kept old mid words.files ids (λ file. looks.kept.others file tt) c.requires.inputs.live in
    let lengths = lengths-kept old mid words.files own (λ file. looks.kept.others file tt) parts.own in
    let same : now ≡ mid = ap g.F.Reads.files standing in
    let own-mid : AreTold mid own contents = contents-kept old.live old.content mid.content own (λ file live. (looks.kept.others file tt).content live) parts.own ∙ held in
    let other-mid : AreTold mid (attached_ids words ids) attached = contents-kept old.live old.content mid.content (attached_ids words ids) (λ file live. (looks.kept.others file tt).content live) parts.other ∙ other in
    let now-told : AreTold now ids all = subst (λ (f : LiveFiles). AreTold f ids all) (sym same) (joined-told mid words ids contents attached own-mid other-mid) in
    let is : found ≡ Ok (sources_from all prepared.inputs) =
    begun-past world words c.args.texts contents attached (sym (c.in_ok-why.ensures.exact world told) ∙ c.in_default.is)
    ∙ c.in_ok-prepared.ensures.exact contents (subst (λ (l : List FileId). AreTold mid l contents) (sym own-is) own-mid) attached (subst (λ (l : List FileId). AreTold mid l attached) (sym other-is) other-mid) in
    let merge = merge-is now words ids all prepared ready now-told in
    let names = g.met.F.Files.names_stand c.prepare.new.src c.begun_refusal.new.files standing ∙ looks.names in
    let seen = seen-kept g.F.Reads g.F.Files g.P.Report c.args.files.now c.prepare.new.src c.args.report.now (c.in_ok-prepared.ensures.reading.cause ∙ c.in_ok-why.ensures.cause)
    (g.met.F.Files.writing_stands c.prepare.new.src c.begun_refusal.new.files standing ∙ looks.writing) names in
    let most : files_size old own ≤ files_size old ids = omega (arith, sum_by-take-le (λ (file : FileId). old.size file.n) ids (length words.files)) in
    let read = subst (λ (l : List FileId). g.F.Reads.octets_read c.prepare.new.src ≤ g.F.Reads.octets_read c.begun_refusal.new.files + (25 * files_size mid l + 2 * files_walked mid words.files l)) own-is c.prepare.ensures.octets in
    let paid = reads-both found (sources_from all prepared.inputs) (length prepared.plan.lanes) (g.F.Reads.octets_read c.begun_refusal.new.files) (g.F.Reads.octets_read c.prepare.new.src) (g.F.Reads.octets_read c.write.new.files) (files_size old ids) (files_walked old words.files own) (files_size now ids) (data_length prepared.plan)
    is (lanes-count now words prepared.inputs prepared.plan (sources_from all prepared.inputs) merge) (ap (λ (f : LiveFiles). files_size f ids) same ∙ size.0)
    (data-counted now words prepared.inputs prepared.plan (sources_from all prepared.inputs) merge) (omega (arith, read, lengths.0, lengths.1, most)) c.write.ensures.octets in
    rw c.written.ensures (merges-written g.F.Reads g.F.Files g.P.Report c.args.files.now c.prepare.new.src c.write.new.files c.args.report.now c.write.new.report words found (sources_from all prepared.inputs) (most_of found (files_size old ids) (files_walked old words.files own) + most_looked words) c.write.result
    seen is (records-are now words prepared.inputs prepared.plan (sources_from all prepared.inputs) merge ready.written) (c.write.ensures.short world (names ∙ told) all now-told)
    (c.write.ensures.verdict all now-told) (omega (arith, c.begun_refusal.ensures.octets, paid)))

-- ---- end of the merge

pub returns-in_err-why-clause-ended : goal.returns-in_err-why-clause-ended
returns-in_err-why-clause-ended g c =
    let p = err_from_is_err_and c.from_residual.result c.from_residual.ensures.1 in
    let looks = c.begun_refusal.ensures.looks in
    rw (p.1, p.2) (ended-early g.F.Reads g.F.Files g.P.Report c.args.files.now c.begun_refusal.new.files c.args.report.now (Stopped (read_stop c.in_err-why.field-0.0)) (texts-cause _ _ c.in_err-why.field-0.0 c.in_err-why.ensures.cause) looks.writing looks.kept.live)

pub returns-in_err-prepared-clause-ended : goal.returns-in_err-prepared-clause-ended
returns-in_err-prepared-clause-ended g c =
    let p = err_from_is_err_and c.from_residual-in_err-prepared.result c.from_residual-in_err-prepared.ensures.1 in
    let looks = c.begun_refusal.ensures.looks in
    let standing = c.in_err-prepared.ensures.reading.standing in
    rw (p.1, p.2) (ended-early g.F.Reads g.F.Files g.P.Report c.args.files.now c.prepare.new.src c.args.report.now c.in_err-prepared.field-0.0
    (subst (λ (n : ℕ). HasReadCause {T = Status} n (g.F.Reads.reading_faults c.prepare.new.src) (Err c.in_err-prepared.field-0.0)) c.in_ok-why.ensures.cause c.in_err-prepared.ensures.reading.cause)
    (g.met.F.Files.writing_stands c.prepare.new.src c.begun_refusal.new.files standing ∙ looks.writing) (λ file. ap (λ standing. (g.F.Reads.files standing).live file) standing ∙ looks.kept.live file))

pub returns-clause-ended : goal.returns-clause-ended
returns-clause-ended g c =
    let looks = c.begun_refusal.ensures.looks in
    let standing = c.in_ok-prepared.ensures.reading.standing in
    let seen = seen-kept g.F.Reads g.F.Files g.P.Report c.args.files.now c.prepare.new.src c.args.report.now (c.in_ok-prepared.ensures.reading.cause ∙ c.in_ok-why.ensures.cause)
    (g.met.F.Files.writing_stands c.prepare.new.src c.begun_refusal.new.files standing ∙ looks.writing) (g.met.F.Files.names_stand c.prepare.new.src c.begun_refusal.new.files standing ∙ looks.names) in
    rw c.written.ensures (ended-written g.F.Reads g.F.Files g.P.Report c.args.files.now c.prepare.new.src c.write.new.files c.args.report.now c.write.new.report c.write.result seen
    (λ file. ap (λ standing. (g.F.Reads.files standing).live file) standing ∙ looks.kept.live file) c.write.ensures.ended)

-- ---- calls for files

-- Journals are looked at.
pub returns-in_err-why-clause-asks : goal.returns-in_err-why-clause-asks
returns-in_err-why-clause-asks g c = merge-asks-looks c.args.words.now (g.F.Files.asked c.args.files.now) (g.F.Files.asked c.begun_refusal.new.files) c.begun_refusal.ensures.looks.kept.asks

pub returns-in-Some-clause-asks : goal.returns-in-Some-clause-asks
returns-in-Some-clause-asks g c = merge-asks-looks c.args.words.now (g.F.Files.asked c.args.files.now) (g.F.Files.asked c.begun_refusal.new.files) c.begun_refusal.ensures.looks.kept.asks

-- Reading makes no call for files.
pub returns-in_err-prepared-clause-asks : goal.returns-in_err-prepared-clause-asks
returns-in_err-prepared-clause-asks g c =
    let mid = c.begun_refusal.new.files in
    merge-asks-looks c.args.words.now (g.F.Files.asked c.args.files.now) (g.F.Files.asked c.prepare.new.src)
    (subst (λ (asked : List Asked). AsksOnly (sidecars_of c.args.words.now) [] (g.F.Files.asked c.args.files.now) asked) (sym (g.met.F.Files.asked_stands c.prepare.new.src mid c.in_err-prepared.ensures.reading.standing)) c.begun_refusal.ensures.looks.kept.asks)

pub returns-clause-asks : goal.returns-clause-asks
returns-clause-asks g c =
    let words = c.args.words.now in
    let old = g.F.Files.asked c.args.files.now in
    let mid = g.F.Files.asked c.begun_refusal.new.files in
    let read = g.F.Files.asked c.prepare.new.src in
    let new = g.F.Files.asked c.write.new.files in
    merge-asks-both (sidecars_of words) words old mid new (merge-asks-looks words old mid c.begun_refusal.ensures.looks.kept.asks)
    (merge-asks-more [] (sidecars_of words) words mid new (λ name others. tt)
    (subst (λ (asked : List Asked). AsksToMerge [] words asked new) (g.met.F.Files.asked_stands c.prepare.new.src c.begun_refusal.new.files c.in_ok-prepared.ensures.reading.standing) c.write.ensures.asks))
