use Rattle.std.proofs.Common.{◌≡◌, ℕ, ◌+◌, ◌*◌, ◌≤◌, List, [], ◌++◌, Result, Err, length, take, drop, sym, ◌∙◌, ap, ap₂, subst, arith}
use Rattle.std.proofs.lemmas.List.{take-append-drop}
use Rattle.std.proofs.lemmas.List.Sums.{sum_by-take-le}
use Rattle.std.proofs.lemmas.Result.{err_from_is_err_and}
use Rattle.mkv_io.specs.LiveFiles.{LiveFiles}
use Rattle.mkv_io.specs.Names.{Names}
use Rattle.mkv_io.specs.Sources.{live_files}
use Rattle.mkv_io.specs.declared.asked.Asked.{Asked}
use Rattle.mkv_io.specs.declared.outside.FileId.{FileId}
use Rattle.mkv_outputs.specs.Sinks.{AreLive}
use Rattle.input_files.specs.declared.text_files.TextFiles.{TextFiles}
use Rattle.merge_plan.specs.Plan.{Source}
use Rattle.remuxer.specs.Plan.{data_length}
use Rattle.mkv_merge.specs.Asked.{AsksToMerge}
use Rattle.mkv_merge.specs.Attached.{attached_ids, own_ids}
use Rattle.mkv_merge.specs.Bound.{files_size, files_walked}
use Rattle.mkv_merge.specs.Ends.{as_remuxed}
use Rattle.mkv_merge.specs.Joined.{Merges, as_merged, no_texts}
use Rattle.mkv_merge.specs.Merge.{sources_unless}
use Rattle.mkv_merge.specs.Opened.{opened_names}
use Rattle.mkv_merge.specs.Prepared.{AreTold, IsPrepared, ReadsAs, sources_from}
use Rattle.mkv_merge.specs.declared.preparing.Prepared.{Prepared}
use Rattle.mkv_merge.specs.declared.refusal.Refusal.{Refusal}
use Rattle.mkv_merge.proofs.JoinedLemmas.{merges-ended, merges-remuxed}
use Rattle.mkv_merge.proofs.MergingLemmas.{as-sources, inputs-kept, join-ended, join-remuxed, joined-told, opened-parts, reads-both}
use Rattle.mkv_merge.proofs.WritingLemmas.{data-counted, lanes-count, merge-is, plan-good, plan-reads, plan-told}
use Rattle.mkv_merge.proofs.AskedLemmas.{merge-asks-made, merge-asks-none}
use Rattle.mkv_merge.proofs.joining.join_opened.Goals as goal

-- The files are live, one for each name.
pub prepare-requires-clause-ready : goal.prepare-requires-clause-ready
prepare-requires-clause-ready g c =
    let words = c.args.words.now in
    let ids = c.args.ids.now in
    let own = own_ids words ids in
    let parts = opened-parts g.F.Reads g.F.Files c.args.files.now words ids c.requires.inputs in
    let own-is : c.split_at.result.0.now ≡ own = c.split_at.ensures.front ∙ ap (λ (n : ℕ). take n ids) c.len.ensures in
    record {
      sound = c.requires.words.sound;
      live = subst (AreLive (live_files g.F.Reads c.args.files.now).live) (sym own-is) parts.own;
      each = ap (λ (l : List FileId). length l) own-is ∙ parts.own_each;
    }

pub prepare-requires-clause-attached : goal.prepare-requires-clause-attached
prepare-requires-clause-attached g c =
    let words = c.args.words.now in
    let ids = c.args.ids.now in
    let parts = opened-parts g.F.Reads g.F.Files c.args.files.now words ids c.requires.inputs in
    let other-is : c.split_at.result.1.now ≡ attached_ids words ids = c.split_at.ensures.back ∙ ap (λ (n : ℕ). drop n ids) c.len.ensures in
    record {
      live = subst (AreLive (live_files g.F.Reads c.args.files.now).live) (sym other-is) parts.other;
      each = ap (λ (l : List FileId). length l) other-is ∙ parts.other_each;
    }

-- Nothing else has changed.
pub remux-requires : goal.remux-requires
remux-requires g c =
    let words = c.args.words.now in
    let ids = c.args.ids.now in
    let whole : c.split_at.result.0.now ++ c.split_at.result.1.now ≡ ids = ap₂ (λ (a b : List FileId). a ++ b) c.split_at.ensures.front c.split_at.ensures.back ∙ take-append-drop c.len.result ids in
    let ready = subst (λ (l : List FileId). IsPrepared (live_files g.F.Reads c.prepare.new.src) words l c.in_ok-prepared.prepared) whole c.in_ok-prepared.ensures.prepared in
    plan-good g.F.Reads g.F.Files c.prepare.new.src words ids c.in_ok-prepared.prepared c.requires.words
    (inputs-kept g.F.Reads g.F.Files (opened_names words) c.args.files.now c.prepare.new.src ids c.requires.inputs c.in_ok-prepared.ensures.reading.standing (g.met.F.Files.holders_stand c.prepare.new.src c.args.files.now c.in_ok-prepared.ensures.reading.standing))
    ready

-- An input couldn't be read, or reading found a refusal.
pub returns-in_err-prepared-clause-merges : goal.returns-in_err-prepared-clause-merges
returns-in_err-prepared-clause-merges g c = λ contents told attached other.
    let p = err_from_is_err_and c.from_residual.result c.from_residual.ensures.1 in
    let words = c.args.words.now in
    let ids = c.args.ids.now in
    let own = own_ids words ids in
    let own-is : c.split_at.result.0.now ≡ own = c.split_at.ensures.front ∙ ap (λ (n : ℕ). take n ids) c.len.ensures in
    let other-is : c.split_at.result.1.now ≡ attached_ids words ids = c.split_at.ensures.back ∙ ap (λ (n : ℕ). drop n ids) c.len.ensures in
    let old = live_files g.F.Reads c.args.files.now in
    let own-told = subst (λ (l : List FileId). AreTold old l contents) (sym own-is) told in
    let other-told = subst (λ (l : List FileId). AreTold old l attached) (sym other-is) other in
    let plain = ap (λ (t : TextFiles). sources_unless [] words t contents attached) c.requires.texts in
    rw (p.1, p.2) (merges-ended (g.F.Files.names c.args.files.now) (g.F.Files.names c.prepare.new.src) words (sources_unless [] words no_texts contents attached) c.in_err-prepared.field-0.0
    (subst (λ (o : Result (List Source) Refusal). ReadsAs {B = List Source} (λ (s : List Source). s) o (Err c.in_err-prepared.field-0.0)) plain
    (as-sources {A = Prepared} (λ (q : Prepared). sources_from (contents ++ attached) q.inputs) c.in_err-prepared.field-0.0 _ (c.in_err-prepared.ensures.exact contents own-told attached other-told)))
    (g.met.F.Files.names_stand c.prepare.new.src c.args.files.now c.in_err-prepared.ensures.reading.standing))

-- The outputs are written, or can't be written.
pub returns-clause-merges : goal.returns-clause-merges
returns-clause-merges g c = λ contents told attached other.
    let words = c.args.words.now in
    let ids = c.args.ids.now in
    let own = own_ids words ids in
    let own-is : c.split_at.result.0.now ≡ own = c.split_at.ensures.front ∙ ap (λ (n : ℕ). take n ids) c.len.ensures in
    let other-is : c.split_at.result.1.now ≡ attached_ids words ids = c.split_at.ensures.back ∙ ap (λ (n : ℕ). drop n ids) c.len.ensures in
    let whole : c.split_at.result.0.now ++ c.split_at.result.1.now ≡ ids = ap₂ (λ (a b : List FileId). a ++ b) c.split_at.ensures.front c.split_at.ensures.back ∙ take-append-drop c.len.result ids in
    let ready = subst (λ (l : List FileId). IsPrepared (live_files g.F.Reads c.prepare.new.src) words l c.in_ok-prepared.prepared) whole c.in_ok-prepared.ensures.prepared in
    let old = live_files g.F.Reads c.args.files.now in
    let own-told = subst (λ (l : List FileId). AreTold old l contents) (sym own-is) told in
    let other-told = subst (λ (l : List FileId). AreTold old l attached) (sym other-is) other in
    let plain = ap (λ (t : TextFiles). sources_unless [] words t contents attached) c.requires.texts in
    let prepared = c.in_ok-prepared.prepared in
    let standing = c.in_ok-prepared.ensures.reading.standing in
    let now = live_files g.F.Reads c.prepare.new.src in
    let same : now ≡ old = ap g.F.Reads.files standing in
    let all = contents ++ attached in
    let sources = sources_from all prepared.inputs in
    let now-told : AreTold now ids all = subst (λ (f : LiveFiles). AreTold f ids all) (sym same) (joined-told old words ids contents attached told other) in
    let is = merge-is now words ids all prepared ready now-told in
    let exact = sym plain ∙ c.in_ok-prepared.ensures.exact contents own-told attached other-told in
    let planned = plan-told now words ids all prepared ready now-told in
    rw c.remuxed.ensures
    (subst (λ (before : Names). Merges before (g.F.Files.names c.remux.new.files) words (sources_unless [] words no_texts contents attached) (as_merged (as_remuxed c.remux.result))) (g.met.F.Files.names_stand c.prepare.new.src c.args.files.now standing)
    (merges-remuxed (g.F.Files.names c.prepare.new.src) (g.F.Files.names c.remux.new.files) words (sources_unless [] words no_texts contents attached) now prepared.inputs prepared.plan sources c.remux.result exact is
    (c.remux.ensures.summary planned) (c.remux.ensures.output planned)))

-- ---- end of the merge

pub returns-in_err-prepared-clause-cause : goal.returns-in_err-prepared-clause-cause
returns-in_err-prepared-clause-cause g c =
    let p = err_from_is_err_and c.from_residual.result c.from_residual.ensures.1 in
    rw (p.1, p.2) (join-ended g.F.Reads g.F.Files c.args.files.now c.prepare.new.src c.in_err-prepared.field-0.0 c.in_err-prepared.ensures.reading.cause
    (g.met.F.Files.writing_stands c.prepare.new.src c.args.files.now c.in_err-prepared.ensures.reading.standing))

pub returns-clause-cause : goal.returns-clause-cause
returns-clause-cause g c =
    rw c.remuxed.ensures (join-remuxed g.F.Reads g.F.Files c.args.files.now c.prepare.new.src c.remux.new.files c.remux.result c.in_ok-prepared.ensures.reading.cause
    (g.met.F.Files.writing_stands c.prepare.new.src c.args.files.now c.in_ok-prepared.ensures.reading.standing) c.remux.ensures.cause)

-- ---- bytes read

pub returns-clause-octets : goal.returns-clause-octets
returns-clause-octets g c = λ contents told attached other.
    let words = c.args.words.now in
    let ids = c.args.ids.now in
    let own = own_ids words ids in
    let own-is : c.split_at.result.0.now ≡ own = c.split_at.ensures.front ∙ ap (λ (n : ℕ). take n ids) c.len.ensures in
    let other-is : c.split_at.result.1.now ≡ attached_ids words ids = c.split_at.ensures.back ∙ ap (λ (n : ℕ). drop n ids) c.len.ensures in
    let whole : c.split_at.result.0.now ++ c.split_at.result.1.now ≡ ids = ap₂ (λ (a b : List FileId). a ++ b) c.split_at.ensures.front c.split_at.ensures.back ∙ take-append-drop c.len.result ids in
    let ready = subst (λ (l : List FileId). IsPrepared (live_files g.F.Reads c.prepare.new.src) words l c.in_ok-prepared.prepared) whole c.in_ok-prepared.ensures.prepared in
    let old = live_files g.F.Reads c.args.files.now in
    let own-told = subst (λ (l : List FileId). AreTold old l contents) (sym own-is) told in
    let other-told = subst (λ (l : List FileId). AreTold old l attached) (sym other-is) other in
    let plain = ap (λ (t : TextFiles). sources_unless [] words t contents attached) c.requires.texts in
    let prepared = c.in_ok-prepared.prepared in
    let standing = c.in_ok-prepared.ensures.reading.standing in
    let now = live_files g.F.Reads c.prepare.new.src in
    let same : now ≡ old = ap g.F.Reads.files standing in
    let all = contents ++ attached in
    let sources = sources_from all prepared.inputs in
    let now-told : AreTold now ids all = subst (λ (f : LiveFiles). AreTold f ids all) (sym same) (joined-told old words ids contents attached told other) in
    let is = merge-is now words ids all prepared ready now-told in
    let exact = sym plain ∙ c.in_ok-prepared.ensures.exact contents own-told attached other-told in
    let most : files_size old own ≤ files_size old ids = omega (arith, sum_by-take-le (λ (file : FileId). old.size file.n) ids (length words.files)) in
    let read = subst (λ (l : List FileId). g.F.Reads.octets_read c.prepare.new.src ≤ g.F.Reads.octets_read c.args.files.now + (25 * files_size old l + 2 * files_walked old words.files l)) own-is c.prepare.ensures.octets in
    reads-both (sources_unless [] words no_texts contents attached) sources (length prepared.plan.lanes) (g.F.Reads.octets_read c.args.files.now) (g.F.Reads.octets_read c.prepare.new.src) (g.F.Reads.octets_read c.remux.new.files) (files_size old ids) (files_walked old words.files own) (files_size now ids) (data_length prepared.plan)
    exact (lanes-count now words prepared.inputs prepared.plan sources is) (ap (λ (f : LiveFiles). files_size f ids) same) (data-counted now words prepared.inputs prepared.plan sources is) (omega (arith, read, most))
    (plan-reads now words ids prepared (g.F.Reads.octets_read c.prepare.new.src) (g.F.Reads.octets_read c.remux.new.files) ready c.remux.ensures.octets)

pub returns-in_err-prepared-clause-octets : goal.returns-in_err-prepared-clause-octets
returns-in_err-prepared-clause-octets g c = λ contents told attached other.
    let words = c.args.words.now in
    let ids = c.args.ids.now in
    let own = own_ids words ids in
    let own-is : c.split_at.result.0.now ≡ own = c.split_at.ensures.front ∙ ap (λ (n : ℕ). take n ids) c.len.ensures in
    let old = live_files g.F.Reads c.args.files.now in
    let most : files_size old own ≤ files_size old ids = omega (arith, sum_by-take-le (λ (file : FileId). old.size file.n) ids (length words.files)) in
    let read = subst (λ (l : List FileId). g.F.Reads.octets_read c.prepare.new.src ≤ g.F.Reads.octets_read c.args.files.now + (25 * files_size old l + 2 * files_walked old words.files l)) own-is c.prepare.ensures.octets in
    omega (arith, read, most)

-- ---- calls for files

-- Reading makes no call for files.
pub returns-in_err-prepared-clause-asks : goal.returns-in_err-prepared-clause-asks
returns-in_err-prepared-clause-asks g c =
    merge-asks-none [] c.args.words.now (g.F.Files.asked c.args.files.now) (g.F.Files.asked c.prepare.new.src) (g.met.F.Files.asked_stands c.prepare.new.src c.args.files.now c.in_err-prepared.ensures.reading.standing)

pub returns-clause-asks : goal.returns-clause-asks
returns-clause-asks g c =
    let prepared = c.in_ok-prepared.prepared in
    subst (λ (asked : List Asked). AsksToMerge [] c.args.words.now asked (g.F.Files.asked c.remux.new.files)) (g.met.F.Files.asked_stands c.prepare.new.src c.args.files.now c.in_ok-prepared.ensures.reading.standing)
    (merge-asks-made g.F.Reads g.F.Files c.args.words.now prepared.inputs prepared.plan c.prepare.new.src c.remux.new.files c.in_ok-prepared.ensures.prepared.plan c.remux.ensures.kept)
