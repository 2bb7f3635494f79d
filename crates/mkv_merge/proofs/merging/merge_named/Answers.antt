use Rattle.std.proofs.Common.{◌≡◌, ℕ, ◌+◌, ◌≤◌, List, [], ◌∷◌, None, Err, refl, sym, ◌∙◌, ap, subst, arith}
use Rattle.std.proofs.lemmas.Result.{err_from_is_err_and}
use Rattle.mkv_io.specs.Sources.{live_files}
use Rattle.input_files.specs.TextFiles.{text_files, text_octets}
use Rattle.input_files.specs.declared.text_files.TextFiles.{TextFiles}
use Rattle.requests.specs.declared.merge.FileWords.{FileWords}
use Rattle.mkv_lines.specs.Code.{read_stop}
use Rattle.mkv_lines.specs.declared.status.Status.{Status}
use Rattle.mkv_lines.specs.declared.status.CommandEnd.TheVariants as stop
use Rattle.input_files.specs.Inputs.{first_missing}
use Rattle.merge_plan.specs.Plan.{Source}
use Rattle.mkv_merge.specs.Asked.{opened_by}
use Rattle.mkv_merge.specs.Attached.{own_ids}
use Rattle.mkv_merge.specs.Opened.{FindsAll, opened_names}
use Rattle.mkv_merge.specs.Bound.{contents_walked, files_size, files_walked, most_looked, most_read, opened_length}
use Rattle.mkv_merge.specs.Ends.{HasReadCause}
use Rattle.mkv_merge.specs.Merge.{sources_of, sources_unless}
use Rattle.mkv_merge.specs.Read.{attached_held, contents_held, first_written, pending_of, texts_held}
use Rattle.mkv_merge.specs.Stages.{refusals_begun}
use Rattle.mkv_merge.specs.declared.refusal.MergeEnd.TheVariants.{Refused, Stopped}
use Rattle.mkv_merge.specs.declared.refusal.Refusal.TheVariants.{OutputIsInput}
use Rattle.mkv_merge.proofs.MergingLemmas.{ended-early, merges-early, merges-within, opened-lengths, opened-told, opening-found, reads-closed, seen-kept, texts-cause, there-found, written-found}
use Rattle.mkv_merge.proofs.AskedLemmas.{merge-asks-both, merge-asks-files, merge-asks-inputs, merge-asks-none, merge-asks-sidecars, merge-asks-texts}
use Rattle.mkv_merge.proofs.merging.merge_named.Goals as goal

-- Memory ran out for the names of the outputs.
pub returns-in_err-name-clause-merges : goal.returns-in_err-name-clause-merges
returns-in_err-name-clause-merges g c = λ world told.
    let p = err_from_is_err_and c.from_residual.result c.from_residual.ensures.1 in
    let files = c.args.files.now in
    rw (p.1, p.2) (merges-early g.F.Reads g.F.Files g.P.Report files files c.args.report.now c.args.words.now (sources_of world c.args.words.now) (most_read world c.args.words.now) (Stopped stop.Memory) tt refl (omega arith))

-- An output could have the name of a file that is read.
pub returns-in-Some-clause-merges : goal.returns-in-Some-clause-merges
returns-in-Some-clause-merges g c = λ world told.
    let words = c.args.words.now in
    let files = c.args.files.now in
    merges-early g.F.Reads g.F.Files g.P.Report files files c.args.report.now words (sources_of world words) (most_read world words) (Refused (OutputIsInput c.in-Some.name))
    (written-found world words (pending_of world words ∷ []) (texts_held world words) (contents_held world words) (attached_held world words) c.in-Some.name (sym c.in_ok-name.ensures ∙ c.in-Some.is))
    refl (omega arith)

-- A text file couldn't be read.
pub returns-in_err-texts-clause-merges : goal.returns-in_err-texts-clause-merges
returns-in_err-texts-clause-merges g c = λ world told.
    let p = err_from_is_err_and c.from_residual-in_err-texts.result c.from_residual-in_err-texts.ensures.1 in
    let words = c.args.words.now in
    let paid = subst (λ (files : List FileWords). g.F.Reads.octets_read c.read_text_files.new.files ≤ g.F.Reads.octets_read c.args.files.now + text_octets world words.chapters files) c.as_slice.ensures (c.read_text_files.ensures.octets world told) in
    rw (p.1, p.2) (merges-early g.F.Reads g.F.Files g.P.Report c.args.files.now c.read_text_files.new.files c.args.report.now words (sources_of world words) (most_read world words) (Stopped (read_stop c.in_err-texts.field-0.0)) tt
    c.read_text_files.ensures.looks.names (omega (arith, paid)))

-- A file is missing or couldn't be opened.
pub returns-in_err-ids-clause-merges : goal.returns-in_err-ids-clause-merges
returns-in_err-ids-clause-merges g c = λ world told.
    let p = err_from_is_err_and c.from_residual-in_err-ids.result c.from_residual-in_err-ids.ensures.1 in
    let words = c.args.words.now in
    let looks = c.read_text_files.ensures.looks in
    let end = c.in_err-ids.field-0.0 in
    let apart : first_written words ≡ None = sym c.in_ok-name.ensures ∙ c.in_default.is in
    let texts : c.in_ok-texts.texts ≡ texts_held world words = c.in_ok-texts.ensures.exact world told ∙ ap (text_files world words.chapters) c.as_slice.ensures in
    let finds : FindsAll world words (texts_held world words) (Err end) = subst (λ (t : TextFiles). FindsAll world words t (Err end)) texts (c.in_err-ids.ensures.found world (looks.names ∙ told)) in
    let paid = subst (λ (files : List FileWords). g.F.Reads.octets_read c.read_text_files.new.files ≤ g.F.Reads.octets_read c.args.files.now + text_octets world words.chapters files) c.as_slice.ensures (c.read_text_files.ensures.octets world told) in
    rw (p.1, p.2) (merges-early g.F.Reads g.F.Files g.P.Report c.args.files.now c.open_files.new.files c.args.report.now words (sources_of world words) (most_read world words) end
    (opening-found world words (pending_of world words ∷ []) (texts_held world words) (contents_held world words) (attached_held world words) apart (λ (sources : List Source). sources) end finds)
    (c.open_files.ensures.same.names ∙ looks.names) (omega (arith, paid, c.open_files.ensures.same.octets)))

-- The files were opened, merged and closed.
pub returns-clause-merges : goal.returns-clause-merges
returns-clause-merges g c = λ world told.
    let words = c.args.words.now in
    let opened = c.open_files.new.files in
    let ids = c.as_slice-2.result.now in
    let f = live_files g.F.Reads opened in
    let looks = c.read_text_files.ensures.looks in
    let same = c.in_ok-ids.ensures.same in
    let ends = c.close_all.ensures in
    let said = c.merge_opened-ended.new.report in
    let names = same.names ∙ looks.names in
    let apart : first_written words ≡ None = sym c.in_ok-name.ensures ∙ c.in_default.is in
    let there : first_missing world (opened_names words) ≡ None = c.in_ok-ids.ensures.found world (looks.names ∙ told) in
    let contents = contents_held world words in
    let attached = attached_held world words in
    let texts : c.in_ok-texts.texts ≡ texts_held world words = c.in_ok-texts.ensures.exact world told ∙ ap (text_files world words.chapters) c.as_slice.ensures in
    let both = opened-told f world words c.in_ok-ids.ids ids c.as_slice-2.ensures there (c.in_ok-ids.ensures.contents world (looks.names ∙ told)) in
    let found : sources_of world words ≡ sources_unless (refusals_begun world words c.in_ok-texts.texts) words c.in_ok-texts.texts contents attached =
    there-found world words (pending_of world words ∷ []) (texts_held world words) contents attached apart there
    ∙ ap (λ (t : TextFiles). sources_unless (refusals_begun world words t) words t contents attached) (sym texts) in
    let merged = c.merge_opened-ended.ensures.merges world (names ∙ told) contents both.0 attached both.1 in
    let paid = subst (λ (files : List FileWords). g.F.Reads.octets_read c.read_text_files.new.files ≤ g.F.Reads.octets_read c.args.files.now + text_octets world words.chapters files) c.as_slice.ensures (c.read_text_files.ensures.octets world told) in
    let lengths = opened-lengths f (g.met.F.Reads.told_size (g.F.Reads.standing opened)) world words ids both.0 both.1 in
    merges-within g.F.Reads g.F.Files g.P.Report c.args.files.now opened c.merge_opened-ended.new.files c.close_all.new.files c.args.report.now said words (sources_of world words) (sources_unless (refusals_begun world words c.in_ok-texts.texts) words c.in_ok-texts.texts contents attached) (most_read world words) _ c.merge_opened-ended.result
    (seen-kept g.F.Reads g.F.Files g.P.Report c.args.files.now opened c.args.report.now (c.in_ok-ids.ensures.cause ∙ c.in_ok-texts.ensures.cause) (same.writing ∙ looks.writing) names)
    (seen-kept g.F.Reads g.F.Files g.P.Report c.merge_opened-ended.new.files c.close_all.new.files said ends.reading ends.writing ends.names)
    found (reads-closed (sources_of world words) (sources_unless (refusals_begun world words c.in_ok-texts.texts) words c.in_ok-texts.texts contents attached) (opened_length world words) (files_size f ids) (contents_walked world words.files) (files_walked f words.files (own_ids words ids)) (text_octets world words.chapters words.files) (most_looked words)
    (g.F.Reads.octets_read c.args.files.now) (g.F.Reads.octets_read c.read_text_files.new.files) (g.F.Reads.octets_read opened) (g.F.Reads.octets_read c.merge_opened-ended.new.files) (g.F.Reads.octets_read c.close_all.new.files)
    found lengths.0 lengths.1 paid same.octets merged.octets ends.octets) merged

-- ---- end of the merge

pub returns-in_err-texts-clause-ended : goal.returns-in_err-texts-clause-ended
returns-in_err-texts-clause-ended g c =
    let p = err_from_is_err_and c.from_residual-in_err-texts.result c.from_residual-in_err-texts.ensures.1 in
    let looks = c.read_text_files.ensures.looks in
    rw (p.1, p.2) (ended-early g.F.Reads g.F.Files g.P.Report c.args.files.now c.read_text_files.new.files c.args.report.now (Stopped (read_stop c.in_err-texts.field-0.0))
    (texts-cause _ _ c.in_err-texts.field-0.0 c.in_err-texts.ensures.cause) looks.writing looks.kept.live)

pub returns-in_err-ids-clause-ended : goal.returns-in_err-ids-clause-ended
returns-in_err-ids-clause-ended g c =
    let p = err_from_is_err_and c.from_residual-in_err-ids.result c.from_residual-in_err-ids.ensures.1 in
    let looks = c.read_text_files.ensures.looks in
    let end = c.in_err-ids.field-0.0 in
    rw (p.1, p.2) (ended-early g.F.Reads g.F.Files g.P.Report c.args.files.now c.open_files.new.files c.args.report.now end
    (subst (λ (n : ℕ). HasReadCause {T = Status} n (g.F.Reads.reading_faults c.open_files.new.files) (Err end)) c.in_ok-texts.ensures.cause c.in_err-ids.ensures.cause)
    (c.open_files.ensures.same.writing ∙ looks.writing) (λ file. c.in_err-ids.ensures.refused.live file ∙ looks.kept.live file))

-- ---- calls for files

-- No file is asked for.
pub returns-in_err-name-clause-asks : goal.returns-in_err-name-clause-asks
returns-in_err-name-clause-asks g c = merge-asks-none (opened_by c.args.words.now) c.args.words.now (g.F.Files.asked c.args.files.now) (g.F.Files.asked c.args.files.now) refl

pub returns-in-Some-clause-asks : goal.returns-in-Some-clause-asks
returns-in-Some-clause-asks g c = merge-asks-none (opened_by c.args.words.now) c.args.words.now (g.F.Files.asked c.args.files.now) (g.F.Files.asked c.args.files.now) refl

-- Text files are opened.
pub returns-in_err-texts-clause-asks : goal.returns-in_err-texts-clause-asks
returns-in_err-texts-clause-asks g c =
    merge-asks-texts c.args.words.now c.as_slice.result.now (g.F.Files.asked c.args.files.now) (g.F.Files.asked c.read_text_files.new.files) c.as_slice.ensures c.read_text_files.ensures.looks.kept.asks

-- Then inputs are opened.
pub returns-in_err-ids-clause-asks : goal.returns-in_err-ids-clause-asks
returns-in_err-ids-clause-asks g c =
    let words = c.args.words.now in
    let old = g.F.Files.asked c.args.files.now in
    let mid = g.F.Files.asked c.read_text_files.new.files in
    let new = g.F.Files.asked c.open_files.new.files in
    merge-asks-both (opened_by words) words old mid new (merge-asks-texts words c.as_slice.result.now old mid c.as_slice.ensures c.read_text_files.ensures.looks.kept.asks)
    (merge-asks-files words mid new (merge-asks-inputs words mid new c.in_err-ids.ensures.refused.asks))

-- Journals are looked at, too.
pub returns-clause-asks : goal.returns-clause-asks
returns-clause-asks g c =
    let words = c.args.words.now in
    let old = g.F.Files.asked c.args.files.now in
    let mid = g.F.Files.asked c.read_text_files.new.files in
    let opened = g.F.Files.asked c.open_files.new.files in
    let merged = g.F.Files.asked c.merge_opened-ended.new.files in
    let closed = g.F.Files.asked c.close_all.new.files in
    merge-asks-both (opened_by words) words old mid closed (merge-asks-texts words c.as_slice.result.now old mid c.as_slice.ensures c.read_text_files.ensures.looks.kept.asks)
    (merge-asks-both (opened_by words) words mid opened closed (merge-asks-files words mid opened (merge-asks-inputs words mid opened c.in_ok-ids.ensures.opens.asks))
    (merge-asks-both (opened_by words) words opened merged closed (merge-asks-sidecars words opened merged c.merge_opened-ended.ensures.asks)
    (merge-asks-none (opened_by words) words merged closed c.close_all.ensures.asked)))
