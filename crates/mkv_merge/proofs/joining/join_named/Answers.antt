use Rattle.std.proofs.Common.{ap, ◌≡◌, List, [], None, Result, Err, refl, sym, ◌∙◌, subst, arith}
use Rattle.std.proofs.lemmas.Result.{err_from_is_err_and}
use Rattle.mkv_io.specs.Names.{Names}
use Rattle.mkv_io.specs.Sources.{live_files}
use Rattle.input_files.specs.Inputs.{first_missing}
use Rattle.input_files.specs.declared.text_files.TextFiles.{TextFiles}
use Rattle.input_files.specs.declared.times_file.TimesFile.{TimesFile}
use Rattle.input_files.specs.declared.chapter_file.ChapterFile.TheVariants.{Absent}
use Rattle.merge_plan.specs.Plan.{Source}
use Rattle.mkv_lines.specs.declared.status.CommandEnd.TheVariants as stop
use Rattle.mkv_merge.specs.Bound.{contents_walked, files_size, files_walked, opened_length}
use Rattle.mkv_merge.specs.Attached.{own_ids}
use Rattle.mkv_merge.specs.Opened.{FindsAll, opened_names}
use Rattle.mkv_merge.specs.Joined.{Merges, as_merged, no_texts, sources_alone}
use Rattle.mkv_merge.specs.Merge.{sources_unless}
use Rattle.mkv_merge.specs.Prepared.{ReadsAs}
use Rattle.mkv_merge.specs.Read.{attached_held, contents_held}
use Rattle.mkv_merge.specs.declared.refusal.MergeEnd.TheVariants.{Stopped}
use Rattle.mkv_merge.specs.declared.refusal.Refusal.{Refusal}
use Rattle.mkv_merge.proofs.JoinedLemmas.{merges-ended}
use Rattle.mkv_merge.proofs.MergingLemmas.{alone-found, join-ended, opened-lengths, opened-told, opening-found, reads-closed, there-found, written-found}
use Rattle.mkv_merge.proofs.AskedLemmas.{merge-asks-both, merge-asks-inputs, merge-asks-more, merge-asks-none}
use Rattle.mkv_merge.proofs.joining.join_named.Goals as goal

-- Memory ran out for the names of the outputs.
pub returns-in_err-name-clause-merges : goal.returns-in_err-name-clause-merges
returns-in_err-name-clause-merges g c = λ world told.
    let p = err_from_is_err_and c.from_residual.result c.from_residual.ensures.1 in
    let names = g.F.Files.names c.args.files.now in
    rw (p.1, p.2) (merges-ended names names c.args.words.now (sources_alone world c.args.words.now) (Stopped stop.Memory) tt refl)

-- An output could have the name of a file that is read.
pub returns-in-Some-clause-merges : goal.returns-in-Some-clause-merges
returns-in-Some-clause-merges g c = λ world told.
    let words = c.args.words.now in
    (alone-found world words ∙ written-found world words [] no_texts (contents_held world words) (attached_held world words) c.in-Some.name (sym c.in_ok-name.ensures ∙ c.in-Some.is), refl)

-- A file is missing or couldn't be opened.
pub returns-in_err-ids-clause-merges : goal.returns-in_err-ids-clause-merges
returns-in_err-ids-clause-merges g c = λ world told.
    let p = err_from_is_err_and c.from_residual-in_err-ids.result c.from_residual-in_err-ids.ensures.1 in
    let words = c.args.words.now in
    let end = c.in_err-ids.field-0.0 in
    let plain = ap (λ (times : List TimesFile). let texts : TextFiles = record { chapters = Absent; times = times } in texts) c.new.ensures in
    let finds : FindsAll world words no_texts (Err end) = subst (λ (t : TextFiles). FindsAll world words t (Err end)) plain (c.in_err-ids.ensures.found world told) in
    rw (p.1, p.2) (merges-ended (g.F.Files.names c.args.files.now) (g.F.Files.names c.open_files.new.files) words (sources_alone world words) end
    (subst (λ (o : Result (List Source) Refusal). ReadsAs {B = List Source} (λ (s : List Source). s) o (Err end)) (sym (alone-found world words))
    (opening-found world words [] no_texts (contents_held world words) (attached_held world words) (sym c.in_ok-name.ensures ∙ c.in_default.is) (λ (s : List Source). s) end finds))
    c.open_files.ensures.same.names)

-- The files were opened, merged and closed.
pub returns-clause-merges : goal.returns-clause-merges
returns-clause-merges g c = λ world told.
    let words = c.args.words.now in
    let contents = contents_held world words in
    let attached = attached_held world words in
    let there : first_missing world (opened_names words) ≡ None = c.in_ok-ids.ensures.found world told in
    let f = live_files g.F.Reads c.open_files.new.files in
    let found : sources_alone world words ≡ sources_unless [] words no_texts contents attached =
    alone-found world words ∙ there-found world words [] no_texts contents attached (sym c.in_ok-name.ensures ∙ c.in_default.is) there in
    let both = opened-told f world words c.in_ok-ids.ids c.as_slice.result.now c.as_slice.ensures there (c.in_ok-ids.ensures.contents world told) in
    subst (λ (now : Names). Merges (g.F.Files.names c.args.files.now) now words (sources_alone world words) (as_merged c.join_opened-ended.result)) (sym c.close_all.ensures.names)
    (subst (λ (before : Names). Merges before (g.F.Files.names c.join_opened-ended.new.files) words (sources_alone world words) (as_merged c.join_opened-ended.result)) c.in_ok-ids.ensures.same.names
    (subst (λ (o : Result (List Source) Refusal). Merges (g.F.Files.names c.open_files.new.files) (g.F.Files.names c.join_opened-ended.new.files) words o (as_merged c.join_opened-ended.result)) (sym found)
    (c.join_opened-ended.ensures.merges contents both.0 attached both.1)))

-- No text file is named.
pub join_opened-ended-requires-clause-texts : goal.join_opened-ended-requires-clause-texts
join_opened-ended-requires-clause-texts g c = ap (λ (times : List TimesFile). let texts : TextFiles = record { chapters = Absent; times = times } in texts) c.new.ensures

-- ---- end of the merge

pub returns-in_err-ids-clause-cause : goal.returns-in_err-ids-clause-cause
returns-in_err-ids-clause-cause g c =
    let p = err_from_is_err_and c.from_residual-in_err-ids.result c.from_residual-in_err-ids.ensures.1 in
    rw (p.1, p.2) (join-ended g.F.Reads g.F.Files c.args.files.now c.open_files.new.files c.in_err-ids.field-0.0 c.in_err-ids.ensures.cause c.open_files.ensures.same.writing)

-- ---- bytes read

pub returns-clause-octets : goal.returns-clause-octets
returns-clause-octets g c = λ world told.
    let words = c.args.words.now in
    let opened = c.open_files.new.files in
    let ids = c.as_slice.result.now in
    let f = live_files g.F.Reads opened in
    let contents = contents_held world words in
    let attached = attached_held world words in
    let there : first_missing world (opened_names words) ≡ None = c.in_ok-ids.ensures.found world told in
    let both = opened-told f world words c.in_ok-ids.ids ids c.as_slice.ensures there (c.in_ok-ids.ensures.contents world told) in
    let paid = c.join_opened-ended.ensures.octets contents both.0 attached both.1 in
    let lengths = opened-lengths f (g.met.F.Reads.told_size (g.F.Reads.standing opened)) world words ids both.0 both.1 in
    let closed = reads-closed (sources_alone world words) (sources_unless [] words no_texts contents attached) (opened_length world words) (files_size f ids) (contents_walked world words.files) (files_walked f words.files (own_ids words ids)) 0 0
    (g.F.Reads.octets_read c.args.files.now) (g.F.Reads.octets_read c.args.files.now) (g.F.Reads.octets_read opened) (g.F.Reads.octets_read c.join_opened-ended.new.files) (g.F.Reads.octets_read c.close_all.new.files)
    (alone-found world words ∙ there-found world words [] no_texts contents attached (sym c.in_ok-name.ensures ∙ c.in_default.is) there)
    lengths.0 lengths.1 (omega arith) c.in_ok-ids.ensures.same.octets (omega (arith, paid)) c.close_all.ensures.octets in
    omega (arith, closed)

-- ---- calls for files

-- Inputs are opened.
pub returns-clause-asks : goal.returns-clause-asks
returns-clause-asks g c =
    let words = c.args.words.now in
    let names = opened_names words in
    let old = g.F.Files.asked c.args.files.now in
    let opened = g.F.Files.asked c.open_files.new.files in
    let merged = g.F.Files.asked c.join_opened-ended.new.files in
    let closed = g.F.Files.asked c.close_all.new.files in
    merge-asks-both names words old opened closed (merge-asks-inputs words old opened c.in_ok-ids.ensures.opens.asks)
    (merge-asks-both names words opened merged closed (merge-asks-more [] names words opened merged (λ name others. tt) c.join_opened-ended.ensures.asks)
    (merge-asks-none names words merged closed c.close_all.ensures.asked))

-- Inputs couldn't be opened.
pub returns-in_err-ids-clause-asks : goal.returns-in_err-ids-clause-asks
returns-in_err-ids-clause-asks g c =
    merge-asks-inputs c.args.words.now (g.F.Files.asked c.args.files.now) (g.F.Files.asked c.open_files.new.files) c.in_err-ids.ensures.refused.asks

-- Nothing was looked at.
pub returns-in-Some-clause-asks : goal.returns-in-Some-clause-asks
returns-in-Some-clause-asks g c = merge-asks-none (opened_names c.args.words.now) c.args.words.now (g.F.Files.asked c.args.files.now) (g.F.Files.asked c.args.files.now) refl

pub returns-in_err-name-clause-asks : goal.returns-in_err-name-clause-asks
returns-in_err-name-clause-asks g c = merge-asks-none (opened_names c.args.words.now) c.args.words.now (g.F.Files.asked c.args.files.now) (g.F.Files.asked c.args.files.now) refl
