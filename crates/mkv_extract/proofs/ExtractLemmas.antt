-- The steps from an extraction to its result.
use Rattle.std.proofs.Common.{◌≡◌, ◌+◌, ◌≤◌, ℕ, zero, suc, nat_lt, if◌then◌else◌, slice_get, arith, List, [], ◌∷◌, ◌++◌, length, Bool, true, false, ◌||◌, map, cond, append-nil, Option, Some, None, Ok, option_map, option_to_list, IsSome, Result, Err, IfOk, inl, refl, sym, ◌∙◌, ap, subst}
use Rattle.std.specs.List.{All, find}
use Rattle.std.specs.Str.{bytes_eq}
use Rattle.std.proofs.lemmas.Bool.{le-ltb, lt-ltb}
use Rattle.std.proofs.lemmas.List.{length-map}
use Rattle.std.proofs.lemmas.Slice.Eq.{bytes_eq-Decides}
use Rattle.mkv_io.specs.Asked.{AsksFor, AsksOnly, IsNotAmong}
use Rattle.mkv_io.specs.Lines.{with_lines}
use Rattle.mkv_io.specs.Names.{AreApart, AreOthers}
use Rattle.mkv_io.specs.declared.asked.Asked.{Asked}
use Rattle.mkv_io.specs.declared.asked.Asked.TheVariants.{Opened}
use Rattle.mkv_io.proofs.AskedLemmas.{asks-both, asks-more, asks-none, asks-one}
use Rattle.requests.specs.declared.job.Job.{Job}
use Rattle.requests.specs.declared.job.Job.TheVariants as form
use Rattle.requests.specs.declared.job.Form.{Form}
use Rattle.requests.specs.declared.job.Target.{Target}
use Rattle.sidecar_edit.specs.Name.{sidecar_of, with_sidecar}
use Rattle.mkv_outputs.specs.Outputs.{Output, names_of, with_outputs}
use Rattle.mkv_outputs.specs.Starts.{ArePrefixes}
use Rattle.meta_records.specs.Attached.{AttachedFile}
use Rattle.extractors.specs.Attached.{attached_at, attached_output, attached_outputs}
use Rattle.extractors.specs.Cues.{cues_output, cues_outputs}
use Rattle.mkv_io.specs.declared.damage.Damage.{Damage}
use Rattle.mkv_io.specs.Lists.{is_some_of}
use Rattle.tree_format.specs.Node.{Node}
use Rattle.block_format.specs.Events.{Event, blocks_of}
use Rattle.cluster_reader.specs.ToldDamages.{told_damages}
use Rattle.meta_records.specs.Records.{scale_of_info}
use Rattle.extractors.specs.Content.{names_in}
use Rattle.extractors.specs.Job.{first_unfit, fit_outputs, form_of, job_outputs, job_refusal, names_for, outputs_taken, refusal_of, refusal_taken, targets_of}
use Rattle.extractors.specs.declared.frame_form.UnsupportedTrack.TheVariants.{NoExtractor, BadConfig}
use Rattle.extractors.specs.Job as jobs
use Rattle.extractors.proofs.ContentLemmas.{names_of-outputs}
use Rattle.extractors.proofs.JobLemmas.{job_outputs-others, outputs_for-apart}
use Rattle.mkv_io.specs.Results.{unless}
use Rattle.extractors.specs.declared.frame_form.Refusal.{Refusal}
use Rattle.extractors.specs.declared.track_output.TrackOutput.{TrackOutput}
use Rattle.extractors.specs.Source.{entry_in}
use Rattle.mkv_lines.specs.Line.{no_attachment_line, no_track_line, wrote_line}
use Rattle.mkv_lines.specs.Said.{ReportLines, Says, SaysPart}
use Rattle.mkv_lines.specs.Seen.{Seen}
use Rattle.mkv_lines.specs.Verdict.{Reaches, at_once}
use Rattle.mkv_lines.specs.declared.status.Status.{Status}
use Rattle.mkv_lines.specs.declared.status.CommandEnd.{CommandEnd}
use Rattle.mkv_lines.proofs.SaidLemmas.{SaysPart-all}
use Rattle.mkv_lines.proofs.VerdictLemmas.{Leaves-same, Reaches-behind}
use Rattle.mkv_extract.specs.Extract.{Taken, absent, attached_taken, cues_taken, done_verdict, entries_of, frames_taken, status_of, taken_by, taken_whole, told_bad, told_lines, warned}
use Rattle.mkv_extract.specs.Names.{first_written, is_read}
use Rattle.mkv_extract.specs.Read.{FileRead}
use Rattle.mkv_extract.specs.Told.{absent_lines, has_absent, line_of, outline_lines, written, wrote_lines}
use Rattle.mkv_extract.specs.declared.telling.Missing.{Missing}
use Rattle.mkv_extract.specs.declared.telling.Missing.TheVariants.{Attachment, Track}
use Rattle.mkv_extract.proofs.ToldLemmas.{any-absent, slice_get-past, slice_get-within, written-names}

-- ---- the names of the outputs

-- No name in the list is the name of a file that is read.
others-named : (name holder : List ℕ) (names : List (List ℕ)) → find (is_read name) names ≡ None → holder ≡ name → AreOthers holder names
others-named name holder [] none same = tt
others-named name holder (out ∷ outs) none same = split (bytes_eq out name) (bytes_eq out (sidecar_of name)) refl (λ rest. others-named name holder outs rest same) none
  where
    split : (own beside : Bool) → bytes_eq out name ≡ own → (find (is_read name) outs ≡ None → AreOthers holder outs) → cond (own || beside) (Some out) (find (is_read name) outs) ≡ None → AreOthers holder (out ∷ outs)
    split true beside is behind never = absurd (cc)
    split false true isnt behind never = absurd (cc)
    split false false isnt behind none = (λ one. let yes : bytes_eq out name ≡ true = (bytes_eq-Decides out name).1 (one ∙ same) in absurd (cc), behind none)

-- The file has another name than each of the outputs.
pub others-input : (name holder : List ℕ) (job : Job) → first_written name job ≡ None → holder ≡ name → AreOthers holder (names_for job)
others-input name holder job none same = others-named name holder (names_for job) none same

-- The name of the first target that passes a test.
pub found-name : (test : List ℕ → Bool) (targets : List Target) → option_map (λ (t : Target). t.name) (find (λ (t : Target). test t.name) targets) ≡ find test (jobs.names_of targets)
found-name test [] = refl
found-name test (t ∷ ts) = split (test t.name) (found-name test ts)
  where
    split : (b : Bool) → option_map (λ (t : Target). t.name) (find (λ (t : Target). test t.name) ts) ≡ find test (jobs.names_of ts)
        → option_map (λ (t : Target). t.name) (cond b (Some t) (find (λ (t : Target). test t.name) ts)) ≡ cond b (Some t.name) (find test (jobs.names_of ts))
    split true rest = refl
    split false rest = rest

-- ---- a job that extracts frames of tracks, or their timestamps

pub taken-job : (job : Job) (f : Form) (list : List Target) → job ≡ form.Tracks f list → IsSome (form_of job)
taken-job job f list is = subst (λ (j : Job). IsSome (form_of j)) (sym is) refl

pub names-job : (job : Job) → IsSome (form_of job) → names_for job ≡ jobs.names_of (targets_of job)
names-job (form.Tracks f list) some = refl
names-job (form.Attachments list) some = absurd (cc)
names-job (form.Cues list) some = absurd (cc)
names-job (form.Chapters out) some = absurd (cc)

-- The job extracts them.
pub frames-taken : (name : List ℕ) (job : Job) (f : Form) (list : List Target) (bytes : List ℕ) (file : FileRead) (events : List Event) → job ≡ form.Tracks f list → frames_taken name job file events ≡ taken_by name job bytes file events
frames-taken name job f list bytes file events is = subst (λ (j : Job). frames_taken name j file events ≡ taken_by name j bytes file events) (sym is) refl

-- Without a refusal no target is unfit.
none-refused : (unknown bad : Option ℕ) → refusal_of unknown bad ≡ None → (unknown ≡ None) × (bad ≡ None)
none-refused (Some k) bad is = absurd (cc)
none-refused None (Some k) is = absurd (cc)
none-refused None None is = (refl, refl)

-- A job whose files have different names has outputs with different names.
pub job_outputs-apart : (job : Job) (entries : List Node) → AreApart (names_for job) → AreApart (names_in (job_outputs job entries))
job_outputs-apart (form.Tracks kind list) entries apart = outputs_for-apart kind list entries apart
job_outputs-apart (form.Attachments list) entries apart = tt
job_outputs-apart (form.Cues list) entries apart = tt
job_outputs-apart (form.Chapters out) entries apart = tt

-- Outputs that were made are the job's, and the job isn't refused.
module _ (job : Job) (entries : List Node) (list : List TrackOutput) (fit : Ok list ≡ fit_outputs job entries) where
  parts : (why : Option Refusal) → Ok list ≡ unless why (job_outputs job entries) → (why ≡ None) × (list ≡ job_outputs job entries)
  parts (Some why) is = absurd (cc)
  parts None is = let same : list ≡ job_outputs job entries = cc in (refl, same)

  pub fit-none : job_refusal job entries ≡ None
  fit-none = (parts (job_refusal job entries) fit).0

  pub fit-same : list ≡ job_outputs job entries
  fit-same = (parts (job_refusal job entries) fit).1

-- The outputs of a job that isn't refused have the names of the targets whose tracks the file has.
taken-names : (kind : Option Form) (targets : List Target) (entries : List Node) → IsSome kind → refusal_taken kind targets entries ≡ None → names_in (outputs_taken kind targets entries) ≡ written (length entries) targets
taken-names None targets entries some fit = absurd (cc)
taken-names (Some kind) targets entries some fit =
    let none = none-refused (first_unfit NoExtractor kind targets entries) (first_unfit BadConfig kind targets entries) fit in
    written-names kind targets entries none.0 none.1

-- ---- the names that are opened and created

-- Only outputs of the job were created, so only files with its names.
pub asks-taken : (job : Job) (entries : List Node) (old new : List Asked) → AsksOnly [] (names_in (job_outputs job entries)) old new → AsksOnly [] (names_for job) old new
asks-taken job entries old new asks = asks-more [] (names_in (job_outputs job entries)) [] (names_for job) old new (λ name others. others) (job_outputs-others job entries) asks

-- A journal is read, and the outputs are created.
pub asks-settled : (name : List ℕ) (made : List (List ℕ)) (a b c : List Asked) → AsksOnly (sidecar_of name ∷ []) [] a b → AsksOnly [] made b c → AsksOnly (sidecar_of name ∷ []) made a c
asks-settled name made a b c looks makes =
    asks-both (IsNotAmong (sidecar_of name ∷ []) made) a b c
    (asks-more (sidecar_of name ∷ []) [] (sidecar_of name ∷ []) made a b (λ other others. others) (λ other others. tt) looks)
    (asks-more [] made (sidecar_of name ∷ []) made b c (λ other others. tt) (λ other others. others) makes)

-- A file is opened, its journal is read, outputs are created, and the file is closed.
pub asks-extracted : {T E : Type 0} (name : List ℕ) (made : List (List ℕ)) (a b c d : List Asked) (result : Result T E) → AsksFor (Opened name) a b result → AsksOnly (sidecar_of name ∷ []) made b c → d ≡ c → AsksOnly (with_sidecar name) made a d
asks-extracted name made a b c d result opens makes closed =
    asks-both (IsNotAmong (with_sidecar name) made) a b d
    (asks-one (IsNotAmong (with_sidecar name) made) (Opened name) a b result (λ others. others.0 refl) opens)
    (asks-both (IsNotAmong (with_sidecar name) made) b c d
    (asks-more (sidecar_of name ∷ []) made (with_sidecar name) made b c (λ other others. others.1) (λ other others. others) makes)
    (asks-none (IsNotAmong (with_sidecar name) made) c d closed))

-- ---- attached files

-- The attached files that a file has are reported.
pub attached-names : (bytes : List ℕ) (targets : List Target) (files : List AttachedFile) → All (λ (t : Target). 1 ≤ t.id) targets → names_of (attached_outputs bytes targets files) ≡ written (length files + 1) targets
attached-names bytes [] files numbers = refl
attached-names bytes (t ∷ ts) files numbers = step t.id (numbers 0 t (omega arith)) (attached-names bytes ts files (λ k d below. numbers (suc k) d (omega arith)))
  where
    each : (k : ℕ) (found : Option AttachedFile) → slice_get files k ≡ found → names_of (attached_outputs bytes ts files) ≡ written (length files + 1) ts → names_of (attached_output bytes t found ++ attached_outputs bytes ts files) ≡ (if nat_lt (suc k) (length files + 1) then t.name ∷ [] else []) ++ written (length files + 1) ts
    each k None is rest =
        rest ∙ ap (λ (a : Bool). (if a then t.name ∷ [] else []) ++ written (length files + 1) ts) (sym (le-ltb _ _ (let all = slice_get-past files k is in omega (arith, all))))
    each k (Some f) is rest =
        ap (λ (names : List (List ℕ)). t.name ∷ names) rest
        ∙ ap (λ (a : Bool). (if a then t.name ∷ [] else []) ++ written (length files + 1) ts) (sym (lt-ltb _ _ (let below = slice_get-within files k f is in omega (arith, below))))

    step : (n : ℕ) → 1 ≤ n → names_of (attached_outputs bytes ts files) ≡ written (length files + 1) ts → names_of (attached_output bytes t (attached_at files n) ++ attached_outputs bytes ts files) ≡ (if nat_lt n (length files + 1) then t.name ∷ [] else []) ++ written (length files + 1) ts
    step zero some rest = absurd (omega arith)
    step (suc k) some rest = each k (slice_get files k) refl rest

-- ---- cue points

-- The outputs for the tracks that a file has are reported.
pub cues-names : (scale : ℕ) (cues : Option Node) (targets : List Target) (entries : List Node) → names_of (cues_outputs scale cues targets entries) ≡ written (length entries) targets
cues-names scale cues [] entries = refl
cues-names scale cues (t ∷ ts) entries = each (slice_get entries t.id) refl (cues-names scale cues ts entries)
  where
    each : (found : Option Node) → slice_get entries t.id ≡ found → names_of (cues_outputs scale cues ts entries) ≡ written (length entries) ts → names_of (cues_output scale cues t found ++ cues_outputs scale cues ts entries) ≡ (if nat_lt t.id (length entries) then t.name ∷ [] else []) ++ written (length entries) ts
    each None is rest =
        rest ∙ ap (λ (a : Bool). (if a then t.name ∷ [] else []) ++ written (length entries) ts) (sym (le-ltb _ _ (slice_get-past entries t.id is)))
    each (Some e) is rest =
        ap (λ (names : List (List ℕ)). t.name ∷ names) rest
        ∙ ap (λ (a : Bool). (if a then t.name ∷ [] else []) ++ written (length entries) ts) (sym (lt-ltb _ _ (slice_get-within entries t.id e is)))

-- ---- lines and outputs

-- The lines that the calls print for targets are the lines of the result.
pub record IsToldBy (name : List ℕ) (t : Taken) (what : Missing) (count : ℕ) (targets : List Target) : Type 0 where
  pub missing : t.missing ≡ absent_lines what name count targets
  pub named : names_of t.outputs ≡ written count targets

missing-same : (line : ℕ → List ℕ) (most count : ℕ) (named targets : List Target) → count ≡ most → targets ≡ named → map line (absent most named) ≡ map line (absent count targets)
missing-same line most count named targets counted is =
    ap (λ (n : ℕ). map line (absent n named)) (sym counted) ∙ ap (λ (ts : List Target). map line (absent count ts)) (sym is)

pub frames-told : (name : List ℕ) (job : Job) (file : FileRead) (events : List Event) (count : ℕ) (targets : List Target) → IsSome (form_of job) → job_refusal job (entries_of file) ≡ None → count ≡ length file.tracks → targets ≡ targets_of job → IsToldBy name (frames_taken name job file events) Track count targets
frames-told name job file events count targets takes fit counted is = record {
  missing = missing-same (no_track_line name) (length file.tracks) count (targets_of job) targets counted is;
  named =
      names_of-outputs (job_outputs job (entries_of file)) (blocks_of events) ∙ taken-names (form_of job) (targets_of job) (entries_of file) takes fit
      ∙ ap (λ (n : ℕ). written n (targets_of job)) (length-map file.tracks entry_in ∙ sym counted) ∙ ap (written count) (sym is);
}

pub cues-told : (name : List ℕ) (file : FileRead) (count : ℕ) (targets : List Target) → count ≡ length file.tracks → IsToldBy name (cues_taken name targets file) Track count targets
cues-told name file count targets counted = record {
  missing = missing-same (no_track_line name) (length file.tracks) count targets targets counted refl;
  named = cues-names (scale_of_info file.info) file.cues targets (entries_of file) ∙ ap (λ (n : ℕ). written n targets) (length-map file.tracks entry_in ∙ sym counted);
}

pub attached-told : (name : List ℕ) (bytes : List ℕ) (file : FileRead) (count : ℕ) (targets : List Target) → count ≡ length file.attachments → All (λ (t : Target). 1 ≤ t.id) targets → IsToldBy name (attached_taken name targets bytes file) Attachment (count + 1) targets
attached-told name bytes file count targets counted numbers = record {
  missing = missing-same (no_attachment_line name) (length file.attachments + 1) (count + 1) targets targets (ap (λ (n : ℕ). n + 1) counted) refl;
  named = attached-names bytes targets file.attachments numbers ∙ ap (λ (n : ℕ). written (n + 1) targets) (sym counted);
}

-- The outputs are complete, and the warnings were printed.
reaches : (old new : Seen) (mid : ReportLines) (r : Result Status CommandEnd) (name : List ℕ) (t : Taken) → mid ≡ with_lines old.lines t.missing → Says mid new.lines (map wrote_line (names_of t.outputs) ++ warned name t) r → IfOk r (λ s. s ≡ status_of (is_some_of t.missing) (t.damages ++ t.bad_frames)) → new.names ≡ with_outputs old.names t.outputs → Reaches old new r (done_verdict name t)
reaches old new mid r name t = Reaches-behind old new mid r (done_verdict name t) (map wrote_line (names_of t.outputs) ++ warned name t) refl

-- For content other than frames, damage at level 1 is reported.
outline-told : (name : List ℕ) (d : Option Damage) → outline_lines name d ≡ told_lines name (told_damages (option_to_list d)) ++ told_bad name (told_damages [])
outline-told name None = refl
outline-told name (Some d) = refl

pub reaches-whole : (old new : Seen) (mid : ReportLines) (r : Result Status CommandEnd) (name : List ℕ) (file : FileRead) (missing : List (List ℕ)) (outputs : List Output) (d : Option Damage) → d ≡ file.damage → mid ≡ with_lines old.lines missing → Says mid new.lines (map wrote_line (names_of outputs) ++ outline_lines name d) r → IfOk r (λ s. s ≡ status_of (is_some_of missing) (option_to_list d)) → new.names ≡ with_outputs old.names outputs → Reaches old new r (done_verdict name (taken_whole file missing outputs))
reaches-whole old new mid r name file missing outputs d same said says status names =
    reaches old new mid r name (taken_whole file missing outputs) said
    (subst (λ (lines : List (List ℕ)). Says mid new.lines (map wrote_line (names_of outputs) ++ lines) r) (ap (outline_lines name) same ∙ outline-told name file.damage) says)
    (subst (λ (ds : List Damage). IfOk r (λ s. s ≡ status_of (is_some_of missing) ds)) (ap option_to_list same ∙ sym (append-nil (option_to_list file.damage))) status) names

-- The warnings of missing items were printed first.
module _ {name : List ℕ} {t : Taken} {what : Missing} {count : ℕ} {targets : List Target} (is : IsToldBy name t what count targets) where
  missing-said : (old mid : ReportLines) → mid ≡ with_lines old (absent_lines what name count targets) → mid ≡ with_lines old t.missing
  missing-said old mid said = said ∙ ap (with_lines old) (sym is.missing)

  outputs-said : (mid new : ReportLines) (r : Result Status CommandEnd) (more : List (List ℕ)) → Says mid new (wrote_lines count targets ++ more) r → Says mid new (map wrote_line (names_of t.outputs) ++ more) r
  outputs-said mid new r more = subst (λ (ns : List (List ℕ)). Says mid new (map wrote_line ns ++ more) r) (sym is.named)

  status-told : (r : Result Status CommandEnd) (ds : List Damage) → IfOk r (λ s. s ≡ status_of (has_absent count targets) ds) → IfOk r (λ s. s ≡ status_of (is_some_of t.missing) ds)
  status-told r ds = subst (λ (a : Bool). IfOk r (λ s. s ≡ status_of a ds)) (sym (ap is_some_of is.missing ∙ any-absent (line_of what name) count targets))

  -- A warning of a missing item couldn't be printed.
  pub begun : (old new : Seen) (why : CommandEnd) → SaysPart old.lines new.lines (absent_lines what name count targets) → new.names ≡ old.names → Reaches old new (Err why) (done_verdict name t)
  begun old new why part names = inl (subst (SaysPart old.lines new.lines) (sym is.missing) part, Leaves-same old.names new.names (at_once t.outputs) names)

  -- An output wasn't written.
  pub stopped : (old new : Seen) (why : CommandEnd) → new.lines ≡ with_lines old.lines (absent_lines what name count targets) → ArePrefixes old.names new.names t.outputs → Reaches old new (Err why) (done_verdict name t)
  stopped old new why said part = inl (SaysPart-all old.lines new.lines t.missing (missing-said old.lines new.lines said), part)

  -- The outputs are complete.
  pub told : (old new : Seen) (mid : ReportLines) (r : Result Status CommandEnd) (more : List (List ℕ)) → more ≡ warned name t → mid ≡ with_lines old.lines (absent_lines what name count targets) → Says mid new.lines (wrote_lines count targets ++ more) r → IfOk r (λ s. s ≡ status_of (has_absent count targets) (t.damages ++ t.bad_frames)) → new.names ≡ with_outputs old.names t.outputs → Reaches old new r (done_verdict name t)
  told old new mid r more all said says status names =
      reaches old new mid r name t (missing-said old.lines mid said)
      (outputs-said mid new.lines r (warned name t) (subst (λ (lines : List (List ℕ)). Says mid new.lines (wrote_lines count targets ++ lines) r) all says))
      (status-told r (t.damages ++ t.bad_frames) status) names

pub told-whole : (file : FileRead) {name : List ℕ} {missing : List (List ℕ)} {outputs : List Output} {what : Missing} {count : ℕ} {targets : List Target} (is : IsToldBy name (taken_whole file missing outputs) what count targets) (old new : Seen) (mid : ReportLines) (r : Result Status CommandEnd) (d : Option Damage) → d ≡ file.damage → mid ≡ with_lines old.lines (absent_lines what name count targets) → Says mid new.lines (wrote_lines count targets ++ outline_lines name d) r → IfOk r (λ s. s ≡ status_of (has_absent count targets) (option_to_list d)) → new.names ≡ with_outputs old.names outputs → Reaches old new r (done_verdict name (taken_whole file missing outputs))
told-whole file {name = name} {missing = missing} {outputs = outputs} is old new mid r d same said says status names =
    reaches-whole old new mid r name file missing outputs d same (missing-said is old.lines mid said)
    (outputs-said is mid new.lines r (outline_lines name d) says) (status-told is r (option_to_list d) status) names
