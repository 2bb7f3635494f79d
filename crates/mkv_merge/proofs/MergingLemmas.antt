-- Inputs that all exist: their contents, the bytes read of them, and the end of a merge of them.
use Rattle.std.proofs.Common.{◌≡◌, ℕ, zero, suc, ◌+◌, ◌-◌, ◌*◌, ◌<◌, ◌≤◌, cond, true, false, List, [], ◌∷◌, ◌++◌, length, take, drop, map, Option, Some, None, Result, Ok, Err, IfOk, inl, inr, refl, sym, ◌∙◌, ap, ap₂, subst, arith}
use Rattle.std.specs.Prelude.{Bool, is_none, nat_lt, option_map, sum, sum_by, unwrap_or}
use Rattle.std.specs.List.{position_from}
use Rattle.std.specs.Option.{option_or}
use Rattle.std.proofs.lemmas.Bool.{cond-false, cond-true, le-ltb, lt-ltb}
use Rattle.std.proofs.lemmas.List.{length-append, length-drop, length-map, length-take-le, map-append, take-append-drop}
use Rattle.std.proofs.lemmas.List.Elements.{All-cons, All-head, All-nil, All-tail}
use Rattle.std.proofs.lemmas.List.Sums.{sum-map, sum_by-cons, sum_by-take-drop}
use Rattle.mkv_io.specs.declared.outside.FileId.{FileId}
use Rattle.mkv_io.specs.declared.outside.ReadEnd.{ReadEnd}
use Rattle.mkv_io.specs.declared.outside.ReadEnd.TheVariants as read_end
use Rattle.mkv_io.specs.Ends.{HasRemuxCause}
use Rattle.mkv_io.specs.Faults.{HasCause, is_read_fault}
use Rattle.mkv_io.specs.LiveFiles.{IsSameFile, LiveFiles}
use Rattle.mkv_io.specs.Results.{unless}
use Rattle.mkv_io.specs.Sources.{live_files}
use Rattle.mkv_io.specs.Told.{IfVisible}
use Rattle.mkv_io.specs.Writing.{UsesOnly}
use Rattle.mkv_io.specs.declared.reads.Reads.{Ghosts}
use Rattle.mkv_io.specs.declared.files.Files as writing
use Rattle.mkv_io.specs.declared.report.Report.{Ghosts as ReportGhosts}
use Rattle.mkv_io.specs.declared.remux_end.RemuxEnd.{RemuxEnd}
use Rattle.mkv_io.specs.declared.remux_end.RemuxEnd.TheVariants as remux_end
use Rattle.mkv_outputs.specs.Sinks.{AreLive, holders_of}
use Rattle.mkv_outputs.proofs.FilesLemmas.{AreLive-on}
use Rattle.mkv_outputs.proofs.GivenLemmas.{holders_of-kept}
use Rattle.input_files.specs.Inputs as inputs
use Rattle.input_files.specs.Inputs.{attached_names, file_names, first_missing}
use Rattle.input_files.specs.declared.text_files.TextFiles.{TextFiles}
use Rattle.requests.specs.declared.merge.AttachedWords.{AttachedWords}
use Rattle.requests.specs.declared.merge.FileWords.{FileWords}
use Rattle.requests.specs.declared.merge.MergeWords.{MergeWords}
use Rattle.merge_plan.specs.Front.{attached_length, reads_of}
use Rattle.merge_plan.specs.Plan.{Source, lanes_given}
use Rattle.remux_plan.specs.declared.summary.Summary.{Summary}
use Rattle.mkv_lines.specs.Code.{read_stop}
use Rattle.mkv_lines.specs.Command.{Fulfils, HasEnded, HasFilesCause, files_counts, seen_in}
use Rattle.mkv_io.specs.Bounds.{ReadsUpTo}
use Rattle.mkv_lines.specs.Faults.{Counts, HasStopCause}
use Rattle.mkv_lines.specs.Ordinary.{IsOrdinary}
use Rattle.mkv_lines.specs.Seen.{Seen}
use Rattle.mkv_lines.specs.Said.{ReportLines}
use Rattle.mkv_lines.specs.Verdict.{IsStopped, Reaches, SaysVerdict, refused}
use Rattle.mkv_lines.specs.declared.status.Status.{Status}
use Rattle.mkv_lines.specs.declared.status.Status.TheVariants as status
use Rattle.mkv_lines.specs.declared.status.CommandEnd.{CommandEnd}
use Rattle.mkv_lines.specs.declared.status.CommandEnd.TheVariants as stop
use Rattle.mkv_lines.proofs.VerdictLemmas.{IsStopped-before, Reaches-lines}
use Rattle.mkv_merge.specs.Attached.{attached_ids, own_ids}
use Rattle.mkv_merge.specs.Bound.{attached_octets, contents_length, contents_walked, files_size, files_walked, most_of, opened_length, walked_size}
use Rattle.mkv_merge.specs.Ends.{HasReadCause, as_remuxed, as_written, end_as}
use Rattle.mkv_merge.specs.Joined.{as_merged, no_texts, sources_alone}
use Rattle.mkv_merge.specs.Merge.{merged_verdict, refusals_read, sources_in, sources_unless, verdict_of}
use Rattle.mkv_merge.specs.Opened.{FindsAll, missing_first, missing_refusal, opened_names}
use Rattle.mkv_merge.specs.Prepared.{AreTold, ReadsAs}
use Rattle.mkv_merge.specs.Read.{attached_held, contents_held, first_written, pending_of}
use Rattle.mkv_merge.specs.Records.{AreShort, EndsReadable, HaveRecords}
use Rattle.mkv_merge.specs.Refused.{first_cause, line_of}
use Rattle.mkv_merge.specs.Stages.{Leads, MergesTo, as_command, begun_refusal, refusals_begun}
use Rattle.mkv_merge.specs.Texts.{missing_text}
use Rattle.mkv_merge.specs.declared.joining.Merged.TheVariants as merged
use Rattle.mkv_merge.specs.declared.joining.Merged.TheVariants.{Written}
use Rattle.mkv_merge.specs.declared.preparing.Prepared.{Prepared}
use Rattle.mkv_merge.specs.declared.refusal.MergeEnd.{MergeEnd}
use Rattle.mkv_merge.specs.declared.refusal.MergeEnd.TheVariants.{Refused, Stopped}
use Rattle.mkv_merge.specs.declared.refusal.Refusal.{Refusal}
use Rattle.mkv_merge.specs.declared.refusal.Refusal.TheVariants.{Missing, MissingAttached, OutputIsInput}
use Rattle.mkv_merge.proofs.WritingLemmas.{readable-found, readable-none}

-- Each name has a content if none is missing from there on.
all-there-from : (world : List ℕ → Option (List ℕ)) (k : ℕ) (names : List (List ℕ)) → position_from (λ name. is_none (world name)) k names ≡ None
    → map world names ≡ map Some (map (λ name. unwrap_or (world name) []) names)
all-there-from world k [] none = refl
all-there-from world k (name ∷ names) none = step (world name) (all-there-from world (k + 1) names) none
  where
    step : (content : Option (List ℕ)) → (position_from (λ each. is_none (world each)) (k + 1) names ≡ None → map world names ≡ map Some (map (λ each. unwrap_or (world each) []) names))
        → cond (is_none content) (Some k) (position_from (λ each. is_none (world each)) (k + 1) names) ≡ None
        → content ∷ map world names ≡ Some (unwrap_or content []) ∷ map Some (map (λ each. unwrap_or (world each) []) names)
    step None behind never = absurd (cc)
    step (Some bytes) behind there = ap (λ rest. Some bytes ∷ rest) (behind there)

pub all-there : (world : List ℕ → Option (List ℕ)) (names : List (List ℕ)) → first_missing world names ≡ None → map world names ≡ map Some (map (λ name. unwrap_or (world name) []) names)
all-there world names none = all-there-from world 0 names none

-- ---- missing files

-- The first name that passes a test is in the first list, or in the second one.
position-append : (test : List ℕ → Bool) (k : ℕ) (xs ys : List (List ℕ)) (o : Option ℕ) → position_from test k xs ≡ o → position_from test k (xs ++ ys) ≡ option_or o (position_from test (k + length xs) ys)
position-append test k [] ys o is =
    let same : k ≡ k + 0 = omega arith in
    ap (λ (n : ℕ). position_from test n ys) same ∙ ap (λ (found : Option ℕ). option_or found (position_from test (k + 0) ys)) is
position-append test k (x ∷ xs) ys o is =
    let same : k + 1 + length xs ≡ k + suc (length xs) = omega arith in
    of (test x) (position-append test (k + 1) xs ys (position_from test (k + 1) xs) refl)
    ∙ ap (λ (n : ℕ). option_or (cond (test x) (Some k) (position_from test (k + 1) xs)) (position_from test n ys)) same
    ∙ ap (λ (found : Option ℕ). option_or found (position_from test (k + suc (length xs)) ys)) is
  where
    of : (b : Bool) → position_from test (k + 1) (xs ++ ys) ≡ option_or (position_from test (k + 1) xs) (position_from test (k + 1 + length xs) ys)
        → cond b (Some k) (position_from test (k + 1) (xs ++ ys)) ≡ option_or (cond b (Some k) (position_from test (k + 1) xs)) (position_from test (k + 1 + length xs) ys)
    of true rest = refl
    of false rest = rest

-- The numbers begin anywhere.
position-moved : (test : List ℕ → Bool) (k n : ℕ) (xs : List (List ℕ)) → position_from test (k + n) xs ≡ option_map (λ m. k + m) (position_from test n xs)
position-moved test k n [] = refl
position-moved test k n (x ∷ xs) =
    let same : k + n + 1 ≡ k + (n + 1) = omega arith in
    ap (λ (rest : Option ℕ). cond (test x) (Some (k + n)) rest) (ap (λ (m : ℕ). position_from test m xs) same ∙ position-moved test k (n + 1) xs)
    ∙ of (test x)
  where
    of : (b : Bool) → cond b (Some (k + n)) (option_map (λ m. k + m) (position_from test (n + 1) xs)) ≡ option_map (λ m. k + m) (cond b (Some n) (position_from test (n + 1) xs))
    of true = refl
    of false = refl

-- A position is not before the start, and within the list.
position-within : (test : List ℕ → Bool) (k : ℕ) (xs : List (List ℕ)) (n : ℕ) → position_from test k xs ≡ Some n → n < k + length xs
position-within test k [] n is = absurd (cc)
position-within test k (x ∷ xs) n is = split (test x) is (position-within test (k + 1) xs n)
  where
    split : (b : Bool) → cond b (Some k) (position_from test (k + 1) xs) ≡ Some n → (position_from test (k + 1) xs ≡ Some n → n < k + 1 + length xs) → n < k + suc (length xs)
    split true is more = let here : k ≡ n = cc in omega (arith, here)
    split false is more = let rest = more is in omega (arith, rest)

module _ (world : List ℕ → Option (List ℕ)) (words : MergeWords) (texts : TextFiles) where
  -- the names of inputs, and of attached files
  abbrev own : List (List ℕ)
  own = file_names words.files

  abbrev others : List (List ℕ)
  others = attached_names words.attached

  abbrev missing_at : ℕ → List (List ℕ) → Option ℕ
  missing_at k names = position_from (λ name. is_none (world name)) k names

  many-own : length own ≡ length words.files
  many-own = length-map words.files (λ (w : FileWords). w.name)

  opened-missing : (o : Option ℕ) → missing_at 0 own ≡ o → first_missing world (opened_names words) ≡ option_or o (option_map (λ m. length words.files + m) (missing_at 0 others))
  opened-missing o is =
      let moved = position-moved (λ name. is_none (world name)) (length words.files) 0 others in
      let same : 0 + length own ≡ length words.files + 0 = omega (arith, many-own) in
      position-append (λ name. is_none (world name)) 0 own others o is ∙ ap (λ (n : ℕ). option_or o (missing_at n others)) same ∙ ap (option_or o) moved

  -- No opened file is missing.
  pub both-there : first_missing world (opened_names words) ≡ None → (first_missing world own ≡ None) × (first_missing world others ≡ None)
  both-there none = split (missing_at 0 own) (missing_at 0 others) refl refl (sym (opened-missing (missing_at 0 own) refl) ∙ none)
    where
      split : (a b : Option ℕ) → missing_at 0 own ≡ a → missing_at 0 others ≡ b → option_or a (option_map (λ m. length words.files + m) b) ≡ None → (missing_at 0 own ≡ None) × (missing_at 0 others ≡ None)
      split None None first next is = (first, next)
      split None (Some m) first next is = absurd (cc)
      split (Some k) b first next is = absurd (cc)

  -- The missing name is an input's, or no input is missing.
  pub missing-found : (k : ℕ) → first_missing world (opened_names words) ≡ Some k → missing_first world words texts ≡ Some (missing_refusal words texts k)
  missing-found k is = split (missing_at 0 own) (missing_at 0 others) refl refl (sym (opened-missing (missing_at 0 own) refl) ∙ is)
    where
      causes : Option ℕ → Option ℕ → Option Refusal
      causes a b = first_cause (option_map Missing a ∷ missing_text texts ∷ option_map MissingAttached b ∷ [])

      past : (why : Option Refusal) (m : ℕ) → first_cause (why ∷ Some (MissingAttached m) ∷ []) ≡ Some (unwrap_or why (MissingAttached m))
      past None m = refl
      past (Some why) m = refl

      split : (a b : Option ℕ) → missing_at 0 own ≡ a → missing_at 0 others ≡ b → option_or a (option_map (λ m. length words.files + m) b) ≡ Some k → missing_first world words texts ≡ Some (missing_refusal words texts k)
      split None None first next is = absurd (cc)
      split None (Some m) first next is =
          let at : length words.files + m ≡ k = cc in
          let number : m ≡ k - length words.files = omega (arith, at) in
          ap₂ causes first next ∙ past (missing_text texts) m ∙ ap (λ (n : ℕ). Some (unwrap_or (missing_text texts) (MissingAttached n))) number
          ∙ ap Some (sym (cond-false (nat_lt k (length words.files)) (Missing k) (unwrap_or (missing_text texts) (MissingAttached (k - length words.files))) (le-ltb k (length words.files) (omega (arith, at)))))
      split (Some n) b first next is =
          let at : n ≡ k = cc in
          let below = position-within (λ name. is_none (world name)) 0 own n first in
          ap₂ causes first next ∙ ap (λ (m : ℕ). Some (Missing m)) at
          ∙ ap Some (sym (cond-true (nat_lt k (length words.files)) (Missing k) (unwrap_or (missing_text texts) (MissingAttached (k - length words.files))) (lt-ltb k (length words.files) (omega (arith, at, below, many-own)))))

-- ---- refusals before reading

-- A refusal for a missing file is the first, whatever follows.
missing-first : (a t b : Option Refusal) (rest : List (Option Refusal)) (why : Refusal) → first_cause (a ∷ t ∷ b ∷ []) ≡ Some why → first_cause (a ∷ t ∷ b ∷ rest) ≡ Some why
missing-first None None None rest why is = absurd (cc)
missing-first None None (Some cause) rest why is = is
missing-first None (Some cause) b rest why is = is
missing-first (Some cause) t b rest why is = is

-- A merge without text files has no refusal for them.
without-text : (a b c : Option Refusal) (rest : List (Option Refusal)) → first_cause (a ∷ b ∷ c ∷ rest) ≡ first_cause (a ∷ b ∷ None ∷ c ∷ rest)
without-text None None c rest = refl
without-text None (Some why) c rest = refl
without-text (Some why) b c rest = refl

module _ (world : List ℕ → Option (List ℕ)) (words : MergeWords) (behind : List (Option Refusal)) (texts : TextFiles) (contents attached : List (List ℕ)) where
  -- the sources, unless one of these refusals holds
  abbrev found_by : Option (List ℕ) → Option ℕ → Option ℕ → Result (List Source) Refusal
  found_by written missing other =
      sources_unless (option_map OutputIsInput written ∷ option_map Missing missing ∷ missing_text texts ∷ option_map MissingAttached other ∷ behind) words texts contents attached

  abbrev pub found_for : Result (List Source) Refusal
  found_for = found_by (first_written words) (first_missing world (file_names words.files)) (first_missing world (attached_names words.attached))

  -- An output could have the name of a file that is read.
  pub written-found : (name : List ℕ) → first_written words ≡ Some name → found_for ≡ Err (OutputIsInput name)
  written-found name is = ap (λ (o : Option (List ℕ)). found_by o (first_missing world (file_names words.files)) (first_missing world (attached_names words.attached))) is

  -- No output could have such a name: a file is missing, or all are open.
  module _ (apart : first_written words ≡ None) where
    pub opening-found : {T : Type 0} (shown : T → List Source) (end : MergeEnd) → FindsAll world words texts (Err end) → ReadsAs shown found_for (Err end)
    opening-found shown (Refused why) is =
        ap (λ (o : Option (List ℕ)). found_by o (first_missing world (file_names words.files)) (first_missing world (attached_names words.attached))) apart
        ∙ ap (λ (o : Option Refusal). unless o (sources_in words texts contents attached))
        (missing-first (option_map Missing (first_missing world (file_names words.files))) (missing_text texts) (option_map MissingAttached (first_missing world (attached_names words.attached)))
        (behind ++ refusals_read words texts contents attached) why is)
    opening-found shown (Stopped stop) is = tt

    pub there-found : first_missing world (opened_names words) ≡ None → found_for ≡ sources_unless (missing_text texts ∷ behind) words texts contents attached
    there-found none =
        let both = both-there world words texts none in
        ap (λ (o : Option (List ℕ)). found_by o (first_missing world (file_names words.files)) (first_missing world (attached_names words.attached))) apart
        ∙ ap₂ (λ (a b : Option ℕ). found_by None a b) both.0 both.1
        ∙ ap (λ (o : Option Refusal). unless o (sources_in words texts contents attached)) (past (missing_text texts))
      where
        past : (t : Option Refusal) → first_cause (t ∷ None ∷ behind ++ refusals_read words texts contents attached) ≡ first_cause (t ∷ behind ++ refusals_read words texts contents attached)
        past None = refl
        past (Some why) = refl

-- The sources of a merge without text files.
pub alone-found : (world : List ℕ → Option (List ℕ)) (words : MergeWords) → sources_alone world words ≡ found_for world words [] no_texts (contents_held world words) (attached_held world words)
alone-found world words =
    ap (λ (o : Option Refusal). unless o (sources_in words no_texts (contents_held world words) (attached_held world words)))
    (without-text (option_map OutputIsInput (first_written words)) (option_map Missing (first_missing world (file_names words.files))) (option_map MissingAttached (first_missing world (attached_names words.attached)))
    (refusals_read words no_texts (contents_held world words) (attached_held world words)))

-- A text file is missing, or an edit is pending.
pub begun-refused : (world : List ℕ → Option (List ℕ)) (words : MergeWords) (texts : TextFiles) (contents attached : List (List ℕ)) (why : Refusal) → begun_refusal world words texts ≡ Some why
    → sources_unless (refusals_begun world words texts) words texts contents attached ≡ Err why
begun-refused world words texts contents attached why is =
    ap (λ (o : Option Refusal). unless o (sources_in words texts contents attached)) (either (missing_text texts) (pending_of world words) is)
  where
    either : (first next : Option Refusal) → option_or first next ≡ Some why → first_cause (first ∷ next ∷ refusals_read words texts contents attached) ≡ Some why
    either None None is = absurd (cc)
    either None (Some cause) is = is
    either (Some cause) next is = is

-- No text file is missing and no edit is pending.
pub begun-past : (world : List ℕ → Option (List ℕ)) (words : MergeWords) (texts : TextFiles) (contents attached : List (List ℕ)) → begun_refusal world words texts ≡ None
    → sources_unless (refusals_begun world words texts) words texts contents attached ≡ sources_unless [] words texts contents attached
begun-past world words texts contents attached is =
    ap (λ (o : Option Refusal). unless o (sources_in words texts contents attached)) (neither (missing_text texts) (pending_of world words) is)
  where
    neither : (first next : Option Refusal) → option_or first next ≡ None → first_cause (first ∷ next ∷ refusals_read words texts contents attached) ≡ first_cause (refusals_read words texts contents attached)
    neither None None is = refl
    neither None (Some cause) is = absurd (cc)
    neither (Some cause) next is = absurd (cc)

-- A refusal or a stop is the same, whatever is shown of a result.
pub as-sources : {A : Type 0} (shown : A → List Source) (end : MergeEnd) (found : Result (List Source) Refusal) → ReadsAs shown found (Err end) → ReadsAs {B = List Source} (λ (s : List Source). s) found (Err end)
as-sources shown (Refused why) found is = is
as-sources shown (Stopped stop) found is = tt

-- ---- contents of the opened files

-- The contents of inputs and attached files are those of the first files, and of the others.
split-told : (content : ℕ → Option (List ℕ)) (n : ℕ) (ids : List FileId) (xs ys : List (List ℕ)) → length xs ≡ n → inputs.contents_of content ids ≡ map Some (xs ++ ys)
    → (inputs.contents_of content (take n ids) ≡ map Some xs) × (inputs.contents_of content (drop n ids) ≡ map Some ys)
split-told content zero ids [] ys many told = (refl, told)
split-told content (suc n) ids [] ys many told = absurd (omega (arith, many))
split-told content zero ids (x ∷ xs) ys many told = absurd (omega (arith, many))
split-told content (suc n) [] (x ∷ xs) ys many told = absurd (cc)
split-told content (suc n) (id ∷ ids) (x ∷ xs) ys many told =
    let here : content id.n ≡ Some x = cc in
    let behind : inputs.contents_of content ids ≡ map Some (xs ++ ys) = cc in
    let both = split-told content n ids xs ys (omega (arith, many)) behind in
    (ap₂ (λ (c : Option (List ℕ)) (cs : List (Option (List ℕ))). c ∷ cs) here both.0, both.1)

pub joined-told : (f : LiveFiles) (words : MergeWords) (ids : List FileId) (xs ys : List (List ℕ)) → AreTold f (own_ids words ids) xs → AreTold f (attached_ids words ids) ys → AreTold f ids (xs ++ ys)
joined-told f words ids xs ys first next =
    ap (inputs.contents_of f.content) (sym (take-append-drop (length words.files) ids))
    ∙ map-append (λ (file : FileId). f.content file.n) (own_ids words ids) (attached_ids words ids)
    ∙ ap₂ (λ (us vs : List (Option (List ℕ))). us ++ vs) first next
    ∙ sym (map-append some xs ys)
  where
    some : List ℕ → Option (List ℕ)
    some bytes = Some bytes

-- The opened files make the contents of their names visible to the proof.
pub opened-told : (f : LiveFiles) (world : List ℕ → Option (List ℕ)) (words : MergeWords) (list ids : List FileId) → ids ≡ list → first_missing world (opened_names words) ≡ None
    → inputs.contents_of f.content list ≡ map world (opened_names words) → AreTold f (own_ids words ids) (contents_held world words) × AreTold f (attached_ids words ids) (attached_held world words)
opened-told f world words list ids of there told =
    let unwrap : List ℕ → List ℕ = λ name. unwrap_or (world name) [] in
    let many : length (contents_held world words) ≡ length words.files = length-map (file_names words.files) unwrap ∙ length-map words.files (λ (w : FileWords). w.name) in
    split-told f.content (length words.files) ids (contents_held world words) (attached_held world words) many
    (ap (inputs.contents_of f.content) of ∙ told ∙ all-there world (opened_names words) there ∙ ap (map Some) (map-append unwrap (file_names words.files) (attached_names words.attached)))

-- ---- bytes read

-- Files of the same lengths are read as often.
pub same-lengths : {A B : Type 0} (f : A → ℕ) (g : B → ℕ) (files : List FileWords) (xs : List A) (ys : List B) → map f xs ≡ map g ys → (sum_by f xs ≡ sum_by g ys) × (walked_size files (map f xs) ≡ walked_size files (map g ys))
same-lengths f g files xs ys same = (sym (sum-map f xs) ∙ ap sum same ∙ sum-map g ys, ap (walked_size files) same)

-- the length of a live file
abbrev size_in : LiveFiles → FileId → ℕ
size_in f file = f.size file.n

-- the length of the content of a file that is named
abbrev length_in : (List ℕ → Option (List ℕ)) → FileWords → ℕ
length_in world w = length (unwrap_or (world w.name) [])

-- Live files that are visible to the proof have the lengths of their contents.
sizes-told : (f : LiveFiles) → ((file : ℕ) → IfVisible (f.content file) (λ bytes. length bytes ≡ f.size file)) → (world : List ℕ → Option (List ℕ)) (files : List FileWords) (ids : List FileId) → AreTold f ids (map (λ name. unwrap_or (world name) []) (file_names files)) → map (size_in f) ids ≡ map (length_in world) files
sizes-told f sized world [] [] told = refl
sizes-told f sized world [] (id ∷ ids) told = absurd (cc)
sizes-told f sized world (w ∷ files) [] told = absurd (cc)
sizes-told f sized world (w ∷ files) (id ∷ ids) told =
    let here : f.content id.n ≡ Some (unwrap_or (world w.name) []) = cc in
    let behind : AreTold f ids (map (λ name. unwrap_or (world name) []) (file_names files)) = cc in
    ap₂ (λ (size : ℕ) (sizes : List ℕ). size ∷ sizes) (sym (sized id.n (unwrap_or (world w.name) []) here)) (sizes-told f sized world files ids behind)

pub lengths-told : (f : LiveFiles) → ((file : ℕ) → IfVisible (f.content file) (λ bytes. length bytes ≡ f.size file)) → (world : List ℕ → Option (List ℕ)) (files : List FileWords) (ids : List FileId) → AreTold f ids (map (λ name. unwrap_or (world name) []) (file_names files))
    → (files_size f ids ≡ contents_length world files) × (files_walked f files ids ≡ contents_walked world files)
lengths-told f sized world files ids told = same-lengths (size_in f) (length_in world) files ids files (sizes-told f sized world files ids told)

-- Attached files that are visible to the proof have the lengths of their contents.
attached-sizes : (f : LiveFiles) → ((file : ℕ) → IfVisible (f.content file) (λ bytes. length bytes ≡ f.size file)) → (world : List ℕ → Option (List ℕ)) (attached : List AttachedWords) (ids : List FileId)
    → AreTold f ids (map (λ name. unwrap_or (world name) []) (attached_names attached)) → files_size f ids ≡ attached_octets world attached
attached-sizes f sized world [] [] told = refl
attached-sizes f sized world [] (id ∷ ids) told = absurd (cc)
attached-sizes f sized world (w ∷ attached) [] told = absurd (cc)
attached-sizes f sized world (w ∷ attached) (id ∷ ids) told =
    let here : f.content id.n ≡ Some (unwrap_or (world w.file) []) = cc in
    let behind : AreTold f ids (map (λ name. unwrap_or (world name) []) (attached_names attached)) = cc in
    sum_by-cons (size_in f) id ids
    ∙ ap₂ (λ (n m : ℕ). n + m) (sym (sized id.n (unwrap_or (world w.file) []) here)) (attached-sizes f sized world attached ids behind)
    ∙ sym (sum_by-cons (λ (v : AttachedWords). length (unwrap_or (world v.file) [])) w attached)

-- All opened files together have the length that the bound has, and so have those that are walked over.
pub opened-lengths : (f : LiveFiles) → ((file : ℕ) → IfVisible (f.content file) (λ bytes. length bytes ≡ f.size file)) → (world : List ℕ → Option (List ℕ)) (words : MergeWords) (ids : List FileId)
    → AreTold f (own_ids words ids) (contents_held world words) → AreTold f (attached_ids words ids) (attached_held world words)
    → (files_size f ids ≡ opened_length world words) × (files_walked f words.files (own_ids words ids) ≡ contents_walked world words.files)
opened-lengths f sized world words ids own other =
    let lengths = lengths-told f sized world words.files (own_ids words ids) own in
    (sym (sum_by-take-drop (size_in f) ids (length words.files)) ∙ ap₂ (λ (n m : ℕ). n + m) lengths.0 (attached-sizes f sized world words.attached (attached_ids words ids) other), lengths.1)

-- The bytes read before the blocks, by each output track and for attached files are at most the bound.
pub reads-both : (found : Result (List Source) Refusal) (sources : List Source) (lanes old mid new size walked now copied : ℕ) → found ≡ Ok sources → lanes ≡ length (lanes_given sources) → now ≡ size → copied ≡ attached_length (reads_of sources) → mid ≤ old + (25 * size + 2 * walked) → new ≤ mid + (2 * (lanes * now) + copied) → new ≤ old + most_of found size walked
reads-both found sources lanes old mid new size walked now copied is count same copied_is first second =
    subst (λ (r : Result (List Source) Refusal). new ≤ old + most_of r size walked) (sym is)
    (fits (length (lanes_given sources)) (attached_length (reads_of sources))
    (subst (λ (d : ℕ). new ≤ mid + (2 * (length (lanes_given sources) * size) + d)) copied_is (subst (λ (n : ℕ). new ≤ mid + (2 * (n * size) + copied)) count (subst (λ (s : ℕ). new ≤ mid + (2 * (lanes * s) + copied)) same second))))
  where
    fits : (n d : ℕ) → new ≤ mid + (2 * (n * size) + d) → new ≤ old + (25 * size + 2 * walked + (2 * (n * size) + d))
    fits n d more = omega arith

-- The bound holds if text files are read, and inputs are opened, merged and closed.
pub reads-closed : (found there : Result (List Source) Refusal) (most size whole walked text look old read opened merged closed : ℕ) → found ≡ there → size ≡ most → walked ≡ whole → read ≤ old + text → opened ≡ read → merged ≤ opened + (most_of there size walked + look) → closed ≡ merged → closed ≤ old + (text + (most_of found most whole + look))
reads-closed found there most size whole walked text look old read opened merged closed is length walks first begun paid ended =
    within (most_of there size walked) (most_of found most whole) (ap₂ (most_of there) length walks ∙ ap (λ (r : Result (List Source) Refusal). most_of r most whole) (sym is)) paid
  where
    within : (n m : ℕ) → n ≡ m → merged ≤ opened + (n + look) → closed ≤ old + (text + (m + look))
    within n m same paid = omega arith

-- ---- unchanged live files

-- Looking at files leaves the inputs unchanged.
pub inputs-stand : {S : Type 0} (r : Ghosts S) (f : writing.Ghosts S) (names opened written : List (List ℕ)) (old new : S) (ids : List FileId) → inputs.AreInputs r f names old ids → UsesOnly r f opened written old new → inputs.AreInputs r f names new ids
inputs-stand r f names opened written old new ids are uses = record {
  live = AreLive-on (live_files r old).live (live_files r new).live ids are.live uses.live;
  rising = are.rising;
  under = holders_of-kept (live_files r old).live (f.holder old) (f.holder new) ids are.live uses.holders ∙ are.under;
}

-- Reading leaves them unchanged.
pub inputs-kept : {S : Type 0} (r : Ghosts S) (f : writing.Ghosts S) (names : List (List ℕ)) (old new : S) (ids : List FileId) → inputs.AreInputs r f names old ids → r.standing new ≡ r.standing old → ((file : ℕ) → f.holder new file ≡ f.holder old file) → inputs.AreInputs r f names new ids
inputs-kept r f names old new ids are standing holders = record {
  live = subst (λ standing. AreLive (r.files standing).live ids) (sym standing) are.live;
  rising = are.rising;
  under = ap (λ (holder : ℕ → List ℕ). holders_of holder ids) (λ i file. holders file i) ∙ are.under;
}

-- They have the same contents.
pub contents-kept : (live : ℕ → Bool) (old new : ℕ → Option (List ℕ)) (ids : List FileId) → ((file : ℕ) → live file ≡ true → new file ≡ old file) → AreLive live ids → inputs.contents_of new ids ≡ inputs.contents_of old ids
contents-kept live old new [] same are = refl
contents-kept live old new (f ∷ fs) same are =
    ap (λ (c : Option (List ℕ)). c ∷ inputs.contents_of new fs) (same f.n (are 0 f (omega arith)))
    ∙ ap (λ (cs : List (Option (List ℕ))). old f.n ∷ cs) (contents-kept live old new fs same (λ k d below. are (suc k) d (omega arith)))

-- They have the same lengths.
sizes-kept : (old new : LiveFiles) (ids : List FileId) → ((file : ℕ) → IsSameFile old new file) → AreLive old.live ids → map (size_in new) ids ≡ map (size_in old) ids
sizes-kept old new [] same are = refl
sizes-kept old new (f ∷ fs) same are =
    ap₂ (λ (size : ℕ) (sizes : List ℕ). size ∷ sizes) ((same f.n).size (are 0 f (omega arith))) (sizes-kept old new fs same (λ k d below. are (suc k) d (omega arith)))

pub lengths-kept : (old new : LiveFiles) (files : List FileWords) (ids : List FileId) → ((file : ℕ) → IsSameFile old new file) → AreLive old.live ids → (files_size new ids ≡ files_size old ids) × (files_walked new files ids ≡ files_walked old files ids)
lengths-kept old new files ids same are = same-lengths (size_in new) (size_in old) files ids ids (sizes-kept old new ids same are)

-- ---- inputs and attached files

live-parts : (live : ℕ → Bool) (n : ℕ) (ids : List FileId) → AreLive live ids → AreLive live (take n ids) × AreLive live (drop n ids)
live-parts live zero ids are = (All-nil (λ (id : FileId). live id.n ≡ true), are)
live-parts live (suc n) [] are = (All-nil (λ (id : FileId). live id.n ≡ true), All-nil (λ (id : FileId). live id.n ≡ true))
live-parts live (suc n) (id ∷ ids) are =
    let P : FileId → Type 0 = λ (each : FileId). live each.n ≡ true in
    let rest = live-parts live n ids (All-tail P id ids are) in
    (All-cons P id (take n ids) (All-head P id ids are) rest.0, rest.1)

-- The opened files are live, one for each input, and then one for each attached file.
pub record AreParts {S : Type 0} (r : Ghosts S) (files : S) (words : MergeWords) (ids : List FileId) : Type 0 where
  pub own : AreLive (live_files r files).live (own_ids words ids)
  pub other : AreLive (live_files r files).live (attached_ids words ids)
  pub own_each : length (own_ids words ids) ≡ length words.files
  pub other_each : length (attached_ids words ids) ≡ length words.attached

pub opened-parts : {S : Type 0} (r : Ghosts S) (f : writing.Ghosts S) (files : S) (words : MergeWords) (ids : List FileId) → inputs.AreInputs r f (opened_names words) files ids → AreParts r files words ids
opened-parts r f files words ids are =
    let live = live-parts (live_files r files).live (length words.files) ids are.live in
    let count : length ids ≡ length words.files + length words.attached =
    sym (length-map ids (λ (id : FileId). f.holder files id.n)) ∙ ap (λ (names : List (List ℕ)). length names) are.under
    ∙ length-append {A = List ℕ} (file_names words.files) (attached_names words.attached)
    ∙ ap₂ (λ (n m : ℕ). n + m) (length-map words.files (λ (w : FileWords). w.name)) (length-map words.attached (λ (w : AttachedWords). w.file)) in
    record {
      own = live.0;
      other = live.1;
      own_each = length-take-le (length words.files) ids (omega (arith, count));
      other_each = length-drop (length words.files) ids ∙ omega (arith, count);
    }

-- ---- end of the merge

-- A call that reads files ended early.
pub early-cause : {A T : Type 0} (done : A → T) (told : Refusal → T) (before now writing report : ℕ) (end : MergeEnd) → HasReadCause {T = A} before now (Err end)
    → HasStopCause (record { reading = before; writing = writing; report = report }) (record { reading = now; writing = writing; report = report }) (end_as done told (Err end))
early-cause done told before now writing report (Refused why) same = λ i. record { reading = same i; writing = writing; report = report }
early-cause done told before now writing report (Stopped stop.Memory) same = λ i. record { reading = same i; writing = writing; report = report }
early-cause done told before now writing report (Stopped stop.Files) rose = (inl rose, refl)
early-cause done told before now writing report (Stopped stop.Disk) never = absurd never
early-cause done told before now writing report (Stopped stop.Report) never = absurd never

-- Text files weren't read, or inputs weren't opened.
pub texts-cause : (before now : ℕ) (why : ReadEnd) → HasCause {T = ℕ} is_read_fault before now (Err why) → HasReadCause {T = ℕ} before now (Err (Stopped (read_stop why)))
texts-cause before now read_end.ReadFault rose = rose
texts-cause before now read_end.Memory same = same

-- The same for a merge that prints nothing.
pub join-ended : {S : Type 0} (r : Ghosts S) (f : writing.Ghosts S) (old new : S) (end : MergeEnd) → HasReadCause {T = Prepared} (r.reading_faults old) (r.reading_faults new) (Err end) → f.writing_faults new ≡ f.writing_faults old → HasFilesCause r f old new (as_merged (Err end))
join-ended r f old new end cause same =
    subst (λ (n : ℕ). HasStopCause (files_counts r f old) (record { reading = r.reading_faults new; writing = n; report = 0 }) (as_merged (Err end))) (sym same)
    (early-cause Written merged.Refused (r.reading_faults old) (r.reading_faults new) (f.writing_faults old) 0 end cause)

-- The same after outputs were written.
pub join-remuxed : {S : Type 0} (r : Ghosts S) (f : writing.Ghosts S) (old mid new : S) (result : Result Summary RemuxEnd) → r.reading_faults mid ≡ r.reading_faults old → f.writing_faults mid ≡ f.writing_faults old → HasRemuxCause r f mid new result → HasFilesCause r f old new (as_merged (as_remuxed result))
join-remuxed r f old mid new result reading writing cause =
    subst (λ (counts : Counts). HasStopCause counts (files_counts r f new) (as_merged (as_remuxed result))) (λ i. record { reading = reading i; writing = writing i; report = 0 }) (by_end result cause)
  where
    by_end : (result : Result Summary RemuxEnd) → HasRemuxCause r f mid new result → HasStopCause (files_counts r f mid) (files_counts r f new) (as_merged (as_remuxed result))
    by_end (Ok s) cause = λ i. record { reading = cause.reading i; writing = cause.writing i; report = 0 }
    by_end (Err remux_end.ReadFault) cause = (inl cause.reading, refl)
    by_end (Err remux_end.WriteFault) cause = (inr cause.writing, refl)
    by_end (Err remux_end.Memory) cause = λ i. record { reading = cause.reading i; writing = cause.writing i; report = 0 }

module _ {F P : Type 0} (r : Ghosts F) (f : writing.Ghosts F) (p : ReportGhosts P) where
  -- Looking at files leaves visible state as it was.
  pub seen-kept : (old new : F) (report : P) → r.reading_faults new ≡ r.reading_faults old → f.writing_faults new ≡ f.writing_faults old → f.names new ≡ f.names old → seen_in r f p new report ≡ seen_in r f p old report
  seen-kept old new report reading writing names = λ i. record {
    counts = record { reading = reading i; writing = writing i; report = p.faults report };
    lines = p.lines report;
    names = names i;
  }

  -- The merge ended before a line was printed.
  pub merges-early : (old new : F) (report : P) (words : MergeWords) (found : Result (List Source) Refusal) (most : ℕ) (end : MergeEnd) → ReadsAs {B = List Source} (λ (s : List Source). s) found (Err end) → f.names new ≡ f.names old → ReadsUpTo r old new most
      → MergesTo r f p old new report report words found most (Err end)
  merges-early old new report words found most (Refused why) is names paid = record {
    verdict = (is, refl, names);
    readable = readable-none words found why (Ok status.Refused) is;
    octets = paid;
  }
  merges-early old new report words found most (Stopped why) is names paid = record {
    verdict = IsStopped-before (seen_in r f p old report) (seen_in r f p new report) (verdict_of words found) refl names;
    readable = tt;
    octets = paid;
  }

  pub ended-early : (old new : F) (report : P) (end : MergeEnd) → HasReadCause {T = Status} (r.reading_faults old) (r.reading_faults new) (Err end) → f.writing_faults new ≡ f.writing_faults old → ((file : ℕ) → (live_files r new).live file ≡ (live_files r old).live file)
      → HasEnded r f p old new report report (as_command (Err end))
  ended-early old new report end cause writing live = record {
    ordinary = ordinary end;
    live = live;
    cause = subst (λ (n : ℕ). HasStopCause (seen_in r f p old report).counts (record { reading = r.reading_faults new; writing = n; report = p.faults report }) (as_command (Err end))) (sym writing)
        (early-cause (λ (s : Status). s) (λ (why : Refusal). status.Refused) (r.reading_faults old) (r.reading_faults new) (f.writing_faults old) (p.faults report) end cause);
  }
    where
      ordinary : (end : MergeEnd) → IfOk (as_command (Err end)) IsOrdinary
      ordinary (Refused why) = tt
      ordinary (Stopped why) = tt

  -- The sources are written, and their lines are printed.
  pub merges-written : (old mid new : F) (report report' : P) (words : MergeWords) (found : Result (List Source) Refusal) (sources : List Source) (most : ℕ) (result : Result Status CommandEnd) → seen_in r f p mid report ≡ seen_in r f p old report → found ≡ Ok sources
      → HaveRecords words sources → IfOk result (λ (s : Status). AreShort words sources) → Fulfils r f p mid new report report' result (merged_verdict words sources) → ReadsUpTo r old new most → MergesTo r f p old new report report' words found most (as_written result)
  merges-written old mid new report report' words found sources most result begun is have short comes paid = by_end result short comes
    where
      by_end : (result : Result Status CommandEnd) → IfOk result (λ (s : Status). AreShort words sources) → Fulfils r f p mid new report report' result (merged_verdict words sources) → MergesTo r f p old new report report' words found most (as_written result)
      by_end (Ok s) short comes = record {
        verdict = subst (λ (o : Result (List Source) Refusal). Reaches (seen_in r f p old report) (seen_in r f p new report') (Ok s) (verdict_of words o)) (sym is)
            (subst (λ (seen : Seen). Reaches seen (seen_in r f p new report') (Ok s) (merged_verdict words sources)) begun comes);
        readable = readable-found words found sources (Ok s) is have short;
        octets = paid;
      }
      by_end (Err why) short comes = record {
        verdict = subst (λ (o : Result (List Source) Refusal). IsStopped (seen_in r f p old report) (seen_in r f p new report') (verdict_of words o)) (sym is)
            (subst (λ (seen : Seen). IsStopped seen (seen_in r f p new report') (merged_verdict words sources)) begun comes);
        readable = tt;
        octets = paid;
      }

  pub ended-written : (old mid new : F) (report report' : P) (result : Result Status CommandEnd) → seen_in r f p mid report ≡ seen_in r f p old report → ((file : ℕ) → (live_files r mid).live file ≡ (live_files r old).live file) → HasEnded r f p mid new report report' result
      → HasEnded r f p old new report report' (as_command (as_written result))
  ended-written old mid new report report' result begun live ended = by_end result ended
    where
      by_end : (result : Result Status CommandEnd) → HasEnded r f p mid new report report' result → HasEnded r f p old new report report' (as_command (as_written result))
      by_end (Ok s) ended = record {
        ordinary = ended.ordinary;
        live = λ file. ended.live file ∙ live file;
        cause = subst (λ (seen : Seen). HasStopCause seen.counts (seen_in r f p new report').counts (Ok s)) begun ended.cause;
      }
      by_end (Err why) ended = record {
        ordinary = ended.ordinary;
        live = λ file. ended.live file ∙ live file;
        cause = subst (λ (seen : Seen). HasStopCause {T = Status} seen.counts (seen_in r f p new report').counts (Err why)) begun ended.cause;
      }

  -- Files were looked at before, and inputs were closed after.
  pub merges-within : (old mid done new : F) (report report' : P) (words : MergeWords) (found there : Result (List Source) Refusal) (most more : ℕ) (result : Result Status MergeEnd) → seen_in r f p mid report ≡ seen_in r f p old report → seen_in r f p new report' ≡ seen_in r f p done report'
      → found ≡ there → ReadsUpTo r old new most → MergesTo r f p mid done report report' words there more result → MergesTo r f p old new report report' words found most result
  merges-within old mid done new report report' words found there most more result begun ended is paid merges = record {
    verdict = subst (λ (seen : Seen). Leads seen (seen_in r f p new report') words found result) begun
        (subst (λ (seen : Seen). Leads (seen_in r f p mid report) seen words found result) (sym ended)
        (subst (λ (o : Result (List Source) Refusal). Leads (seen_in r f p mid report) (seen_in r f p done report') words o result) (sym is) merges.verdict));
    readable = subst (λ (o : Result (List Source) Refusal). EndsReadable words o (as_command result)) (sym is) merges.readable;
    octets = paid;
  }

  pub ended-within : (old mid done new : F) (report report' : P) (result : Result Status CommandEnd) → seen_in r f p mid report ≡ seen_in r f p old report → seen_in r f p new report' ≡ seen_in r f p done report' → ((file : ℕ) → (live_files r new).live file ≡ (live_files r old).live file)
      → HasEnded r f p mid done report report' result → HasEnded r f p old new report report' result
  ended-within old mid done new report report' result begun ended live was = record {
    ordinary = was.ordinary;
    live = live;
    cause = subst (λ (seen : Seen). HasStopCause seen.counts (seen_in r f p new report').counts result) begun
        (subst (λ (seen : Seen). HasStopCause (seen_in r f p mid report).counts seen.counts result) (sym ended) was.cause);
  }

  -- A refusal is printed.
  pub refusal-told : (old new : F) (report mid report' : P) (words : MergeWords) (found : Result (List Source) Refusal) (most : ℕ) (why : Refusal) (result : Result Status CommandEnd) → MergesTo r f p old new report mid words found most (Err (Refused why))
      → SaysVerdict (p.lines mid) (p.lines report') result (refused (line_of words why)) → Fulfils r f p old new report report' result (verdict_of words found)
  refusal-told old new report mid report' words found most why result merges says =
      subst (λ (o : Result (List Source) Refusal). Fulfils r f p old new report report' result (verdict_of words o)) (sym merges.verdict.0)
      (Reaches-lines (seen_in r f p old report) (seen_in r f p new report') result (refused (line_of words why))
      (subst (λ (lines : ReportLines). SaysVerdict lines (p.lines report') result (refused (line_of words why))) merges.verdict.1 says) refl merges.verdict.2)
