-- The sources of a merge whose command line names one more timestamp file.
use Rattle.std.proofs.Common.{◌≡◌, ◌<◌, ℕ, zero, suc, Bool, ◌&&◌, List, [], ◌∷◌, ◌++◌, length, map, ◌∙◌, Option, Some, None, Result, Ok, Err, refl, sym, ap, subst, not, is_none, unwrap_or, arith}
use Rattle.std.specs.List.{slice_get, zip}
use Rattle.std.specs.Option.{option_map, option_or}
use Rattle.std.specs.Result.{result_err}
use Rattle.std.proofs.lemmas.List.{length-map}
use Rattle.std.proofs.lemmas.Option.{slice_get_within}
use Rattle.std.proofs.lemmas.Slice.Zip.{length-zip}
use Rattle.mkv_io.specs.Faults.{counted}
use Rattle.sidecar_edit.specs.Pending.{is_pending}
use Rattle.tree_format.specs.Node.{Node}
use Rattle.ext_times.specs.Listing.{Listing}
use Rattle.output_records.specs.Limits.{first_too_large}
use Rattle.output_records.specs.Tracks.{output_tracks}
use Rattle.output_records.specs.Chapters.{merged_chapters}
use Rattle.output_records.specs.Tags.{merged_tags}
use Rattle.requests.specs.declared.merge.FileWords.{FileWords}
use Rattle.requests.specs.declared.merge.MergeWords.{MergeWords}
use Rattle.input_files.specs.Inputs.{attached_names, file_names, first_missing, first_pending}
use Rattle.input_files.specs.TextFiles.{text_files}
use Rattle.input_files.specs.TimesFile.{times_files}
use Rattle.input_files.specs.declared.chapter_file.ChapterFile.{ChapterFile}
use Rattle.input_files.specs.declared.chapter_file.ChapterFile.TheVariants as chapter_file
use Rattle.input_files.specs.declared.text_files.TextFiles.{TextFiles}
use Rattle.input_files.specs.declared.times_file.TimesFile.{TimesFile}
use Rattle.input_files.specs.declared.times_file.TimesName.{TimesName}
use Rattle.merge_inputs.specs.Input.{InputRead, input_of}
use Rattle.merge_inputs.specs.Select.{kept_one}
use Rattle.merge_plan.specs.Appending.{append_refusal}
use Rattle.merge_plan.specs.Attached.{attached_sources}
use Rattle.merge_plan.specs.Front.{reads_of}
use Rattle.merge_plan.specs.Places.{begun_at, end_of, in_place_from}
use Rattle.merge_plan.specs.Plan.{Source}
use Rattle.merge_plan.specs.Records.{entries_of}
use Rattle.merge_plan.specs.Refusal.{lanes_refusal, plan_refusal}
use Rattle.merge_plan.specs.declared.refusal.PlanRefusal.TheVariants.{HeaderTooLarge}
use Rattle.mkv_merge.specs.Chapters.{chaptered, chapters_refusal, first_with, missing_chapters, with_chapters}
use Rattle.mkv_merge.specs.Merge.{attached_refusal, refusals, refusals_read, sources_in, sources_of, sources_placed}
use Rattle.mkv_merge.specs.Read.{first_written, found_in, inputs_from, inputs_of, numbered, pending_of, pending_refusal, reads_with}
use Rattle.mkv_merge.specs.Refused.{first_cause}
use Rattle.mkv_io.specs.Results.{and_then, unless}
use Rattle.mkv_merge.specs.Texts.{missing_text, missing_times, times_refusal, timed_from}
use Rattle.mkv_merge.specs.declared.refusal.Refusal.{Refusal}
use Rattle.mkv_merge.specs.declared.refusal.Refusal.TheVariants.{Differs, Missing, MissingAttached, OutputIsInput, Plan}
use Rattle.times_laws.specs.GivenBack.{World, untold, with_input}
use Rattle.times_laws.proofs.GivenLemmas.{GivesTheSame}
use Rattle.times_laws.proofs.BareLemmas.{AreAlike, alike-append, differs-bare, ordered-bare, records-bare, reads-same, same-of, tracks-bare, untimed}
use Rattle.times_laws.proofs.AlikeLemmas.{AllAlike, At, ListsMore, placed-alike, timed-alike, timed-same}
use Rattle.times_laws.proofs.BothLemmas.{Both, both-unless}
use Rattle.times_laws.proofs.InputsLemmas.{held_by, inputs-same, names-same}

-- ---- inputs with the Chapters of a file

module _ (id : ℕ) (times : Listing) where
  abbrev Gives : Source → Type 0
  Gives s = GivesTheSame id times s.0 s.1

  gives-chapters : (chapters : Option Node) (bytes : List ℕ) (i : InputRead) → Gives (bytes, i) → Gives (bytes, with_chapters chapters i)
  gives-chapters chapters bytes i is = record { there = is.there; given = is.given }

  map-chapters : (chapters : Option Node) (k : ℕ) (contents : List (List ℕ)) (reads : List InputRead) → At k Gives (zip contents reads) → At k Gives (zip contents (map (with_chapters chapters) reads))
  map-chapters chapters k [] reads is = tt
  map-chapters chapters k (c ∷ cs) [] is = tt
  map-chapters chapters zero (c ∷ cs) (i ∷ is) gives = gives-chapters chapters c i gives
  map-chapters chapters (suc k) (c ∷ cs) (i ∷ is) gives = map-chapters chapters k cs is gives

  first-chapters : (chapters : Option Node) (k : ℕ) (contents : List (List ℕ)) (reads : List InputRead) → At k Gives (zip contents reads) → At k Gives (zip contents (first_with with_chapters chapters reads))
  first-chapters chapters k [] reads is = tt
  first-chapters chapters k (c ∷ cs) [] is = tt
  first-chapters chapters zero (c ∷ cs) (i ∷ is) gives = gives-chapters chapters c i gives
  first-chapters chapters (suc k) (c ∷ cs) (i ∷ is) gives = map-chapters None k cs is gives

  chaptered-gives : (webm : Bool) (file : ChapterFile) (k : ℕ) (contents : List (List ℕ)) (reads : List InputRead) → At k Gives (zip contents reads) → At k Gives (zip contents (chaptered with_chapters webm file reads))
  chaptered-gives webm chapter_file.Absent k contents reads is = is
  chaptered-gives webm chapter_file.Missing k contents reads is = is
  chaptered-gives webm (chapter_file.Refused why) k contents reads is = is
  chaptered-gives webm (chapter_file.Read chapters) k contents reads is = first-chapters (kept_one (not webm) (Some chapters)) k contents reads is

-- ---- the track exists

abbrev pub Has : ℕ → Source → Type 0
Has id s = id < s.1.count

timed-has : (id : ℕ) (times : Listing) (files : List TimesFile) (k n : ℕ) (contents : List (List ℕ)) (reads : List InputRead) → At k (λ (s : Source). GivesTheSame id times s.0 s.1) (zip contents reads)
    → At k (Has id) (zip contents (timed_from files n reads))
timed-has id times files k n [] reads is = tt
timed-has id times files k n (c ∷ cs) [] is = tt
timed-has id times files zero n (c ∷ cs) (i ∷ is) gives = gives.there
timed-has id times files (suc k) n (c ∷ cs) (i ∷ is) gives = timed-has id times files k (suc n) cs is gives

placed-has : (id k time : ℕ) (sources : List Source) → At k (Has id) sources → At k (Has id) (in_place_from time sources)
placed-has id k time [] has = tt
placed-has id zero time (s ∷ ss) has = has
placed-has id (suc k) time (s ∷ ss) has = placed-has id k (end_of (begun_at time s)) ss has

-- ---- refusals

plan-bare : (words : MergeWords) (reads : List InputRead) → plan_refusal words (map untimed reads) ≡ plan_refusal words reads
plan-bare words reads = λ i.
    option_or (lanes_refusal words.webm (tracks-bare reads i) (ordered-bare words.order reads i))
    (option_map HeaderTooLarge (first_too_large (output_tracks (entries_of (ordered-bare words.order reads i))) (merged_chapters (records-bare [] reads i)) (merged_tags (records-bare words.order reads i))))

-- If nothing refuses a merge, neither does each of its checks.
one-passes : (before : List (Option Refusal)) (cause : Option Refusal) (behind : List (Option Refusal)) → first_cause (before ++ cause ∷ behind) ≡ None → cause ≡ None
one-passes [] None behind none = refl
one-passes [] (Some why) behind none = absurd (cc)
one-passes (None ∷ before) cause behind none = one-passes before cause behind none
one-passes (Some why ∷ before) cause behind none = absurd (cc)

-- ---- the numbers of inputs

chaptered-many : (webm : Bool) (file : ChapterFile) (reads : List InputRead) → length (chaptered with_chapters webm file reads) ≡ length reads
chaptered-many webm chapter_file.Absent reads = refl
chaptered-many webm chapter_file.Missing reads = refl
chaptered-many webm (chapter_file.Refused why) reads = refl
chaptered-many webm (chapter_file.Read chapters) [] = refl
chaptered-many webm (chapter_file.Read chapters) (i ∷ is) = ap suc (length-map is (with_chapters None))

timed-many : (files : List TimesFile) (n : ℕ) (reads : List InputRead) → length (timed_from files n reads) ≡ length reads
timed-many files n [] = refl
timed-many files n (i ∷ is) = ap suc (timed-many files (suc n) is)

placed-many : (time : ℕ) (sources : List Source) → length (in_place_from time sources) ≡ length sources
placed-many time [] = refl
placed-many time (s ∷ ss) = ap suc (placed-many (end_of (begun_at time s)) ss)

read-many : (webm : Bool) (n held : ℕ) (files : List (FileWords × List ℕ)) (reads : List InputRead) → inputs_from webm n held files ≡ Ok reads → length reads ≡ length files
read-many webm n held [] reads is = let none : [] ≡ reads = cc in ap length (sym none)
read-many webm n held (file ∷ files) reads is =
    of (numbered n (input_of file.0 webm held file.1)) (λ i others found. read-many webm (suc n) (counted held i.held) files others found) is
  where
    rest : (i : InputRead) → ((others : List InputRead) → inputs_from webm (suc n) (counted held i.held) files ≡ Ok others → length others ≡ length files) → (found : Result (List InputRead) Refusal) → inputs_from webm (suc n) (counted held i.held) files ≡ found
        → and_then found (λ (others : List InputRead). Ok (i ∷ others)) ≡ Ok reads → length reads ≡ suc (length files)
    rest i many (Ok others) found made = let are : i ∷ others ≡ reads = cc in ap length (sym are) ∙ ap suc (many others found)
    rest i many (Err why) found made = absurd (cc)

    of : (first : Result InputRead Refusal)
        → ((i : InputRead) (others : List InputRead) → inputs_from webm (suc n) (counted held i.held) files ≡ Ok others → length others ≡ length files)
        → and_then first (λ (i : InputRead). and_then (inputs_from webm (suc n) (counted held i.held) files) (λ (others : List InputRead). Ok (i ∷ others))) ≡ Ok reads → length reads ≡ suc (length files)
    of (Ok i) many made = rest i (many i) (inputs_from webm (suc n) (counted held i.held) files) refl made
    of (Err why) many made = absurd (cc)

-- A fact at a place of the first of two lists.
at-append : {A : Type 0} (k : ℕ) (P : A → Type 0) (xs ys : List A) → k < length xs → At k P xs → At k P (xs ++ ys)
at-append k P [] ys inside is = absurd (omega arith)
at-append zero P (x ∷ xs) ys inside is = is
at-append (suc k) P (x ∷ xs) ys inside is = at-append k P xs ys (omega arith) is

-- ---- the sources

-- The sources `new` and `old` give the same blocks, and one of them has the track.
pub record AreGiven (n : TimesName) (new old : List Source) : Type 0 where
  pub alike : AreAlike new old
  pub has : At n.input (Has n.id) old

module _ (world : World) (words : MergeWords) (n : TimesName) (times : Listing) (new_words own : FileWords) (own_alike : untold new_words ≡ untold own) (found : slice_get words.files n.input ≡ Some own)
    (gives : (held : ℕ) (i : InputRead) → input_of own words.webm held (unwrap_or (world own.name) []) ≡ Ok i → GivesTheSame n.id times (unwrap_or (world own.name) []) i)
    (name_is : first_written (with_input n.input new_words words) ≡ first_written words)
    (refuses : times_refusal (times_files world (with_input n.input new_words words).files) ≡ times_refusal (times_files world words.files))
    (misses : missing_times (times_files world (with_input n.input new_words words).files) ≡ missing_times (times_files world words.files))
    (lists : ListsMore n.input n.id times (times_files world (with_input n.input new_words words).files) (times_files world words.files)) where
  -- the command line with the option; `more_texts` is the result of its text files
  abbrev more : MergeWords
  more = with_input n.input new_words words

  abbrev texts : TextFiles
  texts = text_files world words.chapters words.files

  abbrev more_texts : TextFiles
  more_texts = text_files world words.chapters more.files

  abbrev contents : List (List ℕ)
  contents = held_by world (file_names words.files)

  abbrev Good : Source → Type 0
  Good s = GivesTheSame n.id times s.0 s.1

  -- The inputs `new` and `old` give the same blocks, and differ only in timestamps.
  record AreTimed (new old : List InputRead) : Type 0 where
    alike : AllAlike (zip contents new) (zip contents old)
    same : map untimed new ≡ map untimed old
    has : At n.input (Has n.id) (zip contents old)

  abbrev Same : List InputRead → List InputRead → Type 0
  Same new old = (new ≡ old) × At n.input Good (zip contents old)

  inputs-both : Both Same (inputs_of more contents) (inputs_of words contents)
  inputs-both = inputs-same world words.webm new_words own own_alike Good gives n.input 0 0 words.files found

  -- Both are refused for the same reason, or their inputs are the same.
  found-both : (new old : Result (List InputRead) Refusal) → Both Same new old → (result_err new ≡ result_err old) × Same (found_in new) (found_in old)
  found-both (Ok new) (Ok old) same = (refl, same)
  found-both (Ok new) (Err why) never = absurd never
  found-both (Err why) (Ok old) never = absurd never
  found-both (Err why) (Err because) same = (ap (λ (e : Refusal). Some e) same, (refl, none contents))
    where
      none : (contents : List (List ℕ)) → At n.input Good (zip contents [])
      none [] = tt
      none (c ∷ cs) = tt

  both : (result_err (inputs_of more contents) ≡ result_err (inputs_of words contents)) × Same (found_in (inputs_of more contents)) (found_in (inputs_of words contents))
  both = found-both (inputs_of more contents) (inputs_of words contents) inputs-both

  timed-both : AreTimed (reads_with more more_texts contents) (reads_with words texts contents)
  timed-both =
      let headed = chaptered with_chapters words.webm texts.chapters in
      let old = headed (found_in (inputs_of words contents)) in
      let good = chaptered-gives n.id times words.webm texts.chapters n.input contents (found_in (inputs_of words contents)) both.1.1 in
      subst (λ (reads : List InputRead). AreTimed (timed_from more_texts.times 0 (headed reads)) (reads_with words texts contents)) (sym both.1.0) (record {
        alike = timed-alike n.input n.id times more_texts.times texts.times lists n.input 0 contents old (omega arith) good;
        same = timed-same more_texts.times texts.times 0 old;
        has = timed-has n.id times texts.times n.input 0 contents old good;
      })

  -- the contents of the files that the merge attaches
  abbrev attached : List (List ℕ)
  attached = held_by world (attached_names words.attached)

  -- the sources that the merge attaches
  abbrev bare_sources : List Source
  bare_sources = attached_sources words.webm words.attached attached

  sources-alike : AreAlike (sources_in more more_texts contents attached) (sources_in words texts contents attached)
  sources-alike =
      alike-append (sources_placed more more_texts contents) (sources_placed words texts contents) bare_sources
      (placed-alike 0 (zip contents (reads_with more more_texts contents)) (zip contents (reads_with words texts contents)) timed-both.alike)

  -- The input with the option is a source if the inputs could be read.
  input-inside : (found_reads : Result (List InputRead) Refusal) → inputs_of words contents ≡ found_reads → result_err found_reads ≡ None → n.input < length (sources_placed words texts contents)
  input-inside (Err why) are none = absurd (cc)
  input-inside (Ok reads) are none =
      let each = reads_with words texts contents in
      let headed : List InputRead = chaptered with_chapters words.webm texts.chapters (found_in (inputs_of words contents)) in
      let contents-many : length contents ≡ length words.files =
      length-map (file_names words.files) (λ (name : List ℕ). unwrap_or (world name) []) ∙ length-map words.files (λ (w : FileWords). w.name) in
      let inside = slice_get_within words.files n.input own found in
      let read = read-many words.webm 0 0 (zip words.files contents) reads are in
      let found_are : length (found_in (inputs_of words contents)) ≡ length reads = ap (λ (r : Result (List InputRead) Refusal). length (found_in r)) are in
      let with_chapters-many = chaptered-many words.webm texts.chapters (found_in (inputs_of words contents)) in
      let with_times-many = timed-many texts.times 0 headed in
      let all = placed-many 0 (zip contents each) in
      omega (arith, length-zip contents each, length-zip words.files contents)

  placed-given : result_err (inputs_of words contents) ≡ None → AreGiven n (sources_in more more_texts contents attached) (sources_in words texts contents attached)
  placed-given none = record {
    alike = sources-alike;
    has = at-append n.input (Has n.id) (sources_placed words texts contents) bare_sources (input-inside (inputs_of words contents) refl none)
        (placed-has n.id n.input 0 (zip contents (reads_with words texts contents)) timed-both.has);
  }

  -- The refusals are the same.
  read-both : refusals_read more more_texts contents attached ≡ refusals_read words texts contents attached
  read-both = λ i.
      both.0 i
      ∷ chapters_refusal texts.chapters
      ∷ refuses i
      ∷ attached_refusal attached
      ∷ option_map Differs (same-of append_refusal (differs-bare [] 0) (reads_with more more_texts contents) (reads_with words texts contents) timed-both.same i)
      ∷ option_map Plan (same-of (plan_refusal words) (plan-bare words) (reads_of (sources_in more more_texts contents attached)) (reads_of (sources_in words texts contents attached))
      (reads-same (sources_in more more_texts contents attached) (sources_in words texts contents attached) sources-alike) i)
      ∷ []

  -- The names are the same.
  names : file_names more.files ≡ file_names words.files
  names = names-same n.input new_words own words.files (ap (λ (file : FileWords). file.name) own_alike) found

  -- the refusals of the merge, if its inputs have these names
  abbrev refusals_by : List (List ℕ) → List (Option Refusal)
  refusals_by all =
      option_map OutputIsInput (first_written more) ∷ option_map Missing (first_missing world all) ∷ missing_text more_texts
      ∷ option_map MissingAttached (first_missing world (attached_names words.attached))
      ∷ pending_refusal (first_pending world all) (is_none words.split && is_pending world words.output) ∷ refusals_read more more_texts (held_by world all) attached

  pub sources-both : Both (AreGiven n) (sources_of world more) (sources_of world words)
  sources-both =
      subst (λ (all : List (List ℕ)). Both (AreGiven n) (unless (first_cause (refusals_by all)) (sources_in more more_texts (held_by world all) attached)) (sources_of world words)) (sym names)
      (both-unless (AreGiven n) (first_cause (refusals_by (file_names words.files))) (first_cause (refusals world words ++ refusals_read words texts contents attached))
      (sources_in more more_texts contents attached) (sources_in words texts contents attached)
      (λ i. first_cause (option_map OutputIsInput (name_is i) ∷ option_map Missing (first_missing world (file_names words.files)) ∷ option_or (missing_chapters texts.chapters) (misses i)
      ∷ option_map MissingAttached (first_missing world (attached_names words.attached)) ∷ pending_of world words ∷ read-both i))
      (λ none. placed-given (one-passes (refusals world words) (result_err (inputs_of words contents))
      (chapters_refusal texts.chapters ∷ times_refusal texts.times ∷ attached_refusal attached ∷ option_map Differs (append_refusal (reads_with words texts contents))
      ∷ option_map Plan (plan_refusal words (reads_of (sources_in words texts contents attached))) ∷ []) none)))
