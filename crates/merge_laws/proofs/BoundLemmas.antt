-- The bytes that a merge may read, by the lengths of its files.
use Rattle.std.proofs.Common.{◌≡◌, ◌≤◌, ℕ, suc, ◌+◌, ◌*◌, Bool, true, false, not, if◌then◌else◌, List, [], ◌∷◌, ◌++◌, length, map, Option, Some, None, is_none, Result, Ok, Err, refl, sym, ap, subst, ◌∙◌, arith, unwrap_or}
use Rattle.std.specs.List.{All, sum, sum_by, zip}
use Rattle.std.proofs.lemmas.List.Elements.{All-head, All-tail}
use Rattle.std.proofs.lemmas.List.{map-append}
use Rattle.std.proofs.lemmas.List.Sums.{sum-map, sum_by-append, sum_by-cons}
use Rattle.std.proofs.Math.Nat.{add-mul, mul_assoc}
use Rattle.mkv_io.specs.Faults.{counted}
use Rattle.mkv_io.specs.Results.{and_then}
use Rattle.mkv_schema.specs.declared.element.Header.{Header}
use Rattle.mkv_schema.specs.declared.ids.TheConstants.{CHAPTERS, INFO, TAGS, TRACKS}
use Rattle.mkv_schema.specs.Outline.{outline_of}
use Rattle.mkv_schema.proofs.OutlineLemmas.{and_then-ok}
use Rattle.tree_format.specs.Node.{Node}
use Rattle.meta_records.specs.Attached.{AttachedFile, first_attached}
use Rattle.meta_records.specs.Records.{FileRecords, file_records, first_tree, good_info, good_tracks}
use Rattle.input_files.specs.Names.{is_srt}
use Rattle.input_files.specs.TextFile.{srt_text}
use Rattle.input_files.specs.TextFiles.{text_octets}
use Rattle.input_files.specs.declared.chapter_file.ChapterFile.{ChapterFile}
use Rattle.input_files.specs.declared.chapter_file.ChapterFile.TheVariants as file
use Rattle.input_files.specs.declared.times_file.TimesFile.{TimesFile}
use Rattle.input_files.specs.Inputs.{attached_names}
use Rattle.requests.specs.declared.merge.AttachedWords.{AttachedWords}
use Rattle.requests.specs.declared.merge.FileWords.{FileWords}
use Rattle.requests.specs.declared.merge.MergeWords.{MergeWords}
use Rattle.requests.specs.Sound.{IsSoundMerge}
use Rattle.merge_inputs.specs.Input.{InputRead, file_read, input_of, input_with, refusal_of, text_read, text_with}
use Rattle.merge_inputs.specs.Select.{keeps_attachments, kept_list, kept_one}
use Rattle.merge_inputs.specs.Taken.{taken_from}
use Rattle.merge_plan.specs.Attached.{attached_read, attached_sources, whole_file}
use Rattle.merge_plan.specs.Front.{attached_length, reads_of}
use Rattle.merge_plan.specs.Places.{begun_at, end_of, in_place, in_place_from}
use Rattle.merge_plan.specs.Plan.{Source}
use Rattle.mkv_merge.specs.Bound.{attached_octets, contents_length, contents_walked, data_count, lane_count, looked_into, most_looked, opened_length, walked_before}
use Rattle.mkv_merge.specs.Chapters.{chaptered, first_with, with_chapters}
use Rattle.mkv_merge.specs.Merge.{sources_of}
use Rattle.mkv_merge.specs.Read.{attached_held, contents_held, inputs_from, numbered}
use Rattle.mkv_merge.specs.Texts.{listings_at, timed_from, with_listings}
use Rattle.mkv_merge.specs.declared.refusal.Refusal.{Refusal}
use Rattle.merge_laws.specs.Bound.{OnlyAppendingWalks, ReadsAreBounded}
use Rattle.merge_laws.proofs.AttachedLemmas.{attached-inside, data_sum}
use Rattle.merge_laws.proofs.SourceLemmas.{found-ok, numbered-ok, text-ok, then-ok, unrefused-ok, were-read}

-- ---- one input

-- the number of bytes of the data of an input's attached files
abbrev input_sum : InputRead → ℕ
input_sum i = data_sum i.attachments

-- The data of the attached files are within the content.
records-inside : (bytes : List ℕ) (segment : Header) (r : FileRecords) → file_records bytes segment ≡ Ok r → data_sum r.attachments ≤ length bytes
records-inside bytes segment r is =
    let info = and_then-ok (and_then (first_tree INFO bytes segment) good_info) _ r is in
    let list = and_then-ok (and_then (first_tree TRACKS bytes segment) (good_tracks segment)) _ r info.1.1 in
    let attached = and_then-ok (first_attached bytes segment) _ r list.1.1 in
    let chapters = and_then-ok (first_tree CHAPTERS bytes segment) _ r attached.1.1 in
    let tags = and_then-ok (first_tree TAGS bytes segment) _ r chapters.1.1 in
    let made : record { info = info.0; tracks = list.0; attachments = attached.0; chapters = chapters.0; tags = tags.0 } ≡ r = cc (tags.1.1) in
    subst (λ (x : FileRecords). data_sum x.attachments ≤ length bytes) made (attached-inside bytes segment attached.0 attached.1.0)

kept-inside : (kept : Bool) (files : List AttachedFile) → data_sum (kept_list kept files) ≤ data_sum files
kept-inside true files = omega arith
kept-inside false files = omega arith

file-inside : (words : FileWords) (webm : Bool) (held : ℕ) (bytes : List ℕ) (read : InputRead) → file_read words webm held bytes ≡ Ok read → input_sum read ≤ length bytes
file-inside words webm held bytes read is =
    let outline = found-ok (outline_of held bytes) _ read is in
    let o = outline.0 in
    let records = found-ok (file_records bytes o.segment) _ read outline.1.1 in
    let r : FileRecords = records.0 in
    let made = unrefused-ok (refusal_of (taken_from words 0 r.tracks)) (input_with words webm o r) read records.1.1 in
    let inside = records-inside bytes o.segment r records.1.0 in
    let kept = kept-inside (keeps_attachments words webm) r.attachments in
    subst (λ (i : InputRead). input_sum i ≤ length bytes) made.1 (omega arith)

-- A text has no attached file.
input-inside : (words : FileWords) (webm : Bool) (held : ℕ) (bytes : List ℕ) (read : InputRead) → input_of words webm held bytes ≡ Ok read → input_sum read ≤ length bytes
input-inside words webm held bytes read = of (is_srt words.name bytes)
  where
    of : (text : Bool) → (if text then text_read words bytes else file_read words webm held bytes) ≡ Ok read → input_sum read ≤ length bytes
    of true is =
        let found = text-ok (srt_text bytes) (text_with words) read is in
        subst (λ (i : InputRead). input_sum i ≤ length bytes) found.1.1 (omega arith)
    of false is = file-inside words webm held bytes read is

-- ---- all inputs

inputs-inside : (webm : Bool) (k held : ℕ) (files : List FileWords) (contents : List (List ℕ)) (reads : List InputRead) → inputs_from webm k held (zip files contents) ≡ Ok reads
    → attached_length reads ≤ sum_by length contents
inputs-inside webm k held [] contents reads is =
    let none : [] ≡ reads = cc in
    subst (λ (rs : List InputRead). attached_length rs ≤ sum_by length contents) none (omega arith)
inputs-inside webm k held (f ∷ fs) [] reads is =
    let none : [] ≡ reads = cc in
    subst (λ (rs : List InputRead). attached_length rs ≤ 0) none (omega arith)
inputs-inside webm k held (f ∷ fs) (c ∷ cs) reads is =
    let first = then-ok (numbered k (input_of f webm held c)) _ reads is in
    let read : InputRead = first.0 in
    let others = then-ok (inputs_from webm (suc k) (counted held read.held) (zip fs cs)) _ reads first.1.1 in
    let made : read ∷ others.0 ≡ reads = (let last = others.1.1 in cc) in
    let own = input-inside f webm held c read (numbered-ok k (input_of f webm held c) read first.1.0) in
    let rest = inputs-inside webm (suc k) (counted held read.held) fs cs others.0 others.1.0 in
    subst (λ (rs : List InputRead). attached_length rs ≤ sum_by length (c ∷ cs)) made
    (rw (sum_by-cons length c cs) (rw (sum_by-cons input_sum read others.0) (omega arith)))

-- ---- the sources

-- Chapter files, timestamp files and append offsets change no attached file.
without-chapters : (reads : List InputRead) → attached_length (map (with_chapters None) reads) ≡ attached_length reads
without-chapters [] = refl
without-chapters (r ∷ rs) =
    sum_by-cons input_sum (with_chapters None r) (map (with_chapters None) rs) ∙ ap (λ n. input_sum r + n) (without-chapters rs) ∙ sym (sum_by-cons input_sum r rs)

first-same : (chapters : Option Node) (reads : List InputRead) → attached_length (first_with with_chapters chapters reads) ≡ attached_length reads
first-same chapters [] = refl
first-same chapters (r ∷ rs) =
    sum_by-cons input_sum (with_chapters chapters r) (map (with_chapters None) rs) ∙ ap (λ n. input_sum r + n) (without-chapters rs) ∙ sym (sum_by-cons input_sum r rs)

chaptered-same : (webm : Bool) (f : ChapterFile) (reads : List InputRead) → attached_length (chaptered with_chapters webm f reads) ≡ attached_length reads
chaptered-same webm file.Absent reads = refl
chaptered-same webm file.Missing reads = refl
chaptered-same webm (file.Refused why) reads = refl
chaptered-same webm (file.Read chapters) reads = first-same (kept_one (not webm) (Some chapters)) reads

timed-same : (files : List TimesFile) (input : ℕ) (reads : List InputRead) → attached_length (timed_from files input reads) ≡ attached_length reads
timed-same files input [] = refl
timed-same files input (r ∷ rs) =
    sum_by-cons input_sum (with_listings (listings_at input files) r) (timed_from files (suc input) rs) ∙ ap (λ n. input_sum r + n) (timed-same files (suc input) rs)
    ∙ sym (sum_by-cons input_sum r rs)

placed-same : (time : ℕ) (sources : List Source) → attached_length (reads_of (in_place_from time sources)) ≡ attached_length (reads_of sources)
placed-same time [] = refl
placed-same time (s ∷ ss) =
    sum_by-cons input_sum (begun_at time s).1 (reads_of (in_place_from (end_of (begun_at time s)) ss)) ∙ ap (λ n. input_sum s.1 + n) (placed-same (end_of (begun_at time s)) ss)
    ∙ sym (sum_by-cons input_sum s.1 (reads_of ss))

paired-most : (contents : List (List ℕ)) (reads : List InputRead) → attached_length (reads_of (zip contents reads)) ≤ attached_length reads
paired-most [] reads = omega arith
paired-most (c ∷ cs) [] = omega arith
paired-most (c ∷ cs) (r ∷ rs) =
    let rest = paired-most cs rs in
    rw (sum_by-cons input_sum r (reads_of (zip cs rs))) (rw (sum_by-cons input_sum r rs) (omega arith))

-- ---- the whole

-- The contents together have the length that the definition of the bound has.
held-length : (world : List ℕ → Option (List ℕ)) (files : List FileWords)
    → sum_by length (map (λ (name : List ℕ). unwrap_or (world name) []) (map (λ (w : FileWords). w.name) files)) ≡ contents_length world files
held-length world [] = refl
held-length world (w ∷ ws) =
    sum_by-cons length (unwrap_or (world w.name) []) (map (λ (name : List ℕ). unwrap_or (world name) []) (map (λ (v : FileWords). v.name) ws))
    ∙ ap (λ n. length (unwrap_or (world w.name) []) + n) (held-length world ws)
    ∙ sym (sum_by-cons (λ (v : FileWords). length (unwrap_or (world v.name) [])) w ws)

-- A file that a merge attaches has at most its own bytes as data; for a WebM output it has none.
whole-most : (words : AttachedWords) (webm : Bool) (len : ℕ) → data_sum (whole_file words webm len) ≤ len
whole-most words true len = omega arith
whole-most words false len = omega arith

attached-most : (world : List ℕ → Option (List ℕ)) (webm : Bool) (attached : List AttachedWords)
    → attached_length (reads_of (attached_sources webm attached (map (λ (name : List ℕ). unwrap_or (world name) []) (attached_names attached)))) ≤ attached_octets world attached
attached-most world webm [] = omega arith
attached-most world webm (w ∷ ws) =
    let size : AttachedWords → ℕ = λ (v : AttachedWords). length (unwrap_or (world v.file) []) in
    let one = whole-most w webm (size w) in
    let rest = attached-most world webm ws in
    rw (sum_by-cons input_sum (attached_read w webm (size w)) (reads_of (attached_sources webm ws (map (λ (name : List ℕ). unwrap_or (world name) []) (attached_names ws)))))
    (rw (sum_by-cons size w ws) (omega arith))

both-length : (own attached : List Source) → attached_length (reads_of (own ++ attached)) ≡ attached_length (reads_of own) + attached_length (reads_of attached)
both-length own attached =
    ap attached_length (map-append (λ (s : Source). s.1) own attached) ∙ sum_by-append input_sum (reads_of own) (reads_of attached)

-- The data of all attached files are within the contents of the inputs and of the files that the merge attaches.
data-within : (world : List ℕ → Option (List ℕ)) (words : MergeWords) (sources : List Source) → sources_of world words ≡ Ok sources → attached_length (reads_of sources) ≤ opened_length world words
data-within world words sources is =
    let were = were-read world words sources is in
    let found : List InputRead = were.found in
    let headed : List InputRead = chaptered with_chapters words.webm were.given.chapters found in
    let timed : List InputRead = timed_from were.given.times 0 headed in
    let contents = contents_held world words in
    let inside = inputs-inside words.webm 0 0 words.files contents found were.read in
    let placed = placed-same 0 (zip contents timed) in
    let paired = paired-most contents timed in
    let same = timed-same were.given.times 0 headed ∙ chaptered-same words.webm were.given.chapters found in
    let total = held-length world words.files in
    let attached : List Source = attached_sources words.webm words.attached (attached_held world words) in
    let most = attached-most world words.webm words.attached in
    subst (λ (ss : List Source). attached_length (reads_of ss) ≤ opened_length world words) were.placed
    (rw (both-length (in_place (zip contents timed)) attached) (omega arith))

-- A refused merge has no data to read.
count-within : (world : List ℕ → Option (List ℕ)) (words : MergeWords) → data_count (sources_of world words) ≤ opened_length world words
count-within world words = of (sources_of world words) refl
  where
    of : (found : Result (List Source) Refusal) → sources_of world words ≡ found → data_count found ≤ opened_length world words
    of (Ok sources) is = data-within world words sources is
    of (Err why) is = omega arith

-- A merge looks into at most 65 journals.
looked-few : (words : MergeWords) → IsSoundMerge words → looked_into words ≤ 65
looked-few words sound = of (is_none words.split)
  where
    of : (whole : Bool) → (if whole then length words.files + 1 else length words.files) ≤ 65
    of true = omega (arith, sound.files.most)
    of false = omega (arith, sound.files.most)

looked-most : (words : MergeWords) → IsSoundMerge words → most_looked words ≤ 1048576
looked-most words sound = let few = looked-few words sound in omega arith

-- ---- files that are walked to their ends

before-most : (b : Bool) (n : ℕ) → (if b then n else 0) ≤ n
before-most true n = omega arith
before-most false n = omega arith

-- At most all files are walked over.
walked-within : (files : List FileWords) (before : ℕ) (sizes : List ℕ) → sum_by walked_before (zip files (before ∷ sizes)) ≤ before + sum sizes
walked-within [] before sizes = omega arith
walked-within (w ∷ ws) before [] =
    rw (sum_by-cons walked_before (w, before) (zip ws [])) (let none = nothing ws in let one = before-most w.appended before in omega arith)
  where
    nothing : (files : List FileWords) → sum_by walked_before (zip files []) ≡ 0
    nothing [] = refl
    nothing (f ∷ fs) = refl
walked-within (w ∷ ws) before (size ∷ sizes) =
    let rest = walked-within ws size sizes in
    rw (sum_by-cons walked_before (w, before) (zip ws (size ∷ sizes))) (rw (sum_by-cons (λ (n : ℕ). n) size sizes) (let one = before-most w.appended before in omega arith))

contents-within : (world : List ℕ → Option (List ℕ)) (files : List FileWords) → contents_walked world files ≤ contents_length world files
contents-within world files =
    let size : FileWords → ℕ = λ (w : FileWords). length (unwrap_or (world w.name) []) in
    omega (arith, walked-within files 0 (map size files), sum-map size files)

-- No file is walked over if none is appended.
walked-none : (files : List FileWords) (sizes : List ℕ) → All (λ (w : FileWords). w.appended ≡ false) files → sum_by walked_before (zip files sizes) ≡ 0
walked-none [] sizes none = refl
walked-none (w ∷ ws) [] none = refl
walked-none (w ∷ ws) (size ∷ sizes) none =
    let here : walked_before (w, size) ≡ 0 = ap (λ (b : Bool). if b then size else 0) (All-head (λ (each : FileWords). each.appended ≡ false) w ws none) in
    let rest = walked-none ws sizes (All-tail (λ (each : FileWords). each.appended ≡ false) w ws none) in
    sum_by-cons walked_before (w, size) (zip ws sizes) ∙ omega (arith, here, rest)

-- ---- the bound

pub reads-bounded : ReadsAreBounded
reads-bounded world words sound =
    of (text_octets world words.chapters words.files) (lane_count (sources_of world words)) (opened_length world words) (contents_walked world words.files) (data_count (sources_of world words)) (most_looked words)
    (omega (arith, contents-within world words.files)) (count-within world words) (looked-most words sound)
  where
    of : (texts tracks octets walked attached looked : ℕ) → walked ≤ octets → attached ≤ octets → looked ≤ 1048576
        → texts + ((25 * octets + 2 * walked + (2 * (tracks * octets) + attached)) + looked) ≤ 16 * (tracks + 3) * octets + 1048576 + texts
    of texts tracks octets walked attached looked part within few = omega (arith, mul_assoc 16 (tracks + 3) octets, add-mul tracks 3 octets)

pub appending-walks : OnlyAppendingWalks
appending-walks world words none =
    of (text_octets world words.chapters words.files) (lane_count (sources_of world words)) (opened_length world words) (contents_walked world words.files) (data_count (sources_of world words)) (most_looked words)
    (walked-none words.files (0 ∷ map (λ (w : FileWords). length (unwrap_or (world w.name) [])) words.files) none)
  where
    of : (texts tracks octets walked attached looked : ℕ) → walked ≡ 0
        → texts + ((25 * octets + 2 * walked + (2 * (tracks * octets) + attached)) + looked) ≡ texts + (25 * octets + (2 * (tracks * octets) + attached) + looked)
    of texts tracks octets walked attached looked none = omega arith
