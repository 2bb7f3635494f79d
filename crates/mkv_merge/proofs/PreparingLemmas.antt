-- Inputs are read in sequence; the results make the sources or the refusal of a merge.
use Rattle.std.proofs.Common.{◌≡◌, ℕ, zero, suc, ◌+◌, ◌*◌, ◌<◌, ◌≤◌, Bool, true, false, if◌then◌else◌, List, [], ◌∷◌, ◌++◌, length, take, drop, get_or, map, Option, Some, None, Result, Ok, Err, refl, sym, ◌∙◌, ap, ap₂, subst, arith, append_assoc}
use Rattle.std.specs.List.{All, AllByRecursion, sum_by, zip}
use Rattle.std.specs.Option.{option_map, unwrap_or}
use Rattle.std.specs.Result.{result_err}
use Rattle.std.proofs.Math.Seq.{take-suc}
use Rattle.std.proofs.lemmas.List.{append-nil, length-map, length-take-le, map-append}
use Rattle.std.proofs.lemmas.List.Elements.{All-from_recursion}
use Rattle.std.proofs.lemmas.List.Sums.{sum_by-cons, sum_by-take-le, sum_by_more}
use Rattle.mkv_io.specs.declared.outside.FileId.{FileId}
use Rattle.mkv_io.specs.Faults.{counted}
use Rattle.mkv_io.specs.LiveFiles.{LiveFiles}
use Rattle.mkv_io.specs.Told.{IfVisible}
use Rattle.input_files.specs.ChapterFile.{CanBeWritten}
use Rattle.input_files.specs.Inputs as files
use Rattle.input_files.specs.Inputs.{first_large}
use Rattle.input_files.specs.declared.chapter_file.ChapterFile.{ChapterFile}
use Rattle.merge_model.specs.FileLinks.{octets_in}
use Rattle.input_files.specs.declared.text_files.TextFiles.{TextFiles}
use Rattle.requests.specs.declared.merge.AttachedWords.{AttachedWords}
use Rattle.requests.specs.declared.merge.FileWords.{FileWords}
use Rattle.requests.specs.declared.merge.MergeWords.{MergeWords}
use Rattle.merge_inputs.specs.Input.{InputRead, IsReadOf, input_of, read_in}
use Rattle.merge_inputs.specs.Select.{unmoved}
use Rattle.merge_inputs.specs.declared.input.Input.{Input}
use Rattle.merge_plan.specs.Appending.{append_refusal}
use Rattle.merge_plan.specs.Attached.{attached_read, attached_sources}
use Rattle.merge_plan.specs.Front.{reads_of}
use Rattle.merge_plan.specs.Places.{in_place}
use Rattle.merge_plan.specs.Plan.{Source, append_offset}
use Rattle.merge_plan.specs.Planned.{Plans, source_in}
use Rattle.merge_plan.specs.Refusal.{plan_refusal}
use Rattle.merge_plan.specs.TakenTracks.{HasPlace}
use Rattle.merge_plan.specs.declared.appending.AppendDiffers.{AppendDiffers}
use Rattle.merge_plan.specs.declared.refusal.PlanEnd.{PlanEnd}
use Rattle.merge_plan.specs.declared.refusal.PlanEnd.TheVariants as plan_end
use Rattle.merge_plan.specs.declared.refusal.PlanRefusal.{PlanRefusal}
use Rattle.merge_plan.proofs.FileLemmas.{reads-in}
use Rattle.merge_plan.specs.Behind.{walked_for, walked_of}
use Rattle.merge_plan.specs.Placed.{StandInPlace, walked_behind, walked_length}
use Rattle.merge_plan.proofs.PlaceLemmas.{walked-within}
use Rattle.mkv_merge.specs.Attached.{ChecksSizes, attached_reads}
use Rattle.mkv_merge.specs.Bound.{files_size, files_walked, walked_before}
use Rattle.mkv_merge.specs.Chapters.{chaptered, chapters_refusal, with_chapters, with_file, with_tree}
use Rattle.mkv_merge.specs.Ends.{unplanned}
use Rattle.mkv_merge.specs.Merge.{attached_refusal, refusals_read, sources_in, sources_placed, sources_unless}
use Rattle.mkv_merge.specs.Prepared.{AreInputsOf, AreTold, AreUnmoved, Prepares, ReadsAs, ReadsEach, reads_in, sources_from}
use Rattle.mkv_merge.specs.Read.{found_in, inputs_from, inputs_of, numbered, reads_with}
use Rattle.mkv_merge.specs.Refused.{first_cause}
use Rattle.mkv_merge.specs.Texts.{timed_from, times_refusal, with_times}
use Rattle.mkv_merge.specs.Timed.{IsSameBut}
use Rattle.mkv_io.specs.Results.{and_then, unless}
use Rattle.mkv_merge.specs.declared.refusal.MergeEnd.{MergeEnd}
use Rattle.mkv_merge.specs.declared.refusal.MergeEnd.TheVariants.{Refused, Stopped}
use Rattle.mkv_merge.specs.declared.refusal.Refusal.{Refusal}
use Rattle.mkv_merge.specs.declared.refusal.Refusal.TheVariants.{AttachedTooLarge, Differs, Plan}
use Rattle.mkv_merge.proofs.ChaptersLemmas.{chaptered-read, stood, unrefused}
use Rattle.mkv_merge.proofs.TextsLemmas.{inputs-timed, shifts-timed}

-- ---- a file and its content

-- The pairs from `k` on begin with the pair number `k`.
zip-at : {A B : Type 0} (xs : List A) (ys : List B) (k : ℕ) (x : A) (y : B) → k < length xs → k < length ys → drop k (zip xs ys) ≡ (get_or xs k x, get_or ys k y) ∷ drop (suc k) (zip xs ys)
zip-at [] ys k x y below there = absurd (omega arith)
zip-at (first ∷ xs) [] k x y below there = absurd (omega arith)
zip-at (first ∷ xs) (one ∷ ys) zero x y below there = refl
zip-at (first ∷ xs) (one ∷ ys) (suc k) x y below there = zip-at xs ys k x y (omega arith) (omega arith)

-- No pair follows the last one.
zip-end : {A B : Type 0} (xs : List A) (ys : List B) (k : ℕ) → length xs ≤ k → drop k (zip xs ys) ≡ []
zip-end [] ys zero most = refl
zip-end [] ys (suc k) most = refl
zip-end (first ∷ xs) ys zero most = absurd (omega arith)
zip-end (first ∷ xs) [] (suc k) most = refl
zip-end (first ∷ xs) (one ∷ ys) (suc k) most = zip-end xs ys k (omega arith)

-- The content of a file in a list that is visible to the proof.
told-at : (content : ℕ → Option (List ℕ)) (list : List FileId) (contents : List (List ℕ)) (k : ℕ) (file : FileId) → files.contents_of content list ≡ map Some contents → k < length list → content (get_or list k file).n ≡ Some (get_or contents k [])
told-at content [] contents k file told below = absurd (omega arith)
told-at content (first ∷ list) [] k file told below = absurd (cc)
told-at content (first ∷ list) (bytes ∷ contents) zero file told below = cc
told-at content (first ∷ list) (bytes ∷ contents) (suc k) file told below = told-at content list contents k file (cc) (omega arith)

-- Contents and files have the same count.
told-count : (content : ℕ → Option (List ℕ)) (list : List FileId) (contents : List (List ℕ)) → files.contents_of content list ≡ map Some contents → length contents ≡ length list
told-count content list contents told =
    sym (length-map contents some) ∙ ap length (sym told) ∙ length-map list (λ (f : FileId). content f.n)
  where
    some : List ℕ → Option (List ℕ)
    some bytes = Some bytes

-- ---- inputs in sequence

-- the results of reading inputs from the number `k` on, after the results `done` of the inputs before them
abbrev pub read_behind : Bool → ℕ → ℕ → List InputRead → List (FileWords × List ℕ) → Result (List InputRead) Refusal
read_behind webm k held done files = and_then (inputs_from webm k held files) (λ rest. Ok (done ++ rest))

-- the same if `found` is the result of the first of them
abbrev found_behind : Bool → ℕ → ℕ → List InputRead → List (FileWords × List ℕ) → Result InputRead Refusal → Result (List InputRead) Refusal
found_behind webm k held done files found =
    and_then (and_then found (λ read. and_then (inputs_from webm (suc k) (counted held read.held) files) (λ reads. Ok (read ∷ reads)))) (λ rest. Ok (done ++ rest))

-- Reading all inputs is the same as appending the results from the number `k` on to `done`.
abbrev pub GoesOn : MergeWords → List (List ℕ) → ℕ → ℕ → List InputRead → Type 0
GoesOn words contents k held done = inputs_of words contents ≡ read_behind words.webm k held done (drop k (zip words.files contents))

-- The result for the input number `k`.
found-at : (f : LiveFiles) (words : MergeWords) (list : List FileId) (contents : List (List ℕ)) (k held : ℕ) (done : List InputRead) (w : FileWords) (file : FileId) (found : Result InputRead Refusal) → length list ≡ length words.files → k < length list → w ≡ get_or words.files k w → AreTold f list contents → IfVisible (f.content (get_or list k file).n) (λ bytes. numbered k (input_of w words.webm held bytes) ≡ found) → GoesOn words contents k held done → inputs_of words contents ≡ found_behind words.webm k held done (drop (suc k) (zip words.files contents)) found
found-at f words list contents k held done w file found each below is told finds goes =
    goes
    ∙ ap (read_behind words.webm k held done) (zip-at words.files contents k w [] (omega arith) (omega (arith, told-count f.content list contents told)))
    ∙ ap (λ (each : FileWords). found_behind words.webm k held done (drop (suc k) (zip words.files contents)) (numbered k (input_of each words.webm held (get_or contents k [])))) (sym is)
    ∙ ap (found_behind words.webm k held done (drop (suc k) (zip words.files contents))) (finds (get_or contents k []) (told-at f.content list contents k file told below))

-- A refusal of this input refuses the merge; or the input isn't read for another reason.
pub refused-at : (f : LiveFiles) (words : MergeWords) (list : List FileId) (contents : List (List ℕ)) (k held : ℕ) (done : List InputRead) (w : FileWords) (file : FileId) (end : MergeEnd) → length list ≡ length words.files → k < length list → w ≡ get_or words.files k w → AreTold f list contents → IfVisible (f.content (get_or list k file).n) (λ bytes. ReadsAs {B = Input} read_in (numbered k (input_of w words.webm held bytes)) (Err end)) → GoesOn words contents k held done → ReadsAs {B = List Input} reads_in (inputs_of words contents) (Err end)
refused-at f words list contents k held done w file (Refused why) each below is told finds goes =
    found-at f words list contents k held done w file (Err why) each below is told finds goes
refused-at f words list contents k held done w file (Stopped stop) each below is told finds goes = tt

-- The input is read.
pub read-at : (f : LiveFiles) (words : MergeWords) (list : List FileId) (contents : List (List ℕ)) (k held : ℕ) (done : List InputRead) (w : FileWords) (file : FileId) (read : InputRead) → length list ≡ length words.files → k < length list → w ≡ get_or words.files k w → AreTold f list contents → IfVisible (f.content (get_or list k file).n) (λ bytes. numbered k (input_of w words.webm held bytes) ≡ Ok read) → GoesOn words contents k held done → GoesOn words contents (k + 1) (counted held read.held) (done ++ read ∷ [])
read-at f words list contents k held done w file read each below is told finds goes =
    found-at f words list contents k held done w file (Ok read) each below is told finds goes
    ∙ joined (inputs_from words.webm (suc k) (counted held read.held) (drop (suc k) (zip words.files contents)))
    ∙ ap (λ (n : ℕ). read_behind words.webm n (counted held read.held) (done ++ read ∷ []) (drop n (zip words.files contents))) (one_more k)
  where
    joined : (r : Result (List InputRead) Refusal) → and_then (and_then r (λ reads. Ok (read ∷ reads))) (λ rest. Ok (done ++ rest)) ≡ and_then r (λ rest. Ok ((done ++ read ∷ []) ++ rest))
    joined (Ok reads) = ap Ok (sym (append_assoc done (read ∷ []) reads))
    joined (Err why) = refl

    one_more : (n : ℕ) → suc n ≡ n + 1
    one_more n = omega arith

-- All inputs are read.
pub read-end : (words : MergeWords) (contents : List (List ℕ)) (k held : ℕ) (done : List InputRead) → length words.files ≤ k → GoesOn words contents k held done → inputs_of words contents ≡ Ok done
read-end words contents k held done most goes =
    goes ∙ ap (read_behind words.webm k held done) (zip-end words.files contents k most) ∙ ap Ok (append-nil done)

-- One more file of a list is taken.
pub taken-more : (list : List FileId) (k : ℕ) (file : FileId) → k < length list → take (k + 1) list ≡ take k list ++ get_or list k file ∷ []
taken-more list k file below = ap (λ (n : ℕ). take n list) (one_more k) ∙ take-suc list k file below
  where
    one_more : (n : ℕ) → n + 1 ≡ suc n
    one_more n = omega arith

-- The inputs read up to now belong to the first files.
pub files-more : (inputs : List Input) (input : Input) (list : List FileId) (k : ℕ) (file : FileId) → k < length list → input.file ≡ get_or list k file → map (λ (i : Input). i.file) inputs ≡ take k list → map (λ (i : Input). i.file) (inputs ++ input ∷ []) ≡ take (k + 1) list
files-more inputs input list k file below is of =
    map-append (λ (i : Input). i.file) inputs (input ∷ [])
    ∙ ap (λ (before : List FileId). before ++ input.file ∷ []) of
    ∙ ap (λ (last : FileId). take k list ++ last ∷ []) is
    ∙ sym (taken-more list k file below)

-- The inputs read up to now have the append offsets of the first files.
pub shifts-more : (inputs : List Input) (input : Input) (files : List FileWords) (k : ℕ) (w : FileWords) → k < length files → w ≡ get_or files k w → input.shift ≡ unmoved w → AreUnmoved (take k files) inputs → AreUnmoved (take (k + 1) files) (inputs ++ input ∷ [])
shifts-more inputs input files k w below is shift of =
    map-append (λ (i : Input). i.shift) inputs (input ∷ [])
    ∙ ap₂ (λ (before : List (Option ℕ)) (last : Option ℕ). before ++ last ∷ []) of (shift ∙ ap unmoved is)
    ∙ sym (map-append unmoved (take k files) (get_or files k w ∷ []))
    ∙ sym (ap (λ (n : ℕ). map unmoved (take n files)) (one_more k) ∙ ap (map unmoved) (take-suc files k w below))
  where
    one_more : (n : ℕ) → n + 1 ≡ suc n
    one_more n = omega arith

-- No append offset is greater than a link's may be.
pub read-place : (file : FileId) (w : FileWords) (i : Input) → IsReadOf file w i → HasPlace i
read-place file w i is = let none : append_offset (read_in i) ≡ 0 = ap (λ (o : Option ℕ). unwrap_or o 0) is.unmoved ∙ of w.appended in omega arith
  where
    of : (b : Bool) → ◌≡◌ {A = ℕ} (unwrap_or (if b then Some 0 else None) 0) 0
    of true = refl
    of false = refl

-- ---- bytes read

-- The length of one more file pays for its reads.
pub pays-more : (f : LiveFiles) (list : List FileId) (k : ℕ) (file : FileId) (start mid now size : ℕ) → k < length list → size ≡ f.size (get_or list k file).n → mid ≤ start + 25 * files_size f (take k list) → now ≤ mid + 25 * size → now ≤ start + 25 * files_size f (take (k + 1) list)
pays-more f list k file start mid now size below is before more =
    omega (arith, sum_by_more (λ (each : FileId). f.size each.n) list k file below)

-- The first files together are at most as long as all.
pub pays-all : (f : LiveFiles) (list : List FileId) (k start now : ℕ) → now ≤ start + 25 * files_size f (take k list) → now ≤ start + 25 * files_size f list
pays-all f list k start now paid = omega (arith, sum_by-take-le (λ (each : FileId). f.size each.n) list k)

-- ---- inputs whose files are visible to the proof

-- The contents of the files of inputs.
contents-are : (f : LiveFiles) (inputs : List Input) → files.contents_of f.content (map (λ (i : Input). i.file) inputs) ≡ map (λ (i : Input). f.content i.file.n) inputs
contents-are f [] = refl
contents-are f (i ∷ is) = ap (λ (rest : List (Option (List ℕ))). f.content i.file.n ∷ rest) (contents-are f is)

pub sources-told : (f : LiveFiles) (inputs : List Input) (contents : List (List ℕ)) → map (λ (i : Input). f.content i.file.n) inputs ≡ map Some contents → map (source_in f) inputs ≡ zip contents (reads_in inputs)
sources-told f [] [] told = refl
sources-told f [] (bytes ∷ contents) told = absurd (cc)
sources-told f (i ∷ is) [] told = absurd (cc)
sources-told f (i ∷ is) (bytes ∷ contents) told =
    let here : f.content i.file.n ≡ Some bytes = cc in
    let behind : map (λ (i : Input). f.content i.file.n) is ≡ map Some contents = cc in
    ap (λ (o : Option (List ℕ)). (unwrap_or o [], read_in i) ∷ map (source_in f) is) here
    ∙ ap (λ (rest : List Source). (bytes, read_in i) ∷ rest) (sources-told f is contents behind)

pub each-told : (f : LiveFiles) (inputs : List Input) (contents : List (List ℕ)) → map (λ (i : Input). f.content i.file.n) inputs ≡ map Some contents → All (λ (i : Input). f.content i.file.n ≡ Some (octets_in f i.file.n)) inputs
each-told f inputs contents told = All-from_recursion (λ (i : Input). f.content i.file.n ≡ Some (octets_in f i.file.n)) inputs (each inputs contents told)
  where
    each : (inputs : List Input) (contents : List (List ℕ)) → map (λ (i : Input). f.content i.file.n) inputs ≡ map Some contents → AllByRecursion (λ (i : Input). f.content i.file.n ≡ Some (octets_in f i.file.n)) inputs
    each [] contents told = tt
    each (i ∷ is) [] told = absurd (cc)
    each (i ∷ is) (bytes ∷ contents) told =
        let here : f.content i.file.n ≡ Some bytes = cc in
        let behind : map (λ (i : Input). f.content i.file.n) is ≡ map Some contents = cc in
        (here ∙ sym (ap (λ (o : Option (List ℕ)). Some (unwrap_or o [])) here), each is contents behind)

pub told-contents : (f : LiveFiles) (ids : List FileId) (contents : List (List ℕ)) (inputs : List Input) → map (λ (i : Input). i.file) inputs ≡ ids → AreTold f ids contents → map (λ (i : Input). f.content i.file.n) inputs ≡ map Some contents
told-contents f ids contents inputs of told = sym (contents-are f inputs) ∙ ap (files.contents_of f.content) of ∙ told

-- The inputs together are as long as their files.
pub inputs-size : (f : LiveFiles) (inputs : List Input) → sum_by (λ (i : Input). f.size i.file.n) inputs ≡ files_size f (map (λ (i : Input). i.file) inputs)
inputs-size f [] = refl
inputs-size f (i ∷ is) =
    sum_by-cons (λ (each : Input). f.size each.file.n) i is ∙ ap (λ (n : ℕ). f.size i.file.n + n) (inputs-size f is)
    ∙ sym (sum_by-cons (λ (file : FileId). f.size file.n) i.file (map (λ (each : Input). each.file) is))

-- ---- sources or refusal

-- The first of the refusals doesn't hold, or it does.
pub past : (why : Option Refusal) (behind : List (Option Refusal)) → why ≡ None → first_cause (why ∷ behind) ≡ first_cause behind
past why behind is = ap (λ (o : Option Refusal). first_cause (o ∷ behind)) is

pub stands : (why : Option Refusal) (behind : List (Option Refusal)) (cause : Refusal) → why ≡ Some cause → first_cause (why ∷ behind) ≡ Some cause
stands why behind cause is = ap (λ (o : Option Refusal). first_cause (o ∷ behind)) is

-- The last refusal.
last-cause : (why : Option Refusal) → first_cause (why ∷ []) ≡ why
last-cause None = refl
last-cause (Some cause) = refl

-- ---- attached files

-- Pairs of two lists in sequence.
zip-append : {A B : Type 0} (xs : List A) (ys : List B) (us : List A) (vs : List B) → length xs ≡ length ys → zip (xs ++ us) (ys ++ vs) ≡ zip xs ys ++ zip us vs
zip-append [] [] us vs many = refl
zip-append [] (y ∷ ys) us vs many = absurd (omega arith)
zip-append (x ∷ xs) [] us vs many = absurd (omega arith)
zip-append (x ∷ xs) (y ∷ ys) us vs many = ap (λ rest. (x, y) ∷ rest) (zip-append xs ys us vs (omega arith))

-- The sources of attached files are their contents, and what is read of them.
zip-attached : (webm : Bool) (words : List AttachedWords) (data_of : List (List ℕ)) → zip data_of (attached_reads webm words (map length data_of)) ≡ attached_sources webm words data_of
zip-attached webm [] [] = refl
zip-attached webm [] (bytes ∷ rest) = refl
zip-attached webm (w ∷ words) [] = refl
zip-attached webm (w ∷ words) (bytes ∷ rest) = ap (λ (sources : List Source). (bytes, attached_read w webm (length bytes)) ∷ sources) (zip-attached webm words rest)

-- One more file is attached.
zip-push : {A B : Type 0} (xs : List A) (ys : List B) (x : A) (y : B) → length ys < length xs → x ≡ get_or xs (length ys) x → zip xs (ys ++ y ∷ []) ≡ zip xs ys ++ (x, y) ∷ []
zip-push [] ys x y below is = absurd (omega arith)
zip-push (first ∷ []) [] x y below is = ap (λ each. (each, y) ∷ []) (sym is)
zip-push (first ∷ next ∷ xs) [] x y below is = ap (λ each. (each, y) ∷ []) (sym is)
zip-push (first ∷ xs) (one ∷ ys) x y below is = ap (λ rest. (first, one) ∷ rest) (zip-push xs ys x y (omega arith) is)

reads-more : (webm : Bool) (words : List AttachedWords) (sizes : List ℕ) (w : AttachedWords) (size : ℕ) → length sizes < length words → w ≡ get_or words (length sizes) w
    → attached_reads webm words (sizes ++ size ∷ []) ≡ attached_reads webm words sizes ++ attached_read w webm size ∷ []
reads-more webm words sizes w size below is =
    let read : AttachedWords × ℕ → InputRead = λ pair. attached_read pair.0 webm pair.1 in
    ap (map read) (zip-push words sizes w size below is) ∙ map-append read (zip words sizes) ((w, size) ∷ [])

-- No file is attached yet.
pub attached-none : (webm : Bool) (words : List AttachedWords) → attached_reads webm words [] ≡ []
attached-none webm [] = refl
attached-none webm (w ∷ words) = refl

-- One more of the files `list` among `f` is attached.
pub attached-more : (f : LiveFiles) (webm : Bool) (words : List AttachedWords) (list : List FileId) (k : ℕ) (w : AttachedWords) (file : FileId) → length list ≡ length words → k < length list → w ≡ get_or words k w
    → attached_reads webm words (files.sizes_of f (take (k + 1) list)) ≡ attached_reads webm words (files.sizes_of f (take k list)) ++ attached_read w webm (f.size (get_or list k file).n) ∷ []
attached-more f webm words list k w file each below is =
    let size : FileId → ℕ = λ one. f.size one.n in
    let count : length (map size (take k list)) ≡ k = length-map (take k list) size ∙ length-take-le k list (omega arith) in
    ap (λ (l : List FileId). attached_reads webm words (map size l)) (taken-more list k file below)
    ∙ ap (attached_reads webm words) (map-append size (take k list) (get_or list k file ∷ []))
    ∙ reads-more webm words (map size (take k list)) w (size (get_or list k file)) (omega (arith, count)) (is ∙ ap (λ (n : ℕ). get_or words n w) (sym count))

-- Files that are visible to the proof have the lengths of their contents.
pub attached-lengths : (f : LiveFiles) → ((file : ℕ) → IfVisible (f.content file) (λ bytes. length bytes ≡ f.size file)) → (list : List FileId) (contents : List (List ℕ)) → AreTold f list contents → files.sizes_of f list ≡ map length contents
attached-lengths f sized [] [] told = refl
attached-lengths f sized [] (bytes ∷ rest) told = absurd (cc)
attached-lengths f sized (id ∷ list) [] told = absurd (cc)
attached-lengths f sized (id ∷ list) (bytes ∷ rest) told =
    let here : f.content id.n ≡ Some bytes = cc in
    let behind : AreTold f list rest = cc in
    ap₂ (λ (n : ℕ) (ns : List ℕ). n ∷ ns) (sym (sized id.n bytes here)) (attached-lengths f sized list rest behind)

-- ---- the sources of a merge, or its refusal

module _ (words : MergeWords) (texts : TextFiles) (contents attached : List (List ℕ)) where
  -- the refusals after the appended inputs; below, after the attached files, the timestamp files, the chapter file and the inputs
  abbrev behind_append : List (Option Refusal)
  behind_append = option_map Plan (plan_refusal words (reads_of (sources_in words texts contents attached))) ∷ []

  abbrev behind_attached : List (Option Refusal)
  behind_attached = option_map Differs (append_refusal (reads_with words texts contents)) ∷ behind_append

  abbrev behind_times : List (Option Refusal)
  behind_times = attached_refusal attached ∷ behind_attached

  abbrev behind_chapters : List (Option Refusal)
  behind_chapters = times_refusal texts.times ∷ behind_times

  abbrev behind_inputs : List (Option Refusal)
  behind_inputs = chapters_refusal texts.chapters ∷ behind_chapters

  refused-for : (cause : Refusal) → first_cause (refusals_read words texts contents attached) ≡ Some cause → sources_unless [] words texts contents attached ≡ Err cause
  refused-for cause is = ap (λ (o : Option Refusal). unless o (sources_in words texts contents attached)) is

  all-read : (read : List Input) → inputs_of words contents ≡ Ok (reads_in read) → result_err (inputs_of words contents) ≡ None
  all-read read is = ap (λ (r : Result (List InputRead) Refusal). result_err r) is

  -- An input wasn't read.
  pub input-ended : (end : MergeEnd) → ReadsEach words contents (Err end) → Prepares words texts contents attached (Err end)
  input-ended (Refused why) is = refused-for why (stands (result_err (inputs_of words contents)) behind_inputs why (ap (λ (r : Result (List InputRead) Refusal). result_err r) is))
  input-ended (Stopped stop) is = tt

  -- The chapter file was refused.
  pub chapters-ended : (read : List Input) (end : MergeEnd) → inputs_of words contents ≡ Ok (reads_in read)
      → ReadsAs {B = List Input} (λ (list : List Input). list) (with_file with_tree words.webm texts.chapters read) (Err end) → Prepares words texts contents attached (Err end)
  chapters-ended read (Refused why) is made =
      refused-for why (past (result_err (inputs_of words contents)) behind_inputs (all-read read is)
      ∙ stands (chapters_refusal texts.chapters) behind_chapters why (stood (chapters_refusal texts.chapters) (chaptered with_tree words.webm texts.chapters read) why made))
  chapters-ended read (Stopped stop) is made = tt

  -- The inputs have the Chapters of the chapter file.
  module _ (read headed : List Input) (is : inputs_of words contents ≡ Ok (reads_in read)) (made : with_file with_tree words.webm texts.chapters read ≡ Ok headed) where
    headed-is : (chapters_refusal texts.chapters ≡ None) × (chaptered with_tree words.webm texts.chapters read ≡ headed)
    headed-is = unrefused (chapters_refusal texts.chapters) (chaptered with_tree words.webm texts.chapters read) headed made

    past-chapters : first_cause (refusals_read words texts contents attached) ≡ first_cause behind_chapters
    past-chapters = past (result_err (inputs_of words contents)) behind_inputs (all-read read is) ∙ past (chapters_refusal texts.chapters) behind_chapters headed-is.0

    -- A timestamp file was refused.
    pub times-ended : (end : MergeEnd) → ReadsAs {B = List Input} reads_in (with_times texts.times (reads_in headed)) (Err end) → Prepares words texts contents attached (Err end)
    times-ended (Refused why) given =
        refused-for why (past-chapters ∙ stands (times_refusal texts.times) behind_times why (stood (times_refusal texts.times) (timed_from texts.times 0 (reads_in headed)) why given))
    times-ended (Stopped stop) given = tt

    -- The inputs also have the timestamps of the timestamp files.
    module _ (timed : List Input) (given : with_times texts.times (reads_in headed) ≡ Ok (reads_in timed)) where
      timed-is : (times_refusal texts.times ≡ None) × (timed_from texts.times 0 (reads_in headed) ≡ reads_in timed)
      timed-is = unrefused (times_refusal texts.times) (timed_from texts.times 0 (reads_in headed)) (reads_in timed) given

      reads-are : reads_with words texts contents ≡ reads_in timed
      reads-are =
          ap (λ (r : Result (List InputRead) Refusal). timed_from texts.times 0 (chaptered with_chapters words.webm texts.chapters (found_in r))) is
          ∙ ap (timed_from texts.times 0) (sym (chaptered-read words.webm texts.chapters read) ∙ ap reads_in headed-is.1)
          ∙ timed-is.1

      past-times : first_cause (refusals_read words texts contents attached) ≡ first_cause behind_times
      past-times = past-chapters ∙ past (times_refusal texts.times) behind_times timed-is.0

      -- An attached file is too large.
      pub large-refused : (end : MergeEnd) → ChecksSizes {T = Unit {0}} (map length attached) (Err end) → Prepares words texts contents attached (Err end)
      large-refused (Refused why) large = refused-for why (past-times ∙ stands (attached_refusal attached) behind_attached why large)
      large-refused (Stopped stop) never = absurd never

      module _ (small : first_large (map length attached) ≡ None) where
        past-attached : first_cause (refusals_read words texts contents attached) ≡ first_cause behind_attached
        past-attached = past-times ∙ past (attached_refusal attached) behind_attached (ap (option_map AttachedTooLarge) small)

        -- An appended input can't continue the output tracks.
        pub differs-refused : (d : AppendDiffers) → append_refusal (reads_in timed) ≡ Some d → sources_unless [] words texts contents attached ≡ Err (Differs d)
        differs-refused d differs =
            refused-for (Differs d) (past-attached
            ∙ stands (option_map Differs (append_refusal (reads_with words texts contents))) behind_append (Differs d) (ap (option_map Differs) (ap append_refusal reads-are ∙ differs)))

        -- The inputs have their append offsets, and the attached files follow them.
        module _ (f now : LiveFiles) (ids other : List FileId) (placed inputs : List Input) (standing : now ≡ f) (written : CanBeWritten texts.chapters) (are : AreInputsOf now ids read) (but : IsSameBut headed timed)
            (same : map (λ (i : Input). i.file) placed ≡ map (λ (i : Input). i.file) timed) (told : AreTold f ids contents) (none : append_refusal (reads_in timed) ≡ None) (stand : StandInPlace now timed placed)
            (added : reads_in inputs ≡ reads_in placed ++ attached_reads words.webm words.attached (map length attached)) (of_both : map (λ (i : Input). i.file) inputs ≡ map (λ (i : Input). i.file) placed ++ other) (other_told : AreTold f other attached) where
          of : map (λ (i : Input). i.file) timed ≡ ids
          of = (inputs-timed now ids words.webm texts.chapters read headed timed written are made but).of

          placed-told : map (source_in f) placed ≡ sources_from contents placed
          placed-told = sources-told f placed contents (told-contents f ids contents placed (same ∙ of) told)

          placed-are : sources_placed words texts contents ≡ sources_from contents placed
          placed-are =
              let before = told-contents f ids contents timed of told in
              ap (λ (reads : List InputRead). in_place (zip contents reads)) reads-are
              ∙ ap in_place (sym (sources-told f timed contents before))
              ∙ sym (subst (λ (each : LiveFiles). StandInPlace each timed placed) standing stand (each-told f timed contents before)) ∙ placed-told

          both-told : map (source_in f) inputs ≡ sources_from (contents ++ attached) inputs
          both-told =
              sources-told f inputs (contents ++ attached)
              (told-contents f (ids ++ other) (contents ++ attached) inputs (of_both ∙ ap (λ (l : List FileId). l ++ other) (same ∙ of))
              (map-append (λ (file : FileId). f.content file.n) ids other ∙ ap₂ (λ (us vs : List (Option (List ℕ))). us ++ vs) told other_told ∙ sym (map-append some contents attached)))
            where
              some : List ℕ → Option (List ℕ)
              some bytes = Some bytes

          sources-are : sources_in words texts contents attached ≡ sources_from (contents ++ attached) inputs
          sources-are =
              let count : length contents ≡ length (reads_in placed) =
              told-count f.content ids contents told ∙ ap length (sym (same ∙ of)) ∙ length-map placed (λ (i : Input). i.file) ∙ sym (length-map placed read_in) in
              ap (λ (sources : List Source). sources ++ attached_sources words.webm words.attached attached) placed-are
              ∙ ap (λ (rest : List Source). sources_from contents placed ++ rest) (sym (zip-attached words.webm words.attached attached))
              ∙ sym (zip-append contents (reads_in placed) attached (attached_reads words.webm words.attached (map length attached)) count)
              ∙ ap (zip (contents ++ attached)) (sym added)

          pub plan-found : (o : Option PlanRefusal) → plan_refusal words (reads_in inputs) ≡ o → sources_unless [] words texts contents attached ≡ unless (option_map Plan o) (sources_from (contents ++ attached) inputs)
          plan-found o planned =
              let reads : reads_of (sources_from (contents ++ attached) inputs) ≡ reads_in inputs = ap reads_of (sym both-told) ∙ reads-in f inputs in
              let why : plan_refusal words (reads_of (sources_in words texts contents attached)) ≡ o = ap (λ (each : List Source). plan_refusal words (reads_of each)) sources-are ∙ ap (plan_refusal words) reads ∙ planned in
              ap (λ (cause : Option Refusal). unless cause (sources_in words texts contents attached))
              (past-attached ∙ past (option_map Differs (append_refusal (reads_with words texts contents))) behind_append (ap (option_map Differs) (ap append_refusal reads-are ∙ none))
              ∙ last-cause (option_map Plan (plan_refusal words (reads_of (sources_in words texts contents attached)))) ∙ ap (option_map Plan) why)
              ∙ ap (unless (option_map Plan o)) sources-are

          -- The inputs weren't planned.
          pub plan-ended : (end : PlanEnd) → Plans words inputs (Err end) → Prepares words texts contents attached (Err (unplanned end))
          plan-ended (plan_end.Refused why) is = plan-found (Some why) is
          plan-ended plan_end.Memory is = tt

-- ---- bytes read before the blocks

-- Only inputs that another one is appended to are walked over.
walked-most : (f : LiveFiles) (files : List FileWords) (inputs : List Input) (walked before : ℕ) → AreUnmoved files inputs → walked ≤ before
    → walked_behind f walked inputs ≤ sum_by walked_before (zip files (before ∷ map (λ (file : FileId). f.size file.n) (map (λ (i : Input). i.file) inputs)))
walked-most f files [] walked before are within = omega arith
walked-most f [] (i ∷ is) walked before are within = absurd (cc)
walked-most f (w ∷ ws) (i ∷ is) walked before are within =
    let here : i.shift ≡ unmoved w = cc in
    let behind : AreUnmoved ws is = cc in
    let sizes : List ℕ = map (λ (file : FileId). f.size file.n) (map (λ (each : Input). each.file) is) in
    let rest = walked-most f ws is (walked_of f i) (f.size i.file.n) behind (walked-within f i) in
    rw (sum_by-cons walked_before (w, before) (zip ws (f.size i.file.n ∷ sizes))) (omega (arith, subst (λ (shift : Option ℕ). walked_for shift walked ≤ walked_before (w, before)) (sym here) (at w.appended)))
  where
    at : (b : Bool) → walked_for (if b then Some 0 else None) walked ≤ (if b then before else 0)
    at true = within
    at false = omega arith

-- Inputs are read, and those that another one is appended to are walked to their ends.
pub pays-both : (f now : LiveFiles) (files : List FileWords) (ids : List FileId) (webm : Bool) (c : ChapterFile) (read headed timed : List Input) (start mid end : ℕ) → now ≡ f → CanBeWritten c → AreInputsOf now ids read → AreUnmoved files read → with_file with_tree webm c read ≡ Ok headed → IsSameBut headed timed
    → mid ≤ start + 25 * files_size f ids → end ≤ mid + 2 * walked_length now timed → end ≤ start + (25 * files_size f ids + 2 * files_walked f files ids)
pays-both f now files ids webm c read headed timed start mid end standing written are shifts made same paid walked =
    let of : map (λ (i : Input). i.file) timed ≡ ids = (inputs-timed now ids webm c read headed timed written are made same).of in
    let most : walked_length f timed ≤ files_walked f files ids =
    subst (λ (list : List FileId). walked_length f timed ≤ files_walked f files list) of (walked-most f files timed 0 0 (shifts-timed files webm c read headed timed shifts made same) (omega arith)) in
    omega (arith, most, ap (λ (each : LiveFiles). walked_length each timed) standing)
