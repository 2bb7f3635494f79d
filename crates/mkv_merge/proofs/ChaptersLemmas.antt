-- Inputs with the Chapters of a chapter file.
use Rattle.std.proofs.Common.{◌≡◌, ℕ, Bool, true, false, not, List, [], ◌∷◌, ◌++◌, map, Option, Some, None, IfSome, Ok, Err, refl, ◌∙◌, ap}
use Rattle.std.specs.List.{All}
use Rattle.std.proofs.lemmas.List.{map-append}
use Rattle.std.proofs.lemmas.List.Elements.{All-nil, All-cons, All-head, All-tail}
use Rattle.mkv_schema.specs.declared.ids.TheConstants.{CHAPTERS}
use Rattle.mkv_io.specs.declared.outside.FileId.{FileId}
use Rattle.mkv_io.specs.LiveFiles.{LiveFiles}
use Rattle.tree_format.specs.Node.{Node}
use Rattle.ebml_tree.specs.Building.{IsRead}
use Rattle.input_files.specs.ChapterFile.{CanBeWritten}
use Rattle.input_files.specs.declared.chapter_file.ChapterFile.{ChapterFile}
use Rattle.input_files.specs.declared.chapter_file.ChapterFile.TheVariants as file
use Rattle.merge_inputs.specs.Input.{InputRead, IsInput, read_in}
use Rattle.merge_inputs.specs.Select.{kept_one}
use Rattle.merge_inputs.specs.declared.input.Input.{Input}
use Rattle.merge_plan.specs.TakenTracks.{HasPlace}
use Rattle.mkv_merge.specs.Chapters.{chaptered, first_with, with_chapters, with_tree}
use Rattle.mkv_merge.specs.Prepared.{AreInputsOf, reads_in}
use Rattle.mkv_io.specs.Results.{unless}
use Rattle.mkv_merge.specs.declared.refusal.Refusal.{Refusal}

-- ---- the first input has the Chapters

-- the Chapters for the next input, after the inputs of the list
abbrev pub left_for : {A : Type 0} → Option Node → List A → Option Node
left_for chapters [] = chapters
left_for chapters (i ∷ is) = None

-- One more input gets its Chapters.
pub first-more : (chapters : Option Node) (done : List Input) (i : Input) → first_with with_tree chapters (done ++ i ∷ []) ≡ first_with with_tree chapters done ++ with_tree (left_for chapters done) i ∷ []
first-more chapters [] i = refl
first-more chapters (d ∷ done) i = ap (λ (rest : List Input). with_tree chapters d ∷ rest) (map-append (with_tree None) done (i ∷ []))

pub none-left : (chapters : Option Node) (done : List Input) (i : Input) → left_for chapters (done ++ i ∷ []) ≡ None
none-left chapters [] i = refl
none-left chapters (d ∷ done) i = refl

-- ---- results of reading

others-read : (inputs : List Input) → reads_in (map (with_tree None) inputs) ≡ map (with_chapters None) (reads_in inputs)
others-read [] = refl
others-read (i ∷ is) = ap (λ (rest : List InputRead). with_chapters None (read_in i) ∷ rest) (others-read is)

first-read : (chapters : Option Node) (inputs : List Input) → reads_in (first_with with_tree chapters inputs) ≡ first_with with_chapters chapters (reads_in inputs)
first-read chapters [] = refl
first-read chapters (i ∷ is) = ap (λ (rest : List InputRead). with_chapters chapters (read_in i) ∷ rest) (others-read is)

pub chaptered-read : (webm : Bool) (f : ChapterFile) (inputs : List Input) → reads_in (chaptered with_tree webm f inputs) ≡ chaptered with_chapters webm f (reads_in inputs)
chaptered-read webm file.Absent inputs = refl
chaptered-read webm file.Missing inputs = refl
chaptered-read webm (file.Refused why) inputs = refl
chaptered-read webm (file.Read chapters) inputs = first-read (kept_one (not webm) (Some chapters)) inputs

-- ---- inputs of the same files

input-with : (f : LiveFiles) (chapters : Option Node) (i : Input) → IfSome chapters (IsRead CHAPTERS) → IsInput f i → IsInput f (with_tree chapters i)
input-with f chapters i read is = record {
  live = is.live;
  len = is.len;
  blocks = is.blocks;
  taken = is.taken;
  attachments = is.attachments;
  chapters = read;
  tags = is.tags;
}

others-inputs : (f : LiveFiles) (inputs : List Input) → All (IsInput f) inputs → All (IsInput f) (map (with_tree None) inputs)
others-inputs f [] all = All-nil (IsInput f)
others-inputs f (i ∷ is) all =
    All-cons (IsInput f) (with_tree None i) (map (with_tree None) is) (input-with f None i tt (All-head (IsInput f) i is all)) (others-inputs f is (All-tail (IsInput f) i is all))

first-inputs : (f : LiveFiles) (chapters : Option Node) (inputs : List Input) → IfSome chapters (IsRead CHAPTERS) → All (IsInput f) inputs → All (IsInput f) (first_with with_tree chapters inputs)
first-inputs f chapters [] read all = All-nil (IsInput f)
first-inputs f chapters (i ∷ is) read all =
    All-cons (IsInput f) (with_tree chapters i) (map (with_tree None) is) (input-with f chapters i read (All-head (IsInput f) i is all)) (others-inputs f is (All-tail (IsInput f) i is all))

others-files : (inputs : List Input) → map (λ (i : Input). i.file) (map (with_tree None) inputs) ≡ map (λ (i : Input). i.file) inputs
others-files [] = refl
others-files (i ∷ is) = ap (λ (rest : List FileId). i.file ∷ rest) (others-files is)

first-files : (chapters : Option Node) (inputs : List Input) → map (λ (i : Input). i.file) (first_with with_tree chapters inputs) ≡ map (λ (i : Input). i.file) inputs
first-files chapters [] = refl
first-files chapters (i ∷ is) = ap (λ (rest : List FileId). i.file ∷ rest) (others-files is)

others-shifts : (inputs : List Input) → map (λ (i : Input). i.shift) (map (with_tree None) inputs) ≡ map (λ (i : Input). i.shift) inputs
others-shifts [] = refl
others-shifts (i ∷ is) = ap (λ (rest : List (Option ℕ)). i.shift ∷ rest) (others-shifts is)

others-places : (inputs : List Input) → All HasPlace inputs → All HasPlace (map (with_tree None) inputs)
others-places [] all = All-nil HasPlace
others-places (i ∷ is) all = All-cons HasPlace (with_tree None i) (map (with_tree None) is) (All-head HasPlace i is all) (others-places is (All-tail HasPlace i is all))

first-places : (chapters : Option Node) (inputs : List Input) → All HasPlace inputs → All HasPlace (first_with with_tree chapters inputs)
first-places chapters [] all = All-nil HasPlace
first-places chapters (i ∷ is) all = All-cons HasPlace (with_tree chapters i) (map (with_tree None) is) (All-head HasPlace i is all) (others-places is (All-tail HasPlace i is all))

kept-read : (webm : Bool) (chapters : Node) → IsRead CHAPTERS chapters → IfSome (kept_one (not webm) (Some chapters)) (IsRead CHAPTERS)
kept-read true chapters read = tt
kept-read false chapters read = read

pub chaptered-inputs : (f : LiveFiles) (list : List FileId) (webm : Bool) (c : ChapterFile) (inputs : List Input) → CanBeWritten c → AreInputsOf f list inputs → AreInputsOf f list (chaptered with_tree webm c inputs)
chaptered-inputs f list webm file.Absent inputs written are = are
chaptered-inputs f list webm file.Missing inputs written are = are
chaptered-inputs f list webm (file.Refused why) inputs written are = are
chaptered-inputs f list webm (file.Read chapters) inputs written are =
    let kept = kept_one (not webm) (Some chapters) in
    record {
      good = first-inputs f kept inputs (kept-read webm chapters written) are.good;
      of = first-files kept inputs ∙ are.of;
      places = first-places kept inputs are.places;
    }

-- Chapters change no append offset.
pub chaptered-shifts : (webm : Bool) (c : ChapterFile) (inputs : List Input) → map (λ (i : Input). i.shift) (chaptered with_tree webm c inputs) ≡ map (λ (i : Input). i.shift) inputs
chaptered-shifts webm file.Absent inputs = refl
chaptered-shifts webm file.Missing inputs = refl
chaptered-shifts webm (file.Refused why) inputs = refl
chaptered-shifts webm (file.Read chapters) [] = refl
chaptered-shifts webm (file.Read chapters) (i ∷ is) = ap (λ (rest : List (Option ℕ)). i.shift ∷ rest) (others-shifts is)

-- ---- results with and without a refusal

pub unrefused : {A : Type 0} (why : Option Refusal) (x y : A) → unless why x ≡ Ok y → (why ≡ None) × (x ≡ y)
unrefused None x y is = (refl, cc)
unrefused (Some why) x y is = absurd (cc)

pub stood : {A : Type 0} (why : Option Refusal) (x : A) (cause : Refusal) → unless why x ≡ Err cause → why ≡ Some cause
stood None x cause is = absurd (cc)
stood (Some other) x cause is = ap (λ (e : Refusal). Some e) (cc)
