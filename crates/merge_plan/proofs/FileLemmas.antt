-- The attached files of an output, and the data of inputs besides their tracks and blocks.
use Rattle.std.proofs.Common.{◌≡◌, ◌<◌, ℕ, zero, suc, ◌+◌, ◌==◌, List, [], ◌∷◌, ◌++◌, length, drop, map, flat_map, get_or, Option, Some, None, if◌then◌else◌, refl, sym, ap, ap₂, subst, ◌∙◌, arith, append-nil, append_assoc}
use Rattle.std.specs.List.{All, sum_by}
use Rattle.std.specs.Option.{option_map}
use Rattle.std.proofs.lemmas.List.{length-map, map-append}
use Rattle.std.proofs.lemmas.List.Sums.{sum_by-append, sum_by-cons}
use Rattle.std.proofs.lemmas.List.Elements.{All-append}
use Rattle.mkv_schema.specs.declared.ids.TheConstants.{CHAPTERS, TAGS, TAG_TRACK_UID, TAG_EDITION_UID, TAG_CHAPTER_UID, TAG_ATTACHMENT_UID}
use Rattle.mkv_io.specs.LiveFiles.{LiveFiles}
use Rattle.tree_format.specs.Node.{Node, master, nodes_of}
use Rattle.record_changes.specs.Identifiers.{renumbered}
use Rattle.record_changes.proofs.GivenLemmas.{length-from}
use Rattle.output_model.specs.Attached.{attached_file, octets_told}
use Rattle.output_model.specs.declared.attachment.Attachment.{Attachment}
use Rattle.meta_records.specs.Walk.{IsAttachedIn}
use Rattle.meta_records.specs.Attached.{AttachedFile, in_file}
use Rattle.record_changes.specs.Atoms.{edition_uids, chapter_uids}
use Rattle.record_changes.specs.ChapterIdentifiers.{with_identifiers}
use Rattle.record_changes.specs.Tags.{written_tags}
use Rattle.output_records.specs.Attachments as merged
use Rattle.output_records.specs.Attachments.{files_of, merged_attachments, with_uid, with_uids}
use Rattle.output_records.specs.Chapters.{chapter_numbers, chapters_in, edition_numbers, merged_chapters}
use Rattle.output_records.specs.Inputs.{children_in, uids_in, with_some}
use Rattle.output_records.specs.Tags.{all_uids, behind, joined_tags, merged_tags, number_of, numbers_of, tags_from, tags_in}
use Rattle.output_records.specs.declared.inputs.InputRecords.{InputRecords}
use Rattle.merge_model.specs.FileLinks.{octets_in}
use Rattle.merge_inputs.specs.Input.{InputRead, read_in}
use Rattle.merge_inputs.specs.declared.input.Input.{Input}
use Rattle.merge_plan.specs.Front.{attached_from, attachments_of, attached_length, files_in, reads_of}
use Rattle.merge_plan.specs.Planned.{StandsInInput, IsToldInput, source_in}
use Rattle.merge_plan.specs.Records.{LaneUids, anywhere, kept_anywhere, kept_in, owner_at, records_from, records_in, track_uids_at, uids_at}
use Rattle.merge_plan.specs.TakenTracks.{HasRecords}

-- the data of inputs, in their files
abbrev pub records_at : LaneUids → ℕ → ℕ → List Input → List InputRecords
records_at lanes before number inputs = records_from lanes before number (map kept_in inputs)

-- the same, whichever file has the data of attached files
abbrev anywhere_at : LaneUids → ℕ → ℕ → List Input → List InputRecords
anywhere_at lanes before number inputs = records_from lanes before number (map kept_anywhere (map read_in inputs))

-- the number of the input that begins an input's output tracks
abbrev own_at : ℕ → ℕ → Input → ℕ
own_at before number i = owner_at before number (read_in i)

-- the data of one input
abbrev record_at : LaneUids → ℕ → Input → InputRecords
record_at lanes owner i = records_in (track_uids_at lanes owner (read_in i)) (uids_at lanes owner) (kept_in i)

abbrev files_in_all : List Input → List Attachment
files_in_all inputs = flat_map (λ (i : Input). i.attachments) inputs

-- ---- FileUIDs

files-at : (lanes : LaneUids) (before number : ℕ) (inputs : List Input) → files_of (records_at lanes before number inputs) ≡ files_in_all inputs
files-at lanes before number [] = refl
files-at lanes before number (i ∷ is) = ap (λ l. i.attachments ++ l) (files-at lanes (own_at before number i) (number + 1) is)

uids-anywhere : (files : List Attachment) → merged.file_uids (map anywhere (map in_file files)) ≡ merged.file_uids files
uids-anywhere [] = refl
uids-anywhere (a ∷ files) = ap (λ l. a.uid ∷ l) (uids-anywhere files)

all-uids-anywhere : (lanes : LaneUids) (before number : ℕ) (inputs : List Input) → merged.file_uids (files_of (anywhere_at lanes before number inputs)) ≡ merged.file_uids (files_of (records_at lanes before number inputs))
all-uids-anywhere lanes before number [] = refl
all-uids-anywhere lanes before number (i ∷ is) =
    let own : ℕ = own_at before number i in
    map-append (λ (a : Attachment). a.uid) (map anywhere (map in_file i.attachments)) (files_of (anywhere_at lanes own (number + 1) is))
    ∙ ap₂ (λ a b. a ++ b) (uids-anywhere i.attachments) (all-uids-anywhere lanes own (number + 1) is)
    ∙ sym (map-append (λ (a : Attachment). a.uid) i.attachments (files_of (records_at lanes own (number + 1) is)))

-- The FileUIDs are the ones of the records.
uids-shown : (files : List Attachment) → map (λ (a : AttachedFile). a.uid) (map in_file files) ≡ merged.file_uids files
uids-shown [] = refl
uids-shown (a ∷ files) = ap (λ l. a.uid ∷ l) (uids-shown files)

all-uids-read : (f : LiveFiles) (inputs : List Input)
    → map (λ (a : AttachedFile). a.uid) (flat_map (λ (i : InputRead). i.attachments) (reads_of (map (source_in f) inputs))) ≡ merged.file_uids (files_in_all inputs)
all-uids-read f [] = refl
all-uids-read f (i ∷ is) =
    map-append (λ (a : AttachedFile). a.uid) (map in_file i.attachments) (flat_map (λ (j : InputRead). j.attachments) (reads_of (map (source_in f) is)))
    ∙ ap₂ (λ a b. a ++ b) (uids-shown i.attachments) (all-uids-read f is)
    ∙ sym (map-append (λ (a : Attachment). a.uid) i.attachments (files_in_all is))

-- ---- data

-- an attached file with its data
abbrev with_octets : LiveFiles → Attachment → AttachedFile × List ℕ
with_octets f a = (in_file a, octets_told (f.content a.file.n) a.at a.len)

with-data : (f : LiveFiles) (uids : List ℕ) (files : List Attachment) → map (attached_file f) (with_uids uids files) ≡ attached_from uids (map (with_octets f) files)
with-data f [] files = refl
with-data f (uid ∷ uids) [] = refl
with-data f (uid ∷ uids) (a ∷ files) = ap (λ l. attached_file f (with_uid uid a) ∷ l) (with-data f uids files)

data-one : (f : LiveFiles) (i : Input) → IsToldInput f i → (files : List Attachment) → All (IsAttachedIn i.file i.len) files
    → map (with_octets f) files ≡ map (λ (a : AttachedFile). (a, octets_told (Some (octets_in f i.file.n)) a.at a.len)) (map in_file files)
data-one f i told [] each = refl
data-one f i told (a ∷ files) each =
    let same = (each 0 a (omega arith)).same in
    let content : f.content a.file.n ≡ Some (octets_in f i.file.n) = ap (λ file. f.content file.n) same ∙ told in
    ap₂ (λ x l. x ∷ l) (ap (λ c. (in_file a, octets_told c a.at a.len)) content) (data-one f i told files (λ k d inside. each (suc k) d (omega arith)))

data-all : (f : LiveFiles) (inputs : List Input) → All (IsToldInput f) inputs → All HasRecords inputs → map (with_octets f) (files_in_all inputs) ≡ flat_map files_in (map (source_in f) inputs)
data-all f [] told has = refl
data-all f (i ∷ is) told has =
    map-append (with_octets f) i.attachments (files_in_all is)
    ∙ ap₂ (λ a b. a ++ b) (data-one f i (told 0 i (omega arith)) i.attachments (has 0 i (omega arith)).attachments) (data-all f is (λ k d inside. told (suc k) d (omega arith)) (λ k d inside. has (suc k) d (omega arith)))

-- The attached files of an output are the attached files of its sources.
pub attached-all : (f : LiveFiles) (lanes : LaneUids) (before number : ℕ) (inputs : List Input) → All (IsToldInput f) inputs → All HasRecords inputs → map (attached_file f) (merged_attachments (records_at lanes before number inputs)) ≡ attachments_of (map (source_in f) inputs)
attached-all f lanes before number inputs told has =
    ap (λ files. map (attached_file f) (with_uids (renumbered (merged.file_uids files)) files)) (files-at lanes before number inputs)
    ∙ with-data f (renumbered (merged.file_uids (files_in_all inputs))) (files_in_all inputs)
    ∙ ap₂ (λ uids files. attached_from (renumbered uids) files) (sym (all-uids-read f inputs)) (data-all f inputs told has)

-- ---- the number of bytes of their data

octets-uids : (uids : List ℕ) (files : List Attachment) → length uids ≡ length files → sum_by (λ (a : Attachment). a.len) (with_uids uids files) ≡ sum_by (λ (a : Attachment). a.len) files
octets-uids [] [] many = refl
octets-uids [] (a ∷ files) many = absurd (omega arith)
octets-uids (uid ∷ uids) [] many = absurd (omega arith)
octets-uids (uid ∷ uids) (a ∷ files) many =
    let rest : sum_by (λ (b : Attachment). b.len) (with_uids uids files) ≡ sum_by (λ (b : Attachment). b.len) files = octets-uids uids files (omega arith) in
    sum_by-cons (λ (b : Attachment). b.len) (with_uid uid a) (with_uids uids files) ∙ ap (λ n. a.len + n) rest ∙ sym (sum_by-cons (λ (b : Attachment). b.len) a files)

octets-shown : (files : List Attachment) → sum_by (λ (a : Attachment). a.len) files ≡ sum_by (λ (a : AttachedFile). a.len) (map in_file files)
octets-shown [] = refl
octets-shown (a ∷ files) = sum_by-cons (λ (b : Attachment). b.len) a files ∙ ap (λ n. a.len + n) (octets-shown files) ∙ sym (sum_by-cons (λ (b : AttachedFile). b.len) (in_file a) (map in_file files))

octets-read : (inputs : List Input) → sum_by (λ (a : Attachment). a.len) (files_in_all inputs) ≡ attached_length (map read_in inputs)
octets-read [] = refl
octets-read (i ∷ is) =
    sum_by-append (λ (a : Attachment). a.len) i.attachments (files_in_all is)
    ∙ ap₂ (λ m n. m + n) (octets-shown i.attachments) (octets-read is)
    ∙ sym (sum_by-cons (λ (j : InputRead). sum_by (λ (a : AttachedFile). a.len) j.attachments) (read_in i) (map read_in is))

pub octets-all : (lanes : LaneUids) (before number : ℕ) (inputs : List Input) → sum_by (λ (a : Attachment). a.len) (merged_attachments (records_at lanes before number inputs)) ≡ attached_length (map read_in inputs)
octets-all lanes before number inputs =
    let files : List Attachment = files_in_all inputs in
    let uids : List ℕ = merged.file_uids files in
    ap (λ list. sum_by (λ (a : Attachment). a.len) (with_uids (renumbered (merged.file_uids list)) list)) (files-at lanes before number inputs)
    ∙ octets-uids (renumbered uids) files (length-from uids [] uids ∙ length-map files (λ (a : Attachment). a.uid))
    ∙ octets-read inputs

-- ---- the files of their data

flat-each : {X Y : Type 0} (f : X → List Y) (P : Y → Type 0) (xs : List X) → ((k : ℕ) (x : X) → k < length xs → x ≡ get_or xs k x → All P (f x)) → All P (flat_map f xs)
flat-each f P [] each = λ k d inside. absurd (omega arith)
flat-each f P (x ∷ xs) each = All-append P (f x) (flat_map f xs) (each 0 x (omega arith) refl) (flat-each f P xs (λ k y inside is. each (suc k) y (omega arith) is))

all-first : {A : Type 0} (P : A → Type 0) (x : A) (xs : List A) → P x → All P xs → All P (x ∷ xs)
all-first P x xs one rest = of
  where
    of : (k : ℕ) (d : _) → k < length (x ∷ xs) → P (get_or (x ∷ xs) k d)
    of zero d inside = one
    of (suc k) d inside = rest k d (omega arith)

each-uid : (P : Attachment → Type 0) → ((uid : ℕ) (a : Attachment) → P a → P (with_uid uid a)) → (uids : List ℕ) (files : List Attachment) → All P files → All P (with_uids uids files)
each-uid P so [] files each = λ k d inside. absurd (omega arith)
each-uid P so (uid ∷ uids) [] each = λ k d inside. absurd (omega arith)
each-uid P so (uid ∷ uids) (a ∷ files) each =
    all-first P (with_uid uid a) (with_uids uids files) (so uid a (each 0 a (omega arith))) (each-uid P so uids files (λ k d inside. each (suc k) d (omega arith)))

files-each : (inputs : List Input) → All HasRecords inputs → All (StandsInInput inputs) (files_in_all inputs)
files-each inputs has = flat-each (λ (i : Input). i.attachments) (StandsInInput inputs) inputs (λ k i inside is. of k i inside is (subst HasRecords (sym is) (has k i inside)))
  where
    of : (k : ℕ) (i : Input) → k < length inputs → i ≡ get_or inputs k i → HasRecords i → All (StandsInInput inputs) i.attachments
    of k i inside is holds = λ j d below. record { number = k; input = i; inside = inside; is = is; same = (holds.attachments j d below).same; within = (holds.attachments j d below).inside }

-- The data of each attached file are in the file of an input.
pub files-are : (lanes : LaneUids) (before number : ℕ) (inputs : List Input) → All HasRecords inputs → All (StandsInInput inputs) (merged_attachments (records_at lanes before number inputs))
files-are lanes before number inputs has =
    let files : List Attachment = files_in_all inputs in
    subst (λ (l : List Attachment). All (StandsInInput inputs) (with_uids (renumbered (merged.file_uids l)) l)) (sym (files-at lanes before number inputs))
    (each-uid (StandsInInput inputs) (λ uid a is. record { number = is.number; input = is.input; inside = is.inside; is = is.is; same = is.same; within = is.within }) (renumbered (merged.file_uids files)) files (files-each inputs has))

-- ---- Chapters

-- They are the same with any output tracks.
chapters-same : (lanes others : LaneUids) (before number : ℕ) (inputs : List Input) → flat_map chapters_in (records_at lanes before number inputs) ≡ flat_map chapters_in (anywhere_at others before number inputs)
chapters-same lanes others before number [] = refl
chapters-same lanes others before number (i ∷ is) = ap (λ l. chapters_in (record_at lanes (own_at before number i) i) ++ l) (chapters-same lanes others (own_at before number i) (number + 1) is)

-- a Chapters with these editions
abbrev joined : List Node → Node
joined editions = master CHAPTERS 0 (nodes_of editions)

pub chapters-anywhere : (lanes others : LaneUids) (before number : ℕ) (inputs : List Input) → merged_chapters (records_at lanes before number inputs) ≡ merged_chapters (anywhere_at others before number inputs)
chapters-anywhere lanes others before number inputs =
    ap (λ es. with_some (with_identifiers (renumbered (edition_uids (joined es))) (renumbered (chapter_uids (joined es))) (joined es))) (chapters-same lanes others before number inputs)

-- ---- Tags

-- the identifiers for the targets of Tags, with these FileUIDs
abbrev numbers_with : List ℕ → InputRecords → List ℕ → List ℕ → List ℕ → ℕ → ℕ → Option ℕ
numbers_with files i editions chapters attachments id uid =
    if id == TAG_TRACK_UID then number_of i.track_uids i.output_uids uid else
    (if id == TAG_EDITION_UID then number_of (uids_in edition_uids i.chapters) editions uid else
    (if id == TAG_CHAPTER_UID then number_of (uids_in chapter_uids i.chapters) chapters uid else
    (if id == TAG_ATTACHMENT_UID then number_of files attachments uid else None)))

-- the Tags of an input, and of the inputs after it
abbrev tags_with : List ℕ → InputRecords → List InputRecords → List ℕ → List ℕ → List ℕ → List Node
tags_with files i others editions chapters attachments =
    children_in (option_map (written_tags i.keep (numbers_with files i editions chapters attachments)) i.tags)
    ++ tags_from (behind (all_uids (uids_in edition_uids i.chapters) (uids_in chapter_uids i.chapters) files) (all_uids editions chapters attachments)) others

tags-same : (lanes : LaneUids) (before number : ℕ) (inputs : List Input) (editions chapters attachments : List ℕ) → tags_from (all_uids editions chapters attachments) (records_at lanes before number inputs) ≡ tags_from (all_uids editions chapters attachments) (anywhere_at lanes before number inputs)
tags-same lanes before number [] editions chapters attachments = refl
tags-same lanes before number (i ∷ is) editions chapters attachments =
    let owner : ℕ = own_at before number i in
    let own : InputRecords = record_at lanes owner i in
    ap (λ l. tags_in own (all_uids editions chapters attachments) ++ l)
    (tags-same lanes owner (number + 1) is (drop (length (uids_in edition_uids i.chapters)) editions) (drop (length (uids_in chapter_uids i.chapters)) chapters) (drop (length (merged.file_uids i.attachments)) attachments))
    ∙ ap (λ files. tags_with files own (anywhere_at lanes owner (number + 1) is) editions chapters attachments) (sym (uids-anywhere i.attachments))

pub numbers-same : (lanes : LaneUids) (before number : ℕ) (inputs : List Input) → numbers_of (records_at lanes before number inputs) ≡ numbers_of (anywhere_at lanes before number inputs)
numbers-same lanes before number inputs =
    ap₂ (λ es files. all_uids (renumbered (edition_uids (joined es))) (renumbered (chapter_uids (joined es))) (renumbered files)) (chapters-same lanes lanes before number inputs) (sym (all-uids-anywhere lanes before number inputs))

pub tags-anywhere : (lanes : LaneUids) (before number : ℕ) (inputs : List Input) → merged_tags (records_at lanes before number inputs) ≡ merged_tags (anywhere_at lanes before number inputs)
tags-anywhere lanes before number inputs =
    ap (λ list. with_some (master TAGS 0 (nodes_of list)))
    (tags-same lanes before number inputs (edition_numbers (records_at lanes before number inputs)) (chapter_numbers (records_at lanes before number inputs)) (merged.file_numbers (records_at lanes before number inputs)))
    ∙ ap (λ given. with_some (joined_tags given (anywhere_at lanes before number inputs))) (numbers-same lanes before number inputs)

-- ---- one more input

pub records-next : (lanes : LaneUids) (before number owner : ℕ) (i : Input) (own uids : List ℕ) (inputs rest : List Input) (records new all : List InputRecords) (one : InputRecords) → owner ≡ owner_at before number (read_in i)
    → own ≡ track_uids_at lanes owner (read_in i) → uids ≡ uids_at lanes owner → inputs ≡ i ∷ rest → one ≡ records_in own uids (kept_in i) → new ≡ records ++ one ∷ []
    → records ++ records_at lanes before number inputs ≡ all → new ++ records_at lanes owner (number + 1) rest ≡ all
records-next lanes before number owner i own uids inputs rest records new all one owns tracks_are uids_are next made put so_far =
    ap (λ l. l ++ records_at lanes owner (number + 1) rest) put
    ∙ append_assoc records (one ∷ []) (records_at lanes owner (number + 1) rest)
    ∙ ap (λ r. records ++ r ∷ records_at lanes owner (number + 1) rest) (made ∙ ap₂ (λ t u. records_in t u (kept_in i)) tracks_are uids_are)
    ∙ ap (λ o. records ++ record_at lanes o i ∷ records_at lanes o (number + 1) rest) owns
    ∙ ap (λ is. records ++ records_at lanes before number is) (sym next)
    ∙ so_far

pub records-none : (lanes : LaneUids) (before number : ℕ) (records all : List InputRecords) (inputs : List Input) → inputs ≡ [] → records ++ records_at lanes before number inputs ≡ all → records ≡ all
records-none lanes before number records all inputs none so_far = sym (append-nil records) ∙ ap (λ is. records ++ records_at lanes before number is) (sym none) ∙ so_far

-- ---- the records of the inputs

pub reads-in : (f : LiveFiles) (inputs : List Input) → reads_of (map (source_in f) inputs) ≡ map read_in inputs
reads-in f [] = refl
reads-in f (i ∷ is) = ap (λ l. read_in i ∷ l) (reads-in f is)
