-- Attached files that are written in sequence.
use Rattle.std.proofs.Common.{◌≡◌, ◌≤◌, ℕ, suc, ◌+◌, List, [], ◌∷◌, ◌++◌, length, map, take, drop, All, sum_by, Result, Ok, Err, Option, true, refl, sym, ap, append_assoc, ◌∙◌, arith}
use Rattle.std.proofs.lemmas.List.{take-append-drop, map-append}
use Rattle.std.proofs.lemmas.List.Concat.{flat_map-append}
use Rattle.std.proofs.lemmas.List.Sums.{sum_by-append}
use Rattle.mkv_io.specs.declared.outside.FileId.{FileId}
use Rattle.mkv_io.specs.LiveFiles.{LiveFiles}
use Rattle.mkv_io.specs.Sources.{live_files, file_size}
use Rattle.mkv_io.specs.Told.{IfVisible}
use Rattle.mkv_io.specs.Writing.{KeepsOthers}
use Rattle.mkv_io.specs.declared.reads.Reads.{Ghosts}
use Rattle.mkv_io.specs.declared.files.Files as writing
use Rattle.mkv_io.specs.declared.remux_end.RemuxEnd.{RemuxEnd}
use Rattle.output_model.specs.Element.{joined, octets_of}
use Rattle.output_model.specs.Document.{tree_element}
use Rattle.output_model.specs.declared.attachment.Attachment.{Attachment}
use Rattle.output_model.specs.Attached.{octets_told, attached_file, data_of}
use Rattle.cues_seekhead.specs.Attached.{before_data, behind_data}
use Rattle.cues_seekhead.proofs.AttachedLemmas.{attached-parts}
use Rattle.cues_seekhead.specs.Appending.{AppendsOnly}
use Rattle.cues_seekhead.specs.OpenOutput.{CanAttach}
use Rattle.cues_seekhead.proofs.AppendingLemmas.{AppendsOnly-then, AppendsOnly-more, AppendsOnly-same, KeepsOthers-content, attached_file-kept, length-octets_told}

-- ---- one AttachedFile

-- An AttachedFile has three parts.
attached-is : {S : Type 0} (r : Ghosts S) (f : writing.Ghosts S) (name : List ℕ) (a : S) (it : Attachment) → CanAttach r f a name it → IfVisible ((live_files r a).content it.file.n) (λ bytes. length bytes ≡ file_size r a it.file)
    → octets_of (tree_element (attached_file (live_files r a) it)) ≡ before_data it ++ (data_of (live_files r a) it ++ behind_data it)
attached-is r f name a it can told =
    attached-parts it (data_of (live_files r a) it) can.master can.id (length-octets_told ((live_files r a).content it.file.n) it.at it.len (file_size r a it.file) told can.inside)

-- The data are the same when they are read.
data-kept : {S U : Type 0} (r : Ghosts S) (f : writing.Ghosts S) (file : FileId) (a b : S) (it : Attachment) (octets : List ℕ) (m : ℕ) (done : U) → CanAttach r f a (f.holder a file.n) it → AppendsOnly r f file octets m a b (Ok done)
    → octets_told ((live_files r b).content it.file.n) it.at it.len ≡ data_of (live_files r a) it
data-kept r f file a b it octets m done can before =
    ap (λ (content : Option (List ℕ)). octets_told content it.at it.len) (KeepsOthers-content r f (f.holder a file.n) a b it.file.n before.kept can.live can.apart)

-- The three parts of an AttachedFile are appended.
pub attached-all : {S T U : Type 0} (r : Ghosts S) (f : writing.Ghosts S) (file : FileId) (it : Attachment) (a b c d : S) (done : U) (result : Result T RemuxEnd) (front back : List ℕ) → (live_files r a).live file.n ≡ true → CanAttach r f a (f.holder a file.n) it
    → IfVisible ((live_files r a).content it.file.n) (λ bytes. length bytes ≡ file_size r a it.file) → front ≡ before_data it → back ≡ behind_data it
    → AppendsOnly r f file front 0 a b (Ok done) → AppendsOnly r f file (octets_told ((live_files r b).content it.file.n) it.at it.len) it.len b c (Ok done) → AppendsOnly r f file back 0 c d result
    → AppendsOnly r f file (octets_of (tree_element (attached_file (live_files r a) it))) it.len a d result
attached-all r f file it a b c d done result front back live can told is_front is_back first second third =
    let middle = octets_told ((live_files r b).content it.file.n) it.at it.len in
    let same : front ++ (middle ++ back) ≡ octets_of (tree_element (attached_file (live_files r a) it)) =
    ap (λ w. w ++ (middle ++ back)) is_front ∙ ap (λ w. before_data it ++ (w ++ back)) (data-kept r f file a b it front 0 done can first)
    ∙ ap (λ w. before_data it ++ (data_of (live_files r a) it ++ w)) is_back ∙ sym (attached-is r f (f.holder a file.n) a it can told) in
    AppendsOnly-same r f file (front ++ (middle ++ back)) (octets_of (tree_element (attached_file (live_files r a) it))) (0 + (it.len + 0)) it.len a d result same (omega arith)
    (AppendsOnly-then r f file a b d front (middle ++ back) 0 (it.len + 0) done result live first
    (AppendsOnly-then r f file b c d middle back it.len 0 done result (first.kept.live file.n ∙ live) second third))

-- The first part fails.
pub attached-unbegun : {S T U : Type 0} (r : Ghosts S) (f : writing.Ghosts S) (file : FileId) (it : Attachment) (a b : S) (end : RemuxEnd) (front : List ℕ) → CanAttach r f a (f.holder a file.n) it
    → IfVisible ((live_files r a).content it.file.n) (λ bytes. length bytes ≡ file_size r a it.file) → front ≡ before_data it → AppendsOnly {T = T} r f file front 0 a b (Err end) → AppendsOnly {T = U} r f file (octets_of (tree_element (attached_file (live_files r a) it))) it.len a b (Err end)
attached-unbegun r f file it a b end front can told is_front first =
    AppendsOnly-more r f file front (data_of (live_files r a) it ++ behind_data it) (octets_of (tree_element (attached_file (live_files r a) it))) 0 it.len a b end
    (ap (λ w. w ++ (data_of (live_files r a) it ++ behind_data it)) is_front ∙ sym (attached-is r f (f.holder a file.n) a it can told)) (omega arith) first

-- The data fail.
pub attached-uncopied : {S T U V : Type 0} (r : Ghosts S) (f : writing.Ghosts S) (file : FileId) (it : Attachment) (a b c : S) (done : V) (end : RemuxEnd) (front : List ℕ) → (live_files r a).live file.n ≡ true → CanAttach r f a (f.holder a file.n) it
    → IfVisible ((live_files r a).content it.file.n) (λ bytes. length bytes ≡ file_size r a it.file) → front ≡ before_data it → AppendsOnly r f file front 0 a b (Ok done)
    → AppendsOnly {T = T} r f file (octets_told ((live_files r b).content it.file.n) it.at it.len) it.len b c (Err end) → AppendsOnly {T = U} r f file (octets_of (tree_element (attached_file (live_files r a) it))) it.len a c (Err end)
attached-uncopied {S} {T} {U} r f file it a b c done end front live can told is_front first second =
    let middle = octets_told ((live_files r b).content it.file.n) it.at it.len in
    let same : (front ++ middle) ++ behind_data it ≡ octets_of (tree_element (attached_file (live_files r a) it)) =
    append_assoc front middle (behind_data it) ∙ ap (λ w. w ++ (middle ++ behind_data it)) is_front
    ∙ ap (λ w. before_data it ++ (w ++ behind_data it)) (data-kept r f file a b it front 0 done can first) ∙ sym (attached-is r f (f.holder a file.n) a it can told) in
    AppendsOnly-more {T = T} {U = U} r f file (front ++ middle) (behind_data it) (octets_of (tree_element (attached_file (live_files r a) it))) (0 + it.len) it.len a c end same (omega arith)
    (AppendsOnly-then r f file a b c front middle 0 it.len done (Err end) live first second)

-- ---- all AttachedFiles

abbrev pub attached_octets : LiveFiles → List Attachment → List ℕ
attached_octets files attachments = joined (map tree_element (map (attached_file files) attachments))

abbrev pub data_total : List Attachment → ℕ
data_total attachments = sum_by (λ (a : Attachment). a.len) attachments

-- The first ones and the rest make all.
pub attached-rest : (files : LiveFiles) (attachments : List Attachment) (k : ℕ) → attached_octets files (take k attachments) ++ attached_octets files (drop k attachments) ≡ attached_octets files attachments
attached-rest files attachments k =
    let front = take k attachments in
    let back = drop k attachments in
    sym (flat_map-append octets_of (map tree_element (map (attached_file files) front)) (map tree_element (map (attached_file files) back)))
    ∙ ap joined (sym (map-append tree_element (map (attached_file files) front) (map (attached_file files) back)))
    ∙ ap (λ ns. joined (map tree_element ns)) (sym (map-append (attached_file files) front back))
    ∙ ap (attached_octets files) (take-append-drop k attachments)

pub data-rest : (attachments : List Attachment) (k : ℕ) → data_total (take k attachments) ≤ data_total attachments
data-rest attachments k =
    let all : data_total (take k attachments) + data_total (drop k attachments) ≡ data_total attachments =
    sym (sum_by-append (λ (a : Attachment). a.len) (take k attachments) (drop k attachments)) ∙ ap data_total (take-append-drop k attachments) in
    omega (arith, all)

-- The AttachedFiles are unchanged if only another name is written.
pub attached-octets-kept : {S : Type 0} (r : Ghosts S) (f : writing.Ghosts S) (name : List ℕ) (a b : S) (attachments : List Attachment) → KeepsOthers r f (name ∷ []) a b → All (CanAttach r f a name) attachments → attached_octets (live_files r b) attachments ≡ attached_octets (live_files r a) attachments
attached-octets-kept r f name a b [] kept can = refl
attached-octets-kept r f name a b (it ∷ them) kept can =
    ap (λ n. octets_of (tree_element n) ++ attached_octets (live_files r b) them) (attached_file-kept r f name a b it kept (can 0 it (omega arith)))
    ∙ ap (λ w. octets_of (tree_element (attached_file (live_files r a) it)) ++ w) (attached-octets-kept r f name a b them kept (λ k d below. can (suc k) d (omega arith)))
