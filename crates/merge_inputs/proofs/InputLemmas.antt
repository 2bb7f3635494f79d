-- The input as it is read, and among other files.
use Rattle.std.proofs.Common.{◌≡◌, ℕ, Bool, true, false, List, [], length, map, Option, Some, None, IfSome, Result, Ok, Err, refl, sym, ◌∙◌, ap, arith}
use Rattle.std.specs.List.{All}
use Rattle.mkv_io.specs.declared.damage.Damage.{Damage}
use Rattle.mkv_schema.specs.Outline.{Outlined}
use Rattle.element_reader.specs.Outline.{FileOutline, outline_in}
use Rattle.element_reader.proofs.OutlineLemmas.{Outlines-shown}
use Rattle.tree_format.specs.Node.{Node}
use Rattle.output_model.specs.declared.attachment.Attachment.{Attachment}
use Rattle.record_changes.specs.declared.uid_map.TagKeep.{TagKeep}
use Rattle.meta_records.specs.Attached.{AttachedFile, in_file}
use Rattle.meta_records.specs.Records.{FileRecords, file_records, scale_of_info}
use Rattle.ext_times.specs.Listing.{Listing}
use Rattle.requests.specs.declared.merge.FileWords.{FileWords}
use Rattle.merge_inputs.specs.Input.{InputRead, Clusters, CanBeGiven, file_read, found_then, input_with, refusal_of, input_or_refusal}
use Rattle.merge_inputs.specs.declared.input.Blocks.{Blocks}
use Rattle.merge_inputs.specs.declared.input.Blocks.TheVariants as held_by
use Rattle.merge_inputs.specs.Select.{keep_of, keeps_attachments, keeps_chapters, kept_list, kept_one, kept_tags, unmoved}
use Rattle.merge_inputs.specs.Taken.{taken_from}
use Rattle.merge_inputs.specs.Title.{title_of_info}
use Rattle.merge_inputs.specs.declared.taken.TakenTrack.{TakenTrack}
use Rattle.merge_inputs.specs.declared.input.InputRefusal.{InputRefusal}

-- ---- reading

-- the input of a file with this outline
abbrev pub read_with : FileOutline → ℕ → List ℕ → ℕ → List TakenTrack → List AttachedFile → Option Node → Option Node → TagKeep → Option ℕ → List (ℕ × Listing) → InputRead
read_with v scale title count taken attachments chapters tags keep shift times = record {
  blocks = Clusters v.segment scale;
  title = title;
  held = v.held;
  count = count;
  taken = taken;
  attachments = attachments;
  chapters = chapters;
  tags = tags;
  keep = keep;
  shift = shift;
  times = times;
}

-- the input of a file with this outline and these records
abbrev pub read_as : FileWords → Bool → FileOutline → FileRecords → InputRead
read_as words webm v r =
    read_with v (scale_of_info r.info) (title_of_info r.info) (length r.tracks) (taken_from words 0 r.tracks)
    (kept_list (keeps_attachments words webm) r.attachments) (kept_one (keeps_chapters words webm) r.chapters) (kept_tags words r.tags) (keep_of words) (unmoved words) []

-- the refusal of the input
abbrev pub refusal_as : FileWords → FileRecords → Option InputRefusal
refusal_as words r = refusal_of (taken_from words 0 r.tracks)

-- the input after its outline was read
abbrev behind : FileWords → Bool → List ℕ → Outlined → Result InputRead InputRefusal
behind words webm bytes o =
    found_then (file_records bytes o.segment) (λ (r : FileRecords).
    input_or_refusal (refusal_as words r) (input_with words webm o r))

-- The input is read unless it is refused.
file_read-unless : (words : FileWords) (webm : Bool) (held : ℕ) (bytes : List ℕ) (v : FileOutline) (r : FileRecords) → outline_in held bytes ≡ Ok v → file_records bytes v.segment ≡ Ok r → file_read words webm held bytes ≡ input_or_refusal (refusal_as words r) (read_as words webm v r)
file_read-unless words webm held bytes v r outline records =
    let of = Outlines-shown held bytes v outline in
    ap (λ (found : Result Outlined Damage). found_then found (behind words webm bytes)) of.is
    ∙ ap (λ (found : Result FileRecords Damage). found_then found (λ (each : FileRecords). input_or_refusal (refusal_as words each) (input_with words webm of.outlined each)))
    (ap (λ (w : FileOutline). file_records bytes w.segment) (sym of.shows) ∙ records)
    ∙ ap (λ (w : FileOutline). input_or_refusal (refusal_as words r) (read_as words webm w r)) (sym of.shows)

-- The input is refused.
pub file_read-refused : (words : FileWords) (webm : Bool) (held : ℕ) (bytes : List ℕ) (v : FileOutline) (r : FileRecords) (why : InputRefusal) → outline_in held bytes ≡ Ok v → file_records bytes v.segment ≡ Ok r → refusal_as words r ≡ Some why → file_read words webm held bytes ≡ Err why
file_read-refused words webm held bytes v r why outline records bad =
    file_read-unless words webm held bytes v r outline records
    ∙ ap (λ (refusal : Option InputRefusal). input_or_refusal refusal (read_as words webm v r)) bad

-- The input isn't refused.
pub file_read-all : (words : FileWords) (webm : Bool) (held : ℕ) (bytes : List ℕ) (v : FileOutline) (r : FileRecords) (input : InputRead) → outline_in held bytes ≡ Ok v → file_records bytes v.segment ≡ Ok r → refusal_as words r ≡ None → input ≡ read_as words webm v r → file_read words webm held bytes ≡ Ok input
file_read-all words webm held bytes v r input outline records good is =
    file_read-unless words webm held bytes v r outline records
    ∙ ap (λ (refusal : Option InputRefusal). input_or_refusal refusal (read_as words webm v r)) good
    ∙ ap Ok (sym is)

-- Inputs with equal parts are equal.
pub read-same : (v w : FileOutline) {scale scale' : ℕ} {title title' : List ℕ} {count count' : ℕ} {taken taken' : List TakenTrack} {attachments attachments' : List AttachedFile} {chapters chapters' tags tags' : Option Node} {keep keep' : TagKeep} {shift shift' : Option ℕ} {times times' : List (ℕ × Listing)}
    → v ≡ w → scale ≡ scale' → title ≡ title' → count ≡ count' → taken ≡ taken' → attachments ≡ attachments' → chapters ≡ chapters' → tags ≡ tags' → keep ≡ keep' → shift ≡ shift' → times ≡ times'
    → read_with v scale title count taken attachments chapters tags keep shift times ≡ read_with w scale' title' count' taken' attachments' chapters' tags' keep' shift' times'
read-same v w outline scale_is title_is count_is taken_is attachments_is chapters_is tags_is keep_is shift_is times_is =
    λ i. read_with (outline i) (scale_is i) (title_is i) (count_is i) (taken_is i) (attachments_is i) (chapters_is i) (tags_is i) (keep_is i) (shift_is i) (times_is i)

-- ---- kept parts

-- Kept attached files don't depend on the live file.
pub kept-files : (is_kept : Bool) (list : List Attachment) → map in_file (kept_list is_kept list) ≡ kept_list is_kept (map in_file list)
kept-files true list = refl
kept-files false list = refl

-- A fact about all elements holds for the kept ones.
pub kept-all : {T : Type 0} (P : T → Type 0) (is_kept : Bool) (list : List T) → All P list → All P (kept_list is_kept list)
kept-all P true list each = each
kept-all P false list each = λ k d below. absurd (omega arith)

pub kept-some : {T : Type 0} (P : T → Type 0) (is_kept : Bool) (one : Option T) → IfSome one P → IfSome (kept_one is_kept one) P
kept-some P true one holds = holds
kept-some P false one holds = tt

-- ---- among other files

-- Blocks can be taken from a file of the same length.
given : {n m : ℕ} → n ≡ m → (blocks : Blocks) → CanBeGiven n blocks → CanBeGiven m blocks
given same (held_by.Clusters outline scale) are = record { size = sym same ∙ are.size; scale = are.scale }
given same (held_by.Entries entries) are = are
