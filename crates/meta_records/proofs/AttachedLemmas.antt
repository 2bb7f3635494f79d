-- The attached files of a file with an outline.
use Rattle.std.proofs.Common.{◌≡◌, ℕ, List, [], ◌∷◌, map, Option, Some, None, Ok, Err, refl, sym, ◌∙◌, ap}
use Rattle.mkv_schema.specs.declared.ids.TheConstants.{ATTACHMENTS}
use Rattle.mkv_io.specs.declared.damage.Damage.{Damage}
use Rattle.mkv_io.specs.declared.outside.FileId.{FileId}
use Rattle.mkv_schema.specs.declared.element.Header.{Header}
use Rattle.mkv_schema.specs.Outline.{first_damage}
use Rattle.mkv_io.specs.Results.{unless}
use Rattle.element_reader.specs.Outline.{FileOutline, first_in, outline_in}
use Rattle.element_reader.proofs.OutlineLemmas.{Outlines-shown}
use Rattle.output_model.specs.declared.attachment.Attachment.{Attachment}
use Rattle.meta_records.specs.Attachments.{attached_in, attachment_of, attachments_causes, attachments_in}
use Rattle.meta_records.specs.Attached.{AttachedFile, file_at, files_at, first_attached, in_file}
use Rattle.meta_records.proofs.RecordsLemmas.{first_same}

-- The attached files are in the first Attachments in the outline.
pub first_attached-of : (before : ℕ) (bytes : List ℕ) (v : FileOutline) (h : Option Header) → outline_in before bytes ≡ Ok v → first_in ATTACHMENTS v ≡ h → first_attached bytes v.segment ≡ files_at bytes h
first_attached-of before bytes v h outline found =
    ap (files_at bytes) (sym (first_same ATTACHMENTS before bytes v refl (Outlines-shown before bytes v outline)) ∙ found)

-- Each attached file agrees with its AttachedFile.
files-same : (bytes : List ℕ) (file : FileId) (list : List Header) → map (file_at bytes) list ≡ map in_file (map (attachment_of bytes file) list)
files-same bytes file [] = refl
files-same bytes file (h ∷ hs) = ap (λ (files : List AttachedFile). file_at bytes h ∷ files) (files-same bytes file hs)

-- The attached files are read.
pub attached-read : (bytes : List ℕ) (file : FileId) (h : Header) (list : List Attachment) → attachments_in bytes file h ≡ Ok list → files_at bytes (Some h) ≡ Ok (map in_file list)
attached-read bytes file h list read = step (first_damage (attachments_causes bytes h)) read
  where
    step : (refusal : Option Damage) → unless refusal (map (attachment_of bytes file) (attached_in bytes h)) ≡ Ok list → unless refusal (map (file_at bytes) (attached_in bytes h)) ≡ Ok (map in_file list)
    step None made =
        let same : map (attachment_of bytes file) (attached_in bytes h) ≡ list = cc in
        ap (λ (files : List AttachedFile). Ok files) (files-same bytes file (attached_in bytes h) ∙ ap (map in_file) same)
    step (Some d) made = absurd (cc)

-- The attached files are refused.
pub attached-refused : (bytes : List ℕ) (file : FileId) (h : Header) (d : Damage) → attachments_in bytes file h ≡ Err d → files_at bytes (Some h) ≡ Err d
attached-refused bytes file h d read = step (first_damage (attachments_causes bytes h)) read
  where
    step : (refusal : Option Damage) → unless refusal (map (attachment_of bytes file) (attached_in bytes h)) ≡ Err d → unless refusal (map (file_at bytes) (attached_in bytes h)) ≡ Err d
    step None made = absurd (cc)
    step (Some e) made = let same : e ≡ d = cc in ap (λ (x : Damage). Err x) same
