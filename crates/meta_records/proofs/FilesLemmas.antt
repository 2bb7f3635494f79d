-- The attached files, one at a time.
use Rattle.std.proofs.Common.{◌≡◌, ◌<◌, ◌≤◌, ℕ, Bool, true, false, if◌then◌else◌, List, [], ◌∷◌, ◌++◌, map, filter, Option, Some, None, Ok, Err, refl, sym, ◌∙◌, ap, append-nil, append_assoc}
use Rattle.std.specs.Prelude.{slice_get}
use Rattle.std.specs.Option.{option_map, option_or}
use Rattle.std.proofs.lemmas.List.{map-append}
use Rattle.std.proofs.lemmas.Option.{slice_get-map}
use Rattle.mkv_schema.specs.declared.ids.TheConstants.{ATTACHED_FILE}
use Rattle.mkv_io.specs.declared.damage.Damage.{Damage}
use Rattle.mkv_io.specs.declared.damage.Kind.TheVariants.{TooMany}
use Rattle.mkv_io.specs.declared.outside.FileId.{FileId}
use Rattle.mkv_schema.specs.declared.element.Header.{Header}
use Rattle.mkv_schema.specs.Element.{in_master, damage, end_in, stated_end}
use Rattle.mkv_schema.specs.Elements.{Run, never}
use Rattle.mkv_schema.specs.Outline.{first_damage, first_refusal}
use Rattle.mkv_io.specs.Results.{unless}
use Rattle.mkv_schema.proofs.ElementsLemmas.{elements-end}
use Rattle.tree_format.specs.Node.{offset_of}
use Rattle.output_model.specs.declared.attachment.Attachment.{Attachment}
use Rattle.meta_records.specs.Attachments.{at_child, attached_in, attachment_of, attachments_in, children_of, is_attached, met_in, missing_data, refused_from, refused_in, too_many_files}
use Rattle.meta_records.specs.Walk.{HasAll, Meets, ReadsAs, ReadsChild, WalksAll, good_files, one_over}
use Rattle.meta_records.specs.declared.attachments.AttachmentScan.{AttachmentScan}
use Rattle.meta_records.specs.declared.counts.Counts.{Counts}
use Rattle.meta_records.specs.declared.end.MetaEnd.{MetaEnd}
use Rattle.meta_records.specs.declared.end.MetaEnd.TheVariants.{Refused, ReadFault, Memory}
use Rattle.meta_records.specs.declared.limits.TheConstants.{MAX_ATTACHMENTS}
use Rattle.meta_records.proofs.MetLemmas.{run_at, run_at-step}

-- ---- while the children are read

-- `found` has the attached files and damage of the elements from `from` up to `p`.
pub record AreFound (bytes : List ℕ) (file : FileId) (from p e : ℕ) (found : AttachmentScan) : Type 0 where
  pub attachments : map (attachment_of bytes file) (filter is_attached (run_at bytes from e).list) ≡ found.attachments ++ map (attachment_of bytes file) (filter is_attached (run_at bytes p e).list)
  pub missing : first_damage (map (missing_data bytes) (filter is_attached (run_at bytes from e).list)) ≡ option_or found.missing (first_damage (map (missing_data bytes) (filter is_attached (run_at bytes p e).list)))

pub AreFound-none : (bytes : List ℕ) (file : FileId) (p e : ℕ) (found : AttachmentScan) → found.attachments ≡ [] → found.missing ≡ None → AreFound bytes file p p e found
AreFound-none bytes file p e found none good =
    let list = filter is_attached (run_at bytes p e).list in
    record {
      attachments = ap (λ (l : List Attachment). l ++ map (attachment_of bytes file) list) (sym none);
      missing = ap (λ (d : Option Damage). option_or d (first_damage (map (missing_data bytes) list))) (sym good);
    }

filter-front : (h : Header) (hs : List Header) → filter is_attached (h ∷ hs) ≡ filter is_attached (h ∷ []) ++ filter is_attached hs
filter-front h hs = split (is_attached h)
  where
    split : (b : Bool) → (if b then h ∷ filter is_attached hs else filter is_attached hs) ≡ (if b then h ∷ [] else []) ++ filter is_attached hs
    split true = refl
    split false = refl

first_damage-append : (xs ys : List (Option Damage)) → first_damage (xs ++ ys) ≡ option_or (first_damage xs) (first_damage ys)
first_damage-append [] ys = refl
first_damage-append (None ∷ xs) ys = first_damage-append xs ys
first_damage-append (Some d ∷ xs) ys = refl

option_or-assoc : (a b c : Option Damage) → option_or a (option_or b c) ≡ option_or (option_or a b) c
option_or-assoc (Some d) b c = refl
option_or-assoc None b c = refl

pub AreFound-more : (bytes : List ℕ) (file : FileId) (from p e next : ℕ) (old new : AttachmentScan) → AreFound bytes file from p e old → p < e → ReadsChild bytes file p e next old new → AreFound bytes file from next e new
AreFound-more bytes file from p e next old new are inside reads =
    let h = reads.child in
    let rest = (run_at bytes next e).list in
    let step = run_at-step bytes p e (Ok h) inside reads.found in
    let list : filter is_attached (run_at bytes p e).list ≡ filter is_attached (h ∷ []) ++ filter is_attached rest =
    ap (λ (r : Run). filter is_attached r.list) step ∙ filter-front h (run_at bytes (stated_end h) e).list
    ∙ ap (λ (q : ℕ). filter is_attached (h ∷ []) ++ filter is_attached (run_at bytes q e).list) (sym reads.behind) in
    let front = filter is_attached (h ∷ []) in
    let back = filter is_attached rest in
    let A = map (attachment_of bytes file) in
    let M = map (missing_data bytes) in
    record {
      attachments =
          are.attachments ∙ ap (λ (l : List Header). old.attachments ++ A l) list
          ∙ ap (λ (l : List Attachment). old.attachments ++ l) (map-append (attachment_of bytes file) front back)
          ∙ sym (append_assoc old.attachments (A front) (A back))
          ∙ ap (λ (l : List Attachment). l ++ A back) (sym reads.adds.attachments);
      missing =
          are.missing ∙ ap (λ (l : List Header). option_or old.missing (first_damage (M l))) list
          ∙ ap (λ (l : List (Option Damage)). option_or old.missing (first_damage l)) (map-append (missing_data bytes) front back)
          ∙ ap (option_or old.missing) (first_damage-append (M front) (M back))
          ∙ option_or-assoc old.missing (first_damage (M front)) (first_damage (M back))
          ∙ ap (λ (d : Option Damage). option_or d (first_damage (M back))) (sym reads.adds.missing);
    }

-- All were found.
pub AreFound-all : (bytes : List ℕ) (file : FileId) (h : Header) (p : ℕ) (found : AttachmentScan) → AreFound bytes file h.body p (stated_end h) found → stated_end h ≤ p → refused_in bytes h ≡ None → HasAll bytes file h found
AreFound-all bytes file h p found are past good =
    let none : filter is_attached (run_at bytes p (stated_end h)).list ≡ [] =
    ap (λ (r : Run). filter is_attached r.list) (elements-end in_master never (λ k. Ok (end_in (stated_end h) k)) bytes p (stated_end h) past) in
    record {
      good = good;
      attachments = sym (are.attachments ∙ ap (λ (l : List Header). found.attachments ++ map (attachment_of bytes file) l) none ∙ append-nil found.attachments);
      missing = sym (are.missing ∙ ap (λ (l : List Header). option_or found.missing (first_damage (map (missing_data bytes) l))) none ∙ same found.missing);
    }
  where
    same : (d : Option Damage) → option_or d None ≡ d
    same (Some e) = refl
    same None = refl

-- ---- from the start

module _ (bytes : List ℕ) (h : Header) (old : Counts) (none : old.octets ≡ 0) (one : old.nodes ≡ 1) where
  -- The counts begin at 0 bytes and one element.
  from-start : refused_from old.octets old.nodes (met_in (at_child bytes) (children_of bytes h) ++ []) ≡ refused_in bytes h
  from-start =
      ap (refused_from old.octets old.nodes) (append-nil (met_in (at_child bytes) (children_of bytes h)))
      ∙ ap (λ (o : ℕ). refused_from o old.nodes (met_in (at_child bytes) (children_of bytes h))) none
      ∙ ap (λ (n : ℕ). refused_from 0 n (met_in (at_child bytes) (children_of bytes h))) one

  pub walk-good : {T : Type 0} (new : Counts) (x : T) → Meets (met_in (at_child bytes) (children_of bytes h)) old new (Ok x) → refused_in bytes h ≡ None
  walk-good new x meets = sym from-start ∙ meets []

  pub walk-refused : (T : Type 0) (file : FileId) (new : Counts) (end : MetaEnd) → Meets {T = T} (met_in (at_child bytes) (children_of bytes h)) old new (Err end) → WalksAll bytes file h (Err end)
  walk-refused T file new (Refused d) meets = sym from-start ∙ meets []
  walk-refused T file new ReadFault meets = tt
  walk-refused T file new Memory meets = tt

-- ---- result

first-of_rest : (a b : Option Damage) → first_damage (None ∷ a ∷ b ∷ []) ≡ first_refusal a b
first-of_rest (Some d) b = refl
first-of_rest None (Some d) = refl
first-of_rest None None = refl

one_over-is : (bytes : List ℕ) (file : FileId) (files : List Header) → one_over (map (attachment_of bytes file) files) ≡ too_many_files files
one_over-is bytes file files =
    ap (option_map (λ (a : Attachment). damage TooMany ATTACHED_FILE (offset_of a.entry))) (slice_get-map (attachment_of bytes file) files MAX_ATTACHMENTS)
    ∙ twice (slice_get files MAX_ATTACHMENTS)
  where
    twice : (o : Option Header) → option_map (λ (a : Attachment). damage TooMany ATTACHED_FILE (offset_of a.entry)) (option_map (attachment_of bytes file) o) ≡ option_map (λ (h : Header). damage TooMany ATTACHED_FILE h.offset) o
    twice None = refl
    twice (Some h) = refl

-- The attached files found, or their damage, are the definition's.
pub good_files-is : (bytes : List ℕ) (file : FileId) (h : Header) (found : AttachmentScan) → HasAll bytes file h found → attachments_in bytes file h ≡ good_files found
good_files-is bytes file h found has =
    let files = attached_in bytes h in
    let A = map (attachment_of bytes file) files in
    let missing = first_damage (map (missing_data bytes) files) in
    ap (λ (r : Option Damage). unless (first_damage (r ∷ missing ∷ too_many_files files ∷ [])) A) has.good
    ∙ ap (λ (r : Option Damage). unless r A) (first-of_rest missing (too_many_files files))
    ∙ ap (λ (m : Option Damage). unless (first_refusal m (too_many_files files)) A) (sym has.missing)
    ∙ ap (λ (r : Option Damage). unless (first_refusal found.missing r) A) (sym (one_over-is bytes file files))
    ∙ ap (λ (l : List Attachment). unless (first_refusal found.missing (one_over l)) l) (sym has.attachments)

-- Damage of the elements refuses them.
pub refused-is : (bytes : List ℕ) (file : FileId) (h : Header) (end : MetaEnd) → WalksAll bytes file h (Err end) → ReadsAs (attachments_in bytes file h) (Err end)
refused-is bytes file h (Refused d) is =
    let files = attached_in bytes h in
    ap (λ (r : Option Damage). unless (first_damage (r ∷ first_damage (map (missing_data bytes) files) ∷ too_many_files files ∷ [])) (map (attachment_of bytes file) files)) is
refused-is bytes file h ReadFault is = tt
refused-is bytes file h Memory is = tt
