-- Records of a merge whose last inputs have attached files alone.
use Rattle.std.proofs.Common.{◌≡◌, ◌<◌, ◌≤◌, ℕ, ◌+◌, ◌==◌, nat_eq, Bool, true, false, not, ◌&&◌, ◌||◌, if◌then◌else◌, List, [], ◌∷◌, ◌++◌, length, drop, flat_map, Option, None, refl, sym, ap, ap₂, subst, ◌∙◌, arith, append_assoc, append-nil}
use Rattle.std.specs.List.{All, list_any, zip}
use Rattle.std.specs.Map.{lookup}
use Rattle.std.specs.Option.{option_map}
use Rattle.std.proofs.lemmas.Bool.Decides.{nat_tests}
use Rattle.std.proofs.lemmas.Grind.{flat_map-append}
use Rattle.std.proofs.lemmas.List.{drop-append-le, length-append, length-drop, map-append}
use Rattle.std.proofs.lemmas.List.Elements.{All-append, All-head, All-nil, All-tail}
use Rattle.std.proofs.lemmas.List.Folds.{list_any-append}
use Rattle.mkv_schema.specs.declared.ids.TheConstants.{CHAPTERS, TAGS, TAG_TRACK_UID, TAG_EDITION_UID, TAG_CHAPTER_UID, TAG_ATTACHMENT_UID}
use Rattle.tree_format.specs.Node.{Node, master, nodes_of}
use Rattle.record_changes.specs.Atoms.{chapter_uids, edition_uids}
use Rattle.record_changes.specs.ChapterIdentifiers.{with_identifiers}
use Rattle.record_changes.specs.Identifiers.{is_free, number_for, renumbered, renumbered_from, smallest_free}
use Rattle.record_changes.specs.Tags.{written_tags}
use Rattle.record_changes.proofs.FreeLemmas.{smallest-free, smallest-is}
use Rattle.record_changes.proofs.GivenLemmas.{length-from}
use Rattle.output_model.specs.declared.attachment.Attachment.{Attachment}
use Rattle.output_records.specs.Attachments.{file_numbers, file_uids, files_of}
use Rattle.output_records.specs.Chapters.{chapter_numbers, chapters_in, edition_numbers, joined_chapters, merged_chapters}
use Rattle.output_records.specs.Inputs.{children_in, with_some}
use Rattle.output_records.specs.Tags.{all_uids, joined_tags, merged_tags, number_of, numbers_for, tags_from, tags_in, uids_of}
use Rattle.output_records.specs.declared.inputs.InputRecords.{InputRecords}

-- ---- identifiers that aren't given

-- The identifier is absent.
abbrev pub IsAbsent : ℕ → Type 0
IsAbsent id = id ≡ 0

-- A positive number isn't among absent identifiers.
among-absent : (zeros : List ℕ) (n : ℕ) → 0 < n → All IsAbsent zeros → list_any (λ m. n == m) zeros ≡ false
among-absent [] n some none = refl
among-absent (z ∷ zeros) n some none =
    let first : z ≡ 0 = All-head IsAbsent z zeros none in
    let other : (n == z) ≡ false = grind (arith, nat_tests) in
    ap (λ (b : Bool). b || list_any (λ m. n == m) zeros) other ∙ among-absent zeros n some (All-tail IsAbsent z zeros none)

module _ (source zeros : List ℕ) (none : All IsAbsent zeros) where
  free-same : (given : List ℕ) (n : ℕ) → 0 < n → is_free ((source ++ zeros) ++ given) n ≡ is_free (source ++ given) n
  free-same given n some =
      let test : ℕ → Bool = λ m. n == m in
      ap not
      (list_any-append test (source ++ zeros) given
      ∙ ap (λ (b : Bool). b || list_any test given) (list_any-append test source zeros ∙ ap (λ (b : Bool). list_any test source || b) (among-absent zeros n some none) ∙ or-none (list_any test source))
      ∙ sym (list_any-append test source given))
    where
      or-none : (b : Bool) → (b || false) ≡ b
      or-none true = refl
      or-none false = refl

  smallest-same : (given : List ℕ) → smallest_free ((source ++ zeros) ++ given) ≡ smallest_free (source ++ given)
  smallest-same given =
      let m : ℕ = smallest_free (source ++ given) in
      let some : 0 < m = smallest-free.positive (source ++ given) in
      smallest-is ((source ++ zeros) ++ given) m some (free-same given m some ∙ smallest-free.free (source ++ given))
      (λ n positive below. free-same given n positive ∙ smallest-free.least (source ++ given) n positive below)

  number-same : (given : List ℕ) (id : ℕ) → number_for (source ++ zeros) given id ≡ number_for source given id
  number-same given id = ap (λ (n : ℕ). if not (id == 0) && is_free given id then id else n) (smallest-same given)

  from-same : (given ids : List ℕ) → renumbered_from (source ++ zeros) given ids ≡ renumbered_from source given ids
  from-same given [] = refl
  from-same given (id ∷ ids) =
      ap (λ (n : ℕ). n ∷ renumbered_from (source ++ zeros) (given ++ n ∷ []) ids) (number-same given id)
      ∙ ap (λ (rest : List ℕ). number_for source given id ∷ rest) (from-same (given ++ number_for source given id ∷ []) ids)

from-append : (source given ids more : List ℕ) → renumbered_from source given (ids ++ more) ≡ renumbered_from source given ids ++ renumbered_from source (given ++ renumbered_from source given ids) more
from-append source given [] more = ap (λ (g : List ℕ). renumbered_from source g more) (sym (append-nil given))
from-append source given (id ∷ ids) more =
    let n : ℕ = number_for source given id in
    ap (λ (rest : List ℕ). n ∷ rest)
    (from-append source (given ++ n ∷ []) ids more
    ∙ ap (λ (g : List ℕ). renumbered_from source (given ++ n ∷ []) ids ++ renumbered_from source g more) (append_assoc given (n ∷ []) (renumbered_from source (given ++ n ∷ []) ids)))

-- the numbers of absent identifiers after the identifiers `ids`
abbrev pub numbers_after : List ℕ → List ℕ → List ℕ
numbers_after ids zeros = renumbered_from (ids ++ zeros) ([] ++ renumbered_from (ids ++ zeros) [] ids) zeros

-- Identifiers keep their numbers if absent ones come after them.
pub renumbered-after : (ids zeros : List ℕ) → All IsAbsent zeros → renumbered (ids ++ zeros) ≡ renumbered ids ++ numbers_after ids zeros
renumbered-after ids zeros none = from-append (ids ++ zeros) [] ids zeros ∙ ap (λ (l : List ℕ). l ++ numbers_after ids zeros) (from-same ids zeros none [] ids)

pub numbers_after-many : (ids zeros : List ℕ) → length (numbers_after ids zeros) ≡ length zeros
numbers_after-many ids zeros = length-from (ids ++ zeros) ([] ++ renumbered_from (ids ++ zeros) [] ids) zeros

-- ---- inputs without Chapters and Tags

-- The input has neither Chapters nor Tags, and its attached files have no identifiers.
pub record HasFilesAlone (r : InputRecords) : Type 0 where
  pub chapters : r.chapters ≡ None
  pub tags : r.tags ≡ None
  pub uids : All IsAbsent (file_uids r.attachments)

none-joined : (es : List InputRecords) → All HasFilesAlone es → flat_map chapters_in es ≡ []
none-joined [] alone = refl
none-joined (e ∷ es) alone =
    ap₂ (λ (c : Option Node) (rest : List Node). chapters_in (record e { chapters = c }) ++ rest) (All-head HasFilesAlone e es alone).chapters (none-joined es (All-tail HasFilesAlone e es alone))

none-tagged : (editions chapters files : List ℕ) (es : List InputRecords) → All HasFilesAlone es → tags_from (all_uids editions chapters files) es ≡ []
none-tagged editions chapters files [] alone = refl
none-tagged editions chapters files (e ∷ es) alone =
    ap₂ (λ (t : Option Node) (rest : List Node). children_in (option_map (written_tags e.keep (numbers_for e (all_uids editions chapters files))) t) ++ rest) (All-head HasFilesAlone e es alone).tags
    (none-tagged (drop (length (uids_of e).editions) editions) (drop (length (uids_of e).chapters) chapters) (drop (length (uids_of e).attachments) files) es (All-tail HasFilesAlone e es alone))

none-numbered : (es : List InputRecords) → All HasFilesAlone es → All IsAbsent (file_uids (files_of es))
none-numbered [] alone = All-nil IsAbsent
none-numbered (e ∷ es) alone =
    subst (All IsAbsent) (sym (map-append (λ (a : Attachment). a.uid) e.attachments (files_of es)))
    (All-append IsAbsent (file_uids e.attachments) (file_uids (files_of es)) (All-head HasFilesAlone e es alone).uids (none-numbered es (All-tail HasFilesAlone e es alone)))

module _ (rs es : List InputRecords) (alone : All HasFilesAlone es) where
  pub joined-same : joined_chapters (rs ++ es) ≡ joined_chapters rs
  joined-same =
      ap (λ (ns : List Node). master CHAPTERS 0 (nodes_of ns))
      (flat_map-append chapters_in rs es ∙ ap (λ (l : List Node). flat_map chapters_in rs ++ l) (none-joined es alone) ∙ append-nil (flat_map chapters_in rs))

  pub chapters-same : merged_chapters (rs ++ es) ≡ merged_chapters rs
  chapters-same = ap (λ (n : Node). with_some (with_identifiers (renumbered (edition_uids n)) (renumbered (chapter_uids n)) n)) joined-same

  -- the identifiers of the attached files, and those of the inputs without Chapters and Tags
  abbrev own_uids : List ℕ
  own_uids = file_uids (files_of rs)

  abbrev more_uids : List ℕ
  more_uids = file_uids (files_of es)

  pub files-after : file_numbers (rs ++ es) ≡ file_numbers rs ++ numbers_after own_uids more_uids
  files-after =
      ap (λ (files : List Attachment). renumbered (file_uids files)) (flat_map-append (λ (i : InputRecords). i.attachments) rs es)
      ∙ ap renumbered (map-append (λ (a : Attachment). a.uid) (files_of rs) (files_of es)) ∙ renumbered-after own_uids more_uids (none-numbered es alone)

  -- ---- the Tags

  tags-append : (editions chapters files : List ℕ) (is : List InputRecords) → tags_from (all_uids editions chapters files) (is ++ es) ≡ tags_from (all_uids editions chapters files) is
  tags-append editions chapters files [] = none-tagged editions chapters files es alone
  tags-append editions chapters files (i ∷ is) =
      ap (λ (rest : List Node). tags_in i (all_uids editions chapters files) ++ rest)
      (tags-append (drop (length (uids_of i).editions) editions) (drop (length (uids_of i).chapters) chapters) (drop (length (uids_of i).attachments) files) is)

zip-front : {A B : Type 0} (xs : List A) (ys zs : List B) → length xs ≤ length ys → zip xs (ys ++ zs) ≡ zip xs ys
zip-front [] ys zs few = refl
zip-front (x ∷ xs) [] zs few = absurd (omega arith)
zip-front (x ∷ xs) (y ∷ ys) zs few = ap (λ l. (x, y) ∷ l) (zip-front xs ys zs (omega arith))

-- More numbers of files after those of the inputs change nothing of their Tags.
tags-front : (editions chapters files more : List ℕ) (is : List InputRecords) → length (file_uids (files_of is)) ≤ length files
    → tags_from (all_uids editions chapters (files ++ more)) is ≡ tags_from (all_uids editions chapters files) is
tags-front editions chapters files more [] few = refl
tags-front editions chapters files more (i ∷ is) few =
    let own : List ℕ = file_uids i.attachments in
    let rest : List ℕ = file_uids (files_of is) in
    let long : length (file_uids (files_of (i ∷ is))) ≡ length own + length rest = ap length (map-append (λ (a : Attachment). a.uid) i.attachments (files_of is)) ∙ length-append own rest in
    let dropped : drop (length own) (files ++ more) ≡ drop (length own) files ++ more = drop-append-le (length own) files more (omega arith) in
    ap₂ (λ (first others : List Node). first ++ others)
    (ap (λ (pairs : List (ℕ × ℕ)). children_in (option_map (written_tags i.keep (λ (id uid : ℕ).
    if id == TAG_TRACK_UID then number_of i.track_uids i.output_uids uid else
    (if id == TAG_EDITION_UID then number_of (uids_of i).editions editions uid else
    (if id == TAG_CHAPTER_UID then number_of (uids_of i).chapters chapters uid else
    (if id == TAG_ATTACHMENT_UID then lookup (nat_eq uid) pairs else None))))) i.tags))
    (zip-front own files more (omega arith)))
    (ap (λ (l : List ℕ). tags_from (all_uids (drop (length (uids_of i).editions) editions) (drop (length (uids_of i).chapters) chapters) l) is) dropped
    ∙ tags-front (drop (length (uids_of i).editions) editions) (drop (length (uids_of i).chapters) chapters) (drop (length own) files) more is (omega (arith, length-drop (length own) files)))

module _ (rs es : List InputRecords) (alone : All HasFilesAlone es) where
  pub tags-same : merged_tags (rs ++ es) ≡ merged_tags rs
  tags-same =
      let editions : edition_numbers (rs ++ es) ≡ edition_numbers rs = ap (λ (n : Node). renumbered (edition_uids n)) (joined-same rs es alone) in
      let chapters : chapter_numbers (rs ++ es) ≡ chapter_numbers rs = ap (λ (n : Node). renumbered (chapter_uids n)) (joined-same rs es alone) in
      let more : List ℕ = numbers_after (file_uids (files_of rs)) (file_uids (files_of es)) in
      let many : length (file_numbers rs) ≡ length (file_uids (files_of rs)) = length-from (file_uids (files_of rs)) [] (file_uids (files_of rs)) in
      let made : List ℕ → List ℕ → List ℕ → Option Node = λ e c f. with_some (joined_tags (all_uids e c f) (rs ++ es)) in
      (λ i. made (editions i) (chapters i) (files-after rs es alone i))
      ∙ ap (λ (ns : List Node). with_some (master TAGS 0 (nodes_of ns)))
      (tags-append rs es alone (edition_numbers rs) (chapter_numbers rs) (file_numbers rs ++ more) rs
      ∙ tags-front (edition_numbers rs) (chapter_numbers rs) (file_numbers rs) more rs (omega arith))
