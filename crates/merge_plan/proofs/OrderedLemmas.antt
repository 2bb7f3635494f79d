-- The output tracks of a merge in the order of the output.
use Rattle.std.proofs.Common.{◌≡◌, ℕ, ◌+◌, Bool, true, false, if◌then◌else◌, List, [], ◌∷◌, ◌++◌, length, map, flat_map, refl, sym, ap, ap₂, ◌∙◌}
use Rattle.std.specs.List.{All}
use Rattle.std.proofs.lemmas.List.{length-append, length-map}
use Rattle.merge_model.specs.Links.{Given}
use Rattle.merge_inputs.specs.Input.{InputRead}
use Rattle.merge_plan.specs.Plan.{Source, given_from, given_of, append_offset, lanes_given, lanes_ordered}
use Rattle.merge_plan.specs.Records.{Kept, LaneUids, is_appended, kept_anywhere, keys_from, lane_uids, ordered, owner_at, records_from, records_in, records_of, track_uids_at, tracks_begun, tracks_taken, uids_at}
use Rattle.mkv_schema.specs.declared.ids.TheConstants.{CHAPTERS}
use Rattle.tree_format.specs.Node.{master, nodes_of}
use Rattle.record_changes.specs.Atoms.{chapter_uids, edition_uids}
use Rattle.record_changes.specs.Identifiers.{renumbered}
use Rattle.output_records.specs.Attachments.{file_numbers, file_uids, files_of}
use Rattle.output_records.specs.Chapters.{chapter_numbers, chapters_in, edition_numbers, joined_chapters}
use Rattle.merge_plan.proofs.ChainLemmas.{begins, lanes-first}
use Rattle.merge_plan.proofs.OrderLemmas.{in_order-all, in_order-length}
use Rattle.merge_plan.proofs.RecordLemmas.{keys-count}

-- A fact of each item holds in any order.
pub ordered-all : {A : Type 0} (P : A → Type 0) (order : List (ℕ × ℕ)) (reads : List InputRead) (items : List A) → All P items → All P (ordered order reads items)
ordered-all P order reads items each = in_order-all P order (keys_from 0 reads) items each

-- The source is appended to the previous one.
abbrev source_goes_on : Source → Bool
source_goes_on s = is_appended s.1

begun-many : (sources : List Source) → length (flat_map (begins source_goes_on given_of) sources) ≡ length (tracks_taken (map (λ (s : Source). s.1) sources))
begun-many [] = refl
begun-many (s ∷ ss) =
    length-append (begins source_goes_on given_of s) (flat_map (begins source_goes_on given_of) ss)
    ∙ ap₂ (λ a b. a + b) (of (is_appended s.1)) (begun-many ss)
    ∙ sym (length-append (tracks_begun s.1) (tracks_taken (map (λ (x : Source). x.1) ss)))
  where
    of : (b : Bool) → length (if b then [] else given_of s) ≡ length (if b then [] else s.1.taken)
    of true = refl
    of false = length-map s.1.taken (given_from s.1.times (append_offset s.1) s.1.blocks s.0)

-- There is one output track for each track that begins one.
pub lanes-many : (sources : List Source) → length (lanes_given sources) ≡ length (tracks_taken (map (λ (s : Source). s.1) sources))
lanes-many sources =
    let one : List Given → ℕ = λ lane. 0 in
    let first : Given → ℕ = λ g. 0 in
    let begun : List Given = flat_map (begins source_goes_on given_of) sources in
    sym (length-map (lanes_given sources) one) ∙ ap (λ (l : List ℕ). length l) (lanes-first source_goes_on given_of one first (λ x xs. refl) sources) ∙ length-map begun first ∙ begun-many sources

-- The order of the output has each output track.
pub lanes-ordered-count : (order : List (ℕ × ℕ)) (sources : List Source) → length (lanes_ordered order sources) ≡ length (lanes_given sources)
lanes-ordered-count order sources =
    let reads : List InputRead = map (λ (s : Source). s.1) sources in
    in_order-length order (keys_from 0 reads) (lanes_given sources) (keys-count 0 reads ∙ sym (lanes-many sources))

-- ---- data of inputs that doesn't depend on the order

module _ (lanes others : LaneUids) where
  chapters-free : (before number : ℕ) (ks : List Kept) → flat_map chapters_in (records_from lanes before number ks) ≡ flat_map chapters_in (records_from others before number ks)
  chapters-free before number [] = refl
  chapters-free before number (k ∷ ks) =
      let owner : ℕ = owner_at before number k.1 in
      ap (λ l. chapters_in (records_in (track_uids_at lanes owner k.1) (uids_at lanes owner) k) ++ l) (chapters-free owner (number + 1) ks)

  files-free : (before number : ℕ) (ks : List Kept) → files_of (records_from lanes before number ks) ≡ files_of (records_from others before number ks)
  files-free before number [] = refl
  files-free before number (k ∷ ks) = ap (λ l. k.0 ++ l) (files-free (owner_at before number k.1) (number + 1) ks)

module _ (order : List (ℕ × ℕ)) (reads : List InputRead) where
  abbrev kept_all : List Kept
  kept_all = map kept_anywhere reads

  -- The editions, chapters and attached files of the output, and their identifiers, are the same in any order of its tracks.
  pub joined-same : joined_chapters (records_of order reads) ≡ joined_chapters (records_of [] reads)
  joined-same = ap (λ ns. master CHAPTERS 0 (nodes_of ns)) (chapters-free (lane_uids order reads) (lane_uids [] reads) 0 0 kept_all)

  pub editions-same : edition_numbers (records_of order reads) ≡ edition_numbers (records_of [] reads)
  editions-same = ap (λ n. renumbered (edition_uids n)) joined-same

  pub chapters-same : chapter_numbers (records_of order reads) ≡ chapter_numbers (records_of [] reads)
  chapters-same = ap (λ n. renumbered (chapter_uids n)) joined-same

  pub files-same : file_numbers (records_of order reads) ≡ file_numbers (records_of [] reads)
  files-same = ap (λ fs. renumbered (file_uids fs)) (files-free (lane_uids order reads) (lane_uids [] reads) 0 0 kept_all)
