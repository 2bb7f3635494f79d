-- The Chapters of an output that is merged by itself: RFC 9559, section 5.1.7 (Chapters Element). This is this project's promise.
use Rattle.std.specs.Prelude.{◌≡◌, ℕ, List, [], ◌∷◌, None, IfSome}
use Rattle.mkv_schema.specs.declared.ids.TheConstants.{CHAPTERS}
use Rattle.output_model.specs.Sound.{IsRecord}
use Rattle.record_changes.specs.Atoms.{chapter_uids, edition_uids}
use Rattle.output_records.specs.Inputs.{uids_in}
use Rattle.merge_inputs.specs.Input.{InputRead}
use Rattle.merge_plan.specs.Identifiers.{Have64Bits, identifiers_of}
use Rattle.merge_plan.specs.Records.{chapters_of}
use Rattle.remerge_laws.specs.Alike.{MayBeAlike}
use Rattle.remerge_laws.specs.Placed.{MayStandAs}

-- The input `again`, which isn't appended, has the Chapters that a merge of the inputs `reads` wrote, if any. They can be read, and the identifiers
-- have 64 bits. `order` gives the order of the output's tracks. A condition of `ChaptersAreAlikeAgain`.
pub record HasChaptersOf (order : List (ℕ × ℕ)) (reads : List InputRead) (again : InputRead) : Type 0 where
  pub short : Have64Bits (identifiers_of order reads)
  pub records : IfSome (chapters_of reads) (IsRecord CHAPTERS)
  pub stand : MayStandAs (chapters_of reads) again.chapters
  pub alone : again.shift ≡ None

-- An input `again` with the Chapters that a merge of the inputs `reads` wrote has their identifiers. It has the same Chapters after it is merged by
-- itself. `order` gives the order of the first output's tracks. The law `chapters_are_alike_again` states it.
pub record ChaptersAreAlikeAgain : Type 0 where
  pub editions : (order : List (ℕ × ℕ)) (reads : List InputRead) (again : InputRead) → HasChaptersOf order reads again
      → uids_in edition_uids again.chapters ≡ (identifiers_of order reads).editions
  pub chapters : (order : List (ℕ × ℕ)) (reads : List InputRead) (again : InputRead) → HasChaptersOf order reads again
      → uids_in chapter_uids again.chapters ≡ (identifiers_of order reads).chapters
  pub alike : (order : List (ℕ × ℕ)) (reads : List InputRead) (again : InputRead) → HasChaptersOf order reads again
      → MayBeAlike (chapters_of reads) (chapters_of (again ∷ []))
