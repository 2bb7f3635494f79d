-- The identifiers of an output: RFC 9559, sections 5.1.4.1.2 (TrackUID Element), 5.1.6.1.5 (FileUID Element), 5.1.7.1.1 (EditionUID Element) and
-- 5.1.7.1.4.1 (ChapterUID Element). The choice of identifiers is this project's.
use Rattle.std.specs.Prelude.{◌<◌, ◌^◌, ℕ, List}
use Rattle.std.specs.List.{All}
use Rattle.output_records.specs.Attachments.{file_numbers}
use Rattle.output_records.specs.Chapters.{chapter_numbers, edition_numbers}
use Rattle.merge_inputs.specs.Input.{InputRead}
use Rattle.merge_plan.specs.Records.{records_of, tracks_ordered, uids_of}

-- The identifiers in an output: TrackUIDs, EditionUIDs, ChapterUIDs and FileUIDs, each in the order of the Elements. Used for the Targets of Tags.
-- Used by `identifiers_of`, `Have64Bits` and others.
pub record Identifiers : Type 0 where
  pub tracks : List ℕ
  pub editions : List ℕ
  pub chapters : List ℕ
  pub files : List ℕ

-- the identifiers in the output of a merge of the inputs `reads`, after the ones that occur again were changed. `order` gives the order of the output
-- tracks. `CanBeWritten` and the laws on a repeated merge use them.
abbrev pub identifiers_of : List (ℕ × ℕ) → List InputRead → Identifiers
identifiers_of order reads = record {
  tracks = uids_of (tracks_ordered order reads);
  editions = edition_numbers (records_of order reads);
  chapters = chapter_numbers (records_of order reads);
  files = file_numbers (records_of order reads);
}

-- Each identifier in `ids` is below 2^64, and so can be stored. A condition of the plan that `merge` carries out, and of the laws on a repeated
-- merge.
pub record Have64Bits (ids : Identifiers) : Type 0 where
  pub tracks : All (λ n. n < 2 ^ 64) ids.tracks
  pub editions : All (λ n. n < 2 ^ 64) ids.editions
  pub chapters : All (λ n. n < 2 ^ 64) ids.chapters
  pub files : All (λ n. n < 2 ^ 64) ids.files
