-- Chapters with the identifiers of a merge keep them when they are merged again: RFC 9559, section 5.1.7 (Chapters Element). This is this
-- project's promise.
use Rattle.std.specs.Prelude.{◌≡◌, ◌<◌, ◌^◌, ℕ, List, All}
use Rattle.tree_format.specs.Node.{Node, IsMaster}
use Rattle.tree_format.specs.NormalForm.{octets}
use Rattle.tree_format.specs.Standing.{placed}
use Rattle.record_changes.specs.Identifiers.{renumbered}
use Rattle.record_changes.specs.Atoms.{chapter_uids, edition_uids, editions_of}
use Rattle.record_changes.specs.ChapterIdentifiers.{with_identifiers}

-- the EditionUIDs that a merge gives to the editions of the Chapters `chapters`. Used by `settled`, `AreChapters` and others.
abbrev pub edition_numbers : Node → List ℕ
edition_numbers chapters = renumbered (edition_uids chapters)

-- the ChapterUIDs that a merge gives to the atoms of the Chapters `chapters`. Used by `settled`, `AreChapters` and others.
abbrev pub chapter_numbers : Node → List ℕ
chapter_numbers chapters = renumbered (chapter_uids chapters)

-- the Chapters `chapters` with the identifiers of a merge, as the output of the first merge has them. The law `chapters_stay` uses it.
abbrev pub settled : Node → Node
settled chapters = with_identifiers (edition_numbers chapters) (chapter_numbers chapters) chapters

-- The chapters and their editions are masters, and the identifiers that a merge gives them have 64 bits. It is the condition of the law
-- `chapters_stay`.
pub record AreChapters (chapters : Node) : Type 0 where
  pub master : IsMaster chapters
  pub editions : All IsMaster (editions_of chapters)
  pub edition_numbers : All (λ n. n < 2 ^ 64) (edition_numbers chapters)
  pub chapter_numbers : All (λ n. n < 2 ^ 64) (chapter_numbers chapters)

-- Chapters with the identifiers of a merge have them when they are written and read at an offset `place`. A merge writes them as they were. It is the
-- law `chapters_stay`.
pub record ChaptersStay : Type 0 where
  pub editions : (chapters : Node) (place : ℕ) → AreChapters chapters → edition_uids (placed place (settled chapters)) ≡ edition_numbers chapters
  pub chapters : (chapters : Node) (place : ℕ) → AreChapters chapters → chapter_uids (placed place (settled chapters)) ≡ chapter_numbers chapters
  pub same : (chapters : Node) (place : ℕ) → AreChapters chapters → octets (settled (placed place (settled chapters))) ≡ octets (settled chapters)
