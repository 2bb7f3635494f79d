-- Chapters of an output that are read and written again: RFC 9559, section 5.1.7 (Chapters Element). This is this project's promise.
use Rattle.std.specs.Prelude.{◌≡◌}
use Rattle.mkv_schema.specs.declared.ids.TheConstants.{CHAPTERS}
use Rattle.tree_format.specs.Node.{Node, master, nodes_of, id_of, children}
use Rattle.tree_format.specs.NormalForm.{octets}
use Rattle.record_changes.specs.Atoms.{chapter_uids, edition_uids}
use Rattle.record_laws.specs.Chapters.{AreChapters, chapter_numbers, edition_numbers, settled}
use Rattle.remerge_laws.specs.Placed.{StandsAs}

-- `chapters` are Chapters before a merge gave them identifiers, and `read` is what was then written, as it is read. `read` has these identifiers, and
-- a merge writes its children as they were. A step of the law on Chapters that are merged again. The law `own_chapters_stay` states it.
pub record OwnChaptersStay : Type 0 where
  pub editions : (chapters read : Node) → AreChapters chapters → StandsAs (settled chapters) read → edition_uids read ≡ edition_numbers chapters
  pub chapters : (chapters read : Node) → AreChapters chapters → StandsAs (settled chapters) read → chapter_uids read ≡ chapter_numbers chapters
  pub same : (chapters read : Node) → AreChapters chapters → id_of chapters ≡ CHAPTERS → StandsAs (settled chapters) read
      → octets (settled (master CHAPTERS 0 (nodes_of (children read)))) ≡ octets (settled chapters)
