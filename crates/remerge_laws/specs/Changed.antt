-- Chapters and Tags that a merge changes stay valid: RFC 9559, sections 5.1.7 (Chapters Element) and 5.1.8 (Tags Element). The changes are this
-- project's.
use Rattle.std.specs.Prelude.{◌≡◌, ◌≤◌, ◌<◌, ◌^◌, ℕ, List, All, Option, IfSome}
use Rattle.mkv_schema.specs.declared.ids.TheConstants.{CHAPTERS, TAGS}
use Rattle.tree_format.specs.Node.{Node, master, nodes_of, id_of, children, depth, IsMaster}
use Rattle.tree_format.specs.NormalForm.{octets}
use Rattle.tree_format.specs.Standing.{IsSound}
use Rattle.record_changes.specs.Atoms.{chapter_uids, edition_uids}
use Rattle.record_changes.specs.ChapterIdentifiers.{with_identifiers}
use Rattle.record_changes.specs.Tags.{written_tags}
use Rattle.record_changes.specs.declared.uid_map.TagKeep.{TagKeep}

-- The record `old` was changed to `new`, which is a master with the same ID and valid Elements, and isn't deeper. Used for Chapters and Tags that a
-- merge changes.
pub record StillStands (old new : Node) : Type 0 where
  pub id : id_of new ≡ id_of old
  pub master : IsMaster new
  pub sound : IsSound new
  pub shallow : depth new ≤ depth old

-- The Chapters `chapters` stay valid after a merge replaces their EditionUIDs and ChapterUIDs by `editions` and `uids`, if all of them have 64 bits.
-- The law `chapters_stand` states it.
abbrev pub ChaptersStand : Type 0
ChaptersStand =
    (editions uids : List ℕ) (chapters : Node) → IsMaster chapters → id_of chapters ≡ CHAPTERS → IsSound chapters
    → All (λ n. n < 2 ^ 64) editions → All (λ n. n < 2 ^ 64) uids → StillStands chapters (with_identifiers editions uids chapters)

-- The Tags `tags` stay valid if a merge writes only the ones that `keep` keeps. `numbers` gives the new identifier for a child of Targets, by its ID
-- and identifier, or None; each must have 64 bits. The law `tags_stand` states it.
abbrev pub TagsStand : Type 0
TagsStand =
    (keep : TagKeep) (numbers : ℕ → ℕ → Option ℕ) (tags : Node) → IsMaster tags → id_of tags ≡ TAGS → IsSound tags
    → ((id uid : ℕ) → IfSome (numbers id uid) (λ n. n < 2 ^ 64)) → StillStands tags (written_tags keep numbers tags)

-- A Chapters Element built of the children of `chapters` has the same identifiers. It is written alike if both get the EditionUIDs `editions` and the
-- ChapterUIDs `uids`. The law `children_decide` states it.
pub record ChildrenDecide : Type 0 where
  pub editions : (chapters : Node) → edition_uids (master CHAPTERS 0 (nodes_of (children chapters))) ≡ edition_uids chapters
  pub chapters : (chapters : Node) → chapter_uids (master CHAPTERS 0 (nodes_of (children chapters))) ≡ chapter_uids chapters
  pub same : (editions uids : List ℕ) (chapters : Node) → IsMaster chapters → id_of chapters ≡ CHAPTERS
      → octets (with_identifiers editions uids (master CHAPTERS 0 (nodes_of (children chapters)))) ≡ octets (with_identifiers editions uids chapters)
