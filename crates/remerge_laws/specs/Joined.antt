-- Tags of several inputs in one Tags Element, which are merged again: RFC 9559, section 5.1.8 (Tags Element). This is this project's promise.
use Rattle.std.specs.Prelude.{◌≡◌, ℕ, List, All, Option}
use Rattle.mkv_schema.specs.declared.ids.TheConstants.{TAG, TAGS}
use Rattle.tree_format.specs.Node.{Node, master, nodes_of, id_of}
use Rattle.tree_format.specs.NormalForm.{octets}
use Rattle.tree_format.specs.Standing.{placed}
use Rattle.record_changes.specs.Tags.{written_tag, written_tags}
use Rattle.record_laws.specs.Tags.{AreSmall, KeepsTarget, keep_all, targets_of}

-- The Tag `n` was written by a merge from a Tag of an input, with some identifiers of 64 bits in its Targets. A condition of `JoinedTagsStay`.
pub record IsWrittenTag (n : Node) : Type 0 where
  pub numbers : ℕ → ℕ → Option ℕ
  pub small : AreSmall numbers
  pub tag : Node
  pub is : id_of tag ≡ TAG
  pub written : n ≡ written_tag numbers tag

-- A Tags Element of `tags`, which a merge wrote, is read at the offset `place` and written as it was by the next merge. `again` gives the new
-- identifier for a child of Targets, by its ID and identifier; it must keep the identifier of each. The law `joined_tags_stay` states it.
abbrev pub JoinedTagsStay : Type 0
JoinedTagsStay =
    (again : ℕ → ℕ → Option ℕ) (tags : List Node) (place : ℕ) → All IsWrittenTag tags
    → All (KeepsTarget again) (targets_of (placed place (master TAGS 0 (nodes_of tags))))
    → octets (written_tags keep_all again (placed place (master TAGS 0 (nodes_of tags)))) ≡ octets (master TAGS 0 (nodes_of tags))
