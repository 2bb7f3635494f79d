-- All tags are the tags counted and the tags of the rest.
use Rattle.std.proofs.Common.{◌≡◌, ℕ, ◌+◌, length, drop}
use Rattle.mkv_info.specs.TagCounts.{tags_of_uid}
use Rattle.mkv_info.specs.Tags.{simple_tags}
use Rattle.mkv_info.specs.declared.tags.Scope.TheVariants.{Track}
use Rattle.mkv_info.proofs.tag_counts.tag_counts.Given as goal

abbrev pub invariant-loop-tag : goal.invariant-loop-tag
invariant-loop-tag l = (uid : ℕ) → tags_of_uid l.counts uid + length (simple_tags (Track uid) (drop l.tag-index l.tag-items)) ≡ length (simple_tags (Track uid) l.tag-items)
