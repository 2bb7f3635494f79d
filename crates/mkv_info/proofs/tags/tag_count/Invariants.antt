-- All tags are the tags counted and the tags of the rest.
use Rattle.std.proofs.Common.{◌≡◌, ◌+◌, length, drop}
use Rattle.mkv_info.specs.Tags.{simple_tags}
use Rattle.mkv_info.proofs.tags.tag_count.Given as goal

abbrev pub invariant-loop-tag : goal.invariant-loop-tag
invariant-loop-tag l = l.count + length (simple_tags l.scope (drop l.tag-index l.tag-items)) ≡ length (simple_tags l.scope l.tag-items)
