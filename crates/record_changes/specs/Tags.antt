-- The Tags of an input, as an output gets them: RFC 9559, section 5.1.8 (Tags). The rule is this project's. `numbers` gives the output's number for
-- the ID of a target and an identifier, if the output has the item.
use Rattle.std.specs.Prelude.{ℕ, ◌==◌, Bool, true, not, ◌&&◌, ◌||◌, if◌then◌else◌, List, [], ◌∷◌, map, filter, flat_map, Option, is_some}
use Rattle.std.specs.List.{list_any}
use Rattle.mkv_schema.specs.declared.ids.TheConstants.{TAG, TARGETS, TAG_TRACK_UID, TAG_EDITION_UID, TAG_CHAPTER_UID, TAG_ATTACHMENT_UID}
use Rattle.tree_format.specs.Node.{Node, id_of, children, with_children}
use Rattle.tree_format.specs.Values.{integer_of}
use Rattle.tree_format.specs.Children.{uint_leaf, given}
use Rattle.record_changes.specs.declared.uid_map.TagKeep.{TagKeep}
use Rattle.record_changes.specs.declared.targets.TagTargets.{TagTargets}

-- ---- a target

-- The ID `id` is the UID of a track, edition, chapter or attached file, which a Targets may have. `is_target` uses it.
abbrev pub is_target_id : ℕ → Bool
is_target_id id = id == TAG_TRACK_UID || id == TAG_EDITION_UID || id == TAG_CHAPTER_UID || id == TAG_ATTACHMENT_UID

-- The node `n` is a child of Targets that names one item; 0 names all of its kind. Only such a target gets the output's number. Used by
-- `tag_targets_of`, `written_target` and others.
abbrev pub is_target : Node → Bool
is_target n = is_target_id (id_of n) && not (integer_of n == 0)

-- the output's number for the item that `target` names, by `numbers`, or None if the output lacks it. Targets are written and counted by it.
abbrev pub number_of : (ℕ → ℕ → Option ℕ) → Node → Option ℕ
number_of numbers target = numbers (id_of target) (integer_of target)

-- the child `n` of Targets, as the output gets it with its `numbers`, as a list. A target gets its number or is removed, and others are unchanged.
-- `written_part` uses it.
abbrev pub written_target : (ℕ → ℕ → Option ℕ) → Node → List Node
written_target numbers n = if is_target n then given (uint_leaf (id_of n)) (number_of numbers n) else n ∷ []

-- ---- a Tag

-- the child `n` of a Tag, as the output gets it: a Targets with the output's `numbers`, and others unchanged. `written_tag` uses it.
abbrev pub written_part : (ℕ → ℕ → Option ℕ) → Node → Node
written_part numbers n = if id_of n == TARGETS then with_children n (flat_map (written_target numbers) (children n)) else n

-- the Tag `tag`, as the output of a merge gets it: with the output's `numbers` in its Targets. `written_child` uses it.
abbrev pub written_tag : (ℕ → ℕ → Option ℕ) → Node → Node
written_tag numbers tag = with_children tag (map (written_part numbers) (children tag))

-- the targets in `n`, a child of a Tag; none unless it is a Targets. The summary of a Tag counts them. Used by `tag_targets_in_part`, `aims_in` and
-- others.
abbrev pub targets_in : Node → List Node
targets_in n = if id_of n == TARGETS then filter is_target (children n) else []

-- the summary of `targets`, which decides whether their Tag is kept. It has whether there is any target, one of a track, and one in the output by its
-- `numbers`. `aims_in` makes it of all targets of a Tag.
abbrev pub tag_targets_of : (ℕ → ℕ → Option ℕ) → List Node → TagTargets
tag_targets_of numbers targets = record {
  any = list_any (λ n. true) targets;
  track = list_any (λ n. id_of n == TAG_TRACK_UID) targets;
  written = list_any (λ n. is_some (number_of numbers n)) targets;
}

-- the summary of the two lists of targets with the summaries `some` and `others` together. The contract of `TagTargets::or` promises it.
abbrev pub both_aims : TagTargets → TagTargets → TagTargets
both_aims some others = record {
  any = some.any || others.any;
  track = some.track || others.track;
  written = some.written || others.written;
}

-- the summary of all targets of the Tag `tag`; `numbers` has the ones that are in the output. `are_kept` decides by it.
abbrev pub aims_in : (ℕ → ℕ → Option ℕ) → Node → TagTargets
aims_in numbers tag = tag_targets_of numbers (flat_map targets_in (children tag))

-- A Tag whose targets have the summary `aims` is kept in the output of a merge. The choice `keep` has its kind, with tracks or others, and it has no
-- targets or one that is in the output. Used by `written_child`.
abbrev pub are_kept : TagKeep → TagTargets → Bool
are_kept keep aims = (if aims.track then keep.tracks else keep.global) && (not aims.any || aims.written)

-- ---- all Tags

-- the child `n` of Tags, as the output gets it with its `numbers`, as a list, empty unless it is a Tag that `keep` keeps. `written_tags` joins them.
abbrev pub written_child : TagKeep → (ℕ → ℕ → Option ℕ) → Node → List Node
written_child keep numbers n = if id_of n == TAG && are_kept keep (aims_in numbers n) then written_tag numbers n ∷ [] else []

-- the Tags `tags` of an input, as the output of a merge gets them: the ones that `keep` keeps, with the output's `numbers`. The contract of
-- `merge_tags` promises them.
abbrev pub written_tags : TagKeep → (ℕ → ℕ → Option ℕ) → Node → Node
written_tags keep numbers tags = with_children tags (flat_map (written_child keep numbers) (children tags))
