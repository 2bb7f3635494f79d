-- The code's counts of tags by TrackUID: RFC 9559, section 5.1.8 (Tags Element).
use Rattle.std.specs.Prelude.{◌≡◌, ℕ, ◌+◌, nat_eq, if◌then◌else◌, List, [], length, Option}
use Rattle.std.specs.List.{list_any}
use Rattle.std.specs.Option.{unwrap_or}
use Rattle.indexmap.specs.IndexMap.{IndexMap, get}
use Rattle.indexmap.specs.IndexSet.{insert_all}
use Rattle.mkv_schema.specs.declared.ids.TheConstants.{SIMPLE_TAG}
use Rattle.tree_format.specs.Node.{Node, children}
use Rattle.tree_format.specs.Changes.{part}
use Rattle.mkv_info.specs.declared.tags.Scope.TheVariants.{Track}
use Rattle.mkv_info.specs.Tags.{is_counted, tag_count, tracks_named}

-- the count of the TrackUID `uid` in `counts`, a map from TrackUIDs, or 0 if it isn't there. Contracts of the counts use it.
abbrev pub tags_of_uid : {S : Type 0} → IndexMap ℕ ℕ S → ℕ → ℕ
tags_of_uid counts uid = unwrap_or (get nat_eq counts uid) 0

-- the TrackUIDs that the Tag `tag` names, each once, in the order of their first places. The contract of the function with this name promises them.
abbrev pub uids_named : Node → List ℕ
uids_named tag = insert_all nat_eq [] (tracks_named tag)

-- `count` if the TrackUID `uid` is one of `uids`, or else 0. `AddsFor` adds it.
abbrev pub if_among : List ℕ → ℕ → ℕ → ℕ
if_among uids count uid = if list_any (nat_eq uid) uids then count else 0

-- The counts `new` have `count` more than `old` for each TrackUID in `uids`, and the same number for every other. Contracts of `add` and `add_all`
-- promise it.
abbrev pub AddsFor : {S : Type 0} → IndexMap ℕ ℕ S → IndexMap ℕ ℕ S → List ℕ → ℕ → Type 0
AddsFor old new uids count = (uid : ℕ) → tags_of_uid new uid ≡ tags_of_uid old uid + if_among uids count uid

-- the number of SimpleTags directly in the Tag `tag`, if it names the track with the TrackUID `uid`, or else 0. `CountsTag` adds it.
abbrev pub count_if_named : Node → ℕ → ℕ
count_if_named tag uid = if is_counted (Track uid) tag then length (part SIMPLE_TAG (children tag)) else 0

-- The counts `new` are the counts `old` with the SimpleTags of the Tag `tag` added for each TrackUID that it names. The contract of `count_tag`
-- promises it.
abbrev pub CountsTag : {S : Type 0} → IndexMap ℕ ℕ S → IndexMap ℕ ℕ S → Node → Type 0
CountsTag old new tag = (uid : ℕ) → tags_of_uid new uid ≡ tags_of_uid old uid + count_if_named tag uid

-- For each TrackUID, `counts` has the number of SimpleTags that the Tags `tags` has for it. The contract of `tag_counts` promises it.
abbrev pub AreCountsOf : {S : Type 0} → IndexMap ℕ ℕ S → Option Node → Type 0
AreCountsOf counts tags = (uid : ℕ) → tags_of_uid counts uid ≡ tag_count (Track uid) tags
