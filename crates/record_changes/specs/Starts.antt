-- Start times of chapters, which a merge may be split at: RFC 9559, section 5.1.7 (Chapters).
use Rattle.std.specs.Prelude.{ℕ, List, [], ◌∷◌, map}
use Rattle.std.specs.Option.{option_map_or}
use Rattle.mkv_schema.specs.declared.ids.TheConstants.{EDITION_ENTRY, CHAPTER_ATOM}
use Rattle.tree_format.specs.Node.{Node, children}
use Rattle.tree_format.specs.Values.{first_child}
use Rattle.tree_format.specs.Changes.{part}
use Rattle.record_changes.specs.Cut.{start_of}

-- the start of `child`, a child of an edition, in nanoseconds, if it is an atom, as a list. The contract of `push_start` promises it.
abbrev pub own_starts : Node → List ℕ
own_starts child = map start_of (part CHAPTER_ATOM (child ∷ []))

-- the starts of the top atoms of `edition`, in nanoseconds. The contract of `push_starts` promises them.
abbrev pub starts_inside : Node → List ℕ
starts_inside edition = map start_of (part CHAPTER_ATOM (children edition))

-- the starts, in nanoseconds, of the top atoms in the first edition of `chapters`, or no starts without one. A merge may be split there. Used by
-- `starts_in` of `merge_plan`.
abbrev pub top_starts : Node → List ℕ
top_starts chapters = option_map_or starts_inside (first_child EDITION_ENTRY chapters) []
