-- The Chapters of an appended input, moved by its append offset: RFC 9559, section 5.1.7 (Chapters). The shift is this project's.
use Rattle.std.specs.Prelude.{ℕ, ◌+◌, ◌-◌, ◌^◌, ◌==◌, min, Bool, ◌||◌, if◌then◌else◌, List, [], ◌∷◌, ◌++◌, map}
use Rattle.std.specs.List.{list_any}
use Rattle.mkv_schema.specs.declared.ids.TheConstants.{EDITION_ENTRY, CHAPTER_ATOM, CHAPTER_TIME_START, CHAPTER_TIME_END}
use Rattle.tree_format.specs.Node.{Node, Nodes, leaf, master, none, node, nodes_of, list_of, id_of, children, with_children}
use Rattle.tree_format.specs.Values.{integer_of}
use Rattle.tree_format.specs.Children.{uint_leaf}

-- the time `time` in nanoseconds, later by `by`, and at most the greatest 64-bit number, as an appended chapter has it. `later_time` uses it.
abbrev pub later : ℕ → ℕ → ℕ
later by time = min (time + by) (2 ^ 64 - 1)

-- The ID `id` is ChapterTimeStart or ChapterTimeEnd, which an append offset moves. `later_time` uses it.
abbrev pub is_time : ℕ → Bool
is_time id = id == CHAPTER_TIME_START || id == CHAPTER_TIME_END

-- the child `n` of an atom, later by `by` nanoseconds if it is a start or an end, and otherwise unchanged, for `shifted_part`
abbrev pub later_time : ℕ → Node → Node
later_time by n = if is_time (id_of n) then uint_leaf (id_of n) (later by (integer_of n)) else n

-- One of `ns`, the children of an atom, is a ChapterTimeStart. Without one, an appended atom gets a start. Used by `missing_start`.
abbrev pub has_start : List Node → Bool
has_start ns = list_any (λ n. id_of n == CHAPTER_TIME_START) ns

-- a ChapterTimeStart of `by` nanoseconds for an atom with the children `ns`, as a list, empty if it has one. `shifted_part` adds it.
abbrev pub missing_start : ℕ → List Node → List Node
missing_start by ns = if has_start ns then [] else uint_leaf CHAPTER_TIME_START by ∷ []

-- a child of an edition or atom, later by `by` nanoseconds; an atom has its children later, and gets a start if it has none. The contracts of
-- `shifted_atom` and `shifted_part` promise it.
abbrev mutual
  pub shifted_part : ℕ → Node → Node
  shifted_part by (leaf id at body) = later_time by (leaf id at body)
  shifted_part by (master id at kids) =
      if id == CHAPTER_ATOM then master id at (nodes_of (shifted_parts by kids ++ missing_start by (list_of kids))) else later_time by (master id at kids)

  pub shifted_parts : ℕ → Nodes → List Node
  shifted_parts by none = []
  shifted_parts by (node n ns) = shifted_part by n ∷ shifted_parts by ns

-- the child `n` of an edition, with all times in it later by `by` nanoseconds if it is an atom. `shifted_edition` uses it.
abbrev pub shifted_in_edition : ℕ → Node → Node
shifted_in_edition by n = if id_of n == CHAPTER_ATOM then shifted_part by n else n

-- the child `n` of Chapters, with all times in it later by `by` nanoseconds if it is an edition. `shifted` uses it.
abbrev pub shifted_edition : ℕ → Node → Node
shifted_edition by n = if id_of n == EDITION_ENTRY then with_children n (map (shifted_in_edition by) (children n)) else n

-- `chapters` with all times of its atoms later by `by` nanoseconds, the append offset of its input. The contract of `shift` promises it.
abbrev pub shifted : ℕ → Node → Node
shifted by chapters = with_children chapters (map (shifted_edition by) (children chapters))
