-- The chapters of a Chapters element within a period of time, for one part of a split: RFC 9559, section 5.1.7 (Chapters). The rule for a period is
-- this project's.
use Rattle.std.specs.Prelude.{ℕ, ◌-◌, ◌==◌, min, max, nat_lt, Bool, ◌&&◌, if◌then◌else◌, List, [], ◌∷◌, ◌++◌, flat_map, find, Option, Some, None}
use Rattle.std.specs.Option.{option_map, option_or}
use Rattle.std.specs.List.{list_any}
use Rattle.mkv_schema.specs.declared.ids.TheConstants.{EDITION_ENTRY, CHAPTER_ATOM, CHAPTER_TIME_START, CHAPTER_TIME_END}
use Rattle.tree_format.specs.Node.{Node, Nodes, leaf, master, none, node, nodes_of, list_of, id_of, children, with_children}
use Rattle.tree_format.specs.Values.{integer_in}
use Rattle.tree_format.specs.Children.{uint_leaf, set_each, given}
use Rattle.record_changes.specs.declared.stretch.Stretch.{Stretch}
use Rattle.record_changes.specs.Atoms.{value_in}
use Rattle.record_changes.specs.Before.{is_before}

-- ---- times

-- A chapter from `start` to `end` nanoseconds is in the period `s`: it starts in it, or starts before it and ends after its start. A chapter without
-- an end never ends. `cut_at` keeps only such atoms.
abbrev pub takes : Stretch → ℕ → Option ℕ → Bool
takes s start end = if nat_lt start s.from then is_before end s.from else is_before s.to start

-- the time `time`, at most `limit` if there is one, both in nanoseconds. `within` uses it.
abbrev pub up_to : Option ℕ → ℕ → ℕ
up_to None time = time
up_to (Some limit) time = min time limit

-- the time `time`, in nanoseconds, limited to the period `s` and relative to its start, as a part of a split has it. `times_within` uses it.
abbrev pub within : Stretch → ℕ → ℕ
within s time = up_to s.to (max time s.from) - s.from

-- ---- one atom

-- the start of `atom`, a ChapterAtom, in nanoseconds, or 0 if it has none. Parts and split points use it.
abbrev pub start_of : Node → ℕ
start_of atom = value_in CHAPTER_TIME_START atom

-- the start of the first atom in `ns`, the siblings after an atom, in nanoseconds, or None. An atom without an end ends there. Used by `end_of` and
-- `cut_child`.
abbrev pub next_start : List Node → Option ℕ
next_start ns = option_map start_of (find (λ n. id_of n == CHAPTER_ATOM) ns)

-- the end of `atom` in nanoseconds: its ChapterTimeEnd, or `next`, the start of the next atom, or None. `cut_at` uses it.
abbrev pub end_of : Node → Option ℕ → Option ℕ
end_of atom next = option_or (integer_in CHAPTER_TIME_END atom) next

-- a ChapterTimeEnd of `end` nanoseconds, limited to the period `s`, as a list; empty without `end`. The contract of `set_end` promises it.
abbrev pub end_within : Stretch → Option ℕ → List Node
end_within s end = given (λ time. uint_leaf CHAPTER_TIME_END (within s time)) end

-- the start of `atom`, and its end if present, as new children limited to the period `s`, which replace the old ones in a part. `cut_at` sets them.
-- Used by `mutual`.
abbrev pub times_within : Stretch → Node → List Node
times_within s atom = uint_leaf CHAPTER_TIME_START (within s (start_of atom)) ∷ end_within s (integer_in CHAPTER_TIME_END atom)

-- ---- all atoms

-- a child of an edition or atom, cut to the period `s`, as a list; `next` is the start of the next atom beside it, in nanoseconds. An atom outside
-- the period is left out. An atom in it keeps the atoms inside that are in the period, and other children are unchanged. The contract of `cut_child`
-- promises it.
abbrev mutual
  pub cut_at : Stretch → Node → Option ℕ → List Node
  cut_at s (leaf id at body) next = leaf id at body ∷ []
  cut_at s (master id at kids) next =
      if id == CHAPTER_ATOM
      then
      (if takes s (start_of (master id at kids)) (end_of (master id at kids) next)
      then set_each (times_within s (master id at kids)) (master id at (nodes_of (cut_among s kids))) ∷ []
      else [])
      else master id at kids ∷ []

  pub cut_among : Stretch → Nodes → List Node
  cut_among s none = []
  cut_among s (node n ns) = cut_at s n (next_start (list_of ns)) ++ cut_among s ns

-- `n`, an edition or atom, with its children cut to the period `s`. The contract of the function with this name promises it. Used by
-- `edition_within`.
abbrev pub cut_inside : Stretch → Node → Node
cut_inside s n = with_children n (cut_among s (nodes_of (children n)))

-- The edition `edition` has an atom directly in it. An edition of a part without one is left out.
abbrev pub has_atom : Node → Bool
has_atom edition = list_any (λ n. id_of n == CHAPTER_ATOM) (children edition)

-- `n`, a child of Chapters, cut to the period `s`, as a list; empty unless it is an edition with an atom in the period. `cut` joins them.
abbrev pub edition_within : Stretch → Node → List Node
edition_within s n = if id_of n == EDITION_ENTRY && has_atom (cut_inside s n) then cut_inside s n ∷ [] else []

-- the master `tree` with the children in the list, or None if the list is empty. `cut` ends with it.
abbrev pub unless_empty : Node → List Node → Option Node
unless_empty tree [] = None
unless_empty tree (n ∷ ns) = Some (with_children tree (n ∷ ns))

-- the Chapters `chapters` cut to the period `s`: its editions with an atom in it. It is None without such editions. The parts of a split have it.
abbrev pub cut : Stretch → Node → Option Node
cut s chapters = unless_empty chapters (flat_map (edition_within s) (children chapters))
