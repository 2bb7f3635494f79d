-- Look-ups in the table by ID: RFC 9559, section 5 (Matroska Schema).
use Rattle.std.specs.Prelude.{ℕ, ◌==◌, Bool, true, false, ◌||◌, Option, Some, None, if◌then◌else◌, List, map, find}
use Rattle.std.specs.Option.{option_map, option_map_or, option_and_then}
use Rattle.mkv_schema.specs.declared.kind.ElementKind.{ElementKind}
use Rattle.mkv_schema.specs.declared.kind.ElementKind.TheVariants.{Master}
use Rattle.mkv_schema.specs.declared.parents.Parents.{Parents}
use Rattle.mkv_schema.specs.declared.parents.Parents.TheVariants.{Root, AnyMaster, ChildOf, ChildOfOrItself}
use Rattle.mkv_schema.specs.declared.ids.TheConstants.{SEGMENT}
use Rattle.mkv_schema.specs.Table.{Entry, Default, number_value, text_value, table}

-- the IDs of the table, in its order. The contract of `row` promises that no two of them are equal.
abbrev pub table_ids : List ℕ
table_ids = map (λ e. e.id) table

-- the row of the ID `id` in the table, or None if it has none. All look-ups use it.
unfoldable pub entry_of : ℕ → Option Entry
entry_of id = find (λ e. e.id == id) table

-- the name of the Element `id`, as the standards print it, or None if the table doesn't have it. Messages have it.
abbrev pub name_of : ℕ → Option (List ℕ)
name_of id = option_map (λ e. e.name) (entry_of id)

-- the kind of value of the Element `id`, or None if the table doesn't have it. Values and children are checked with it.
abbrev pub kind_of : ℕ → Option ElementKind
kind_of id = option_map (λ e. e.kind) (entry_of id)

-- Elements of this kind are masters. `is_master` uses it on a row.
abbrev pub is_master_kind : ElementKind → Bool
is_master_kind Master = true
is_master_kind _ = false

-- The table has the ID `id` as a master, whose content is read as Elements. Readers of trees use it.
abbrev pub is_master : ℕ → Bool
is_master id = option_map_or (λ e. is_master_kind e.kind) (entry_of id) false

-- ---- Parents

-- Elements with the given parents are at level 0. `is_level0` uses it on a row. Used by `is_level0`.
abbrev pub is_root : Parents → Bool
is_root Root = true
is_root _ = false

-- The table has the ID `id` at level 0: EBML, or Segment. Such an Element ends a Segment or Cluster of unknown size. Used by `ends_cluster` and
-- `ends_segment`.
abbrev pub is_level0 : ℕ → Bool
is_level0 id = option_map_or (λ e. is_root e.parents) (entry_of id) false

-- Elements with the given parents are children of `parent` only. `is_level1` uses it on a row. Used by `is_level1`.
abbrev pub is_child_of : ℕ → Parents → Bool
is_child_of parent (ChildOf own) = parent == own
is_child_of parent _ = false

-- The table has the ID `id` at level 1: as a child of Segment, which excludes Global Elements. Such an Element ends a Cluster of unknown size. Used
-- by `ends_cluster`.
abbrev pub is_level1 : ℕ → Bool
is_level1 id = option_map_or (λ e. is_child_of SEGMENT e.parents) (entry_of id) false

-- The ID `parent` is one of the parents `parents` of the Element `id`. `may_stand` uses it on a row.
abbrev pub allows : Parents → ℕ → ℕ → Bool
allows Root id parent = false
allows AnyMaster id parent = is_master parent
allows (ChildOf own) id parent = parent == own
allows (ChildOfOrItself own) id parent = parent == own || parent == id

-- An Element `id` may be a direct child of an Element `parent`. Trees that are read or written are valid only so. Used by `is_level0`, `is_level1`
-- and others.
abbrev pub may_stand : ℕ → ℕ → Bool
may_stand id parent = option_map_or (λ e. allows e.parents id parent) (entry_of id) false

-- the kind of the Element `id`, if it may be a child of `parent`, or else None. Values of leaves are checked with it.
abbrev pub kind_under : ℕ → ℕ → Option ElementKind
kind_under id parent = if may_stand id parent then kind_of id else None

-- ---- Defaults

-- the number of a default in the table, or None if it is a text. `uint_default` uses it.
abbrev pub number_in : Default → Option ℕ
number_in (number_value n) = Some n
number_in (text_value t) = None

-- the bytes of the text of a default in the table, or None if it is a number. `text_default` uses it.
abbrev pub text_in : Default → Option (List ℕ)
text_in (number_value n) = None
text_in (text_value t) = Some t

-- the default of the integer Element `id`, which is its value if it is empty or missing; None if the standards give none. Readers use it.
abbrev pub uint_default : ℕ → Option ℕ
uint_default id = option_and_then (λ e. option_and_then number_in e.default) (entry_of id)

-- the default of the text Element `id`, which is its value if it is missing; None if the standards give none. Readers use it.
abbrev pub text_default : ℕ → Option (List ℕ)
text_default id = option_and_then (λ e. option_and_then text_in e.default) (entry_of id)
