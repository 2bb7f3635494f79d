-- Statistics among the tags of a file: RFC 9559, section 5.1.8 (Tags). A Tag lists the names of its statistics in a SimpleTag _STATISTICS_TAGS. This
-- is a convention of mkvmerge, which other programs follow; the rule is this project's.
use Rattle.std.specs.Prelude.{◌≡◌, ℕ, ◌-◌, ◌==◌, Bool, false, not, ◌&&◌, ◌||◌, if◌then◌else◌, List, [], ◌∷◌, ◌++◌, length, map, take, drop, filter, flat_map, codes, Option}
use Rattle.std.specs.List.{list_any, slice_split}
use Rattle.std.specs.Option.{option_map, option_map_or}
use Rattle.std.specs.Char.{is_ascii_lowercase}
use Rattle.std.specs.Str.{bytes_eq}
use Rattle.mkv_schema.specs.declared.ids.TheConstants.{TAG, SIMPLE_TAG, TAG_NAME, TAG_STRING}
use denote.Ref.{Bor}
use Rattle.tree_format.specs.Node.{Node, id_of, body_of, children, with_children}
use Rattle.mkv_schema.specs.Value.{text_of}
use Rattle.tree_format.specs.Values.{first_child}

-- ---- names

-- The bytes are a hyphen and a language of three lower-case letters, as at the end of `BPS-eng`. `stem` removes them.
abbrev pub is_language_suffix : List ℕ → Bool
is_language_suffix (hyphen ∷ a ∷ b ∷ c ∷ []) = hyphen == 0x2D && (is_ascii_lowercase a && (is_ascii_lowercase b && is_ascii_lowercase c))
is_language_suffix _ = false

-- the name `name` of a tag without a hyphen and a language of three letters at its end: `BPS` for `BPS-eng`. Statistics are named by it.
abbrev pub stem : List ℕ → List ℕ
stem name = if is_language_suffix (drop (length name - 4) name) then take (length name - 4) name else name

-- the text of the first child of the SimpleTag `n` with the ID `id`, up to its first zero byte, or None. `lists_names` and `is_statistic` read
-- TagName with it.
abbrev pub value_in : ℕ → Node → Option (List ℕ)
value_in id n = option_map (λ value. text_of (body_of value)) (first_child id n)

-- ---- the statistics of a Tag

-- the three names that mean statistics in every Tag, listed or not. `statistics_names` begins with them.
abbrev pub usual_names : List (List ℕ)
usual_names = codes "_STATISTICS_TAGS" ∷ codes "_STATISTICS_WRITING_APP" ∷ codes "_STATISTICS_WRITING_DATE_UTC" ∷ []

-- The SimpleTag `simple` lists the names of statistics in its TagString: the stem of its TagName is _STATISTICS_TAGS. `names_listed` reads it.
abbrev pub lists_names : Node → Bool
lists_names simple = option_map_or (λ name. bytes_eq (stem name) (codes "_STATISTICS_TAGS")) (value_in TAG_NAME simple) false

-- The name `name` is SOURCE_ID, with or without a language. MakeMKV lists it, although it isn't a statistic. `is_listed` excludes it.
abbrev pub is_source : List ℕ → Bool
is_source name = bytes_eq (stem name) (codes "SOURCE_ID")

-- The text `part`, between two spaces of a list, is the name of a statistic: it isn't empty, nor SOURCE_ID. `names_among` uses it.
abbrev pub is_listed : List ℕ → Bool
is_listed part = not (length part == 0) && not (is_source part)

-- the names of statistics among the texts `parts`, the parts of a list of names. Used by `names_in`.
abbrev pub names_among : List (List ℕ) → List (List ℕ)
names_among parts = filter is_listed parts

-- the names of statistics in `list`, a TagString, which one space or more separates. The contract of `add_list` promises them.
abbrev pub names_in : List ℕ → List (List ℕ)
names_in list = names_among (slice_split (λ byte. byte == 0x20) list)

-- the names that `n`, a child of a Tag, lists in its TagString. There are none unless it is a SimpleTag that lists the names of statistics. The
-- contract of `add_names` promises them.
abbrev pub names_listed : Node → List (List ℕ)
names_listed n = if id_of n == SIMPLE_TAG && lists_names n then option_map_or names_in (value_in TAG_STRING n) [] else []

-- the names of the statistics in `tag`: the ones that mean statistics in every Tag, and the ones that its SimpleTags list. Tags are bared by them.
-- Used by `bare_tag` and `without_its_statistics`.
abbrev pub statistics_names : Node → List (List ℕ)
statistics_names tag = usual_names ++ flat_map names_listed (children tag)

-- The name `name` is one of `names`, the names of statistics. `is_named` uses it.
abbrev pub is_one_of : List (List ℕ) → List ℕ → Bool
is_one_of names name = list_any (λ n. bytes_eq name n) names

-- The TagName `name`, with or without its language, is one of `names`. `is_statistic` uses it.
abbrev pub is_named : List (List ℕ) → List ℕ → Bool
is_named names name = is_one_of names name || is_one_of names (stem name)

-- The child `n` of a Tag is a statistic: a SimpleTag whose TagName is one of `names`. The SimpleTags in it go with it, if statistics are left out.
-- Used by `has_statistic`, `is_other` and others.
abbrev pub is_statistic : List (List ℕ) → Node → Bool
is_statistic names n = id_of n == SIMPLE_TAG && option_map_or (is_named names) (value_in TAG_NAME n) false

-- The child `n` of a Tag is a SimpleTag that isn't a statistic, by the names `names`. A Tag with one is kept. Used by `has_other` and
-- `has_nothing_else`.
abbrev pub is_other : List (List ℕ) → Node → Bool
is_other names n = id_of n == SIMPLE_TAG && not (is_statistic names n)

-- The lists `names` and `others` have the same names, in any order. The contract of `statistics_names` compares with it.
abbrev pub HasSame : List (List ℕ) → List (List ℕ) → Type 0
HasSame names others = (name : List ℕ) → is_one_of names name ≡ is_one_of others name

-- the bytes of the names `names` that the code passes by reference, for contracts about statistics
abbrev pub bytes_of : List (Bor (List ℕ)) → List (List ℕ)
bytes_of names = map (λ name. name.now) names

-- The code's names `new` are the names `old` and the names `names`, in any order. Contracts of the functions that add names promise it.
abbrev pub AddsNames : List (Bor (List ℕ)) → List (Bor (List ℕ)) → List (List ℕ) → Type 0
AddsNames old new names = HasSame (bytes_of new) (bytes_of old ++ names)

-- ---- all Tags

-- The Tag `tag` has a statistic and no other SimpleTag, by the names `names`, so it is left out.
abbrev pub has_nothing_else : List (List ℕ) → Node → Bool
has_nothing_else names tag = list_any (is_statistic names) (children tag) && not (list_any (is_other names) (children tag))

-- the child `n` of a Tag, as a list, empty if it is a statistic; `names` has the names of statistics. `bare` joins them.
abbrev pub bare_part : List (List ℕ) → Node → List Node
bare_part names n = if is_statistic names n then [] else n ∷ []

-- the Tag `tag` without the SimpleTags that are statistics, by the names `names`. The contract of the function with this name promises it.
abbrev pub bare : List (List ℕ) → Node → Node
bare names tag = with_children tag (flat_map (bare_part names) (children tag))

-- the Tag `tag` without its statistics, as a list, empty if it has nothing else; `names` are their names. `without_its_statistics` uses it.
abbrev pub bare_tag : List (List ℕ) → Node → List Node
bare_tag names tag = if has_nothing_else names tag then [] else bare names tag ∷ []

-- the child `n` of Tags, without its statistics if it is a Tag, as a list, empty if it has nothing else. `without_statistics` joins them.
abbrev pub without_its_statistics : Node → List Node
without_its_statistics n = if id_of n == TAG then bare_tag (statistics_names n) n else n ∷ []

-- the Tags `tags` of a file without the statistics, as a merge with `--no-statistics-tags` copies them
abbrev pub without_statistics : Node → Node
without_statistics tags = with_children tags (flat_map without_its_statistics (children tags))
