-- The count of chapters in the JSON of `merge -J`: RFC 9559, section 5.1.7 (Chapters Element). The key is this project's.
use Rattle.std.specs.Prelude.{ℕ, ◌==◌, if◌then◌else◌, List, [], ◌∷◌, flat_map, length, Option, Some, None}
use Rattle.serde_json.specs.Data.{Data}
use Rattle.mkv_schema.specs.declared.ids.TheConstants.{CHAPTER_ATOM, EDITION_ENTRY}
use Rattle.tree_format.specs.Node.{Node, children}
use Rattle.tree_format.specs.Changes.{part}
use Rattle.mkv_info.specs.Json.{array_of, given, object_of, whole}

-- the value of the keys `chapters` and `global_tags` of `merge -J`. It is a list with one object that has the number of entries `n`, or an empty list
-- if `n` is 0.
abbrev pub entries_value : ℕ → Data
entries_value n = array_of (if n == 0 then [] else object_of (given "num_entries" (whole n) ∷ []) ∷ [])

-- the ChapterAtoms directly in an EditionEntry, for all EditionEntries in `ns`, the children of Chapters; nested ones don't count. The JSON has their
-- number, and simple chapters are extracted from them. Used by `chapter_count`.
abbrev pub top_atoms : List Node → List Node
top_atoms ns = flat_map (λ e. part CHAPTER_ATOM (children e)) (part EDITION_ENTRY ns)

-- the number of ChapterAtoms directly in an EditionEntry of the file's first Chapters, or 0 without a Chapters, for the key `chapters` of `merge -J`
abbrev pub chapter_count : Option Node → ℕ
chapter_count None = 0
chapter_count (Some chapters) = length (top_atoms (children chapters))
