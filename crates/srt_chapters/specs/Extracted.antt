-- A Chapters Element as simple chapters: the top atoms of its first edition (RFC 9559, section 5.1.7, Chapters Element). The rule is this project's.
use Rattle.std.specs.Prelude.{ℕ, ◌+◌, ◌==◌, List, [], ◌∷◌, ◌++◌, filter}
use Rattle.std.specs.Option.{option_map_or}
use Rattle.mkv_schema.specs.declared.ids.TheConstants.{EDITION_ENTRY, CHAPTER_ATOM, CHAPTER_TIME_START, CHAPTER_DISPLAY, CHAP_STRING}
use Rattle.mkv_schema.specs.Value.{text_of}
use Rattle.tree_format.specs.Node.{Node, id_of, body_of, children}
use Rattle.tree_format.specs.Values.{first_child, integer_of}
use Rattle.text_formats.specs.ChapterWriting.{put_pair}

-- the start in nanoseconds of `atom`, a ChapterAtom that `extract` writes as a simple chapter, or 0 if it is absent
abbrev pub start_of : Node → ℕ
start_of atom = option_map_or integer_of (first_child CHAPTER_TIME_START atom) 0

-- the ChapString in `display`, the ChapterDisplay of a chapter that `extract` writes, or no bytes if it is absent
abbrev pub name_in : Node → List ℕ
name_in display = option_map_or (λ s. text_of (body_of s)) (first_child CHAP_STRING display) []

-- the name in the first ChapterDisplay of `atom`, a ChapterAtom that `extract` writes as a simple chapter, or no bytes if one is absent
abbrev pub name_of : Node → List ℕ
name_of atom = option_map_or name_in (first_child CHAPTER_DISPLAY atom) []

-- the atoms among `ns`, the children of the edition whose chapters `extract` writes; nested ones aren't included
abbrev pub atoms_in : List Node → List Node
atoms_in ns = filter (λ n. id_of n == CHAPTER_ATOM) ns

-- the atoms directly in the first edition of `chapters`, if it has one, which `extract` writes as simple chapters
abbrev pub top_atoms : Node → List Node
top_atoms chapters = option_map_or (λ edition. atoms_in (children edition)) (first_child EDITION_ENTRY chapters) []

-- the given atoms as simple chapters, two lines each; the first has the number `k`. Used by `put_simple`.
abbrev pub put_atoms : ℕ → List Node → List ℕ
put_atoms k [] = []
put_atoms k (a ∷ as') = put_pair k (start_of a) (name_of a) ++ put_atoms (k + 1) as'

-- the top atoms of `chapters` as simple chapters, numbered from 1: the file that `extract FILE chapters` writes. Used by `chapters_text` of
-- `extractors`.
abbrev pub put_simple : Node → List ℕ
put_simple chapters = put_atoms 1 (top_atoms chapters)
