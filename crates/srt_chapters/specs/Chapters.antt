-- The Chapters Element of a file of OGM simple chapters: RFC 9559, section 5.1.7 (Chapters Element).
use Rattle.std.specs.Prelude.{ℕ, List, [], ◌∷◌, map, codes, Result, Ok, Err}
use Rattle.mkv_schema.specs.declared.ids.TheConstants.{CHAPTERS, EDITION_ENTRY, EDITION_UID, CHAPTER_ATOM, CHAPTER_UID, CHAPTER_TIME_START, CHAPTER_DISPLAY, CHAP_STRING, CHAP_LANGUAGE}
use Rattle.tree_format.specs.Node.{Node, leaf, master, nodes_of}
use Rattle.tree_format.specs.Children.{uint_leaf}
use Rattle.text_formats.specs.declared.chapter_reading.Chapter.{Chapter}
use Rattle.text_formats.specs.Pairs.{simple}

-- a ChapterDisplay with the ChapString `name`, in an undetermined language, for a chapter of a file of simple chapters; for `atom`
abbrev pub display : List ℕ → Node
display name = master CHAPTER_DISPLAY 0 (nodes_of (leaf CHAP_STRING 0 name ∷ leaf CHAP_LANGUAGE 0 (codes "und") ∷ []))

-- a ChapterAtom for `c`, a chapter of a file of simple chapters: the start in nanoseconds, the name, and a ChapterUID of 0, which a merge replaces.
-- Used by `start_of`, `name_of` and others.
abbrev pub atom : Chapter → Node
atom c = master CHAPTER_ATOM 0 (nodes_of (uint_leaf CHAPTER_UID 0 ∷ uint_leaf CHAPTER_TIME_START c.start ∷ display c.name ∷ []))

-- an EditionEntry with an atom for each of `cs`, the chapters of a file of simple chapters, and an EditionUID of 0, which a merge replaces. Used by
-- `put_atoms`, `chapters_of` and others.
abbrev pub edition : List Chapter → Node
edition cs = master EDITION_ENTRY 0 (nodes_of (uint_leaf EDITION_UID 0 ∷ map atom cs))

-- a Chapters Element with one edition, which has an atom for each of `cs`, the chapters of a file of simple chapters; for `as_tree`
abbrev pub chapters_of : List Chapter → Node
chapters_of cs = master CHAPTERS 0 (nodes_of (edition cs ∷ []))

-- the Chapters Element for the given result of reading a file of OGM simple chapters: its chapters, or the number of its first bad line, from 1; for
-- `simple_chapters`
abbrev pub as_tree : Result (List Chapter) ℕ → Result Node ℕ
as_tree (Ok cs) = Ok (chapters_of cs)
as_tree (Err n) = Err n

-- the Chapters Element of a file of simple chapters with the content `content`, or the number of its first bad line, from 1. `merge --chapters` reads
-- it.
abbrev pub simple_chapters : List ℕ → Result Node ℕ
simple_chapters content = as_tree (simple content)
