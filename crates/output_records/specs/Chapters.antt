-- The Chapters of an output: RFC 9559, section 5.1.7 (Chapters). Their identifiers and times are this project's choice.
use Rattle.std.specs.Prelude.{ℕ, List, flat_map, Option, Some, None}
use Rattle.std.specs.Option.{option_map}
use Rattle.mkv_schema.specs.declared.ids.TheConstants.{CHAPTERS}
use Rattle.tree_format.specs.Node.{Node, master, nodes_of}
use Rattle.record_changes.specs.Identifiers.{renumbered}
use Rattle.record_changes.specs.Atoms.{edition_uids, chapter_uids}
use Rattle.record_changes.specs.ChapterIdentifiers.{with_identifiers}
use Rattle.record_changes.specs.Shift.{shifted}
use Rattle.output_records.specs.declared.inputs.InputRecords.{InputRecords}
use Rattle.output_records.specs.Inputs.{children_in, with_some}

-- the given Chapters of an input of a merge, with times that are later by the append offset in nanoseconds, the first argument, or unchanged if the
-- input isn't appended (None). Used by `chapters_in`.
abbrev pub later : Option ℕ → Node → Node
later None chapters = chapters
later (Some by) chapters = shifted by chapters

-- the editions of the input `i` of a merge, with times that are later by its append offset if it is appended. Used by `push_chapters` and
-- `joined_chapters`.
abbrev pub chapters_in : InputRecords → List Node
chapters_in i = children_in (option_map (later i.shift) i.chapters)

-- one Chapters with the editions of all inputs of a merge, input after input, and still with the inputs' identifiers. Used by `numbers_of`,
-- `edition_numbers` and others.
abbrev pub joined_chapters : List InputRecords → Node
joined_chapters inputs = master CHAPTERS 0 (nodes_of (flat_map chapters_in inputs))

-- the output's EditionUIDs for the editions of all inputs of a merge, in their order. Used by `merged_chapters` and `numbers_of`.
abbrev pub edition_numbers : List InputRecords → List ℕ
edition_numbers inputs = renumbered (edition_uids (joined_chapters inputs))

-- the output's ChapterUIDs for the chapters of all inputs of a merge, in their order. Used by `merged_chapters` and `numbers_of`.
abbrev pub chapter_numbers : List InputRecords → List ℕ
chapter_numbers inputs = renumbered (chapter_uids (joined_chapters inputs))

-- the Chapters of an output of a merge: the editions of all inputs with the output's identifiers, or None if there are none. Used by `merge_records`.
abbrev pub merged_chapters : List InputRecords → Option Node
merged_chapters inputs = with_some (with_identifiers (edition_numbers inputs) (chapter_numbers inputs) (joined_chapters inputs))
