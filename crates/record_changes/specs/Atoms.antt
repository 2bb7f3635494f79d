-- The editions and chapters of a Chapters element, and their identifiers: RFC 9559, section 5.1.7 (Chapters). Their order is this project's.
use Rattle.std.specs.Prelude.{ℕ, ◌==◌, if◌then◌else◌, List, [], ◌∷◌, ◌++◌, map, flat_map}
use Rattle.std.specs.Option.{option_map_or}
use Rattle.mkv_schema.specs.declared.ids.TheConstants.{EDITION_ENTRY, EDITION_UID, CHAPTER_ATOM, CHAPTER_UID}
use Rattle.tree_format.specs.Node.{Node, Nodes, leaf, master, none, node, nodes_of, children}
use Rattle.tree_format.specs.Values.{first_child, integer_of}
use Rattle.tree_format.specs.Changes.{part}

-- ---- editions and atoms

-- the editions of `chapters`, a Chapters, in their order. Identifiers are numbered in this order. Used by `atoms_of`, `edition_uids` and others.
abbrev pub editions_of : Node → List Node
editions_of chapters = part EDITION_ENTRY (children chapters)

-- the atoms at a node: itself if it is an atom, and then the atoms inside it, in reading order, in which they get identifiers
abbrev mutual
  pub atoms_at : Node → List Node
  atoms_at (leaf id at body) = []
  atoms_at (master id at kids) = if id == CHAPTER_ATOM then master id at kids ∷ atoms_among kids else []

  pub atoms_among : Nodes → List Node
  atoms_among none = []
  atoms_among (node n ns) = atoms_at n ++ atoms_among ns

-- the atoms of `edition`, nested ones included, in reading order, in which they get identifiers. `atoms_of` joins them.
abbrev pub atoms_inside : Node → List Node
atoms_inside edition = atoms_among (nodes_of (children edition))

-- the atoms of all editions of `chapters`, nested ones included, in reading order. `chapter_uids` has their identifiers.
abbrev pub atoms_of : Node → List Node
atoms_of chapters = flat_map atoms_inside (editions_of chapters)

-- ---- identifiers

-- the unsigned integer of the first child of `n`, a chapter or edition, with the ID `id`, or 0 if it is absent. Identifiers and times are read so.
abbrev pub value_in : ℕ → Node → ℕ
value_in id n = option_map_or integer_of (first_child id n) 0

-- the EditionUID of `child`, a child of Chapters, if it is an edition, as a list. The contract of `push_edition_uid` promises it.
abbrev pub own_uids : Node → List ℕ
own_uids child = map (value_in EDITION_UID) (part EDITION_ENTRY (child ∷ []))

-- the ChapterUIDs of the atoms in `child`, a child of Chapters, if it is an edition, as a list. The contract of `push_uids_inside` promises them.
abbrev pub inner_uids : Node → List ℕ
inner_uids child = map (value_in CHAPTER_UID) (flat_map atoms_inside (part EDITION_ENTRY (child ∷ [])))

-- the EditionUIDs of all editions of `chapters`; an absent one is 0. A merge gives the output's editions numbers by them. Used by `with_identifiers`,
-- `push_edition_uids` and others.
abbrev pub edition_uids : Node → List ℕ
edition_uids chapters = map (value_in EDITION_UID) (editions_of chapters)

-- the ChapterUIDs of all atoms of `chapters`; an absent one is 0. A merge gives the output's chapters numbers by them. Used by `with_identifiers`,
-- `push_chapter_uids` and others.
abbrev pub chapter_uids : Node → List ℕ
chapter_uids chapters = map (value_in CHAPTER_UID) (atoms_of chapters)
