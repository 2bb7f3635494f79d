-- A Chapters element with new identifiers: RFC 9559, section 5.1.7 (Chapters). Their order is this project's.
use Rattle.std.specs.Prelude.{ℕ, ◌+◌, ◌==◌, if◌then◌else◌, List, [], ◌∷◌, length, slice_index}
use Rattle.mkv_schema.specs.declared.ids.TheConstants.{EDITION_UID, CHAPTER_ATOM, CHAPTER_UID}
use Rattle.tree_format.specs.Node.{Node, Nodes, leaf, master, none, node, nodes_of, children, with_children}
use Rattle.tree_format.specs.Children.{uint_leaf, set_in}
use Rattle.record_changes.specs.Atoms.{editions_of, atoms_at, atoms_inside}

-- a child of an edition or atom with new identifiers. An atom gets the one at the index `k`, from 0, in `uids`, the atoms inside it get the next
-- ones. Others are unchanged. The contract of `numbered` promises it.
abbrev mutual
  pub numbered : List ℕ → ℕ → Node → Node
  numbered uids k (leaf id at body) = leaf id at body
  numbered uids k (master id at kids) =
      if id == CHAPTER_ATOM then set_in (uint_leaf CHAPTER_UID (slice_index uids k)) (master id at (nodes_of (numbered_among uids (k + 1) kids))) else master id at kids

  -- the list of children with new identifiers: the first atom gets the one at the index `k` in `uids`
  pub numbered_among : List ℕ → ℕ → Nodes → List Node
  numbered_among uids k none = []
  numbered_among uids k (node n ns) = numbered uids k n ∷ numbered_among uids (k + length (atoms_at n)) ns

-- `edition` with the EditionUID `uid`; its first atom gets the identifier at the index `k` in `uids`, from 0. The contract of the function with this
-- name promises it.
abbrev pub numbered_edition : ℕ → List ℕ → ℕ → Node → Node
numbered_edition uid uids k edition = set_in (uint_leaf EDITION_UID uid) (with_children edition (numbered_among uids k (nodes_of (children edition))))

-- the editions in the list with new identifiers. The first edition gets the one at the index `j` in `editions`, and its first atom the one at `k` in
-- `uids`. `with_identifiers` begins at 0.
abbrev pub numbered_editions : List ℕ → List ℕ → ℕ → ℕ → List Node → List Node
numbered_editions editions uids j k [] = []
numbered_editions editions uids j k (e ∷ es) =
    numbered_edition (slice_index editions j) uids k e ∷ numbered_editions editions uids (j + 1) (k + length (atoms_inside e)) es

-- `chapters` with the EditionUIDs `editions` and the ChapterUIDs `uids`, in reading order; children other than editions are left out. The output of a
-- merge has them.
abbrev pub with_identifiers : List ℕ → List ℕ → Node → Node
with_identifiers editions uids chapters = with_children chapters (numbered_editions editions uids 0 0 (editions_of chapters))
