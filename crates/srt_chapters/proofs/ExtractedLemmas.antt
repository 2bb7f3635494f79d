-- Atoms of a sound edition, appended one at a time.
use Rattle.std.proofs.Common.{◌≡◌, ◌<◌, ℕ, suc, ◌+◌, ◌==◌, true, List, [], ◌∷◌, ◌++◌, length, take, get_or, refl, add-zero, sym, ◌∙◌, arith, append_assoc, append-nil}
use Rattle.std.proofs.lemmas.List.Elements.{filter_more}
use Rattle.mkv_schema.specs.Schema.{entry_of}
use Rattle.mkv_schema.specs.Table.{table}
use Rattle.mkv_schema.specs.declared.ids.TheConstants.{CHAPTER_ATOM, CHAPTER_TIME_START}
use Rattle.tree_format.specs.Node.{Node, id_of, children}
use Rattle.tree_format.specs.Standing.{IsSound, IsSoundOf}
use Rattle.tree_format.specs.Values.{HasUint}
use Rattle.tree_format.proofs.ChildLemmas.{child-stands, stands-sound}
use Rattle.text_formats.specs.ChapterWriting.{put_pair}
use Rattle.srt_chapters.specs.Extracted.{put_atoms, atoms_in, start_of, name_of}

-- The table has a ChapterTimeStart in a ChapterAtom.
pub start : HasUint CHAPTER_ATOM CHAPTER_TIME_START
unfolding entry_of table
start = record { stands = refl; kind = refl }

-- A child of a sound edition is sound.
pub child_sound : (tree n : Node) (ns : List Node) (i : ℕ) → IsSound tree → ns ≡ children tree → i < length ns → n ≡ get_or ns i n → id_of n ≡ CHAPTER_ATOM → IsSoundOf CHAPTER_ATOM n
child_sound tree n ns i sound are inside is atom = record { id = atom; sound = stands-sound (id_of tree) n (child-stands tree n ns i sound are inside is) }

-- ---- one child more

pub atom_more : (ns : List Node) (i : ℕ) (n : Node) → i < length ns → get_or ns i n ≡ n → (id_of n == CHAPTER_ATOM) ≡ true → atoms_in (take (i + 1) ns) ≡ atoms_in (take i ns) ++ n ∷ []
atom_more ns i n inside is own =
    let more = filter_more (λ m. id_of m == CHAPTER_ATOM) ns i n inside in
    rw (is, own) at more

pub atoms_more : (k : ℕ) (as' : List Node) (a : Node) → put_atoms k (as' ++ a ∷ []) ≡ put_atoms k as' ++ put_pair (k + length as') (start_of a) (name_of a)
atoms_more k [] a = rw add-zero (append-nil (put_pair k (start_of a) (name_of a)))
atoms_more k (b ∷ bs) a =
    let e : k + 1 + length bs ≡ k + suc (length bs) = omega arith in
    let more = atoms_more (k + 1) bs a in
    let inner : put_atoms (k + 1) (bs ++ a ∷ []) ≡ put_atoms (k + 1) bs ++ put_pair (k + suc (length bs)) (start_of a) (name_of a) = rw e at more in
    rw inner (sym (append_assoc (put_pair k (start_of b) (name_of b)) (put_atoms (k + 1) bs) (put_pair (k + suc (length bs)) (start_of a) (name_of a))))
