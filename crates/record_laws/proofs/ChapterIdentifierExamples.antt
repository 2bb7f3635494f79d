-- Identifiers that small Chapters Elements get, computed: a wrong definition doesn't check.
use Rattle.std.proofs.Common.{◌≡◌, ℕ, List, ◌++◌, Result, Ok, refl}
use Rattle.mkv_io.specs.declared.damage.Damage.{Damage}
use Rattle.tree_format.specs.Node.{Node}
use Rattle.tree_format.specs.NormalForm.{content}
use Rattle.record_changes.specs.Identifiers.{renumbered}
use Rattle.record_changes.specs.Atoms.{edition_uids, chapter_uids}
use Rattle.record_changes.specs.ChapterIdentifiers.{with_identifiers}
use Rattle.record_laws.proofs.ChapterExamples.{edition, atom, edition_uid, start, intro, zero_s, chapter_uid, made_of}
use Rattle.record_laws.proofs.ShiftExamples.{one_chapter}

-- an edition and an atom with these identifiers
abbrev named : ℕ → ℕ → List ℕ
named e c = edition (edition_uid e ++ atom (chapter_uid c))

-- an edition with an atom, one inside it, and one after it
abbrev three_atoms : ℕ → ℕ → ℕ → List ℕ
three_atoms first inner second =
    edition (edition_uid 1 ++ atom (chapter_uid first ++ atom (chapter_uid inner)) ++ atom (chapter_uid second))

-- the chapters, with a number for each edition's and each atom's identifier
abbrev identified : Node → Node
identified tree = with_identifiers (renumbered (edition_uids tree)) (renumbered (chapter_uids tree)) tree

-- the renumbered Chapters Element, both without its header
abbrev renamed : List ℕ → Result (List ℕ) Damage
renamed body = made_of 0x1043A770 (λ tree. content (identified tree)) body

abbrev become : List ℕ → List ℕ → Type 0
become old new = renamed old ≡ Ok new

pub record AreIdentified : Type 0 where
  -- The identifiers of a chapter that was made are 0, and become 1.
  pub made : become (edition (edition_uid 0 ++ atom (chapter_uid 0 ++ start zero_s ++ intro))) one_chapter
  -- Positive identifiers that occur once stay.
  pub stay : become (named 5 9 ++ named 3 2) (named 5 9 ++ named 3 2)
  -- The second of two equal identifiers gets the smallest free number; editions and chapters are counted separately.
  pub repeated : become (named 5 1 ++ named 5 1) (named 5 1 ++ named 1 2)
  -- A missing identifier is added last.
  pub missing : become (edition (atom intro)) (edition (atom (intro ++ chapter_uid 1) ++ edition_uid 1))
  -- An atom comes before the atoms inside it, and these before the next one.
  pub order : become (three_atoms 0 0 0) (three_atoms 1 2 3)

pub identifies : AreIdentified
unfolding made_of
identifies = record { made = refl; stay = refl; repeated = refl; missing = refl; order = refl }
