-- Chapters with an append offset, and the starts of chapters, computed: a wrong definition doesn't check.
use Rattle.std.proofs.Common.{◌≡◌, ℕ, List, [], ◌∷◌, ◌++◌, replicate, Result, Ok, refl}
use Rattle.mkv_io.specs.declared.damage.Damage.{Damage}
use Rattle.tree_format.specs.NormalForm.{content}
use Rattle.record_changes.specs.Shift.{shifted}
use Rattle.record_changes.specs.Starts.{top_starts}
use Rattle.record_laws.proofs.ChapterExamples.{edition, atom, edition_uid, start, lasting, intro, zero_s, half_s, one_s, endless, nested, made_of, chapter_uid}

-- ---- chapters

-- the bytes of an edition with the chapter `Intro` at 0; below, the same with the chapter at 20 milliseconds
abbrev pub one_chapter : List ℕ
one_chapter =
    (0x45 ∷ 0xB9 ∷ 0x9C ∷ []) ++
    (0x45 ∷ 0xBC ∷ 0x81 ∷ 1 ∷ []) ++
    (0xB6 ∷ 0x96 ∷ []) ++
    (0x73 ∷ 0xC4 ∷ 0x81 ∷ 1 ∷ []) ++
    (0x91 ∷ 0x81 ∷ 0 ∷ []) ++
    (0x80 ∷ 0x8D ∷ []) ++
    (0x85 ∷ 0x85 ∷ 0x49 ∷ 0x6E ∷ 0x74 ∷ 0x72 ∷ 0x6F ∷ []) ++
    (0x43 ∷ 0x7C ∷ 0x83 ∷ 0x75 ∷ 0x6E ∷ 0x64 ∷ [])

abbrev later_chapter : List ℕ
later_chapter = edition (edition_uid 1 ++ atom (chapter_uid 1 ++ start (1 ∷ 0x31 ∷ 0x2D ∷ 0 ∷ []) ++ intro))

-- two editions with an atom each, from a start to an end
abbrev two_editions : List ℕ → List ℕ → List ℕ
two_editions from to = edition (lasting from to) ++ edition (lasting from to)

-- the last time of 64 bits
abbrev last : List ℕ
last = replicate 8 0xFF

-- ---- chapters with an append offset

-- the Chapters Element with an append offset, both without its header
abbrev later : ℕ → List ℕ → Result (List ℕ) Damage
later by body = made_of 0x1043A770 (λ tree. content (shifted by tree)) body

-- An edition becomes another if half a second is added.
abbrev becomes : List ℕ → List ℕ → Type 0
becomes old new = later 500000000 (edition old) ≡ Ok (edition new)

pub record AreLater : Type 0 where
  -- A start takes the bytes that it then needs.
  pub one : later 20000000 one_chapter ≡ Ok later_chapter
  -- An end gets the offset, too, in every edition.
  pub ends : later 500000000 (two_editions zero_s half_s) ≡ Ok (two_editions half_s one_s)
  -- A missing start was 0, and is added last.
  pub missing_start : becomes (atom intro) (atom (intro ++ start half_s))
  -- A missing end isn't added, and Elements other than atoms stay.
  pub others_stay : becomes (edition_uid 7 ++ atom (start zero_s)) (edition_uid 7 ++ atom (start half_s))
  -- Atoms inside an atom get the offset, too.
  pub inside : becomes (atom (start zero_s ++ atom (start half_s))) (atom (start half_s ++ atom (start one_s)))
  pub missing_inside : becomes (atom (start zero_s ++ atom intro)) (atom (start half_s ++ atom (intro ++ start half_s)))
  -- No time is later than the last one.
  pub no_later_than_last : becomes (lasting zero_s last) (lasting half_s last)

pub laters : AreLater
unfolding made_of
laters = assumption refl

-- ---- starts of chapters

-- the starts of a Chapters Element's chapters
abbrev starts : List ℕ → Result (List ℕ) Damage
starts body = made_of 0x1043A770 top_starts body

pub record AreStarts : Type 0 where
  -- They are in the order of the atoms; a missing one is 0.
  pub top : starts (edition (atom (start one_s) ++ atom intro)) ≡ Ok (1000000000 ∷ 0 ∷ [])
  -- Atoms inside atoms aren't included.
  pub none_inside : starts (edition nested) ≡ Ok (0 ∷ [])
  -- Only the first edition is included.
  pub first_edition : starts (edition (atom (start half_s)) ++ edition endless) ≡ Ok (500000000 ∷ [])
  pub no_edition : starts [] ≡ Ok []

pub begins : AreStarts
unfolding made_of
begins = record { top = refl; none_inside = refl; first_edition = refl; no_edition = refl }
