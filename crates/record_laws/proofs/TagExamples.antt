-- Small Tags Elements that are written, computed: a wrong definition doesn't check.
use Rattle.std.proofs.Common.{◌≡◌, ℕ, ◌+◌, ◌==◌, ◌&&◌, if◌then◌else◌, true, false, List, [], ◌∷◌, ◌++◌, length, Option, Some, None, Result, Ok, refl}
use Rattle.mkv_io.specs.declared.damage.Damage.{Damage}
use Rattle.tree_format.specs.NormalForm.{content}
use Rattle.record_changes.specs.declared.uid_map.TagKeep.{TagKeep}
use Rattle.record_changes.specs.Tags.{written_tags}
use Rattle.record_laws.proofs.ChapterExamples.{made_of}

-- ---- Elements, each of fewer than 127 bytes

-- a SimpleTag: A is b
abbrev simple : List ℕ
simple =
    (0x67 ∷ 0xC8 ∷ 0x88 ∷ []) ++
    (0x45 ∷ 0xA3 ∷ 0x81 ∷ 0x41 ∷ []) ++
    (0x44 ∷ 0x87 ∷ 0x81 ∷ 0x62 ∷ [])

-- a Tag with this before a SimpleTag
abbrev tag : List ℕ → List ℕ
tag front = 0x73 ∷ 0x73 ∷ (0x80 + length (front ++ simple)) ∷ front ++ simple

-- a Tag with Targets that contain this
abbrev about : List ℕ → List ℕ
about targets = tag (0x63 ∷ 0xC0 ∷ (0x80 + length targets) ∷ targets)

-- a TagTrackUID with these bytes; below, the target of each kind in one byte
abbrev track_in : List ℕ → List ℕ
track_in octets = 0x63 ∷ 0xC5 ∷ (0x80 + length octets) ∷ octets

abbrev track : ℕ → List ℕ
track n = 0x63 ∷ 0xC5 ∷ 0x81 ∷ n ∷ []

abbrev edition : ℕ → List ℕ
edition n = 0x63 ∷ 0xC9 ∷ 0x81 ∷ n ∷ []

abbrev chapter : ℕ → List ℕ
chapter n = 0x63 ∷ 0xC4 ∷ 0x81 ∷ n ∷ []

abbrev attachment : ℕ → List ℕ
attachment n = 0x63 ∷ 0xC6 ∷ 0x81 ∷ n ∷ []

-- a TargetTypeValue
abbrev level : ℕ → List ℕ
level n = 0x68 ∷ 0xCA ∷ 0x81 ∷ n ∷ []

-- ---- Tags

-- a Tag about the track 5; below, the same about the track 1
abbrev about_5 : List ℕ
about_5 =
    (0x73 ∷ 0x73 ∷ 0x92 ∷ []) ++
    (0x63 ∷ 0xC0 ∷ 0x84 ∷ []) ++
    (0x63 ∷ 0xC5 ∷ 0x81 ∷ 5 ∷ []) ++
    (0x67 ∷ 0xC8 ∷ 0x88 ∷ []) ++
    (0x45 ∷ 0xA3 ∷ 0x81 ∷ 0x41 ∷ []) ++
    (0x44 ∷ 0x87 ∷ 0x81 ∷ 0x62 ∷ [])

abbrev about_1 : List ℕ
about_1 = about (track 1)

-- Tags about a track, and about an edition and a track
abbrev two_of_tracks : List ℕ
two_of_tracks = about_5 ++ about (edition 5 ++ track 5)

-- Tags without Targets, with empty ones, about all tracks, and about a chapter
abbrev four_others : List ℕ
four_others = tag [] ++ about [] ++ about (track 0) ++ about (chapter 5)

-- Tags about one Element of each kind
abbrev four_gone : List ℕ
four_gone = about (track 6) ++ about (edition 5) ++ about (chapter 5) ++ about (attachment 5)

-- ---- written Tags

-- the written Tags Element, both without its header
abbrev written : TagKeep → (ℕ → ℕ → Option ℕ) → List ℕ → Result (List ℕ) Damage
written keep numbers body = made_of 0x1254C367 (λ tree. content (written_tags keep numbers tree)) body

-- the numbers of an output that has only the track 5, with this number
abbrev number_of_5 : ℕ → ℕ → ℕ → Option ℕ
number_of_5 number id uid = if id == 0x63C5 && uid == 5 then Some number else None

-- the same if all Tags are kept
abbrev all : ℕ → List ℕ → Result (List ℕ) Damage
all number body = written (record { tracks = true; global = true }) (number_of_5 number) body

pub record AreWritten : Type 0 where
  -- The track keeps its identifier, so the Tag is as it was.
  pub same : all 5 about_5 ≡ Ok about_5
  -- The track gets another identifier, and so does the target.
  pub another : all 1 about_5 ≡ Ok about_1
  -- An identifier takes the bytes that it needs.
  pub longer : all 300 (about (track 5)) ≡ Ok (about (track_in (1 ∷ 0x2C ∷ [])))
  pub shorter : all 5 (about (track_in (0 ∷ 0 ∷ 5 ∷ []))) ≡ Ok (about (track 5))
  -- A Tag about Elements that aren't written is left out; the others stay in order.
  pub not_written : all 1 (tag [] ++ four_gone ++ about_5) ≡ Ok (tag [] ++ about_1)
  -- Targets that are written stay.
  pub some : all 1 (about (track 6 ++ track 5 ++ edition 5)) ≡ Ok about_1
  -- A Tag without a specific target stays, and so does a target that is 0.
  pub no_targets : all 1 (tag [] ++ about [] ++ about (track 0)) ≡ Ok (tag [] ++ about [] ++ about (track 0))
  -- Other Elements of Targets stay in their places.
  pub others_stay : all 1 (about (level 30 ++ track 5)) ≡ Ok (about (level 30 ++ track 1))

pub writes : AreWritten
unfolding made_of
writes = assumption refl

-- ---- Tags that are left out

-- the written Tags without Tags about tracks, if all targets keep their identifiers; below, only with Tags about tracks
abbrev without_tracks : List ℕ → Result (List ℕ) Damage
without_tracks body = written (record { tracks = false; global = true }) (λ id uid. Some uid) body

abbrev without_others : List ℕ → Result (List ℕ) Damage
without_others body = written (record { tracks = true; global = false }) (λ id uid. Some uid) body

pub record AreUnwanted : Type 0 where
  -- A Tag is about a track if one of its targets is a track, with any others.
  pub of_tracks : without_tracks two_of_tracks ≡ Ok []
  -- A track that is 0 doesn't count.
  pub not_of_tracks : without_tracks four_others ≡ Ok four_others
  -- The others are left out if only Tags about tracks are kept.
  pub others : without_others four_others ≡ Ok []
  pub not_others : without_others two_of_tracks ≡ Ok two_of_tracks

pub unwanted : AreUnwanted
unfolding made_of
unwanted = record { of_tracks = refl; not_of_tracks = refl; others = refl; not_others = refl }
