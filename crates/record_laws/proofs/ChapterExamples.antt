-- Parts of small Chapters Elements in a period of time, computed: a wrong definition doesn't check.
use Rattle.std.proofs.Common.{◌≡◌, ℕ, ◌+◌, List, [], ◌∷◌, ◌++◌, length, codes, option_map, Option, Some, None, Result, Ok, refl}
use Rattle.std.specs.Int.Count.{count_leading_zeros}
use Rattle.std.specs.Str.{is_utf8, chars}
use lib.Utf8.{encode}
use Rattle.ebml_numbers.specs.Number.{id_at, size_at, uint_width, least_size_width}
use Rattle.mkv_schema.specs.Table.{table}
use Rattle.mkv_schema.specs.Schema.{entry_of}
use Rattle.mkv_schema.specs.Element.{element_in}
use Rattle.mkv_io.specs.Results.{and_then}
use Rattle.mkv_io.specs.declared.damage.Damage.{Damage}
use Rattle.tree_format.specs.NormalForm.{content}
use Rattle.tree_format.specs.Reading.{tree_of, grove, grove_within}
use Rattle.record_changes.specs.declared.stretch.Stretch.{Stretch}
use Rattle.record_changes.specs.Cut.{cut}
use Rattle.tree_format.specs.Node.{Node}

-- the result of `f` for an Element with this ID that is read from bytes without its header
unfoldable pub made_of : {A : Type 0} → ℕ → (Node → A) → List ℕ → Result A Damage
unfolding is_utf8 chars encode grove grove_within element_in id_at size_at entry_of table count_leading_zeros uint_width least_size_width
made_of id make body = and_then (tree_of id 0 body 5 65536) (λ tree. Ok (make tree))

-- ---- Elements, each of fewer than 127 bytes

abbrev pub edition : List ℕ → List ℕ
edition body = 0x45 ∷ 0xB9 ∷ (0x80 + length body) ∷ body

abbrev pub atom : List ℕ → List ℕ
atom body = 0xB6 ∷ (0x80 + length body) ∷ body

abbrev pub edition_uid : ℕ → List ℕ
edition_uid n = 0x45 ∷ 0xBC ∷ 0x81 ∷ n ∷ []

abbrev pub chapter_uid : ℕ → List ℕ
chapter_uid n = 0x73 ∷ 0xC4 ∷ 0x81 ∷ n ∷ []

-- a ChapterTimeStart; below, a ChapterTimeEnd
abbrev pub start : List ℕ → List ℕ
start octets = 0x91 ∷ (0x80 + length octets) ∷ octets

abbrev pub end : List ℕ → List ℕ
end octets = 0x92 ∷ (0x80 + length octets) ∷ octets

-- an atom from a start to an end
abbrev pub lasting : List ℕ → List ℕ → List ℕ
lasting from to = atom (start from ++ end to)

-- a ChapterDisplay: the name `Intro` in the language `und`
abbrev pub intro : List ℕ
intro = (0x80 ∷ 0x8D ∷ []) ++ (0x85 ∷ 0x85 ∷ codes "Intro") ++ (0x43 ∷ 0x7C ∷ 0x83 ∷ codes "und")

-- ---- times in nanoseconds: 0, and 0.5, 1, 1.5, 2, 2.5 and 3 seconds

abbrev pub zero_s : List ℕ
zero_s = 0 ∷ []

abbrev pub half_s : List ℕ
half_s = 0x1D ∷ 0xCD ∷ 0x65 ∷ 0 ∷ []

abbrev pub one_s : List ℕ
one_s = 0x3B ∷ 0x9A ∷ 0xCA ∷ 0 ∷ []

abbrev one_and_a_half_s : List ℕ
one_and_a_half_s = 0x59 ∷ 0x68 ∷ 0x2F ∷ 0 ∷ []

abbrev pub two_s : List ℕ
two_s = 0x77 ∷ 0x35 ∷ 0x94 ∷ 0 ∷ []

abbrev two_and_a_half_s : List ℕ
two_and_a_half_s = 0x95 ∷ 2 ∷ 0xF9 ∷ 0 ∷ []

abbrev three_s : List ℕ
three_s = 0xB2 ∷ 0xD0 ∷ 0x5E ∷ 0 ∷ []

-- ---- chapters

-- from 0 to 2.5 seconds, and from there to 3 seconds
abbrev two_atoms : List ℕ
two_atoms = lasting zero_s two_and_a_half_s ++ lasting two_and_a_half_s three_s

-- one at 0 and one at 1 second, without ends
abbrev pub endless : List ℕ
endless = atom (start zero_s) ++ atom (start one_s)

-- from 0 to 2 seconds; inside it one to 0.5 seconds, and one from 1 second to 2 seconds
abbrev pub nested : List ℕ
nested = atom (start zero_s ++ end two_s ++ lasting zero_s half_s ++ lasting one_s two_s)

-- an edition with an identifier and the atoms without ends
abbrev named : List ℕ
named = edition (edition_uid 8 ++ endless)

-- ---- parts in a period

-- the period up to a time; below, between two times, and from a time on
abbrev before : ℕ → Stretch
before limit = record { from = 0; to = Some limit }

abbrev between : ℕ → ℕ → Stretch
between begin limit = record { from = begin; to = Some limit }

abbrev onward : ℕ → Stretch
onward begin = record { from = begin; to = None }

-- the part of a Chapters Element in a period, both without its header
abbrev cut_to : Stretch → List ℕ → Result (Option (List ℕ)) Damage
cut_to s body = made_of 0x1043A770 (λ tree. option_map content (cut s tree)) body

-- One edition becomes another; below, an edition is left out.
abbrev becomes : Stretch → List ℕ → List ℕ → Type 0
becomes s old new = cut_to s (edition old) ≡ Ok (Some (edition new))

abbrev is_left_out : Stretch → List ℕ → Type 0
is_left_out s old = cut_to s (edition old) ≡ Ok None

-- the part of the nested atoms in the time from 0.5 seconds on, counted from there
abbrev nested_onward : List ℕ
nested_onward = atom (start zero_s ++ end one_and_a_half_s ++ lasting half_s one_and_a_half_s)

pub record AreCut : Type 0 where
  -- Before 2 seconds there is the first atom, which now ends there.
  pub first_part : becomes (before 2000000000) two_atoms (lasting zero_s two_s)
  -- From 2 seconds on there are both, counted from there.
  pub second_part : becomes (onward 2000000000) two_atoms (lasting zero_s half_s ++ lasting half_s one_s)
  -- An atom that starts at the end of the period isn't in it.
  pub starts_at_limit : becomes (before 2500000000) two_atoms (lasting zero_s two_and_a_half_s)
  -- An atom that ends at its start isn't in it.
  pub ends_at_begin : becomes (onward 2500000000) two_atoms (lasting zero_s half_s)
  -- An atom without an end lasts up to the next one, and gets no end.
  pub lasts_to_next : becomes (onward 500000000) endless (atom (start zero_s) ++ atom (start half_s))
  pub next_at_begin : becomes (onward 1000000000) endless (atom (start zero_s))
  -- The last atom without an end never ends.
  pub never_ends : becomes (between 2000000000 3000000000) endless (atom (start zero_s))
  -- A missing start is 0, and is added last.
  pub missing_start : becomes (before 1) (atom intro) (atom (intro ++ start zero_s))
  -- Atoms inside one are cut in the same way, and are left out with it.
  pub inside : becomes (onward 500000000) nested nested_onward
  pub left_out_with_it : is_left_out (onward 2000000000) (atom (start zero_s ++ end two_s ++ lasting two_s three_s))
  -- An edition without an atom in the period is left out; other children of an edition stay.
  pub empty_edition : cut_to (onward 0) (edition (edition_uid 7) ++ named) ≡ Ok (Some named)
  -- If no atom is in the period, nothing is left.
  pub nothing_left : is_left_out (onward 3000000000) two_atoms

pub cuts : AreCut
unfolding made_of
cuts = assumption refl
