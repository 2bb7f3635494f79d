-- Computed timestamp scales of small files. A wrong definition fails here.
use Rattle.std.proofs.Common.{◌≡◌, ℕ, ◌+◌, List, [], ◌∷◌, ◌++◌, length, replicate, Option, Some, None, Result, Ok, refl}
use Rattle.std.specs.Int.Count.{count_leading_zeros}
use Rattle.std.specs.Str.{is_utf8, chars}
use lib.Utf8.{encode}
use Rattle.ebml_numbers.specs.Number.{id_at, size_at}
use Rattle.mkv_schema.specs.Table.{table}
use Rattle.mkv_schema.specs.Schema.{entry_of}
use Rattle.mkv_io.specs.declared.damage.Damage.{Damage}
use Rattle.mkv_io.specs.declared.damage.Kind.TheVariants.{BadValue}
use Rattle.mkv_schema.specs.Element.{element_in, damage}
use Rattle.mkv_schema.specs.Elements.{elements, elements_within}
use Rattle.mkv_schema.specs.Outline.{outline_of, ebml_header, segment_of}
use Rattle.mkv_io.specs.Results.{and_then}
use Rattle.tree_format.specs.Reading.{tree_of, grove, grove_within}
use Rattle.tree_format.specs.Order.{elements_in, elements_within as trees_within}
use Rattle.file_format.specs.Info.{info_refusal, file_scale, scale_without_limits}

-- ---- Elements

-- an EBML header of 16 bytes with the DocType `matroska`
abbrev header : List ℕ
header = 0x1A ∷ 0x45 ∷ 0xDF ∷ 0xA3 ∷ 0x8B ∷ 0x42 ∷ 0x82 ∷ 0x88 ∷ 0x6D ∷ 0x61 ∷ 0x74 ∷ 0x72 ∷ 0x6F ∷ 0x73 ∷ 0x6B ∷ 0x61 ∷ []

-- an Element with an ID of four bytes and a body of fewer than 127 bytes
abbrev element : ℕ → ℕ → ℕ → ℕ → List ℕ → List ℕ
element a b c d body = a ∷ b ∷ c ∷ d ∷ (0x80 + length body) ∷ body

abbrev info : List ℕ → List ℕ
info body = element 0x15 0x49 0xA9 0x66 body

abbrev tracks : List ℕ
tracks = element 0x16 0x54 0xAE 0x6B []

-- a Tracks of unknown size, which is a damage
abbrev open_tracks : List ℕ
open_tracks = 0x16 ∷ 0x54 ∷ 0xAE ∷ 0x6B ∷ 0xFF ∷ []

-- a TimestampScale
abbrev scale : List ℕ → List ℕ
scale octets = 0x2A ∷ 0xD7 ∷ 0xB1 ∷ (0x80 + length octets) ∷ octets

abbrev five : List ℕ
five = scale (5 ∷ [])

abbrev zero_scale : List ℕ
zero_scale = scale (0 ∷ [])

-- MuxingApp and WritingApp, both `mkvsuite 1`
abbrev programs : List ℕ
programs =
    0x4D ∷ 0x80 ∷ 0x8A ∷ 0x6D ∷ 0x6B ∷ 0x76 ∷ 0x73 ∷ 0x75 ∷ 0x69 ∷ 0x74 ∷ 0x65 ∷ 0x20 ∷ 0x31 ∷
    0x57 ∷ 0x41 ∷ 0x8A ∷ 0x6D ∷ 0x6B ∷ 0x76 ∷ 0x73 ∷ 0x75 ∷ 0x69 ∷ 0x74 ∷ 0x65 ∷ 0x20 ∷ 0x31 ∷ []

-- ---- the scale of a file

-- the scale of a file that has an outline
abbrev scale_of_file : List ℕ → Result ℕ Damage
scale_of_file bytes = and_then (outline_of 0 bytes) (λ o. Ok (file_scale bytes o.segment))

-- the scale of a file whose Segment has the Elements `body`
abbrev read : List ℕ → Result ℕ Damage
read body = scale_of_file (header ++ element 0x18 0x53 0x80 0x67 body)

-- the same with a Segment of unknown size
abbrev read_open : List ℕ → Result ℕ Damage
read_open body = scale_of_file (header ++ (0x18 ∷ 0x53 ∷ 0x80 ∷ 0x67 ∷ 0xFF ∷ []) ++ body)

pub record AreScales : Type 0 where
  pub no_element : read [] ≡ Ok 1000000
  pub no_info : read tracks ≡ Ok 1000000
  pub no_scale : read (info []) ≡ Ok 1000000
  pub empty_scale : read (info (scale [])) ≡ Ok 1000000
  pub written : read (info (scale (0x0F ∷ 0x42 ∷ 0x40 ∷ []) ++ programs)) ≡ Ok 1000000
  pub another : read (tracks ++ info (programs ++ scale (0x01 ∷ 0x86 ∷ 0xA0 ∷ []))) ≡ Ok 100000
  pub streamed : read_open (info five) ≡ Ok 5
  pub second_scale : read (info (five ++ zero_scale)) ≡ Ok 5
  pub second_info : read (info [] ++ info five) ≡ Ok 1000000
  pub before_damage : read (info five ++ open_tracks) ≡ Ok 5
  pub behind_damage : read (open_tracks ++ info five) ≡ Ok 1000000
  pub damaged_info : read (info (five ++ (0x4D ∷ 0x80 ∷ 0x81 ∷ 0xFF ∷ []))) ≡ Ok 1000000
  pub too_long_scale : read (info (scale (replicate 9 1))) ≡ Ok 1000000
  pub zero : read (info zero_scale) ≡ Ok 0

pub scales : AreScales
unfolding is_utf8 chars encode file_scale outline_of ebml_header segment_of elements elements_within element_in id_at size_at entry_of table count_leading_zeros grove grove_within
scales = record {
  no_element = refl;
  no_info = refl;
  no_scale = refl;
  empty_scale = refl;
  written = refl;
  another = refl;
  streamed = refl;
  second_scale = refl;
  second_info = refl;
  before_damage = refl;
  behind_damage = refl;
  damaged_info = refl;
  too_long_scale = refl;
  zero = refl;
}

-- the same without a reader's limits
abbrev read_freely : List ℕ → Result ℕ Damage
read_freely body =
    let bytes : List ℕ = header ++ element 0x18 0x53 0x80 0x67 body in and_then (outline_of 0 bytes) (λ o. Ok (scale_without_limits bytes o.segment))

pub record AreFreeScales : Type 0 where
  pub no_info : read_freely tracks ≡ Ok 1000000
  pub second_scale : read_freely (info (five ++ zero_scale)) ≡ Ok 5
  pub damaged_info : read_freely (info (five ++ (0x4D ∷ 0x80 ∷ 0x81 ∷ 0xFF ∷ []))) ≡ Ok 1000000

pub free_scales : AreFreeScales
unfolding is_utf8 chars encode scale_without_limits outline_of ebml_header segment_of elements elements_within element_in id_at size_at entry_of table count_leading_zeros elements_in trees_within
free_scales = record { no_info = refl; second_scale = refl; damaged_info = refl }

-- ---- the damage that refuses an Info with its header at 21 and its body at 26

abbrev refusal : List ℕ → Result (Option Damage) Damage
refusal body = and_then (tree_of 0x1549A966 21 body 26 65536) (λ tree. Ok (info_refusal tree))

abbrev bad_scale : ℕ → Result (Option Damage) Damage
bad_scale offset = Ok (Some (damage BadValue 0x2AD7B1 offset))

pub record AreRefusals : Type 0 where
  pub no_scale : refusal programs ≡ Ok None
  pub empty_scale : refusal (scale []) ≡ Ok None
  pub one : refusal (scale (1 ∷ [])) ≡ Ok None
  pub zero : refusal zero_scale ≡ bad_scale 26
  pub long_zero : refusal (programs ++ scale (replicate 8 0)) ≡ bad_scale 52
  pub zero_behind : refusal (five ++ zero_scale) ≡ Ok None
  pub zero_first : refusal (zero_scale ++ five) ≡ bad_scale 26

pub refusals : AreRefusals
unfolding is_utf8 chars encode element_in id_at size_at entry_of table count_leading_zeros grove grove_within
refusals = record {
  no_scale = refl;
  empty_scale = refl;
  one = refl;
  zero = refl;
  long_zero = refl;
  zero_behind = refl;
  zero_first = refl;
}
