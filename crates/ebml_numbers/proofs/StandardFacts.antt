-- Computed examples for the rules of RFC 8794, sections 5 (Element ID) and 6 (Element Data Size). A wrong definition fails here.
use Rattle.std.proofs.Common.{◌≡◌, ℕ, true, false, [], ◌∷◌, ◌++◌, replicate, pos, negsuc, Result, Ok, Err, refl}
use Rattle.std.specs.Int.Count.{count_leading_zeros}
use Rattle.ebml_numbers.specs.declared.number.IdRead.{IdRead}
use Rattle.ebml_numbers.specs.declared.number.Size.TheVariants.{Known, Unknown}
use Rattle.ebml_numbers.specs.declared.number.SizeRead.{SizeRead}
use Rattle.ebml_numbers.specs.declared.number.NumFault.{NumFault}
use Rattle.ebml_numbers.specs.declared.number.NumFault.TheVariants.{More, Bad}
use Rattle.ebml_numbers.specs.Number.{id_at, is_id, id_octets, uint_width, size_at, size_octets, least_size_width, uint_of, uint_octets, int_of, int_width, int_octets}

abbrev id : ℕ → ℕ → Result IdRead NumFault
id n w = Ok (record { id = n; len = w })

abbrev size : ℕ → ℕ → Result SizeRead NumFault
size v w = Ok (record { size = Known v; len = w })

abbrev unknown : ℕ → Result SizeRead NumFault
unknown w = Ok (record { size = Unknown; len = w })

-- IDs take the fewest bytes, and their data are neither all 0 nor all 1.
pub record AreIds : Type 0 where
  pub ebml : id_at (0x1A ∷ 0x45 ∷ 0xDF ∷ 0xA3 ∷ []) ≡ id 0x1A45DFA3 4
  pub followed : id_at (0xEC ∷ 0x81 ∷ 0 ∷ []) ≡ id 0xEC 1
  pub too_long : id_at (0x40 ∷ 0x01 ∷ []) ≡ Err Bad
  pub still_too_long : id_at (0x40 ∷ 0x7E ∷ []) ≡ Err Bad
  pub least_of_two : id_at (0x40 ∷ 0x7F ∷ []) ≡ id 0x407F 2
  pub all_zeros : id_at (0x80 ∷ []) ≡ Err Bad
  pub all_ones : id_at (0xFF ∷ []) ≡ Err Bad
  pub too_wide : id_at (0x08 ∷ []) ≡ Err Bad
  pub cut : id_at (0x1A ∷ 0x45 ∷ []) ≡ Err (More 4)
  pub nothing : id_at [] ≡ Err (More 1)
  pub valid : is_id 0x1A45DFA3 ≡ true
  pub marker_alone : is_id 0x80 ≡ false
  pub written : id_octets 0x1A45DFA3 ≡ 0x1A ∷ 0x45 ∷ 0xDF ∷ 0xA3 ∷ []
  pub marker_written : id_octets 0x80 ≡ 0x80 ∷ []

pub ids : AreIds
unfolding id_at is_id uint_width count_leading_zeros
ids = record {
  ebml = refl;
  followed = refl;
  too_long = refl;
  still_too_long = refl;
  least_of_two = refl;
  all_zeros = refl;
  all_ones = refl;
  too_wide = refl;
  cut = refl;
  nothing = refl;
  valid = refl;
  marker_alone = refl;
  written = refl;
  marker_written = refl;
}

-- Sizes may have any width, and data of all 1 mean an unknown size.
pub record AreSizes : Type 0 where
  pub unknown_in_one : size_at (0xFF ∷ []) ≡ unknown 1
  pub unknown_in_eight : size_at (0x01 ∷ replicate 7 0xFF) ≡ unknown 8
  pub in_two : size_at (0x40 ∷ 0x7F ∷ []) ≡ size 127 2
  pub in_eight : size_at (0x01 ∷ (replicate 6 0 ++ 0x01 ∷ [])) ≡ size 1 8
  pub zero_octet : size_at (0x00 ∷ []) ≡ Err Bad
  pub cut : size_at (0x10 ∷ 0 ∷ []) ≡ Err (More 4)
  pub nothing : size_at [] ≡ Err (More 1)
  pub written : size_octets 1 1 ≡ 0x81 ∷ []
  pub written_wide : size_octets 1 8 ≡ 0x01 ∷ (replicate 6 0 ++ 0x01 ∷ [])
  pub most_of_one : least_size_width 126 ≡ 1
  pub least_of_two : least_size_width 127 ≡ 2

pub sizes : AreSizes
unfolding size_at least_size_width count_leading_zeros
sizes = record {
  unknown_in_one = refl;
  unknown_in_eight = refl;
  in_two = refl;
  in_eight = refl;
  zero_octet = refl;
  cut = refl;
  nothing = refl;
  written = refl;
  written_wide = refl;
  most_of_one = refl;
  least_of_two = refl;
}

-- Integers take the fewest bytes, at least one.
pub record AreIntegers : Type 0 where
  pub nothing : uint_of [] ≡ 0
  pub two_octets : uint_of (1 ∷ 0 ∷ []) ≡ 256
  pub zero_written : uint_octets 0 ≡ 0 ∷ []
  pub one_octet : uint_octets 255 ≡ 255 ∷ []
  pub next_octet : uint_octets 256 ≡ 1 ∷ 0 ∷ []
  pub nothing_signed : int_of [] ≡ pos 0
  pub minus_one : int_of (255 ∷ []) ≡ negsuc 0
  pub minus_one_written : int_octets (negsuc 0) ≡ 255 ∷ []
  pub sign_octet : int_octets (pos 128) ≡ 0 ∷ 128 ∷ []
  pub least_of_one : int_octets (negsuc 127) ≡ 128 ∷ []
  pub below_it : int_octets (negsuc 128) ≡ 255 ∷ 127 ∷ []

pub integers : AreIntegers
unfolding uint_width int_width
integers = record {
  nothing = refl;
  two_octets = refl;
  zero_written = refl;
  one_octet = refl;
  next_octet = refl;
  nothing_signed = refl;
  minus_one = refl;
  minus_one_written = refl;
  sign_octet = refl;
  least_of_one = refl;
  below_it = refl;
}
