-- Checksums that zlib computes, and the catalogue's check value of CRC-32, computed here by the definition, so that a wrong one fails the check.
use Rattle.std.proofs.Common.{◌≡◌, ℕ, List, [], ◌∷◌, map, take, replicate, codes, refl}
use Rattle.crc32.specs.Checksum.{generator, after_bytes, crc32}

-- the generator polynomial as programs write it
pub generator_is : generator ≡ 0xEDB88320
generator_is = refl

pub record AreChecksums : Type 0 where
  pub nothing : crc32 [] ≡ 0
  pub digits : crc32 (codes "123456789") ≡ 0xCBF43926
  pub zeros : crc32 (replicate 32 0) ≡ 0x190A55AD
  pub ones : crc32 (replicate 32 255) ≡ 0xFF6CAB0B

pub checksums : AreChecksums
unfolding crc32 after_bytes
checksums = record { nothing = refl; digits = refl; zeros = refl; ones = refl }

abbrev forty_bytes : List ℕ
forty_bytes =
    11 ∷ 48 ∷ 85 ∷ 122 ∷ 159 ∷ 196 ∷ 233 ∷ 14 ∷ 51 ∷ 88 ∷ 125 ∷ 162 ∷ 199 ∷ 236 ∷ 17 ∷ 54 ∷ 91 ∷ 128 ∷ 165 ∷ 202
    ∷ 239 ∷ 20 ∷ 57 ∷ 94 ∷ 131 ∷ 168 ∷ 205 ∷ 242 ∷ 23 ∷ 60 ∷ 97 ∷ 134 ∷ 171 ∷ 208 ∷ 245 ∷ 26 ∷ 63 ∷ 100 ∷ 137 ∷ 174 ∷ []

abbrev lengths : List ℕ
lengths =
    1 ∷ 2 ∷ 3 ∷ 4 ∷ 5 ∷ 6 ∷ 7 ∷ 8 ∷ 9 ∷ 10 ∷ 11 ∷ 12 ∷ 13 ∷ 14 ∷ 15 ∷ 16 ∷ 17 ∷ 18 ∷ 19 ∷ 20
    ∷ 21 ∷ 22 ∷ 23 ∷ 24 ∷ 25 ∷ 26 ∷ 27 ∷ 28 ∷ 29 ∷ 30 ∷ 31 ∷ 32 ∷ 33 ∷ 34 ∷ 35 ∷ 36 ∷ 37 ∷ 38 ∷ 39 ∷ 40 ∷ []

-- zlib's checksums of the first 1 to 40 of `forty_bytes`
abbrev zlib_checksums : List ℕ
zlib_checksums =
    0x45D03605 ∷ 0x84F4FB98 ∷ 0x3753A57B ∷ 0xA5328CBE ∷ 0x9ECECD5F ∷ 0xB5416B8C ∷ 0xEF6F3B31 ∷ 0x648BAD8B
    ∷ 0x17DC5F9E ∷ 0xA0125457 ∷ 0x0919340F ∷ 0x7A6C29EC ∷ 0x7EC47AE4 ∷ 0xDCA7A3C5 ∷ 0x53605EE3 ∷ 0x24E8A988
    ∷ 0xCDFC844A ∷ 0xA97E38A7 ∷ 0x3CA5F099 ∷ 0x205C4A33 ∷ 0x5D472D38 ∷ 0xE087C443 ∷ 0x6232F06B ∷ 0x84D3195E
    ∷ 0x2AE492FD ∷ 0xC929AE64 ∷ 0x7DC1DD6F ∷ 0x5CC1C1A9 ∷ 0xFE87B0C7 ∷ 0xF89343A9 ∷ 0x4745364C ∷ 0xA9F48115
    ∷ 0xFE728587 ∷ 0x27F3595F ∷ 0xE4265622 ∷ 0xFAE47145 ∷ 0x622893DE ∷ 0xF9D49D8C ∷ 0xA291CF9F ∷ 0x837E7E78 ∷ []

pub fronts : map (λ n. crc32 (take n forty_bytes)) lengths ≡ zlib_checksums
unfolding crc32 after_bytes
fronts = refl
