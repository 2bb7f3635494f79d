-- Timestamps that are written to a timestamp file and read back.
use Rattle.std.specs.Prelude.{◌≡◌, ◌<◌, ◌^◌, ℤ, nat_abs, All, List, ◌++◌, flat_map, ℕ, Ok}
use Rattle.ext_times.specs.Listing.{Each, listing}
use Rattle.extractors.specs.Codec.{times_head}
use Rattle.extractors.specs.Times.{time_line}

-- the content of a timestamp file with the timestamps `ts`, in nanoseconds. `extract` writes it, and the law reads it.
abbrev pub put_times : List ℤ → List ℕ
put_times ts = times_head ++ flat_map time_line ts

-- Timestamps `ts` of less than 2^57 ns in size, written to a timestamp file, are read back as they were. The law `times_are_read_back` states it.
abbrev pub TimesAreReadBack : Type 0
TimesAreReadBack = (ts : List ℤ) → All (λ t. nat_abs t < 2 ^ 57) ts → listing (put_times ts) ≡ Ok (Each ts)
