-- The bytes of a written number.
use Rattle.std.specs.Prelude.{ℕ, List, take}
use Rattle.ebml_numbers.specs.declared.octets.Octets.{Octets}

-- the first `len` bytes of `o`, which are the written number. The contracts of the functions that write numbers speak of them.
abbrev pub octets_of : Octets → List ℕ
octets_of o = take o.len o.bytes
