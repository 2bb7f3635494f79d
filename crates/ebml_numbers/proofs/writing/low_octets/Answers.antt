-- The mask leaves a remainder.
use Rattle.std.proofs.Common.{◌≡◌, ◌*◌, to_z, of_z, w64}
use Rattle.std.proofs.Math.Nat.{mod-lt}
use Rattle.std.proofs.lemmas.Nat.{pow_pos}
use Rattle.std.proofs.lemmas.Int.{to_z-of_z}
use Rattle.ebml_numbers.proofs.WidthLemmas.{pow256}
use Rattle.ebml_numbers.proofs.SignLemmas.{mask-low_bytes}
use Rattle.ebml_numbers.proofs.writing.low_octets.Goals as goal

pub returns-clause-value : goal.returns-clause-value
returns-clause-value c =
    let passed : to_z w64 (of_z w64 c.args.value) ≡ c.args.value = to_z-of_z _ _ c.ranges.value in
    rw (mask-low_bytes c.args.width c.cast_unsigned.result c.requires.some c.requires.most, c.cast_unsigned.ensures, passed)

pub returns-clause-fits : goal.returns-clause-fits
returns-clause-fits c =
    rw (mask-low_bytes c.args.width c.cast_unsigned.result c.requires.some c.requires.most, pow256 c.args.width)
    (mod-lt c.cast_unsigned.result (pow_pos (8 * c.args.width)))
