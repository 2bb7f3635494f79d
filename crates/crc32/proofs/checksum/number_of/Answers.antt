use Rattle.std.proofs.lemmas.Nat.{le_bytes_8}
use Rattle.crc32.proofs.checksum.number_of.Goals as goal

pub returns : goal.returns
returns c = le_bytes_8 c.args.bytes.now c.from_le_bytes.result c.requires (λ i. (c.type_inv.bytes i).fits) c.from_le_bytes.ensures
