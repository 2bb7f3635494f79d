use Rattle.std.proofs.Common.{refl}
use Rattle.crc32.specs.Checksum.{crc32, after_bytes}
use Rattle.crc32.proofs.checksum.Crc32.new.Goals as goal

-- The register before any byte is all ones, whose complement is 0.
pub returns : goal.returns
unfolding crc32 after_bytes
returns c = refl
