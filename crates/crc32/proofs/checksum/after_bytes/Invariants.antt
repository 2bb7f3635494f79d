use Rattle.std.proofs.Common.{◌≡◌, ◌*◌, take}
use Rattle.crc32.specs.Checksum.{after_bytes}
use Rattle.crc32.proofs.checksum.after_bytes.Given as goal

abbrev pub invariant-turns : goal.invariant-turns
invariant-turns l = l.after ≡ after_bytes l.fn.register (take (16 * l.turn) l.bytes)

abbrev pub invariant-rest : goal.invariant-rest
invariant-rest l = l.after ≡ after_bytes l.fn.register (take l.place l.bytes)
