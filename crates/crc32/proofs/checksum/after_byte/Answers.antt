use Rattle.std.proofs.Common.{bit_xor, sym, ◌∙◌}
use Rattle.crc32.specs.Tables.{shifts}
use Rattle.crc32.proofs.ShiftLemmas.{shifts_bytes}
use Rattle.crc32.proofs.RegisterLemmas.{after_one}
use Rattle.crc32.proofs.checksum.after_byte.Goals as goal

pub returns : goal.returns
unfolding shifts
returns c =
    rw (c.word.ensures, c.from.ensures)
    (sym (after_one c.args.register c.args.byte c.ranges.byte.fits ∙ shifts_bytes 0 (bit_xor c.args.register c.args.byte)))
