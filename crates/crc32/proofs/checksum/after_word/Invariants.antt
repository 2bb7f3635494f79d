use Rattle.std.proofs.Common.{◌≡◌, ◌+◌, ◌-◌, ◌*◌, ◌^◌, ◌<◌, bit_xor}
use Rattle.crc32.specs.Tables.{shifts}
use Rattle.crc32.proofs.checksum.after_word.Given as goal

abbrev pub invariant-bytes : goal.invariant-bytes
invariant-bytes l =
    (bit_xor l.after (shifts (8 * (l.later + 8 - l.place)) l.left) ≡ shifts (8 * (l.later + 8)) l.word)
    × (l.left < 2 ^ (64 - 8 * l.place))
