use Rattle.std.proofs.Common.{◌≡◌}
use Rattle.crc32.specs.Tables.{shifts}
use Rattle.crc32.proofs.tables.eight_shifts.Given as goal

abbrev pub invariant-shifts : goal.invariant-shifts
invariant-shifts l = l.register ≡ shifts l._count l.fn.word
