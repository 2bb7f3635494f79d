use Rattle.std.proofs.Common.{ap, ◌∙◌, refl, add-one}
use Rattle.crc32.specs.Checksum.{shifted}
use Rattle.crc32.specs.Tables.{shifts}
use Rattle.crc32.proofs.tables.eight_shifts.Goals as goal

pub shifts-init : goal.shifts-init
unfolding shifts
shifts-init c = refl

pub shifts-preserved : goal.shifts-preserved
unfolding shifts
shifts-preserved c = rw add-one (c.shifted-register.ensures ∙ ap shifted c.shifts.invariant)
