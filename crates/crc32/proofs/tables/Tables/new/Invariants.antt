use Rattle.std.proofs.Common.{◌≡◌, ℕ, ◌+◌, ◌*◌, ◌/◌, ◌%◌, ◌<◌, length, slice_index}
use Rattle.crc32.specs.Tables.{shifts}
use Rattle.crc32.proofs.tables.Tables.new.Given as goal

abbrev pub invariant-places : goal.invariant-places
invariant-places l =
    (length l.words ≡ 4096)
    × ((place : ℕ) → place < l.place → slice_index l.words place ≡ shifts (8 * (place / 256 + 1)) (place % 256))
