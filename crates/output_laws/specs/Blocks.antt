-- The effect of a reader's limits, the size of a block that is read with them, and the damage that is reported.
use Rattle.std.specs.Prelude.{◌≡◌, ◌≤◌, ◌<◌, ℕ, nat_abs, Bool, if◌then◌else◌, List, [], ◌∷◌, ◌++◌, length, map, sum}
use Rattle.std.specs.List.{All}
use Rattle.std.specs.Option.{IfSome, option_map_or}
use Rattle.ebml_numbers.specs.Number.{AreOctets}
use Rattle.lacing.specs.declared.kind.Lace.{Lace}
use Rattle.lacing.specs.Writing.{FitsKind}
use Rattle.mkv_io.specs.declared.damage.Damage.{Damage}
use Rattle.mkv_schema.specs.declared.element.Header.{Header}
use Rattle.block_format.specs.declared.limits.TheConstants.{MAX_BLOCK_LEN, MAX_REFERENCES, TOO_LARGE_TIME}
use Rattle.block_format.specs.Block.{Block}
use Rattle.block_format.specs.Elements.{Rules, with_limits, without_limits}
use Rattle.block_format.specs.Events.{Event, stopped, Found, first_wrong, events_then, events_of, blocks_of, damages_of}

-- If no damage is reported for a file that is read with limits, it is read alike without limits. `scale` is the nanoseconds per tick, `bytes` the
-- file, and `segment` the Segment's header. The law `limits_change_nothing` states it.
abbrev pub LimitsChangeNothing : Type 0
LimitsChangeNothing =
    (scale : ℕ) (bytes : List ℕ) (segment : Header) → damages_of (events_of (with_limits scale) bytes segment) ≡ []
    → events_of (without_limits scale) bytes segment ≡ events_of (with_limits scale) bytes segment

-- No event follows the damage `d` that ends the reading of the file `bytes` by the rules `r`. `segment` is the Segment's header, and `before` are the
-- events before the damage. The law `a_stop_is_the_last_event` states it.
abbrev pub StopsAtTheEnd : Type 0
StopsAtTheEnd =
    (r : Rules) (bytes : List ℕ) (segment : Header) (before behind : List Event) (d : Damage) → events_of r bytes segment ≡ before ++ stopped d ∷ behind → behind ≡ []

-- Only the first damage among `found`, the results in a Cluster, is reported. After damage the events `rest` after the Cluster are read only if its
-- size is known and it ends within the file (`closed`). The law `the_first_damage_of_a_cluster_is_told` states it.
abbrev pub TellsTheFirstWrong : Type 0
TellsTheFirstWrong =
    (closed : Bool) (found : List Found) (rest : List Event)
    → damages_of (events_then closed found rest) ≡ option_map_or (λ d. d ∷ (if closed then damages_of rest else [])) (first_wrong found) (damages_of rest)

-- `sizes` are 1 to 256 sizes of frames in bytes, at most 32 MiB in all, that the lacing `kind` can store. A block that was read within a reader's
-- limits has such frames (`IsSmall`).
pub record CanBeLaced (kind : Lace) (sizes : List ℕ) : Type 0 where
  pub some : 1 ≤ length sizes
  pub most : length sizes ≤ 256
  pub total : sum sizes ≤ MAX_BLOCK_LEN
  pub fits : FitsKind kind sizes

-- The block `b` is within a reader's limits. Its timestamp, duration and references are below 2^56 nanoseconds. It has at most 64 references, frames
-- that its lacing can have, and at most 32 MiB of kept children. The law `blocks_are_small` states it of each block that is read.
pub record IsSmall (b : Block) : Type 0 where
  pub time : nat_abs b.time < TOO_LARGE_TIME
  pub duration : IfSome b.duration (λ d. d < TOO_LARGE_TIME)
  pub references : All (λ z. nat_abs z < TOO_LARGE_TIME) b.references
  pub few : length b.references ≤ MAX_REFERENCES
  pub frames : CanBeLaced b.lace (map (λ (frame : List ℕ). length frame) b.frames)
  pub kept : length b.kept ≤ MAX_BLOCK_LEN

-- Each block of a file that is read with limits is within these limits. `scale` is the nanoseconds per tick, `bytes` the file, a list of bytes, and
-- `segment` the Segment's header. The law `blocks_are_small` states it.
abbrev pub BlocksAreSmall : Type 0
BlocksAreSmall = (scale : ℕ) (bytes : List ℕ) (segment : Header) → AreOctets bytes → All IsSmall (blocks_of (events_of (with_limits scale) bytes segment))
