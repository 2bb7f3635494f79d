-- The invariants of the fields of `Cuts`. The parts don't depend on them.
use Rattle.std.specs.Prelude.{◌≡◌, ℕ, ◌*◌, unwrap_or}
use Rattle.splitter.specs.declared.cuts.Cuts.TheInside.{Inside}
use Rattle.splitter.specs.Split.{has_come, is_over, keeps}

-- The fields `end` and `kept` of the state `c` agree with the section of the last block. Before any block they agree with the section at tick 0. It
-- is the invariant of `Cuts`.
pub record IsSet (c : Inside) : Type 0 where
  pub end : (time : ℕ) → has_come c.end time ≡ is_over c.spec (unwrap_or c.start 0 * c.scale) time
  pub kept : c.kept ≡ keeps c.spec (unwrap_or c.start 0 * c.scale)
