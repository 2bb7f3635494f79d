-- The walk of an output track at its start.
use Rattle.std.specs.Prelude.{◌≡◌, ℕ, false, [], None, replicate}
use Rattle.cluster_reader.specs.ToldDamages.{told_damages}
use Rattle.lanes.specs.declared.walk.Walk.{Walk}

-- The walk `w` is at the first of `count` links: no file was opened, and no damaged place was met. The contract of `Walk::start` has it.
pub record Begins (count : ℕ) (w : Walk) : Type 0 where
  pub at : w.at ≡ 0
  pub cursor : w.cursor ≡ None
  pub next : w.next ≡ 0
  pub frames : w.frames ≡ 0
  pub stopped : w.stopped ≡ false
  pub greatest : w.greatest ≡ 0
  pub told : w.told.items ≡ replicate count (told_damages [])
