-- Laws about output tracks.
use Rattle.std.specs.Prelude.{◌≡◌}
use Rattle.mkv_io.specs.LiveFiles.{LiveFiles}
use Rattle.lanes.specs.Lane.{IsEnded, IsReady, IsTold, KeepsLane, LaneSeen, due, files_length, left, told_in_all}

-- The output track `l` is the same among the live files `new` as among `old`. It can be advanced, and the same blocks, damaged places and bytes are
-- left. The law on writes to other files gives it.
pub record StandsAmong (old new : LiveFiles) (l : LaneSeen) : Type 0 where
  pub ready : IsReady new l
  pub told : IsTold old l → IsTold new l
  pub left : left new l ≡ left old l
  pub damages : told_in_all new l ≡ told_in_all old l
  pub due : due new l ≡ due old l
  pub length : files_length new l ≡ files_length old l

-- Writes that changed the live files from `old` to `new`, but not the ones of its links, don't affect an output track `l` that can be advanced. The
-- law `lanes_stand_over_writes` states it.
abbrev pub AreUnaffectedByWrites : Type 0
AreUnaffectedByWrites = (old new : LiveFiles) (l : LaneSeen) → KeepsLane old new l → IsReady old l → StandsAmong old new l

-- An output track `l` that has ended has met all damaged places that are reported at the end. `f` are the live files. The law
-- `ended_lanes_have_told_all` states it.
abbrev pub EndedHaveToldAll : Type 0
EndedHaveToldAll = (f : LiveFiles) (l : LaneSeen) → IsReady f l → IsEnded l → told_in_all f l ≡ l.walk.told.items
