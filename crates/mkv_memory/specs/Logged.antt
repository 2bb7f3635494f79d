-- A pair of files with a history, and the room for more changes.
use Rattle.std.specs.Prelude.{ℕ, ◌+◌, Bool, ◌&&◌, nat_le, nat_lt, List, [], length}
use Rattle.mkv_memory.specs.Changes.{Change, History, octets_in, with_change}
use Rattle.mkv_memory.specs.declared.logged_pair.CallBudget.{CallBudget}

-- the log of a disk in memory: the changes of its two files, and the room that was reserved at first. `LoggedPair` is seen as one. Used by `logged`,
-- `IsLogOf` and others.
pub record Logged : Type 0 where
  pub history : History
  pub room : CallBudget

-- the log of two files with the contents `media` and `sidecar`, without changes, and with the room `room` for calls and bytes. A new disk has it.
abbrev pub unchanged : List ℕ → List ℕ → CallBudget → Logged
unchanged media sidecar room = record { history = record { media = media; sidecar = sidecar; made = [] }; room = room }

-- The log `l` has room for one more call that writes `octets` bytes. The contract of `LoggedPair::has_room` has it.
abbrev pub has_room : Logged → ℕ → Bool
has_room l octets = nat_lt (length l.history.made) l.room.calls && nat_le (octets_in l.history.made + octets) l.room.octets

-- the log `l` after one more change, `change`, of the file with the number `file`. The contract of `LoggedPair::make` has it.
abbrev pub and_then : Logged → ℕ → Change → Logged
and_then l file change = record l { history = with_change l.history file change }
