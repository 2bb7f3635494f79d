-- The report of a file's damaged places: the first hundred, and the number of others.
use Rattle.std.specs.Prelude.{◌≡◌, ℕ, ◌-◌, nat_lt, min, if◌then◌else◌, List, [], ◌∷◌, ◌++◌, length, take}
use Rattle.mkv_io.specs.Faults.{counted, last_count}
use Rattle.mkv_io.specs.declared.damage.Damage.{Damage}
use Rattle.cluster_reader.specs.declared.damages.TheConstants.{MAX_REPORTED}

-- the report of a file's damaged places that `merge` and `extract` print: the ones that are reported one by one, at most a hundred, and the number of
-- others
pub record ToldDamages : Type 0 where
  pub first : List Damage
  pub more : ℕ

-- the report of the damaged places `list` of a file; its number of others stays at 2^64 - 1 if there are more. Used by `new`, `TellsInTurn` and
-- others.
abbrev pub told_damages : List Damage → ToldDamages
told_damages list = record { first = take MAX_REPORTED list; more = min (length list - MAX_REPORTED) last_count }

-- the report `t` of a file with the damage `d` added, or only counted after the first hundred; the contract of `add`
abbrev pub with_damage : ToldDamages → Damage → ToldDamages
with_damage t d = if nat_lt (length t.first) MAX_REPORTED then record { first = t.first ++ d ∷ []; more = t.more } else record { first = t.first; more = counted t.more 1 }

-- Law: adding a damaged place `d` to the report of the places `list` gives the report of the longer list.
abbrev pub TellsInTurn : Type 0
TellsInTurn = (list : List Damage) (d : Damage) → with_damage (told_damages list) d ≡ told_damages (list ++ d ∷ [])
