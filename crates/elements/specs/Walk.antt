-- Results of steps over Elements of unknown size.
use Rattle.std.specs.Prelude.{ℕ, ◌≤◌, List, Result, Ok, Err}
use Rattle.mkv_io.specs.declared.damage.Damage.{Damage}
use Rattle.mkv_schema.specs.Elements.{Run, end_of_run, open_cluster}

-- the offset of the end of the run `run` of Elements, or the damage that ends it. For `cluster_end`, when a reader walks over level 1.
abbrev pub run_end : Run → Result ℕ Damage
run_end run = end_of_run run run.damage

-- the offset of the end of the children of a Cluster of unknown size, or the damage among them. They begin at the offset `p` in the content `bytes`,
-- and end at `e` at the latest. The contract of the function of the same name states it.
abbrev pub cluster_end : List ℕ → ℕ → ℕ → Result ℕ Damage
cluster_end bytes p e = run_end (open_cluster bytes p e)

-- the offset that was found, or the end `end` of the walk if damage ended it. For contracts on bytes that are read.
abbrev pub place_or : ℕ → Result ℕ Damage → ℕ
place_or end (Ok at) = at
place_or end (Err d) = end

-- The offset `at` is at least `from` and at most `end`. The contracts of `cluster_end` and `behind` state it.
pub record IsBetween (from end at : ℕ) : Type 0 where
  pub after : from ≤ at
  pub before : at ≤ end
