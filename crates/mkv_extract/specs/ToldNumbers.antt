-- The numbers of missing items that were reported, so that each is reported once.
use Rattle.std.specs.Prelude.{◌≡◌, ℕ, ◌==◌, nat_eq, nat_le, true, ◌||◌, List}
use Rattle.std.specs.List.{list_any}
use Rattle.requests.specs.declared.job.Target.{Target}
use Rattle.mkv_extract.specs.Read.{is_named}

-- Among the numbers from `count` on, `new` has the ones in `old` and `number`. The contract of `is_told` states it of the numbers that `extract` has
-- reported as missing.
abbrev pub HasJoined : ℕ → ℕ → List ℕ → List ℕ → Type 0
HasJoined count number old new = (n : ℕ) → nat_le count n ≡ true → list_any (nat_eq n) new ≡ (list_any (nat_eq n) old || number == n)

-- Among the numbers from `count` on, `numbers` has exactly the ones that `targets` name. The loop of `say_absent` keeps it for the numbers that were
-- reported as missing.
abbrev pub HasNumbersOf : ℕ → List Target → List ℕ → Type 0
HasNumbersOf count targets numbers = (n : ℕ) → nat_le count n ≡ true → list_any (nat_eq n) numbers ≡ is_named targets n
