-- The numbers that can't be given to another item.
use Rattle.std.specs.Prelude.{◌≡◌, ◌<◌, ◌+◌, ◌^◌, ℕ, Bool, true, ◌||◌, nat_eq, length}
use Rattle.indexmap.specs.IndexSet.{IndexSet, contains}

-- The number `n` is in one of the two sets: `source`, the inputs' identifiers, or `given`, the numbers that were given. It can't be given again.
abbrev pub is_taken : {S : Type 0} → IndexSet ℕ S → IndexSet ℕ S → ℕ → Bool
is_taken source given n = contains nat_eq source n || contains nat_eq given n

-- The number `n` is positive, and each smaller positive number passes `taken`. The search for a free number keeps it.
pub record IsNext (taken : ℕ → Bool) (n : ℕ) : Type 0 where
  pub positive : 0 < n
  pub below : (k : ℕ) → 0 < k → k < n → taken k ≡ true

-- The two sets `source` and `given` together leave a number of 64 bits free. The search for a free number requires it. Used by `free_from` and
-- `number_for`.
abbrev pub HasRoom : {S : Type 0} → IndexSet ℕ S → IndexSet ℕ S → Type 0
HasRoom source given = length source.keys + length given.keys + 1 < 2 ^ 64
