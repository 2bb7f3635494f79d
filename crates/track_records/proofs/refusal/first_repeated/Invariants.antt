-- The rest has the first repeated number, and the previous numbers are known.
use Rattle.std.proofs.Common.{◌≡◌, ◌-◌, ◌==◌, ℕ, nat_cmp, length, find, take}
use Rattle.std.specs.BTreeSet.{contains}
use Rattle.std.specs.List.{list_any, range_with_len}
use Rattle.file_format.specs.Refusal.{is_repeated, first_repeated}
use Rattle.track_records.proofs.refusal.first_repeated.Given as goal

abbrev pub invariant-loop-k : goal.invariant-loop-k
invariant-loop-k l = record {
  told : find (is_repeated l.numbers) (range_with_len l.k (length l.numbers - l.k)) ≡ first_repeated l.numbers;
  known : (q : ℕ) → contains nat_cmp l.before q ≡ list_any (λ n. n == q) (take l.k l.numbers);
}
