-- Masters that a reader with limits reads: RFC 8794, section 7.7 (Master Element). The limits are this project's.
use Rattle.std.specs.Prelude.{◌≡◌, ◌≤◌, ℕ, List, Ok}
use Rattle.tree_format.specs.Node.{Node, count, depth, deepest}
use Rattle.tree_format.specs.NormalForm.{content}
use Rattle.tree_format.specs.Reading.{tree_of}
use Rattle.tree_format.specs.Order.{tree_without_limits}
use Rattle.tree_format.specs.Standing.{kept}
use Rattle.output_model.specs.Sound.{IsRecord}

-- A master `n` that is read without limits is the same with limits, if it has at most `nodes` Elements and isn't too deep. It has the ID `id`, its
-- header is at `offset`, and its content `body` at `base`. The law `small_trees_are_read` states it.
abbrev pub SmallTreesAreRead : Type 0
SmallTreesAreRead =
    (id offset : ℕ) (body : List ℕ) (base nodes : ℕ) (n : Node) → tree_without_limits id offset body base ≡ Ok n
    → count n ≤ nodes → depth n ≤ deepest → tree_of id offset body base nodes ≡ Ok n

-- Two records `m` and `n` with the ID `own` whose contents are written alike have equally many Elements that are written: Void and CRC-32 don't
-- count. The law `alike_records_count_alike` states it.
abbrev pub AlikeRecordsCountAlike : Type 0
AlikeRecordsCountAlike = (own : ℕ) (m n : Node) → IsRecord own m → IsRecord own n → content m ≡ content n → kept m ≡ kept n
