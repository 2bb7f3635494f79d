-- Bounds on the bytes that are read, by the counts.
use Rattle.std.proofs.Common.{◌≡◌, ℕ, ◌+◌, ◌-◌, ◌*◌, ◌≤◌, min, sym, subst, arith}
use Rattle.mkv_schema.specs.declared.limits.TheConstants.{MAX_ELEMENT_HEADER_LEN}
use Rattle.tree_format.specs.declared.limits.TheConstants.{MAX_NODES}
use Rattle.meta_records.specs.Walk.{IsPaid, IsSpent}
use Rattle.meta_records.specs.declared.counts.Counts.{Counts}
use Rattle.meta_records.specs.declared.limits.TheConstants.{MAX_ATTACHMENTS_LEN}

-- Nothing was read.
pub IsPaid-none : (c : Counts) (n : ℕ) → IsPaid 0 c c n n
IsPaid-none c n = record { reads = omega arith; way = omega arith }

-- Bounds of two moves add up.
pub IsPaid-on : (from at next : ℕ) (a b c : Counts) (x y z : ℕ) → from ≤ at → at ≤ next → IsPaid (at - from) a b x y → IsPaid (next - at) b c y z → IsPaid (next - from) a c x z
IsPaid-on from at next a b c x y z on further first second = record {
  reads = omega (arith, first.reads, second.reads);
  way = omega (arith, first.way, second.way);
}

-- A move that ends after one more header is bounded.
pub IsSpent-on : (from at end : ℕ) (a b c : Counts) (x y z : ℕ) → from ≤ at → at ≤ end → IsPaid (at - from) a b x y → IsSpent (end - at) b c y z → IsSpent (end - from) a c x z
IsSpent-on from at end a b c x y z on further first second = record {
  reads = omega (arith, first.reads, second.reads);
  way = omega (arith, first.reads, first.way, second.way);
}

-- A longer distance is also a bound.
pub IsPaid-longer : (way whole : ℕ) (a b : Counts) (x y : ℕ) → way ≤ whole → IsPaid way a b x y → IsPaid whole a b x y
IsPaid-longer way whole a b x y within paid = record { reads = paid.reads; way = omega (arith, paid.way) }

-- ---- one element

-- A header was read and counted, with some of its body.
pub IsPaid-one : (way len some : ℕ) (a b : Counts) (x y z : ℕ) → y ≤ x + MAX_ELEMENT_HEADER_LEN → z ≤ y + some → b.octets ≡ a.octets + len → b.nodes ≡ a.nodes + 1 → some ≤ len → 1 ≤ way → len ≤ way → IsPaid way a b x z
IsPaid-one way len some a b x y z header body counted one within more all = record {
  reads = omega arith;
  way = omega arith;
}

-- A header was read, and not counted.
pub IsSpent-header : (whole : ℕ) (a b : Counts) (x y : ℕ) → b ≡ a → y ≤ x + min whole MAX_ELEMENT_HEADER_LEN → IsSpent whole a b x y
IsSpent-header whole a b x y same read =
    let P : Counts → Type 0 = λ c. IsSpent whole a c x y in
    subst P (sym same) (record { reads = omega arith; way = omega arith })

-- A header was read and counted, and then some bytes were read.
pub IsSpent-one : (whole len some : ℕ) (a b : Counts) (x y z : ℕ) → y ≤ x + min whole MAX_ELEMENT_HEADER_LEN → z ≤ y + some → b.octets ≡ a.octets + len → b.nodes ≡ a.nodes + 1 → some ≤ len → len ≤ whole → IsSpent whole a b x z
IsSpent-one whole len some a b x y z header body counted one within all = record { reads = omega arith; way = omega arith }

-- ---- all elements

-- From the start, the limits of the counts bound the bytes read.
pub few-paid : (way : ℕ) (a b : Counts) (x y : ℕ) → a.nodes ≡ 1 → a.octets ≡ 0 → b.octets ≤ MAX_ATTACHMENTS_LEN → b.nodes ≤ MAX_NODES → IsPaid way a b x y → y ≤ x + 2 * MAX_ATTACHMENTS_LEN
few-paid way a b x y one none octets nodes paid = omega (arith, paid.reads)

pub few-spent : (way : ℕ) (a b : Counts) (x y : ℕ) → a.nodes ≡ 1 → a.octets ≡ 0 → b.octets ≤ MAX_ATTACHMENTS_LEN → b.nodes ≤ MAX_NODES → IsSpent way a b x y → y ≤ x + 2 * MAX_ATTACHMENTS_LEN
few-spent way a b x y one none octets nodes spent = omega (arith, spent.reads)

-- The distance bounds the bytes read.
pub way-paid : (way : ℕ) (a b : Counts) (x y : ℕ) → IsPaid way a b x y → y ≤ x + 16 * way
way-paid way a b x y paid = omega (arith, paid.reads, paid.way)

-- A longer distance is also a bound.
pub IsSpent-longer : (way whole : ℕ) (a b : Counts) (x y : ℕ) → way ≤ whole → IsSpent way a b x y → IsSpent whole a b x y
IsSpent-longer way whole a b x y within spent = record { reads = spent.reads; way = omega (arith, spent.way) }
