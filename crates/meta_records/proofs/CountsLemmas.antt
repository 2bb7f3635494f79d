-- The limits of the counts.
use Rattle.std.proofs.Common.{◌≡◌, ◌<◌, ◌≤◌, ℕ, ◌+◌, ◌-◌, nat_lt, nat_le, true, false, Some, None, refl, arith}
use Rattle.mkv_io.specs.declared.damage.Kind.TheVariants.{HeaderTooLarge, TooMany}
use Rattle.mkv_schema.specs.declared.element.Header.{Header}
use Rattle.mkv_schema.specs.Outline.{first_damage}
use Rattle.tree_format.specs.declared.limits.TheConstants.{MAX_NODES}
use Rattle.meta_records.specs.Attachments.{limits_passed, told_at}
use Rattle.meta_records.specs.declared.limits.TheConstants.{MAX_ATTACHMENTS_LEN}

pub limits-over : (old octets nodes : ℕ) (h : Header) → MAX_ATTACHMENTS_LEN - old < octets → first_damage (limits_passed (old + octets) nodes h) ≡ Some (told_at HeaderTooLarge h)
limits-over old octets nodes h over = let test : nat_lt MAX_ATTACHMENTS_LEN (old + octets) ≡ true = grind arith in rw test refl

pub limits-many : (old octets nodes : ℕ) (h : Header) → octets ≤ MAX_ATTACHMENTS_LEN - old → old ≤ MAX_ATTACHMENTS_LEN → MAX_NODES ≤ nodes → first_damage (limits_passed (old + octets) nodes h) ≡ Some (told_at TooMany h)
limits-many old octets nodes h within few many =
    let test : nat_lt MAX_ATTACHMENTS_LEN (old + octets) ≡ false = grind arith in
    let count : nat_le MAX_NODES nodes ≡ true = grind arith in
    rw (test, count) refl

pub limits-none : (old octets nodes : ℕ) (h : Header) → octets ≤ MAX_ATTACHMENTS_LEN - old → old ≤ MAX_ATTACHMENTS_LEN → nodes < MAX_NODES → first_damage (limits_passed (old + octets) nodes h) ≡ None
limits-none old octets nodes h within few some =
    let test : nat_lt MAX_ATTACHMENTS_LEN (old + octets) ≡ false = grind arith in
    let count : nat_le MAX_NODES nodes ≡ false = grind arith in
    rw (test, count) refl

pub ruleset limits = (limits-over, limits-many, limits-none)
