-- The Segment's new size has room in the old one's place.
use Rattle.std.proofs.Common.{◌≡◌, ℕ, ◌+◌, ◌-◌, ◌*◌, ◌^◌, ◌<◌, ◌≤◌, min, false, length, None, ap, arith, pow_mono}
use Rattle.ebml_numbers.specs.declared.number.Size.TheVariants.{Known}
use Rattle.ebml_numbers.specs.Number.{all_ones, id_octets, least_size_width}
use Rattle.ebml_numbers.proofs.WidthLemmas.{least_size_width-IsLeast}
use Rattle.mkv_schema.specs.declared.ids.TheConstants.{SEGMENT}
use Rattle.mkv_schema.specs.declared.element.Header.{Header}
use Rattle.mkv_schema.specs.Element.{is_unknown}
use Rattle.edit_changes.specs.Plan.{size_refusal, size_width}
use Rattle.edit_plan.proofs.PlanLemmas.{size-none}

-- The Segment has a field for its size, which can hold the new one.
pub record HasSize (segment : Header) (end : ℕ) : Type 0 where
  pub some : 1 ≤ min (size_width segment) 8
  pub fits : end - segment.body < all_ones (min (size_width segment) 8)
  pub behind : segment.offset + length (id_octets SEGMENT) ≤ segment.body

pub has-size : (segment : Header) (end n : ℕ) → segment.size ≡ Known n → end ≤ 2 ^ 50 → size_refusal segment end ≡ None → HasSize segment end
has-size segment end n is short fits =
    let known : is_unknown segment.size ≡ false = ap is_unknown is in
    let need = size-none segment end known fits in
    let least = least_size_width-IsLeast (end - segment.body) (omega arith) in
    let some = least.some in
    let most = least.most in
    let more : 2 ^ (7 * least_size_width (end - segment.body)) ≤ 2 ^ (7 * min (size_width segment) 8) = pow_mono {j = 7 * min (size_width segment) 8} (omega arith) in
    record { some = omega arith; fits = omega (arith, least.fits); behind = omega arith }

pub ruleset sizes = has-size
