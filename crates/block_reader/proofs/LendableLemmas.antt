-- Available parts of a block are small and can be written.
use Rattle.std.proofs.Common.{◌≡◌, ◌≤◌, ◌<◌, ◌+◌, ◌-◌, ◌*◌, ℕ, ℤ, pos, Bool, true, false, ◌||◌, List, [], ◌∷◌, length, map, take, drop, Option, Some, None, refl, sym, ◌∙◌, subst, arith}
use Rattle.std.specs.List.{All, list_any}
use Rattle.std.specs.Option.{IfSome, option_map, option_map_or}
use Rattle.std.proofs.lemmas.Bool.Decides.{nat_tests}
use Rattle.std.proofs.lemmas.List.Elements.{All-nil, All-cons}
use Rattle.std.proofs.lemmas.List.{length-take, length-drop, take_all}
use Rattle.lacing.specs.declared.kind.Lace.{Lace}
use Rattle.lacing.specs.declared.kind.Lace.TheVariants as lace
use Rattle.lacing.specs.Writing.{FitsKind}
use Rattle.block_format.specs.declared.limits.TheConstants.{MAX_BLOCK_LEN, TOO_LARGE_TIME}
use Rattle.block_format.specs.Content.{lace_of}
use Rattle.block_format.specs.Block.{nanoseconds, is_too_large}
use Rattle.block_reader.specs.declared.block.Times.{Times}
use Rattle.block_reader.specs.declared.gathered.Gathered.{Gathered}
use Rattle.block_reader.specs.declared.parts.Parts.{Parts}
use Rattle.block_reader.specs.Lendable.{IsBlock, CanLead}
use Rattle.block_reader.specs.Made.{HasTimes}
use Rattle.block_reader.specs.Spelled.{AreFrames}
use Rattle.block_reader.specs.Time.{IsSmallTime, is_too_large_at}

-- ---- times

pub small-from : (z : ℤ) → is_too_large z ≡ false → IsSmallTime z
small-from z small = grind (arith, nat_tests)

or-first : (a b : Bool) → (a || b) ≡ false → a ≡ false
or-first true b is = is
or-first false b is = refl

or-second : (a b : Bool) → (a || b) ≡ false → b ≡ false
or-second true b is = absurd (cc)
or-second false b is = is

-- References that aren't too large are small.
pub all-small : (scale : ℕ) (l : List ℤ) → list_any (is_too_large_at scale) l ≡ false → All IsSmallTime (map (nanoseconds scale) l)
all-small scale [] is = All-nil IsSmallTime
all-small scale (z ∷ zs) is =
    All-cons IsSmallTime (nanoseconds scale z) (map (nanoseconds scale) zs) (small-from (nanoseconds scale z) (or-first (is_too_large_at scale z) _ is)) (all-small scale zs (or-second (is_too_large_at scale z) _ is))

-- A duration that isn't too large is small.
pub duration-small : (scale : ℕ) (o : Option ℕ) → option_map_or (λ n. is_too_large (pos (n * scale))) o false ≡ false → IfSome (option_map (λ (n : ℕ). n * scale) o) (λ d. d < TOO_LARGE_TIME)
duration-small scale None small = tt
duration-small scale (Some n) small = small-from (pos (n * scale)) small

-- A group's times are small if none was too large.
pub times-small : (scale : ℕ) (ticks : ℤ) (old now : Gathered) (t : Times) → HasTimes scale ticks old now t → IsSmallTime t.time × (IfSome t.duration (λ d. d < TOO_LARGE_TIME) × All IsSmallTime now.references.items)
times-small scale ticks old now t has =
    let long : Bool = option_map_or (λ n. is_too_large (pos (n * scale))) old.duration false in
    let first = or-first (is_too_large_at scale ticks || long) (list_any (is_too_large_at scale) old.references.items) has.fits in
    let time = or-first (is_too_large_at scale ticks) long first in
    let duration = or-second (is_too_large_at scale ticks) long first in
    let references = or-second (is_too_large_at scale ticks || long) (list_any (is_too_large_at scale) old.references.items) has.fits in (
      subst IsSmallTime (sym has.time) (small-from (nanoseconds scale ticks) time),
      (
        subst (λ (o : Option ℕ). IfSome o (λ d. d < TOO_LARGE_TIME)) (sym has.duration) (duration-small scale old.duration duration),
        subst (All IsSmallTime) (sym has.references) (all-small scale old.references.items references),
      ),
    )

-- ---- parts

-- Frames that end with the bytes are their rest.
pub frames-rest : (o : List ℕ) (start end : ℕ) → end ≡ length o → take (end - start) (drop start o) ≡ drop start o
frames-rest o start end is =
    let rest = length-drop start o in
    take_all (end - start) (drop start o) (omega arith)

-- Parsed frames at byte `base` of `o` are a block that can be written.
pub IsBlock-made : (o part : List ℕ) (base start flags : ℕ) (p : Parts) → length o ≤ MAX_BLOCK_LEN → p.start ≡ base + start → p.end ≡ base + length part → p.end ≤ length o → p.frames ≡ length p.sizes.items → AreFrames (lace_of flags) part p.sizes.items start → CanLead flags p.gathered.references.items p.head → length p.gathered.kept.items ≤ MAX_BLOCK_LEN → IsBlock o p
IsBlock-made o part base start flags p short start_is end_is inside count_is frames leads kept =
    let within = frames.inside in
    let whole = frames.whole in
    let order : p.start ≤ p.end = omega arith in
    let rest = length-drop p.start o in
    let count = length-take (p.end - p.start) (drop p.start o) in
    let body : length (take (p.end - p.start) (drop p.start o)) ≡ p.end - p.start = omega arith in
    record {
      within = record { order = order; inside = inside };
      lendable = record {
        few = record {
          times = leads.times;
          frames = omega (arith, frames.most);
          cut = omega arith;
          body = omega arith;
          sizes = frames.most;
          references = leads.references;
          most_references = leads.most;
          kept = kept;
        };
        some = frames.some;
        count = count_is;
        fits = subst (λ (l : Lace). FitsKind l p.sizes.items) (sym leads.lace) frames.fits;
      };
    }
