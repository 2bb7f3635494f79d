-- The append offset of each source is at most a link's limit.
use Rattle.std.proofs.Common.{◌≡◌, ◌≤◌, ◌<◌, ℕ, suc, ◌+◌, ◌*◌, ◌^◌, List, [], ◌∷◌, length, Option, Some, None, IfSome, nat_abs, refl, arith}
use Rattle.std.specs.Prelude.{ℤ, pos, negsuc, ◌+ℤ◌}
use Rattle.std.specs.List.{All}
use Rattle.std.specs.Option.{option_map, unwrap_or}
use Rattle.std.proofs.lemmas.Int.{ints}
use Rattle.std.proofs.lemmas.List.{length-map}
use Rattle.std.proofs.lemmas.Nat.{mul-le}
use Rattle.std.proofs.lemmas.List.Elements.{All-nil, All-cons, All-head, All-tail}
use Rattle.block_format.specs.Block.{Block}
use Rattle.block_format.specs.declared.limits.TheConstants.{TOO_LARGE_TIME}
use Rattle.merge_model.specs.Ends.{block_end, end_at, file_end, last_end, lasting}
use Rattle.merge_model.specs.Links.{Given, Placing, delayed}
use Rattle.output_model.specs.Ticks.{since_start}
use Rattle.merge_model.specs.declared.limits.TheConstants.{MAX_LINKS, MAX_SHIFT}
use Rattle.lanes.specs.declared.survey_result.TheConstants.{MAX_END}
use Rattle.output_laws.specs.Read.{IsPlacing, IsReadBlock}
use Rattle.merge_plan.specs.Places.{begun_at, end_of, in_place, in_place_from}
use Rattle.merge_plan.specs.Plan.{Source, given_of}
use Rattle.merge_laws.specs.Sources.{IsReadSource}
use Rattle.merge_laws.proofs.GivenLemmas.{CanBePlaced, given-placed}

-- ---- the end of a block

-- The start of a block with a delay.
starts-small : (time delay : ℤ) (t : ℕ) → nat_abs time < TOO_LARGE_TIME → nat_abs delay < 2 ^ 55 → since_start (time +ℤ delay) ≡ Some t → t < 2 ^ 56 + 2 ^ 55
starts-small time delay t small near is = of (time +ℤ delay) refl is
  where
    of : (sum : ℤ) → time +ℤ delay ≡ sum → since_start sum ≡ Some t → t < 2 ^ 56 + 2 ^ 55
    of (pos n) sum is = let same : n ≡ t = cc in omega (arith, ints)
    of (negsuc n) sum is = absurd (cc)

-- The total duration of `n` frames of less than 2^48 nanoseconds.
frames-small : (n d : ℕ) → n ≤ 256 → d < 2 ^ 48 → n * d ≤ 2 ^ 56
frames-small n d few short = mul-le n d 256 (2 ^ 48) few (omega arith)

lasts-small : (o default : Option ℕ) (n : ℕ) → IfSome o (λ d. d < TOO_LARGE_TIME) → IfSome default (λ d. d < 2 ^ 48) → n ≤ 256 → unwrap_or o (n * unwrap_or default 0) ≤ 2 ^ 56
lasts-small (Some d) default n small short few = omega arith
lasts-small None None n small short few = frames-small n 0 few (omega arith)
lasts-small None (Some d) n small short few = frames-small n d few short

block-small : (p : Placing) (b : Block) → IsPlacing p → IfSome p.default_duration (λ (d : ℕ). d < 2 ^ 48) → IsReadBlock b → block_end p b ≤ MAX_END
block-small p b placing default read = split (delayed p b) refl
  where
    frames : length b.frames ≤ 256
    frames = omega (arith, length-map b.frames (λ (frame : List ℕ). length frame), read.small.frames.most)

    lasts : lasting p b ≤ 2 ^ 56
    lasts = lasts-small b.duration p.default_duration (length b.frames) read.small.duration default frames

    split : (o : Option ℕ) → delayed p b ≡ o → end_at p b o ≤ MAX_END
    split None is = omega arith
    split (Some time) is = omega (arith, lasts, starts-small b.time p.delay time read.small.time placing.delay is)

-- ---- the end of a source

last-small : (p : Placing) (bs : List Block) → IsPlacing p → IfSome p.default_duration (λ (d : ℕ). d < 2 ^ 48) → All IsReadBlock bs → last_end p bs ≤ MAX_END
last-small p [] placing default read = omega arith
last-small p (b ∷ bs) placing default read =
    omega (arith, block-small p b placing default (All-head IsReadBlock b bs read), last-small p bs placing default (All-tail IsReadBlock b bs read))

ends-small : (gs : List Given) → All CanBePlaced gs → file_end gs ≤ MAX_END
ends-small [] can = omega arith
ends-small (g ∷ gs) can =
    let own = All-head CanBePlaced g gs can in
    omega (arith, last-small g.placing g.blocks own.placing own.default own.blocks, ends-small gs (All-tail CanBePlaced g gs can))

source-small : (s : Source) → IsReadSource s → file_end (given_of s) ≤ MAX_END
source-small s is = ends-small (given_of s) (given-placed s is)

-- ---- the starts of sources

begun-later : (time : ℕ) (o : Option ℕ) → unwrap_or (option_map (λ _. time) o) 0 ≤ time
begun-later time None = omega arith
begun-later time (Some before) = omega arith

begun-read : (time : ℕ) (s : Source) → time ≤ MAX_SHIFT → IsReadSource s → IsReadSource (begun_at time s)
begun-read time s fits is = record {
  octets = is.octets;
  entries = is.entries;
  title = is.title;
  whole = is.whole;
  tracks = is.tracks;
  place = omega (arith, begun-later time s.1.shift);
}

placed-from : (k time : ℕ) (sources : List Source) → k + length sources ≤ MAX_LINKS → time ≤ k * MAX_END → All IsReadSource sources → All IsReadSource (in_place_from time sources)
placed-from k time [] few fits read = All-nil IsReadSource
placed-from k time (s ∷ ss) few fits read =
    let one : IsReadSource (begun_at time s) = begun-read time s (omega arith) (All-head IsReadSource s ss read) in
    let end : end_of (begun_at time s) ≤ suc k * MAX_END = omega (arith, begun-later time s.1.shift, source-small (begun_at time s) one) in
    All-cons IsReadSource (begun_at time s) (in_place_from (end_of (begun_at time s)) ss) one (placed-from (suc k) (end_of (begun_at time s)) ss (omega arith) end (All-tail IsReadSource s ss read))

-- Sources with their append offsets can be written.
pub placed-read : (sources : List Source) → length sources ≤ MAX_LINKS → All IsReadSource sources → All IsReadSource (in_place sources)
placed-read sources few read = placed-from 0 0 sources (omega arith) (omega arith) read
