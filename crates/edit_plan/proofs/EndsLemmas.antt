-- The ends that headers of a file state have 64 bits.
use Rattle.std.proofs.Common.{inl, inr, ◌≡◌, ℕ, zero, suc, ◌-◌, ◌^◌, ◌<◌, ◌≤◌, nat_lt, Bool, true, false, if◌then◌else◌, List, [], ◌∷◌, length, Option, Some, None, IfSome, Result, Ok, Err, refl, sym, ap, subst, arith}
use Rattle.std.specs.Bool.{⊤}
use Rattle.std.specs.Int.Count.{count_leading_zeros}
use Rattle.std.specs.List.{last_or}
use Rattle.std.proofs.lemmas.Bool.{cases_lt}
use Rattle.ebml_numbers.specs.declared.number.Size.{Size}
use Rattle.ebml_numbers.specs.Number.{uint_width}
use Rattle.ebml_numbers.proofs.NumberLemmas.{length-uint_octets}
use Rattle.mkv_schema.specs.declared.ids.TheConstants.{SEGMENT}
use Rattle.mkv_io.specs.declared.damage.Damage.{Damage}
use Rattle.mkv_io.specs.declared.damage.Kind.TheVariants.{NoSegment}
use Rattle.mkv_io.specs.declared.outside.TheConstants.{LONGEST_FILE}
use Rattle.mkv_schema.specs.declared.element.Header.{Header}
use Rattle.mkv_schema.specs.Element.{at_level_0, damage, in_segment, element_at, known, stated_end}
use Rattle.mkv_schema.specs.Elements.{Run, behind, behind_in_segment, ends_at, ends_segment, id_of, level_1, step}
use Rattle.mkv_schema.specs.Outline.{Outlined, before_segment, ebml_header, limits_from, outline_of, outlined, segment_behind, segment_bound, segment_of, segment_run}
use Rattle.mkv_io.specs.Results.{unless}
use Rattle.mkv_schema.proofs.ElementLemmas.{element_at-placed}
use Rattle.mkv_schema.proofs.ElementsLemmas.{Advances, Advances-segment, elements-end, elements-more}
use Rattle.mkv_schema.proofs.OutlineLemmas.{and_then-ok, unless-ok}
use Rattle.element_reader.specs.Collected.{last_element}
use Rattle.element_reader.specs.Outline.{FileOutline, outline_in}
use Rattle.element_reader.proofs.OutlineLemmas.{Outlines-shown}
use Rattle.edit_changes.specs.Plan.{size_width}
use Rattle.edit_plan.specs.Moving.{CanMove}
use Rattle.edit_plan.proofs.LevelLemmas.{HasHeader, element_at-header, header-at}
use Rattle.edit_plan.proofs.PlanLemmas.{bound-most}

-- The header is before offset `e`, and its body has a size that a header can state.
pub record IsShort (e : ℕ) (h : Header) : Type 0 where
  pub body : h.body ≤ e
  pub size : known h.size < 2 ^ 56

abbrev AreShort : ℕ → List Header → Type 0
AreShort e [] = ⊤
AreShort e (h ∷ hs) = IsShort e h × AreShort e hs

short-more : (bytes : List ℕ) (size : Size) (p e : ℕ) → p < e → ((k : ℕ) → p < k → AreShort e (level_1 bytes size k e).list) → AreShort e (level_1 bytes size p e).list
short-more bytes size p e inside further =
    rw (elements-more in_segment (ends_segment size) (behind_in_segment bytes e) bytes p e advances inside)
    (stopped (ends_segment size (id_of (element_at in_segment bytes p e))))
  where
    advances : Advances in_segment (behind_in_segment bytes e) bytes e
    advances = Advances-segment bytes e

    one : (h : Header) → element_at in_segment bytes p e ≡ Ok h → IsShort e h
    one h found =
        let placed = element_at-placed in_segment bytes p e h (omega arith) found in
        let has = element_at-header bytes p e h found in
        record { body = placed.within; size = has.size }

    behind_it : (h : Header) (q : Result ℕ Damage) → element_at in_segment bytes p e ≡ Ok h → behind_in_segment bytes e h ≡ q → AreShort e (behind p h q (λ k. level_1 bytes size k e)).list
    behind_it h (Err d) found next = (one h found, tt)
    behind_it h (Ok k) found next = (one h found, further k (advances.on p h k inside found next))

    goes_on : (found : Result Header Damage) → element_at in_segment bytes p e ≡ found → AreShort e (step p (behind_in_segment bytes e) found (λ q. level_1 bytes size q e)).list
    goes_on (Err d) is = tt
    goes_on (Ok h) is = behind_it h (behind_in_segment bytes e h) is refl

    stopped : (stop : Bool) → AreShort e (if stop then ends_at p else step p (behind_in_segment bytes e) (element_at in_segment bytes p e) (λ q. level_1 bytes size q e)).list
    stopped true = tt
    stopped false = goes_on (element_at in_segment bytes p e) refl

short-ended : (bytes : List ℕ) (size : Size) (p e : ℕ) → e ≤ p → AreShort e (level_1 bytes size p e).list
short-ended bytes size p e past = rw (elements-end in_segment (ends_segment size) (behind_in_segment bytes e) bytes p e past) tt

short-within : (n : ℕ) (bytes : List ℕ) (size : Size) (p e : ℕ) → e - p ≤ n → AreShort e (level_1 bytes size p e).list
short-within zero bytes size p e few = short-ended bytes size p e (omega arith)
short-within (suc n) bytes size p e few =
    elim (cases_lt p e) [
      | inl inside ↦ short-more bytes size p e inside (λ k later. short-within n bytes size k e (omega arith))
      | inr past ↦ short-ended bytes size p e past
    ]

last-short : (e : ℕ) (hs : List Header) (last : Option Header) → AreShort e hs → IfSome last (IsShort e) → IfSome (last_or last hs) (IsShort e)
last-short e [] last short before = before
last-short e (h ∷ hs) last short before = last-short e hs (Some h) short.1 short.0

-- ---- the Segment

segment-header : (bytes : List ℕ) (ebml segment : Header) → segment_of bytes ebml ≡ Ok segment → (p : ℕ) × (HasHeader p segment × (segment.offset ≡ p) × (segment.body ≤ length bytes))
unfolding segment_of
segment-header bytes ebml segment is =
    let run = and_then-ok (unless (before_segment bytes (stated_end ebml)).damage (before_segment bytes (stated_end ebml))) (segment_behind bytes) segment is in
    found run.0 (nat_lt run.0.end (length bytes)) refl run.1.1
  where
    found : (run : Run) (inside : Bool) → nat_lt run.end (length bytes) ≡ inside → (if inside then element_at at_level_0 bytes run.end (length bytes) else Err (damage NoSegment 0 (length bytes))) ≡ Ok segment
        → (p : ℕ) × (HasHeader p segment × (segment.offset ≡ p) × (segment.body ≤ length bytes))
    found run true test is =
        let placed = element_at-placed at_level_0 bytes run.end (length bytes) segment (grind arith) is in
        (run.end, (header-at at_level_0 bytes run.end (length bytes) segment refl is, placed.offset, placed.within))
    found run false test is = absurd (cc)

segment-width : uint_width SEGMENT ≡ 4
unfolding uint_width count_leading_zeros
segment-width = refl

-- The stated ends of an outline that was read have 64 bits.
pub outlined-ends : (held : ℕ) (bytes : List ℕ) (o : Outlined) → outline_of held bytes ≡ Ok o → length bytes ≤ LONGEST_FILE
    → (stated_end o.segment < 2 ^ 64) × (size_width o.segment ≤ 8)
unfolding outline_of
outlined-ends held bytes o is short =
    let ebml = and_then-ok (ebml_header bytes) _ o is in
    let segment = and_then-ok (segment_of bytes ebml.0) _ o ebml.1.1 in
    let same = (unless-ok (limits_from held [] (segment_run bytes segment.0).list) (outlined bytes ebml.0 segment.0 (segment_run bytes segment.0)) o segment.1.1).1 in
    let has = segment-header bytes ebml.0 segment.0 segment.1.0 in
    let header = has.1.0 in
    let least = header.least in let most = header.most in let size = header.size in
    let offset = has.1.1 in let inside = has.1.2 in
    let id = length-uint_octets SEGMENT in let four = segment-width in
    let P : Header → Type 0 = λ h. (stated_end h < 2 ^ 64) × (size_width h ≤ 8) in
    subst P (ap (λ (x : Outlined). x.segment) same) (omega arith, omega arith)

pub CanMove-shown : (held : ℕ) (bytes : List ℕ) (o : FileOutline) → outline_in held bytes ≡ Ok o → length bytes ≤ LONGEST_FILE → CanMove o
CanMove-shown held bytes o is short =
    let of = Outlines-shown held bytes o is in
    let x = of.outlined in
    let ends = outlined-ends held bytes x of.is short in
    let all = short-within (segment_bound bytes x.segment - x.segment.body) bytes x.segment.size x.segment.body (segment_bound bytes x.segment) (omega arith) in
    let listed : AreShort (segment_bound bytes x.segment) x.list = subst (AreShort (segment_bound bytes x.segment)) (sym of.list) all in
    let last = last-short (segment_bound bytes x.segment) x.list None listed tt in
    let most = bound-most bytes x.segment in
    let P : FileOutline → Type 0 = CanMove in
    subst P (sym of.shows) (record {
      ends = record { segment = ends.0; last = small (last_element x.list) (segment_bound bytes x.segment) (omega arith) last };
      size = ends.1;
    })
  where
    small : (h : Option Header) (e : ℕ) → e ≤ LONGEST_FILE → IfSome h (IsShort e) → IfSome h (λ x. stated_end x < 2 ^ 64)
    small None e less is = tt
    small (Some h) e less is = let body = is.body in let size = is.size in omega arith
