-- SUP streams are read in one way only, and contain the segments of the valid frames.
use Rattle.std.proofs.Common.{◌≡◌, ℕ, ◌^◌, ◌<◌, ℤ, pos, negsuc, List, [], ◌∷◌, ◌++◌, length, drop, append_assoc, Option, None, Some, unwrap_or, refl, sym, ap, ◌∙◌, arith}
use Rattle.std.specs.List.{All, flat_map}
use Rattle.std.specs.Option.{option_map}
use Rattle.std.proofs.lemmas.List.{length-append}
use Rattle.std.proofs.lemmas.List.Concat.{flat_map-append}
use Rattle.std.proofs.lemmas.List.Elements.{All-nil, All-cons, All-head, All-tail, All-append}
use Rattle.byteorder.specs.Endian.{big_number, big_bytes}
use Rattle.byteorder.specs.Numbers.{length-bytes_high_first}
use Rattle.elementary.specs.Pgs.{segment_size, IsSegment, segments_of, presentation_time, header_at, segment_header}
use Rattle.elementary.specs.Streams.{timed_octets, IsTimed, IsSup, sup_stream, timed, good_segments}
use Rattle.elementary.proofs.AdtsLemmas.{same-parts, number-again}
use Rattle.elementary.proofs.SegmentsLemmas.{segment_size-front, segments_of-joins}

-- ---- headers

length-header_at : (ticks : ℕ) → length (header_at ticks) ≡ 10
unfolding header_at
length-header_at ticks =
    let number = length-bytes_high_first 4 ticks in
    let behind = length-append (big_bytes 4 ticks) (0 ∷ 0 ∷ 0 ∷ 0 ∷ []) in
    omega arith

-- Equal headers have equal times.
header-same : (s t : ℕ) → s < 2 ^ 32 → t < 2 ^ 32 → header_at s ≡ header_at t → s ≡ t
unfolding header_at
header-same s t below_s below_t same =
    let zeros = 0 ∷ 0 ∷ 0 ∷ 0 ∷ [] in
    let behind : big_bytes 4 s ++ zeros ≡ big_bytes 4 t ++ zeros = ap (drop 2) same in
    let numbers = same-parts (big_bytes 4 s) (big_bytes 4 t) zeros zeros (length-bytes_high_first 4 s ∙ sym (length-bytes_high_first 4 t)) behind in
    sym (number-again 4 s below_s) ∙ ap (big_number 4) numbers.0 ∙ number-again 4 t below_t

-- A segment with its header isn't empty.
no_segment : (ticks : ℕ) (segment rest : List ℕ) → [] ≡ timed_octets (ticks, segment) ++ rest → ⊥
no_segment ticks segment rest same =
    let head = length-header_at ticks in
    let one = length-append (header_at ticks) segment in
    let all = length-append (timed_octets (ticks, segment)) rest in
    let none : 0 ≡ length (timed_octets (ticks, segment) ++ rest) = ap length same in
    omega arith

-- Segments that bytes begin with have the same length.
segments-same : (a b x y : List ℕ) → IsSegment a → IsSegment b → a ++ x ≡ b ++ y → length a ≡ length b
segments-same a b x y is_a is_b same =
    let size_a = is_a.size in
    let size_b = is_b.size in
    size_a ∙ sym (segment_size-front a x (omega arith)) ∙ ap segment_size same ∙ segment_size-front b y (omega arith) ∙ sym size_b

-- ---- one way

-- Equal SUP streams have the same times and segments.
pub sup-one_way : (a b : List (ℕ × List ℕ)) → All IsTimed a → All IsTimed b → flat_map timed_octets a ≡ flat_map timed_octets b → a ≡ b
sup-one_way [] [] fa fb same = refl
sup-one_way [] ((ticks, segment) ∷ b) fa fb same = absurd (no_segment ticks segment (flat_map timed_octets b) same)
sup-one_way ((ticks, segment) ∷ a) [] fa fb same = absurd (no_segment ticks segment (flat_map timed_octets a) (sym same))
sup-one_way ((ticks, segment) ∷ a) ((ticks', segment') ∷ b) fa fb same =
    let first = All-head IsTimed (ticks, segment) a fa in
    let first' = All-head IsTimed (ticks', segment') b fb in
    let rest = flat_map timed_octets a in
    let rest' = flat_map timed_octets b in
    let whole : header_at ticks ++ (segment ++ rest) ≡ header_at ticks' ++ (segment' ++ rest') =
    sym (append_assoc (header_at ticks) segment rest) ∙ same ∙ append_assoc (header_at ticks') segment' rest' in
    let heads = same-parts (header_at ticks) (header_at ticks') (segment ++ rest) (segment' ++ rest') (length-header_at ticks ∙ sym (length-header_at ticks')) whole in
    let times = header-same ticks ticks' first.fits first'.fits heads.0 in
    let segments = same-parts segment segment' rest rest' (segments-same segment segment' rest rest' first.segment first'.segment heads.1) heads.1 in
    let behind = sup-one_way a b (All-tail IsTimed (ticks, segment) a fa) (All-tail IsTimed (ticks', segment') b fb) segments.1 in
    ap (λ (x : ℕ). (x, segment) ∷ a) times ∙ ap (λ (x : List ℕ). (ticks', x) ∷ a) segments.0 ∙ ap (λ (x : List (ℕ × List ℕ)). (ticks', segment') ∷ x) behind

-- ---- the written form of a PGS track

presentation_time-lt : (time : ℤ) → presentation_time time < 2 ^ 32
presentation_time-lt (pos t) = omega arith
presentation_time-lt (negsuc t) = omega arith

timed-join : (time : ℤ) (segments : List (List ℕ)) → flat_map (λ segment. segment_header time ++ segment) segments ≡ flat_map timed_octets (timed time segments)
unfolding segment_header
timed-join time [] = refl
timed-join time (segment ∷ segments) = ap (λ (x : List ℕ). (segment_header time ++ segment) ++ x) (timed-join time segments)

good-first : (time : ℤ) (found : Option (List (List ℕ))) → unwrap_or (option_map (flat_map (λ segment. segment_header time ++ segment)) found) [] ≡ flat_map timed_octets (timed time (unwrap_or found []))
good-first time None = refl
good-first time (Some segments) = timed-join time segments

each-timed : (time : ℤ) (segments : List (List ℕ)) → All IsSegment segments → All IsTimed (timed time segments)
each-timed time [] each = All-nil IsTimed
each-timed time (segment ∷ segments) each =
    All-cons IsTimed (presentation_time time, segment) (timed time segments)
    (record { fits = presentation_time-lt time; segment = All-head IsSegment segment segments each })
    (each-timed time segments (All-tail IsSegment segment segments each))

each-good : (time : ℤ) (octets : List ℕ) (found : Option (List (List ℕ))) → ((segments : List (List ℕ)) → found ≡ Some segments → All IsSegment segments) → All IsTimed (timed time (unwrap_or found []))
each-good time octets None are = All-nil IsTimed
each-good time octets (Some segments) are = each-timed time segments (are segments refl)

-- The stream that is written for frames is a join of the segments of the valid ones, each after the header of its frame's time.
pub sup-holds : (frames : List (ℤ × List ℕ)) → IsSup (sup_stream frames) (good_segments frames)
sup-holds [] = record { each = All-nil IsTimed; join = refl }
sup-holds ((time, octets) ∷ frames) =
    let more = sup-holds frames in
    let first = timed time (unwrap_or (segments_of octets) []) in
    record {
      each = All-append IsTimed first (good_segments frames) (each-good time octets (segments_of octets) (λ segments is. (segments_of-joins octets segments is).each)) more.each;
      join = ap (λ (x : List ℕ). x ++ sup_stream frames) (good-first time (segments_of octets))
          ∙ ap (λ (x : List ℕ). flat_map timed_octets first ++ x) more.join
          ∙ sym (flat_map-append timed_octets first (good_segments frames));
    }
