-- Segments of a PGS frame, read in sequence.
use Rattle.std.proofs.Common.{◌≡◌, ℕ, ◌-◌, ◌<◌, ◌≤◌, nat_le, ◌==◌, List, [], ◌∷◌, ◌++◌, length, take, drop, None, Some, is_some, inl, inr, refl, sym, ap, ◌∙◌, arith}
use Rattle.std.specs.List.{concat, flat_map}
use Rattle.std.specs.Option.{option_map}
use Rattle.std.proofs.lemmas.List.{length-append, length-drop, length-take-le, take-append-drop, take_at, drop_at}
use Rattle.std.proofs.lemmas.Bool.{cases_Bool, cond-true, cond-false, le-leb, leb-true}
use Rattle.elementary.specs.Pgs.{segment_size, IsSegment, IsSegments, segment_at, segments_of}
use Rattle.elementary.proofs.PiecesLemmas.{Spells, pieces_of-step, pieces_of-stop, is_pieces-step, is_pieces-stop, pieces_of-again, pieces_of-joins}

-- ---- the first segment

-- `segment` is the first segment of `octets`, and `rest` is the bytes after it.
pub record FindsSegment (octets segment rest : List ℕ) : Type 0 where
  pub inside : segment_size octets ≤ length octets
  pub segment_is : segment ≡ take (segment_size octets) octets
  pub rest_is : rest ≡ drop (segment_size octets) octets

pub segment_at-whole : (octets : List ℕ) → segment_size octets ≤ length octets → segment_at octets ≡ Some (take (segment_size octets) octets, drop (segment_size octets) octets)
unfolding segment_at
segment_at-whole octets inside = cond-true (nat_le (segment_size octets) (length octets)) _ _ (le-leb _ _ inside)

pub segment_at-finds : (octets segment rest : List ℕ) → segment_at octets ≡ Some (segment, rest) → FindsSegment octets segment rest
unfolding segment_at
segment_at-finds octets segment rest is =
    let size = segment_size octets in
    let read : List ℕ × List ℕ = (take size octets, drop size octets) in
    let given : List ℕ × List ℕ = (segment, rest) in
    elim (cases_Bool (nat_le size (length octets))) [
      | inl inside ↦ (
          let found : Some read ≡ Some given = sym (cond-true (nat_le size (length octets)) (Some read) None inside) ∙ is in
          let same : read ≡ given = cc in
          record {
            inside = leb-true _ _ inside;
            segment_is = sym (ap (λ (p : List ℕ × List ℕ). p.0) same);
            rest_is = sym (ap (λ (p : List ℕ × List ℕ). p.1) same);
          })
      | inr short ↦ (
          let none : None ≡ Some given = sym (cond-false (nat_le size (length octets)) (Some read) None short) ∙ is in
          absurd (cc))
    ]

-- The bytes after a segment are fewer.
pub segment_at-fewer : (octets segment rest : List ℕ) → segment_at octets ≡ Some (segment, rest) → length rest < length octets
segment_at-fewer octets segment rest is =
    let finds = segment_at-finds octets segment rest is in
    let inside = finds.inside in
    let len : length rest ≡ length octets - segment_size octets = ap length finds.rest_is ∙ length-drop (segment_size octets) octets in
    omega arith

-- ---- the segments of a frame

pub segments_of-nil : segments_of [] ≡ Some []
unfolding segments_of
segments_of-nil = refl

-- The segments of the bytes are the first segment and the segments of the bytes after it.
pub segments_of-step : (octets segment rest : List ℕ) → segment_at octets ≡ Some (segment, rest) → segments_of octets ≡ option_map (λ segments. segment ∷ segments) (segments_of rest)
unfolding segments_of
segments_of-step octets segment rest is = pieces_of-step segment_at octets segment rest segment_at-fewer is

-- Bytes without a first segment are a join only if they are empty.
pub segments_of-stop : (octets : List ℕ) → 1 ≤ length octets → segment_at octets ≡ None → segments_of octets ≡ None
unfolding segments_of
segments_of-stop octets some is = pieces_of-stop segment_at octets some is

-- The bytes are a join exactly if the bytes after the first segment are.
pub segments-step : (octets segment rest : List ℕ) → segment_at octets ≡ Some (segment, rest) → is_some (segments_of octets) ≡ is_some (segments_of rest)
unfolding segments_of
segments-step octets segment rest is = is_pieces-step segment_at octets segment rest segment_at-fewer is

-- Without a first segment the bytes are a join exactly if they are empty.
pub segments-stop : (octets : List ℕ) → segment_at octets ≡ None → (length octets == 0) ≡ is_some (segments_of octets)
unfolding segments_of
segments-stop octets is = is_pieces-stop segment_at octets is

-- ---- segments that are read are a join, and a join is read

-- The size depends only on the first three bytes.
pub segment_size-front : (segment rest : List ℕ) → 3 ≤ length segment → segment_size (segment ++ rest) ≡ segment_size segment
segment_size-front [] rest long = absurd (omega arith)
segment_size-front (a ∷ []) rest long = absurd (omega arith)
segment_size-front (a ∷ (b ∷ [])) rest long = absurd (omega arith)
segment_size-front (a ∷ (b ∷ (c ∷ segment))) rest long = refl

-- A segment is read, whatever follows it.
segment_at-again : (segment rest : List ℕ) → IsSegment segment → segment_at (segment ++ rest) ≡ Some (segment, rest)
segment_at-again segment rest is =
    let size = is.size in
    let octets = segment ++ rest in
    let same : segment_size octets ≡ length segment = segment_size-front segment rest (omega arith) ∙ sym size in
    let all = length-append segment rest in
    segment_at-whole octets (omega arith)
    ∙ rw same (rw (take_at segment rest (length segment) refl, drop_at segment rest (length segment) refl) refl)

-- any bytes
abbrev Any : List ℕ → Type 0
Any octets = Unit {0}

-- The first segment of bytes is a part of them.
segment_at-spells : Spells segment_at (λ segment. segment) IsSegment Any
segment_at-spells octets segment rest any is =
    let finds = segment_at-finds octets segment rest is in
    let size = segment_size octets in
    let inside = finds.inside in
    let len : length segment ≡ size = ap length finds.segment_is ∙ length-take-le size octets inside in
    let join : octets ≡ segment ++ rest = sym (take-append-drop size octets) ∙ rw (finds.segment_is, finds.rest_is) refl in
    let same : size ≡ segment_size segment = ap segment_size join ∙ segment_size-front segment rest (omega arith) in
    record { front = join; is = record { size = len ∙ same }; behind = tt }

-- A join of parts as they are is their concatenation.
flat_map-concat : (parts : List (List ℕ)) → flat_map (λ part. part) parts ≡ concat parts
flat_map-concat [] = refl
flat_map-concat (part ∷ parts) = ap (λ (x : List ℕ). part ++ x) (flat_map-concat parts)

pub segments_of-joins : (octets : List ℕ) (segments : List (List ℕ)) → segments_of octets ≡ Some segments → IsSegments octets segments
unfolding segments_of
segments_of-joins octets segments is =
    let joins = pieces_of-joins segment_at (λ segment. segment) IsSegment Any segment_at-spells octets segments tt is in
    record { each = joins.each; join = joins.join ∙ flat_map-concat segments }

pub segments_of-again : (octets : List ℕ) (segments : List (List ℕ)) → IsSegments octets segments → segments_of octets ≡ Some segments
unfolding segments_of
segments_of-again octets segments is =
    ap segments_of (is.join ∙ sym (flat_map-concat segments))
    ∙ pieces_of-again segment_at (λ segment. segment) IsSegment segment_at-fewer segment_at-again segments is.each
