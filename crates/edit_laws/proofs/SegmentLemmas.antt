-- The Segment of contents with the same bytes up to it.
use Rattle.std.proofs.Common.{◌≡◌, ◌<◌, ◌≤◌, ℕ, nat_lt, min, ◌==◌, Bool, true, false, if◌then◌else◌, List, [], ◌∷◌, append-nil, length, Option, Some, None, Ok, Err, refl, sym, ◌∙◌, ap, subst, arith}
use Rattle.std.proofs.lemmas.Bool.Decides.{nat_tests}
use Rattle.mkv_schema.specs.declared.ids.TheConstants.{SEGMENT}
use Rattle.mkv_io.specs.declared.damage.Damage.{Damage}
use Rattle.mkv_io.specs.declared.damage.Kind.TheVariants.{NoSegment}
use Rattle.mkv_schema.specs.declared.element.Header.{Header}
use Rattle.mkv_schema.specs.Element.{at_level_0, octets_between, element_at, stated_end, end_in, damage}
use Rattle.mkv_schema.specs.Elements.{Run, ends_at, id_of}
use Rattle.mkv_schema.specs.Outline.{before_segment, segment_behind, segment_of}
use Rattle.mkv_io.specs.Results.{and_then, unless}
use Rattle.mkv_schema.proofs.ElementLemmas.{element_at-placed, element_in-whole}
use Rattle.mkv_schema.proofs.ElementsLemmas.{Advances-known}
use Rattle.output_model.specs.Element.{all_in_front}
use Rattle.edit_laws.proofs.SameLemmas.{AreSame, same-part}
use Rattle.edit_laws.proofs.HeaderLemmas.{found-sound, found-same}
use Rattle.edit_laws.proofs.HeadLemmas.{sound-longer}
use Rattle.edit_laws.proofs.TileLemmas.{Way, run_of, AdvancesIn, Tiles, whole, run-step, run-stops, run-tiled, tiled, tiles-end}

-- the Elements before the Segment
abbrev outer : List ℕ → Way
outer bytes = record { setting = at_level_0; stops = λ id. id == SEGMENT; next = λ h. Ok (end_in (length bytes) h); bytes = bytes; end = length bytes }

advances-outer : (bytes : List ℕ) → AdvancesIn (outer bytes)
advances-outer bytes = Advances-known at_level_0 bytes (length bytes)

-- The other content has them, too.
outer-tiles : (a b : List ℕ) (p q x : ℕ) (hs : List Header) → Tiles (outer a) p hs q → q ≤ x → x ≤ length a → length a ≤ length b → AreSame a b 0 x → Tiles (outer b) p hs q
outer-tiles a b p q x [] tiles before within longer same = tiles
outer-tiles a b p q x (h ∷ hs) (m, stands, rest) before within longer same =
    let whole = element_in-whole at_level_0 (octets_between a p (length a)) (length a) p (length a) h stands.found in
    let placed = element_at-placed at_level_0 a p (length a) h (omega (arith, stands.inside)) stands.found in
    let ends = whole.inside stands.goes in
    let goes : Ok (end_in (length a) h) ≡ Ok m = stands.next in
    let next : min (stated_end h) (length a) ≡ m = cc in
    let behind = tiles-end (outer a) m q hs (advances-outer a) rest in
    let later = placed.later in
    let inside = stands.inside in (
      m,
      record {
        inside = omega arith;
        found = found-same ((at_level_0).may_open) ((at_level_0).may_open) a b p (length a) (length b) h (omega arith) stands.found (omega arith)
            (same-part a b 0 x p h.body (omega arith) (omega arith) (omega arith) same)
            (sound-longer ((at_level_0).may_open) (length a) (length b) (length a) (length b) h (found-sound ((at_level_0).may_open) a p (length a) h stands.found) (omega arith) (omega arith));
        goes = stands.goes;
        next = ap (λ k. Ok k) (let same_end : min (stated_end h) (length b) ≡ m = omega arith in same_end);
      },
      outer-tiles a b m q x hs rest before within longer same,
    )

-- `segment` is the Segment that was found in `a`.
pub record IsSegment (a : List ℕ) (ebml segment : Header) : Type 0 where
  pub found : element_at at_level_0 a segment.offset (length a) ≡ Ok segment
  pub inside : segment.offset < length a
  pub own : segment.id ≡ SEGMENT
  pub before : stated_end ebml ≤ segment.offset
  pub list : List Header
  pub tiles : Tiles (outer a) (stated_end ebml) list segment.offset

pub segment-is : (a : List ℕ) (ebml segment : Header) → segment_of a ebml ≡ Ok segment → IsSegment a ebml segment
unfolding segment_of
segment-is a ebml segment is = of (before_segment a (stated_end ebml)) refl (before_segment a (stated_end ebml)).damage refl is
  where
    p : ℕ
    p = stated_end ebml

    found : (run : Run) → before_segment a p ≡ run → run.damage ≡ None → run.end < length a → element_at at_level_0 a run.end (length a) ≡ Ok segment → IsSegment a ebml segment
    found run is_run none inside there =
        let run_is : run_of (outer a) p ≡ whole run.list run.end = is_run ∙ ap (λ d. record { list = run.list; damage = d; end = run.end }) none in
        let tiles = tiled (outer a) p run.end run.list (advances-outer a) run_is in
        let placed = element_at-placed at_level_0 a run.end (length a) segment (omega arith) there in
        let at : run.end ≡ segment.offset = sym placed.offset in
        record {
          found = subst (λ k. element_at at_level_0 a k (length a) ≡ Ok segment) at there;
          inside = omega arith;
          own = own tiles.ends (segment.id == SEGMENT) refl;
          before = (let before = tiles-end (outer a) p run.end run.list (advances-outer a) tiles.tiles in omega arith);
          list = run.list;
          tiles = subst (Tiles (outer a) p run.list) at tiles.tiles;
        }
      where
        own : run_of (outer a) run.end ≡ ends_at run.end → (test : Bool) → (segment.id == SEGMENT) ≡ test → segment.id ≡ SEGMENT
        own ends true same = grind (arith, nat_tests)
        own ends false goes =
            let step = run-step (outer a) run.end (end_in (length a) segment) segment (advances-outer a) (record { inside = inside; found = there; goes = goes; next = refl }) in
            absurd (let none : segment ∷ (run_of (outer a) (end_in (length a) segment)).list ≡ [] = ap (λ (r : Run). r.list) (sym step ∙ ends) in cc)

    behind : (run : Run) → before_segment a p ≡ run → run.damage ≡ None → (inside : Bool) → nat_lt run.end (length a) ≡ inside
        → (if inside then element_at at_level_0 a run.end (length a) else Err (damage NoSegment 0 (length a))) ≡ Ok segment → IsSegment a ebml segment
    behind run is_run none true inside there = found run is_run none (grind (arith, nat_tests)) there
    behind run is_run none false inside there = absurd (cc)

    of : (run : Run) → before_segment a p ≡ run → (wrong : Option Damage) → run.damage ≡ wrong → and_then (unless wrong run) (segment_behind a) ≡ Ok segment → IsSegment a ebml segment
    of run is_run None none there = behind run is_run none (nat_lt run.end (length a)) refl there
    of run is_run (Some d) some there = absurd (cc)

-- The Segment of the other content is the one that is there.
pub segment-same : (a b : List ℕ) (ebml segment now : Header) → IsSegment a ebml segment → length a ≤ length b → AreSame a b 0 segment.offset
    → element_at at_level_0 b segment.offset (length b) ≡ Ok now → now.id ≡ SEGMENT → segment_of b ebml ≡ Ok now
unfolding segment_of
segment-same a b ebml segment now is longer same there own =
    let inside = is.inside in
    let tiles = outer-tiles a b (stated_end ebml) segment.offset segment.offset is.list is.tiles (omega arith) (omega arith) longer same in
    let ends : run_of (outer b) segment.offset ≡ ends_at segment.offset = run-stops (outer b) segment.offset (advances-outer b) (omega arith) (ap (λ f. id_of f == SEGMENT) there ∙ (let test : (now.id == SEGMENT) ≡ true = grind (arith, nat_tests) in test)) in
    let run : before_segment b (stated_end ebml) ≡ whole is.list segment.offset =
    run-tiled (outer b) (stated_end ebml) is.list segment.offset (advances-outer b) tiles ∙ ap (all_in_front is.list) ends ∙ ap (λ l. whole l segment.offset) (append-nil is.list) in
    ap (λ (r : Run). and_then (unless r.damage r) (segment_behind b)) run
    ∙ ap (λ (t : Bool). if t then element_at at_level_0 b segment.offset (length b) else Err (damage NoSegment 0 (length b))) (let test : nat_lt segment.offset (length b) ≡ true = grind (arith, nat_tests) in test)
    ∙ there
