-- A SimpleBlock that is skipped by its first bytes.
use Rattle.std.proofs.Common.{◌≡◌, ℕ, ◌==◌, ◌≤◌, length, Bool, true, false, if◌then◌else◌, List, Option, Some, None, refl, sym, ◌∙◌, ap, subst, arith}
use Rattle.std.specs.Option.{IfSome, option_map, unwrap_or}
use Rattle.std.proofs.lemmas.Bool.{cond-true, cond-false}
use Rattle.std.proofs.lemmas.Bool.Decides.{nat_tests}
use Rattle.mkv_io.specs.Contents.{octets_from}
use Rattle.elements.specs.Window.{Holds, ReadAhead}
use Rattle.mkv_schema.specs.declared.element.Header.{Header}
use Rattle.mkv_schema.specs.declared.ids.TheConstants.{SIMPLE_BLOCK}
use Rattle.mkv_schema.specs.Element.{known}
use Rattle.mkv_schema.specs.Value.{body_of}
use Rattle.block_format.specs.Elements.{simple_block, with_limits}
use Rattle.block_reader.specs.Buffered.{Buffered}
use Rattle.block_reader.specs.Front.{HasHead, front_head, front_track}
use Rattle.block_reader.specs.Spelled.{IsFront}
use Rattle.block_reader.specs.declared.front.BlockPreview.{BlockPreview}
use Rattle.block_reader.proofs.FrontLemmas.{front_track-cut, front_track-head}
use Rattle.cluster_reader.specs.Reading.{LendsWanted}
use Rattle.cluster_reader.specs.Takes.{IsPassedWhere, held_front, settled_by, settled_in, unless_wanted, wants}
use Rattle.cluster_reader.specs.declared.step.Step.TheVariants.{Block}
use Rattle.cluster_reader.specs.declared.filter.BlockFilter.{BlockFilter}
use Rattle.cluster_reader.proofs.TakesLemmas.{front-of-body, lends-passed}

-- ---- facts that the first bytes settle

-- First bytes without a track settle no track.
pub settled_by-cut : (takes : BlockFilter) (scale ticks : ℕ) (h : Header) (front : List ℕ) → front_track front ≡ None → settled_by takes scale ticks h front ≡ None
settled_by-cut takes scale ticks h front none = ap (unless_wanted takes) (front_track-cut scale ticks h front none)

-- The settled track is the head's.
track-settled : (scale ticks track : ℕ) (h : Header) (front : List ℕ) (found : BlockPreview) → front_track front ≡ Some track → front_head scale ticks h front ≡ Some found → found.head.track ≡ track
track-settled scale ticks track h front found is settled =
    ap (λ (o : Option ℕ). unwrap_or o 0) (sym (front_track-head scale ticks h front found settled) ∙ is)

-- The block is wanted.
pub settled_by-wanted : (takes : BlockFilter) (scale ticks track : ℕ) (h : Header) (front : List ℕ) → front_track front ≡ Some track → wants takes track ≡ true → settled_by takes scale ticks h front ≡ None
settled_by-wanted takes scale ticks track h front is wanted = split (front_head scale ticks h front) refl
  where
    split : (found : Option BlockPreview) → front_head scale ticks h front ≡ found → unless_wanted takes found ≡ None
    split None settled = refl
    split (Some found) settled = cond-true (wants takes found.head.track) None _ (ap (wants takes) (track-settled scale ticks track h front found is settled) ∙ wanted)

-- The block isn't wanted.
pub settled_by-other : (takes : BlockFilter) (scale ticks track : ℕ) (h : Header) (front : List ℕ) → front_track front ≡ Some track → wants takes track ≡ false → settled_by takes scale ticks h front ≡ front_head scale ticks h front
settled_by-other takes scale ticks track h front is other = split (front_head scale ticks h front) refl
  where
    split : (found : Option BlockPreview) → front_head scale ticks h front ≡ found → unless_wanted takes found ≡ found
    split None settled = refl
    split (Some found) settled = cond-false (wants takes found.head.track) None _ (ap (wants takes) (track-settled scale ticks track h front found is settled) ∙ other)

-- A settled block isn't wanted.
pub settled-other : (takes : BlockFilter) (scale ticks : ℕ) (h : Header) (front : List ℕ) (found : BlockPreview) → Some found ≡ settled_by takes scale ticks h front → wants takes found.head.track ≡ false
settled-other takes scale ticks h front found is = split (front_head scale ticks h front) (sym is)
  where
    test : (b : Bool) (some : BlockPreview) → wants takes some.head.track ≡ b → (if b then None else Some some) ≡ Some found → wants takes found.head.track ≡ false
    test true some wanted e = absurd (cc)
    test false some wanted e = sym (ap (λ (o : Option BlockPreview). wants takes (unwrap_or (option_map (λ (f : BlockPreview). f.head.track) o) 0)) e) ∙ wanted

    split : (settled : Option BlockPreview) → unless_wanted takes settled ≡ Some found → wants takes found.head.track ≡ false
    split None e = absurd (cc)
    split (Some some) e = test (wants takes some.head.track) some refl e

-- The held bytes are the first bytes of the body, so they settle the block.
pub settled-held : (found : Option BlockPreview) (scale ticks : ℕ) (front : List ℕ) (h : Header) (w : ReadAhead) → length front ≤ known h.size → ((bytes : List ℕ) → Holds bytes w → front ≡ octets_from bytes h.body (length front))
    → IfSome found (λ f. (bytes : List ℕ) → IsFront front (body_of bytes h) → length (body_of bytes h) ≡ known h.size → HasHead f (simple_block (with_limits scale) bytes (Some ticks) h))
    → IfSome found (λ f. (bytes : List ℕ) → length (body_of bytes h) ≡ known h.size → Holds bytes w → HasHead f (simple_block (with_limits scale) bytes (Some ticks) h))
settled-held None scale ticks front h w few held settles = tt
settled-held (Some f) scale ticks front h w few held settles = λ bytes whole holds. settles bytes (front-of-body bytes front h (held bytes holds) few) whole

-- ---- a child that is skipped

pub settled_in-simple : (takes : BlockFilter) (scale ticks : ℕ) (h : Header) (w : ReadAhead) → h.id ≡ SIMPLE_BLOCK → settled_in takes scale ticks h w ≡ settled_by takes scale ticks h (held_front w h)
settled_in-simple takes scale ticks h w is = cond-true (h.id == SIMPLE_BLOCK) _ None (grind (arith, nat_tests))

-- The result of the check decides.
pub passes-settled : (takes : BlockFilter) (scale ticks : ℕ) (h : Header) (w : ReadAhead) (lent : Buffered) (answer : Bool) (found : Option BlockPreview) → h.id ≡ SIMPLE_BLOCK → found ≡ settled_by takes scale ticks h (held_front w h) → IsPassedWhere found lent answer
    → IsPassedWhere (settled_in takes scale ticks h w) lent answer
passes-settled takes scale ticks h w lent answer found simple is passes =
    subst (λ (o : Option BlockPreview). IsPassedWhere o lent answer) (is ∙ sym (settled_in-simple takes scale ticks h w simple)) passes

-- Only a SimpleBlock is skipped.
pub passed-simple : (takes : BlockFilter) (scale ticks : ℕ) (h : Header) (w : ReadAhead) (lent : Buffered) (passed : Bool) → IsPassedWhere (settled_in takes scale ticks h w) lent passed → passed ≡ true → h.id ≡ SIMPLE_BLOCK
passed-simple takes scale ticks h w lent passed passes is = split (h.id == SIMPLE_BLOCK) refl passes
  where
    split : (b : Bool) → (h.id == SIMPLE_BLOCK) ≡ b → IsPassedWhere (if b then settled_by takes scale ticks h (held_front w h) else None) lent passed → h.id ≡ SIMPLE_BLOCK
    split true same p = grind (arith, nat_tests)
    split false same p = absurd (cc)

pub passed-lends : (takes : BlockFilter) (scale ticks : ℕ) (h : Header) (w : ReadAhead) (lent : Buffered) (passed : Bool) → IsPassedWhere (settled_in takes scale ticks h w) lent passed → passed ≡ true → LendsWanted takes Block lent
passed-lends takes scale ticks h w lent passed passes is = split (h.id == SIMPLE_BLOCK) passes
  where
    settled : (found : Option BlockPreview) → settled_by takes scale ticks h (held_front w h) ≡ found → IsPassedWhere found lent passed → LendsWanted takes Block lent
    settled None same p = absurd (cc)
    settled (Some front) same p = lends-passed takes front lent p.head (settled-other takes scale ticks h (held_front w h) front (sym same))

    split : (b : Bool) → IsPassedWhere (if b then settled_by takes scale ticks h (held_front w h) else None) lent passed → LendsWanted takes Block lent
    split true p = settled (settled_by takes scale ticks h (held_front w h)) refl p
    split false p = absurd (cc)
