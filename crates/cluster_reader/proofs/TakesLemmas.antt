-- The known part of a block that is read or skipped.
use Rattle.std.proofs.Common.{◌≡◌, ◌≤◌, ◌==◌, ℕ, List, length, take, drop, false, Result, Ok, Err, MatchResult, refl, sym, ◌∙◌, ap, arith}
use Rattle.std.proofs.lemmas.Bool.Decides.{nat_tests}
use Rattle.std.proofs.lemmas.List.{take-take}
use Rattle.mkv_io.specs.Contents.{octets_from}
use Rattle.mkv_io.specs.declared.damage.Damage.{Damage}
use Rattle.mkv_schema.specs.declared.element.Header.{Header}
use Rattle.mkv_schema.specs.Element.{known}
use Rattle.mkv_schema.specs.Value.{body_of}
use Rattle.block_format.specs.Block.{Block as AnyBlock}
use Rattle.block_reader.specs.Buffered.{Buffered, HoldsFound, block_of}
use Rattle.block_reader.specs.Front.{HasHead, head_of}
use Rattle.block_reader.specs.Lendable.{IsLendable, LendsNothing}
use Rattle.block_reader.specs.Spelled.{IsFront}
use Rattle.block_reader.specs.declared.front.BlockPreview.{BlockPreview}
use Rattle.block_reader.proofs.FrontLemmas.{length-frames_cut}
use Rattle.cluster_reader.specs.Reading.{LendsWanted}
use Rattle.cluster_reader.specs.Takes.{IsKnown, MakesBlock, MakesWanted, wants}
use Rattle.cluster_reader.specs.declared.step.Step.TheVariants.{Block}
use Rattle.cluster_reader.specs.declared.filter.BlockFilter.{BlockFilter}
use Rattle.cluster_reader.specs.declared.filter.BlockFilter.TheVariants.{All, Track, Heads}
use Rattle.cluster_reader.proofs.ChildLemmas.{body_of-read}

-- ---- a block that is read

-- All of a block that was read is known.
known-whole : (takes : BlockFilter) (lent : Buffered) → IsLendable lent → IsKnown takes (block_of lent) lent
known-whole All lent lends = refl
known-whole (Track track) lent lends = record { track = refl; whole = λ same. refl }
known-whole Heads lent lends = record { head = refl; frames = length-frames_cut lent.sizes lent.body ∙ sym lends.count }

pub makes-wanted : {T : Type 0} (takes : BlockFilter) (answer : Result T Damage) (lent : Buffered) (found : Result AnyBlock Damage) → MatchResult answer (λ _. IsLendable lent) (λ _. LendsNothing lent) → HoldsFound answer lent found → MakesWanted takes answer lent found
makes-wanted takes (Ok done) lent found lends is = record { given = block_of lent; is = is; known = known-whole takes lent lends }
makes-wanted takes (Err d) lent found lends is = is

-- ---- a block that is passed

-- The held bytes are the first bytes of the body.
pub front-of-body : (bytes front : List ℕ) (h : Header) → front ≡ octets_from bytes h.body (length front) → length front ≤ known h.size → IsFront front (body_of bytes h)
front-of-body bytes front h is few =
    is ∙ sym (take-take (length front) (known h.size) (drop h.body bytes) few) ∙ ap (take (length front)) (body_of-read bytes h)

other-track : (track wanted : ℕ) → (track == wanted) ≡ false → track ≡ wanted → ⊥
other-track track wanted other same = absurd (grind (arith, nat_tests))

-- The head and frame count of a skipped block, which isn't wanted, are known.
known-passed : (takes : BlockFilter) (front : BlockPreview) (given : AnyBlock) (lent : Buffered) → head_of given ≡ front.head → length given.frames ≡ front.frames → lent.head ≡ front.head → lent.frames ≡ front.frames → wants takes front.head.track ≡ false → IsKnown takes given lent
known-passed All front given lent says count head frames other = absurd (cc)
known-passed (Track wanted) front given lent says count head frames other =
    let track : given.track ≡ lent.head.track = cc in
    let there : lent.head.track ≡ front.head.track = cc in
    record { track = track; whole = λ same. absurd (other-track front.head.track wanted other (sym there ∙ same)) }
known-passed Heads front given lent says count head frames other = record { head = says ∙ sym head; frames = count ∙ sym frames }

pub makes-passed : (takes : BlockFilter) (front : BlockPreview) (lent : Buffered) (found : Result AnyBlock Damage) → HasHead front found → lent.head ≡ front.head → lent.frames ≡ front.frames → wants takes front.head.track ≡ false → MakesBlock takes lent found
makes-passed takes front lent found has head frames other = record {
  given = has.given;
  is = has.is;
  known = known-passed takes front has.given lent (ap head_of has.head) has.frames head frames other;
}

pub lends-passed : (takes : BlockFilter) (front : BlockPreview) (lent : Buffered) → lent.head ≡ front.head → wants takes front.head.track ≡ false → LendsWanted takes Block lent
lends-passed All front lent head other = absurd (cc)
lends-passed (Track wanted) front lent head other = λ same. absurd (other-track front.head.track wanted other (let there : lent.head.track ≡ front.head.track = cc in sym there ∙ same))
lends-passed Heads front lent head other = tt
