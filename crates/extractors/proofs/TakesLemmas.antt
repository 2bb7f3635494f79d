-- The known part of a block is enough for the outputs that selected it.
use Rattle.std.proofs.Common.{◌≡◌, ◌==◌, ◌<◌, ℕ, zero, suc, Bool, true, false, if◌then◌else◌, List, [], ◌∷◌, length, get_or, refl, sym, ◌∙◌, ap, subst, arith}
use Rattle.std.specs.List.{All, list_all}
use Rattle.std.proofs.lemmas.Bool.{eqb-true}
use Rattle.std.proofs.lemmas.List.Sums.{AllPass-from_list_all}
use Rattle.block_format.specs.Block.{Block}
use Rattle.block_reader.specs.Buffered.{Buffered, block_of}
use Rattle.block_reader.specs.Lendable.{IsLendable}
use Rattle.block_reader.specs.declared.head.BlockHead.{BlockHead}
use Rattle.block_reader.proofs.FrontLemmas.{length-frames_cut}
use Rattle.cluster_reader.specs.Reading.{LendsWanted}
use Rattle.cluster_reader.specs.Takes.{IsKnown, IsKnownByHead, IsKnownFor}
use Rattle.cluster_reader.specs.declared.step.Step.TheVariants as StepOf
use Rattle.cluster_reader.specs.declared.filter.BlockFilter.{BlockFilter}
use Rattle.cluster_reader.specs.declared.filter.BlockFilter.TheVariants as takes
use Rattle.extractors.specs.Takes.{IsEnough, IsEnoughFor, IsEnoughForAll, is_of_times, of_one_track, takes_of}
use Rattle.extractors.specs.declared.frame_form.FrameForm.{FrameForm}
use Rattle.extractors.specs.declared.frame_form.FrameForm.TheVariants as form
use Rattle.extractors.specs.declared.track_output.TrackOutput.{TrackOutput}

-- ---- the blocks of one output

-- A block that is known whole is enough for each form.
pub enough-whole : (f : FrameForm) (b : Block) (lent : Buffered) → b ≡ block_of lent → IsLendable lent → IsEnough f b lent
enough-whole form.Plain b lent is lends = is
enough-whole form.SubRip b lent is lends = is
enough-whole (form.AnnexB w) b lent is lends = is
enough-whole (form.Adts aac) b lent is lends = is
enough-whole form.Pgs b lent is lends = is
enough-whole form.Time b lent is lends = subst (λ (x : Block). IsKnownByHead x lent) (sym is) (record { head = refl; frames = length-frames_cut lent.sizes lent.body ∙ sym lends.count })

-- The head of a block is enough for timestamps.
pub enough-times : (f : FrameForm) (b : Block) (lent : Buffered) → is_of_times f ≡ true → IsKnownByHead b lent → IsEnough f b lent
enough-times form.Plain b lent is known = absurd (cc)
enough-times form.SubRip b lent is known = absurd (cc)
enough-times (form.AnnexB w) b lent is known = absurd (cc)
enough-times (form.Adts aac) b lent is known = absurd (cc)
enough-times form.Pgs b lent is known = absurd (cc)
enough-times form.Time b lent is known = known

-- An output that takes bytes takes the buffered block.
pub enough-octets : (f : FrameForm) (b : Block) (lent : Buffered) → (f ≡ form.Time → ⊥) → IsEnough f b lent → b ≡ block_of lent
enough-octets form.Plain b lent other enough = enough
enough-octets form.SubRip b lent other enough = enough
enough-octets (form.AnnexB w) b lent other enough = enough
enough-octets (form.Adts aac) b lent other enough = enough
enough-octets form.Pgs b lent other enough = enough
enough-octets form.Time b lent other enough = absurd (other refl)

-- ---- all outputs

-- Enough for all outputs is enough for output `k`.
pub enough-at : (list : List TrackOutput) (k : ℕ) (o : TrackOutput) (b : Block) (lent : Buffered) → k < length list → o ≡ get_or list k o → All (λ (each : TrackOutput). IsEnoughFor each b lent) list → IsEnoughFor o b lent
enough-at list k o b lent below is each = subst (λ (x : TrackOutput). IsEnoughFor x b lent) (sym is) (each k o below)

-- All of the block is known.
enough-all : (list : List TrackOutput) (b : Block) (lent : Buffered) → b ≡ block_of lent → IsLendable lent → IsEnoughForAll list b lent
enough-all list b lent is lends =
    let track : b.track ≡ lent.head.track = ap (λ (x : Block). x.track) is in
    record { track = track; each = λ k d below. record { track = track; own = λ same. enough-whole (get_or list k d).form b lent is lends } }

-- All is known of the blocks of the track that all outputs take.
enough-track : (list : List TrackOutput) (track : ℕ) (b : Block) (lent : Buffered) → All (λ (o : TrackOutput). o.track ≡ track) list → IsKnownFor track b lent → (lent.head.track ≡ track → IsLendable lent) → IsEnoughForAll list b lent
enough-track list track b lent all known lends = record {
  track = known.track;
  each = λ k d below. record {
    track = known.track;
    own = λ same. let is : lent.head.track ≡ track = same ∙ all k d below in enough-whole (get_or list k d).form b lent (known.whole is) (lends is);
  };
}

-- All outputs take only timestamps.
enough-heads : (list : List TrackOutput) (b : Block) (lent : Buffered) → list_all (λ (o : TrackOutput). is_of_times o.form) list ≡ true → IsKnownByHead b lent → IsEnoughForAll list b lent
enough-heads list b lent all known =
    let track : b.track ≡ lent.head.track = ap (λ (h : BlockHead). h.track) known.head in
    record {
      track = track;
      each = λ k d below. record {
        track = track;
        own = λ same. enough-times (get_or list k d).form b lent (AllPass-from_list_all (λ (o : TrackOutput). is_of_times o.form) list all k d below) known;
      };
    }

-- All outputs take the track of the first.
all-same : (o : TrackOutput) (others : List TrackOutput) → list_all (λ (other : TrackOutput). other.track == o.track) others ≡ true → All (λ (other : TrackOutput). other.track ≡ o.track) (o ∷ others)
all-same o others all zero d below = refl
all-same o others all (suc k) d below = eqb-true _ _ (AllPass-from_list_all (λ (other : TrackOutput). other.track == o.track) others all k d (omega arith))

enough-one : (list : List TrackOutput) (b : Block) (lent : Buffered) → IsKnown (of_one_track list) b lent → LendsWanted (of_one_track list) StepOf.Block lent → IsEnoughForAll list b lent
enough-one [] b lent known lends = enough-all [] b lent known lends
enough-one (o ∷ others) b lent known lends = split (list_all (λ (other : TrackOutput). other.track == o.track) others) refl known lends
  where
    split : (same : Bool) → list_all (λ (other : TrackOutput). other.track == o.track) others ≡ same → IsKnown (if same then takes.Track o.track else takes.All) b lent → LendsWanted (if same then takes.Track o.track else takes.All) StepOf.Block lent → IsEnoughForAll (o ∷ others) b lent
    split true is known lends = enough-track (o ∷ others) o.track b lent (all-same o others is) known lends
    split false is known lends = enough-all (o ∷ others) b lent known lends

-- The known part of a block that is selected by the filter is enough for all outputs.
enough-of : (list : List TrackOutput) (b : Block) (lent : Buffered) → IsKnown (takes_of list) b lent → LendsWanted (takes_of list) StepOf.Block lent → IsEnoughForAll list b lent
enough-of list b lent = split (list_all (λ (o : TrackOutput). is_of_times o.form) list) refl
  where
    split : (times : Bool) → list_all (λ (o : TrackOutput). is_of_times o.form) list ≡ times → IsKnown (if times then takes.Heads else of_one_track list) b lent → LendsWanted (if times then takes.Heads else of_one_track list) StepOf.Block lent → IsEnoughForAll list b lent
    split true is known lends = enough-heads list b lent is known
    split false is known lends = enough-one list b lent known lends

pub enough-taken : (list : List TrackOutput) (asked : BlockFilter) (b : Block) (lent : Buffered) → asked ≡ takes_of list → IsKnown asked b lent → LendsWanted asked StepOf.Block lent → IsEnoughForAll list b lent
enough-taken list asked b lent is known lends =
    enough-of list b lent (subst (λ (t : BlockFilter). IsKnown t b lent) is known) (subst (λ (t : BlockFilter). LendsWanted t StepOf.Block lent) is lends)
