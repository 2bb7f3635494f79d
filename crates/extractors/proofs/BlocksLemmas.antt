-- Blocks that are added to outputs in sequence.
use Rattle.std.proofs.Common.{◌≡◌, ◌≢◌, ◌==◌, Bool, true, false, if◌then◌else◌, ℕ, zero, suc, ◌+◌, ◌<◌, ◌≤◌, ◌^◌, List, [], ◌∷◌, ◌++◌, length, get_or, Result, Ok, Err, IsErr, refl, sym, ◌∙◌, ap, arith, eq-eqb, append-nil, length-append}
use Rattle.std.proofs.lemmas.Grind.{flat_map-append}
use Rattle.std.proofs.Math.ListN.{set}
use Rattle.std.proofs.lemmas.Bool.{eqb-true}
use Rattle.mkv_io.specs.Names.{Names}
use Rattle.mkv_io.specs.declared.files.Files.{Ghosts}
use Rattle.block_format.specs.Block.{Block}
use Rattle.mkv_outputs.specs.Outputs.{Output, with_more}
use Rattle.mkv_outputs.specs.Sinks.{HaveBeenGiven}
use Rattle.mkv_outputs.specs.Starts.{AreBegun, ArePrefixes}
use Rattle.mkv_outputs.specs.declared.sink.Sink.{Sink}
use Rattle.mkv_outputs.proofs.StartsLemmas.{IsBegun-whole}
use Rattle.extractors.specs.Content.{counted, entries_from, output_of, outputs_of}
use Rattle.extractors.specs.Frames.{Frame, frames_for, frames_of_block, frames_of}
use Rattle.extractors.specs.declared.track_output.TrackOutput.{TrackOutput}
use Rattle.extractors.proofs.ContentLemmas.{output_of-more, outputs_of-begun}
use Rattle.extractors.specs.Walks.{WritesBlock, GivesBlocks, HaveBlocks, count_in, number_after, numbers_after, piece}

-- A block of another track adds nothing.
pub frames_for-none : (o : TrackOutput) (b : Block) → b.track ≢ o.track → frames_for o.step o.track b ≡ []
frames_for-none o b other = step (b.track == o.track) (λ same. other (eqb-true b.track o.track same))
  where
    step : (same : Bool) → (same ≡ true → ⊥) → (if same then frames_of_block o.step b else []) ≡ []
    step true differs = absurd (differs refl)
    step false differs = refl

pub piece-none : (o : TrackOutput) (n : ℕ) (b : Block) → b.track ≢ o.track → piece o n b ≡ []
piece-none o n b other = ap (entries_from o n) (frames_for-none o b other)

-- A block of another track has no frames for the output.
pub count-none : (o : TrackOutput) (n : ℕ) (b : Block) → b.track ≢ o.track → n < 2 ^ 64 → n ≡ counted (n + count_in o b)
count-none o n b other below = step (count_in o b) (ap length (frames_for-none o b other))
  where
    step : (k : ℕ) → k ≡ 0 → n ≡ counted (n + k)
    step k none = omega (arith, none, below)

-- A block of the output's track adds its frames.
pub frames_for-all : (o : TrackOutput) (b : Block) → b.track ≡ o.track → frames_for o.step o.track b ≡ frames_of_block o.step b
frames_for-all o b same = step (b.track == o.track) (eq-eqb b.track o.track same)
  where
    step : (test : Bool) → test ≡ true → (if test then frames_of_block o.step b else []) ≡ frames_of_block o.step b
    step true is = refl
    step false is = absurd (cc)

-- ---- the outputs, and the numbers of their next frames

-- The number after the frames of a further block.
number_after-more : (o : TrackOutput) (blocks : List Block) (b : Block) → counted (number_after blocks o + count_in o b) ≡ number_after (blocks ++ b ∷ []) o
number_after-more o blocks b =
    step (length (frames_of o.step o.track blocks)) (count_in o b) (length (frames_of o.step o.track (blocks ++ b ∷ [])))
    (ap length (flat_map-append (λ (each : Block). frames_for o.step o.track each) blocks (b ∷ []))
    ∙ length-append (frames_of o.step o.track blocks) (frames_for o.step o.track b ++ [])
    ∙ ap (λ (fs : List Frame). length (frames_of o.step o.track blocks) + length fs) (append-nil (frames_for o.step o.track b)))
  where
    step : (before more after : ℕ) → after ≡ before + more → counted (counted (1 + before) + more) ≡ counted (1 + after)
    step before more after is = omega (arith, is)

-- the outputs when the first `k` have a further block
pub given_upto : ℕ → List TrackOutput → List Block → Block → List Output
given_upto k [] blocks b = []
given_upto zero (o ∷ os) blocks b = outputs_of (o ∷ os) blocks
given_upto (suc k) (o ∷ os) blocks b = output_of o (blocks ++ b ∷ []) ∷ given_upto k os blocks b

-- the numbers of their next frames
pub numbers_upto : ℕ → List TrackOutput → List Block → Block → List ℕ
numbers_upto k [] blocks b = []
numbers_upto zero (o ∷ os) blocks b = numbers_after (o ∷ os) blocks
numbers_upto (suc k) (o ∷ os) blocks b = number_after (blocks ++ b ∷ []) o ∷ numbers_upto k os blocks b

pub given_upto-none : (list : List TrackOutput) (blocks : List Block) (b : Block) → given_upto 0 list blocks b ≡ outputs_of list blocks
unfolding given_upto
given_upto-none [] blocks b = refl
given_upto-none (o ∷ os) blocks b = refl

pub numbers_upto-none : (list : List TrackOutput) (blocks : List Block) (b : Block) → numbers_upto 0 list blocks b ≡ numbers_after list blocks
unfolding numbers_upto
numbers_upto-none [] blocks b = refl
numbers_upto-none (o ∷ os) blocks b = refl

-- The number of output `k` is the number after its blocks.
pub numbers_upto-at : (k : ℕ) (list : List TrackOutput) (d : TrackOutput) (n : ℕ) (blocks : List Block) (b : Block) → k < length list → get_or (numbers_upto k list blocks b) k n ≡ number_after blocks (get_or list k d)
unfolding numbers_upto
numbers_upto-at k [] d n blocks b below = absurd (omega arith)
numbers_upto-at zero (o ∷ os) d n blocks b below = refl
numbers_upto-at (suc k) (o ∷ os) d n blocks b below = numbers_upto-at k os d n blocks b (omega arith)

-- The number of output `k` in memory is the number after its blocks.
pub numbers-at : (numbers : List ℕ) (k n : ℕ) (list : List TrackOutput) (o : TrackOutput) (blocks : List Block) (b : Block) → numbers ≡ numbers_upto k list blocks b → k < length list → o ≡ get_or list k o → n ≡ get_or numbers k n → n ≡ number_after blocks o
numbers-at numbers k n list o blocks b are below is at =
    at ∙ ap (λ (ns : List ℕ). get_or ns k n) are ∙ numbers_upto-at k list o n blocks b below ∙ ap (number_after blocks) (sym is)

given_upto-next : (k : ℕ) (list : List TrackOutput) (d : TrackOutput) (n : ℕ) (blocks : List Block) (b : Block) → k < length list → n ≡ number_after blocks (get_or list k d) → with_more k (piece (get_or list k d) n b) (given_upto k list blocks b) ≡ given_upto (suc k) list blocks b
unfolding given_upto
given_upto-next k [] d n blocks b below is = absurd (omega arith)
given_upto-next zero (o ∷ os) d n blocks b below is = ap (λ (first : Output). first ∷ outputs_of os blocks) (output_of-more o blocks b n is) ∙ ap (λ (rest : List Output). output_of o (blocks ++ b ∷ []) ∷ rest) (sym (given_upto-none os blocks b))
given_upto-next (suc k) (o ∷ os) d n blocks b below is = ap (λ (rest : List Output). output_of o (blocks ++ b ∷ []) ∷ rest) (given_upto-next k os d n blocks b (omega arith) is)

-- One more output has the block.
pub given_upto-more : (k : ℕ) (list : List TrackOutput) (o : TrackOutput) (n : ℕ) (blocks : List Block) (b : Block) → k < length list → o ≡ get_or list k o → n ≡ number_after blocks o → with_more k (piece o n b) (given_upto k list blocks b) ≡ given_upto (k + 1) list blocks b
given_upto-more k list o n blocks b below is named =
    ap (λ (each : TrackOutput). with_more k (piece each n b) (given_upto k list blocks b)) is
    ∙ given_upto-next k list o n blocks b below (named ∙ ap (number_after blocks) is) ∙ ap (λ (n : ℕ). given_upto n list blocks b) (one_more k)
  where
    one_more : (n : ℕ) → suc n ≡ n + 1
    one_more n = omega arith

numbers_upto-next : (k : ℕ) (list : List TrackOutput) (d : TrackOutput) (blocks : List Block) (b : Block) → k < length list → set (numbers_upto k list blocks b) k (number_after (blocks ++ b ∷ []) (get_or list k d)) ≡ numbers_upto (suc k) list blocks b
unfolding numbers_upto
numbers_upto-next k [] d blocks b below = absurd (omega arith)
numbers_upto-next zero (o ∷ os) d blocks b below = ap (λ (rest : List ℕ). number_after (blocks ++ b ∷ []) o ∷ rest) (sym (numbers_upto-none os blocks b))
numbers_upto-next (suc k) (o ∷ os) d blocks b below = ap (λ (rest : List ℕ). number_after (blocks ++ b ∷ []) o ∷ rest) (numbers_upto-next k os d blocks b (omega arith))

-- The number of this output is increased.
pub numbers_upto-more : (k : ℕ) (list : List TrackOutput) (o : TrackOutput) (n next : ℕ) (blocks : List Block) (b : Block) → k < length list → o ≡ get_or list k o → n ≡ number_after blocks o → next ≡ counted (n + count_in o b) → set (numbers_upto k list blocks b) k next ≡ numbers_upto (k + 1) list blocks b
numbers_upto-more k list o n next blocks b below is named goes =
    ap (set (numbers_upto k list blocks b) k) (goes ∙ ap (λ (m : ℕ). counted (m + count_in o b)) named ∙ number_after-more o blocks b ∙ ap (number_after (blocks ++ b ∷ [])) is)
    ∙ numbers_upto-next k list o blocks b below ∙ ap (λ (n : ℕ). numbers_upto n list blocks b) (one_more k)
  where
    one_more : (n : ℕ) → suc n ≡ n + 1
    one_more n = omega arith

pub given_upto-all : (k : ℕ) (list : List TrackOutput) (blocks : List Block) (b : Block) → length list ≤ k → given_upto k list blocks b ≡ outputs_of list (blocks ++ b ∷ [])
unfolding given_upto
given_upto-all k [] blocks b all = refl
given_upto-all zero (o ∷ os) blocks b all = absurd (omega arith)
given_upto-all (suc k) (o ∷ os) blocks b all = ap (λ (rest : List Output). output_of o (blocks ++ b ∷ []) ∷ rest) (given_upto-all k os blocks b (omega arith))

pub numbers_upto-all : (k : ℕ) (list : List TrackOutput) (blocks : List Block) (b : Block) → length list ≤ k → numbers_upto k list blocks b ≡ numbers_after list (blocks ++ b ∷ [])
unfolding numbers_upto
numbers_upto-all k [] blocks b all = refl
numbers_upto-all zero (o ∷ os) blocks b all = absurd (omega arith)
numbers_upto-all (suc k) (o ∷ os) blocks b all = ap (λ (rest : List ℕ). number_after (blocks ++ b ∷ []) o ∷ rest) (numbers_upto-all k os blocks b (omega arith))

pub given_upto-begun : (k : ℕ) (list : List TrackOutput) (blocks : List Block) (b : Block) → AreBegun (given_upto k list blocks b) (outputs_of list (blocks ++ b ∷ []))
unfolding given_upto
given_upto-begun k [] blocks b = tt
given_upto-begun zero (o ∷ os) blocks b = outputs_of-begun (o ∷ os) blocks (b ∷ [])
given_upto-begun (suc k) (o ∷ os) blocks b = (IsBegun-whole (output_of o (blocks ++ b ∷ [])), given_upto-begun k os blocks b)

-- A failure leaves a first part.
pub WritesBlock-err : {S T E : Type 0} (f : Ghosts S) (list : List TrackOutput) (old new : S) (sinks later : List Sink) (before after : List ℕ) (b : Block) (result : Result T E) → IsErr result → ((since : Names) (blocks : List Block) → HaveBlocks f since list old sinks before blocks → ArePrefixes since (f.names new) (outputs_of list (blocks ++ b ∷ []))) → WritesBlock f list old new sinks later before after b result
WritesBlock-err f list old new sinks later before after b (Ok done) is part = absurd (cc)
WritesBlock-err f list old new sinks later before after b (Err fault) is part = part

pub GivesBlocks-err : {S T E : Type 0} (f : Ghosts S) (list : List TrackOutput) (old new : S) (sinks later : List Sink) (all : List Block) (result : Result T E) → IsErr result → ((since : Names) → HaveBeenGiven since (f.names old) (f.holder old) sinks (outputs_of list []) → ArePrefixes since (f.names new) (outputs_of list all)) → GivesBlocks f list old new sinks later all result
GivesBlocks-err f list old new sinks later all (Ok done) is part = absurd (cc)
GivesBlocks-err f list old new sinks later all (Err fault) is part = part
