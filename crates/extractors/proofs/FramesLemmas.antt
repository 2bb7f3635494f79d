-- Bytes that are added to one output in sequence.
use Rattle.std.proofs.Common.{◌≡◌, ℕ, zero, suc, ◌+◌, ◌-◌, ◌<◌, ◌≤◌, ◌*◌, ℤ, pos, ◌+ℤ◌, List, [], ◌∷◌, ◌++◌, length, take, drop, get_or, sum, unwrap_or, Result, Ok, Err, IsErr, refl, sym, ◌∙◌, ap, subst, arith, append_assoc, append-nil, w64, to_z, of_z, SFits}
use Rattle.std.proofs.lemmas.Int.{to_z-of_z}
use Rattle.std.proofs.Math.Seq.{drop-cons}
use Rattle.std.proofs.lemmas.List.{drop-drop, drop_all}
use Rattle.std.proofs.lemmas.List.Sums.{sum_by-cons}
use Rattle.mkv_io.specs.Names.{Names}
use Rattle.mkv_io.specs.declared.files.Files.{Ghosts}
use Rattle.block_format.specs.Block.{Block}
use Rattle.block_format.specs.Content.{frames_cut}
use Rattle.mkv_outputs.specs.Outputs.{Output, with_more}
use Rattle.mkv_outputs.specs.Sinks.{Gives, HaveBeenGiven}
use Rattle.mkv_outputs.specs.Starts.{ArePrefixes}
use Rattle.mkv_outputs.specs.declared.sink.Sink.{Sink}
use Rattle.mkv_outputs.proofs.GivenLemmas.{HaveBeenGiven-part}
use Rattle.mkv_outputs.proofs.OutputsLemmas.{with_more-none, with_more-twice}
use Rattle.mkv_outputs.proofs.StartsLemmas.{ArePrefixes-more}
use Rattle.cluster_reader.specs.Takes.{IsKnownByHead}
use Rattle.extractors.specs.Content.{counted, entries_from, entry_of, whole, written_of}
use Rattle.block_reader.specs.Buffered.{Buffered, block_of}
use Rattle.block_reader.specs.declared.head.BlockHead.{BlockHead}
use Rattle.block_reader.proofs.FrontLemmas.{length-frames_cut}
use Rattle.extractors.specs.Frames.{Frame, frames_from, frames_of_block}
use Rattle.extractors.specs.Times.{time_line}
use Rattle.extractors.specs.declared.frame_form.FrameForm.{FrameForm}
use Rattle.extractors.specs.declared.frame_form.FrameForm.TheVariants as form
use Rattle.extractors.specs.declared.track_output.TrackOutput.{TrackOutput}
use Rattle.extractors.proofs.ContentLemmas.{entry_of-counted}

-- a frame with these bytes, time and duration
abbrev pub framed : List ℕ → ℤ → ℕ → Frame
framed octets time duration = record { octets = octets; time = time; duration = duration }

-- The bytes `octets` were added to output `k`.
abbrev pub HasGiven : {S : Type 0} → Ghosts S → S → S → List Sink → List Sink → ℕ → List ℕ → Type 0
HasGiven f old new sinks later k octets = (since : Names) (given : List Output) → HaveBeenGiven since (f.names old) (f.holder old) sinks given → HaveBeenGiven since (f.names new) (f.holder new) later (with_more k octets given)

-- A part of the bytes `octets` was added to output `k`.
abbrev pub HasPart : {S : Type 0} → Ghosts S → S → S → List Sink → ℕ → List ℕ → Type 0
HasPart f old new sinks k octets = (since : Names) (given : List Output) → HaveBeenGiven since (f.names old) (f.holder old) sinks given → ArePrefixes since (f.names new) (with_more k octets given)

-- A failure leaves a first part.
pub Gives-err : {S T E : Type 0} (f : Ghosts S) (old new : S) (sinks later : List Sink) (k : ℕ) (octets : List ℕ) (result : Result T E) → IsErr result → HasPart f old new sinks k octets → Gives f old new sinks later (with_more k octets) result
Gives-err f old new sinks later k octets (Ok done) is part = absurd (cc)
Gives-err f old new sinks later k octets (Err fault) is part = part

-- The first of two calls failed.
pub HasPart-first : {S : Type 0} (f : Ghosts S) (old new : S) (sinks : List Sink) (k : ℕ) (first next : List ℕ) → HasPart f old new sinks k first → HasPart f old new sinks k (first ++ next)
HasPart-first f old new sinks k first next part = λ since given has.
    subst (ArePrefixes since (f.names new)) (with_more-twice k first next given) (ArePrefixes-more since (f.names new) k next (with_more k first given) (part since given has))

-- Nothing was written.
pub HasPart-none : {S : Type 0} (f : Ghosts S) (files : S) (sinks : List Sink) (k : ℕ) (octets : List ℕ) → HasPart f files files sinks k octets
HasPart-none f files sinks k octets = λ since given has.
    ArePrefixes-more since (f.names files) k octets given (HaveBeenGiven-part since (f.names files) (f.holder files) sinks given has)

-- The second call returned.
pub Gives-then : {S T E : Type 0} (f : Ghosts S) (old mid new : S) (sinks between later : List Sink) (k : ℕ) (first next : List ℕ) (result : Result T E) → HasGiven f old mid sinks between k first → Gives f mid new between later (with_more k next) result → Gives f old new sinks later (with_more k (first ++ next)) result
Gives-then f old mid new sinks between later k first next (Ok done) has gives = λ since given had.
    subst (HaveBeenGiven since (f.names new) (f.holder new) later) (with_more-twice k first next given) (gives since (with_more k first given) (has since given had))
Gives-then f old mid new sinks between later k first next (Err fault) has gives = λ since given had.
    subst (ArePrefixes since (f.names new)) (with_more-twice k first next given) (gives since (with_more k first given) (has since given had))

-- ---- bytes in a loop

-- The first part of `all` was added to output `k`; `left` remains.
pub record GivesUpTo {S : Type 0} (f : Ghosts S) (old new : S) (sinks later : List Sink) (k : ℕ) (all left : List ℕ) : Type 0 where
  pub done : List ℕ
  pub whole : all ≡ done ++ left
  pub has : HasGiven f old new sinks later k done

pub GivesUpTo-begins : {S : Type 0} (f : Ghosts S) (files : S) (sinks : List Sink) (k : ℕ) (all left : List ℕ) → left ≡ all → GivesUpTo f files files sinks sinks k all left
GivesUpTo-begins f files sinks k all left is = record {
  done = [];
  whole = sym is;
  has = λ since given has. subst (HaveBeenGiven since (f.names files) (f.holder files) sinks) (sym (with_more-none k given)) has;
}

module _ {S : Type 0} {f : Ghosts S} {old mid : S} {sinks between : List Sink} {k : ℕ} {all before : List ℕ} (so : GivesUpTo f old mid sinks between k all before) (new : S) (later : List Sink) (more left : List ℕ) (is : before ≡ more ++ left) where
  -- More bytes were added.
  pub GivesUpTo-more : HasGiven f mid new between later k more → GivesUpTo f old new sinks later k all left
  GivesUpTo-more gives = record {
    done = so.done ++ more;
    whole = so.whole ∙ ap (λ (rest : List ℕ). so.done ++ rest) is ∙ sym (append_assoc so.done more left);
    has = λ since given has. subst (HaveBeenGiven since (f.names new) (f.holder new) later) (with_more-twice k so.done more given) (gives since (with_more k so.done given) (so.has since given has));
  }

  -- More bytes were added in part.
  pub GivesUpTo-stops : {T E : Type 0} (result : Result T E) → IsErr result → HasPart f mid new between k more → Gives f old new sinks later (with_more k all) result
  GivesUpTo-stops result stopped part = Gives-err f old new sinks later k all result stopped (λ since given has.
      subst (ArePrefixes since (f.names new))
      (with_more-twice k more left (with_more k so.done given) ∙ ap (λ (rest : List ℕ). with_more k rest (with_more k so.done given)) (sym is) ∙ with_more-twice k so.done before given ∙ ap (λ (octets : List ℕ). with_more k octets given) (sym so.whole))
      (ArePrefixes-more since (f.names new) k left (with_more k more (with_more k so.done given)) (part since (with_more k so.done given) (so.has since given has))))

-- All bytes were added.
pub GivesUpTo-ends : {S : Type 0} {f : Ghosts S} {old new : S} {sinks later : List Sink} {k : ℕ} {all left : List ℕ} → GivesUpTo f old new sinks later k all left → left ≡ [] → HasGiven f old new sinks later k all
GivesUpTo-ends {f = f} {new = new} {later = later} {k = k} so none = λ since given has.
    subst (λ (octets : List ℕ). HaveBeenGiven since (f.names new) (f.holder new) later (with_more k octets given)) (sym (so.whole ∙ ap (λ (rest : List ℕ). so.done ++ rest) none ∙ append-nil so.done)) (so.has since given has)

-- No bytes were to be added.
pub HasGiven-none : {S : Type 0} (f : Ghosts S) (files : S) (sinks : List Sink) (k : ℕ) (octets : List ℕ) → octets ≡ [] → HasGiven f files files sinks sinks k octets
HasGiven-none f files sinks k octets none = GivesUpTo-ends (GivesUpTo-begins f files sinks k octets octets refl) none

-- ---- the frames of a block

-- the written forms of the remaining frames, from frame `i` on; the first frame of the block has number `number`
pub entries_left : TrackOutput → ℕ → ℕ → ℤ → ℕ → List ℕ → List ℕ → ℕ → ℕ → List ℕ
entries_left o number step time duration sizes body i at = entries_from o (number + i) (frames_from step time duration i (frames_cut (drop i sizes) (drop at body)))

-- The next frame is the first of the rest.
entries_left-next : (o : TrackOutput) (number step : ℕ) (time : ℤ) (duration : ℕ) (sizes body : List ℕ) (i at size n : ℕ) (f : Frame) → i < length sizes → size ≡ get_or sizes i 0 → n ≡ counted (number + i) → f ≡ framed (take size (drop at body)) (time +ℤ pos (i * step)) duration → entries_left o number step time duration sizes body i at ≡ entry_of o n f ++ entries_left o number step time duration sizes body (i + 1) (at + size)
unfolding entries_left
entries_left-next o number step time duration sizes body i at size n f below is named cut =
    ap (λ (ss : List ℕ). entries_from o (number + i) (frames_from step time duration i (frames_cut ss (drop at body)))) (drop-cons sizes i 0 below ∙ ap (λ (s : ℕ). s ∷ drop (suc i) sizes) (sym is))
    ∙ ap (λ (left : List ℕ). entry_of o (number + i) (framed (take size (drop at body)) (time +ℤ pos (i * step)) duration) ++ entries_from o ((number + i) + 1) (frames_from step time duration (i + 1) (frames_cut (drop (suc i) sizes) left))) (drop-drop size at body)
    ∙ ap (λ (k : ℕ). entry_of o (number + i) (framed (take size (drop at body)) (time +ℤ pos (i * step)) duration) ++ entries_from o ((number + i) + 1) (frames_from step time duration (i + 1) (frames_cut (drop k sizes) (drop (at + size) body)))) (one_more i)
    ∙ ap (λ (k : ℕ). entry_of o (number + i) (framed (take size (drop at body)) (time +ℤ pos (i * step)) duration) ++ entries_from o k (frames_from step time duration (i + 1) (frames_cut (drop (i + 1) sizes) (drop (at + size) body)))) (one_further number i)
    ∙ ap (λ (one : Frame). entry_of o (number + i) one ++ entries_left o number step time duration sizes body (i + 1) (at + size)) (sym cut)
    ∙ ap (λ (octets : List ℕ). octets ++ entries_left o number step time duration sizes body (i + 1) (at + size)) (entry_of-counted o (number + i) n f (stands (number + i) named))
  where
    one_more : (k : ℕ) → suc k ≡ k + 1
    one_more k = omega arith

    one_further : (k j : ℕ) → (k + j) + 1 ≡ k + (j + 1)
    one_further k j = omega arith

    stands : (m : ℕ) → n ≡ counted m → counted m ≡ counted n
    stands m same = omega (arith, same)

-- The next entry is the first of the rest, for the frame and the time that a loop computes.
pub entries_left-found : (o : TrackOutput) (number : ℕ) (time : ℤ) (duration : ℕ) (sizes body : List ℕ) (i at n : ℕ) (found : ℤ) → i < length sizes → n ≡ counted (number + i) → SFits w64 found → found ≡ time +ℤ pos (i * o.step) → entries_left o number o.step time duration sizes body i at ≡ entry_of o n (framed (take ((at + get_or sizes i 0) - at) (drop at body)) (to_z w64 (of_z w64 found)) duration) ++ entries_left o number o.step time duration sizes body (i + 1) (at + get_or sizes i 0)
entries_left-found o number time duration sizes body i at n found below named fits is =
    entries_left-next o number o.step time duration sizes body i at (get_or sizes i 0) n (framed (take ((at + get_or sizes i 0) - at) (drop at body)) (to_z w64 (of_z w64 found)) duration) below refl named
    (ap (λ (m : ℕ). framed (take m (drop at body)) (to_z w64 (of_z w64 found)) duration) (less at (get_or sizes i 0)) ∙ ap (λ (t : ℤ). framed (take (get_or sizes i 0) (drop at body)) t duration) (to_z-of_z w64 found fits ∙ is))
  where
    less : (a b : ℕ) → (a + b) - a ≡ b
    less a b = omega arith

-- At first all frames of the block remain.
pub entries_left-block : (o : TrackOutput) (number step : ℕ) (sizes body : List ℕ) (head : BlockHead) (duration : ℕ) (b : Buffered) → head ≡ b.head → sizes ≡ b.sizes → body ≡ b.body → duration ≡ unwrap_or head.duration 0 → entries_left o number step head.time duration sizes body 0 0 ≡ entries_from o number (frames_of_block step (block_of b))
unfolding entries_left
entries_left-block o number step sizes body head duration b heads cut octets lasts =
    ap (λ (d : ℕ). entries_from o (number + 0) (frames_from step head.time d 0 (frames_cut sizes body))) lasts
    ∙ ap (λ (h : BlockHead). entries_from o (number + 0) (frames_from step h.time (unwrap_or h.duration 0) 0 (frames_cut sizes body))) heads
    ∙ ap (λ (ss : List ℕ). entries_from o (number + 0) (frames_from step b.head.time (unwrap_or b.head.duration 0) 0 (frames_cut ss body))) cut
    ∙ ap (λ (os : List ℕ). entries_from o (number + 0) (frames_from step b.head.time (unwrap_or b.head.duration 0) 0 (frames_cut b.sizes os))) octets
    ∙ ap (λ (n : ℕ). entries_from o n (frames_of_block step (block_of b))) (plus_none number)
  where
    plus_none : (k : ℕ) → k + 0 ≡ k
    plus_none k = omega arith

-- At the end no frames remain.
pub entries_left-none : (o : TrackOutput) (number step : ℕ) (time : ℤ) (duration : ℕ) (sizes body : List ℕ) (i at : ℕ) → length sizes ≤ i → entries_left o number step time duration sizes body i at ≡ []
unfolding entries_left
entries_left-none o number step time duration sizes body i at all = ap (λ (ss : List ℕ). entries_from o (number + i) (frames_from step time duration i (frames_cut ss (drop at body)))) (drop_all i sizes all)

-- A block has one frame for each size.
length-frames_from : (step : ℕ) (time : ℤ) (duration i : ℕ) (frames : List (List ℕ)) → length (frames_from step time duration i frames) ≡ length frames
length-frames_from step time duration i [] = refl
length-frames_from step time duration i (octets ∷ rest) = ap suc (length-frames_from step time duration (i + 1) rest)

pub length-frames_in : (step : ℕ) (b : Buffered) (sizes : List ℕ) → sizes ≡ b.sizes → length (frames_of_block step (block_of b)) ≡ length sizes
length-frames_in step b sizes same =
    length-frames_from step b.head.time (unwrap_or b.head.duration 0) 0 (frames_cut b.sizes b.body) ∙ length-frames_cut b.sizes b.body ∙ ap length (sym same)

-- The remaining sizes add up to the remaining bytes.
pub rest-next : (sizes : List ℕ) (i at size total : ℕ) → i < length sizes → size ≡ get_or sizes i 0 → at + sum (drop i sizes) ≡ total → (at + size) + sum (drop (i + 1) sizes) ≡ total
rest-next sizes i at size total below is whole =
    let next : drop i sizes ≡ size ∷ drop (suc i) sizes = drop-cons sizes i 0 below ∙ ap (λ (s : ℕ). s ∷ drop (suc i) sizes) (sym is) in
    let more : sum (drop i sizes) ≡ size + sum (drop (suc i) sizes) = ap sum next ∙ sum_by-cons (λ (n : ℕ). n) size (drop (suc i) sizes) in
    ap (λ (n : ℕ). (at + size) + sum (drop n sizes)) (one_more i) ∙ omega (arith, more, whole)
  where
    one_more : (n : ℕ) → n + 1 ≡ suc n
    one_more n = omega arith

-- ---- the times of the frames of a block

-- the lines of `n` frames from frame `i` on
pub times_left : ℕ → ℤ → ℕ → ℕ → List ℕ
times_left step time i zero = []
times_left step time i (suc n) = time_line (time +ℤ pos (i * step)) ++ times_left step time (i + 1) n

-- The next line is the first of the rest.
times_left-next : (step : ℕ) (time : ℤ) (i n : ℕ) → i < n → times_left step time i (n - i) ≡ time_line (time +ℤ pos (i * step)) ++ times_left step time (i + 1) (n - (i + 1))
unfolding times_left
times_left-next step time i n below = ap (times_left step time i) (one n i below)
  where
    one : (n i : ℕ) → i < n → n - i ≡ suc (n - (i + 1))
    one n i below = omega (arith, below)

-- The next line is the first of the rest, for the time that a loop computes.
pub times_left-found : (step : ℕ) (time : ℤ) (i n : ℕ) (found : ℤ) → i < n → SFits w64 found → found ≡ time +ℤ pos (i * step) → times_left step time i (n - i) ≡ time_line (to_z w64 (of_z w64 found)) ++ times_left step time (i + 1) (n - (i + 1))
times_left-found step time i n found below fits is =
    times_left-next step time i n below ∙ ap (λ (t : ℤ). time_line t ++ times_left step time (i + 1) (n - (i + 1))) (sym (to_z-of_z w64 found fits ∙ is))

-- At the end no line remains.
pub times_left-none : (step : ℕ) (time : ℤ) (i n : ℕ) → n ≤ i → times_left step time i (n - i) ≡ []
unfolding times_left
times_left-none step time i n all = ap (times_left step time i) (none n i all)
  where
    none : (n i : ℕ) → n ≤ i → n - i ≡ 0
    none n i all = omega (arith, all)

-- In the form of timestamps a frame is written as its time.
entry-time : (o : TrackOutput) (n : ℕ) (f : Frame) → o.form ≡ form.Time → entry_of o n f ≡ time_line f.time
entry-time o n f is = ap (λ (kind : FrameForm). unwrap_or (written_of kind n f (whole o.prefix f)) []) is

-- The lines of timestamps depend only on the number of frames.
times-from : (o : TrackOutput) (number step : ℕ) (time : ℤ) (duration i : ℕ) (frames : List (List ℕ)) → o.form ≡ form.Time → times_left step time i (length frames) ≡ entries_from o number (frames_from step time duration i frames)
unfolding times_left
times-from o number step time duration i [] is = refl
times-from o number step time duration i (octets ∷ rest) is =
    ap (λ (lines : List ℕ). time_line (time +ℤ pos (i * step)) ++ lines) (times-from o (number + 1) step time duration (i + 1) rest is)
    ∙ ap (λ (line : List ℕ). line ++ entries_from o (number + 1) (frames_from step time duration (i + 1) rest)) (sym (entry-time o number (framed octets (time +ℤ pos (i * step)) duration) is))

-- The lines are the timestamps of a block with a known head.
pub times-block : (o : TrackOutput) (number : ℕ) (head : BlockHead) (n : ℕ) (b : Block) (lent : Buffered) → o.form ≡ form.Time → head ≡ lent.head → n ≡ lent.frames → IsKnownByHead b lent → times_left o.step head.time 0 (n - 0) ≡ entries_from o number (frames_of_block o.step b)
times-block o number head n b lent is heads count known =
    ap (λ (h : BlockHead). times_left o.step h.time 0 (n - 0)) (heads ∙ sym known.head)
    ∙ ap (times_left o.step b.time 0) (less_none n ∙ count ∙ sym known.frames)
    ∙ times-from o number o.step b.time (unwrap_or b.duration 0) 0 b.frames is
  where
    less_none : (n : ℕ) → n - 0 ≡ n
    less_none n = omega arith

-- The number of frames is the block's.
pub length-times : (step n : ℕ) (b : Block) (lent : Buffered) → n ≡ lent.frames → IsKnownByHead b lent → length (frames_of_block step b) ≡ n
length-times step n b lent count known = length-frames_from step b.time (unwrap_or b.duration 0) 0 b.frames ∙ known.frames ∙ sym count
