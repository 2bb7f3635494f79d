-- Blocks that get the timestamps of their first frames.
use Rattle.std.proofs.Common.{◌≡◌, ℕ, if◌then◌else◌, map, ap, ap₂, ◌∙◌, suc, ◌+◌, ◌*◌, ◌^◌, ◌<◌, ◌≤◌, ℤ, pos, negsuc, ◌+ℤ◌, nat_abs, Bool, true, false, cond, nat_lt, List, [], ◌∷◌, ◌++◌, length, get_or, refl, arith, append_assoc, length-append, All}
use Rattle.std.proofs.Math.IntN.{+ℤ_idr}
use Rattle.std.proofs.Math.Nat.{mul-le-mul}
use Rattle.std.proofs.lemmas.Grind.{common_steps}
use Rattle.std.proofs.lemmas.Bool.Decides.{nat_tests}
use Rattle.std.proofs.lemmas.Int.{ints, clamps}
use Rattle.std.specs.Prelude.{◌==◌, unwrap_or}
use Rattle.std.specs.List.{flat_map}
use Rattle.std.proofs.lemmas.List.{map-append}
use Rattle.block_format.specs.Block.{Block}
use Rattle.ext_times.specs.Listing.{Each, listing}
use Rattle.ext_times.specs.Times.{time_in, clamped, time_at}
use Rattle.merge_model.specs.Timed.{retimed}
use Rattle.extractors.specs.Content.{content_of, entries_from, entry_of, whole, written_of}
use Rattle.extractors.specs.Frames.{Frame, frames_for, frames_from, frames_of}
use Rattle.extractors.specs.Times.{time_line}
use Rattle.extractors.specs.declared.frame_form.FrameForm.{FrameForm}
use Rattle.extractors.specs.declared.frame_form.FrameForm.TheVariants as form
use Rattle.extractors.specs.declared.track_output.TrackOutput.{TrackOutput}
use Rattle.times_laws.specs.Given.{of_track, IsOfTimes, IsTimedBlock, OwnTimesChangeNothing}
use Rattle.times_laws.specs.Laws.{put_times}
use Rattle.times_laws.proofs.BackLemmas.{AreSmall, small_read_back}

-- ---- written timestamps
-- the timestamps of frames, from the frame number `i` of a block on
abbrev times_from : ℕ → ℤ → ℕ → List (List ℕ) → List ℤ
times_from step time i [] = []
times_from step time i (frame ∷ frames) = (time +ℤ pos (i * step)) ∷ times_from step time (i + 1) frames

-- the timestamps of the frames of a block, if the block is on the track
abbrev times_for : ℕ → ℕ → Block → List ℤ
times_for step number b = if b.track == number then times_from step b.time 0 b.frames else []

-- the timestamps of all frames of a track
abbrev times_of : ℕ → ℕ → List Block → List ℤ
times_of step number blocks = flat_map (λ (b : Block). times_for step number b) blocks

times-frames : (step : ℕ) (time : ℤ) (duration i : ℕ) (frames : List (List ℕ)) → map (λ (f : Frame). f.time) (frames_from step time duration i frames) ≡ times_from step time i frames
times-frames step time duration i [] = refl
times-frames step time duration i (f ∷ fs) = ap (λ (rest : List ℤ). (time +ℤ pos (i * step)) ∷ rest) (times-frames step time duration (i + 1) fs)

times-block : (step number : ℕ) (b : Block) → map (λ (f : Frame). f.time) (frames_for step number b) ≡ times_for step number b
times-block step number b = by_track (b.track == number)
  where
    by_track : (c : Bool) → map (λ (f : Frame). f.time) (if c then frames_from step b.time (unwrap_or b.duration 0) 0 b.frames else []) ≡ (if c then times_from step b.time 0 b.frames else [])
    by_track true = times-frames step b.time (unwrap_or b.duration 0) 0 b.frames
    by_track false = refl

times-blocks : (step number : ℕ) (bs : List Block) → map (λ (f : Frame). f.time) (frames_of step number bs) ≡ times_of step number bs
times-blocks step number [] = refl
times-blocks step number (b ∷ bs) =
    map-append (λ (f : Frame). f.time) (frames_for step number b) (frames_of step number bs)
    ∙ ap₂ (λ (xs ys : List ℤ). xs ++ ys) (times-block step number b) (times-blocks step number bs)

entry-line : (o : TrackOutput) (n : ℕ) (f : Frame) → o.form ≡ form.Time → entry_of o n f ≡ time_line f.time
entry-line o n f is = ap (λ (kind : FrameForm). unwrap_or (written_of kind n f (whole o.prefix f)) []) is

entries-lines : (o : TrackOutput) (n : ℕ) (fs : List Frame) → o.form ≡ form.Time → entries_from o n fs ≡ flat_map time_line (map (λ (f : Frame). f.time) fs)
entries-lines o n [] is = refl
entries-lines o n (f ∷ fs) is = ap₂ (λ (line rest : List ℕ). line ++ rest) (entry-line o n f is) (entries-lines o (n + 1) fs is)

-- The content that an extraction writes for a track.
written : (o : TrackOutput) (bs : List Block) → IsOfTimes o → content_of o bs ≡ put_times (times_of o.step o.track bs)
written o bs is =
    ap₂ (λ (head rest : List ℕ). head ++ rest) is.head (entries-lines o 1 (frames_of o.step o.track bs) is.form ∙ ap (flat_map time_line) (times-blocks o.step o.track bs))

-- ---- a timestamp in a list
-- A timestamp of less than 2^56 ns in size stays.
kept : (t : ℤ) → nat_abs t < 2 ^ 56 → clamped t ≡ t
kept (pos n) small = omega (arith, ints, clamps)
kept (negsuc n) small = omega (arith, ints, clamps)

seam : (done : List ℤ) (t : ℤ) (rest : List ℤ) → get_or (done ++ (t ∷ rest)) (length done) (pos 0) ≡ t
seam [] t rest = refl
seam (d ∷ ds) t rest = seam ds t rest

at_seam : (done : List ℤ) (t : ℤ) (rest : List ℤ) → time_in (done ++ (t ∷ rest)) (length done) ≡ t
at_seam done t rest =
    let within : nat_lt (length done) (length (done ++ (t ∷ rest))) ≡ true = grind (arith, nat_tests, common_steps) in
    rw within (seam done t rest)

-- ---- the frames of a block
length-times_from : (step : ℕ) (t : ℤ) (i : ℕ) (frames : List (List ℕ)) → length (times_from step t i frames) ≡ length frames
length-times_from step t i [] = refl
length-times_from step t i (f ∷ fs) = let rest = length-times_from step t (i + 1) fs in omega arith

begins : (step : ℕ) (frames : List (List ℕ)) (t : ℤ) (done rest : List ℤ) → 1 ≤ length frames → nat_abs t < 2 ^ 56
    → time_at (Each (done ++ (times_from step t 0 frames ++ rest))) (length done) ≡ t
unfolding time_at
begins step [] t done rest some small = absurd (omega arith)
begins step (f ∷ fs) t done rest some small =
    let none : 0 * step ≡ 0 = omega arith in
    let first = at_seam done t (times_from step t 1 fs ++ rest) in
    rw (none, +ℤ_idr t, first) (kept t small)

-- ---- blocks
abbrev AllTimed : List Block → Type 0
AllTimed [] = Unit {0}
AllTimed (b ∷ bs) = IsTimedBlock b × AllTimed bs

all_timed : (bs : List Block) → All IsTimedBlock bs → AllTimed bs
all_timed [] all = tt
all_timed (b ∷ bs) all = (all 0 b (omega arith), all_timed bs (λ k d less. all (suc k) d (omega arith)))

-- The blocks keep their timestamps, after the listed timestamps of earlier blocks.
keeps : (step number : ℕ) (done : List ℤ) (bs : List Block) → AllTimed bs → retimed (Each (done ++ times_of step number bs)) (length done) (of_track number bs) ≡ of_track number bs
keeps step number done [] timed = refl
keeps step number done (b ∷ bs) timed = by_track (b.track == number) (keeps step number done bs timed.1) (keeps step number (done ++ times_from step b.time 0 b.frames) bs timed.1)
  where
    by_track : (c : Bool) → retimed (Each (done ++ times_of step number bs)) (length done) (of_track number bs) ≡ of_track number bs
        → retimed (Each ((done ++ times_from step b.time 0 b.frames) ++ times_of step number bs)) (length (done ++ times_from step b.time 0 b.frames)) (of_track number bs) ≡ of_track number bs
        → retimed (Each (done ++ (cond c (times_from step b.time 0 b.frames) [] ++ times_of step number bs))) (length done) (cond c (b ∷ of_track number bs) (of_track number bs)) ≡ cond c (b ∷ of_track number bs) (of_track number bs)
    by_track true other own =
        let lace = times_from step b.time 0 b.frames in
        let first = begins step b.frames b.time done (times_of step number bs) timed.0.some timed.0.small in
        let count : length done + length b.frames ≡ length (done ++ lace) = omega (arith, length-append done lace, length-times_from step b.time 0 b.frames) in
        let joined = rw (append_assoc done lace (times_of step number bs)) at own in
        rw (first, count, joined) refl
    by_track false other own = other

-- ---- sizes
abs_later : (t : ℤ) (n : ℕ) → nat_abs (t +ℤ pos n) ≤ nat_abs t + n
abs_later t n = grind (arith, ints)

small_from : (step : ℕ) (t : ℤ) (i : ℕ) (frames : List (List ℕ)) → step < 2 ^ 48 → nat_abs t < 2 ^ 56 → i + length frames ≤ 256 → AreSmall (times_from step t i frames)
small_from step t i [] short small few = tt
small_from step t i (f ∷ fs) short small few =
    let least : i ≤ 255 = omega arith in
    let most : step ≤ 2 ^ 48 = omega arith in
    let apart : i * step ≤ 255 * 2 ^ 48 = mul-le-mul least most in
    let later = abs_later t (i * step) in
    (omega arith, small_from step t (i + 1) fs short small (omega arith))

small_both : (xs ys : List ℤ) → AreSmall xs → AreSmall ys → AreSmall (xs ++ ys)
small_both [] ys a b = b
small_both (x ∷ xs) ys a b = (a.0, small_both xs ys a.1 b)

small_of : (step number : ℕ) (bs : List Block) → step < 2 ^ 48 → AllTimed bs → AreSmall (times_of step number bs)
small_of step number [] short timed = tt
small_of step number (b ∷ bs) short timed =
    small_both (times_for step number b) (times_of step number bs) (by_track (b.track == number)) (small_of step number bs short timed.1)
  where
    by_track : (c : Bool) → AreSmall (cond c (times_from step b.time 0 b.frames) [])
    by_track true = let most = timed.0.most in small_from step b.time 0 b.frames short timed.0.small (omega arith)
    by_track false = tt

pub nothing_changes : OwnTimesChangeNothing
nothing_changes o blocks is all =
    let timed = all_timed blocks all in
    record {
      times = Each (times_of o.step o.track blocks);
      read = ap listing (written o blocks is) ∙ small_read_back (times_of o.step o.track blocks) (small_of o.step o.track blocks is.step timed);
      same = keeps o.step o.track [] blocks timed;
    }
