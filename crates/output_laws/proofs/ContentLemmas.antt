-- The bytes of a written block are read as its content.
use Rattle.std.proofs.Common.{◌≡◌, ℕ, ◌+◌, ◌-◌, ◌^◌, ◌<◌, ◌≤◌, ◌==◌, nat_le, nat_lt, Bool, true, false, ◌||◌, if◌then◌else◌, ℤ, pos, negsuc, List, [], ◌∷◌, ◌++◌, length, map, take, drop, slice_index, append-nil, append_assoc, Result, Ok, Err, refl, ap, ap₂, ◌∙◌, arith}
use Rattle.std.specs.List.{concat}
use Rattle.std.proofs.Math.Seq.{take-append_seam, drop-append_seam}
use Rattle.std.proofs.lemmas.Bool.{cond-false, ne_eqb, le-ltb, lt-ltb, and_parts}
use Rattle.std.proofs.lemmas.Bool.Decides.{nat_tests}
use Rattle.std.proofs.lemmas.Int.{ints}
use Rattle.std.specs.Prelude.{◌-ℤ◌, ◌+ℤ◌}
use Rattle.ebml_numbers.specs.Number.{width, vint_data, int_of, int_fits, int_octets_in}
use Rattle.ebml_numbers.proofs.WidthLemmas.{width-of}
use Rattle.ebml_numbers.proofs.SpelledLemmas.{int_of-octets_in}
use Rattle.mkv_io.specs.declared.damage.Kind.{Kind}
use Rattle.mkv_io.specs.declared.damage.Kind.TheVariants.{ShortBlock}
use Rattle.lacing.specs.declared.kind.Lace.{Lace}
use Rattle.lacing.specs.declared.kind.Lace.TheVariants as lace
use Rattle.lacing.specs.Reading.{lace_in}
use Rattle.lacing.specs.Writing.{lace_head, CanLace}
use Rattle.lacing.proofs.WritingLemmas.{lace_in-octets}
use Rattle.block_format.specs.Content.{Content, frames_cut, frames_behind, laced_frames, frames_in, lace_of, content_in}
use Rattle.output_model.specs.OutputBlock.{OutputBlock}
use Rattle.output_model.specs.Block.{count_and_head, frame_octets, block_flags, simple_block_flags, flags_of, relative_to, block_octets}
use Rattle.output_model.specs.Cluster.{is_near}
use Rattle.output_model.specs.Sound.{IsSoundIn}
use Rattle.output_laws.proofs.FlagLemmas.{block_flags-read, simple_block_flags-read}
pub use Rattle.lemmas.proofs.PlainLemmas.{length-concat}

-- ---- the frames

-- Joined frames are cut by their sizes.
frames_cut-concat : (frames : List (List ℕ)) → frames_cut (map length frames) (concat frames) ≡ frames
frames_cut-concat [] = refl
frames_cut-concat (frame ∷ frames) =
    ap₂ (λ f fs. f ∷ fs) (take-append_seam frame (concat frames))
    (ap (frames_cut (map length frames)) (drop-append_seam frame (concat frames)) ∙ frames_cut-concat frames)

-- Frames after the head of their lace are cut, too.
laced-read : (kind : Lace) (frames : List (List ℕ)) → CanLace kind (map length frames) → laced_frames kind (count_and_head kind (map length frames) ++ concat frames) ≡ Ok frames
laced-read kind frames can =
    let sizes : List ℕ = map length frames in
    let some = can.some in
    let count : length sizes - 1 + 1 ≡ length sizes = omega arith in
    let octets : List ℕ = lace_head kind sizes ++ concat frames in
    ap (λ n. frames_behind octets (lace_in kind n octets)) count
    ∙ ap (frames_behind octets) (lace_in-octets kind sizes (concat frames) can (length-concat frames))
    ∙ ap (λ o. Ok (frames_cut sizes o)) (drop-append_seam (lace_head kind sizes) (concat frames))
    ∙ ap (λ fs. Ok fs) (frames_cut-concat frames)

-- Without lacing the bytes are one frame.
alone-read : (frames : List (List ℕ)) → length (map length frames) ≡ 1 → concat frames ∷ [] ≡ frames
alone-read [] one = absurd (omega arith)
alone-read (frame ∷ []) one = ap (λ f. f ∷ []) (append-nil frame)
alone-read (frame ∷ (next ∷ frames)) one = absurd (omega arith)

frames-read : (kind : Lace) (frames : List (List ℕ)) → CanLace kind (map length frames) → frames_in kind (frame_octets kind frames) ≡ Ok frames
frames-read lace.None frames can = ap (λ fs. Ok fs) (alone-read frames can.fits)
frames-read lace.Xiph frames can = laced-read lace.Xiph frames can
frames-read lace.Fixed frames can = laced-read lace.Fixed frames can
frames-read lace.Ebml frames can = laced-read lace.Ebml frames can

-- ---- the header

-- A header has a track number of one byte, two bytes of ticks, and the flags; other bytes follow.
header-read : (lane a b flags : ℕ) (behind : List ℕ) (frames : List (List ℕ)) → lane < 128 → frames_in (lace_of flags) behind ≡ Ok frames
    → content_in ((0x80 + lane) ∷ a ∷ b ∷ flags ∷ behind) ≡ Ok (record { track = lane; relative = int_of (a ∷ b ∷ []); flags = flags; frames = frames })
unfolding content_in
header-read lane a b flags rest frames low are =
    let o : List ℕ = (0x80 + lane) ∷ a ∷ b ∷ flags ∷ rest in
    let one : width (0x80 + lane) ≡ 1 = width-of 1 (0x80 + lane) (omega arith) (omega arith) (omega arith) (omega arith) in
    let zero_first : (0x80 + lane == 0) ≡ false = ne_eqb (0x80 + lane) 0 (λ same. absurd (omega arith)) in
    let long : nat_lt (length o) 4 ≡ false = le-ltb _ _ (omega arith) in
    let track : vint_data 1 o ≡ lane = omega arith in
    ap (λ w. if (0x80 + lane == 0) || nat_lt (length o) (w + 3) then Err ShortBlock
    else spelled o w (frames_in (lace_of (slice_index o (w + 2))) (drop (w + 3) o))) one
    ∙ cond-false ((0x80 + lane == 0) || nat_lt (length o) 4) (Err ShortBlock) _ (ap₂ (λ x y. x || y) zero_first long)
    ∙ ap (spelled o 1) are
    ∙ ap (λ t. Ok (record { track = t; relative = int_of (a ∷ b ∷ []); flags = flags; frames = frames })) track
  where
    spelled : List ℕ → ℕ → Result (List (List ℕ)) Kind → Result Content Kind
    spelled o w (Err kind) = Err kind
    spelled o w (Ok fs) = Ok (record { track = vint_data w o; relative = int_of (take 2 (drop w o)); flags = slice_index o (w + 2); frames = fs })

spelled-read : (lane : ℕ) (z : ℤ) (flags : ℕ) (behind : List ℕ) (frames : List (List ℕ)) → lane < 128 → int_fits z 2 ≡ true → frames_in (lace_of flags) behind ≡ Ok frames
    → content_in ((0x80 + lane) ∷ (int_octets_in 2 z ++ flags ∷ behind)) ≡ Ok (record { track = lane; relative = z; flags = flags; frames = frames })
spelled-read lane (pos n) flags rest frames low fits are =
    header-read lane _ _ flags rest frames low are ∙ ap (λ (r : ℤ). Ok (record { track = lane; relative = r; flags = flags; frames = frames })) (int_of-octets_in 2 (pos n) (omega arith) fits)
spelled-read lane (negsuc n) flags rest frames low fits are =
    header-read lane _ _ flags rest frames low are ∙ ap (λ (r : ℤ). Ok (record { track = lane; relative = r; flags = flags; frames = frames })) (int_of-octets_in 2 (negsuc n) (omega arith) fits)

-- ---- the whole

-- The ticks of a near block fit into 16 bits.
near-fits : (tick timestamp : ℕ) → timestamp ≤ tick + 32768 → tick ≤ timestamp + 32767 → int_fits (pos tick -ℤ pos timestamp) 2 ≡ true
near-fits tick timestamp before after = split (pos tick -ℤ pos timestamp) refl
  where
    split : (z : ℤ) → pos tick -ℤ pos timestamp ≡ z → int_fits z 2 ≡ true
    split (pos n) is = lt-ltb n (2 ^ 15) (omega (arith, ints))
    split (negsuc n) is = lt-ltb n (2 ^ 15) (omega (arith, ints))

ticks-fit : (timestamp tick : ℕ) → is_near timestamp tick ≡ true → int_fits (pos tick -ℤ pos timestamp) 2 ≡ true
ticks-fit timestamp tick near =
    let parts = and_parts (nat_le timestamp (tick + 32768)) (nat_le tick (timestamp + 32767)) near in
    let before = parts.0 in
    let after = parts.1 in
    near-fits tick timestamp (grind (arith, nat_tests)) (grind (arith, nat_tests))

-- The flags have the kind of the lacing.
lace-read : (b : OutputBlock) → lace_of (flags_of b) ≡ b.lace
lace-read b = split b.group
  where
    split : (g : Bool) → lace_of (if g then block_flags b else simple_block_flags b) ≡ b.lace
    split true = (block_flags-read b).1
    split false = (simple_block_flags-read b).lace_is

-- the content of a written block
abbrev pub content_of : ℕ → OutputBlock → Content
content_of timestamp b = record { track = b.lane; relative = relative_to timestamp b; flags = flags_of b; frames = b.frames }

-- The body of a SimpleBlock or a Block is read as its block.
pub content-read : (lanes timestamp : ℕ) (b : OutputBlock) → lanes < 128 → IsSoundIn lanes timestamp b → content_in (block_octets timestamp b) ≡ Ok (content_of timestamp b)
content-read lanes timestamp b few is =
    let low = is.lane_most in
    let ticks : List ℕ = int_octets_in 2 (relative_to timestamp b) in
    let data_behind : List ℕ = frame_octets b.lace b.frames in
    ap (λ o. content_in ((0x80 + b.lane) ∷ o)) (append_assoc ticks (flags_of b ∷ []) data_behind)
    ∙ spelled-read b.lane (relative_to timestamp b) (flags_of b) (frame_octets b.lace b.frames) b.frames (omega arith)
    (ticks-fit timestamp b.tick is.near)
    (ap (λ kind. frames_in kind (frame_octets b.lace b.frames)) (lace-read b) ∙ frames-read b.lace b.frames is.sound.frames)

-- The ticks of a block count from its Timestamp, and the Timestamp from zero.
pub ticks-read : (timestamp : ℕ) (b : OutputBlock) → pos timestamp +ℤ relative_to timestamp b ≡ pos b.tick
ticks-read timestamp b = omega (arith, ints)
