-- The content of outputs, one part after another.
use Rattle.std.proofs.Common.{◌≡◌, ℕ, suc, ◌+◌, List, [], ◌∷◌, ◌++◌, length, Option, Some, unwrap_or, refl, sym, ◌∙◌, ap, arith, append_assoc, append-nil}
use Rattle.std.proofs.lemmas.Grind.{flat_map-append}
use Rattle.block_format.specs.Block.{Block}
use Rattle.mkv_outputs.specs.Outputs.{names_of, with_end}
use Rattle.mkv_outputs.specs.Starts.{AreBegun, IsBegun}
use Rattle.extractors.specs.Content.{content_of, counted, entries_from, entries_of, entry_of, names_in, output_of, outputs_of, whole, written_of}
use Rattle.extractors.specs.declared.frame_form.FrameForm.{FrameForm}
use Rattle.extractors.specs.declared.frame_form.FrameForm.TheVariants as form
use Rattle.text_formats.specs.Writing.{put_srt}
use Rattle.extractors.specs.Frames.{Frame, frames_for, frames_of}
use Rattle.extractors.specs.declared.track_output.TrackOutput.{TrackOutput}

-- The numbers of further frames continue after the first frames.
pub entries_from-behind : (o : TrackOutput) (n : ℕ) (first more : List Frame) → entries_from o n (first ++ more) ≡ entries_from o n first ++ entries_from o (n + length first) more
entries_from-behind o n [] more = ap (λ (k : ℕ). entries_from o k more) (plus_none n)
  where
    plus_none : (k : ℕ) → k ≡ k + 0
    plus_none k = omega arith
entries_from-behind o n (f ∷ fs) more =
    ap (λ (octets : List ℕ). entry_of o n f ++ octets) (entries_from-behind o (n + 1) fs more ∙ ap (λ (k : ℕ). entries_from o (n + 1) fs ++ entries_from o k more) (one_further n (length fs)))
    ∙ sym (append_assoc (entry_of o n f) (entries_from o (n + 1) fs) (entries_from o (n + suc (length fs)) more))
  where
    one_further : (k j : ℕ) → (k + 1) + j ≡ k + suc j
    one_further k j = omega arith

-- The written form depends only on the counted number.
written_of-counted : (kind : FrameForm) (n m : ℕ) (f : Frame) (octets : List ℕ) → counted n ≡ counted m → written_of kind n f octets ≡ written_of kind m f octets
written_of-counted form.Plain n m f octets same = refl
written_of-counted form.SubRip n m f octets same = ap (λ (k : ℕ). Some (put_srt k f.time f.duration octets)) same
written_of-counted (form.AnnexB w) n m f octets same = refl
written_of-counted (form.Adts aac) n m f octets same = refl
written_of-counted form.Pgs n m f octets same = refl
written_of-counted form.Time n m f octets same = refl

pub entry_of-counted : (o : TrackOutput) (n m : ℕ) (f : Frame) → counted n ≡ counted m → entry_of o n f ≡ entry_of o m f
entry_of-counted o n m f same = ap (λ (w : Option (List ℕ)). unwrap_or w []) (written_of-counted o.form n m f (whole o.prefix f) same)

counted-next : (n m : ℕ) → counted n ≡ counted m → counted (n + 1) ≡ counted (m + 1)
counted-next n m same = omega (arith, same)

pub entries_from-counted : (o : TrackOutput) (n m : ℕ) (frames : List Frame) → counted n ≡ counted m → entries_from o n frames ≡ entries_from o m frames
entries_from-counted o n m [] same = refl
entries_from-counted o n m (f ∷ fs) same =
    ap (λ (octets : List ℕ). octets ++ entries_from o (n + 1) fs) (entry_of-counted o n m f same)
    ∙ ap (λ (octets : List ℕ). entry_of o m f ++ octets) (entries_from-counted o (n + 1) (m + 1) fs (counted-next n m same))

-- The content of blocks and of further blocks.
pub content_of-behind : (o : TrackOutput) (blocks more : List Block) → content_of o (blocks ++ more) ≡ content_of o blocks ++ entries_from o (1 + length (frames_of o.step o.track blocks)) (frames_of o.step o.track more)
content_of-behind o blocks more =
    ap (λ (frames : List Frame). o.head ++ entries_of o frames) (flat_map-append (λ (b : Block). frames_for o.step o.track b) blocks more)
    ∙ ap (λ (octets : List ℕ). o.head ++ octets) (entries_from-behind o 1 (frames_of o.step o.track blocks) (frames_of o.step o.track more))
    ∙ sym (append_assoc (o.head) (entries_of o (frames_of o.step o.track blocks)) (entries_from o (1 + length (frames_of o.step o.track blocks)) (frames_of o.step o.track more)))

-- A further block is added to an output whose next frame has this number.
pub output_of-more : (o : TrackOutput) (blocks : List Block) (b : Block) (n : ℕ) → n ≡ counted (1 + length (frames_of o.step o.track blocks)) → with_end (entries_from o n (frames_for o.step o.track b)) (output_of o blocks) ≡ output_of o (blocks ++ b ∷ [])
output_of-more o blocks b n is =
    ap (λ (content : List ℕ). record { name = o.name; content = content })
    (ap (λ (octets : List ℕ). content_of o blocks ++ octets)
    (entries_from-counted o n (1 + length (frames_of o.step o.track blocks)) (frames_for o.step o.track b) (stands (1 + length (frames_of o.step o.track blocks)) is)
    ∙ ap (entries_from o (1 + length (frames_of o.step o.track blocks))) (sym (append-nil (frames_for o.step o.track b))))
    ∙ sym (content_of-behind o blocks (b ∷ [])))
  where
    stands : (m : ℕ) → n ≡ counted m → counted n ≡ counted m
    stands m same = omega (arith, same)

-- An output of some blocks is a first part of the output with more blocks.
pub output_of-begun : (o : TrackOutput) (blocks more : List Block) → IsBegun (output_of o blocks) (output_of o (blocks ++ more))
output_of-begun o blocks more = record {
  name = refl;
  content = record { rest = entries_from o (1 + length (frames_of o.step o.track blocks)) (frames_of o.step o.track more); whole = content_of-behind o blocks more };
}

pub outputs_of-begun : (list : List TrackOutput) (blocks more : List Block) → AreBegun (outputs_of list blocks) (outputs_of list (blocks ++ more))
outputs_of-begun [] blocks more = tt
outputs_of-begun (o ∷ os) blocks more = (output_of-begun o blocks more, outputs_of-begun os blocks more)

-- Outputs keep their names.
pub names_of-outputs : (list : List TrackOutput) (blocks : List Block) → names_of (outputs_of list blocks) ≡ names_in list
names_of-outputs [] blocks = refl
names_of-outputs (o ∷ os) blocks = ap (λ (names : List (List ℕ)). o.name ∷ names) (names_of-outputs os blocks)

-- Without blocks an output has the bytes before the first frame.
pub output_of-none : (o : TrackOutput) → output_of o [] ≡ with_end (o.head) (record { name = o.name; content = [] })
output_of-none o = ap (λ (content : List ℕ). record { name = o.name; content = content }) (append-nil (o.head))
