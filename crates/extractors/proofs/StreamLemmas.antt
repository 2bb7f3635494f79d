-- The frames of an output in the form of a codec.
use Rattle.std.proofs.Common.{◌≡◌, ℕ, ◌+◌, List, [], ◌∷◌, ◌++◌, map, Option, unwrap_or, refl, sym, ◌∙◌, ap, subst}
use Rattle.std.specs.List.{All, filter}
use Rattle.elementary.specs.declared.audio.Aac.{Aac}
use Rattle.elementary.specs.Avc.{annex_b, byte_stream}
use Rattle.elementary.specs.Aac.{IsAac, adts}
use Rattle.elementary.specs.Pgs.{pgs}
use Rattle.elementary.specs.Streams.{written, HasNoStartCode, IsByteStream, with_three, good_units, avc_stream, IsAdts, headed, is_good, IsSup, sup_stream, good_segments}
use Rattle.elementary.proofs.AdtsLemmas.{adts-holds}
use Rattle.elementary.proofs.StreamsLemmas.{stream-holds}
use Rattle.elementary.proofs.SupLemmas.{sup-holds}
use Rattle.block_format.specs.Block.{Block}
use Rattle.extractors.specs.Content.{content_of, entries_from, whole, written_of}
use Rattle.extractors.specs.Frames.{Frame, frames_of}
use Rattle.extractors.specs.Laws.{octets_of_frames, timed_frames}
use Rattle.extractors.specs.declared.frame_form.FrameForm.{FrameForm}
use Rattle.extractors.specs.declared.frame_form.FrameForm.TheVariants as form
use Rattle.extractors.specs.declared.track_output.TrackOutput.{TrackOutput}

-- A form that depends only on a frame's bytes writes each frame by them.
entries-written : (o : TrackOutput) (entry : List ℕ → Option (List ℕ)) (n : ℕ) (frames : List Frame) → ((k : ℕ) (f : Frame) (octets : List ℕ) → written_of o.form k f octets ≡ entry octets) → entries_from o n frames ≡ written entry (map (λ (f : Frame). whole o.prefix f) frames)
entries-written o entry n [] is = refl
entries-written o entry n (f ∷ fs) is =
    ap (λ (w : Option (List ℕ)). unwrap_or w [] ++ entries_from o (n + 1) fs) (is n f (whole o.prefix f))
    ∙ ap (λ (x : List ℕ). unwrap_or (entry (whole o.prefix f)) [] ++ x) (entries-written o entry (n + 1) fs is)

adts-form : (kind : FrameForm) (aac : Aac) (k : ℕ) (f : Frame) (octets : List ℕ) → kind ≡ form.Adts aac → written_of kind k f octets ≡ adts aac octets
adts-form kind aac k f octets is = ap (λ (x : FrameForm). written_of x k f octets) is

annex_b-form : (kind : FrameForm) (w k : ℕ) (f : Frame) (octets : List ℕ) → kind ≡ form.AnnexB w → written_of kind k f octets ≡ annex_b w octets
annex_b-form kind w k f octets is = ap (λ (x : FrameForm). written_of x k f octets) is

pub adts-output : (o : TrackOutput) (aac : Aac) (blocks : List Block) → o.head ≡ [] → o.form ≡ form.Adts aac → IsAac aac → IsAdts (content_of o blocks) (headed aac (filter is_good (octets_of_frames o blocks)))
adts-output o aac blocks head form_is can =
    let frames = frames_of o.step o.track blocks in
    let entries = entries-written o (adts aac) 1 frames (λ k f octets. adts-form o.form aac k f octets form_is) in
    let content : content_of o blocks ≡ written (adts aac) (octets_of_frames o blocks) =
    ap (λ (x : List ℕ). x ++ entries_from o 1 frames) head ∙ entries in
    let P : List ℕ → Type 0 = λ x. IsAdts x (headed aac (filter is_good (octets_of_frames o blocks))) in
    subst P (sym content) (adts-holds aac (octets_of_frames o blocks) can)

pub annex_b-output : (o : TrackOutput) (sets : List (List ℕ)) (w : ℕ) (blocks : List Block) → o.head ≡ byte_stream sets → o.form ≡ form.AnnexB w → All HasNoStartCode (sets ++ good_units w (octets_of_frames o blocks)) → IsByteStream (content_of o blocks) (with_three (sets ++ good_units w (octets_of_frames o blocks)))
annex_b-output o sets w blocks head form_is plain =
    let frames = frames_of o.step o.track blocks in
    let entries = entries-written o (annex_b w) 1 frames (λ k f octets. annex_b-form o.form w k f octets form_is) in
    let content : content_of o blocks ≡ avc_stream sets w (octets_of_frames o blocks) =
    ap (λ (x : List ℕ). x ++ entries_from o 1 frames) head ∙ ap (λ (x : List ℕ). byte_stream sets ++ x) entries in
    let P : List ℕ → Type 0 = λ x. IsByteStream x (with_three (sets ++ good_units w (octets_of_frames o blocks))) in
    subst P (sym content) (stream-holds sets w (octets_of_frames o blocks) plain)

pgs-form : (kind : FrameForm) (k : ℕ) (f : Frame) (octets : List ℕ) → kind ≡ form.Pgs → written_of kind k f octets ≡ pgs f.time octets
pgs-form kind k f octets is = ap (λ (x : FrameForm). written_of x k f octets) is

-- In the form of PGS each frame is written by its time and bytes.
entries-timed : (o : TrackOutput) (n : ℕ) (frames : List Frame) → o.form ≡ form.Pgs → entries_from o n frames ≡ sup_stream (map (λ (f : Frame). (f.time, whole o.prefix f)) frames)
entries-timed o n [] is = refl
entries-timed o n (f ∷ fs) is =
    ap (λ (w : Option (List ℕ)). unwrap_or w [] ++ entries_from o (n + 1) fs) (pgs-form o.form n f (whole o.prefix f) is)
    ∙ ap (λ (x : List ℕ). unwrap_or (pgs f.time (whole o.prefix f)) [] ++ x) (entries-timed o (n + 1) fs is)

pub pgs-output : (o : TrackOutput) (blocks : List Block) → o.head ≡ [] → o.form ≡ form.Pgs → IsSup (content_of o blocks) (good_segments (timed_frames o blocks))
pgs-output o blocks head is =
    let frames = frames_of o.step o.track blocks in
    let content : content_of o blocks ≡ sup_stream (timed_frames o blocks) =
    ap (λ (x : List ℕ). x ++ entries_from o 1 frames) head ∙ entries-timed o 1 frames is in
    subst (λ (x : List ℕ). IsSup x (good_segments (timed_frames o blocks))) (sym content) (sup-holds (timed_frames o blocks))
