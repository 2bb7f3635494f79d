-- The coding of a track can be written, and bad frames are reported block by block.
use Rattle.std.proofs.Common.{◌≡◌, ℕ, ◌+◌, ◌<◌, ◌≤◌, nat_eq, nat_le, length, unwrap_or, arith, length-append, Bool, true, false, if◌then◌else◌, List, [], ◌∷◌, ◌++◌, append-nil, Option, None, Some, Result, Ok, Err, refl, sym, ◌∙◌, ap, subst, is_some}
use Rattle.std.specs.List.{starts_with}
use Rattle.std.specs.Option.{option_map_or}
use Rattle.std.proofs.lemmas.Bool.{cond-true, cond-false}
use Rattle.std.proofs.lemmas.Bool.Decides.{nat_tests}
use Rattle.std.proofs.lemmas.List.Concat.{flat_map-append}
use Rattle.elementary.specs.declared.configuration.Avc.{Avc}
use Rattle.elementary.specs.declared.audio.Aac.{Aac}
use Rattle.elementary.specs.Avc.{IsLengthSize, avc_of}
use Rattle.elementary.specs.Hevc.{hevc_of}
use Rattle.elementary.specs.Aac.{aac_of, adts, adts_header, longest_frame}
use Rattle.elementary.proofs.RecordLemmas.{avc_of-size}
use Rattle.elementary.proofs.HevcLemmas.{hevc_of-size}
use Rattle.elementary.proofs.AudioLemmas.{audio-spelled}
use Rattle.mkv_io.specs.declared.damage.Damage.{Damage}
use Rattle.tree_format.specs.Node.{Node}
use Rattle.file_format.specs.Entry.{codec_of}
use Rattle.block_format.specs.Block.{Block}
use Rattle.extractors.specs.BadFrames.{bad_frames, bad_in}
use Rattle.extractors.specs.Codec.{CanWrite, aac_coding, codec_form, coding_of, flac_coding, flac_mark, form_coding, private_of, stream_coding}
use Rattle.extractors.specs.declared.frame_form.CodecForm.{CodecForm}
use Rattle.extractors.specs.declared.frame_form.CodecForm.TheVariants as of
use Rattle.extractors.specs.declared.frame_form.Coding.{Coding}
use Rattle.extractors.specs.declared.frame_form.FrameForm.TheVariants as form
use Rattle.extractors.specs.declared.frame_form.UnsupportedTrack.{UnsupportedTrack}
use Rattle.extractors.specs.declared.frame_form.UnsupportedTrack.TheVariants.{NoExtractor, BadConfig}
use Rattle.requests.specs.declared.job.Form.{Form}
use Rattle.requests.specs.declared.job.Form.TheVariants as asked
use Rattle.extractors.specs.declared.track_output.TrackOutput.{TrackOutput}

-- Equal codings have the same form.
same-form : (a b : Coding) → ◌≡◌ {A = Result Coding UnsupportedTrack} (Ok a) (Ok b) → CanWrite a.form → CanWrite b.form
same-form a b is can =
    let same : a ≡ b = cc in
    let P : Coding → Type 0 = λ c. CanWrite c.form in
    subst P same can

no-coding : (why : UnsupportedTrack) (b : Coding) → ◌≡◌ {A = Result Coding UnsupportedTrack} (Err why) (Ok b) → ⊥
no-coding why b is = absurd (cc)

-- The stream of units can be written if the length size of the configuration is valid.
stream-can : (config : Option Avc) (coding : Coding) → ((avc : Avc) → config ≡ Some avc → IsLengthSize avc.length_size) → stream_coding config ≡ Ok coding → CanWrite coding.form
stream-can None coding size is = absurd (no-coding BadConfig coding is)
stream-can (Some avc) coding size is = same-form _ coding is (size avc refl)

aac-can : (private : List ℕ) (config : Option Aac) (coding : Coding) → aac_of private ≡ config → aac_coding config ≡ Ok coding → CanWrite coding.form
aac-can private None coding found is = absurd (no-coding BadConfig coding is)
aac-can private (Some aac) coding found is = same-form _ coding is (audio-spelled private aac found).can

flac-can : (private : List ℕ) (coding : Coding) → flac_coding private ≡ Ok coding → CanWrite coding.form
flac-can private coding is = split (starts_with nat_eq private flac_mark) is
  where
    split : (marked : Bool) → (if marked then Ok (record { head = private; form = form.Plain }) else Err BadConfig) ≡ Ok coding → CanWrite coding.form
    split true is = same-form _ coding is tt
    split false is = absurd (no-coding BadConfig coding is)

form-can : (private : List ℕ) (kind : CodecForm) (coding : Coding) → form_coding private kind ≡ Ok coding → CanWrite coding.form
form-can private of.SubRip coding is = same-form _ coding is tt
form-can private of.H264 coding is = stream-can (avc_of private) coding (avc_of-size private) is
form-can private of.H265 coding is = stream-can (hevc_of private) coding (hevc_of-size private) is
form-can private of.Aac coding is = aac-can private (aac_of private) coding refl is
form-can private of.Flac coding is = flac-can private coding is
form-can private of.Joined coding is = same-form _ coding is tt
form-can private of.Pgs coding is = same-form _ coding is tt

codec-can : (private : List ℕ) (kind : Option CodecForm) (coding : Coding) → option_map_or (form_coding private) kind (Err NoExtractor) ≡ Ok coding → CanWrite coding.form
codec-can private None coding is = absurd (no-coding NoExtractor coding is)
codec-can private (Some kind) coding is = form-can private kind coding is

-- The coding of a track can be written.
pub coding_of-can : (kind : Form) (entry : Node) (coding : Coding) → coding_of kind entry ≡ Ok coding → CanWrite coding.form
coding_of-can asked.Raw entry coding is = same-form _ coding is tt
coding_of-can asked.Full entry coding is = same-form _ coding is tt
coding_of-can asked.ByCodec entry coding is = codec-can (private_of entry) (codec_form (codec_of entry)) coding is
coding_of-can asked.Times entry coding is = same-form _ coding is tt

-- A frame that isn't too long is written after its header.
pub adts-good : (aac : Aac) (prefix octets : List ℕ) (n : ℕ) → n ≡ length prefix + length octets → n ≤ longest_frame → unwrap_or (adts aac (prefix ++ octets)) [] ≡ adts_header aac (7 + n) ++ (prefix ++ octets)
adts-good aac prefix octets n is few =
    let long : length (prefix ++ octets) ≡ n = length-append prefix octets ∙ sym is in
    let test : nat_le (length (prefix ++ octets)) longest_frame ≡ true = grind (arith, nat_tests, long, few) in
    ap (λ (written : Option (List ℕ)). unwrap_or written []) (cond-true (nat_le (length (prefix ++ octets)) longest_frame) _ _ test)
    ∙ ap (λ (k : ℕ). adts_header aac (7 + k) ++ (prefix ++ octets)) long

-- A frame that is too long writes nothing.
pub adts-bad : (aac : Aac) (prefix octets : List ℕ) → longest_frame < length prefix + length octets → unwrap_or (adts aac (prefix ++ octets)) [] ≡ []
adts-bad aac prefix octets long =
    let len = length-append prefix octets in
    let test : nat_le (length (prefix ++ octets)) longest_frame ≡ false = grind (arith, nat_tests, len, long) in
    ap (λ (written : Option (List ℕ)). unwrap_or written []) (cond-false (nat_le (length (prefix ++ octets)) longest_frame) _ _ test)

-- The bad frames of a further block come after the others.
pub bad_frames-more : (list : List TrackOutput) (blocks : List Block) (b : Block) → bad_frames list (blocks ++ b ∷ []) ≡ bad_frames list blocks ++ bad_in list b
bad_frames-more list blocks b =
    flat_map-append (bad_in list) blocks (b ∷ []) ∙ ap (λ (x : List Damage). bad_frames list blocks ++ x) (append-nil (bad_in list b))

-- A frame has a written form exactly if it isn't too long.
pub adts-some : (aac : Aac) (prefix octets : List ℕ) (n : ℕ) → n ≡ length prefix + length octets → n ≤ longest_frame → is_some (adts aac (prefix ++ octets)) ≡ true
adts-some aac prefix octets n is few =
    let long : length (prefix ++ octets) ≡ n = length-append prefix octets ∙ sym is in
    let test : nat_le (length (prefix ++ octets)) longest_frame ≡ true = grind (arith, nat_tests, long, few) in
    ap (λ (written : Option (List ℕ)). is_some written) (cond-true (nat_le (length (prefix ++ octets)) longest_frame) _ _ test)

pub adts-none : (aac : Aac) (prefix octets : List ℕ) → longest_frame < length prefix + length octets → is_some (adts aac (prefix ++ octets)) ≡ false
adts-none aac prefix octets long =
    let len = length-append prefix octets in
    let test : nat_le (length (prefix ++ octets)) longest_frame ≡ false = grind (arith, nat_tests, len, long) in
    ap (λ (written : Option (List ℕ)). is_some written) (cond-false (nat_le (length (prefix ++ octets)) longest_frame) _ _ test)
