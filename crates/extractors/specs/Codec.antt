-- The forms of frames by codec: RFC 9559, section 5.1.4 (Tracks Element), CodecID and CodecPrivate.
use Rattle.std.specs.Prelude.{◌≡◌, ⊤, ℕ, nat_eq, if◌then◌else◌, List, [], ◌∷◌, find, codes, Option, Some, None, Result, Ok, Err, IfOk}
use Rattle.std.specs.List.{starts_with}
use Rattle.std.specs.Option.{option_map, option_map_or}
use Rattle.std.specs.Str.{bytes_eq}
use Rattle.mkv_schema.specs.declared.ids.TheConstants.{CODEC_PRIVATE}
use Rattle.tree_format.specs.Node.{Node, body_of}
use Rattle.tree_format.specs.Values.{first_child}
use Rattle.file_format.specs.Entry.{codec_of}
use Rattle.elementary.specs.declared.configuration.Avc.{Avc}
use Rattle.elementary.specs.declared.audio.Aac.{Aac}
use Rattle.elementary.specs.declared.configuration.ConfigEnd.{ConfigEnd}
use Rattle.elementary.specs.Avc.{AnswersAvc, IsLengthSize, avc_of, byte_stream}
use Rattle.elementary.specs.Hevc.{hevc_of}
use Rattle.elementary.specs.Aac.{IsAac, aac_of}
use Rattle.extractors.specs.declared.frame_form.CodecForm.{CodecForm}
use Rattle.extractors.specs.declared.frame_form.CodecForm.TheVariants as of
use Rattle.extractors.specs.declared.frame_form.Coding.{Coding}
use Rattle.extractors.specs.declared.frame_form.FrameForm.{FrameForm}
use Rattle.extractors.specs.declared.frame_form.FrameForm.TheVariants as form
use Rattle.extractors.specs.declared.frame_form.UnsupportedTrack.{UnsupportedTrack}
use Rattle.extractors.specs.declared.frame_form.UnsupportedTrack.TheVariants.{NoExtractor, BadConfig}
use Rattle.requests.specs.declared.job.Form.{Form}
use Rattle.requests.specs.declared.job.Form.TheVariants as asked

-- the first line of a timestamp file, as `extract FILE timestamps_v2` writes it. Used by `coding_of` and others.
abbrev pub times_head : List ℕ
times_head = codes "# timestamp format v2\n"

-- ---- the codecs

-- The CodecIDs of the codecs that `extract` writes in a form of their own, each with this form. Another codec is refused (NoExtractor). Used by
-- `codec_form`.
abbrev pub codecs : List (List ℕ × CodecForm)
codecs =
    (codes "S_TEXT/UTF8", of.SubRip) ∷
    (codes "V_MPEG4/ISO/AVC", of.H264) ∷
    (codes "V_MPEGH/ISO/HEVC", of.H265) ∷
    (codes "A_AAC", of.Aac) ∷
    (codes "A_FLAC", of.Flac) ∷
    (codes "S_HDMV/PGS", of.Pgs) ∷
    (codes "A_AC3", of.Joined) ∷
    (codes "A_EAC3", of.Joined) ∷
    (codes "A_DTS", of.Joined) ∷
    (codes "A_TRUEHD", of.Joined) ∷
    (codes "A_MLP", of.Joined) ∷
    (codes "A_MPEG/L1", of.Joined) ∷
    (codes "A_MPEG/L2", of.Joined) ∷
    (codes "A_MPEG/L3", of.Joined) ∷
    (codes "V_MPEG1", of.Joined) ∷
    (codes "V_MPEG2", of.Joined) ∷ []

-- the form of the codec with the CodecID `codec`, if `codecs` has it; the comparison is exact. Used by `codec_coding`.
abbrev pub codec_form : List ℕ → Option CodecForm
codec_form codec = option_map (λ (row : List ℕ × CodecForm). row.1) (find (λ (row : List ℕ × CodecForm). bytes_eq codec row.0) codecs)

-- the coding with the frames in the form `kind` and no bytes before them. Used by `form_coding` and `aac_coding`.
abbrev pub bare : FrameForm → Coding
bare kind = record { head = []; form = kind }

-- the coding in which `extract` writes an H.264 or H.265 track, given the configuration in its CodecPrivate. Its parameter sets come first, and then
-- the units of each frame, each after a start code. Without a valid configuration (None) the track is refused (BadConfig). Used by `GivesCoding` and
-- `form_coding`.
abbrev pub stream_coding : Option Avc → Result Coding UnsupportedTrack
stream_coding None = Err BadConfig
stream_coding (Some avc) = Ok (record { head = byte_stream avc.sets; form = form.AnnexB avc.length_size })

-- `result` is the coding of a track whose configuration was read as `read`, if there is memory: whatever configuration the CodecPrivate has, if
-- `read` is the result of reading it. It is the contract of `stream_coding`.
abbrev pub GivesCoding : {E : Type 0} → Result Avc ConfigEnd → Result (Result Coding UnsupportedTrack) E → Type 0
GivesCoding read result = (config : Option Avc) → AnswersAvc config read → IfOk result (λ coding. coding ≡ stream_coding config)

-- the coding in which `extract` writes an AAC track, given the configuration in its CodecPrivate: each frame after an ADTS header. The track is
-- refused (BadConfig) without a configuration that such a header can express (None).
abbrev pub aac_coding : Option Aac → Result Coding UnsupportedTrack
aac_coding None = Err BadConfig
aac_coding (Some aac) = Ok (bare (form.Adts aac))

-- the first bytes of a FLAC stream, which the CodecPrivate of a FLAC track has (RFC 9639, section 6, Format Layout Overview). Used by `flac_coding`.
abbrev pub flac_mark : List ℕ
flac_mark = codes "fLaC"

-- the coding in which `extract` writes a FLAC track with the CodecPrivate `private`: the CodecPrivate, and then the frames as they are. Without its
-- mark the track is refused (BadConfig).
abbrev pub flac_coding : List ℕ → Result Coding UnsupportedTrack
flac_coding private = if starts_with nat_eq private flac_mark then Ok (record { head = private; form = form.Plain }) else Err BadConfig

-- the coding in which `extract` writes a track with the CodecPrivate `private` in the form of its codec, the second argument, or BadConfig. Used by
-- `codec_coding`.
abbrev pub form_coding : List ℕ → CodecForm → Result Coding UnsupportedTrack
form_coding private of.SubRip = Ok (bare form.SubRip)
form_coding private of.H264 = stream_coding (avc_of private)
form_coding private of.H265 = stream_coding (hevc_of private)
form_coding private of.Aac = aac_coding (aac_of private)
form_coding private of.Flac = flac_coding private
form_coding private of.Joined = Ok (bare form.Plain)
form_coding private of.Pgs = Ok (bare form.Pgs)

-- the coding in which `extract` writes a track in the form of its codec, by its CodecID `codec` and CodecPrivate `private`, or the reason why it has
-- none. Used by `coding_of`.
abbrev pub codec_coding : List ℕ → List ℕ → Result Coding UnsupportedTrack
codec_coding codec private = option_map_or (form_coding private) (codec_form codec) (Err NoExtractor)

-- the CodecPrivate of the TrackEntry `entry`, or no bytes if it is absent; for the coding of its track. Used by `coding_of`.
abbrev pub private_of : Node → List ℕ
private_of entry = option_map_or body_of (first_child CODEC_PRIVATE entry) []

-- the coding of the track with the TrackEntry `entry` in the given form, which the command line of `extract` asks for. It has the bytes before the
-- first frame and the form of each frame. The error is the reason why the track can't be written so.
abbrev pub coding_of : Form → Node → Result Coding UnsupportedTrack
coding_of asked.Raw entry = Ok (bare form.Plain)
coding_of asked.Full entry = Ok (record { head = private_of entry; form = form.Plain })
coding_of asked.ByCodec entry = codec_coding (codec_of entry) (private_of entry)
coding_of asked.Times entry = Ok (record { head = times_head; form = form.Time })

-- Frames can be written in the given form: its length size of H.264 or H.265 is valid, or an ADTS header can express its configuration of AAC. The
-- other forms have no parameters. `give_frame` and the other writers of frames require it.
abbrev pub CanWrite : FrameForm → Type 0
CanWrite form.Plain = ⊤
CanWrite form.SubRip = ⊤
CanWrite (form.AnnexB w) = IsLengthSize w
CanWrite (form.Adts aac) = IsAac aac
CanWrite form.Pgs = ⊤
CanWrite form.Time = ⊤
