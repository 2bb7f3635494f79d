-- Examples of `extract` on small frames and records.
use Rattle.std.specs.Prelude.{◌≡◌, ℕ, ℤ, pos, negsuc, false, true, List, [], ◌∷◌, ◌++◌, map, replicate, codes}
use Rattle.std.specs.Prelude.{Option, None, Some, Ok, Err}
use Rattle.tree_format.specs.Node.{Node, leaf, master, nodes_of}
use Rattle.lacing.specs.declared.kind.Lace.TheVariants as lace
use Rattle.mkv_io.specs.declared.damage.Kind.TheVariants.{BadFrame}
use Rattle.block_format.specs.Block.{Block}
use Rattle.elementary.specs.declared.audio.Aac.{Aac}
use Rattle.extractors.specs.declared.frame_form.FrameForm.{FrameForm}
use Rattle.extractors.specs.declared.frame_form.FrameForm.TheVariants as form
use Rattle.extractors.specs.declared.frame_form.UnsupportedTrack.TheVariants.{NoExtractor, BadConfig}
use Rattle.extractors.specs.declared.track_output.TrackOutput.{TrackOutput}
use Rattle.extractors.specs.BadFrames.{bad_frames}
use Rattle.extractors.specs.Chapters.{chapters_text}
use Rattle.extractors.specs.Codec.{codec_coding, times_head}
use Rattle.extractors.specs.Content.{content_of, written_of}
use Rattle.extractors.specs.Frames.{Frame}
use Rattle.extractors.specs.Lines.{cue_lines}
use Rattle.extractors.specs.Times.{time_line}

-- ---- blocks and outputs

-- a SimpleBlock of the track with the TrackNumber `track` at `time` nanoseconds, with the frames `frames`, at byte 60 of its file, for the examples
-- of `extract`
abbrev pub block : ℕ → ℤ → List (List ℕ) → Block
block track time frames = record {
  track = track;
  time = time;
  key = true;
  invisible = false;
  discardable = false;
  group = false;
  lace = lace.Xiph;
  frames = frames;
  duration = None;
  references = [];
  kept = [];
  offset = 60;
}

-- an output of the track with the TrackNumber 1 in the form `kind`, for the examples of `extract`. `step` is the DefaultDuration in nanoseconds,
-- `head` the bytes before the first frame, and `prefix` the bytes before each frame.
abbrev pub output : FrameForm → ℕ → List ℕ → List ℕ → TrackOutput
output kind step head prefix =
    record { name = codes "r"; track = 1; step = step; head = head; prefix = prefix; form = kind }

-- two blocks of track 1 with one frame each, at 0 and 20 ms, and a block of track 2 between them, for the examples of `extract`
abbrev pub two_blocks : List Block
two_blocks =
    block 1 (pos 0) ((0xAA ∷ []) ∷ []) ∷ block 2 (pos 0) ((0xCC ∷ []) ∷ []) ∷
    block 1 (pos 20000000) ((0xBB ∷ []) ∷ []) ∷ []

-- one block of track 1 at 0 ms with a lace of two frames, for the examples of `extract`
abbrev pub lace_of_two : List Block
lace_of_two = block 1 (pos 0) ((0xAA ∷ []) ∷ (0xBB ∷ 0xCC ∷ []) ∷ []) ∷ []

-- ---- timestamps and bytes

-- Examples of timestamps and frames as `extract` writes them.
pub record AreTimes : Type 0 where
  -- Whole milliseconds are written as they are, others with a point and six digits, and a time before 0 with its sign.
  pub zero : time_line (pos 0) ≡ codes "0\n"
  pub part : time_line (pos 333333) ≡ codes "0.333333\n"
  pub short_part : time_line (pos 33000500) ≡ codes "33.000500\n"
  pub negative : time_line (negsuc 9999999) ≡ codes "-10\n"
  pub least : time_line (negsuc 0) ≡ codes "-0.000001\n"
  -- There is a line for each frame of the track; frames of a lace are a DefaultDuration apart.
  pub blocks : content_of (output form.Time 0 times_head []) two_blocks ≡ codes "# timestamp format v2\n0\n20\n"
  pub frames : content_of (output form.Time 333333 times_head []) lace_of_two
      ≡ codes "# timestamp format v2\n0\n0.333333\n"
  pub none : content_of (output form.Time 0 times_head []) [] ≡ codes "# timestamp format v2\n"
  -- Frames follow each other, each after the bytes that header stripping removed from it.
  pub raw : content_of (output form.Plain 0 [] []) two_blocks ≡ 0xAA ∷ 0xBB ∷ []
  pub prefixed : content_of (output form.Plain 0 [] (0x0B ∷ 0x77 ∷ [])) lace_of_two
      ≡ 0x0B ∷ 0x77 ∷ 0xAA ∷ 0x0B ∷ 0x77 ∷ 0xBB ∷ 0xCC ∷ []

-- ---- codecs

-- the CodecPrivate of an H.264 track, with two parameter sets, for the examples of `extract`
abbrev pub avc : List ℕ
avc = 1 ∷ 0x42 ∷ 0 ∷ 0x1E ∷ 0xFF ∷ 0xE1 ∷ 0 ∷ 2 ∷ 0x67 ∷ 0x42 ∷ 1 ∷ 0 ∷ 2 ∷ 0x68 ∷ 0xCE ∷ []

-- a configuration of AAC with two channels of 44,100 Hz, for the examples of `extract`
abbrev pub aac : Aac
aac = record { profile = 1; rate = 4; channels = 2 }

-- the H.264 unit `unit` after a start code, as Annex B has it, for the examples of `extract`
abbrev pub start_code : List ℕ → List ℕ
start_code unit = 0 ∷ 0 ∷ 0 ∷ 1 ∷ unit

-- the parameter sets in `avc`, each after a start code, which are written first, for the examples of `extract`
abbrev pub sets : List ℕ
sets = start_code (0x67 ∷ 0x42 ∷ []) ++ start_code (0x68 ∷ 0xCE ∷ [])

-- an H.264 frame of one unit of three bytes, which states `length` as the unit's length in bytes, for the examples of `extract`
abbrev pub unit_of : ℕ → List ℕ
unit_of length = 0 ∷ 0 ∷ 0 ∷ length ∷ 0x65 ∷ 0x88 ∷ 1 ∷ []

-- the CodecPrivate of an H.265 track: 20 bytes that aren't looked at, lengths of 4 bytes, and an array with one parameter set; for the examples of
-- `extract`
abbrev pub hevc : List ℕ
hevc = 1 ∷ (replicate 20 0 ++ (0xFF ∷ 1 ∷ 0xA0 ∷ 0 ∷ 1 ∷ 0 ∷ 3 ∷ 0x40 ∷ 1 ∷ 0xAA ∷ []))

-- the PGS frame `octets` at 1.001 s, for the examples of `extract`
abbrev pub shown : List ℕ → Frame
shown octets = record { octets = octets; time = pos 1001000000; duration = 0 }

-- the bytes that `extract` writes in the form `kind` for the frame `octets` at time 0, or None for a bad frame; for its examples
abbrev pub written : FrameForm → List ℕ → Option (List ℕ)
written kind octets = written_of kind 1 (record { octets = octets; time = pos 0; duration = 0 }) octets

-- Examples of frames in the forms of their codecs as `extract` writes them.
pub record AreCoded : Type 0 where
  -- The parameter sets of AVC come first, and the length of each unit becomes a start code.
  pub annex_b : codec_coding (codes "V_MPEG4/ISO/AVC") avc ≡ Ok (record { head = sets; form = form.AnnexB 4 })
  pub unit : written (form.AnnexB 4) (unit_of 3) ≡ Some (start_code (0x65 ∷ 0x88 ∷ 1 ∷ []))
  -- A unit that is incomplete or empty makes a frame bad.
  pub long_unit : written (form.AnnexB 4) (unit_of 4) ≡ None
  pub empty_unit : written (form.AnnexB 1) (0 ∷ []) ≡ None
  -- A bad frame is left out, and reported at its block.
  pub left_out : content_of (output (form.AnnexB 4) 0 sets []) (block 1 (pos 0) (unit_of 4 ∷ []) ∷ []) ≡ sets
  pub named : bad_frames (output (form.AnnexB 4) 0 sets [] ∷ []) (block 1 (pos 0) (unit_of 4 ∷ unit_of 3 ∷ []) ∷ [])
      ≡ record { kind = BadFrame; id = 0xA3; offset = 60 } ∷ []
  -- A frame of AAC follows its header.
  pub adts : codec_coding (codes "A_AAC") (0x12 ∷ 0x10 ∷ []) ≡ Ok (record { head = []; form = form.Adts aac })
  pub frame : written (form.Adts aac) (0xAA ∷ 0xBB ∷ 0xCC ∷ [])
      ≡ Some (0xFF ∷ 0xF1 ∷ 0x50 ∷ 0x80 ∷ 1 ∷ 0x5F ∷ 0xFC ∷ 0xAA ∷ 0xBB ∷ 0xCC ∷ [])
  -- The units of H.265 are written in the same way, after the sets of its arrays.
  pub arrays : codec_coding (codes "V_MPEGH/ISO/HEVC") hevc ≡ Ok (record { head = start_code (0x40 ∷ 1 ∷ 0xAA ∷ []); form = form.AnnexB 4 })
  -- Each segment of PGS follows a header with the time of its frame, 90,090 units of 1/90,000 s. A segment that is cut off makes a frame bad.
  pub pgs : codec_coding (codes "S_HDMV/PGS") [] ≡ Ok (record { head = []; form = form.Pgs })
  pub segment : written_of form.Pgs 1 (shown (0x80 ∷ 0 ∷ 0 ∷ [])) (0x80 ∷ 0 ∷ 0 ∷ [])
      ≡ Some (0x50 ∷ 0x47 ∷ 0 ∷ 1 ∷ 0x5F ∷ 0xEA ∷ 0 ∷ 0 ∷ 0 ∷ 0 ∷ 0x80 ∷ 0 ∷ 0 ∷ [])
  pub cut : written form.Pgs (0x80 ∷ 0 ∷ 1 ∷ []) ≡ None
  -- The CodecPrivate of FLAC comes first, and the frames of AC-3 follow each other.
  pub flac : codec_coding (codes "A_FLAC") (codes "fLaC") ≡ Ok (record { head = codes "fLaC"; form = form.Plain })
  pub joined : codec_coding (codes "A_AC3") (0xDD ∷ []) ≡ Ok (record { head = []; form = form.Plain })
  -- H.264, H.265, AAC and FLAC need a configuration; SubRip needs none, and other codecs have no form.
  pub no_avc : codec_coding (codes "V_MPEG4/ISO/AVC") [] ≡ Err BadConfig
  pub no_hevc : codec_coding (codes "V_MPEGH/ISO/HEVC") avc ≡ Err BadConfig
  pub no_flac : codec_coding (codes "A_FLAC") [] ≡ Err BadConfig
  pub no_aac : codec_coding (codes "A_AAC") (0x12 ∷ []) ≡ Err BadConfig
  pub subrip : codec_coding (codes "S_TEXT/UTF8") [] ≡ Ok (record { head = []; form = form.SubRip })
  pub other : codec_coding (codes "A_OPUS") [] ≡ Err NoExtractor
  pub longer : codec_coding (codes "A_AC3/BSID9") [] ≡ Err NoExtractor

-- ---- records

-- a CuePoint with the children `children`, for the examples of `extract`
abbrev pub point : List Node → Node
point children = master 0xBB 0 (nodes_of children)

-- a CueTrackPositions with the children `children`, for the examples of `extract`
abbrev pub place : List Node → Node
place children = master 0xB7 0 (nodes_of children)

-- a Cues with the CuePoints `points`, for the examples of `extract`
abbrev pub cues : List Node → Node
cues points = master 0x1C53BB6B 0 (nodes_of points)

-- a CueTrackPositions of the track with the TrackNumber `track`, with CueClusterPosition 318 and CueRelativePosition 3, for the examples of `extract`
abbrev pub place_of : ℕ → Node
place_of track = place (leaf 0xF7 0 (track ∷ []) ∷ leaf 0xF1 0 (1 ∷ 0x3E ∷ []) ∷ leaf 0xF0 0 (3 ∷ []) ∷ [])

-- a ChapterAtom with the children `children`, for the examples of `extract`
abbrev pub atom : List Node → Node
atom children = master 0xB6 0 (nodes_of children)

-- a ChapterDisplay with the ChapString `text`, for the examples of `extract`
abbrev pub name : List ℕ → Node
name text = master 0x80 0 (nodes_of (leaf 0x85 0 text ∷ []))

-- a Chapters with an EditionEntry for each list of ChapterAtoms in `editions`, for the examples of `extract`
abbrev pub chapters : List (List Node) → Option Node
chapters editions = Some (master 0x1043A770 0 (nodes_of (map (λ atoms. master 0x45B9 0 (nodes_of atoms)) editions)))

-- Examples of cue points and simple chapters as `extract` writes them.
pub record AreWritten : Type 0 where
  -- The time is in nanoseconds, and the positions are unchanged.
  pub cue : cue_lines 1000000 1 (cues (point (leaf 0xB3 0 (0 ∷ []) ∷ place_of 1 ∷ []) ∷ []))
      ≡ codes "timestamp=0 cluster_position=318 relative_position=3\n"
  pub scaled : cue_lines 1000000 1 (cues (point (leaf 0xB3 0 (3 ∷ 0xE8 ∷ []) ∷ place_of 2 ∷ place_of 1 ∷ []) ∷ []))
      ≡ codes "timestamp=1000000000 cluster_position=318 relative_position=3\n"
  -- `-` replaces a missing value; positions of other tracks are skipped.
  pub missing : cue_lines 1000000 1 (cues (point (place (leaf 0xF7 0 (1 ∷ []) ∷ []) ∷ []) ∷ []))
      ≡ codes "timestamp=- cluster_position=- relative_position=-\n"
  pub others : cue_lines 1000000 1 (cues (point (leaf 0xB3 0 (0 ∷ []) ∷ place_of 2 ∷ []) ∷ [])) ≡ []
  -- An atom is two lines, with the time and the name of its first display.
  pub chapter : chapters_text (chapters ((atom (leaf 0x91 0 (0 ∷ []) ∷ name (codes "Intro") ∷ []) ∷ []) ∷ []))
      ≡ codes "CHAPTER01=00:00:00.000\nCHAPTER01NAME=Intro\n"
  -- Only top atoms of the first edition are written. A missing start is 0, and without a display the name is empty.
  pub bare : chapters_text (chapters ((atom (atom [] ∷ []) ∷ []) ∷ (atom [] ∷ []) ∷ []))
      ≡ codes "CHAPTER01=00:00:00.000\nCHAPTER01NAME=\n"
  pub no_edition : chapters_text (chapters []) ≡ []
  pub no_chapters : chapters_text None ≡ []
