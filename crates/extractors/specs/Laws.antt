-- The content of an extracted H.264, H.265, AAC or PGS track, by the codecs' own stream formats.
use Rattle.std.specs.Prelude.{◌≡◌, ℕ, ℤ, List, [], ◌++◌, map, filter, All}
use Rattle.elementary.specs.declared.audio.Aac.{Aac}
use Rattle.elementary.specs.Avc.{byte_stream}
use Rattle.elementary.specs.Aac.{IsAac}
use Rattle.elementary.specs.Streams.{HasNoStartCode, IsByteStream, with_three, good_units, IsAdts, headed, is_good, IsSup, good_segments}
use Rattle.block_format.specs.Block.{Block}
use Rattle.extractors.specs.Content.{content_of, whole}
use Rattle.extractors.specs.Frames.{Frame, frames_of}
use Rattle.extractors.specs.declared.frame_form.FrameForm.TheVariants as form
use Rattle.extractors.specs.declared.track_output.TrackOutput.{TrackOutput}

-- all frames of the track of the output `o` in `blocks`, each with the bytes that header stripping removed from its start; for the law on outputs
abbrev pub octets_of_frames : TrackOutput → List Block → List (List ℕ)
octets_of_frames o blocks = map (λ (f : Frame). whole o.prefix f) (frames_of o.step o.track blocks)

-- all frames of the track of the output `o` in `blocks`, each with its time in nanoseconds, and with the bytes that header stripping removed from its
-- start; for the law on outputs
abbrev pub timed_frames : TrackOutput → List Block → List (ℤ × List ℕ)
timed_frames o blocks = map (λ (f : Frame). (f.time, whole o.prefix f)) (frames_of o.step o.track blocks)

-- Law on `extract`: an output `o` of AAC is a sequence of ADTS headers, each with its frame: exactly the valid frames of its track, in order. An
-- output of H.264 or H.265 is a sequence of start codes, each with its unit: the parameter sets, and the units of the valid frames. This holds if no
-- unit contains a start code. An output of PGS is a sequence of headers, each with its segment: exactly the segments of the valid frames, in order,
-- each with the time of its frame.
pub record OutputsHoldTheGoodFrames : Type 0 where
  pub adts : (o : TrackOutput) (aac : Aac) (blocks : List Block) → o.head ≡ [] → o.form ≡ form.Adts aac → IsAac aac
      → IsAdts (content_of o blocks) (headed aac (filter is_good (octets_of_frames o blocks)))
  pub annex_b : (o : TrackOutput) (sets : List (List ℕ)) (w : ℕ) (blocks : List Block) → o.head ≡ byte_stream sets → o.form ≡ form.AnnexB w
      → All HasNoStartCode (sets ++ good_units w (octets_of_frames o blocks))
      → IsByteStream (content_of o blocks) (with_three (sets ++ good_units w (octets_of_frames o blocks)))
  pub pgs : (o : TrackOutput) (blocks : List Block) → o.head ≡ [] → o.form ≡ form.Pgs
      → IsSup (content_of o blocks) (good_segments (timed_frames o blocks))
