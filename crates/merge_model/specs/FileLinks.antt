-- The sources of output tracks by the contents of their files.
use Rattle.std.specs.Prelude.{◌≡◌, ◌<◌, ◌≤◌, ◌^◌, ⊤, ℕ, ℤ, nat_abs, true, List, [], length, map, Option, Some}
use Rattle.std.specs.List.{All}
use Rattle.std.specs.Option.{option_map, unwrap_or}
use Rattle.mkv_io.specs.LiveFiles.{LiveFiles, IsSameFile}
use Rattle.block_format.specs.declared.limits.TheConstants.{TOO_LARGE_TIME}
use Rattle.block_format.specs.Elements.{with_limits}
use Rattle.block_format.specs.Events.{Event, events_of}
use Rattle.mkv_io.specs.declared.entry.Entry.{Entry}
use Rattle.output_model.specs.declared.TheConstants.{MAX_PREFIX_LEN}
use Rattle.output_model.specs.OutputBlock.{OutputBlock}
use Rattle.ext_times.specs.Listing.{Listing}
use Rattle.merge_model.specs.Lanes.{lane_blocks}
use Rattle.merge_model.specs.Links.{Given, Placing, going_on, text_given, track_given}
use Rattle.merge_model.specs.Timed.{timed}
use Rattle.merge_model.specs.declared.limits.TheConstants.{MAX_SHIFT, TOO_LARGE_DELAY}
use Rattle.merge_model.specs.declared.link.Link.{Link}
use Rattle.merge_model.specs.declared.link.Link.TheVariants.{Track, Entries}
use Rattle.merge_model.specs.declared.link.TrackLink.{TrackLink}
use Rattle.merge_model.specs.declared.link.TextLink.{TextLink}

-- ---- the blocks of a link

-- the content of the live file number `file` among `f`, or no bytes if it isn't visible to the proof. The definitions of a merge's sources read files
-- by it.
abbrev pub octets_in : LiveFiles → ℕ → List ℕ
octets_in f file = unwrap_or (f.content file) []

-- the placing in the output of the blocks of the link `t`: delay and append offset in nanoseconds, default duration and prefix of frames. Used by
-- `track_with` and others.
abbrev pub placing_of : TrackLink → Placing
placing_of t = record { delay = t.delay; shift = t.shift; default_duration = t.default_duration; prefix = t.prefix }

-- the timestamp file whose times replace those in the track of the link `t`, or None if there is none; for `track_with`
abbrev pub listing_of : TrackLink → Option Listing
listing_of t = option_map (λ times. times.value) t.times

-- the source `g`, with timestamps from the timestamp file `times` instead of its own, if there is one. `k` frames of the track precede the blocks of
-- `g`. Used by `track_with` and others.
abbrev pub timed_given : Option Listing → ℕ → Given → Given
timed_given times k g = record g { blocks = timed times k g.blocks }

-- the source that the link `t` to a track of a Matroska file is for its output track, if the events of its file (blocks and damage) are `events`; for
-- `given_by` and `given_in`
abbrev pub track_with : TrackLink → List Event → Given
track_with t events = going_on t.goes_on (timed_given (listing_of t) 0 (track_given (placing_of t) t.number events))

-- the blocks and damage of the file of the link `t`, in the order of the file, by the contents of the live files `f`; for `stops_any` and `given_in`
abbrev pub track_events : LiveFiles → TrackLink → List Event
track_events f t = events_of (with_limits t.scale) (octets_in f t.file.n) t.outline.value.segment

-- the source that the link `e` to a SubRip text is for its output track, if its subtitles are `entries`; for `given_in`
abbrev pub text_with : TextLink → List Entry → Given
text_with e entries = text_given e.delay e.shift entries

-- the source of an output track that the given link is, by the contents of the live files `f`: its blocks and the damage of its file. Used by
-- `lanes_over` and others.
abbrev pub given_in : LiveFiles → Link → Given
given_in f (Track t) = track_with t (track_events f t)
given_in f (Entries e) = text_with e e.entries

-- the blocks of output tracks in an output with `scale` nanoseconds per tick, by the contents of the live files `f`. `specs` has the links of each
-- output track. The definition of a merge's output begins with it.
abbrev pub lanes_over : LiveFiles → ℕ → List (List Link) → List (List OutputBlock)
lanes_over f scale specs = map (λ links. lane_blocks scale (map (given_in f) links)) specs

-- ---- the files

-- The file of the link `t` is live among `f`, and has the length of its outline. A tick of it has at least one nanosecond. `merge` needs it before it
-- reads the blocks of `t`.
pub record IsOpenTrack (f : LiveFiles) (t : TrackLink) : Type 0 where
  pub live : f.live t.file.n ≡ true
  pub size : f.size t.file.n ≡ t.outline.value.total
  pub scale : 1 ≤ t.scale

-- The file of the given link is live among `f`, and has the length of its outline; a text needs no file. `merge` needs it before it reads the link's
-- blocks.
abbrev pub IsOpenLink : LiveFiles → Link → Type 0
IsOpenLink f (Track t) = IsOpenTrack f t
IsOpenLink f (Entries e) = ⊤

-- The content of the given link's file among `f` is visible to the proof; a text needs no file. The contracts of `merge` describe the blocks of an
-- output track only if its links are so.
abbrev pub IsToldLink : LiveFiles → Link → Type 0
IsToldLink f (Track t) = f.content t.file.n ≡ Some (octets_in f t.file.n)
IsToldLink f (Entries e) = ⊤

-- The given link's file has the same length and content in the live files `new` as in `old`; a text needs no file. So what `merge` reads later is
-- what it planned with.
abbrev pub KeepsLink : LiveFiles → LiveFiles → Link → Type 0
KeepsLink old new (Track t) = IsSameFile old new t.file.n
KeepsLink old new (Entries e) = ⊤

-- ---- limits

-- The delay `delay` and the append offset `shift` of a link, both in nanoseconds, are within their limits, so that its times in the output fit in 64
-- bits.
pub record CanMove (delay : ℤ) (shift : ℕ) : Type 0 where
  pub near : nat_abs delay < TOO_LARGE_DELAY
  pub within : shift ≤ MAX_SHIFT

-- The start and the duration of the subtitle `e` of a SubRip text are below 2^56 nanoseconds, and its text has at most 16 MiB. `merge` requires it of
-- each subtitle that it writes.
pub record IsSmallEntry (e : Entry) : Type 0 where
  pub start : e.start < TOO_LARGE_TIME
  pub duration : e.duration < TOO_LARGE_TIME
  pub text : length e.text ≤ 2 ^ 24

-- The delay, the append offset and the prefix of the link `t` to a track are within their limits. `merge` requires it before it places the track's
-- blocks.
pub record IsSmallTrack (t : TrackLink) : Type 0 where
  pub moves : CanMove t.delay t.shift
  pub prefix : length t.prefix ≤ MAX_PREFIX_LEN

-- The link `e` to a SubRip text has at most 2^24 subtitles, each within its limits. Its delay and append offset are within theirs. `merge` requires
-- it of each text.
pub record IsSmallText (e : TextLink) : Type 0 where
  pub moves : CanMove e.delay e.shift
  pub few : length e.entries ≤ 2 ^ 24
  pub entries : All IsSmallEntry e.entries

-- The delay, the append offset and the other parts of the given link are within the limits of an output track's sources. `merge` requires it of each
-- link.
abbrev pub IsSmallLink : Link → Type 0
IsSmallLink (Track t) = IsSmallTrack t
IsSmallLink (Entries e) = IsSmallText e
