-- The sources of a merge, as far as they can be written: RFC 9559, section 5.1.4 (Tracks Element).
use Rattle.std.specs.Prelude.{◌≡◌, ◌<◌, ◌≤◌, ◌^◌, ◌==◌, ◌||◌, ⊤, ℕ, Bool, true, List, Option, None, Some, All, IfSome}
use Rattle.std.specs.Str.{IsUtf8}
use Rattle.ebml_numbers.specs.Number.{AreOctets}
use Rattle.tree_format.specs.Text.{HasNoZero}
use Rattle.merge_model.specs.declared.limits.TheConstants.{MAX_SHIFT}
use Rattle.text_formats.specs.Reading.{IsEntryWithin}
use Rattle.input_files.specs.declared.limits.TheConstants.{MAX_SRT_LEN}
use Rattle.requests.specs.declared.merge.MergeWords.{MergeWords}
use Rattle.merge_inputs.specs.Input.{BlocksRead, Clusters, Entries}
use Rattle.merge_inputs.specs.Taken.{IsTaken}
use Rattle.merge_inputs.specs.declared.taken.TakenTrack.{TakenTrack}
use Rattle.mkv_schema.specs.declared.track_type.TheConstants.{AUDIO_TRACK, SUBTITLE_TRACK, VIDEO_TRACK}
use Rattle.merge_plan.specs.Front.{reads_of}
use Rattle.merge_plan.specs.Plan.{Source, append_offset}
use Rattle.merge_plan.specs.Refusal.{plan_refusal}

-- All contents of the files `world` are lists of bytes. It is the condition of the promises on a merge, since a content is only a list of numbers.
-- Used by `SourcesAreRead`, `HasMerged` and others.
abbrev pub HoldsOctets : (List ℕ → Option (List ℕ)) → Type 0
HoldsOctets world = (name bytes : List ℕ) → world name ≡ Some bytes → AreOctets bytes

-- ---- results of reading

-- A merge can select tracks of the TrackType `type`: video, audio or subtitles. Required of each selected track, and of each output that is merged
-- again. Used by `IsReadTrack`.
abbrev pub is_taken_type : ℕ → Bool
is_taken_type type = type == VIDEO_TRACK || type == AUDIO_TRACK || type == SUBTITLE_TRACK

-- The TrackEntry of the selected track `t` of an input can be written. Its TrackType is one that a merge can select, its TrackUID has 64 bits, and
-- name and language in the options are UTF-8. `IsReadSource` requires it of each track.
pub record IsReadTrack (t : TakenTrack) : Type 0 where
  pub taken : IsTaken t
  pub kind : is_taken_type t.track.kind ≡ true
  pub uid : t.track.uid < 2 ^ 64
  pub name : IfSome t.name IsUtf8
  pub language : IfSome t.language IsUtf8
  pub language_tag : IfSome t.language_tag IsUtf8

-- Each subtitle of a SubRip text ends within 10,000 hours, and has at most as many bytes as a text file may have. The argument is what a merge reads
-- of an input; one with Clusters has no such limit. `IsReadSource` requires it.
abbrev pub HasEntriesWithin : BlocksRead → Type 0
HasEntriesWithin (Clusters segment scale) = ⊤
HasEntriesWithin (Entries entries) = All (IsEntryWithin MAX_SRT_LEN) entries

-- The source `s` of a merge, a content and what was read of it, can be written. Its content consists of bytes, and its title is UTF-8 without a zero
-- byte. The subtitles of a text are within their limits. Its tracks can be written, and its append offset in nanoseconds is within the limit of a
-- link. Used by `AreSources`.
pub record IsReadSource (s : Source) : Type 0 where
  pub octets : AreOctets s.0
  pub entries : HasEntriesWithin s.1.blocks
  pub title : IsUtf8 s.1.title
  pub whole : HasNoZero s.1.title
  pub tracks : All IsReadTrack s.1.taken
  pub place : append_offset s.1 ≤ MAX_SHIFT

-- Each of the sources `sources` can be written, and nothing refuses the merge `words` of them. It is the condition of the laws on a merge's outputs.
pub record AreSources (words : MergeWords) (sources : List Source) : Type 0 where
  pub each : All IsReadSource sources
  pub unrefused : plan_refusal words (reads_of sources) ≡ None
