-- The output tracks of a merge: RFC 9559, section 5.1.4 (Tracks Element). The rule for joining tracks is this project's.
use Rattle.std.specs.Prelude.{ℕ, ◌==◌, Bool, ◌||◌, if◌then◌else◌, List, [], length, map, Option, Some, None, unwrap_or}
use Rattle.std.specs.List.{enumerate_from, range_with_len}
use Rattle.std.specs.Option.{option_map_or}
use Rattle.tree_format.specs.Node.{Node}
use Rattle.block_format.specs.Events.{Event}
use Rattle.track_records.specs.Usable.{prefix_for}
use Rattle.output_model.specs.declared.heads.ClusterLimits.{ClusterLimits}
use Rattle.ext_times.specs.Listing.{Listing}
use Rattle.merge_model.specs.FileLinks.{timed_given}
use Rattle.merge_model.specs.Links.{Given, Placing, going_on, text_given, track_given}
use Rattle.output_model.specs.declared.rule.CueRule.{CueRule}
use Rattle.output_model.specs.declared.rule.CueRule.TheVariants as rule
use Rattle.record_changes.specs.Starts.{top_starts}
use Rattle.splitter.specs.Split.{is_driver}
use Rattle.splitter.specs.Words.{spec_of}
use Rattle.splitter.specs.declared.spec.SplitSpec.{SplitSpec}
use Rattle.requests.specs.declared.track.CueWord.{CueWord}
use Rattle.requests.specs.declared.track.CueWord.TheVariants.{Never, Key, All}
use Rattle.requests.specs.declared.merge.MergeWords.{MergeWords}
use Rattle.mkv_schema.specs.declared.track_type.TheConstants.{VIDEO_TRACK, SUBTITLE_TRACK}
use Rattle.merge_inputs.specs.Input.{BlocksRead, Clusters, Entries, InputRead, events_by}
use Rattle.merge_inputs.specs.Taken.{value_for}
use Rattle.merge_inputs.specs.declared.taken.TakenTrack.{TakenTrack}
use Rattle.merge_plan.specs.Chains.{lanes_by}
use Rattle.merge_plan.specs.Records.{chapters_of, is_appended, ordered, tracks_ordered}

-- ---- the output tracks, one for each track that begins one

-- an input of a merge: its content, and its data before the blocks as they are read. The definitions of a merge have a list of sources. Used by
-- `reads_of`, `files_in` and others.
abbrev pub Source : Type 0
Source = List ℕ × InputRead

-- the append offset of the input `i` in nanoseconds, or 0 if it isn't appended. `given_of` uses it.
abbrev pub append_offset : InputRead → ℕ
append_offset i = unwrap_or i.shift 0

-- the placing of the blocks of the selected track `t` in the output. It has the delay from the options, the append offset `shift`, both in
-- nanoseconds, and the bytes that header stripping removed. `given_for` uses it.
abbrev pub placing_for : ℕ → TakenTrack → Placing
placing_for shift t = record { delay = t.delay; shift = shift; default_duration = t.track.default_duration; prefix = prefix_for t.track }

-- the blocks of the selected track `t` in a file with the given events, at their own times or the ones in `times`, the timestamp files by track.
-- `shift` is the append offset in nanoseconds. `given_from` uses them.
abbrev pub given_for : List (ℕ × Listing) → ℕ → List Event → TakenTrack → Given
given_for times shift events t = timed_given (value_for t.id times) 0 (track_given (placing_for shift t) t.track.number events)

-- the blocks of the selected track `t` of an input with the content `bytes`. A file with Clusters has blocks and damage; in a text each entry is a
-- block. `times` has timestamp files, and `shift` is the append offset in nanoseconds. `given_of` uses them.
abbrev pub given_from : List (ℕ × Listing) → ℕ → BlocksRead → List ℕ → TakenTrack → Given
given_from times shift (Clusters segment scale) bytes t = given_for times shift (events_by (Clusters segment scale) bytes) t
given_from times shift (Entries entries) bytes t = text_given t.delay shift entries

-- the blocks of each selected track of the source `s`, in the order of its tracks. `lanes_given` uses them.
abbrev pub given_of : Source → List Given
given_of s = map (given_from s.1.times (append_offset s.1) s.1.blocks s.0) s.1.taken

-- the links of each output track of a merge of `sources`, each as the blocks of a track. A track of a source that isn't appended begins an output
-- track. The tracks at its index in the sources that are appended to that source continue it. The output tracks are in the order of the tracks that
-- begin them, source after source. `lanes_taken` puts them in the order of the output.
abbrev pub lanes_given : List Source → List (List Given)
lanes_given sources = lanes_by (λ (s : Source). is_appended s.1) given_of sources

-- the links of each output track of a merge of `sources`, in the order of the output, which `order` gives. `lanes_taken` uses them.
abbrev pub lanes_ordered : List (ℕ × ℕ) → List Source → List (List Given)
lanes_ordered order sources = ordered order (map (λ (s : Source). s.1) sources) (lanes_given sources)

-- the links of each output track of the merge `words` of `sources`, in the order of the output. With `--append-damaged`, damage in one doesn't end the
-- reading of the links after it. The plan of a merge has the same.
abbrev pub lanes_taken : MergeWords → List Source → List (List Given)
lanes_taken words sources = map (map (going_on words.append_damaged)) (lanes_ordered words.order sources)

-- the number of an input, which is given with it, once for each of its selected tracks. `inputs_given` uses it.
abbrev pub numbers_of : ℕ × InputRead → List ℕ
numbers_of each = map (λ _. each.0) each.1.taken

-- for each output track the numbers of its links' inputs, counted from 0; the first of the inputs `reads` has the number `input`. The output tracks are
-- in the order of the tracks that begin them, input after input. `inputs_taken` puts them in the order of the output.
abbrev pub inputs_given : ℕ → List InputRead → List (List ℕ)
inputs_given input reads = lanes_by (λ (each : ℕ × InputRead). is_appended each.1) numbers_of (enumerate_from input reads)

-- for each output track of a merge of the inputs `reads` the numbers of its links' inputs, counted from 0, in the order of the output, which `order`
-- gives. Messages on damage name inputs by them. Used by `IsPlanOf` and others.
abbrev pub inputs_taken : List (ℕ × ℕ) → List InputRead → List (List ℕ)
inputs_taken order reads = ordered order reads (inputs_given 0 reads)

-- ---- Clusters and cue points

-- the limits of a Cluster that the command line `words` gives: blocks, nanoseconds, and nanoseconds in a tick. They are a part of the plan.
abbrev pub limits_of : MergeWords → ClusterLimits
limits_of words = record { blocks = words.blocks; span = words.span; scale = words.scale }

-- the default rule for cue points of a track of the TrackType `type`: keyframes of video and subtitle tracks get one, other blocks don't. It applies
-- without the option `--cues`.
abbrev pub default_rule : ℕ → CueRule
default_rule type = if type == VIDEO_TRACK || type == SUBTITLE_TRACK then rule.Key else rule.Never

-- the rule for cue points of a track of the TrackType `type`: the one of its option `--cues`, or else the default. `rule_of` uses it.
abbrev pub rule_for : Option CueWord → ℕ → CueRule
rule_for (Some Never) type = rule.Never
rule_for (Some Key) type = rule.Key
rule_for (Some All) type = rule.All
rule_for None type = default_rule type

-- the rule for cue points of the selected track `t`, by its option `--cues` and its type. Output tracks have the rule of the track that begins them.
abbrev pub rule_of : TakenTrack → CueRule
rule_of t = rule_for t.cues t.track.kind

-- the rules for cue points of all output tracks of a merge of the inputs `reads`, in the order of the output, which `order` gives. They are a part of
-- the plan.
abbrev pub rules_given : List (ℕ × ℕ) → List InputRead → List CueRule
rules_given order reads = map rule_of (tracks_ordered order reads)

-- ---- the split of the output

-- The selected track `t` is a video track. Keyframes of video tracks decide about cuts. `drives_given` uses it.
abbrev pub is_video : TakenTrack → Bool
is_video t = t.track.kind == VIDEO_TRACK

-- for each output track whether its keyframes allow a cut; `videos` has for each whether it is a video track. `drives_given` uses it.
abbrev pub drivers_by : List Bool → List Bool
drivers_by videos = map (is_driver videos) (range_with_len 0 (length videos))

-- for each output track of a merge of the inputs `reads`, whether its keyframes allow a cut. `order` gives the order of the output tracks, of which the
-- first video track decides. It is a part of the plan.
abbrev pub drives_given : List (ℕ × ℕ) → List InputRead → List Bool
drives_given order reads = drivers_by (map is_video (tracks_ordered order reads))

-- the starts of the top-level chapters in `chapters`, the output's Chapters, in nanoseconds, for cuts at chapters; none if there are no Chapters.
-- `split_given` uses them.
abbrev pub starts_in : Option Node → List ℕ
starts_in chapters = option_map_or top_starts chapters []

-- the rule for cutting the output that `words` asks for, if the inputs are `reads`; the starts of the output's chapters count if it cuts at them. It
-- is a part of the plan.
abbrev pub split_given : MergeWords → List InputRead → SplitSpec
split_given words reads = spec_of words.split (starts_in (chapters_of reads))
