-- The records of a merge: RFC 9559, sections 5.1.2 (Info Element), 5.1.4 (Tracks Element), 5.1.6 (Attachments Element), 5.1.7 (Chapters Element)
-- and 5.1.8 (Tags Element). The choice of titles and identifiers is this project's.
use Rattle.std.specs.Prelude.{ℕ, ◌+◌, ◌==◌, Bool, if◌then◌else◌, List, [], ◌∷◌, ◌++◌, map, flat_map, Option, is_some, unwrap_or}
use Rattle.tree_format.specs.Node.{Node}
use Rattle.output_model.specs.declared.attachment.Attachment.{Attachment}
use Rattle.meta_records.specs.Attached.{AttachedFile}
use Rattle.record_changes.specs.Identifiers.{renumbered}
use Rattle.track_records.specs.Entry.{written_entry}
use Rattle.track_records.specs.declared.track_change.TrackChange.{TrackChange}
use Rattle.requests.specs.declared.merge.MergeWords.{MergeWords}
use Rattle.merge_inputs.specs.Input.{InputRead, read_in}
use Rattle.merge_inputs.specs.declared.input.Input.{Input}
use Rattle.merge_inputs.specs.declared.taken.TakenTrack.{TakenTrack}
use Rattle.output_records.specs.Chapters.{merged_chapters}
use Rattle.output_records.specs.Tags.{merged_tags}
use Rattle.output_records.specs.declared.inputs.InputRecords.{InputRecords}
use Rattle.output_records.specs.Info.{output_info}
use Rattle.output_records.specs.Tracks.{output_tracks}
use Rattle.merge_plan.specs.Order.{in_order, picked}

-- The input `i` is appended to the previous one, and so continues its output tracks. Used wherever inputs are joined. Used by `difference_at`,
-- `lane_tracks` and others.
abbrev pub is_appended : InputRead → Bool
is_appended i = is_some i.shift

-- the tracks of the input `i` that begin output tracks: the selected ones, or none if it is appended and continues output tracks. `tracks_taken` uses
-- them.
abbrev pub tracks_begun : InputRead → List TakenTrack
tracks_begun i = if is_appended i then [] else i.taken

-- the tracks of the inputs `reads` that begin output tracks, input after input. Without `--track-order` the output has this order. The refusals by
-- their number, and `tracks_ordered`, use them.
abbrev pub tracks_taken : List InputRead → List TakenTrack
tracks_taken reads = flat_map tracks_begun reads

-- the key of the selected track `t` of the input `number`, counted from 0: the pair that names it in `--track-order`. `keys_from` uses it.
abbrev pub key_of : ℕ → TakenTrack → ℕ × ℕ
key_of number t = (number, t.id)

-- the keys of the tracks that begin output tracks, input after input. The first input of the list has the number `number`, counted from 0. `ordered`
-- uses them.
abbrev pub keys_from : ℕ → List InputRead → List (ℕ × ℕ)
keys_from number [] = []
keys_from number (i ∷ is) = map (key_of number) (tracks_begun i) ++ keys_from (number + 1) is

-- `items`, one for each track that begins an output track, input after input, put in the order of the output: first the items of the tracks that
-- `order` names, in its order, and then the others. `reads` are the inputs. The plan of a merge has each of its lists in this order.
abbrev pub ordered : {A : Type 0} → List (ℕ × ℕ) → List InputRead → List A → List A
ordered order reads items = in_order order (keys_from 0 reads) items

-- the tracks of the inputs `reads` that begin output tracks, in the order of the output, which `order` gives; the first output track has the
-- TrackNumber 1. The plan of a merge builds its TrackEntries of them. Used by `output_of`, `identifiers_of` and others.
abbrev pub tracks_ordered : List (ℕ × ℕ) → List InputRead → List TakenTrack
tracks_ordered order reads = ordered order reads (tracks_taken reads)

-- ---- Tracks

-- the TrackUID of the selected track `t` in its file. `uids_of` and `track_uids_at` use it.
abbrev pub uid_of : TakenTrack → ℕ
uid_of t = t.track.uid

-- the TrackUIDs of the output tracks that the tracks `taken` begin: their own, or another if one occurs again. TrackEntries and the Targets of Tags
-- have them.
abbrev pub uids_of : List TakenTrack → List ℕ
uids_of taken = renumbered (map uid_of taken)

-- the changes of the TrackEntry of the selected track `t` in the output: the TrackNumber `number`, the TrackUID `uid`, and its options. `entry_of`
-- uses them.
abbrev pub change_of : ℕ → ℕ → TakenTrack → TrackChange
change_of number uid t = record {
  number = number;
  uid = uid;
  name = t.name;
  language = t.language;
  language_tag = t.language_tag;
  flag_default = t.flag_default;
  flag_forced = t.flag_forced;
  flags = t.flags;
}

-- the TrackEntry in the output of the selected track `t`, with the TrackNumber `number` and the TrackUID `uid`. `entries_of` uses it.
abbrev pub entry_of : ℕ → ℕ → TakenTrack → Node
entry_of number uid t = written_entry (change_of number uid t) t.track.stored t.track.entry

-- the TrackEntries in the output of selected tracks with the TrackUIDs in the second argument and TrackNumbers from `number`; the third argument has
-- the tracks. `entries_of` uses it.
abbrev pub entries_from : ℕ → List ℕ → List TakenTrack → List Node
entries_from number [] taken = []
entries_from number (uid ∷ uids) [] = []
entries_from number (uid ∷ uids) (t ∷ taken) = entry_of number uid t ∷ entries_from (number + 1) uids taken

-- the TrackEntries of the output tracks that the tracks `taken` begin, with TrackNumbers from 1, for the output's Tracks. `tracks_of_output` uses
-- them.
abbrev pub entries_of : List TakenTrack → List Node
entries_of taken = entries_from 1 (uids_of taken) taken

-- the Tracks of the output of a merge of the inputs `reads`, with its tracks in the order that `order` gives. The plan has them, and refuses the merge
-- if they are too large. Used by `front_of`, `AreRecordsOf` and others.
abbrev pub tracks_of_output : List (ℕ × ℕ) → List InputRead → Node
tracks_of_output order reads = output_tracks (entries_of (tracks_ordered order reads))

-- ---- Info

-- the first text, or `other` if it is empty. `first_title` uses it.
abbrev pub title_or : List ℕ → List ℕ → List ℕ
title_or [] other = other
title_or (octet ∷ octets) other = octet ∷ octets

-- the title of the first of the inputs that has one, or an empty text. It is the output's title if the options have none. `title_of` uses it.
abbrev pub first_title : List InputRead → List ℕ
first_title [] = []
first_title (i ∷ is) = title_or i.title (first_title is)

-- the output's title: the one in the options `words`, or else the first title of an input in `reads`; an empty one in the options means none. Info
-- has it.
abbrev pub title_of : MergeWords → List InputRead → List ℕ
title_of words reads = unwrap_or words.title (first_title reads)

-- the Info of the output of the merge `words` of the inputs `reads`, without SegmentUUIDs. The plan has it.
abbrev pub info_of : MergeWords → List InputRead → Node
info_of words reads = output_info words.scale (title_of words reads)

-- ---- Attachments, Chapters and Tags

-- an input as it is read, with its attached files, whose data are each in a live file. `records_from` takes a list of them.
abbrev pub Kept : Type 0
Kept = List Attachment × InputRead

-- the records of the input `k` that are merged into the output's, besides tracks and blocks. Its selected tracks have the TrackUIDs `own`, in the order
-- of their output tracks, which have the TrackUIDs `numbers`. `records_from` uses them.
abbrev pub records_in : List ℕ → List ℕ → Kept → InputRecords
records_in own numbers k = record {
  track_uids = own;
  output_uids = numbers;
  attachments = k.0;
  chapters = k.1.chapters;
  shift = k.1.shift;
  tags = k.1.tags;
  keep = k.1.keep;
}

-- The output tracks of a merge, for the Targets of Tags: the pairs that give their order, the keys of the tracks that begin them, input after input,
-- and their TrackUIDs, in the order of the output. Used by `records_from` and others.
pub record LaneUids : Type 0 where
  pub order : List (ℕ × ℕ)
  pub keys : List (ℕ × ℕ)
  pub uids : List ℕ

-- the output tracks with the keys `keys` of the tracks that begin them, input after input. The pairs `order` give the order of the output, in which they
-- have the TrackUIDs `uids`. The contract of `records_of` uses them.
abbrev pub lanes_with : List (ℕ × ℕ) → List (ℕ × ℕ) → List ℕ → LaneUids
lanes_with order keys uids = record { order = order; keys = keys; uids = uids }

-- The track `key` is one of the input number `owner`. Used by `own_keys` and `uids_at`.
abbrev pub is_begun_by : ℕ → ℕ × ℕ → Bool
is_begun_by owner key = key.0 == owner

-- the keys of the tracks of the input number `owner` that begin output tracks among `lanes`, in the order of the input. `track_uids_at` uses them.
abbrev pub own_keys : LaneUids → ℕ → List (ℕ × ℕ)
own_keys lanes owner = picked (is_begun_by owner) lanes.keys lanes.keys

-- the TrackUIDs of those of the output tracks `lanes` that the input number `owner` begins, in the order of the output. `records_from` uses
-- them for the Targets of Tags.
abbrev pub uids_at : LaneUids → ℕ → List ℕ
uids_at lanes owner = picked (is_begun_by owner) (in_order lanes.order lanes.keys lanes.keys) lanes.uids

-- the TrackUIDs of the selected tracks of the input `i`, in the order of the output tracks among `lanes` that they begin or continue; the input number
-- `owner` begins these. `records_from` uses them for the Targets of Tags, where the first of two tracks with one TrackUID counts.
abbrev pub track_uids_at : LaneUids → ℕ → InputRead → List ℕ
track_uids_at lanes owner i = in_order lanes.order (own_keys lanes owner) (map uid_of i.taken)

-- the number of the input that begins the output tracks of the input `i`, which has the number `number`: `before`, the one that begins the previous
-- input's, if it is appended, and else its own. `records_from` uses it.
abbrev pub owner_at : ℕ → ℕ → InputRead → ℕ
owner_at before number i = if is_appended i then before else number

-- the records of a list of inputs that are merged into the output's, which has the output tracks `lanes`. The first input of the list has the number
-- `number`, counted from 0, and the input number `before` begins the output tracks of the input before it. `records_of` uses it.
abbrev pub records_from : LaneUids → ℕ → ℕ → List Kept → List InputRecords
records_from lanes before number [] = []
records_from lanes before number (k ∷ ks) =
    let owner = owner_at before number k.1 in
    records_in (track_uids_at lanes owner k.1) (uids_at lanes owner) k ∷ records_from lanes owner (number + 1) ks

-- the opened input `i` as it is read, with its attached files, whose data are in its file. The contract of `records_in` uses it.
abbrev pub kept_in : Input → Kept
kept_in i = (i.attachments, read_in i)

-- the attached file `a`, with an arbitrary live file as the place of its data. `kept_anywhere` uses it.
abbrev pub anywhere : AttachedFile → Attachment
anywhere a = record { uid = a.uid; file = record { n = 0 }; at = a.at; len = a.len; entry = a.entry }

-- the input `i`, with an arbitrary live file as the place of its attached files' data. `records_of` uses it, since it depends on no file.
abbrev pub kept_anywhere : InputRead → Kept
kept_anywhere i = (map anywhere i.attachments, i)

-- the output tracks of a merge of the inputs `reads`, in the order that `order` gives, for the Targets of Tags. `records_of` uses them.
abbrev pub lane_uids : List (ℕ × ℕ) → List InputRead → LaneUids
lane_uids order reads = lanes_with order (keys_from 0 reads) (uids_of (tracks_ordered order reads))

-- the records of all inputs `reads` that are merged into the output's, with the TrackUIDs of the output tracks, whose order `order` gives. The output's
-- attachments, Chapters and Tags come from them. Used by `identifiers_of`, `chapters_of` and others.
abbrev pub records_of : List (ℕ × ℕ) → List InputRead → List InputRecords
records_of order reads = records_from (lane_uids order reads) 0 0 (map kept_anywhere reads)

-- the Chapters of an unsplit output of a merge of the inputs `reads`, if any. They don't depend on the order of the output tracks. The plan has them.
abbrev pub chapters_of : List InputRead → Option Node
chapters_of reads = merged_chapters (records_of [] reads)

-- the Tags of the output of a merge of the inputs `reads`, if any. `order` gives the order of the output tracks. The plan has them.
abbrev pub tags_of : List (ℕ × ℕ) → List InputRead → Option Node
tags_of order reads = merged_tags (records_of order reads)
