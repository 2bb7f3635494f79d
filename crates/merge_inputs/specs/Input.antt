-- An input of a merge before its blocks: RFC 9559, section 5.1 (Segment), or a text of this project's grammar.
use Rattle.std.specs.Prelude.{◌≡◌, ◌≤◌, ⊤, true, ℕ, Bool, if◌then◌else◌, List, [], ◌∷◌, length, map, Option, Some, None, IfSome, option_map, Result, Ok, Err}
use Rattle.std.specs.List.{All}
use Rattle.mkv_schema.specs.declared.ids.TheConstants.{CHAPTERS, TAGS}
use Rattle.mkv_io.specs.declared.damage.Damage.{Damage}
use Rattle.mkv_io.specs.declared.outside.FileId.{FileId}
use Rattle.mkv_io.specs.LiveFiles.{LiveFiles}
use Rattle.mkv_schema.specs.declared.element.Header.{Header}
use Rattle.mkv_schema.specs.Outline.{Outlined, described, outline_of}
use Rattle.tree_format.specs.Node.{Node}
use Rattle.ebml_tree.specs.Building.{IsRead}
use Rattle.block_format.specs.Elements.{with_limits}
use Rattle.block_format.specs.Events.{Event, events_of}
use Rattle.file_format.specs.FileBlocks.{file_events}
use Rattle.meta_records.specs.Walk.{IsAttachedIn}
use Rattle.record_changes.specs.declared.uid_map.TagKeep.{TagKeep}
use Rattle.element_reader.specs.Outline.{FileOutline}
use Rattle.mkv_io.specs.declared.entry.Entry.{Entry}
use Rattle.text_formats.specs.Reading.{AreWithin}
use Rattle.input_files.specs.TextFile.{srt_text}
use Rattle.input_files.specs.declared.limits.TheConstants.{MAX_SRT_LEN}
use Rattle.input_files.specs.declared.refusal.TextRefusal.{TextRefusal}
use Rattle.ext_times.specs.Listing.{Listing}
use Rattle.input_files.specs.Names.{is_srt}
use Rattle.input_files.specs.Track.{text_entry}
use Rattle.track_records.specs.Track.{track_of}
use Rattle.meta_records.specs.Attached.{AttachedFile, in_file}
use Rattle.meta_records.specs.Records.{FileRecords, file_records, scale_of_info}
use Rattle.requests.specs.declared.merge.FileWords.{FileWords}
use Rattle.merge_inputs.specs.Select.{keep_of, keeps_attachments, keeps_chapters, kept_list, kept_one, kept_tags, unmoved}
use Rattle.merge_inputs.specs.Taken.{IsTaken, first_unusable, taken_from}
use Rattle.merge_inputs.specs.Title.{title_of_info}
use Rattle.merge_inputs.specs.declared.taken.TakenTrack.{TakenTrack}
use Rattle.merge_inputs.specs.declared.input.Blocks.{Blocks}
use Rattle.merge_inputs.specs.declared.input.Blocks.TheVariants as held_by
use Rattle.merge_inputs.specs.declared.input.Input.{Input}
use Rattle.merge_inputs.specs.declared.input.TrackTimes.{TrackTimes}
use Rattle.merge_inputs.specs.declared.input.InputEnd.{InputEnd}
use Rattle.merge_inputs.specs.declared.input.InputEnd.TheVariants as input_end
use Rattle.merge_inputs.specs.declared.input.InputRefusal.{InputRefusal}
use Rattle.merge_inputs.specs.declared.input.InputRefusal.TheVariants.{Damaged, Text}

-- the source of an input's blocks: the Clusters of the Segment with this header, with their nanoseconds per tick, or the subtitles of a text
pub data BlocksRead : Type 0 where
  Clusters : Header → ℕ → BlocksRead
  Entries : List Entry → BlocksRead

-- an input of a merge as the definitions read it, before its blocks. `held` is the number of bytes of its Info, Tracks, Chapters and Tags, which
-- count for a limit. `count` is the number of its tracks, and `taken` the selected ones. `attachments`, `chapters` and `tags` are the kept ones, and
-- `keep` the choice of Tags. `shift` is the append offset in nanoseconds: 0 until it is known, None if the input isn't appended. `times` has the
-- timestamps of timestamp files, by track ID, counted from 0.
pub record InputRead : Type 0 where
  pub blocks : BlocksRead
  pub title : List ℕ
  pub held : ℕ
  pub count : ℕ
  pub taken : List TakenTrack
  pub attachments : List AttachedFile
  pub chapters : Option Node
  pub tags : Option Node
  pub keep : TagKeep
  pub shift : Option ℕ
  pub times : List (ℕ × Listing)

-- ---- reading a content

-- the result of `more` with a value that was found in an input's file; damage instead of it refuses the input. Used by `file_read`.
abbrev pub found_then : {A B : Type 0} → Result A Damage → (A → Result B InputRefusal) → Result B InputRefusal
found_then (Ok x) more = more x
found_then (Err d) more = Err (Damaged d)

-- the input `input` of `merge`, or its refusal, the first argument, if there is one
abbrev pub input_or_refusal : Option InputRefusal → InputRead → Result InputRead InputRefusal
input_or_refusal None input = Ok input
input_or_refusal (Some why) input = Err why

-- the refusal of an input with valid records because of the first of the selected tracks `taken` whose frames can't be used, or None. Used by
-- `file_read`.
abbrev pub refusal_of : List TakenTrack → Option InputRefusal
refusal_of taken = option_map Damaged (first_unusable taken)

-- the input of `merge` for a file with the outline `o` and the records `r`. Its options are `words`, and `webm` is true if the output is WebM.
abbrev pub input_with : FileWords → Bool → Outlined → FileRecords → InputRead
input_with words webm o r = record {
  blocks = Clusters o.segment (scale_of_info r.info);
  title = title_of_info r.info;
  held = described o.list;
  count = length r.tracks;
  taken = taken_from words 0 r.tracks;
  attachments = kept_list (keeps_attachments words webm) r.attachments;
  chapters = kept_one (keeps_chapters words webm) r.chapters;
  tags = kept_tags words r.tags;
  keep = keep_of words;
  shift = unmoved words;
  times = [];
}

-- the input of `merge` for a file with Clusters and the content `bytes`, or its refusal because of outline, records or selected tracks. `words` has
-- its options, and `webm` is true if the output is WebM. The inputs before it have `held` bytes of Info, Tracks, Chapters and Tags.
abbrev pub file_read : FileWords → Bool → ℕ → List ℕ → Result InputRead InputRefusal
file_read words webm held bytes =
    found_then (outline_of held bytes) (λ (o : Outlined).
    found_then (file_records bytes o.segment) (λ (r : FileRecords).
    input_or_refusal (refusal_of (taken_from words 0 r.tracks)) (input_with words webm o r)))

-- the input of `merge` for a SubRip text with the subtitles `entries` and the options `words`: one track, and no other records
abbrev pub text_with : FileWords → List Entry → InputRead
text_with words entries = record {
  blocks = Entries entries;
  title = [];
  held = 0;
  count = 1;
  taken = taken_from words 0 (track_of text_entry ∷ []);
  attachments = [];
  chapters = None;
  tags = None;
  keep = keep_of words;
  shift = unmoved words;
  times = [];
}

-- the input that `more` makes of the subtitles of a SubRip text, the first argument; a refused text refuses the input
abbrev pub text_then : Result (List Entry) TextRefusal → (List Entry → InputRead) → Result InputRead InputRefusal
text_then (Ok entries) more = Ok (more entries)
text_then (Err why) more = Err (Text why)

-- the input of `merge` for a SubRip text with the content `bytes`, or its refusal; `words` has its options
abbrev pub text_read : FileWords → List ℕ → Result InputRead InputRefusal
text_read words bytes = text_then (srt_text bytes) (text_with words)

-- the input of `merge` with the content `bytes`, or its refusal: a SubRip text, or a file with Clusters. `words` has its name and options, and `webm`
-- is true if the output is WebM. The inputs before it have `held` bytes of Info, Tracks, Chapters and Tags.
abbrev pub input_of : FileWords → Bool → ℕ → List ℕ → Result InputRead InputRefusal
input_of words webm held bytes = if is_srt words.name bytes then text_read words bytes else file_read words webm held bytes

-- ---- an input that was read

-- the source of an opened input's blocks, as the code has it, as the definitions have it, without the data that the code keeps of the file; for
-- `read_in`
abbrev pub blocks_in : Blocks → BlocksRead
blocks_in (held_by.Clusters outline scale) = Clusters outline.value.segment scale
blocks_in (held_by.Entries entries) = Entries entries

-- the number of bytes of the Info, Tracks, Chapters and Tags of an input, given the source of its blocks; 0 for a text. It counts against the limit
-- for later inputs. Used by `read_in`.
abbrev pub held_in : Blocks → ℕ
held_in (held_by.Clusters outline scale) = outline.value.held
held_in (held_by.Entries entries) = 0

-- the timestamps of timestamp files for an input, as the code has them, as the definitions have them, by track ID. Used by `read_in` and others.
abbrev pub listings_in : List TrackTimes → List (ℕ × Listing)
listings_in times = map (λ (t : TrackTimes). (t.id, t.times.value)) times

-- the opened input `i` of `merge` as the definitions have it, without the data that the code keeps of its file
abbrev pub read_in : Input → InputRead
read_in i = record {
  blocks = blocks_in i.blocks;
  title = i.title;
  held = held_in i.blocks;
  count = i.count;
  taken = i.taken;
  attachments = map in_file i.attachments;
  chapters = i.chapters;
  tags = i.tags;
  keep = i.keep;
  shift = i.shift;
  times = listings_in i.times;
}

-- the blocks and damage in a file with the content `bytes`, given the source of an input's blocks, the first argument; none for a text. Used by
-- `events_in`, `AreOwnEvents` and others.
abbrev pub events_by : BlocksRead → List ℕ → List Event
events_by (Clusters segment scale) bytes = events_of (with_limits scale) bytes segment
events_by (Entries entries) bytes = []

-- the blocks and damage in the file of the input `i` of `merge`, whose content is `bytes`; the definition of the merge reads them
abbrev pub events_in : InputRead → List ℕ → List Event
events_in i bytes = events_by i.blocks bytes

-- The blocks and damage that are read with the nanoseconds per tick in the given source of an input's blocks are the ones of the format's definition.
-- `bytes` is the content of its file. `read_input` promises it.
abbrev pub AreOwnEvents : Blocks → List ℕ → Type 0
AreOwnEvents (held_by.Clusters outline scale) bytes = events_by (Clusters outline.value.segment scale) bytes ≡ file_events true bytes outline.value.segment
AreOwnEvents (held_by.Entries entries) bytes = ⊤

-- The last argument, which a reader of an input returned, is as the definitions expect, where `found` is the input or its refusal. A read may fail,
-- and memory may run out.
abbrev pub ReadsInput : Result InputRead InputRefusal → Result Input InputEnd → Type 0
ReadsInput found (Ok i) = found ≡ Ok (read_in i)
ReadsInput found (Err (input_end.Refused why)) = found ≡ Err why
ReadsInput found (Err input_end.ReadFault) = ⊤
ReadsInput found (Err input_end.Memory) = ⊤

-- The input `i` of `merge` was read by `read_input` from the file `id`, and its append offset isn't known yet. `words` has its options.
pub record IsReadOf (id : FileId) (words : FileWords) (i : Input) : Type 0 where
  pub file : i.file ≡ id
  pub unmoved : i.shift ≡ unmoved words

-- The outline `outline` of an input is of a file with `octets` bytes, and a tick has `nanoseconds` nanoseconds, at least one. Used by `CanBeGiven`.
pub record AreClusters (octets : ℕ) (outline : FileOutline) (nanoseconds : ℕ) : Type 0 where
  pub size : octets ≡ outline.total
  pub scale : 1 ≤ nanoseconds

-- The given source of an input's blocks fits its file of `size` bytes: its outline has this size. Subtitles are within the limits of a text. It is a
-- condition of a valid input.
abbrev pub CanBeGiven : ℕ → Blocks → Type 0
CanBeGiven size (held_by.Clusters outline scale) = AreClusters size outline.value scale
CanBeGiven size (held_by.Entries entries) = AreWithin MAX_SRT_LEN entries

-- The opened input `i` of `merge` is valid, as planning requires. Its file is live among `files` and has the length `len`, its blocks can be read,
-- and its selected tracks can be copied. The data of its attached files are in it, and its Chapters and Tags were read.
pub record IsInput (files : LiveFiles) (i : Input) : Type 0 where
  pub live : files.live i.file.n ≡ true
  pub len : i.len ≡ files.size i.file.n
  pub blocks : CanBeGiven (files.size i.file.n) i.blocks
  pub taken : All IsTaken i.taken
  pub attachments : All (IsAttachedIn i.file i.len) i.attachments
  pub chapters : IfSome i.chapters (IsRead CHAPTERS)
  pub tags : IfSome i.tags (IsRead TAGS)
