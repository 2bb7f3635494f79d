-- Contents that hold a merge. RFC 9559 defines contents; this project defines the merge that they must hold.
use Rattle.std.specs.Prelude.{◌≡◌, ⊤, ℕ, false, if◌then◌else◌, List, [], All, IfSome, Option, None, Some, Ok, filter, length, map}
use Rattle.mkv_io.specs.Names.{Names}
use Rattle.mkv_io.specs.Told.{IfVisible}
use Rattle.mkv_outputs.specs.Outputs.{Output, with_outputs}
use Rattle.mkv_schema.specs.declared.ids.TheConstants.{CONTENT_ENCODINGS}
use Rattle.std.specs.List.{AllZip}
use Rattle.tree_format.specs.Node.{Node, children}
use Rattle.tree_format.specs.Changes.{part}
use Rattle.tree_format.specs.Values.{first_child}
use Rattle.file_format.specs.Entry.{entries_of}
use Rattle.block_format.specs.Block.{Block}
use Rattle.block_format.specs.Events.{Event}
use Rattle.block_format.specs.Events.{blocks_of as blocks_found}
use Rattle.file_format.specs.FileBlocks.{file_events}
use Rattle.output_model.specs.Document.{layout}
use Rattle.output_model.specs.OutputBlock.{OutputBlock}
use Rattle.output_model.specs.Sound.{IsSoundDocument}
use Rattle.output_laws.specs.Places.{block_in_place}
use Rattle.output_laws.specs.Reading.{header_of_segment, IsReadAs}
use Rattle.merge_model.specs.Lanes.{lane_blocks}
use Rattle.output_laws.specs.Lanes.{lanes_read}
use Rattle.splitter.specs.Laws.{AreSections}
use Rattle.splitter.specs.Sections.{Section, Split, in_part, is_written, parts}
use Rattle.splitter.specs.Words.{size_of}
use Rattle.part_size.specs.Laws.{AllButLast, IsFull, IsSmall}
use Rattle.remux_plan.specs.Parts.{PlannedOutput}
use Rattle.requests.specs.declared.merge.MergeWords.{MergeWords}
use Rattle.merge_inputs.specs.declared.taken.TakenTrack.{TakenTrack}
use Rattle.merge_plan.specs.Front.{reads_of}
use Rattle.merge_plan.specs.Plan.{Source, lanes_given, lanes_taken}
use Rattle.merge_plan.specs.Records.{tracks_ordered}
use Rattle.mkv_args.specs.Words.{command}
use Rattle.mkv_args.specs.declared.command.Command.TheVariants.{Merge}
use Rattle.mkv_merge.specs.Merge.{blocks_of, outputs_of, sources_of, split_of}
use Rattle.mkv_merge.specs.Records.{AreShort, HaveRecords}
use Rattle.mkv_lines.specs.declared.status.Status.{Status}
use Rattle.mkv_lines.specs.declared.status.Status.TheVariants.{Done, Warned}
use Rattle.merge_laws.specs.Sources.{HoldsOctets}

-- ---- selected blocks, and blocks that are read

-- for each output track of the merge `words` of `sources` its blocks: all blocks of the selected tracks outside any damage. Each has its own
-- timestamp or the timestamp file's, with its delay, in ticks of `words.scale` nanoseconds. The bytes that header stripping removed are back before
-- each frame. Used by `SelectedBlocksAreSound`, `DamagedLanesGoOn` and others.
abbrev pub lanes_selected : MergeWords → List Source → List (List OutputBlock)
lanes_selected words sources = map (lane_blocks words.scale) (lanes_taken words sources)

-- the blocks and damage in the content `bytes` of the planned output `o`, read without a reader's limits as the Segment of its document. The laws of
-- a successful merge compare them with what was planned.
abbrev pub events_read : PlannedOutput → List ℕ → List Event
events_read o bytes = file_events false bytes (header_of_segment o.document)

-- the block `b` with the offset 0, since `blocks_held` compares a read block with a planned one, which has no place in a file yet
abbrev pub without_place : Block → Block
without_place b = record b { offset = 0 }

-- the blocks in the content `bytes` of the planned output `o`, without their offsets in the file. `HoldsOutput` compares them with the planned
-- blocks.
abbrev pub blocks_held : PlannedOutput → List ℕ → List Block
blocks_held o bytes = map without_place (blocks_found (events_read o bytes))

-- The TrackEntry `entry` has no ContentEncodings, so the frames of its track are stored unchanged. It is promised for each track of an output of
-- `generate`.
abbrev pub HasNoEncodings : Node → Type 0
HasNoEncodings entry = first_child CONTENT_ENCODINGS entry ≡ None

-- The TrackEntry `entry` has the ContentEncodings of the selected track `t`, all of them, if its frames are taken as they are stored. Otherwise it has
-- none, so its frames are stored unchanged. `HoldsOutput` promises it for the track that begins each output track.
abbrev pub HasEncodingsOf : TakenTrack → Node → Type 0
HasEncodingsOf t entry = part CONTENT_ENCODINGS (children entry) ≡ (if t.track.stored then part CONTENT_ENCODINGS (children t.track.entry) else [])

-- ---- the merge

-- The content `bytes` holds the output `o` of the merge `words`, as `IsMerged` promises. It is read by the format's definition, without a reader's
-- limits. It is the output's document: undamaged, with its scale, records, Seeks and cue points, each at its block. Each of its tracks has the
-- ContentEncodings of the track of `sources` that begins it, if that one is taken as it is stored, and otherwise none. Its blocks are the output's,
-- each once and in order. They keep their frames, laces and flags; timestamps, durations and references have the nanoseconds of their ticks.
pub record HoldsOutput (words : MergeWords) (sources : List Source) (o : PlannedOutput) (bytes : List ℕ) : Type 0 where
  pub document : IsReadAs o.document bytes
  pub encodings : AllZip HasEncodingsOf (tracks_ordered words.order (reads_of sources)) (entries_of o.document.front.tracks)
  pub blocks : blocks_held o bytes ≡ map (block_in_place words.scale 0) o.blocks

-- If the merge `words` of `sources` isn't split, the content `bytes` of its output `o` has the selected blocks of each output track. `IsMerged`
-- promises it.
abbrev pub HoldsLanes : MergeWords → List Source → PlannedOutput → List ℕ → Type 0
HoldsLanes words sources o bytes =
    words.split ≡ None → lanes_read words.scale 1 (length (lanes_given sources)) (events_read o bytes) ≡ lanes_selected words sources

-- ---- parts

-- the blocks of the section `x` as they are in its part: their ticks count from the section's start. `ArePartsOf` requires them of each output.
abbrev pub blocks_in_part : Section → List OutputBlock
blocks_in_part x = map (in_part x.start) x.blocks

-- The lists `blocks`, one for each output of a merge, are the parts that the merged list `merged` is cut into by the rule `s`. It is divided into
-- sections, with cuts between them and nowhere else. The parts are the written sections, in order. `IsMerged` promises it.
pub record ArePartsOf (s : Split) (merged : List OutputBlock) (blocks : List (List OutputBlock)) : Type 0 where
  pub sections : List Section
  pub are : AreSections s merged sections
  pub written : blocks ≡ map blocks_in_part (filter (is_written s) sections)

-- The parts of the merged list `blocks`, which is cut at a number of bytes by the rule `s`, keep the limit `limit` in bytes. Each part except the
-- last reaches it. In each part it isn't reached before a block that allows a cut. `IsMerged` promises it.
pub record KeepsLimit (s : Split) (blocks : List OutputBlock) (limit : ℕ) : Type 0 where
  pub full : AllButLast (IsFull limit) (parts s blocks)
  pub small : All (IsSmall s limit) (parts s blocks)

-- ---- the whole

-- the planned output `o` of a merge as it is written: its name, and the bytes of its document. `IsMerged` promises that the files become it.
abbrev pub laid_out : PlannedOutput → Output
laid_out o = record { name = o.name; content = layout o.document }

-- The merge `words` of the files `world` was written, and the files are `new` after it: what `HasMerged` promises. Its outputs have exactly the bytes
-- of their documents, and every other name keeps its content. The records of the sources can be read again, and identifiers have 64 bits. Each output
-- has at most 2^48 bytes, and its document is valid. Each output holds its blocks and document; one that isn't split holds all output tracks.
-- Together the outputs are the parts of the merged list, and parts that are cut at a number of bytes keep its limit.
pub record IsMerged (world : List ℕ → Option (List ℕ)) (words : MergeWords) (new : Names) : Type 0 where
  pub sources : List Source
  pub taken : sources_of world words ≡ Ok sources
  pub records : HaveRecords words sources
  pub short : AreShort words sources
  pub sound : All (λ (o : PlannedOutput). IsSoundDocument o.document) (outputs_of words sources)
  pub written : new ≡ with_outputs (Some world) (map laid_out (outputs_of words sources))
  pub holds : All (λ (o : PlannedOutput). HoldsOutput words sources o (layout o.document)) (outputs_of words sources)
  pub lanes : All (λ (o : PlannedOutput). HoldsLanes words sources o (layout o.document)) (outputs_of words sources)
  pub parts : ArePartsOf (split_of words sources) (blocks_of words sources) (map (λ (o : PlannedOutput). o.blocks) (outputs_of words sources))
  pub loads : IfSome (size_of words.split) (KeepsLimit (split_of words sources) (blocks_of words sources))

-- ---- a run

-- If the command line `words` is a merge, it was written: the files were `old` before it and are `new` after it. This holds if `old` is visible to
-- the proof and all contents are bytes. The contract of the program promises it for the exit codes 0 and 1.
abbrev pub HasMerged : Names → List (List ℕ) → Names → Type 0
HasMerged old words new =
    IfVisible old (λ world. HoldsOctets world → (merge : MergeWords) → command words ≡ Ok (Merge merge) → IsMerged world merge new)

-- `HasMerged` holds between the files `old` and `new`, if the run of the command line `words` ended without an error; a warning is allowed. The last
-- argument is the status of the run. The contract of `run` promises it.
abbrev pub MergesWell : Names → List (List ℕ) → Names → Status → Type 0
MergesWell old words new Done = HasMerged old words new
MergesWell old words new Warned = HasMerged old words new
MergesWell old words new s = ⊤
