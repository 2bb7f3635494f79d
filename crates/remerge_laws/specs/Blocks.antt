-- Conditions under which a reader's limits leave the blocks of a file unchanged: RFC 9559, sections 5.1.3 (Cluster Element) and 10 (Cluster
-- Blocks). The limits are this project's.
use Rattle.std.specs.Prelude.{◌≡◌, ◌≤◌, ℕ, ◌==◌, true, false, Bool, ◌||◌, List, [], length, All, None}
use Rattle.mkv_schema.specs.declared.ids.TheConstants.{BLOCK_GROUP, CLUSTER, SIMPLE_BLOCK}
use Rattle.mkv_schema.specs.declared.element.Header.{Header}
use Rattle.mkv_schema.specs.Element.{known}
use Rattle.mkv_schema.specs.Outline.{segment_bound, segment_run}
use Rattle.block_format.specs.declared.limits.TheConstants.{MAX_BLOCK_LEN, MAX_REFERENCES}
use Rattle.block_format.specs.Block.{Block, has_too_large_time}
use Rattle.block_format.specs.Elements.{with_limits, without_limits}
use Rattle.block_format.specs.Events.{blocks_of, cluster_run, damages_of, events_of}
use Rattle.file_format.specs.FileBlocks.{file_events}
use Rattle.output_model.specs.Document.{Document, layout}
use Rattle.output_model.specs.Sound.{IsSoundDocument}
use Rattle.output_laws.specs.Reading.{blocks_of_document, header_of_segment}
use Rattle.remerge_laws.specs.Outline.{KeepsReaderLimits}

-- `id` is the ID of a SimpleBlock or a BlockGroup. Used by `IsShortBlock`.
abbrev pub is_block : ℕ → Bool
is_block id = id == SIMPLE_BLOCK || id == BLOCK_GROUP

-- The child of a Cluster with the header `h` has at most 32 MiB if it is a SimpleBlock or a BlockGroup. `AreShortBlocks` uses it.
abbrev pub IsShortBlock : Header → Type 0
IsShortBlock h = is_block h.id ≡ true → known h.size ≤ MAX_BLOCK_LEN

-- Each block in the Clusters of the Segment with the header `segment`, in the content `bytes`, has at most 32 MiB. A condition of the laws on limits
-- and blocks.
abbrev pub AreShortBlocks : List ℕ → Header → Type 0
AreShortBlocks bytes segment =
    All (λ (c : Header). (c.id == CLUSTER) ≡ true → All IsShortBlock (cluster_run bytes (segment_bound bytes segment) c).list)
    (segment_run bytes segment).list

-- A reader with limits can read the block `b`: its timestamp, duration and references aren't too large, and it has at most 64 references. A condition
-- of the laws on limits and blocks. Used by `LimitsLeaveBlocks` and `OutputBlocksAreRead`.
pub record IsReadable (b : Block) : Type 0 where
  pub times : has_too_large_time b ≡ false
  pub few : length b.references ≤ MAX_REFERENCES

-- A reader with limits finds the same blocks in the content `bytes`, with the Segment header `segment`, as one without. `scale` is the number of
-- nanoseconds in a tick. The one without limits must meet no damage, each block must be short, and each must be readable. The law
-- `limits_leave_blocks` states it.
abbrev pub LimitsLeaveBlocks : Type 0
LimitsLeaveBlocks =
    (scale : ℕ) (bytes : List ℕ) (segment : Header) → damages_of (events_of (without_limits scale) bytes segment) ≡ []
    → AreShortBlocks bytes segment → All IsReadable (blocks_of (events_of (without_limits scale) bytes segment))
    → events_of (with_limits scale) bytes segment ≡ events_of (without_limits scale) bytes segment

-- A reader with limits finds the same blocks in the output with the document `d` as one without. The output must have no Duration and an Info that
-- keeps the limits. Its blocks must be short, and each must be readable. The law `output_blocks_are_read` states it.
abbrev pub OutputBlocksAreRead : Type 0
OutputBlocksAreRead =
    (d : Document) → IsSoundDocument d → d.front.lasting ≡ None → KeepsReaderLimits d.front.info → AreShortBlocks (layout d) (header_of_segment d) → All IsReadable (blocks_of_document d)
    → file_events true (layout d) (header_of_segment d) ≡ file_events false (layout d) (header_of_segment d)
