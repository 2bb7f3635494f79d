-- A SimpleBlock and a BlockGroup as a block, or their first damage: RFC 9559, sections 5.1.3 (Cluster Element), 10.1 (Block Structure) and 10.2
-- (SimpleBlock Structure). The kinds, their order and the limits are this project's.
use Rattle.std.specs.Prelude.{ℕ, ◌*◌, ◌==◌, nat_lt, Bool, true, false, not, ◌&&◌, if◌then◌else◌, ℤ, List, [], ◌∷◌, length, map, filter, slice_get, flat_map, Option, Some, None, Result, Ok, Err}
use Rattle.std.specs.List.{list_any}
use Rattle.std.specs.Option.{option_map}
use Rattle.ebml_numbers.specs.Number.{uint_of, int_of}
use Rattle.mkv_schema.specs.declared.ids.TheConstants.{BLOCK_GROUP, BLOCK, BLOCK_DURATION, REFERENCE_BLOCK, VOID, CRC_32}
use Rattle.mkv_io.specs.declared.damage.Damage.{Damage}
use Rattle.mkv_io.specs.declared.damage.Kind.{Kind}
use Rattle.mkv_io.specs.declared.damage.Kind.TheVariants.{MissingChild, BlockTooLarge, TimeTooLarge, NoTimestamp, TooMany}
use Rattle.mkv_schema.specs.declared.element.Header.{Header}
use Rattle.mkv_schema.specs.Element.{in_master, octets_between, known, stated_end, damage}
use Rattle.mkv_schema.specs.Elements.{Run, children_in}
use Rattle.mkv_schema.specs.Value.{body_of, first_of}
use Rattle.mkv_schema.specs.Outline.{first_damage, where_it, bad_value}
use Rattle.mkv_io.specs.Results.{unless, and_then}
use Rattle.block_format.specs.declared.limits.TheConstants.{SLICES, MAX_BLOCK_LEN, MAX_REFERENCES}
use Rattle.block_format.specs.Content.{Content, content_in, is_invisible, lace_of}
use Rattle.block_format.specs.Block.{Block, nanoseconds, time_of, has_too_large_time, simple_block_with}

-- the rules for reading blocks: with the limits of a reader or without, and the nanoseconds per tick. All definitions of reading blocks have them.
-- Used by `with_limits`, `without_limits` and others.
pub record Rules : Type 0 where
  pub limits : Bool
  pub scale : ℕ

-- the rules for reading with the limits of a reader, with `scale` nanoseconds per tick. `merge`, `extract` and `reindex` read so.
abbrev pub with_limits : ℕ → Rules
with_limits scale = record { limits = true; scale = scale }

-- the rules for reading a written file back, without the limits of a reader, with `scale` nanoseconds per tick. The laws on outputs read so.
abbrev pub without_limits : ℕ → Rules
without_limits scale = record { limits = false; scale = scale }

-- ---- every block

-- the damage of a SimpleBlock or BlockGroup with the header `h` that is longer than a reader's limit, if the rules `r` have limits. For
-- `timestamp_for`, when a file's blocks are read.
abbrev pub too_long : Rules → Header → Option Damage
too_long r h = where_it (r.limits && nat_lt MAX_BLOCK_LEN (known h.size)) (damage BlockTooLarge h.id h.offset)

-- the Timestamp of the Cluster before the block with the header `h`, or the damage NoTimestamp without one. For `timestamp_for`, when a file's blocks
-- are read.
abbrev pub timestamp_or : Header → Option ℕ → Result ℕ Damage
timestamp_or h None = Err (damage NoTimestamp h.id h.offset)
timestamp_or h (Some timestamp) = Ok timestamp

-- the Timestamp `timestamp` of the Cluster before the block with the header `h`, if there is one. Otherwise, or if the block is too long by the rules
-- `r`, it is the damage of the block. For `simple_block` and `block_group`, when a file's blocks are read.
abbrev pub timestamp_for : Rules → Option ℕ → Header → Result ℕ Damage
timestamp_for r timestamp h = and_then (unless (too_long r h) timestamp) (timestamp_or h)

-- the given result, whose damage gets the ID `id` and the offset `offset` of its Element. For damage of a block's content, when a file's blocks are
-- read.
abbrev pub at_place : {A : Type 0} → ℕ → ℕ → Result A Kind → Result A Damage
at_place id offset (Ok x) = Ok x
at_place id offset (Err kind) = Err (damage kind id offset)

-- the block `block`, or the damage TimeTooLarge of its Element with the ID `id` if a time is too large for a reader. `r` are the rules of reading.
-- The last check of `simple_block` and `group_among`, when a file's blocks are read.
abbrev pub in_time : Rules → ℕ → Block → Result Block Damage
in_time r id block = unless (where_it (r.limits && has_too_large_time block) (damage TimeTooLarge id block.offset)) block

-- ---- a SimpleBlock

-- the block of the SimpleBlock `h` in the content `bytes` after the Timestamp `timestamp` of its Cluster, or its first damage. `r` are the rules of
-- reading. For `found_at`, when a file's blocks are read.
unfoldable pub simple_block : Rules → List ℕ → Option ℕ → Header → Result Block Damage
simple_block r bytes timestamp h =
    and_then (timestamp_for r timestamp h) (λ time.
    and_then (at_place h.id h.offset (content_in (body_of bytes h))) (λ content.
    in_time r h.id (simple_block_with r.scale time h.offset content)))

-- ---- a BlockGroup

-- the children of the BlockGroup `h` in the content `bytes`, up to the first damage. For `group_children`, when a file's blocks are read.
abbrev pub group_run : List ℕ → Header → Run
group_run bytes h = children_in in_master bytes h.body (stated_end h)

-- the damage of the first child in `run` of a BlockGroup that isn't a value of its kind, or the damage after its children. `bytes` is the file. For
-- `group_children`, when a file's blocks are read.
abbrev pub group_refusal : List ℕ → Run → Option Damage
group_refusal bytes run = first_damage (bad_value bytes BLOCK_GROUP run.list ∷ run.damage ∷ [])

-- the children of the BlockGroup `h` in the content `bytes`, or the first damage among them. For `block_group`, when a file's blocks are read.
abbrev pub group_children : List ℕ → Header → Result (List Header) Damage
group_children bytes h = unless (group_refusal bytes (group_run bytes h)) (group_run bytes h).list

-- the first Block of the BlockGroup `h`, given as the second argument if there is one, or the damage MissingChild. For `block_group`, when a file's
-- blocks are read.
abbrev pub block_or : Header → Option Header → Result Header Damage
block_or h None = Err (damage MissingChild BLOCK h.offset)
block_or h (Some block) = Ok block

-- the ReferenceBlocks among `children` of a BlockGroup; each of them counts. For the limit, the references and the keyframe flag of a group.
abbrev pub references_among : List Header → List Header
references_among children = filter (λ c. c.id == REFERENCE_BLOCK) children

-- the damage of the first ReferenceBlock among `children` after a reader's limit, if the rules `r` have limits. For `group_among`, when a file's
-- blocks are read.
abbrev pub too_many_references : Rules → List Header → Option Damage
too_many_references r children =
    if r.limits then option_map (λ (c : Header). damage TooMany c.id c.offset) (slice_get (references_among children) MAX_REFERENCES) else None

-- the duration in nanoseconds by the first BlockDuration among `children` of a BlockGroup, if there is one; `scale` is the nanoseconds per tick.
-- `bytes` is the file. For `group_with`, when a file's blocks are read.
abbrev pub duration_of : ℕ → List ℕ → List Header → Option ℕ
duration_of scale bytes children = option_map (λ (c : Header). uint_of (body_of bytes c) * scale) (first_of BLOCK_DURATION children)

-- the references in nanoseconds by the ReferenceBlocks among `children` of a BlockGroup; `scale` is the nanoseconds per tick. `bytes` is the file.
-- For `group_with`, when a file's blocks are read.
abbrev pub references_of : ℕ → List ℕ → List Header → List ℤ
references_of scale bytes children = map (λ (c : Header). nanoseconds scale (int_of (body_of bytes c))) (references_among children)

-- the IDs of children of a BlockGroup that aren't kept: the parts of the block itself, and Elements that don't describe it. For `is_kept`, when a
-- file's blocks are read.
abbrev pub left_out : List ℕ
left_out = BLOCK ∷ BLOCK_DURATION ∷ REFERENCE_BLOCK ∷ VOID ∷ CRC_32 ∷ SLICES ∷ []

-- An output keeps each child of a BlockGroup with the ID `id`, as it is. For `kept_of`, when a file's blocks are read.
abbrev pub is_kept : ℕ → Bool
is_kept id = not (list_any (λ other. id == other) left_out)

-- the bytes of the Element with the header `h` in the content `bytes`, its header included. For `kept_of`, when a file's blocks are read.
abbrev pub element_octets : List ℕ → Header → List ℕ
element_octets bytes h = octets_between bytes h.offset (stated_end h)

-- the bytes of the kept ones among `children` of a BlockGroup, in their order. `bytes` is the file. They are what `merge` copies to an output.
abbrev pub kept_of : List ℕ → List Header → List ℕ
kept_of bytes children = flat_map (λ (c : Header). element_octets bytes c) (filter (λ (c : Header). is_kept c.id) children)

-- the block of a BlockGroup at the offset `offset`, with the children `children` and the content `content` of its Block. It is a keyframe if it has
-- no references. `bytes` is the file, and its Cluster has the Timestamp `timestamp`, in ticks of `scale` nanoseconds. For `group_among`, when a
-- file's blocks are read.
abbrev pub group_with : ℕ → List ℕ → ℕ → ℕ → List Header → Content → Block
group_with scale bytes timestamp offset children content = record {
  track = content.track;
  time = time_of scale timestamp content;
  key = length (references_among children) == 0;
  invisible = is_invisible content.flags;
  discardable = false;
  group = true;
  lace = lace_of content.flags;
  frames = content.frames;
  duration = duration_of scale bytes children;
  references = references_of scale bytes children;
  kept = kept_of bytes children;
  offset = offset;
}

-- the block of a BlockGroup at the offset `offset`, with the children `children` and the Block `block`, or its first damage. `r` are the rules of
-- reading, `bytes` is the file, and `timestamp` the Timestamp of its Cluster in ticks. For `block_group`, when a file's blocks are read.
abbrev pub group_among : Rules → List ℕ → ℕ → ℕ → List Header → Header → Result Block Damage
group_among r bytes timestamp offset children block =
    and_then (at_place BLOCK offset (content_in (body_of bytes block))) (λ content.
    and_then (unless (too_many_references r children) content) (λ content.
    in_time r BLOCK (group_with r.scale bytes timestamp offset children content)))

-- the block of the BlockGroup `h` in the content `bytes` after the Timestamp `timestamp` of its Cluster, or its first damage. `r` are the rules of
-- reading. For `found_at`, when a file's blocks are read.
unfoldable pub block_group : Rules → List ℕ → Option ℕ → Header → Result Block Damage
block_group r bytes timestamp h =
    and_then (timestamp_for r timestamp h) (λ time.
    and_then (group_children bytes h) (λ children.
    and_then (block_or h (first_of BLOCK children)) (group_among r bytes time h.offset children)))
