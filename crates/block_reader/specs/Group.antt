-- Facts that a reader gathers from the children of a BlockGroup.
use Rattle.std.specs.Prelude.{◌≡◌, ◌≤◌, ◌⊎◌, ℕ, true, List, map, take, slice_get, Some, None, Result, Ok, Err}
use Rattle.std.specs.Option.{option_map}
use Rattle.ebml_numbers.specs.Number.{uint_of, int_of}
use Rattle.mkv_schema.specs.declared.ids.TheConstants.{BLOCK, BLOCK_DURATION, REFERENCE_BLOCK, VOID, CRC_32}
use Rattle.mkv_io.specs.declared.damage.Damage.{Damage}
use Rattle.mkv_schema.specs.declared.element.Header.{Header}
use Rattle.mkv_schema.specs.Element.{in_master, stated_end}
use Rattle.mkv_schema.specs.Elements.{Run, children_in}
use Rattle.mkv_schema.specs.Value.{body_of, first_of}
use Rattle.block_format.specs.declared.limits.TheConstants.{SLICES, MAX_REFERENCES}
use Rattle.block_format.specs.Elements.{group_refusal, references_among, is_kept, kept_of, element_octets}
use Rattle.block_reader.specs.declared.gathered.Gathered.{Gathered}
use Rattle.block_reader.specs.declared.gathered.Part.{Part}
use Rattle.block_reader.specs.declared.gathered.Part.TheVariants as part
use Rattle.elements.specs.Body.{IfBody, IsBody, end_behind}

-- `g` has the data of the children `children` of a BlockGroup, in the file with the content `bytes`. They are the first Block, the first
-- BlockDuration, the first 64 ReferenceBlocks in ticks, the first surplus one, and the bytes of kept children.
pub record Gathers (bytes : List ℕ) (children : List Header) (g : Gathered) : Type 0 where
  pub block : g.block ≡ first_of BLOCK children
  pub duration : g.duration ≡ option_map (λ (c : Header). uint_of (body_of bytes c)) (first_of BLOCK_DURATION children)
  pub references : g.references.items ≡ map (λ (c : Header). int_of (body_of bytes c)) (take MAX_REFERENCES (references_among children))
  pub too_many : g.too_many ≡ slice_get (references_among children) MAX_REFERENCES
  pub kept : g.kept.items ≡ kept_of bytes children

-- The last argument is the result of gathering the children in `run` of a BlockGroup, in the file with the content `bytes`: none is damaged and `g`
-- has their data, or it is the first damage. Used by `GathersBody`.
abbrev pub GathersRun : {T : Type 0} → List ℕ → Run → Gathered → Result T Damage → Type 0
GathersRun bytes run g (Ok done) = (group_refusal bytes run ≡ None) × Gathers bytes run.list g
GathersRun bytes run g (Err d) = group_refusal bytes run ≡ Some d

-- `found` is the result of gathering the children of a BlockGroup with the content `body`, at the offset `base` of a file of `total` bytes; the
-- contract of `gather`. `g` has their data, or `found` is the first damage.
abbrev pub GathersBody : {T : Type 0} → ℕ → ℕ → List ℕ → Gathered → Result T Damage → Type 0
GathersBody base total body g found = IfBody base total body (λ bytes. GathersRun bytes (children_in in_master bytes base (end_behind base body)) g found)

-- A child with the ID `id` has the given role in its BlockGroup, as `part_of` returns it.
abbrev pub IsPart : ℕ → Part → Type 0
IsPart id part.Block = id ≡ BLOCK
IsPart id part.Duration = id ≡ BLOCK_DURATION
IsPart id part.Reference = id ≡ REFERENCE_BLOCK
IsPart id part.Kept = is_kept id ≡ true
IsPart id part.LeftOut = (id ≡ VOID) ⊎ ((id ≡ CRC_32) ⊎ (id ≡ SLICES))

-- The content of the Element `h` is between the offsets `base` and `end` of a file; `gather` promises it of a Block in its BlockGroup.
pub record IsInside (base end : ℕ) (h : Header) : Type 0 where
  pub from : base ≤ h.body
  pub within : stated_end h ≤ end

-- `octets` are the bytes of the child `child` of a BlockGroup, header included, in each file with the content `body` of the group at the offset
-- `base`; the contract of `element_of`.
abbrev pub AreOctetsOf : ℕ → List ℕ → Header → List ℕ → Type 0
AreOctetsOf base body child octets = (bytes : List ℕ) (total : ℕ) → IsBody bytes base total body → octets ≡ element_octets bytes child
