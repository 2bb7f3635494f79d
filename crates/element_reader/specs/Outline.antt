-- The outline of a file, as `Outline` has it: RFC 9559, section 4.5 (Data Layout).
use Rattle.std.specs.Prelude.{◌≡◌, ℕ, ⊤, Bool, true, false, ◌==◌, if◌then◌else◌, List, length, Option, Result, Ok, Err}
use Rattle.mkv_schema.specs.declared.ids.TheConstants.{CLUSTER}
use Rattle.mkv_io.specs.declared.damage.Damage.{Damage}
use Rattle.mkv_schema.specs.declared.element.Header.{Header}
use Rattle.mkv_schema.specs.Outline.{Outlined, described, outline_of}
use Rattle.mkv_io.specs.Results.{and_then}
use Rattle.mkv_schema.specs.Value.{first_of}
use Rattle.element_reader.specs.Collected.{last_element, others_of}
use Rattle.element_reader.specs.declared.outline_end.OutlineEnd.{OutlineEnd}
use Rattle.element_reader.specs.declared.outline_end.OutlineEnd.TheVariants as outline_end

-- the outline of a file, with which each command that reads a file begins. It has the length of the file, its EBML header and its Segment, its
-- Elements at level 1 other than Clusters, its first Cluster, and its last Element. Then comes the number of bytes of all Info, Tracks, Chapters and
-- Tags. The last two are the damage that ends level 1, if any, and the offset of the end of the Segment. Used by `shown`, `outline_in` and others.
pub record FileOutline : Type 0 where
  pub total : ℕ
  pub ebml : Header
  pub segment : Header
  pub others : List Header
  pub cluster : Option Header
  pub last : Option Header
  pub held : ℕ
  pub damage : Option Damage
  pub end : ℕ

-- the outline, as the code keeps it, of a file with the content `bytes`, whose Elements are `o`; for `outline_in`
abbrev pub shown : List ℕ → Outlined → FileOutline
shown bytes o = record {
  total = length bytes;
  ebml = o.ebml;
  segment = o.segment;
  others = others_of o.list;
  cluster = first_of CLUSTER o.list;
  last = last_element o.list;
  held = described o.list;
  damage = o.damage;
  end = o.end;
}

-- the outline of a file with the content `bytes`, or the damage for which it is refused. Earlier inputs of a merge have `held` bytes of Info, Tracks,
-- Chapters and Tags; for other commands it is 0. Used by `read`, `read_after` and others.
abbrev pub outline_in : ℕ → List ℕ → Result FileOutline Damage
outline_in held bytes = and_then (outline_of held bytes) (λ o. Ok (shown bytes o))

-- the first Element at level 1 with the ID `id` in the outline `o`, or None if there is none; for the contract of `first`
abbrev pub first_in : ℕ → FileOutline → Option Header
first_in id o = if id == CLUSTER then o.cluster else first_of id o.others

-- The last argument, the result of reading an outline, has `found`, the outline or the refusal by the definitions, unless a read failed or memory ran
-- out.
abbrev pub IsOutline : Result FileOutline Damage → Result FileOutline OutlineEnd → Type 0
IsOutline found (Ok o) = found ≡ Ok o
IsOutline found (Err (outline_end.Refused d)) = found ≡ Err d
IsOutline found (Err outline_end.ReadFault) = ⊤
IsOutline found (Err outline_end.Memory) = ⊤

-- An outline or a record of the file wasn't read because a read failed; the argument is the reason that the call returned. Used by `read`,
-- `read_after` and others.
abbrev pub is_outline_fault : OutlineEnd → Bool
is_outline_fault (outline_end.Refused d) = false
is_outline_fault outline_end.ReadFault = true
is_outline_fault outline_end.Memory = false
