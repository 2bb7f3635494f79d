-- The first Cues of a file: RFC 9559, section 5.1.5 (Cues Element). Its limits are this project's.
use Rattle.std.specs.Prelude.{◌≡◌, ℕ, List, Option, Some, None, Result, Ok}
use Rattle.mkv_schema.specs.declared.ids.TheConstants.{CUES}
use Rattle.mkv_io.specs.declared.damage.Damage.{Damage}
use Rattle.mkv_schema.specs.declared.element.Header.{Header}
use Rattle.mkv_schema.specs.declared.limits.TheConstants.{MAX_CUES_LEN}
use Rattle.mkv_schema.specs.Outline.{over, segment_run}
use Rattle.mkv_io.specs.Results.{and_then, unless}
use Rattle.mkv_schema.specs.Value.{body_of, first_of}
use Rattle.tree_format.specs.Node.{Node}
use Rattle.element_reader.specs.Outline.{FileOutline, outline_in}
use Rattle.element_reader.specs.declared.outline_end.OutlineEnd.{OutlineEnd}
use Rattle.meta_records.specs.Records.{ReadsAs}
use Rattle.tree_format.specs.Reading.{tree_of}
use Rattle.extractors.specs.declared.limits.TheConstants.{MAX_CUE_NODES}

-- the Cues with the given header in the content `bytes` of a file, as a tree, or None without a header. The error is the damage that it is refused
-- for: too long, too many Elements, or damaged inside.
abbrev pub cues_at : List ℕ → Option Header → Result (Option Node) Damage
cues_at bytes None = Ok None
cues_at bytes (Some h) =
    and_then (unless (over MAX_CUES_LEN h) (body_of bytes h)) (λ body.
    and_then (tree_of CUES h.offset body h.body MAX_CUE_NODES) (λ tree. Ok (Some tree)))

-- the first Cues at level 1 of the Segment with header `segment` in the content `bytes`, as a tree, or None if there is none, or its refusal.
-- `extract FILE cues` reads it.
abbrev pub first_cues : List ℕ → Header → Result (Option Node) Damage
first_cues bytes segment = cues_at bytes (first_of CUES (segment_run bytes segment).list)

-- If the content `bytes` has the outline `outline`, `result` is its first Cues, the refusal of the Cues, or a failed read or allocation. It is the
-- contract of `first_cues`.
abbrev pub ReadsFirstCues : FileOutline → Result (Option Node) OutlineEnd → List ℕ → Type 0
ReadsFirstCues outline result bytes = (held : ℕ) → outline_in held bytes ≡ Ok outline → ReadsAs (first_cues bytes outline.segment) result
