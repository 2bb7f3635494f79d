-- The bytes that were appended and the lines of the rest are the whole.
use Rattle.std.proofs.Common.{◌≡◌, ◌++◌, drop, flat_map}
use Rattle.std.specs.String.{string_bytes}
use Rattle.mkv_schema.specs.declared.ids.TheConstants.{CUE_POINT}
use Rattle.tree_format.specs.Changes.{part}
use Rattle.extractors.specs.Lines.{point_lines}
use Rattle.extractors.proofs.lines.put_cues.Given as goal

abbrev pub invariant-loop-point : goal.invariant-loop-point
invariant-loop-point l =
    string_bytes l.out ++ flat_map (point_lines l.scale l.track) (part CUE_POINT (drop l.point-index l.point-items))
    ≡ string_bytes l.fn.out ++ flat_map (point_lines l.scale l.track) (part CUE_POINT l.point-items)
