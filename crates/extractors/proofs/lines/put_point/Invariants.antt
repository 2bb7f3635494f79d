-- The bytes that were appended and the lines of the rest are the whole.
use Rattle.std.proofs.Common.{◌≡◌, ◌++◌, drop, flat_map}
use Rattle.std.specs.String.{string_bytes}
use Rattle.mkv_schema.specs.declared.ids.TheConstants.{CUE_TRACK_POSITIONS}
use Rattle.tree_format.specs.Changes.{part}
use Rattle.extractors.specs.Lines.{place_lines}
use Rattle.extractors.proofs.lines.put_point.Given as goal

abbrev pub invariant-loop-place : goal.invariant-loop-place
invariant-loop-place l =
    string_bytes l.out ++ flat_map (place_lines l.time l.track) (part CUE_TRACK_POSITIONS (drop l.place-index l.place-items))
    ≡ string_bytes l.fn.out ++ flat_map (place_lines l.time l.track) (part CUE_TRACK_POSITIONS l.place-items)
