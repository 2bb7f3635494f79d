use Rattle.std.proofs.Common.{◌++◌, codes}
use Rattle.std.specs.String.{string_bytes}
use Rattle.mkv_schema.specs.declared.ids.TheConstants.{CUE_CLUSTER_POSITION, CUE_RELATIVE_POSITION}
use Rattle.tree_format.specs.Values.{integer_in}
use Rattle.extractors.specs.Lines.{number_or_dash}
use Rattle.extractors.proofs.LinesLemmas.{has_cluster, has_relative, joined}
use Rattle.extractors.proofs.lines.put_line.Goals as goal

-- The table has the integers in a CueTrackPositions.
pub put_integer-requires-clause-uint : goal.put_integer-requires-clause-uint
put_integer-requires-clause-uint c = has_cluster c.args.place.now c.requires

pub put_integer-requires-2-clause-uint : goal.put_integer-requires-2-clause-uint
put_integer-requires-2-clause-uint c = has_relative c.args.place.now c.requires

-- The line consists of four pieces in sequence.
pub returns : goal.returns
returns c =
    joined c.push_str.result (string_bytes c.args.out.now) (string_bytes c.put_number.new.out) (string_bytes c.put_integer.new.out) (string_bytes c.put_integer-2.new.out) (string_bytes c.push_str.new.self)
    (codes "timestamp=" ++ number_or_dash c.args.time) (codes " cluster_position=" ++ number_or_dash (integer_in CUE_CLUSTER_POSITION c.args.place.now)) (codes " relative_position=" ++ number_or_dash (integer_in CUE_RELATIVE_POSITION c.args.place.now)) (codes "\n")
    c.in_ok-put_number.ensures c.in_ok-put_integer.ensures c.in_ok-put_integer-2.ensures c.push_str.ensures.bytes
