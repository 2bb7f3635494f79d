-- The set has the usual names, and those that the previous children list.
use Rattle.std.proofs.Common.{◌++◌, take, flat_map}
use Rattle.record_changes.specs.Statistics.{HasSame, bytes_of, names_listed, usual_names}
use Rattle.record_changes.proofs.statistics.statistics_names.Given as goal

abbrev pub invariant-loop-child : goal.invariant-loop-child
invariant-loop-child l = HasSame (bytes_of l.names.keys) (usual_names ++ flat_map names_listed (take l.child-index l.child-items))
