-- All numbers are the numbers that were found and the numbers of the rest.
use Rattle.std.proofs.Common.{◌≡◌, ◌++◌, drop}
use Rattle.reindex.specs.Points.{indexed_tracks}
use Rattle.reindex.proofs.tracks.indexed_tracks.Given as goal

abbrev pub invariant-loop-tree : goal.invariant-loop-tree
invariant-loop-tree l = l.numbers ++ indexed_tracks (drop l.tree-index l.tracks) ≡ indexed_tracks l.tracks
