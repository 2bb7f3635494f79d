-- None of the first files lacks a track.
use Rattle.std.proofs.Common.{◌≡◌}
use Rattle.std.specs.List.{enumerate_from, list_any}
use Rattle.mkv_merge.specs.Merge.{has_absent, lacks_track}
use Rattle.mkv_merge.specs.Prepared.{reads_in}
use Rattle.mkv_merge.proofs.TellingLemmas.{files_left}
use Rattle.mkv_merge.proofs.telling.has_absent.Given as goal

abbrev pub invariant-loop-k : goal.invariant-loop-k
invariant-loop-k l = has_absent l.words (reads_in l.inputs) ≡ list_any (lacks_track l.words) (enumerate_from l.k (files_left l.words.files l.inputs l.k))
