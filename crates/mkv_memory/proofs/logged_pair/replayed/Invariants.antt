use Rattle.std.proofs.Common.{◌≡◌, drop, length}
use Rattle.mkv_disk.specs.Pair.{Pair, both, file_of}
use Rattle.mkv_memory.specs.Changes.{CanReplay, replay}
use Rattle.mkv_memory.specs.LogIn.{made_in, octets_by}
use Rattle.mkv_memory.specs.Shows.{Shows}
use Rattle.mkv_memory.proofs.logged_pair.replayed.Given as goal

-- The calls that were replayed, and the remaining ones.
abbrev pub invariant-loop-call : goal.invariant-loop-call
invariant-loop-call l = record {
  count : length l.rest ≡ octets_by (drop l.call-index l.calls);
  now : Pair;
  can : CanReplay (made_in (drop l.call-index l.calls) l.rest) now;
  shows : Shows l.pending (file_of l.file.n now);
  left : replay (made_in (drop l.call-index l.calls) l.rest) now ≡ replay (made_in l.calls l.octets) (both l.media l.sidecar);
}
