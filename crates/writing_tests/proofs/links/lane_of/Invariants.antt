use Rattle.std.proofs.Common.{◌≡◌, length}
use Rattle.std.specs.List.{All}
use Rattle.mkv_io.specs.Sources.{live_files}
use Rattle.merge_model.specs.FileLinks.{IsOpenLink, IsSmallLink}
use Rattle.writing_tests.proofs.links.lane_of.Given as goal

abbrev pub invariant-loop-taken : goal.invariant-loop-taken
invariant-loop-taken g l = record {
  standing : g.R.Reads.standing l.src ≡ g.R.Reads.standing l.initial.src;
  opened : All (IsOpenLink (live_files g.R.Reads l.src)) l.links;
  small : All IsSmallLink l.links;
  count : length l.links ≡ l.taken-index;
}
