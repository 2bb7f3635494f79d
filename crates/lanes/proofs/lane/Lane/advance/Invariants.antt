use Rattle.std.proofs.Common.{◌≡◌, ◌+◌, ◌≤◌}
use Rattle.std.specs.List.{All}
use Rattle.mkv_io.specs.Sources.{live_files}
use Rattle.merge_model.specs.FileLinks.{IsToldLink}
use Rattle.lanes.specs.Walks.{IsReady, due, left, told_in_all, way}
use Rattle.lanes.proofs.lane.Lane.advance.Given as goal

abbrev pub invariant-turns : goal.invariant-turns
invariant-turns g l = record {
  links : l.self-inside.links ≡ l.initial.self-inside.links;
  scale : l.self-inside.scale ≡ l.initial.self-inside.scale;
  given : l.self-inside.given ≡ l.initial.self-inside.given;
  standing : g.R.Reads.standing l.src ≡ g.R.Reads.standing l.initial.src;
  faults : g.R.Reads.reading_faults l.src ≡ g.R.Reads.reading_faults l.initial.src;
  ready : IsReady (live_files g.R.Reads l.src) l.self-inside.links.items l.self-inside.walk;
  left : All (IsToldLink (live_files g.R.Reads l.initial.src)) l.initial.self-inside.links.items → left (live_files g.R.Reads l.initial.src) l.initial.self-inside.scale l.initial.self-inside.links.items l.self-inside.walk ≡ left (live_files g.R.Reads l.initial.src) l.initial.self-inside.scale l.initial.self-inside.links.items l.initial.self-inside.walk;
  told : All (IsToldLink (live_files g.R.Reads l.initial.src)) l.initial.self-inside.links.items → told_in_all (live_files g.R.Reads l.initial.src) l.initial.self-inside.links.items l.self-inside.walk ≡ told_in_all (live_files g.R.Reads l.initial.src) l.initial.self-inside.links.items l.initial.self-inside.walk;
  on : way l.initial.self-inside.links.items l.self-inside.walk ≤ way l.initial.self-inside.links.items l.initial.self-inside.walk;
  pays : g.R.Reads.octets_read l.src + due (live_files g.R.Reads l.initial.src) l.initial.self-inside.links.items l.self-inside.walk ≤ g.R.Reads.octets_read l.initial.src + due (live_files g.R.Reads l.initial.src) l.initial.self-inside.links.items l.initial.self-inside.walk;
}

abbrev pub decreases-turns : goal.decreases-turns
decreases-turns g l = way l.self-inside.links.items l.self-inside.walk
