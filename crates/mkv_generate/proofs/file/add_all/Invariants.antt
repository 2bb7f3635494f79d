-- The blocks from the number `i` on remain, with any files before.
use Rattle.std.proofs.Common.{◌≡◌, ℕ, List, ◌∷◌, []}
use Rattle.mkv_io.specs.Names.{Names}
use Rattle.mkv_io.specs.Writing.{WritesOnly}
use Rattle.output_model.specs.Document.{Document}
use Rattle.cues_seekhead.specs.OpenOutput.{IsOpen}
use Rattle.mkv_generate.specs.Writing.{IsOnTheWay}
use Rattle.mkv_generate.proofs.FileLemmas.{lane_left}
use Rattle.mkv_generate.proofs.file.add_all.Given as goal

abbrev pub invariant-loop-i : goal.invariant-loop-i
invariant-loop-i g l = record {
  file : l.out.file ≡ l.initial.out.file;
  is_open : IsOpen g.F.Reads l.files l.out;
  only : WritesOnly g.F.Reads g.F.Files (g.F.Files.holder l.initial.files l.initial.out.file.n ∷ []) l.initial.files l.files;
  writing : g.F.Files.writing_faults l.files ≡ g.F.Files.writing_faults l.initial.files;
  way : (before : Names) (name : List ℕ) (d : Document) → IsOnTheWay g.F.Reads g.F.Files before name l.medium d l.initial.files l.initial.out l.initial.buffer (lane_left l.medium 0 l.count)
      → IsOnTheWay g.F.Reads g.F.Files before name l.medium d l.files l.out l.buffer (lane_left l.medium l.i l.count);
}
