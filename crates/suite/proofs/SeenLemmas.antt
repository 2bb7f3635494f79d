-- The clauses of a run on its files, disk and report, as predicates on what can be seen of them.
use Rattle.std.proofs.Common.{◌≡◌, ◌⊎◌, ℕ, List, Some, inl, inr, ap, subst}
use Rattle.mkv_io.specs.Sources.{live_files}
use Rattle.mkv_io.specs.declared.files.Files.{Ghosts as FilesGhosts}
use Rattle.mkv_io.specs.declared.reads.Reads.{Ghosts as ReadsGhosts}
use Rattle.mkv_io.specs.declared.report.Report.{Ghosts as ReportGhosts}
use Rattle.mkv_disk.specs.Moments.{LeavesOnly}
use Rattle.mkv_disk.specs.declared.disk.Disk.{Ghosts as DiskGhosts}
use Rattle.mkv_lines.specs.declared.status.Status.{Status}
use Rattle.mkv_lines.specs.declared.status.Status.TheVariants as status
use Rattle.mkv_propedit.specs.Left.{IsEdit, writes_of_edits}
use Rattle.mkv_propedit.specs.Recovery.{IsUnopened}
use Rattle.mkv_propedit.specs.Reindex.{writes_of_index}
use Rattle.requests.specs.declared.edit.Edit.{Edit}
use Rattle.edit_laws.specs.IndexLaws.{NewIndexIsWhole}
use Rattle.edit_laws.specs.Laws.{EditsChangeNothingElse}
use Rattle.suite.specs.Outside.{Outside, outside}
use Rattle.suite.proofs.KeptLemmas.{edit-keeps, index-keeps}
use Rattle.suite.specs.Runs.{CrashLeavesOnly, DiskStays, FilesStay, IndexesAll, KeepsRestOf, Leaves, OpensOrLeaves}
use Rattle.mkv_run.specs.Touched.{Reach, Touches, edited, files, indexed, nothing, recovered}

module _ {F D R : Type 0} (r : ReadsGhosts F) (f : FilesGhosts F) (s : ReadsGhosts D) (d : DiskGhosts D) (p : ReportGhosts R)
    (was now : F) (old new : D) (report report' : R)
    (pairs : (a b : D) → s.standing a ≡ s.standing b → d.pair a ≡ d.pair b)
    (names : (a b : D) → s.standing a ≡ s.standing b → d.opened a ≡ d.opened b) where
  abbrev before : Outside
  before = outside r f s d p was old report

  abbrev after : Outside
  after = outside r f s d p now new report'

  -- Unchanged files look the same.
  files-stay : now ≡ was → FilesStay before after
  files-stay same = record {
    names = ap f.names same;
    live = ap (λ (x : F). (live_files r x).live) same;
    asked = ap f.asked same;
    reading = ap r.reading_faults same;
    writing = ap f.writing_faults same;
    read = ap r.octets_read same;
  }

  -- An unchanged disk looks the same.
  disk-stays : new ≡ old → DiskStays before after
  disk-stays same = record {
    disk = λ i. record { pair = d.pair (same i); opened = d.opened (same i) };
    faults = λ i. record { reading = s.reading_faults (same i); writing = d.writing_faults (same i) };
    is_there = ap d.is_there same;
    read = ap s.octets_read same;
    moment = ap d.moment same;
    crash = λ t m n left. subst (λ (disk : D). d.left_since disk t m n) same left;
  }

  -- A pair that wasn't opened is unchanged.
  unopened : (name : List ℕ) (e : Status) → IsUnopened s d name old new e → OpensOrLeaves name before after e
  unopened name e is =
      let pair = pairs new old is.standing in
      let opened = names new old is.standing in
      inr (λ i. record { pair = pair i; opened = opened i }, is.not_done, is.missing)

  opens : (name : List ℕ) (e : Status) → (d.opened new ≡ Some name) ⊎ IsUnopened s d name old new e → OpensOrLeaves name before after e
  opens name e (inl is) = inl is
  opens name e (inr is) = unopened name e is

  -- A successful edit keeps the rest of its file.
  rest-kept : EditsChangeNothingElse → (edits : List Edit) (e : Status) → IsEdit d (writes_of_edits edits) old new e → KeepsRestOf edits before after e
  rest-kept law edits status.Done is = edit-keeps d edits old new law is
  rest-kept law edits status.Warned is = tt
  rest-kept law edits status.Refused is = tt
  rest-kept law edits status.NoMemory is = tt
  rest-kept law edits status.Outside is = tt

  -- So does a new index.
  all-indexed : NewIndexIsWhole → (e : Status) → IsEdit d writes_of_index old new e → IndexesAll before after e
  all-indexed law status.Done is = index-keeps d old new law is
  all-indexed law status.Warned is = tt
  all-indexed law status.Refused is = tt
  all-indexed law status.NoMemory is = tt
  all-indexed law status.Outside is = tt

  -- Objects that a command doesn't work on look the same, and an edit or a new index keeps the rest of its file.
  pub leaves-seen : EditsChangeNothingElse → NewIndexIsWhole → (reach : Reach) (e : Status) → Touches s d reach was now old new e → Leaves reach before after e
  leaves-seen edit index nothing e touches = (files-stay touches.0, disk-stays touches.1)
  leaves-seen edit index files e touches = disk-stays touches
  leaves-seen edit index (recovered file) e touches = (files-stay touches.0, opens file e touches.1.opened, touches.1.leaves.pair)
  leaves-seen edit index (edited file edits) e touches =
      (files-stay touches.0, opens file e touches.1.opened, touches.1.leaves.pair, rest-kept edit edits e touches.1.leaves)
  leaves-seen edit index (indexed file) e touches =
      (files-stay touches.0, opens file e touches.1.opened, touches.1.leaves.pair, all-indexed index e touches.1.leaves)

  -- A crash leaves only what the command allows.
  pub crash-seen : (P : List ℕ → List ℕ → Type 0) → LeavesOnly d.moment d.left_since old new P → CrashLeavesOnly before after P
  crash-seen P leaves = record { later = leaves.later; each = leaves.each; earlier = leaves.before; keeps = leaves.keeps }
