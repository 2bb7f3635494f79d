-- The points of the blocks that were passed, in sequence.
use Rattle.std.proofs.Common.{length, refl, sym, ◌∙◌, ap, subst, arith}
use Rattle.mkv_io.specs.declared.outside.FileId.{FileId}
use Rattle.mkv_io.specs.LiveFiles.{LiveFiles}
use Rattle.cluster_reader.specs.Reading.{CanRead, left_of}
use Rattle.reindex.proofs.ClustersLemmas.{StaysReady-none, StaysReady-then}
use Rattle.reindex.proofs.PointsLemmas.{HaveCome-whole, HaveRead-begins, HaveRead-more, pays-both}
use Rattle.reindex.proofs.reading.collect.Goals as goal

pub steps-init : goal.steps-init
steps-init g c =
    let none = ap length c.new-points.ensures in
    record {
      read = λ bytes told. HaveRead-begins c.args.by.now bytes c.args.clusters.now (left_of bytes c.args.cursor.now) c.new-points.result c.new-points.ensures;
      few = omega arith;
      ready = c.requires.stands;
      file = refl;
      lists = StaysReady-none _ c.args.clusters.now c.requires.ready;
      standing = refl;
      faults = refl;
      window = c.requires.window;
      pays = omega arith;
    }

-- A block was read.
pub steps-preserved : goal.steps-preserved
steps-preserved g c =
    let so = c.steps.invariant in
    let step = c.in_ok-advance_for.ensures in
    let add = c.in_ok-add_point-in-Block.ensures in
    let same = ap (λ (f : FileId). (g.R.Reads.files (g.R.Reads.standing c.steps.src)).content f.n) so.file ∙ ap (λ s. (g.R.Reads.files s).content c.args.cursor.now.file.n) so.standing in
    let listed = so.lists.file ∙ c.requires.file in
    let stands = step.standing ∙ so.standing in
    let list_same = ap (λ (f : FileId). (g.R.Reads.files (g.R.Reads.standing c.advance_for.new.src)).content f.n) listed ∙ ap (λ s. (g.R.Reads.files s).content c.args.cursor.now.file.n) stands in
    let list_size = ap (λ (f : FileId). (g.R.Reads.files (g.R.Reads.standing c.advance_for.new.src)).size f.n) listed ∙ ap (λ s. (g.R.Reads.files s).size c.args.cursor.now.file.n) stands in
    let paid_both = pays-both _ _ _ _ _ _ c.args.cursor.now c.steps.cursor c.advance_for.new.self _ c.steps.clusters.level.ahead c.add_point.new.clusters.level.ahead _ _ list_size so.pays step.spends.pays so.window add.goes in
    record {
      read = λ bytes told.
          let given = rw c.in-Block.is at (step.gives bytes (same ∙ told)) in
          HaveRead-more c.args.by.now bytes c.args.clusters.now c.steps.clusters c.add_point.new.clusters (left_of bytes c.args.cursor.now) (left_of bytes c.steps.cursor) (left_of bytes c.advance_for.new.self) c.steps.points c.add_point.new.points given.given c.advance_for.new.self.block
          (so.read bytes told) given.left given.known.head add.reached (λ list come before. add.adds bytes (list_same ∙ told) list come before);
      few = add.few;
      ready = let P : LiveFiles → Type 0 = λ files. CanRead files c.advance_for.new.self in subst P (sym (ap (λ s. g.R.Reads.files s) add.same.standing)) step.stands;
      file = step.moves.same.file ∙ so.file;
      lists = StaysReady-then _ _ c.args.clusters.now c.steps.clusters c.add_point.new.clusters c.add_point.new.clusters so.lists add.ready refl;
      standing = add.same.standing ∙ stands;
      faults = add.cause ∙ step.cause ∙ so.faults;
      window = paid_both.place;
      pays = paid_both.pays;
    }

-- No block is left.
pub returns-in-End-clause-exact : goal.returns-in-End-clause-exact
returns-in-End-clause-exact g c = λ bytes told list come ascend.
    let so = c.steps.invariant in
    let same = ap (λ (f : FileId). (g.R.Reads.files (g.R.Reads.standing c.steps.src)).content f.n) so.file ∙ ap (λ s. (g.R.Reads.files s).content c.args.cursor.now.file.n) so.standing in
    let ends = rw c.in-End.is at (c.in_ok-advance_for.ensures.gives bytes (same ∙ told)) in
    let read = so.read bytes told in
    HaveCome-whole c.args.by.now list bytes c.args.clusters.now c.steps.clusters (left_of bytes c.args.cursor.now) (left_of bytes c.steps.cursor) c.steps.points read.passed (read.come list) read.met ends.0 come ascend
