-- The walk advances, and stops if the next Element isn't before the offset.
use Rattle.std.proofs.Common.{◌≡◌, refl, sym, ◌∙◌, ap, subst, arith}
use Rattle.mkv_io.specs.declared.outside.FileId.{FileId}
use Rattle.elements.specs.Window.{MovesTo}
use Rattle.element_reader.specs.LevelOne.{Listing}
use Rattle.reindex.specs.declared.clusters.Clusters.{Clusters}
use Rattle.reindex.proofs.ClustersLemmas.{HasComeTo-later, HasComeTo-looked, HasComeTo-passes, HasReached-end, HasReached-here, MovesTo-then, StaysReady-then}
use Rattle.reindex.proofs.clusters.Clusters.go_to.Goals as goal

pub passing-preserved : goal.passing-preserved
passing-preserved g c =
    let so = c.passing.invariant in
    let look = c.in_ok-header.ensures in
    let level : c.pass.new.self.level ≡ c.look.new.self.level = ap (λ (w : Clusters). w.level) c.pass.ensures in
    let same = ap (λ (f : FileId). (g.R.Reads.files (g.R.Reads.standing c.passing.src)).content f.n) so.ready.file ∙ ap (λ s. (g.R.Reads.files s).content c.args.self.now.level.file.n) so.standing in
    let size = ap (λ (f : FileId). (g.R.Reads.files (g.R.Reads.standing c.passing.src)).size f.n) so.ready.file ∙ ap (λ s. (g.R.Reads.files s).size c.args.self.now.level.file.n) so.standing in
    let more = look.same.octets in
    let before = so.octets in
    record {
      ready = StaysReady-then _ _ _ c.passing.self c.look.new.self c.pass.new.self so.ready look.ready level;
      reached = ap (λ (w : Clusters). w.reached) c.pass.ensures ∙ look.kept.1 ∙ so.reached;
      come = λ bytes told list come.
          HasComeTo-passes bytes list c.look.new.self c.pass.new.self c.in-Some.header
          (HasComeTo-looked bytes list c.passing.self c.look.new.self c.in_ok-header.field-0 (so.come bytes told list come) (look.exact bytes (same ∙ told)) look.kept)
          (look.next.next ∙ c.in-Some.is) c.if-header-self.false c.pass.ensures;
      standing = look.same.standing ∙ so.standing;
      faults = look.cause ∙ so.faults;
      octets = omega arith;
      moves = λ place.
          let P : Listing → Type 0 = λ l. MovesTo ((g.R.Reads.files (g.R.Reads.standing c.args.src.now)).size c.args.self.now.level.file.n) l.at c.args.self.now.level.ahead l.ahead (g.R.Reads.octets_read c.args.src.now) (g.R.Reads.octets_read c.look.new.src) in
          subst P (sym level) (MovesTo-then _ _ c.passing.self.level.at c.look.new.self.level.at c.args.self.now.level.ahead c.passing.self.level.ahead c.look.new.self.level.ahead _ _ _ size (so.moves place) look.goes);
    }

-- The next Element is at the offset or after it.
pub returns-then-header-self-clause-exact : goal.returns-then-header-self-clause-exact
returns-then-header-self-clause-exact g c = λ bytes told list come.
    let so = c.passing.invariant in
    let look = c.in_ok-header.ensures in
    let further = c.max-self.ensures in
    let same = ap (λ (f : FileId). (g.R.Reads.files (g.R.Reads.standing c.passing.src)).content f.n) so.ready.file ∙ ap (λ s. (g.R.Reads.files s).content c.args.self.now.level.file.n) so.standing in
    HasReached-here bytes list c.look.new.self c.in-Some.header
    (HasComeTo-looked bytes list c.passing.self c.look.new.self c.in_ok-header.field-0
    (so.come bytes told list (HasComeTo-later bytes list c.args.self.now _ come refl refl refl (omega arith))) (look.exact bytes (same ∙ told)) look.kept)
    (look.next.next ∙ c.in-Some.is) c.if-header-self.true

-- No Element is left.
pub returns-in_default-clause-exact : goal.returns-in_default-clause-exact
returns-in_default-clause-exact g c = λ bytes told list come.
    let so = c.passing.invariant in
    let look = c.in_ok-header.ensures in
    let further = c.max-self.ensures in
    let same = ap (λ (f : FileId). (g.R.Reads.files (g.R.Reads.standing c.passing.src)).content f.n) so.ready.file ∙ ap (λ s. (g.R.Reads.files s).content c.args.self.now.level.file.n) so.standing in
    let looks = look.exact bytes (same ∙ told) in
    HasReached-end bytes list c.look.new.self
    (HasComeTo-looked bytes list c.passing.self c.look.new.self c.in_ok-header.field-0
    (so.come bytes told list (HasComeTo-later bytes list c.args.self.now _ come refl refl refl (omega arith))) looks look.kept)
    (looks.none c.in_default.is)
