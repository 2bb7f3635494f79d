use Rattle.std.proofs.Common.{◌≡◌, ◌∙◌, ◌+◌, ap, sym, subst, length, take}
use Rattle.mkv_disk.specs.Pair.{Pair}
use Rattle.mkv_disk.proofs.WritingLemmas.{IsLeft, cause-then, keeps-then, left-keeps, left-ready}
use Rattle.sidecar_edit.specs.declared.place.TheConstants.{HEAD, KEPT, MAX_OCTETS}
use Rattle.sidecar_edit.specs.declared.held.Gate.TheVariants.{Bad, Live, Quiet}
use Rattle.sidecar_edit.specs.Fields.{head_of}
use Rattle.sidecar_edit.specs.Gate.{IsLiveHead, state}
use Rattle.sidecar_edit.specs.Recovery.{if_live, is_disk_fault}
use Rattle.sidecar_edit.specs.Recovering.{IsRecovered}
use Rattle.sidecar_edit.proofs.RecoverLemmas.{recovering-after, recovering-reads, state-read}
use Rattle.sidecar_edit.proofs.recovery.recover.Given.{Over}
use Rattle.sidecar_edit.proofs.recovery.recover.Goals as goal

-- A read leaves the state.
stands : (g : Over) (old new : g.row.D.Denot) → g.D.Reads.standing new ≡ g.D.Reads.standing old → IsLeft g.D.Reads g.D.Disk old new
stands g old new same = record {
  standing = same;
  pair = g.met.D.Disk.pair_stands new old same;
  moment = g.met.D.Disk.moment_stands new old same;
  back = λ t m s. g.met.D.Disk.left_stands new old t m s same;
  forth = λ t m s. g.met.D.Disk.left_stands old new t m s (sym same);
  opened = g.met.D.Disk.opened_stands new old same;
  writing = g.met.D.Disk.writing_stands new old same;
}

-- ---- a read leaves everything unchanged

pub returns-in_err-count-clause-any_moment : goal.returns-in_err-count-clause-any_moment
returns-in_err-count-clause-any_moment g c = λ told.
    let a = c.args.disk.now in let b = c.read_first.new.src in
    recovering-reads g.D.Reads g.D.Disk a b (stands g a b c.read_first.ensures.only.standing) (c.requires.at_rest told) (λ m s left. g.met.D.Disk.only_now a m s told left)

pub returns-in-Quiet-clause-any_moment : goal.returns-in-Quiet-clause-any_moment
returns-in-Quiet-clause-any_moment g c = λ told.
    let a = c.args.disk.now in let b = c.read_first.new.src in
    recovering-reads g.D.Reads g.D.Disk a b (stands g a b c.read_first.ensures.only.standing) (c.requires.at_rest told) (λ m s left. g.met.D.Disk.only_now a m s told left)

pub returns-in-Bad-clause-any_moment : goal.returns-in-Bad-clause-any_moment
returns-in-Bad-clause-any_moment g c = λ told.
    let a = c.args.disk.now in let b = c.read_first.new.src in
    recovering-reads g.D.Reads g.D.Disk a b (stands g a b c.read_first.ensures.only.standing) (c.requires.at_rest told) (λ m s left. g.met.D.Disk.only_now a m s told left)

-- ---- the state depends on the first bytes

pub returns-in-Quiet-clause-ok : goal.returns-in-Quiet-clause-ok
returns-in-Quiet-clause-ok g c = λ told.
    let a = c.args.disk.now in let laws = g.met.D.Disk in
    let M = (g.D.Disk.pair a).media.reads in let S = (g.D.Disk.pair a).sidecar.reads in
    let size = g.met.D.Reads.told_size (g.D.Reads.standing a) 1 S (laws.contents a told).1 in
    let len : c.size.result ≡ length S = c.size.ensures.exact ∙ ap (λ s. (g.D.Reads.files s).size 1) c.read_first.ensures.only.standing ∙ sym size in
    ap (λ gate. if_live gate (head_of S) (length M) (take KEPT M))
    (state-read S (take c.in_ok-count.count c.read_first.new.first) c.size.result Quiet (c.in_ok-count.ensures.ok S (laws.contents a told).1) len (sym c.in-Quiet.is ∙ c.gate_of.ensures.exact))

pub returns-in-Bad-clause-ok : goal.returns-in-Bad-clause-ok
returns-in-Bad-clause-ok g c = λ told.
    let a = c.args.disk.now in let laws = g.met.D.Disk in
    let M = (g.D.Disk.pair a).media.reads in let S = (g.D.Disk.pair a).sidecar.reads in
    let size = g.met.D.Reads.told_size (g.D.Reads.standing a) 1 S (laws.contents a told).1 in
    let len : c.size.result ≡ length S = c.size.ensures.exact ∙ ap (λ s. (g.D.Reads.files s).size 1) c.read_first.ensures.only.standing ∙ sym size in
    ap (λ gate. if_live gate (head_of S) (length M) (take KEPT M))
    (state-read S (take c.in_ok-count.count c.read_first.new.first) c.size.result (Bad c.in-Bad.offset) (c.in_ok-count.ensures.ok S (laws.contents a told).1) len (sym c.in-Bad.is ∙ c.gate_of.ensures.exact))

pub redo_own-requires-clause-ready : goal.redo_own-requires-clause-ready
redo_own-requires-clause-ready g c =
    let a = c.args.disk.now in let b = c.read_first.new.src in
    left-ready g.D.Reads g.D.Disk a b (stands g a b c.read_first.ensures.only.standing) c.requires

pub redo_own-requires-clause-head : goal.redo_own-requires-clause-head
redo_own-requires-clause-head g c =
    let a = c.args.disk.now in let b = c.read_first.new.src in
    let sound = c.gate_of.ensures.live c.in-Live.is in
    let same = c.size.ensures.exact in
    record {
      sound = subst (λ n. IsLiveHead (take c.in_ok-count.count c.read_first.new.first) n) same sound;
      its = λ told.
          let S = (g.D.Disk.pair a).sidecar.reads in
          let size = g.met.D.Reads.told_size (g.D.Reads.standing a) 1 S (g.met.D.Disk.contents a told).1 in
          let len : c.size.result ≡ length S = same ∙ ap (λ s. (g.D.Reads.files s).size 1) c.read_first.ensures.only.standing ∙ sym size in
          let its = c.in_ok-count.ensures.ok S (g.met.D.Disk.contents a told).1 in
          subst (λ (p : Pair). (take c.in_ok-count.count c.read_first.new.first ≡ head_of p.sidecar.reads) × (state p.sidecar.reads ≡ Live)) (sym (g.met.D.Disk.pair_stands b a c.read_first.ensures.only.standing))
          (its, state-read S (take c.in_ok-count.count c.read_first.new.first) c.size.result Live its len (sym c.in-Live.is ∙ c.gate_of.ensures.exact));
    }

-- ---- a pending journal, after the read

pub returns-in-Live-clause-ok : goal.returns-in-Live-clause-ok
returns-in-Live-clause-ok g c = λ told.
    let a = c.args.disk.now in let b = c.read_first.new.src in
    subst (λ (p : Pair). IsRecovered p.media.reads p.sidecar.reads c.redo_own.result (g.D.Disk.pair c.redo_own.new.disk)) (g.met.D.Disk.pair_stands b a c.read_first.ensures.only.standing) (c.redo_own.ensures.ok told)

pub returns-in-Live-clause-any_moment : goal.returns-in-Live-clause-any_moment
returns-in-Live-clause-any_moment g c = λ told.
    let a = c.args.disk.now in let b = c.read_first.new.src in
    recovering-after g.D.Reads g.D.Disk a b (stands g a b c.read_first.ensures.only.standing) c.redo_own.new.disk (c.redo_own.ensures.any_moment told)

pub returns-in-Live-clause-only : goal.returns-in-Live-clause-only
returns-in-Live-clause-only g c =
    let a = c.args.disk.now in let b = c.read_first.new.src in let only = c.read_first.ensures.only in
    keeps-then g.D.Reads g.D.Disk a b c.redo_own.new.disk HEAD (KEPT + MAX_OCTETS) (left-keeps g.D.Reads g.D.Disk a b HEAD (stands g a b only.standing) only.octets c.read_first.ensures.octets) c.redo_own.ensures.only

pub returns-in-Live-clause-cause : goal.returns-in-Live-clause-cause
returns-in-Live-clause-cause g c =
    let a = c.args.disk.now in let b = c.read_first.new.src in
    cause-then g.D.Reads g.D.Disk is_disk_fault a b c.redo_own.new.disk c.redo_own.result
    (record { reading = c.in_ok-count.ensures.cause; writing = g.met.D.Disk.writing_stands b a c.read_first.ensures.only.standing }) c.redo_own.ensures.cause
