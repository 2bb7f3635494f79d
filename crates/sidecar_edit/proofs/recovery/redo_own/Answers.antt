use Rattle.std.proofs.Common.{◌≡◌, ◌∙◌, ◌+◌, arith, Bool, false, MatchBool, Option, None, IfSome, Ok, List, [], ◌∷◌, ℕ, ap, sym, subst, inl, length, take}
use Rattle.mkv_disk.specs.Pair.{Pair, both}
use Rattle.mkv_disk.specs.Writing.{HasDiskCause, HasNoFault, HasOneFault}
use Rattle.mkv_disk.proofs.WritingLemmas.{IsLeft, keeps-then, left-keeps, left-ready, none-then, one-then}
use Rattle.sidecar_edit.specs.declared.held.Gate.TheVariants.{Live}
use Rattle.sidecar_edit.specs.declared.outcome.Recovered.TheVariants.{Applied}
use Rattle.sidecar_edit.specs.declared.outcome.RecoverEnd.{RecoverEnd}
use Rattle.sidecar_edit.specs.declared.place.TheConstants.{KEPT, MAX_OCTETS}
use Rattle.sidecar_edit.specs.Fields.{head_of}
use Rattle.sidecar_edit.specs.Gate.{state}
use Rattle.sidecar_edit.specs.Recovery.{is_disk_fault, recovered, recovery, unfit, applied_unless}
use Rattle.sidecar_edit.proofs.RecoverLemmas.{fault-told, left-head, recovered-refused, recovering-reads, recovery-live, redoing-after}
use Rattle.sidecar_edit.proofs.recovery.redo_own.Given.{Over}
use Rattle.sidecar_edit.proofs.recovery.redo_own.Goals as goal

-- A read leaves the state.
stands : (g : Over) (old new : g.row.D.Denot) → g.D.Reads.standing new ≡ g.D.Reads.standing old → IsLeft g.D.Reads g.D.Disk old new
stands g old new same = record {
  standing = same;
  pair = g.met.D.Disk.pair_stands new old same;
  moment = g.met.D.Disk.moment_stands new old same;
  back = λ t m s. g.met.D.Disk.left_stands new old t m s same;
  forth = λ t m s. g.met.D.Disk.left_stands old new t m s (sym same);
  opened = g.met.D.Disk.opened_stands new old same;
  writing = g.met.D.Disk.writing_stands new old same;
}

-- ---- a read that fails, or shows that the writes don't fit

pub returns-in_err-end-clause-any_moment : goal.returns-in_err-end-clause-any_moment
returns-in_err-end-clause-any_moment g c = λ told.
    let a = c.args.disk.now in let b = c.unfit_medium.new.src in
    recovering-reads g.D.Reads g.D.Disk a b (stands g a b c.unfit_medium.ensures.only.standing) (c.requires.ready.at_rest told) (λ m s left. g.met.D.Disk.only_now a m s told left)

pub returns-in_err-end-clause-cause : goal.returns-in_err-end-clause-cause
returns-in_err-end-clause-cause g c =
    let a = c.args.disk.now in let b = c.unfit_medium.new.src in
    subst (λ (r : _). HasDiskCause g.D.Reads g.D.Disk is_disk_fault a b r) (sym (fault-told c.from_residual.result c.from_residual.ensures.1))
    (inl (c.in_err-end.ensures.cause, g.met.D.Disk.writing_stands b a c.unfit_medium.ensures.only.standing))

pub returns-in-Some-clause-ok : goal.returns-in-Some-clause-ok
returns-in-Some-clause-ok g c = λ told.
    let M = (g.D.Disk.pair c.args.disk.now).media.reads in let S = (g.D.Disk.pair c.args.disk.now).sidecar.reads in
    let is = c.in_ok-end.ensures.ok M (g.met.D.Disk.contents c.args.disk.now told).0 in
    recovered-refused M S c.in-Some.end (g.D.Disk.pair c.unfit_medium.new.src)
    (recovery-live M S c.args.head.now (c.requires.head.its told).0 (c.requires.head.its told).1 ∙ ap applied_unless (sym is ∙ c.in-Some.is))

pub returns-in-Some-clause-any_moment : goal.returns-in-Some-clause-any_moment
returns-in-Some-clause-any_moment g c = λ told.
    let a = c.args.disk.now in let b = c.unfit_medium.new.src in
    recovering-reads g.D.Reads g.D.Disk a b (stands g a b c.unfit_medium.ensures.only.standing) (c.requires.ready.at_rest told) (λ m s left. g.met.D.Disk.only_now a m s told left)

pub returns-in-Some-clause-only : goal.returns-in-Some-clause-only
returns-in-Some-clause-only g c =
    let only = c.unfit_medium.ensures.only in
    left-keeps g.D.Reads g.D.Disk c.args.disk.now c.unfit_medium.new.src (KEPT + MAX_OCTETS) (stands g c.args.disk.now c.unfit_medium.new.src only.standing) only.octets
    (let most = c.unfit_medium.ensures.octets in omega arith)

pub returns-in-Some-clause-cause : goal.returns-in-Some-clause-cause
returns-in-Some-clause-cause g c =
    let a = c.args.disk.now in let b = c.unfit_medium.new.src in
    let refused = subst (λ (o : Option RecoverEnd). IfSome o (λ end. is_disk_fault end ≡ false)) c.in-Some.is c.in_ok-end.ensures.refused in
    subst (λ (t : Bool). MatchBool t (HasOneFault g.D.Reads g.D.Disk a b) (HasNoFault g.D.Reads g.D.Disk a b)) (sym refused)
    (record { reading = c.in_ok-end.ensures.cause; writing = g.met.D.Disk.writing_stands b a c.unfit_medium.ensures.only.standing })

-- ---- an edit that is redone

-- The record belongs to the file.
applies : (old mid : Pair) → mid ≡ old → (head : List ℕ) (end : Option RecoverEnd) → (head ≡ head_of old.sidecar.reads) × (state old.sidecar.reads ≡ Live)
    → end ≡ unfit head (length old.media.reads) (take KEPT old.media.reads) → end ≡ None → recovery mid.media.reads mid.sidecar.reads ≡ Ok Applied
applies old mid same head end its is none =
    subst (λ (p : Pair). recovery p.media.reads p.sidecar.reads ≡ Ok Applied) (sym same) (recovery-live old.media.reads old.sidecar.reads head its.0 its.1 ∙ ap applied_unless (sym is ∙ none))

pub redo-requires-clause-ready : goal.redo-requires-clause-ready
redo-requires-clause-ready g c =
    let a = c.args.disk.now in let b = c.unfit_medium.new.src in
    left-ready g.D.Reads g.D.Disk a b (stands g a b c.unfit_medium.ensures.only.standing) c.requires.ready

pub redo-requires-clause-head : goal.redo-requires-clause-head
redo-requires-clause-head g c =
    let a = c.args.disk.now in let b = c.unfit_medium.new.src in
    left-head g.D.Reads g.D.Disk a b (stands g a b c.unfit_medium.ensures.only.standing) c.args.head.now c.requires.head

pub redo-requires-clause-own : goal.redo-requires-clause-own
redo-requires-clause-own g c = λ told.
    let a = c.args.disk.now in let b = c.unfit_medium.new.src in let left = stands g a b c.unfit_medium.ensures.only.standing in
    applies (g.D.Disk.pair a) (g.D.Disk.pair b) left.pair c.args.head.now _ (c.requires.head.its told) (c.in_ok-end.ensures.ok (g.D.Disk.pair a).media.reads (g.met.D.Disk.contents a told).0) c.in_default.is

pub returns-in_err-redo-clause-any_moment : goal.returns-in_err-redo-clause-any_moment
returns-in_err-redo-clause-any_moment g c = λ told.
    let a = c.args.disk.now in let b = c.unfit_medium.new.src in let left = stands g a b c.unfit_medium.ensures.only.standing in
    redoing-after g.D.Reads g.D.Disk a b left c.redo.new.disk
    (applies (g.D.Disk.pair a) (g.D.Disk.pair b) left.pair c.args.head.now _ (c.requires.head.its told) (c.in_ok-end.ensures.ok (g.D.Disk.pair a).media.reads (g.met.D.Disk.contents a told).0) c.in_default.is) (c.redo.ensures.any_moment told)

pub returns-in_err-redo-clause-only : goal.returns-in_err-redo-clause-only
returns-in_err-redo-clause-only g c =
    let only = c.unfit_medium.ensures.only in let a = c.args.disk.now in let b = c.unfit_medium.new.src in
    keeps-then g.D.Reads g.D.Disk a b c.redo.new.disk KEPT MAX_OCTETS (left-keeps g.D.Reads g.D.Disk a b KEPT (stands g a b only.standing) only.octets c.unfit_medium.ensures.octets) c.redo.ensures.only

pub returns-in_err-redo-clause-cause : goal.returns-in_err-redo-clause-cause
returns-in_err-redo-clause-cause g c =
    let a = c.args.disk.now in let b = c.unfit_medium.new.src in
    subst (λ (r : _). HasDiskCause g.D.Reads g.D.Disk is_disk_fault a c.redo.new.disk r) (sym (fault-told c.from_residual-in_err-redo.result c.from_residual-in_err-redo.ensures.1))
    (one-then g.D.Reads g.D.Disk a b c.redo.new.disk (record { reading = c.in_ok-end.ensures.cause; writing = g.met.D.Disk.writing_stands b a c.unfit_medium.ensures.only.standing }) c.in_err-redo.ensures.cause)

pub returns-clause-ok : goal.returns-clause-ok
returns-clause-ok g c = λ told.
    let a = c.args.disk.now in let b = c.unfit_medium.new.src in let left = stands g a b c.unfit_medium.ensures.only.standing in
    let M = (g.D.Disk.pair a).media.reads in let S = (g.D.Disk.pair a).sidecar.reads in
    let is = c.in_ok-end.ensures.ok M (g.met.D.Disk.contents a told).0 in (
      recovery-live M S c.args.head.now (c.requires.head.its told).0 (c.requires.head.its told).1 ∙ ap applied_unless (sym is ∙ c.in_default.is),
      c.in_ok-redo.ensures.ok told ∙ ap (λ (p : Pair). both (recovered p.media.reads p.sidecar.reads) (0 ∷ [])) left.pair,
    )

pub returns-clause-any_moment : goal.returns-clause-any_moment
returns-clause-any_moment g c = λ told.
    let a = c.args.disk.now in let b = c.unfit_medium.new.src in let left = stands g a b c.unfit_medium.ensures.only.standing in
    redoing-after g.D.Reads g.D.Disk a b left c.redo.new.disk
    (applies (g.D.Disk.pair a) (g.D.Disk.pair b) left.pair c.args.head.now _ (c.requires.head.its told) (c.in_ok-end.ensures.ok (g.D.Disk.pair a).media.reads (g.met.D.Disk.contents a told).0) c.in_default.is) (c.redo.ensures.any_moment told)

pub returns-clause-only : goal.returns-clause-only
returns-clause-only g c =
    let only = c.unfit_medium.ensures.only in let a = c.args.disk.now in let b = c.unfit_medium.new.src in
    keeps-then g.D.Reads g.D.Disk a b c.redo.new.disk KEPT MAX_OCTETS (left-keeps g.D.Reads g.D.Disk a b KEPT (stands g a b only.standing) only.octets c.unfit_medium.ensures.octets) c.redo.ensures.only

pub returns-clause-cause : goal.returns-clause-cause
returns-clause-cause g c =
    let a = c.args.disk.now in let b = c.unfit_medium.new.src in
    none-then g.D.Reads g.D.Disk a b c.redo.new.disk (record { reading = c.in_ok-end.ensures.cause; writing = g.met.D.Disk.writing_stands b a c.unfit_medium.ensures.only.standing }) c.in_ok-redo.ensures.cause
