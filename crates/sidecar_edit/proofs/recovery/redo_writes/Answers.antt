use Rattle.std.proofs.Common.{◌≡◌, ◌<◌, ◌≤◌, ◌∙◌, ap, refl, sym, subst, arith, length, List, ℕ, OnOk}
use Rattle.mkv_disk.specs.Moments.{LeavesOnly}
use Rattle.mkv_disk.specs.Pair.{Pair, both}
use Rattle.mkv_disk.proofs.MomentsLemmas.{followed, stays}
use Rattle.sidecar_edit.specs.Fields.{count_in, writes_in}
use Rattle.sidecar_edit.specs.Writes.{Fits, Torn, applied}
use Rattle.sidecar_edit.proofs.CopiesLemmas.{next_from, next_within, redone_all, redone_image, redone_more, redone_reaches, writes_by}
use Rattle.sidecar_edit.proofs.PartlyLemmas.{partly_end, partly_image, partly_start}
use Rattle.sidecar_edit.proofs.recovery.redo_writes.Goals as goal

pub loop-k-init : goal.loop-k-init
loop-k-init g c =
    let ws = writes_by c.args.head.now (g.D.Disk.pair c.args.disk.now).sidecar.reads in
    record {
      start = let len = c.head_len-from.ensures in omega (arith, len);
      partly = λ told. partly_start ws (g.D.Disk.pair c.args.disk.now) (c.requires.ready.at_rest told);
      moments = λ told. stays _ _ _ _ (λ m s left. partly_image ws 0 _ _ (g.D.Disk.pair c.args.disk.now)
          (partly_start ws (g.D.Disk.pair c.args.disk.now) (c.requires.ready.at_rest told)) m s (g.met.D.Disk.only_now c.args.disk.now m s told left));
      only = record { live = λ file. refl; opened = refl; least = omega arith; most = omega arith };
      beside = refl;
      faults = record { reading = refl; writing = refl };
    }

-- A turn belongs to a used place.
used : (k end count : ℕ) → k < end → end ≡ count → k < count
used k end count inside is = omega arith

pub copy-requires-clause-range : goal.copy-requires-clause-range
copy-requires-clause-range g c =
    let within = next_within c.args.head.now c.loop-k.k c.loop-k.from c.place_in-place.result c.requires.head.sound.few (used _ _ _ c.loop-k-test.true c.count_in-k-end.ensures) c.place_in-place.ensures c.loop-k.invariant.start in
    let room = c.requires.head.sound.room in let beside = c.loop-k.invariant.beside in
    omega (arith, within, room, beside)

pub copy-requires-clause-inside : goal.copy-requires-clause-inside
copy-requires-clause-inside g c = λ told.
    let M = (g.D.Disk.pair c.args.disk.now).media.reads in let S = (g.D.Disk.pair c.args.disk.now).sidecar.reads in
    redone_reaches c.args.head.now c.loop-k.k c.loop-k.from c.place_in-place.result c.requires.head.sound.few (used _ _ _ c.loop-k-test.true c.count_in-k-end.ensures) c.place_in-place.ensures c.loop-k.invariant.start
    M S (g.D.Disk.pair c.loop-k.disk) (c.loop-k.invariant.partly told)
    (subst (λ (h : List ℕ). Fits (length M) (writes_by h S)) (sym (c.requires.head.its told).0) (c.requires.fits told))

pub overflow_add-from : goal.overflow_add-from
overflow_add-from g c =
    let within = next_within c.args.head.now c.loop-k.k c.loop-k.from c.place_in-place.result c.requires.head.sound.few (used _ _ _ c.loop-k-test.true c.count_in-k-end.ensures) c.place_in-place.ensures c.loop-k.invariant.start in
    let room = c.requires.head.sound.room in let short = g.met.D.Reads.short c.args.disk.now 1 c.requires.ready.sidecar in
    omega (arith, within, room, short)

pub returns-in_err-copy-clause-any_moment : goal.returns-in_err-copy-clause-any_moment
returns-in_err-copy-clause-any_moment g c = λ told.
    let M = (g.D.Disk.pair c.args.disk.now).media.reads in let S = (g.D.Disk.pair c.args.disk.now).sidecar.reads in
    subst (λ (h : List ℕ). LeavesOnly g.D.Disk.moment g.D.Disk.left_since c.args.disk.now c.copy.new.disk (λ m s. Torn (writes_by h S) M m × (s ≡ S))) (c.requires.head.its told).0
    (followed _ _ _ _ _ _ _ (λ m s image. redone_image c.args.head.now c.loop-k.k c.loop-k.from c.place_in-place.result c.requires.head.sound.few (used _ _ _ c.loop-k-test.true c.count_in-k-end.ensures) c.place_in-place.ensures c.loop-k.invariant.start
    M S (g.D.Disk.pair c.loop-k.disk) (c.loop-k.invariant.partly told) m s image) (c.loop-k.invariant.moments told) (c.copy.ensures.any_moment told))

pub returns-in_err-copy-clause-only : goal.returns-in_err-copy-clause-only
returns-in_err-copy-clause-only g c =
    let within = next_within c.args.head.now c.loop-k.k c.loop-k.from c.place_in-place.result c.requires.head.sound.few (used _ _ _ c.loop-k-test.true c.count_in-k-end.ensures) c.place_in-place.ensures c.loop-k.invariant.start in
    let small = c.requires.head.sound.small in let start = c.loop-k.invariant.start in
    let was = c.loop-k.invariant.only in let now = c.copy.ensures.only in let before = was.most in let more = now.most in let least = was.least in let rises = now.least in
    record {
      live = λ file. now.live file ∙ was.live file;
      opened = now.opened ∙ was.opened;
      least = omega arith;
      most = omega (arith, within, small, before, start, more);
    }

pub loop-k-preserved : goal.loop-k-preserved
loop-k-preserved g c =
    let M = (g.D.Disk.pair c.args.disk.now).media.reads in let S = (g.D.Disk.pair c.args.disk.now).sidecar.reads in
    let was = c.loop-k.invariant in let now = c.copy.ensures in
    let next = next_from c.args.head.now c.loop-k.k c.loop-k.from c.place_in-place.result c.requires.head.sound.few (used _ _ _ c.loop-k-test.true c.count_in-k-end.ensures) c.place_in-place.ensures was.start in
    record {
      start = next;
      partly = λ told. redone_more c.args.head.now c.loop-k.k c.loop-k.from c.place_in-place.result c.requires.head.sound.few (used _ _ _ c.loop-k-test.true c.count_in-k-end.ensures) c.place_in-place.ensures was.start
          M S (g.D.Disk.pair c.loop-k.disk) (was.partly told) (g.D.Disk.pair c.copy.new.disk) (c.in_ok-copy.ensures.ok told);
      moments = λ told. followed _ _ _ _ _ _ _ (λ m s image. redone_image c.args.head.now c.loop-k.k c.loop-k.from c.place_in-place.result c.requires.head.sound.few (used _ _ _ c.loop-k-test.true c.count_in-k-end.ensures) c.place_in-place.ensures was.start
          M S (g.D.Disk.pair c.loop-k.disk) (was.partly told) m s image) (was.moments told) (now.any_moment told);
      only = record {
        live = λ file. now.only.live file ∙ was.only.live file;
        opened = now.only.opened ∙ was.only.opened;
        least = let more = now.only.least in let before = was.only.least in omega arith;
        most = let more = now.only.most in let before = was.only.most in let start = was.start in omega (arith, next, more, before, start);
      };
      beside = now.beside ∙ was.beside;
      faults = record { reading = c.in_ok-copy.ensures.cause.reading ∙ was.faults.reading; writing = c.in_ok-copy.ensures.cause.writing ∙ was.faults.writing };
    }

pub returns-clause-ok : goal.returns-clause-ok
returns-clause-ok g c = λ told.
    let M = (g.D.Disk.pair c.args.disk.now).media.reads in let S = (g.D.Disk.pair c.args.disk.now).sidecar.reads in
    let past : count_in c.args.head.now ≤ c.loop-k.k = let end = c.loop-k-test.false in let count = c.count_in-k-end.ensures in omega (arith, end, count) in
    let end = partly_end (writes_by c.args.head.now S) c.loop-k.k M S (g.D.Disk.pair c.loop-k.disk) (c.loop-k.invariant.partly told) (redone_all c.args.head.now S c.loop-k.k c.requires.head.sound.few past) in
    let all : both (applied M (writes_by c.args.head.now S)) S ≡ both (applied M (writes_in S)) S = ap (λ (h : List ℕ). both (applied M (writes_by h S)) S) (c.requires.head.its told).0 in
    subst (λ (q : Pair). OnOk c.sync.result (g.D.Disk.pair c.sync.new.self ≡ q)) (end ∙ all) (c.sync.ensures.ok told)

pub returns-clause-any_moment : goal.returns-clause-any_moment
returns-clause-any_moment g c = λ told.
    let M = (g.D.Disk.pair c.args.disk.now).media.reads in let S = (g.D.Disk.pair c.args.disk.now).sidecar.reads in
    subst (λ (h : List ℕ). LeavesOnly g.D.Disk.moment g.D.Disk.left_since c.args.disk.now c.sync.new.self (λ m s. Torn (writes_by h S) M m × (s ≡ S))) (c.requires.head.its told).0
    (followed _ _ _ _ _ _ _ (λ m s image. partly_image (writes_by c.args.head.now S) c.loop-k.k M S (g.D.Disk.pair c.loop-k.disk) (c.loop-k.invariant.partly told) m s image) (c.loop-k.invariant.moments told) (c.sync.ensures.any_moment told))
