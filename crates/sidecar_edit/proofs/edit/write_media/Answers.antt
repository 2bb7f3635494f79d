use Rattle.std.proofs.Common.{◌≡◌, ◌<◌, ◌∙◌, ap, refl, sym, subst, arith, List, ℕ, take, drop, length, get_or, OnOk, length-drop}
use Rattle.std.proofs.lemmas.List.{get_or_default}
use Rattle.mkv_disk.specs.Image.{written_at}
use Rattle.mkv_disk.specs.Pair.{Pair, IsPairImage, on}
use Rattle.mkv_disk.proofs.MomentsLemmas.{followed, stays}
use Rattle.sidecar_edit.specs.declared.place.Place.{Place}
use Rattle.sidecar_edit.specs.Fields.{no_place, sum_of, writes_of}
use Rattle.sidecar_edit.specs.Partly.{IsWritten}
use Rattle.sidecar_edit.proofs.PartlyLemmas.{all_turns, partly_end, partly_image, partly_start, turn_image, turn_reaches, turn_rest, turn_room, turn_state, written_once}
use Rattle.sidecar_edit.proofs.edit.write_media.Goals as goal

pub loop-place-init : goal.loop-place-init
loop-place-init g c = record {
  rest = c.payload-rest.ensures.same;
  partly = λ told. partly_start (writes_of c.args.plan.now) (g.D.Disk.pair c.args.disk.now) (c.requires.at_rest told);
  moments = λ told. stays _ _ _ _ (λ m s left. partly_image (writes_of c.args.plan.now) 0 _ _ (g.D.Disk.pair c.args.disk.now)
      (partly_start (writes_of c.args.plan.now) (g.D.Disk.pair c.args.disk.now) (c.requires.at_rest told)) m s (g.met.D.Disk.only_now c.args.disk.now m s told left));
  only = record { live = λ file. refl; opened = refl; reading = refl; octets = refl; writing = omega arith };
  faults = refl;
}

-- The place of a turn is the plan's.
inside_is : (items ps : List Place) (i : ℕ) → items ≡ ps → i < length items → i < length ps
inside_is items ps i same inside = let size = ap length same in omega arith

place_is : (items ps : List Place) (i : ℕ) → items ≡ ps → i < length items → get_or items i no_place ≡ get_or ps i (get_or items i no_place)
place_is items ps i same inside = ap (λ (qs : List Place). get_or qs i no_place) same ∙ get_or_default ps i no_place (get_or items i no_place) (inside_is items ps i same inside)

pub split_at-requires : goal.split_at-requires
split_at-requires g c =
    let items = c.places-place-items.result.now in let ps = c.args.plan.now.head.places in let i = c.loop-place.place-index in
    let same = c.places-place-items.ensures in let inside = c.loop-place-test.true in
    let full = ap length (sym c.payload-rest.ensures.same) ∙ c.payload-rest.ensures.full in
    let room = turn_room ps c.args.plan.now.payload (g.D.Disk.pair c.args.disk.now).media.reads (g.D.Disk.pair c.args.disk.now).sidecar.reads (g.D.Disk.pair c.loop-place.disk) i (get_or items i no_place) (inside_is items ps i same inside) (place_is items ps i same inside) (omega (arith, full)) in
    let left = ap length c.loop-place.invariant.rest ∙ length-drop (sum_of (take i ps)) c.args.plan.now.payload in
    omega (arith, room, left)

pub write_at-requires-clause-inside : goal.write_at-requires-clause-inside
write_at-requires-clause-inside g c = λ told.
    let items = c.places-place-items.result.now in let ps = c.args.plan.now.head.places in let i = c.loop-place.place-index in
    let same = c.places-place-items.ensures in let inside = c.loop-place-test.true in
    turn_reaches ps c.args.plan.now.payload _ _ (g.D.Disk.pair c.loop-place.disk) i (get_or items i no_place) (inside_is items ps i same inside) (place_is items ps i same inside) (c.loop-place.invariant.partly told) (c.requires.fits told)

pub returns-in_err-write_at-clause-any_moment : goal.returns-in_err-write_at-clause-any_moment
returns-in_err-write_at-clause-any_moment g c = λ told.
    let items = c.places-place-items.result.now in let ps = c.args.plan.now.head.places in let i = c.loop-place.place-index in
    let same = c.places-place-items.ensures in let inside = c.loop-place-test.true in
    let p = g.D.Disk.pair c.loop-place.disk in let place = get_or items i no_place in
    let bytes = c.split_at.ensures.front ∙ ap (take place.len) c.loop-place.invariant.rest in
    followed _ _ _ _ _ _ _ (λ m s image. turn_image ps c.args.plan.now.payload _ _ p i place (inside_is items ps i same inside) (place_is items ps i same inside) m s (c.loop-place.invariant.partly told)
    (subst (λ (b : List ℕ). IsPairImage (on 0 (written_at place.at b) p) m s) bytes image)) (c.loop-place.invariant.moments told) (c.write_at.ensures.any_moment told)

pub loop-place-preserved : goal.loop-place-preserved
loop-place-preserved g c =
    let items = c.places-place-items.result.now in let ps = c.args.plan.now.head.places in let i = c.loop-place.place-index in
    let same = c.places-place-items.ensures in let inside = c.loop-place-test.true in
    let p = g.D.Disk.pair c.loop-place.disk in let place = get_or items i no_place in let payload = c.args.plan.now.payload in
    let bytes = c.split_at.ensures.front ∙ ap (take place.len) c.loop-place.invariant.rest in
    let was = c.loop-place.invariant.only in
    record {
      rest = c.split_at.ensures.back ∙ ap (drop place.len) c.loop-place.invariant.rest
          ∙ turn_rest ps payload (g.D.Disk.pair c.args.disk.now).media.reads (g.D.Disk.pair c.args.disk.now).sidecar.reads p i place (inside_is items ps i same inside) (place_is items ps i same inside);
      partly = λ told. turn_state ps payload _ _ p i place (inside_is items ps i same inside) (place_is items ps i same inside) _ (c.loop-place.invariant.partly told)
          (subst (λ (q : Pair). IsWritten place.at (take place.len (drop (sum_of (take i ps)) payload)) p q)
          (sym (c.in_ok-write_at.ensures.ok told ∙ ap (λ (b : List ℕ). on 0 (written_at place.at b) p) bytes)) (written_once place.at (take place.len (drop (sum_of (take i ps)) payload)) p));
      moments = λ told. followed _ _ _ _ _ _ _ (λ m s image. turn_image ps payload _ _ p i place (inside_is items ps i same inside) (place_is items ps i same inside) m s (c.loop-place.invariant.partly told)
          (subst (λ (b : List ℕ). IsPairImage (on 0 (written_at place.at b) p) m s) bytes image)) (c.loop-place.invariant.moments told) (c.write_at.ensures.any_moment told);
      only = record {
        live = λ file. c.write_at.ensures.others.live file ∙ was.live file;
        opened = c.write_at.ensures.opened ∙ was.opened;
        reading = c.write_at.ensures.unread.reading ∙ was.reading;
        octets = c.write_at.ensures.unread.octets ∙ was.octets;
        writing = let faults = c.in_ok-write_at.ensures.cause ∙ c.loop-place.invariant.faults in omega (arith, faults);
      };
      faults = c.in_ok-write_at.ensures.cause ∙ c.loop-place.invariant.faults;
    }

pub returns-clause-ok : goal.returns-clause-ok
returns-clause-ok g c = λ told.
    let ps = c.args.plan.now.head.places in let i = c.loop-place.place-index in
    let size = ap length c.places-place-items.ensures in
    let end = partly_end (writes_of c.args.plan.now) i _ _ (g.D.Disk.pair c.loop-place.disk) (c.loop-place.invariant.partly told) (all_turns ps c.args.plan.now.payload i (let past = c.loop-place-test.false in omega (arith, size, past))) in
    subst (λ (q : Pair). OnOk c.sync.result (g.D.Disk.pair c.sync.new.self ≡ q)) end (c.sync.ensures.ok told)
