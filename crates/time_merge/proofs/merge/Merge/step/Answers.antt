use Rattle.std.proofs.Common.{◌≡◌, ◌≤◌, ◌<◌, ◌+◌, List, map, sym, ◌∙◌, ap, subst, arith, rules}
use Rattle.std.specs.List.{All}
use Rattle.mkv_io.specs.Faults.{counted}
use Rattle.mkv_io.specs.Sources.{live_files}
use Rattle.lanes.specs.Lane as lanes
use Rattle.time_merge.specs.Merge.{AreTold, damages_of, due_of, left_of, way_of}
use Rattle.time_merge.specs.Queues.{lane_kept}
use Rattle.time_merge.specs.declared.queue.Head.TheVariants.{Due}
use Rattle.time_merge.specs.declared.queue.Queue.{Queue}
use Rattle.time_merge.proofs.QueueLemmas.{all-ended, left-end}
use Rattle.time_merge.proofs.TakenLemmas.{taken-damages, taken-due, taken-here, taken-keeps, taken-left, taken-lends, taken-ready, taken-way}
use Rattle.time_merge.proofs.merge.Merge.step.Goals as goal

-- No output track has a block, so nothing is left.
pub returns-in_default-clause-gives : goal.returns-in_default-clause-gives
returns-in_default-clause-gives g c = λ told.
    let f = live_files g.R.Reads c.args.src.now in
    let same = c.in_ok-fill.ensures.left (subst (λ m. AreTold f m.queues) (sym c.self.view_is) told) in
    let none = left-end f c.fill.new.self c.in_ok-fill.ensures.stay.queues c.in_ok-fill.ensures.filled.known c.in_default.ensures.0 in
    record {
      blocks = (ap (λ m. left_of f m.queues) (sym c.self.view_is) ∙ sym same.left ∙ none, ap (left_of f) c.in_default.ensures.1 ∙ none);
      damages = ap (damages_of f) c.in_default.ensures.1 ∙ same.damages ∙ ap (λ m. damages_of f m.queues) c.self.view_is;
    }

pub returns-in_default-clause-moves : goal.returns-in_default-clause-moves
returns-in_default-clause-moves g c =
    let qs = c.fill.new.self in
    record {
      keeps = ap (λ (each : List Queue). map lane_kept each) c.in_default.ensures.1 ∙ c.in_ok-fill.ensures.stay.keeps ∙ ap (λ m. map lane_kept m.queues) c.self.view_is;
      given = search rules;
      steps = record {
        on = subst (λ (each : List Queue). way_of each ≤ way_of c.args.self.now.queues) (sym c.in_default.ensures.1) (subst (λ m. way_of qs ≤ way_of m.queues) c.self.view_is c.in_ok-fill.ensures.filled.on);
        ended = subst (All (λ (q : Queue). lanes.IsEnded q.lane)) (sym c.in_default.ensures.1) (all-ended qs c.in_ok-fill.ensures.stay.queues c.in_ok-fill.ensures.filled.known c.in_default.ensures.0);
      };
    }

-- The first block that was left is taken.
pub returns-clause-gives : goal.returns-clause-gives
returns-clause-gives g c = λ told.
    let f = live_files g.R.Reads c.args.src.now in
    let same = c.in_ok-fill.ensures.left (subst (λ m. AreTold f m.queues) (sym c.self.view_is) told) in
    let takes = c.in-Some.ensures in
    record {
      blocks = record {
        queue = record takes.queue { head = Due };
        here = taken-here c.fill.new.self c.take.new.self c.in-Some.k takes;
        gives = ap (λ m. left_of f m.queues) (sym c.self.view_is) ∙ sym same.left ∙ taken-left c.fill.new.self c.take.new.self c.in-Some.k takes f c.in_ok-fill.ensures.stay.queues c.in_ok-fill.ensures.filled.known;
      };
      damages = taken-damages c.fill.new.self c.take.new.self c.in-Some.k takes f ∙ same.damages ∙ ap (λ m. damages_of f m.queues) c.self.view_is;
    }

pub returns-clause-moves : goal.returns-clause-moves
returns-clause-moves g c =
    let qs = c.fill.new.self in
    let takes = c.in-Some.ensures in
    let on : way_of qs ≤ way_of c.args.self.now.queues = subst (λ m. way_of qs ≤ way_of m.queues) c.self.view_is c.in_ok-fill.ensures.filled.on in
    let less : way_of c.take.new.self < way_of qs = taken-way qs c.take.new.self c.in-Some.k takes in
    record {
      keeps = taken-keeps qs c.take.new.self c.in-Some.k takes ∙ c.in_ok-fill.ensures.stay.keeps ∙ ap (λ m. map lane_kept m.queues) c.self.view_is;
      given = c.saturating_add-self-inside.ensures ∙ ap (λ m. counted m.given 1) c.self.view_is;
      steps = record {
        queue = record takes.queue { head = Due };
        here = taken-here qs c.take.new.self c.in-Some.k takes;
        lends = taken-lends qs c.take.new.self c.in-Some.k takes c.in_ok-fill.ensures.stay.queues;
        on = omega (arith, on, less);
      };
    }

pub returns-clause-ready : goal.returns-clause-ready
returns-clause-ready g c = taken-ready c.fill.new.self c.take.new.self c.in-Some.k c.in-Some.ensures (live_files g.R.Reads c.fill.new.src) c.in_ok-fill.ensures.ready

-- Taking the block doesn't change the bytes that may still be read.
pub returns-clause-pays : goal.returns-clause-pays
returns-clause-pays g c =
    let f = live_files g.R.Reads c.args.src.now in
    let same : due_of f c.take.new.self ≡ due_of f c.fill.new.self = taken-due c.fill.new.self c.take.new.self c.in-Some.k c.in-Some.ensures f in
    let pays : g.R.Reads.octets_read c.fill.new.src + due_of f c.fill.new.self ≤ g.R.Reads.octets_read c.args.src.now + due_of f c.args.self.now.queues = subst (λ m. g.R.Reads.octets_read c.fill.new.src + due_of f c.fill.new.self ≤ g.R.Reads.octets_read c.args.src.now + due_of f m.queues) c.self.view_is c.in_ok-fill.ensures.pays in
    omega (arith, same, pays)
